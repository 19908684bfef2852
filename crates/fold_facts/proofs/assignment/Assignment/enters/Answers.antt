use Rattle.std.proofs.Common.{◌∙◌, ap, sym}
use Rattle.fold_facts.specs.Assigned.{enters}
use Rattle.fold_facts.proofs.Indexing.{none_entered}
use Rattle.fold_facts.proofs.assignment.Assignment.enters.Goals as goal

pub returns-in-Some : goal.returns-in-Some
returns-in-Some c = c.self.invariant.2.right c.args.from c.args.place c.in-Some.is_entered (sym c.in-Some.ensures) ∙ ap (λ a. enters a c.args.from c.args.place) c.self.view_is

pub returns-in-None : goal.returns-in-None
returns-in-None c =
    none_entered (record { facts = c.self.inside.facts; edges = c.self.inside.edges.items }) c.self.inside.entered c.args.from c.args.place c.self.invariant.2 (sym c.in-None.ensures)
    ∙ ap (λ a. enters a c.args.from c.args.place) c.self.view_is
