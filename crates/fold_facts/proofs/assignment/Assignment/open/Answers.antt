use Rattle.std.proofs.Common.{◌≡◌, ◌∙◌, false, Some, sym, ap, subst}
use Rattle.std.specs.Prelude.{slice_get}
use Rattle.fold_facts.specs.Assigned.{edges_from}
use Rattle.fold_facts.specs.Raising.{with_edge}
use Rattle.fold_facts.proofs.Flags.{opened_edges, opened_flags}
use Rattle.fold_facts.proofs.Indexing.{opened_indexed}
use Rattle.fold_facts.proofs.assignment.Assignment.open.Goals as goal

pub enter-requires : goal.enter-requires
enter-requires c =
    c.self.invariant.2.lists c.args.from c.args.k (record { to = c.args.to; reached = false })
    (subst (λ a. slice_get (edges_from a c.args.from) c.args.k ≡ Some (record { to = c.args.to; reached = false })) (sym c.self.view_is) c.requires)

pub invariant_of-self : goal.invariant_of-self
invariant_of-self c =
    let flags = opened_flags (record { facts = c.self.inside.facts; edges = c.self.inside.edges.items }) c.self.inside.reached c.set_flag.new.flags c.args.from c.args.k (record { to = c.args.to; reached = false }) c.index_mut.result.now c.set.new.self
    (subst (λ a. slice_get (edges_from a c.args.from) c.args.k ≡ Some (record { to = c.args.to; reached = false })) (sym c.self.view_is) c.requires)
    c.index_mut.ensures.value c.set.ensures (c.self.invariant.0, c.self.invariant.1) c.set_flag.ensures in (
      flags.0,
      flags.1,
      opened_indexed (record { facts = c.self.inside.facts; edges = c.self.inside.edges.items }) c.self.inside.entered c.enter.new.self c.args.from c.args.k (record { to = c.args.to; reached = false }) c.index_mut.result.now c.set.new.self
          (subst (λ a. slice_get (edges_from a c.args.from) c.args.k ≡ Some (record { to = c.args.to; reached = false })) (sym c.self.view_is) c.requires)
          c.index_mut.ensures.value c.set.ensures c.self.invariant.2 c.enter.ensures,
    )

pub returns : goal.returns
returns c =
    ap (λ es. record { facts = c.self.inside.facts; edges = es })
    (opened_edges (record { facts = c.self.inside.facts; edges = c.self.inside.edges.items }) c.args.from c.args.k (record { to = c.args.to; reached = false }) c.index_mut.result.now c.set.new.self
    (subst (λ a. slice_get (edges_from a c.args.from) c.args.k ≡ Some (record { to = c.args.to; reached = false })) (sym c.self.view_is) c.requires)
    c.index_mut.ensures.value c.set.ensures)
    ∙ ap (λ a. with_edge a c.args.from c.args.k c.args.to) c.self.view_is
