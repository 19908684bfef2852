use Rattle.std.proofs.Common.{◌∙◌, ap, sym}
use Rattle.std.specs.Prelude.{slice_get}
use Rattle.fold_facts.proofs.Lists.{within}
use Rattle.fold_sparse.specs.declared.standing.Standing.TheVariants.{Unopened}
use Rattle.fold_sparse.proofs.Places.{placed}
use Rattle.fold_sparse.proofs.Opening.{is_unopened_some, open_yes, open_inactive, open_opened, open_none}
use Rattle.fold_sparse.proofs.search.Search.open.Goals as goal

pub is_active-requires : goal.is_active-requires
is_active-requires c = placed c.args.blocks.now c.args.self.now.a c.args.l c.in-Some.look.now c.requires.fits (sym (ap (λ ls. slice_get ls c.args.l) c.requires.looks) ∙ sym c.in-Some.ensures.value)

pub enqueue-requires : goal.enqueue-requires
enqueue-requires c = within c.args.self.now.standing c.args.l Unopened (is_unopened_some (slice_get c.args.self.now.standing c.args.l) (sym c.if-not-is_unopened.ensures))

pub returns-then-not-is_active-clause-opens : goal.returns-then-not-is_active-clause-opens
returns-then-not-is_active-clause-opens c =
    open_inactive c.args.blocks.now c.args.self.now.a c.args.self.now.standing c.args.self.now.queue c.args.l c.in-Some.look.now
    (sym (ap (λ ls. slice_get ls c.args.l) c.requires.looks) ∙ sym c.in-Some.ensures.value) (sym c.if-not-is_active.ensures)

pub returns-then-not-is_unopened-clause-opens : goal.returns-then-not-is_unopened-clause-opens
returns-then-not-is_unopened-clause-opens c =
    open_opened c.args.blocks.now c.args.self.now.a c.args.self.now.standing c.args.self.now.queue c.args.l (sym c.if-not-is_unopened.ensures)

pub returns-in_ok-enqueue-in-Some-clause-opens : goal.returns-in_ok-enqueue-in-Some-clause-opens
returns-in_ok-enqueue-in-Some-clause-opens c =
    open_yes c.args.blocks.now c.args.self.now.a c.args.self.now.standing c.enqueue.new.self.standing c.args.self.now.queue c.enqueue.new.self.queue c.args.l c.in-Some.look.now
    (sym (ap (λ ls. slice_get ls c.args.l) c.requires.looks) ∙ sym c.in-Some.ensures.value) (sym c.if-not-is_active.ensures) (sym c.if-not-is_unopened.ensures) c.in_ok-enqueue-in-Some.ensures.standing c.in_ok-enqueue-in-Some.ensures.queue

pub returns-in-None-clause-opens : goal.returns-in-None-clause-opens
returns-in-None-clause-opens c =
    open_none c.args.blocks.now c.args.self.now.a c.args.self.now.standing c.args.self.now.queue c.args.l (sym (ap (λ ls. slice_get ls c.args.l) c.requires.looks) ∙ sym c.in-None.ensures.value)
