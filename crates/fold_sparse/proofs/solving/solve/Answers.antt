use Rattle.std.proofs.Common.{◌∙◌, ◌<◌, ◌^◌, [], length, map, ap, sym, subst}
use Rattle.fold_facts.specs.declared.fact.Fact.TheVariants.{Unreached}
use Rattle.fold_facts.specs.Places.{blocks_of}
use Rattle.fold_facts.specs.OfFunction.{results_in, IsAssignmentIn}
use Rattle.fold_facts.proofs.Settling.{blank_fits}
use Rattle.fold_facts.proofs.Suiting.{few_results}
use Rattle.fold_facts.specs.Operands.{Setting}
use Rattle.fold_sparse.specs.declared.standing.Standing.TheVariants.{Unopened}
use Rattle.fold_sparse.specs.Planned.{IsPlan}
use Rattle.fold_sparse.specs.Solving.{IsSolving, Opens}
use Rattle.fold_sparse.proofs.Ending.{start_opened, start_left}
use Rattle.fold_sparse.proofs.Starting.{first_group, function_sound}
use Rattle.fold_sparse.proofs.solving.solve.Goals as goal

pub of-requires : goal.of-requires
of-requires g c = subst (λ bs. length (results_in bs) < 2 ^ 64) (sym c.blocks_of-blocks.ensures) (few_results c.args.f.now c.requires.sound)

pub open_all-requires-clause-fits : goal.open_all-requires-clause-fits
open_all-requires-clause-fits g c =
    subst (λ bs. IsAssignmentIn bs c.in_ok-search.search.a) (sym c.blocks_of-blocks.ensures)
    (subst (IsAssignmentIn (blocks_of c.args.f.now)) (sym c.in_ok-search.ensures.a) (blank_fits (blocks_of c.args.f.now) Unreached (λ ty. tt)))

pub run-requires-clause-sound : goal.run-requires-clause-sound
run-requires-clause-sound g c = function_sound c.args.f.now c.args.known.now c.requires.known c.requires.sound

pub run-requires-clause-solving : goal.run-requires-clause-solving
run-requires-clause-solving g c =
    let bs = blocks_of c.args.f.now in
    let setting : Setting = record { known = c.args.known.now } in
    let plan = subst (λ l. IsPlan l c.in_ok-plan.plan) c.blocks_of-blocks.ensures c.in_ok-plan.ensures in
    let opens = subst (λ l. Opens l c.in_ok-search.search.a c.in_ok-search.search.standing c.open_all.new.self.standing c.in_ok-search.search.queue c.open_all.new.self.queue c.group.result.now) c.blocks_of-blocks.ensures
    c.in_ok-open_all.ensures.opens in
    subst (λ a. IsSolving setting bs a c.open_all.new.self.standing c.open_all.new.self.queue [] []) (sym c.in_ok-open_all.ensures.a)
    (start_opened setting bs c.in_ok-search.search.a c.in_ok-search.search.standing c.open_all.new.self.standing c.in_ok-search.search.queue c.open_all.new.self.queue c.group.result.now
    c.in_ok-search.ensures.a (c.in_ok-search.ensures.standing ∙ ap (map (λ look. Unopened)) plan.looks) c.in_ok-search.ensures.queue (first_group c.args.f.now c.requires.sound c.in_ok-plan.plan.homes.lists.items c.group.result.now plan.homes c.group.ensures) opens)

pub returns-clause-bound : goal.returns-clause-bound
returns-clause-bound g c =
    let bs = blocks_of c.args.f.now in
    let plan = subst (λ l. IsPlan l c.in_ok-plan.plan) c.blocks_of-blocks.ensures c.in_ok-plan.ensures in
    let opens = subst (λ l. Opens l c.in_ok-search.search.a c.in_ok-search.search.standing c.open_all.new.self.standing c.in_ok-search.search.queue c.open_all.new.self.queue c.group.result.now) c.blocks_of-blocks.ensures
    c.in_ok-open_all.ensures.opens in
    start_left bs c.in_ok-search.search.a c.open_all.new.self.a c.in_ok-search.search.standing c.open_all.new.self.standing c.in_ok-search.search.queue c.open_all.new.self.queue c.group.result.now c.args.steps.now c.run.new.steps
    c.in_ok-search.ensures.a (c.in_ok-search.ensures.standing ∙ ap (map (λ look. Unopened)) plan.looks) c.in_ok-search.ensures.queue c.in_ok-open_all.ensures.a opens c.in_ok-run.ensures.steps
