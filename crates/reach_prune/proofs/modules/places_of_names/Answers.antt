use Rattle.std.proofs.Common.{take, subst}
use Rattle.std.proofs.lemmas.List.{take_all}
use Rattle.reach_prune.specs.Mirrors.Places.{ArePlaced}
use Rattle.reach_prune.proofs.Noting.{placed_next}
use Rattle.reach_prune.proofs.modules.places_of_names.Goals as goal

pub loop-place-preserved : goal.loop-place-preserved
loop-place-preserved c = placed_next c.args.names.now c.loop-place.place c.index-names-place.result c.loop-place.places c.put.new.self c.loop-place-test.true c.index-names-place.is c.requires.short c.loop-place.invariant c.in_ok-put.ensures

pub returns : goal.returns
returns c = subst (λ l. ArePlaced l c.loop-place.places) (take_all c.loop-place.place c.args.names.now c.loop-place-test.false) c.loop-place.invariant
