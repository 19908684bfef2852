use Rattle.std.proofs.Common.{map}
use Rattle.fold_sparse.specs.declared.standing.Standing.TheVariants.{Unopened}
use Rattle.fold_sparse.proofs.Starting.{standing_next}
use Rattle.fold_sparse.proofs.search.unopened.Goals as goal

pub loop-look-preserved : goal.loop-look-preserved
loop-look-preserved c =
    standing_next c.args.looks.now c.loop-look._look-index c.loop-look.standing c.push.new.self (map (λ look. Unopened) c.args.looks.now) c.loop-look-test.true c.in_ok-push.ensures.ok c.loop-look.invariant
