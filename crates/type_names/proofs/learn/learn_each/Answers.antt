use Rattle.std.proofs.Common.{◌≡◌, ◌∙◌, ◌||◌, subst, suc, ◌+◌, ℕ, arith}
use Rattle.type_names.specs.Written.{named}
use Rattle.type_names.specs.Learning.{IsPassed, tried_at, adds_at}
use Rattle.type_names.proofs.Passing.{one_passed}
use Rattle.type_names.proofs.learn.learn_each.Goals as goal

pub loop-place-preserved : goal.loop-place-preserved
loop-place-preserved c =
    let types = named c.args.types.now in
    let before = c.args.scope.now.types in
    let now = c.loop-place.scope.types in
    let passed = one_passed types before now c.loop-place.place c.loop-place.added c.loop-place.invariant.passed in
    let next : suc c.loop-place.place ≡ c.loop-place.place + 1 = omega arith in
    let there : IsPassed types before (tried_at types c.loop-place.place now) (c.loop-place.place + 1) (c.loop-place.added || adds_at types c.loop-place.place now) =
    subst (λ (n : ℕ). IsPassed types before (tried_at types c.loop-place.place now) n (c.loop-place.added || adds_at types c.loop-place.place now)) next passed in
    record {
      passed = rw (c.in_ok-added.ensures.types, c.in_ok-added.ensures.added) there;
      symbols = c.in_ok-added.ensures.symbols ∙ c.loop-place.invariant.symbols;
    }
