use Rattle.std.proofs.Common.{◌≡◌, ℕ, zero, suc, ◌≤◌, List, [], ◌∷◌, length, take, refl, ap, ◌∙◌, arith}
use Rattle.std.proofs.Math.ListN.{replicate}
use Rattle.std.proofs.lemmas.Result.{IfOk-weaker}
use Rattle.ir_types.specs.declared.scalar.Known.{Known}
use Rattle.ir_types.specs.declared.scalar.Known.TheVariants.{Unknown}
use Rattle.straight_plan.specs.Asked.{forgotten}
use Rattle.straight_fold.proofs.calls.forgotten.Goals as goal

cut : (known : List Known) (n : ℕ) → length known ≤ n → take (length known) (replicate n Unknown) ≡ forgotten known
cut [] n few = refl
cut (x ∷ xs) zero few = absurd (omega (arith, few))
cut (x ∷ xs) (suc n) few = ap (λ (ys : List Known). Unknown ∷ ys) (cut xs n (omega (arith, few)))

pub returns : goal.returns
returns c =
    IfOk-weaker c.new.result (λ (pattern : List Known). pattern ≡ take (length c.args.known.now) (replicate 32 Unknown)) (λ pattern. pattern ≡ forgotten c.args.known.now)
    (λ pattern e. e ∙ cut c.args.known.now 32 c.requires.few) c.new.ensures
