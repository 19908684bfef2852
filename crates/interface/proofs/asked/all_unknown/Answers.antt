use Rattle.std.proofs.Common.{◌≡◌, ◌∙◌, ℕ, zero, suc, ◌≤◌, List, [], ◌∷◌, length, take, map, refl, ap, arith}
use Rattle.std.proofs.Math.ListN.{replicate}
use Rattle.std.proofs.lemmas.Result.{IfOk-weaker}
use Rattle.ir_types.specs.declared.scalar.Known.{Known}
use Rattle.ir_types.specs.declared.scalar.Known.TheVariants.{Unknown}
use Rattle.ir_syntax.specs.declared.item.Param.{Param}
use Rattle.interface.specs.Asked.{all_unknown}
use Rattle.interface.proofs.asked.all_unknown.Goals as goal

cut : (params : List Param) (n : ℕ) → length params ≤ n → take (length params) (replicate n Unknown) ≡ map (λ param. Unknown) params
cut [] n few = refl
cut (x ∷ xs) zero few = absurd (omega (arith, few))
cut (x ∷ xs) (suc n) few = ap (λ (ys : List Known). Unknown ∷ ys) (cut xs n (omega (arith, few)))

pub returns : goal.returns
returns c =
    IfOk-weaker c.new.result (λ (pattern : List Known). pattern ≡ take c.len.result (replicate 32 Unknown)) (λ pattern. pattern ≡ all_unknown c.args.func.now)
    (λ pattern e. e ∙ ap (λ n. take n (replicate 32 Unknown)) c.len.ensures ∙ cut c.args.func.now.params 32 c.requires.few) c.new.ensures
