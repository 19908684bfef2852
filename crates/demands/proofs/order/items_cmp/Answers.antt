use Rattle.std.proofs.Common.{◌≡◌, ◌≤◌, ◌<◌, ◌∙◌, sym, refl, ℕ, zero, suc, length, length-drop, drop, arith, List, [], ◌∷◌, Greater}
use Rattle.std.specs.Ordering.{nat_cmp}
use Rattle.std.proofs.lemmas.Bool.Decides.{nat_tests}
use Rattle.ir_types.specs.declared.scalar.Known.{Known}
use Rattle.demands.specs.Order.{pattern_order}
use Rattle.demands.proofs.order.items_cmp.Goals as goal

-- the second list is a front of the first
longer : (p q : List Known) → 0 < length p → length q ≡ 0 → pattern_order p q ≡ Greater
longer [] q h e = absurd (omega arith)
longer (x ∷ xs) [] h e = refl
longer (x ∷ xs) (y ∷ ys) h e = absurd (omega arith)

past : (a b : List Known) (k : ℕ) → k < length a → length b ≤ k → pattern_order (drop k a) (drop k b) ≡ Greater
past a b k h g = longer (drop k a) (drop k b) (omega (arith, length-drop k a)) (omega (arith, length-drop k b))

-- the first list is a front of the second
ended : (a b : List Known) (k : ℕ) → k ≡ length a → k ≤ length b → nat_cmp (length a) (length b) ≡ pattern_order (drop k a) (drop k b)
ended [] [] zero e g = refl
ended [] (y ∷ ys) zero e g = grind (arith, nat_tests)
ended [] b (suc k) e g = absurd (omega arith)
ended (x ∷ xs) b zero e g = absurd (omega arith)
ended (x ∷ xs) [] (suc k) e g = absurd (omega arith)
ended (x ∷ xs) (y ∷ ys) (suc k) e g =
    let same : nat_cmp (suc (length xs)) (suc (length ys)) ≡ nat_cmp (length xs) (length ys) = grind (arith, nat_tests) in
    same ∙ ended xs ys k (omega arith) (omega arith)

pub returns-then-k-b : goal.returns-then-k-b
returns-then-k-b c = sym (past c.args.a.now c.args.b.now c.loop-k.k (omega arith) (omega arith)) ∙ c.loop-k.invariant.0

pub returns : goal.returns
returns c = c.cmp.ensures ∙ ended c.args.a.now c.args.b.now c.loop-k.k (omega arith) (omega arith) ∙ c.loop-k.invariant.0
