-- How many instructions stay before one of them.
use Rattle.std.proofs.Common.{◌≡◌, ◌∙◌, ℕ, zero, suc, ◌+◌, ◌<◌, ◌≤◌, Bool, true, false, List, [], ◌∷◌, length, Some, slice_get, refl, ap, subst, arith, if◌then◌else◌}
use Rattle.ir_types.specs.declared.scalar.Known.{Known}
use Rattle.ir_syntax.specs.declared.body.Inst.{Inst}
use Rattle.ir_syntax.specs.declared.body.Inst.TheVariants as inst
use Rattle.straight_plan.specs.declared.fact.Fact.{Fact}
use Rattle.straight_plan.specs.declared.fact.Fact.TheVariants.{Varying}
use Rattle.straight_plan.specs.Folding.{fact_at}
use Rattle.straight_plan.specs.Residual.{stays, stay_count, residual_from, put_inst}

varying_stays : (i : Inst) → stays Varying i ≡ true
varying_stays (inst.Bin op flags ty a b) = refl
varying_stays (inst.Icmp pred ty a b) = refl
varying_stays (inst.Select ty cond a b) = refl
varying_stays (inst.Cast op nneg from to a) = refl
varying_stays (inst.Alloca ty count align) = refl
varying_stays (inst.Load ty at align) = refl
varying_stays (inst.Store ty value at align) = refl
varying_stays (inst.Gep inbounds ty base indices) = refl
varying_stays (inst.Call fn_ty ret_ext callee args) = refl

-- a result that varies stays, so those behind it have greater numbers
stay_less_from : (facts : List Fact) (k r n at : ℕ) (is : List Inst) → at ≡ k + r → r < n → r < length is → fact_at (slice_get facts at) ≡ Varying → stay_count facts k r is < stay_count facts k n is
stay_less_from facts k r n at [] e less within varying = absurd (omega arith)
stay_less_from facts k r zero at (i ∷ is) e less within varying = absurd (omega arith)
stay_less_from facts k zero (suc n) at (i ∷ is) e less within varying =
    let here : at ≡ k = omega arith in
    let stay : stays (fact_at (slice_get facts k)) i ≡ true = subst (λ (q : ℕ). stays (fact_at (slice_get facts q)) i ≡ true) here (ap (λ f. stays f i) varying ∙ varying_stays i) in
    let one : ◌≡◌ {A = ℕ} (if stays (fact_at (slice_get facts k)) i then 1 else 0) 1 = ap (λ b. if b then 1 else 0) stay in
    omega (arith, one)
stay_less_from facts k (suc r) (suc n) at (i ∷ is) e less within varying =
    let rest = stay_less_from facts (suc k) r n at is (omega arith) (omega arith) (omega arith) varying in
    omega (arith, rest)

pub stay_less : (facts : List Fact) (r n : ℕ) (is : List Inst) → r < n → r < length is → fact_at (slice_get facts r) ≡ Varying → stay_count facts 0 r is < stay_count facts 0 n is
stay_less facts r n is less within varying = stay_less_from facts 0 r n r is (omega arith) less within varying

stay_next_from : (facts : List Fact) (k n at : ℕ) (is : List Inst) (i : Inst) → at ≡ k + n → slice_get is n ≡ Some i
    → stay_count facts k (suc n) is ≡ stay_count facts k n is + (if stays (fact_at (slice_get facts at)) i then 1 else 0)
stay_next_from facts k n at [] i e h = absurd (none_is h)
  where
    none_is : {X : Type 0} {x : X} → slice_get [] n ≡ Some x → ⊥
    none_is g = cc
stay_next_from facts k zero at (j ∷ js) i e h =
    let same : j ≡ i = cc in
    let here : k ≡ at = omega arith in
    let one : ◌≡◌ {A = ℕ} (if stays (fact_at (slice_get facts k)) j then 1 else 0) (if stays (fact_at (slice_get facts at)) i then 1 else 0) =
    λ q. if stays (fact_at (slice_get facts (here q))) (same q) then 1 else 0 in
    omega (arith, one)
stay_next_from facts k (suc n) at (j ∷ js) i e h =
    let rest = stay_next_from facts (suc k) n at js i (omega arith) h in
    omega (arith, rest)

pub stay_next : (facts : List Fact) (n : ℕ) (is : List Inst) (i : Inst) → slice_get is n ≡ Some i → stay_count facts 0 (suc n) is ≡ stay_count facts 0 n is + (if stays (fact_at (slice_get facts n)) i then 1 else 0)
stay_next facts n is i h = stay_next_from facts 0 n n is i (omega arith) h

-- all of them, and no more than there were
pub stay_all : (pattern : List Known) (facts : List Fact) (k : ℕ) (is : List Inst) → stay_count facts k (length is) is ≡ length (residual_from pattern facts k is)
stay_all pattern facts k [] = refl
stay_all pattern facts k (i ∷ is) = by (stays (fact_at (slice_get facts k)) i) (stay_all pattern facts (suc k) is)
  where
    by : (b : Bool) → stay_count facts (suc k) (length is) is ≡ length (residual_from pattern facts (suc k) is)
        → (if b then 1 else 0) + stay_count facts (suc k) (length is) is ≡ length (if b then put_inst pattern facts i ∷ residual_from pattern facts (suc k) is else residual_from pattern facts (suc k) is)
    by true e = omega (arith, e)
    by false e = omega (arith, e)

pub residual_short : (pattern : List Known) (facts : List Fact) (k : ℕ) (is : List Inst) → length (residual_from pattern facts k is) ≤ length is
residual_short pattern facts k [] = omega arith
residual_short pattern facts k (i ∷ is) = by (stays (fact_at (slice_get facts k)) i) (residual_short pattern facts (suc k) is)
  where
    by : (b : Bool) → length (residual_from pattern facts (suc k) is) ≤ length is
        → length (if b then put_inst pattern facts i ∷ residual_from pattern facts (suc k) is else residual_from pattern facts (suc k) is) ≤ suc (length is)
    by true e = omega (arith, e)
    by false e = omega (arith, e)
