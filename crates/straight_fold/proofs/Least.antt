-- The facts of a straight block are the least closed ones.
use Rattle.std.proofs.Common.{◌≡◌, ℕ, zero, suc, ◌+◌, ◌<◌, List, [], ◌∷◌, ◌++◌, Option, Some, length, get_or, refl, ap, sym, subst, ◌∙◌, ⊎_elim, arith, append_assoc, length-append}
use Rattle.std.specs.Prelude.{slice_get}
use Rattle.std.proofs.lemmas.List.{append-nil, ext_get_or}
use Rattle.std.proofs.lemmas.Bool.{cases_order}
use Rattle.std.proofs.lemmas.Option.{slice_get_within, slice_get-get_or}
use Rattle.std.proofs.Math.ListN.{get_or-append}
use Rattle.std.proofs.Math.Seq.{get_or-append_seam}
use Rattle.ir_types.specs.declared.scalar.Known.{Known}
use Rattle.ir_types.specs.declared.scalar.BinOp.{BinOp}
use Rattle.ir_syntax.specs.declared.constant.Operand.{Operand}
use Rattle.ir_syntax.specs.declared.constant.Operand.TheVariants as operand
use Rattle.ir_syntax.specs.declared.body.Inst.{Inst}
use Rattle.ir_syntax.specs.declared.body.Inst.TheVariants as inst
use Rattle.ir_syntax.specs.declared.item.Item.{Item}
use Rattle.ir_syntax.specs.Straight.{IsWordOperand, IsStraightInst, AreStraight}
use Rattle.straight_plan.specs.declared.fact.Fact.{Fact}
use Rattle.straight_plan.specs.declared.fact.Fact.TheVariants.{Unreached, One, Varying}
use Rattle.straight_plan.specs.Folding.{IsBelow, IsLeastClosed, fact_at, fact_sum, known_sum, operand_fact, operation_fact, said}
use Rattle.straight_fold.specs.Facts.{facts_from, facts_of}

-- ---- the order of facts

pub IsBelow-refl : (a : Fact) → IsBelow a a
IsBelow-refl Unreached = tt
IsBelow-refl (One v) = refl
IsBelow-refl Varying = tt

IsBelow-same : (a b : Fact) → a ≡ b → IsBelow a b
IsBelow-same a b e = subst (IsBelow a) e (IsBelow-refl a)

IsBelow-varying : (a : Fact) → IsBelow a Varying
IsBelow-varying Unreached = tt
IsBelow-varying (One v) = tt
IsBelow-varying Varying = tt

IsBelow-trans : (a b c : Fact) → IsBelow a b → IsBelow b c → IsBelow a c
IsBelow-trans Unreached b c h g = tt
IsBelow-trans (One v) Unreached c h g = absurd h
IsBelow-trans (One v) (One w) Unreached h g = absurd g
IsBelow-trans (One v) (One w) (One x) h g = h ∙ g
IsBelow-trans (One v) (One w) Varying h g = tt
IsBelow-trans (One v) Varying Unreached h g = absurd g
IsBelow-trans (One v) Varying (One x) h g = absurd g
IsBelow-trans (One v) Varying Varying h g = tt
IsBelow-trans Varying Unreached c h g = absurd h
IsBelow-trans Varying (One w) c h g = absurd h
IsBelow-trans Varying Varying c h g = g

IsBelow-both : (a b : Fact) → IsBelow a b → IsBelow b a → a ≡ b
IsBelow-both Unreached Unreached h g = refl
IsBelow-both Unreached (One w) h g = absurd g
IsBelow-both Unreached Varying h g = absurd g
IsBelow-both (One v) Unreached h g = absurd h
IsBelow-both (One v) (One w) h g = ap One h
IsBelow-both (One v) Varying h g = absurd g
IsBelow-both Varying Unreached h g = absurd h
IsBelow-both Varying (One w) h g = absurd h
IsBelow-both Varying Varying h g = refl

-- ---- more of the operands, more of the result

sum-below : (a b c d : Fact) → IsBelow a b → IsBelow c d → IsBelow (fact_sum a c) (fact_sum b d)
sum-below Unreached b Unreached d h g = tt
sum-below Unreached b (One w) d h g = tt
sum-below Unreached b Varying Unreached h g = absurd g
sum-below Unreached b Varying (One x) h g = absurd g
sum-below Unreached Unreached Varying Varying h g = tt
sum-below Unreached (One v) Varying Varying h g = tt
sum-below Unreached Varying Varying Varying h g = tt
sum-below (One v) Unreached c d h g = absurd h
sum-below (One v) (One x) Unreached d h g = tt
sum-below (One v) (One x) (One w) Unreached h g = absurd g
sum-below (One v) (One x) (One w) (One y) h g = IsBelow-same (known_sum v w) (known_sum x y) (λ i. known_sum (h i) (g i))
sum-below (One v) (One x) (One w) Varying h g = IsBelow-varying (known_sum v w)
sum-below (One v) (One x) Varying Unreached h g = absurd g
sum-below (One v) (One x) Varying (One y) h g = absurd g
sum-below (One v) (One x) Varying Varying h g = tt
sum-below (One v) Varying c d h g = IsBelow-varying (fact_sum (One v) c)
sum-below Varying Unreached c d h g = absurd h
sum-below Varying (One w) c d h g = absurd h
sum-below Varying Varying c d h g = tt

-- the facts of the first n results are below the others
abbrev AreBelow : ℕ → List Fact → List Fact → Type 0
AreBelow n xs ys = (k : ℕ) → k < n → IsBelow (fact_at (slice_get xs k)) (fact_at (slice_get ys k))

operand-below : (pattern : List Known) (params n : ℕ) (xs ys : List Fact) (x : Operand) → AreBelow n xs ys → IsWordOperand params n x → IsBelow (operand_fact pattern xs x) (operand_fact pattern ys x)
operand-below pattern params n xs ys (operand.Param k) below w = IsBelow-refl (operand_fact pattern xs (operand.Param k))
operand-below pattern params n xs ys (operand.Reg k) below w = below k w
operand-below pattern params n xs ys (operand.Const c) below w = IsBelow-refl (operand_fact pattern xs (operand.Const c))

said-below : (items : List Item) (from params n : ℕ) (pattern : List Known) (xs ys : List Fact) (i : Inst) → AreBelow n xs ys → IsStraightInst items from params n i → IsBelow (said pattern xs i) (said pattern ys i)
said-below items from params n pattern xs ys (inst.Bin o flags ty a b) below s =
    subst (λ (p : BinOp). IsBelow (operation_fact p (operand_fact pattern xs a) (operand_fact pattern xs b)) (operation_fact p (operand_fact pattern ys a) (operand_fact pattern ys b))) (sym s.0)
    (sum-below (operand_fact pattern xs a) (operand_fact pattern ys a) (operand_fact pattern xs b) (operand_fact pattern ys b) (operand-below pattern params n xs ys a below s.3) (operand-below pattern params n xs ys b below s.4))
said-below items from params n pattern xs ys (inst.Icmp pred ty a b) below s = tt
said-below items from params n pattern xs ys (inst.Select ty c a b) below s = tt
said-below items from params n pattern xs ys (inst.Cast o nneg f to a) below s = tt
said-below items from params n pattern xs ys (inst.Alloca ty count align) below s = tt
said-below items from params n pattern xs ys (inst.Load ty at align) below s = tt
said-below items from params n pattern xs ys (inst.Store ty value at align) below s = tt
said-below items from params n pattern xs ys (inst.Gep inbounds ty base indices) below s = tt
said-below items from params n pattern xs ys (inst.Call fn_ty ret_ext callee args) below s = tt

-- ---- an instruction sees only what stands before it

get-front : (xs ys : List Fact) (k : ℕ) → k < length xs → slice_get (xs ++ ys) k ≡ slice_get xs k
get-front xs ys k within =
    slice_get-get_or (xs ++ ys) k Varying (omega (arith, length-append xs ys))
    ∙ ap Some (get_or-append xs ys Varying k within)
    ∙ sym (slice_get-get_or xs k Varying within)

get-seam : (xs : List Fact) (y : Fact) (ys : List Fact) → slice_get (xs ++ y ∷ ys) (length xs) ≡ Some y
get-seam xs y ys =
    slice_get-get_or (xs ++ y ∷ ys) (length xs) Varying (omega (arith, length-append xs (y ∷ ys)))
    ∙ ap Some (get_or-append_seam xs y ys Varying)

operand-front : (pattern : List Known) (params : ℕ) (xs ys : List Fact) (x : Operand) → IsWordOperand params (length xs) x → operand_fact pattern (xs ++ ys) x ≡ operand_fact pattern xs x
operand-front pattern params xs ys (operand.Param k) w = refl
operand-front pattern params xs ys (operand.Reg k) w = ap fact_at (get-front xs ys k w)
operand-front pattern params xs ys (operand.Const c) w = refl

said-front : (items : List Item) (from params : ℕ) (pattern : List Known) (xs ys : List Fact) (i : Inst) → IsStraightInst items from params (length xs) i → said pattern (xs ++ ys) i ≡ said pattern xs i
said-front items from params pattern xs ys (inst.Bin o flags ty a b) s =
    let one = operand-front pattern params xs ys a s.3 in
    let other = operand-front pattern params xs ys b s.4 in
    λ i. operation_fact o (one i) (other i)
said-front items from params pattern xs ys (inst.Icmp pred ty a b) s = refl
said-front items from params pattern xs ys (inst.Select ty c a b) s = refl
said-front items from params pattern xs ys (inst.Cast o nneg f to a) s = refl
said-front items from params pattern xs ys (inst.Alloca ty count align) s = refl
said-front items from params pattern xs ys (inst.Load ty at align) s = refl
said-front items from params pattern xs ys (inst.Store ty value at align) s = refl
said-front items from params pattern xs ys (inst.Gep inbounds ty base indices) s = refl
said-front items from params pattern xs ys (inst.Call fn_ty ret_ext callee args) s = refl

-- ---- the facts of a block

-- the facts so far stay, and each instruction adds one
record IsLonger (pattern : List Known) (before : List Fact) (insts : List Inst) : Type 0 where
  more : List Fact
  is : facts_from pattern before insts ≡ before ++ more
  long : length more ≡ length insts

longer : (pattern : List Known) (before : List Fact) (insts : List Inst) → IsLonger pattern before insts
longer pattern before [] = record { more = []; is = sym (append-nil before); long = refl }
longer pattern before (i ∷ is) =
    let fact = said pattern before i in
    let rest = longer pattern (before ++ fact ∷ []) is in
    record { more = fact ∷ rest.more; is = rest.is ∙ append_assoc before (fact ∷ []) rest.more; long = omega (arith, rest.long) }

heads : (i j : Inst) → Some i ≡ Some j → i ≡ j
heads i j e = cc

module _ (items : List Item) (from params : ℕ) (pattern : List Known) where
  pushed : (before : List Fact) (fact : Fact) (insts : List Inst) → AreStraight items from params (suc (length before)) insts → AreStraight items from params (length (before ++ fact ∷ [])) insts
  pushed before fact insts s =
      let long : suc (length before) ≡ length (before ++ fact ∷ []) = omega (arith, length-append before (fact ∷ [])) in
      subst (λ (n : ℕ). AreStraight items from params n insts) long s

  -- each fact is what its instruction says
  solved : (before : List Fact) (insts : List Inst) → AreStraight items from params (length before) insts → (k : ℕ) (i : Inst) → slice_get insts k ≡ Some i
      → said pattern (facts_from pattern before insts) i ≡ fact_at (slice_get (facts_from pattern before insts) (length before + k))
  solved before [] s k i e = absurd (omega (arith, slice_get_within [] k i e))
  solved before (j ∷ is) s zero i e =
      let fact = said pattern before j in
      let rest = longer pattern (before ++ fact ∷ []) is in
      let whole : facts_from pattern before (j ∷ is) ≡ before ++ (fact ∷ rest.more) = rest.is ∙ append_assoc before (fact ∷ []) rest.more in
      let at : length before ≡ length before + 0 = omega arith in
      ap (λ (x : Inst). said pattern (facts_from pattern before (j ∷ is)) x) (sym (heads j i e))
      ∙ ap (λ (facts : List Fact). said pattern facts j) whole
      ∙ said-front items from params pattern before (fact ∷ rest.more) j s.0
      ∙ ap fact_at (sym (get-seam before fact rest.more))
      ∙ (λ l. fact_at (slice_get (sym whole l) (at l)))
  solved before (j ∷ is) s (suc k) i e =
      let fact = said pattern before j in
      let at : length (before ++ fact ∷ []) + k ≡ length before + suc k = omega (arith, length-append before (fact ∷ [])) in
      solved (before ++ fact ∷ []) is (pushed before fact is s.1) k i e
      ∙ ap (λ (n : ℕ). fact_at (slice_get (facts_from pattern before (j ∷ is)) n)) at

  pushed-below : (others before : List Fact) (fact : Fact) → AreBelow (length before) before others → IsBelow fact (fact_at (slice_get others (length before))) → AreBelow (length (before ++ fact ∷ [])) (before ++ fact ∷ []) others
  pushed-below others before fact below last k within =
      ⊎_elim
      (λ same. let at : length before ≡ k = sym same in
      subst (λ (n : ℕ). IsBelow (fact_at (slice_get (before ++ fact ∷ []) n)) (fact_at (slice_get others n))) at
      (subst (λ (o : Option Fact). IsBelow (fact_at o) (fact_at (slice_get others (length before)))) (sym (get-seam before fact [])) last))
      (⊎_elim
      (λ less. subst (λ (o : Option Fact). IsBelow (fact_at o) (fact_at (slice_get others k))) (sym (get-front before (fact ∷ []) k less)) (below k less))
      (λ more. absurd (omega (arith, length-append before (fact ∷ [])))))
      (cases_order k (length before))

  -- they are below all closed ones
  least : (others before : List Fact) (insts : List Inst) → AreStraight items from params (length before) insts → AreBelow (length before) before others
      → ((k : ℕ) (i : Inst) → slice_get insts k ≡ Some i → IsBelow (said pattern others i) (fact_at (slice_get others (length before + k))))
      → AreBelow (length before + length insts) (facts_from pattern before insts) others
  least others before [] s below closed k within = below k (omega arith)
  least others before (j ∷ is) s below closed k within =
      let fact = said pattern before j in
      let start : length before + 0 ≡ length before = omega arith in
      let last : IsBelow fact (fact_at (slice_get others (length before))) =
      IsBelow-trans fact (said pattern others j) (fact_at (slice_get others (length before)))
      (said-below items from params (length before) pattern before others j below s.0)
      (subst (λ (n : ℕ). IsBelow (said pattern others j) (fact_at (slice_get others n))) start (closed 0 j refl)) in
      let long : length (before ++ fact ∷ []) ≡ length before + 1 = length-append before (fact ∷ []) in
      let later : (k : ℕ) (i : Inst) → slice_get is k ≡ Some i → IsBelow (said pattern others i) (fact_at (slice_get others (length (before ++ fact ∷ []) + k))) =
      λ k i e. let at : length before + suc k ≡ length (before ++ fact ∷ []) + k = omega (arith, long) in
      subst (λ (n : ℕ). IsBelow (said pattern others i) (fact_at (slice_get others n))) at (closed (suc k) i e) in
      least others (before ++ fact ∷ []) is (pushed before fact is s.1) (pushed-below others before fact below last) later k (omega (arith, long, within))

  pub least-closed : (insts : List Inst) → AreStraight items from params 0 insts → IsLeastClosed pattern insts (facts_of pattern insts)
  least-closed insts s =
      let rest = longer pattern [] insts in
      record {
        closed = record {
          each = ap length rest.is ∙ rest.long;
          closed = λ k i e. IsBelow-same (said pattern (facts_of pattern insts) i) (fact_at (slice_get (facts_of pattern insts) k))
              (solved [] insts s k i e ∙ ap (λ (n : ℕ). fact_at (slice_get (facts_of pattern insts) n)) (let at : 0 + k ≡ k = omega arith in at));
        };
        least = λ others closed k within.
            least others [] insts s (λ j below. absurd (omega arith))
            (λ j i e. let at : j ≡ 0 + j = omega arith in subst (λ (n : ℕ). IsBelow (said pattern others i) (fact_at (slice_get others n))) at (closed.closed j i e))
            k (omega arith);
      }

-- least closed facts are one list
same-fact : (xs : List Fact) (k : ℕ) → k < length xs → fact_at (slice_get xs k) ≡ get_or xs k Varying
same-fact xs k within = ap fact_at (slice_get-get_or xs k Varying within)

pub least-is-one : (pattern : List Known) (insts : List Inst) (xs ys : List Fact) → IsLeastClosed pattern insts xs → IsLeastClosed pattern insts ys → xs ≡ ys
least-is-one pattern insts xs ys one other =
    ext_get_or Varying xs ys (one.closed.each ∙ sym other.closed.each)
    (λ k within.
    let inside : k < length insts = omega (arith, one.closed.each) in
    let within_other : k < length ys = omega (arith, other.closed.each) in
    sym (same-fact xs k within)
    ∙ IsBelow-both (fact_at (slice_get xs k)) (fact_at (slice_get ys k)) (one.least ys other.closed k inside) (other.least xs one.closed k inside)
    ∙ same-fact ys k within_other)
