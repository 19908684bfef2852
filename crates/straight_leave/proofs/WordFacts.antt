-- What folding knows in straight functions: each fact is one number of 32 bits, or varies.
use Rattle.std.proofs.Common.{◌≡◌, ℕ, zero, suc, ◌+◌, ◌^◌, ◌<◌, ◌⊎◌, inl, inr, List, [], ◌∷◌, length, drop, Some, slice_get, refl, ap, sym, subst, arith}
use Rattle.std.specs.List.{AllZip, AllByRecursion}
use Rattle.std.proofs.lemmas.Bool.{cases_lt}
use Rattle.std.proofs.lemmas.Bool.Decides.{nat_tests}
use Rattle.ir_types.specs.declared.scalar.Known.{Known}
use Rattle.ir_types.specs.declared.scalar.Known.TheVariants.{Unknown, Num, Null}
use Rattle.ir_types.specs.declared.scalar.BinOp.{BinOp}
use Rattle.ir_syntax.specs.declared.constant.Const.{Const}
use Rattle.ir_syntax.specs.declared.constant.Const.TheVariants as const
use Rattle.ir_syntax.specs.declared.constant.Operand.{Operand}
use Rattle.ir_syntax.specs.declared.constant.Operand.TheVariants as operand
use Rattle.ir_syntax.specs.declared.body.Inst.{Inst}
use Rattle.ir_syntax.specs.declared.body.Inst.TheVariants as inst
use Rattle.ir_syntax.specs.declared.item.Param.{Param}
use Rattle.ir_syntax.specs.declared.item.Item.{Item}
use Rattle.ir_syntax.specs.Straight.{word_param, IsWord, IsWordOperand, IsStraightInst, AreStraight}
use Rattle.demands.specs.Demands.{IsKnownOf}
use Rattle.straight_plan.specs.declared.fact.Fact.{Fact}
use Rattle.straight_plan.specs.declared.fact.Fact.TheVariants.{Unreached, One, Varying}
use Rattle.straight_plan.specs.Folding.{IsBelow, known_fact, param_fact, fact_at, const_fact, operand_fact, fact_sum, operation_fact, said, IsClosed}

abbrev pub IsWordFact : Fact → Type 0
IsWordFact Unreached = ⊥
IsWordFact (One Unknown) = ⊥
IsWordFact (One (Num n)) = n < 2 ^ 32
IsWordFact (One Null) = ⊥
IsWordFact Varying = Unit {0}

above : (f g : Fact) → IsWordFact f → IsBelow f g → IsWordFact g
above Unreached g h b = absurd h
above (One Unknown) g h b = absurd h
above (One (Num n)) Unreached h b = absurd b
above (One (Num n)) (One w) h b = subst (λ (k : Known). IsWordFact (One k)) b h
above (One (Num n)) Varying h b = tt
above (One Null) g h b = absurd h
above Varying Unreached h b = absurd b
above Varying (One w) h b = absurd b
above Varying Varying h b = tt

sum_is : (f g : Fact) → IsWordFact f → IsWordFact g → IsWordFact (fact_sum f g)
sum_is Unreached g h w = absurd h
sum_is (One Unknown) g h w = absurd h
sum_is (One (Num x)) Unreached h w = absurd w
sum_is (One (Num x)) (One Unknown) h w = absurd w
sum_is (One (Num x)) (One (Num y)) h w = omega arith
sum_is (One (Num x)) (One Null) h w = absurd w
sum_is (One (Num x)) Varying h w = tt
sum_is (One Null) g h w = absurd h
sum_is Varying g h w = tt

const_is : (c : Const) → IsWord c → IsWordFact (const_fact c)
const_is (const.Int n) h = h
const_is const.Null h = absurd h
const_is (const.Addr place offset) h = absurd h
const_is const.Undef h = absurd h
const_is const.Poison h = absurd h
const_is const.Zero h = absurd h
const_is (const.Text bytes) h = absurd h
const_is (const.Many' shape parts) h = absurd h

known_is : (k : Known) → IsKnownOf word_param k → IsWordFact (known_fact k)
known_is Unknown h = tt
known_is (Num n) h = grind (arith, nat_tests)
known_is Null h = absurd (cc)

-- what is known of parameters of i32
pub params_are : (ps : List Param) (ks : List Known) → AllByRecursion (λ p. p ≡ word_param) ps → AllZip IsKnownOf ps ks → (j : ℕ) → IsWordFact (param_fact (slice_get ks j))
params_are [] [] all z j = tt
params_are [] (k ∷ ks) all z j = absurd z
params_are (p ∷ ps) [] all z j = absurd z
params_are (p ∷ ps) (k ∷ ks) all z zero = known_is k (subst (λ (q : Param). IsKnownOf q k) all.0 z.0)
params_are (p ∷ ps) (k ∷ ks) all z (suc j) = params_are ps ks all.1 z.1 j

-- ---- results

pub get_of_drop : {X : Type 0} (xs : List X) (k : ℕ) (x : X) (rest : List X) → drop k xs ≡ x ∷ rest → slice_get xs k ≡ Some x
get_of_drop [] zero x rest e = cc
get_of_drop [] (suc k) x rest e = cc
get_of_drop (y ∷ ys) zero x rest e = let same : y ≡ x = cc in ap (λ z. Some z) same
get_of_drop (y ∷ ys) (suc k) x rest e = get_of_drop ys k x rest e

pub drop_next : {X : Type 0} (xs : List X) (k : ℕ) (x : X) (rest : List X) → drop k xs ≡ x ∷ rest → drop (suc k) xs ≡ rest
drop_next [] zero x rest e = cc
drop_next [] (suc k) x rest e = cc
drop_next (y ∷ ys) zero x rest e = cc
drop_next (y ∷ ys) (suc k) x rest e = drop_next ys k x rest e

module _ (pattern : List Known) (facts : List Fact) (known : (j : ℕ) → IsWordFact (param_fact (slice_get pattern j))) where
  pub operand_is : (params results : ℕ) (x : Operand) → ((r : ℕ) → r < results → IsWordFact (fact_at (slice_get facts r))) → IsWordOperand params results x → IsWordFact (operand_fact pattern facts x)
  operand_is params results (operand.Param k) before h = known k
  operand_is params results (operand.Reg k) before h = before k h
  operand_is params results (operand.Const c) before h = const_is c h

  said_is : (items : List Item) (from params results : ℕ) (i : Inst) → ((r : ℕ) → r < results → IsWordFact (fact_at (slice_get facts r))) → IsStraightInst items from params results i
      → IsWordFact (said pattern facts i)
  said_is items from params results (inst.Bin op flags ty a b) before h =
      let sum = sum_is (operand_fact pattern facts a) (operand_fact pattern facts b) (operand_is params results a before h.3) (operand_is params results b before h.4) in
      subst (λ (o : BinOp). IsWordFact (operation_fact o (operand_fact pattern facts a) (operand_fact pattern facts b))) (sym h.0) sum
  said_is items from params results (inst.Icmp pred ty a b) before h = absurd h
  said_is items from params results (inst.Select ty cond a b) before h = absurd h
  said_is items from params results (inst.Cast op nneg from_ty to a) before h = absurd h
  said_is items from params results (inst.Alloca ty count align) before h = absurd h
  said_is items from params results (inst.Load ty at align) before h = absurd h
  said_is items from params results (inst.Store ty value at align) before h = absurd h
  said_is items from params results (inst.Gep inbounds ty base indices) before h = absurd h
  said_is items from params results (inst.Call fn_ty ret_ext callee args) before h = tt

  at_most : (r k : ℕ) → r < suc k → (r < k) ⊎ (r ≡ k)
  at_most r k h = elim (cases_lt r k) [ inl less ↦ inl less | inr more ↦ inr (omega arith) ]

  facts_from : (items : List Item) (from params : ℕ) (all : List Inst) → IsClosed pattern all facts → (k : ℕ) (more : List Inst) → drop k all ≡ more → AreStraight items from params k more
      → ((r : ℕ) → r < k → IsWordFact (fact_at (slice_get facts r))) → (r : ℕ) → r < k + length more → IsWordFact (fact_at (slice_get facts r))
  facts_from items from params all closed k [] e straight before r h = before r (omega arith)
  facts_from items from params all closed k (i ∷ is) e straight before r h =
      let here = above (said pattern facts i) (fact_at (slice_get facts k)) (said_is items from params k i before straight.0) (closed.closed k i (get_of_drop all k i is e)) in
      facts_from items from params all closed (suc k) is (drop_next all k i is e) straight.1
      (λ q less. elim (at_most q k less) [ inl before_k ↦ before q before_k | inr same ↦ subst (λ (n : ℕ). IsWordFact (fact_at (slice_get facts n))) (sym same) here ]) r (omega arith)

  pub facts_are : (items : List Item) (from params : ℕ) (all : List Inst) → IsClosed pattern all facts → AreStraight items from params 0 all → (r : ℕ) → r < length all → IsWordFact (fact_at (slice_get facts r))
  facts_are items from params all closed straight r h = facts_from items from params all closed 0 all refl straight (λ q less. absurd (omega arith)) r (omega arith)
