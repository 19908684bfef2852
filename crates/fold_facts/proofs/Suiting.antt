-- What the places of a sound function say is of the types of their results.
use Rattle.std.proofs.Common.{◌≡◌, ◌∙◌, ℕ, zero, suc, ◌<◌, ◌≤◌, ◌^◌, Bool, true, false, cond, List, [], ◌∷◌, Option, None, Some, length, map, get_or, refl, sym, ap, subst, arith, length-append}
use Rattle.std.specs.Prelude.{◌==◌, slice_get, IsTrue, IfSome, All, sum}
use Rattle.std.specs.List.{AllZip}
use Rattle.std.proofs.lemmas.List.Sums.{sum_by-cons}
use Rattle.std.proofs.lemmas.Option.{none-some, slice_get-get_or}
use Rattle.ir_types.specs.declared.scalar.Scalar.{Scalar}
use Rattle.ir_types.specs.declared.scalar.Scalar.TheVariants.{I1}
use Rattle.ir_types.specs.declared.scalar.Known.{Known}
use Rattle.ir_types.specs.declared.scalar.Known.TheVariants.{Unknown, Num, Null}
use Rattle.ir_types.specs.declared.scalar.BinOp.{BinOp}
use Rattle.ir_types.specs.declared.scalar.Flags.{Flags}
use Rattle.ir_types.specs.declared.scalar.Pred.{Pred}
use Rattle.ir_types.specs.declared.scalar.CastOp.{CastOp}
use Rattle.ir_types.specs.declared.scalar.CastOp.TheVariants.{Zext, Sext, Trunc}
use Rattle.ir_types.specs.declared.shape.Ty.TheBlock.{One as OneTy}
use Rattle.ir_types.specs.declared.shape.Ty.TheVariants.{outs-One}
use Rattle.ir_types.specs.Scalars.{is_number_of, width, IsInteger}
use Rattle.ir_types.proofs.ListSteps.{All-at}
use Rattle.int_ops.specs.declared.outcome.Outcome.{Outcome}
use Rattle.int_ops.specs.declared.outcome.Outcome.TheVariants as outcome
use Rattle.int_ops.specs.Binary.{bin_outcome}
use Rattle.int_ops.specs.Comparisons.{icmp_holds}
use Rattle.int_ops.specs.Casts.{cast_outcome}
use Rattle.int_ops.proofs.OfType.{bin_law, cast_law}
use Rattle.ir_syntax.specs.declared.constant.Const.{Const}
use Rattle.ir_syntax.specs.declared.constant.Const.TheVariants as const
use Rattle.ir_syntax.specs.declared.constant.Operand.{Operand}
use Rattle.ir_syntax.specs.declared.constant.Operand.TheVariants as operand
use Rattle.ir_syntax.specs.declared.body.Inst.{Inst}
use Rattle.ir_syntax.specs.declared.body.Inst.TheVariants as inst
use Rattle.ir_syntax.specs.declared.body.Phi.{Phi}
use Rattle.ir_syntax.specs.declared.body.Block.{Block}
use Rattle.ir_syntax.specs.declared.body.Body.{Body}
use Rattle.ir_syntax.specs.declared.item.Func.{Func}
use Rattle.ir_syntax.specs.declared.item.Item.{Item}
use Rattle.ir_syntax.specs.declared.item.Param.{Param}
use Rattle.ir_syntax.specs.FormedBody.{Places, IsOperand, FormedInst, FormedPhi, FormedBlock, FormedBody, places_of}
use Rattle.ir_syntax.specs.Results.{result_type, block_results, block_count}
use Rattle.ir_syntax.specs.SoundFunctions.{IsSoundFunction}
use Rattle.ir_syntax.specs.Suits.{Suits, takes_number, takes_address}
use Rattle.ir_syntax.specs.Typed.{Types, HasType, Widths, TypedInst, TypedPhi, TypedBlock, TypedBody}
use Rattle.ir_syntax.proofs.SuitLemmas.{suits-Int, suits-Null}
use Rattle.fold_facts.specs.declared.fact.Fact.{Fact}
use Rattle.fold_facts.specs.declared.fact.Fact.TheVariants.{Unreached, One, Varying}
use Rattle.fold_facts.specs.Facts.{join_all}
use Rattle.fold_facts.specs.Assigned.{Assigned, fact_of, enters}
use Rattle.fold_facts.specs.Operands.{Setting, operand_fact, const_fact, known_fact, param_fact}
use Rattle.fold_facts.specs.Arithmetic.{outcome_fact, bit_fact, holds_of_equals, bin_fact, icmp_fact, cast_fact}
use Rattle.fold_facts.specs.Instructions.{of_one, of_two, arm_fact, select_fact, inst_fact}
use Rattle.fold_facts.specs.Phis.{entry_fact, phi_fact}
use Rattle.fold_facts.specs.Places.{blocks_in, blocks_of}
use Rattle.fold_facts.specs.OfFunction.{is_value_of, IsFactOf, AreKnownOf, results_in}
use Rattle.fold_facts.specs.Raising.{SaysItsTypes}
use Rattle.fold_facts.proofs.Lists.{some_is}
use Rattle.fold_facts.proofs.Numbers.{types, types_some, types_none, phis_first}
use Rattle.fold_facts.proofs.Raised.{joined_suits}

-- ---- operands

-- A constant that suits a scalar type has a fact of it.
const_suits : (items : ℕ) (ty : Scalar) (c : Const) → Suits items (OneTy ty) c → IsFactOf ty (const_fact c)
const_suits items ty (const.Int n) h = sym (suits-Int items n (OneTy ty) ∙ ap (λ f. takes_number f n) (outs-One ty)) ∙ h
const_suits items ty const.Null h = sym (suits-Null items (OneTy ty) ∙ ap takes_address (outs-One ty)) ∙ h
const_suits items ty (const.Addr place offset) h = tt
const_suits items ty const.Undef h = tt
const_suits items ty const.Poison h = tt
const_suits items ty const.Zero h = tt
const_suits items ty (const.Text bytes) h = tt
const_suits items ty (const.Many' shape parts) h = tt

param_suits : (params : List Param) (known : List Known) → AllZip (λ param item. IsFactOf param.ty (known_fact item)) params known
    → (k : ℕ) (ty : Scalar) → slice_get (map (λ param. param.ty) params) k ≡ Some ty → IsFactOf ty (param_fact (slice_get known k))
param_suits [] known h k ty is = absurd (none-some ty is)
param_suits (p ∷ ps) [] h k ty is = absurd h
param_suits (p ∷ ps) (item ∷ items) h zero ty is = subst (λ t. IsFactOf t (known_fact item)) (some_is is) h.0
param_suits (p ∷ ps) (item ∷ items) h (suc k) ty is = param_suits ps items h.1 k ty is

fact_suits : (results : List Scalar) (facts : List Fact) → AllZip IsFactOf results facts → (k : ℕ) (ty : Scalar) → slice_get results k ≡ Some ty → IsFactOf ty (fact_of facts k)
fact_suits [] facts h k ty is = absurd (none-some ty is)
fact_suits (r ∷ rs) [] h k ty is = absurd h
fact_suits (r ∷ rs) (f ∷ fs) h zero ty is = subst (λ t. IsFactOf t f) (some_is is) h.0
fact_suits (r ∷ rs) (f ∷ fs) h (suc k) ty is = fact_suits rs fs h.1 k ty is

-- What operands are read with: parameters and results of these types.
pub record Read (types : Types) (setting : Setting) (facts : List Fact) : Type 0 where
  pub params : (k : ℕ) (ty : Scalar) → slice_get types.params k ≡ Some ty → IsFactOf ty (param_fact (slice_get setting.known k))
  pub results : AllZip IsFactOf types.results facts

operand_suits : (places : Places) (types : Types) (setting : Setting) (facts : List Fact) → Read types setting facts → (ty : Scalar) (o : Operand) → IsOperand places ty o → HasType types ty o → IsFactOf ty (operand_fact setting facts o)
operand_suits places types setting facts read ty (operand.Param k) h t = read.params k ty t
operand_suits places types setting facts read ty (operand.Reg k) h t = fact_suits types.results facts read.results k ty t
operand_suits places types setting facts read ty (operand.Const c) h t = const_suits (length places.items) ty c h

-- ---- operations

outcome_suits : (ty : Scalar) (o : Outcome) → ((n : ℕ) → o ≡ outcome.Num n → IsTrue (is_number_of ty n)) → IsFactOf ty (outcome_fact o)
outcome_suits ty (outcome.Num n) h = h n refl
outcome_suits ty outcome.Poison h = tt
outcome_suits ty (outcome.Undefined cause) h = tt

bin_suits : (op : BinOp) (flags : Flags) (ty : Scalar) (v w : Known) → IsTrue (is_value_of ty v) → IsTrue (is_value_of ty w) → IsFactOf ty (bin_fact op flags ty v w)
bin_suits op flags ty (Num a) (Num b) h g = outcome_suits ty (bin_outcome op flags ty a b) (λ n e. bin_law op flags ty a b n h g e)
bin_suits op flags ty (Num a) Unknown h g = tt
bin_suits op flags ty (Num a) Null h g = tt
bin_suits op flags ty Unknown w h g = tt
bin_suits op flags ty Null w h g = tt

bit_suits : (b : Bool) → IsFactOf I1 (bit_fact b)
bit_suits true = refl
bit_suits false = refl

icmp_suits : (pred : Pred) (ty : Scalar) (v w : Known) → IsFactOf I1 (icmp_fact pred ty v w)
icmp_suits pred ty (Num a) (Num b) = bit_suits (icmp_holds pred ty a b)
icmp_suits pred ty (Num a) Unknown = tt
icmp_suits pred ty (Num a) Null = tt
icmp_suits pred ty Null Null = bit_suits (holds_of_equals pred)
icmp_suits pred ty Null Unknown = tt
icmp_suits pred ty Null (Num b) = tt
icmp_suits pred ty Unknown w = tt

cast_suits : (op : CastOp) (nneg : Bool) (from to : Scalar) → IsInteger to → Widths op from to → (v : Known) → IsTrue (is_value_of from v) → IsFactOf to (cast_fact op nneg from to v)
cast_suits op nneg from to int wide (Num a) h = outcome_suits to (cast_outcome op nneg from to a) (λ n e. cast_law op nneg from to a n int (wider op from to wide) h e)
  where
    wider : (op : CastOp) (from to : Scalar) → Widths op from to → op ≡ Zext → width from < width to
    wider Zext from to h e = h
    wider Sext from to h e = h
    wider Trunc from to h e = absurd (cc)
cast_suits op nneg from to int wide Unknown h = tt
cast_suits op nneg from to int wide Null h = tt

one_suits : (value : Known → Fact) (ty to : Scalar) → ((v : Known) → IsTrue (is_value_of ty v) → IsFactOf to (value v)) → (x : Fact) → IsFactOf ty x → IsFactOf to (of_one value x)
one_suits value ty to h Unreached g = tt
one_suits value ty to h (One v) g = h v g
one_suits value ty to h Varying g = tt

two_suits : (value : Known → Known → Fact) (ty to : Scalar) → ((v w : Known) → IsTrue (is_value_of ty v) → IsTrue (is_value_of ty w) → IsFactOf to (value v w)) → (x y : Fact) → IsFactOf ty x → IsFactOf ty y → IsFactOf to (of_two value x y)
two_suits value ty to h Varying y p q = tt
two_suits value ty to h Unreached Unreached p q = tt
two_suits value ty to h Unreached (One w) p q = tt
two_suits value ty to h Unreached Varying p q = tt
two_suits value ty to h (One v) Unreached p q = tt
two_suits value ty to h (One v) (One w) p q = h v w p q
two_suits value ty to h (One v) Varying p q = tt

if_suits : (ty : Scalar) (b : Bool) (x y : Fact) → IsFactOf ty x → IsFactOf ty y → IsFactOf ty (cond b x y)
if_suits ty true x y p q = p
if_suits ty false x y p q = q

arm_suits : (ty : Scalar) (v : Known) (x y : Fact) → IsFactOf ty x → IsFactOf ty y → IsFactOf ty (arm_fact v x y)
arm_suits ty Unknown x y p q = tt
arm_suits ty (Num n) x y p q = if_suits ty (n == 0) y x q p
arm_suits ty Null x y p q = tt

select_suits : (ty : Scalar) (c x y : Fact) → IsFactOf ty x → IsFactOf ty y → IsFactOf ty (select_fact c x y)
select_suits ty Unreached x y p q = tt
select_suits ty (One v) x y p q = arm_suits ty v x y p q
select_suits ty Varying x y p q = tt

-- ---- instructions and phis

-- at the type of the result
at_type : (ty to : Scalar) (f : Fact) → Some ty ≡ Some to → IsFactOf ty f → IsFactOf to f
at_type ty to f e h = subst (λ t. IsFactOf t f) (some_is e) h

inst_suits : (places : Places) (types : Types) (setting : Setting) (facts : List Fact) → Read types setting facts → (i : Inst) (to : Scalar) → FormedInst places i → TypedInst types i → result_type i ≡ Some to → IsFactOf to (inst_fact setting facts i)
inst_suits places types setting facts read (inst.Bin op flags ty a b) to h t is =
    at_type ty to _ is (two_suits (bin_fact op flags ty) ty ty (bin_suits op flags ty) (operand_fact setting facts a) (operand_fact setting facts b)
    (operand_suits places types setting facts read ty a h.1 t.1) (operand_suits places types setting facts read ty b h.2 t.2))
inst_suits places types setting facts read (inst.Icmp pred ty a b) to h t is =
    at_type I1 to _ is (two_suits (icmp_fact pred ty) ty I1 (λ v w p q. icmp_suits pred ty v w) (operand_fact setting facts a) (operand_fact setting facts b)
    (operand_suits places types setting facts read ty a h.0 t.0) (operand_suits places types setting facts read ty b h.1 t.1))
inst_suits places types setting facts read (inst.Select ty c a b) to h t is =
    at_type ty to _ is (select_suits ty (operand_fact setting facts c) (operand_fact setting facts a) (operand_fact setting facts b)
    (operand_suits places types setting facts read ty a h.1 t.1) (operand_suits places types setting facts read ty b h.2 t.2))
inst_suits places types setting facts read (inst.Cast op nneg from into a) to h t is =
    at_type into to _ is (one_suits (cast_fact op nneg from into) from into (cast_suits op nneg from into t.1 t.2) (operand_fact setting facts a)
    (operand_suits places types setting facts read from a h.1 t.3))
inst_suits places types setting facts read (inst.Alloca ty count align) to h t is = tt
inst_suits places types setting facts read (inst.Load ty at align) to h t is = tt
inst_suits places types setting facts read (inst.Store ty value at align) to h t is = tt
inst_suits places types setting facts read (inst.Gep inbounds ty base indices) to h t is = tt
inst_suits places types setting facts read (inst.Call fn_ty ret_ext callee args) to h t is = tt

joins_suit : (ty : Scalar) (f : Operand × ℕ → Fact) (entries : List (Operand × ℕ)) → ((k : ℕ) (e : Operand × ℕ) → slice_get entries k ≡ Some e → IsFactOf ty (f e)) → IsFactOf ty (join_all (map f entries))
joins_suit ty f [] h = tt
joins_suit ty f (e ∷ es) h = joined_suits ty (f e) (join_all (map f es)) (h 0 e refl) (joins_suit ty f es (λ k. h (suc k)))

phi_suits : (places : Places) (types : Types) (setting : Setting) (a : Assigned) → Read types setting a.facts → (blocks : List Block) (at place : ℕ) (phi : Phi) → FormedPhi places phi → TypedPhi types blocks at phi → IsFactOf phi.ty (phi_fact setting a place phi)
phi_suits places types setting a read blocks at place phi h t =
    joins_suit phi.ty (entry_fact setting a place) phi.entries (λ k e is.
    if_suits phi.ty (enters a e.1 place) (operand_fact setting a.facts e.0) Unreached
    (operand_suits places types setting a.facts read phi.ty e.0 (All-at (λ entry. IsOperand places phi.ty entry.0) phi.entries k e h.has_operands is) (All-at (λ entry. HasType types phi.ty entry.0) phi.entries k e t.has_types is)) tt)

-- ---- functions

abbrev types_of : List Item → Func → List Block → Types
types_of items func blocks = record { items = items; params = map (λ param. param.ty) func.params; results = results_in blocks }

block_suits : (items : List Item) (func : Func) (known : List Known) (returns : Option Scalar) (places : Places) (blocks : List Block) (place : ℕ) (block : Block) → AreKnownOf func known
    → FormedBlock places block → TypedBlock (types_of items func blocks) returns blocks place block → SaysItsTypes (record { known = known }) (results_in blocks) block
block_suits items func known returns places blocks place block are h t = record {
  phis = λ a fits at k phi is. phi_suits places (types_of items func blocks) (record { known = known }) a (record { params = param_suits func.params known are; results = fits }) blocks place at phi
      (All-at (FormedPhi places) block.phis k phi h.phis is) (All-at (TypedPhi (types_of items func blocks) blocks place) block.phis k phi t.phis is);
  entries = λ facts fits k j phi entry is at.
      let formed = All-at (FormedPhi places) block.phis k phi h.phis is in
      let typed = All-at (TypedPhi (types_of items func blocks) blocks place) block.phis k phi t.phis is in
      operand_suits places (types_of items func blocks) (record { known = known }) facts (record { params = param_suits func.params known are; results = fits }) phi.ty entry.0
      (All-at (λ e. IsOperand places phi.ty e.0) phi.entries j entry formed.has_operands at) (All-at (λ e. HasType (types_of items func blocks) phi.ty e.0) phi.entries j entry typed.has_types at);
  insts = λ facts fits k i ty is typed. inst_suits places (types_of items func blocks) (record { known = known }) facts (record { params = param_suits func.params known are; results = fits }) i ty
      (All-at (FormedInst places) block.insts k i h.insts is) (All-at (TypedInst (types_of items func blocks)) block.insts k i t.insts is) typed;
}

-- each place of a sound function
pub places_suit : (func : Func) (known : List Known) → AreKnownOf func known → IsSoundFunction func → (place : ℕ) (block : Block) → slice_get (blocks_of func) place ≡ Some block
    → SaysItsTypes (record { known = known }) (results_in (blocks_of func)) block
places_suit func known are sound place block is = by func.body refl is
  where
    by : (o : Option Body) → func.body ≡ o → slice_get (blocks_in o) place ≡ Some block → SaysItsTypes (record { known = known }) (results_in (blocks_in o)) block
    by None e at = absurd (none-some block at)
    by (Some body) e at =
        let formed : FormedBody sound.items (length func.params) body = subst (λ o. IfSome o (FormedBody sound.items (length func.params))) e sound.formed.has_body in
        let typed : TypedBody (types_of sound.items func body.blocks) func.returns body.blocks =
        subst (λ o. IfSome o (λ b. TypedBody (types_of sound.items func b.blocks) func.returns b.blocks)) e sound.typed.has_body in
        block_suits sound.items func known func.returns (places_of sound.items (length func.params) body) body.blocks place block are
        (All-at (FormedBlock (places_of sound.items (length func.params) body)) body.blocks place block formed.has_blocks at)
        (subst (λ o. IfSome o (TypedBlock (types_of sound.items func body.blocks) func.returns body.blocks place)) at (typed.each place))

results_most : (blocks : List Block) → length (results_in blocks) ≤ sum (map block_count blocks)
results_most [] = omega arith
results_most (b ∷ bs) =
    omega (arith, length-append (block_results b) (results_in bs), results_most bs, phis_first b, types_all b.insts, sum_by-cons (λ n. n) (block_count b) (map block_count bs))
  where
    types_all : (insts : List Inst) → length (types insts) ≤ length insts
    types_all [] = omega arith
    types_all (i ∷ more) = by (result_type i) refl (types_all more)
      where
        by : (o : Option Scalar) → result_type i ≡ o → length (types more) ≤ length more → length (types (i ∷ more)) ≤ length (i ∷ more)
        by None e h = omega (arith, h, ap length (types_none i more e))
        by (Some t) e h = omega (arith, h, ap length (types_some i t more e))

pub few_results : (func : Func) → IsSoundFunction func → length (results_in (blocks_of func)) < 2 ^ 64
few_results func sound = by func.body refl
  where
    by : (o : Option Body) → func.body ≡ o → length (results_in (blocks_in o)) < 2 ^ 64
    by None e = omega arith
    by (Some body) e =
        let formed : FormedBody sound.items (length func.params) body = subst (λ o. IfSome o (FormedBody sound.items (length func.params))) e sound.formed.has_body in
        omega (arith, formed.few_insts, results_most body.blocks)

pub all_suit : (func : Func) (known : List Known) → AreKnownOf func known → IsSoundFunction func → All (SaysItsTypes (record { known = known }) (results_in (blocks_of func))) (blocks_of func)
all_suit func known are sound = λ k d less. places_suit func known are sound k (get_or (blocks_of func) k d) (slice_get-get_or (blocks_of func) k d less)
