-- A module of straight-line functions is one that a text can write, and its numbers are those of the machine.
use Rattle.std.proofs.Common.{◌≡◌, ◌∙◌, ℕ, zero, suc, pos, ◌+◌, ◌^◌, ◌<◌, ◌≤◌, Bool, true, false, codes, bytes_eq, IsTrue, List, [], ◌∷◌, length, slice_get, slice_index_or, Option, None, Some, All, IfSome, IfNone, OnSome, filter_map, refl, sym, ap, subst, arith, ⊎_elim}
use Rattle.std.specs.List.{list_all}
use Rattle.std.proofs.lemmas.Bool.{true≢false, lt-ltb, or_cases, and_from, both_ways}
use Rattle.std.proofs.lemmas.List.{length-replicate, append-nil}
use Rattle.std.proofs.lemmas.List.Elements.{All-nil, All-cons, All-head, All-tail, All-weaker}
use Rattle.std.proofs.lemmas.Option.{slice_get-get_or}
use Rattle.std.proofs.lemmas.Slice.Eq.{bytes_eq-Decides}
use Rattle.ir_types.specs.declared.scalar.Scalar.{Scalar}
use Rattle.ir_types.specs.declared.scalar.Scalar.TheVariants.{I32, Ptr}
use Rattle.ir_types.specs.declared.scalar.FnType.{FnType}
use Rattle.ir_types.specs.declared.scalar.BinOp.{BinOp}
use Rattle.ir_types.specs.declared.scalar.BinOp.TheVariants as bin_op
use Rattle.ir_types.specs.declared.scalar.Flags.{Flags}
use Rattle.ir_types.specs.declared.shape.Ty.TheBlock.{One}
use Rattle.ir_types.specs.declared.shape.Ty.TheVariants.{outs-One}
use Rattle.ir_syntax.specs.declared.constant.Const.{Const}
use Rattle.ir_syntax.specs.declared.constant.Const.TheVariants as const
use Rattle.ir_syntax.specs.declared.constant.Const.TheVariants.{outs-Addr, rolls-Int, rolls-Addr}
use Rattle.ir_syntax.specs.declared.constant.Const.TheOpen.{Const-F}
use Rattle.ir_syntax.specs.declared.constant.Const.TheFolds.{fold-roll-Const}
use Rattle.ir_syntax.specs.declared.constant.Operand.{Operand}
use Rattle.ir_syntax.specs.declared.constant.Operand.TheVariants as operand
use Rattle.ir_syntax.specs.declared.body.Arg.{Arg}
use Rattle.ir_syntax.specs.declared.body.Inst.{Inst}
use Rattle.ir_syntax.specs.declared.body.Inst.TheVariants as inst
use Rattle.ir_syntax.specs.declared.body.Body.{Body}
use Rattle.ir_syntax.specs.declared.item.Func.{Func}
use Rattle.ir_syntax.specs.declared.item.Item.{Item}
use Rattle.ir_syntax.specs.declared.item.Item.TheVariants as item
use Rattle.ir_syntax.specs.declared.item.Linkage.TheVariants.{External}
use Rattle.ir_syntax.specs.declared.item.Module.{Module}
use Rattle.ir_syntax.specs.Results.{result_type, results}
use Rattle.ir_syntax.specs.Suits.{Suits, takes_number, takes_address}
use Rattle.ir_syntax.specs.FormedBody.{Places, IsOperand, AllowsFlags, is_intrinsic, item_name, is_intrinsic_item, is_intrinsic_address, names_intrinsic, FormedCall, FormedInst, FormedPhi, FormedBlock, FormedBody, places_of}
use Rattle.ir_syntax.specs.FormedItem.{is_reserved, FormedFunc, FormedItem}
use Rattle.ir_syntax.specs.Formed.{Formed}
use Rattle.ir_syntax.specs.Straight.{no_flags, params_of, IsWord, IsWordOperand, IsWordArg, IsLaterCall, IsStraightInst, AreStraight, straight_body, IsStraightFunc, IsStraightItem, IsStraight}
use Rattle.ir_syntax.proofs.SuitLemmas.{suits-Int, suits-Addr}
use Rattle.ir_writer.specs.Ranges.{AreBytes, constant_in_range, is_constant_in_range, is_operand_in_range, is_inst_in_range, BlockInRange, ItemInRange, InRange}

-- each item is a straight-line function at its place
abbrev AreStraightItems : List Item → Type 0
AreStraightItems items = (place : ℕ) → IfSome (slice_get items place) (IsStraightItem items place)

-- no name begins with `llvm.`
abbrev HaveNoReserved : List Item → Type 0
HaveNoReserved items = All (λ i. is_reserved (item_name i) ≡ false) items

-- ---- names

-- The names of intrinsics begin with `llvm.`.
same_reserved : (name text : List ℕ) → is_reserved text ≡ true → bytes_eq name text ≡ true → is_reserved name ≡ true
same_reserved name text r e = ap is_reserved ((bytes_eq-Decides name text).0 e) ∙ r

intrinsic_reserved : (name : List ℕ) → is_intrinsic name ≡ true → is_reserved name ≡ true
intrinsic_reserved name e = ⊎_elim
    (λ either. ⊎_elim
    (same_reserved name (codes "llvm.memcpy.p0.p0.i64") refl)
    (same_reserved name (codes "llvm.memmove.p0.p0.i64") refl)
    (or_cases (bytes_eq name (codes "llvm.memcpy.p0.p0.i64")) (bytes_eq name (codes "llvm.memmove.p0.p0.i64")) either))
    (same_reserved name (codes "llvm.memset.p0.i64") refl)
    (or_cases _ _ e)

no_intrinsic : (items : List Item) (place : ℕ) → HaveNoReserved items → is_intrinsic_item (slice_get items place) ≡ true → ⊥
no_intrinsic [] place free e = true≢false (sym e)
no_intrinsic (i ∷ rest) zero free e = both_ways (is_reserved (item_name i)) (All-head (λ x. is_reserved (item_name x) ≡ false) i rest free) (intrinsic_reserved (item_name i) e)
no_intrinsic (i ∷ rest) (suc place) free e = no_intrinsic rest place (All-tail (λ x. is_reserved (item_name x) ≡ false) i rest free) e

-- ---- operands

word_suits : (items n : ℕ) → n < 2 ^ 32 → Suits items (One I32) (const.Int n)
word_suits items n small = suits-Int items n (One I32) ∙ ap (λ x. takes_number x n) (outs-One I32) ∙ lt-ltb n (2 ^ 32) small

constant_suits : (items : ℕ) (c : Const) → IsWord c → Suits items (One I32) c
constant_suits items (const.Int n) h = word_suits items n h
constant_suits items const.Null h = absurd h
constant_suits items (const.Addr place offset) h = absurd h
constant_suits items const.Undef h = absurd h
constant_suits items const.Poison h = absurd h
constant_suits items const.Zero h = absurd h
constant_suits items (const.Text bytes) h = absurd h
constant_suits items (const.Many' shape parts) h = absurd h

operand_formed : (places : Places) (before : ℕ) (x : Operand) → before ≤ places.results → IsWordOperand places.params before x → IsOperand places I32 x
operand_formed places before (operand.Param k) few h = h
operand_formed places before (operand.Reg k) few h = omega arith
operand_formed places before (operand.Const c) few h = constant_suits (length places.items) c h

args_formed : (places : Places) (before : ℕ) (args : List Arg) → before ≤ places.results → All (IsWordArg places.params before) args → All (λ arg. IsOperand places arg.ty arg.value) args
args_formed places before args few words =
    All-weaker (IsWordArg places.params before) (λ arg. IsOperand places arg.ty arg.value)
    (λ arg w. subst (λ (ty : Scalar). IsOperand places ty arg.value) (sym w.0) (operand_formed places before arg.value few w.2))
    args words

address_suits : (items place : ℕ) → place < items → Suits items (One Ptr) (const.Addr place (pos 0))
address_suits items place less =
    suits-Addr items place (pos 0) (One Ptr) ∙ and_from _ _ (ap takes_address (outs-One Ptr)) (lt-ltb place items less)

-- ---- calls

is_there : (items : List Item) (place n : ℕ) → params_of (slice_get items place) ≡ Some n → place < length items
is_there [] place n e = absurd (cc)
is_there (i ∷ rest) zero n e = omega arith
is_there (i ∷ rest) (suc place) n e = omega (arith, is_there rest place n e)

takes_few : (items : List Item) (place : ℕ) (o : Option Item) (n : ℕ) → params_of o ≡ Some n → IfSome o (IsStraightItem items place) → n ≤ 32
takes_few items place None n e s = absurd (cc)
takes_few items place (Some (item.Var v)) n e s = absurd s
takes_few items place (Some (item.Func f)) n e s = let h : length f.params ≡ n = cc in omega (arith, h, s.few_params)

call_not_intrinsic : (items : List Item) (place : ℕ) → HaveNoReserved items → IsTrue (names_intrinsic items (operand.Const (const.Addr place (pos 0)))) → ⊥
call_not_intrinsic items place free e = no_intrinsic items place free (sym (ap (is_intrinsic_address items) (outs-Addr place (pos 0))) ∙ e)

call_formed : (places : Places) (from before : ℕ) (fn_ty : FnType) (callee : Operand) (args : List Arg) → AreStraightItems places.items → HaveNoReserved places.items → before ≤ places.results
    → IsLaterCall places.items from places.params before fn_ty callee args → FormedCall places fn_ty callee args
call_formed places from before fn_ty callee args each free few s =
    let at_most : length args ≤ 32 = takes_few places.items s.place (slice_get places.items s.place) (length args) s.takes (each s.place) in
    record {
      few_params = omega (arith, ap (λ (t : FnType). length t.params) s.has_type, length-replicate (length args) I32, at_most);
      few_args = at_most;
      has_callee = subst (IsOperand places Ptr) (sym s.by_name) (address_suits (length places.items) s.place (is_there places.items s.place (length args) s.takes));
      has_args = args_formed places before args few s.words;
      not_volatile = λ named. absurd (call_not_intrinsic places.items s.place free (sym (ap (names_intrinsic places.items) s.by_name) ∙ named));
    }

-- ---- instructions

plain_addition : (op : BinOp) (flags : Flags) → op ≡ bin_op.Add → flags ≡ no_flags → AllowsFlags op flags
plain_addition op flags add none = subst (AllowsFlags op) (sym none) record {
  nuw = λ e. absurd (true≢false (sym e));
  nsw = λ e. absurd (true≢false (sym e));
  exact = λ e. absurd (true≢false (sym e));
  disjoint = λ e. absurd (true≢false (sym e));
}

inst_formed : (places : Places) (from before : ℕ) (i : Inst) → AreStraightItems places.items → HaveNoReserved places.items → before ≤ places.results
    → IsStraightInst places.items from places.params before i → FormedInst places i
inst_formed places from before (inst.Bin op flags ty a b) each free few s = (
  plain_addition op flags s.0 s.1,
  subst (λ (t : Scalar). IsOperand places t a) (sym s.2) (operand_formed places before a few s.3),
  subst (λ (t : Scalar). IsOperand places t b) (sym s.2) (operand_formed places before b few s.4),
)
inst_formed places from before (inst.Icmp pred ty a b) each free few s = absurd s
inst_formed places from before (inst.Select ty cond a b) each free few s = absurd s
inst_formed places from before (inst.Cast op nneg from_ty to a) each free few s = absurd s
inst_formed places from before (inst.Alloca ty count align) each free few s = absurd s
inst_formed places from before (inst.Load ty at align) each free few s = absurd s
inst_formed places from before (inst.Store ty value at align) each free few s = absurd s
inst_formed places from before (inst.Gep inbounds ty base indices) each free few s = absurd s
inst_formed places from before (inst.Call fn_ty ret_ext callee args) each free few s = call_formed places from before fn_ty callee args each free few s.1

insts_formed : (places : Places) (from before : ℕ) (insts : List Inst) → AreStraightItems places.items → HaveNoReserved places.items → before + length insts ≤ places.results
    → AreStraight places.items from places.params before insts → All (FormedInst places) insts
insts_formed places from before [] each free few s = All-nil (FormedInst places)
insts_formed places from before (i ∷ rest) each free few s = All-cons (FormedInst places) i rest
    (inst_formed places from before i each free (omega arith) s.0)
    (insts_formed places from (suc before) rest each free (omega arith) s.1)

-- each instruction has a result
has_result : (items : List Item) (from params before : ℕ) (i : Inst) → IsStraightInst items from params before i → (ty : Scalar) × (result_type i ≡ Some ty)
has_result items from params before (inst.Bin op flags ty a b) s = (ty, refl)
has_result items from params before (inst.Icmp pred ty a b) s = absurd s
has_result items from params before (inst.Select ty cond a b) s = absurd s
has_result items from params before (inst.Cast op nneg from_ty to a) s = absurd s
has_result items from params before (inst.Alloca ty count align) s = absurd s
has_result items from params before (inst.Load ty at align) s = absurd s
has_result items from params before (inst.Store ty value at align) s = absurd s
has_result items from params before (inst.Gep inbounds ty base indices) s = absurd s
has_result items from params before (inst.Call fn_ty ret_ext callee args) s = (I32, ap (λ (t : FnType). t.returns) s.1.has_type)

length_results : (items : List Item) (from params before : ℕ) (insts : List Inst) → AreStraight items from params before insts → length (filter_map result_type insts) ≡ length insts
length_results items from params before [] s = refl
length_results items from params before (i ∷ rest) s =
    rw (has_result items from params before i s.0).1 (ap (λ n. suc n) (length_results items from params (suc before) rest s.1))

-- ---- bodies and functions

body_results : (items : List Item) (from params : ℕ) (insts : List Inst) (value : Operand) → AreStraight items from params 0 insts → length (results (straight_body insts value)) ≡ length insts
body_results items from params insts value s = ap length (append-nil (filter_map result_type insts)) ∙ length_results items from params 0 insts s

body_formed : (items : List Item) (from params : ℕ) (insts : List Inst) (value : Operand) → AreStraightItems items → HaveNoReserved items
    → AreStraight items from params 0 insts → IsWordOperand params (length insts) value → length insts < 1048576 → FormedBody items params (straight_body insts value)
body_formed items from params insts value each free s result few =
    let places : Places = places_of items params (straight_body insts value) in
    let all : length (results (straight_body insts value)) ≡ length insts = body_results items from params insts value s in
    record {
      has_block = omega arith;
      few_blocks = omega arith;
      few_insts = omega arith;
      has_blocks = All-cons (FormedBlock places) _ [] record {
        phis = All-nil (FormedPhi places);
        insts = insts_formed places from 0 insts each free (omega (arith, all)) s;
        term = operand_formed places (length insts) value (omega (arith, all)) result;
      } (All-nil (FormedBlock places));
    }

func_formed : (items : List Item) (place : ℕ) (f : Func) → AreStraightItems items → HaveNoReserved items → is_reserved f.name ≡ false → IsStraightFunc items place f → FormedFunc items f
func_formed items place f each free plain s = record {
  has_name = s.has_name;
  intrinsic = λ reserved. absurd (both_ways (is_reserved f.name) plain reserved);
  not_defined = λ reserved. absurd (both_ways (is_reserved f.name) plain reserved);
  few_params = s.few_params;
  declared = subst (λ (o : Option Body). IfNone o (f.linkage ≡ External)) (sym s.body) tt;
  fixed = subst (λ (o : Option Body). OnSome o (f.variadic ≡ false)) (sym s.body) s.fixed;
  has_body = subst (λ (o : Option Body). IfSome o (FormedBody items (length f.params))) (sym s.body) (body_formed items place (length f.params) s.insts s.value each free s.straight s.result s.few_insts);
}

item_formed : (items : List Item) (place : ℕ) (i : Item) → AreStraightItems items → HaveNoReserved items → is_reserved (item_name i) ≡ false → IsStraightItem items place i → FormedItem items i
item_formed items place (item.Var v) each free plain s = absurd s
item_formed items place (item.Func f) each free plain s = func_formed items place f each free plain s

-- ---- modules

-- what each item is at its place
item_at : (items : List Item) (place : ℕ) (d : Item) → AreStraightItems items → place < length items → IsStraightItem items place (slice_index_or items place d)
item_at items place d each less = subst (λ (o : Option Item). IfSome o (IsStraightItem items place)) (slice_get-get_or items place d less) (each place)

-- A module of straight-line functions, none of whose names begins with `llvm.`, is one that a text can write.
pub straight_is_formed : (m : Module) → IsStraight m → All (λ i. is_reserved (item_name i) ≡ false) m.items → Formed m
straight_is_formed m s free = record {
  distinct = s.distinct;
  has_items = λ k d less. item_formed m.items k (slice_index_or m.items k d) s.each free (free k d less) (item_at m.items k d s.each less);
}

-- ---- ranges

int_in_range : (n : ℕ) → is_constant_in_range (const.Int n) ≡ true
unfolding is_constant_in_range
int_in_range n = ap is_constant_in_range (sym (rolls-Int n)) ∙ fold-roll-Const Bool constant_in_range (Const-F.Int n)

address_in_range : (place : ℕ) → is_constant_in_range (const.Addr place (pos 0)) ≡ true
unfolding is_constant_in_range
address_in_range place = ap is_constant_in_range (sym (rolls-Addr place (pos 0))) ∙ fold-roll-Const Bool constant_in_range (Const-F.Addr place (pos 0))

constant_ranged : (c : Const) → IsWord c → is_constant_in_range c ≡ true
constant_ranged (const.Int n) h = int_in_range n
constant_ranged const.Null h = absurd h
constant_ranged (const.Addr place offset) h = absurd h
constant_ranged const.Undef h = absurd h
constant_ranged const.Poison h = absurd h
constant_ranged const.Zero h = absurd h
constant_ranged (const.Text bytes) h = absurd h
constant_ranged (const.Many' shape parts) h = absurd h

operand_ranged : (params before : ℕ) (x : Operand) → IsWordOperand params before x → is_operand_in_range x ≡ true
operand_ranged params before (operand.Param k) h = refl
operand_ranged params before (operand.Reg k) h = refl
operand_ranged params before (operand.Const c) h = constant_ranged c h

args_ranged : (params before : ℕ) (args : List Arg) → All (IsWordArg params before) args → list_all (λ arg. is_operand_in_range arg.value) args ≡ true
args_ranged params before [] words = refl
args_ranged params before (arg ∷ args) words = and_from _ _
    (operand_ranged params before arg.value (All-head (IsWordArg params before) arg args words).2)
    (args_ranged params before args (All-tail (IsWordArg params before) arg args words))

inst_ranged : (items : List Item) (from params before : ℕ) (i : Inst) → IsStraightInst items from params before i → is_inst_in_range i ≡ true
inst_ranged items from params before (inst.Bin op flags ty a b) s = and_from _ _ (operand_ranged params before a s.3) (operand_ranged params before b s.4)
inst_ranged items from params before (inst.Icmp pred ty a b) s = absurd s
inst_ranged items from params before (inst.Select ty cond a b) s = absurd s
inst_ranged items from params before (inst.Cast op nneg from_ty to a) s = absurd s
inst_ranged items from params before (inst.Alloca ty count align) s = absurd s
inst_ranged items from params before (inst.Load ty at align) s = absurd s
inst_ranged items from params before (inst.Store ty value at align) s = absurd s
inst_ranged items from params before (inst.Gep inbounds ty base indices) s = absurd s
inst_ranged items from params before (inst.Call fn_ty ret_ext callee args) s =
    and_from _ _ (ap is_operand_in_range s.1.by_name ∙ address_in_range s.1.place) (args_ranged params before args s.1.words)

insts_ranged : (items : List Item) (from params before : ℕ) (insts : List Inst) → AreStraight items from params before insts → list_all is_inst_in_range insts ≡ true
insts_ranged items from params before [] s = refl
insts_ranged items from params before (i ∷ rest) s = and_from _ _ (inst_ranged items from params before i s.0) (insts_ranged items from params (suc before) rest s.1)

func_ranged : (items : List Item) (place : ℕ) (f : Func) → IsStraightFunc items place f → IfSome f.body (λ body. All BlockInRange body.blocks)
func_ranged items place f s = subst (λ (o : Option Body). IfSome o (λ body. All BlockInRange body.blocks)) (sym s.body) (All-cons BlockInRange _ [] record {
  phis = refl;
  insts = insts_ranged items place (length f.params) 0 s.insts s.straight;
  term = operand_ranged (length f.params) (length s.insts) s.value s.result;
} (All-nil BlockInRange))

item_ranged : (items : List Item) (place : ℕ) (i : Item) → AreBytes (item_name i) → IsStraightItem items place i → ItemInRange i
item_ranged items place (item.Var v) bytes s = absurd s
item_ranged items place (item.Func f) bytes s = (bytes, func_ranged items place f s)

-- The numbers of a module of straight-line functions, whose names are bytes, are those of the machine.
pub straight_is_in_range : (m : Module) → IsStraight m → All (λ i. AreBytes (item_name i)) m.items → InRange m
straight_is_in_range m s bytes = record {
  layout = subst (λ (o : Option (List ℕ)). IfSome o AreBytes) (sym s.no_layout) tt;
  triple = subst (λ (o : Option (List ℕ)). IfSome o AreBytes) (sym s.no_triple) tt;
  items = λ k d less. item_ranged m.items k (slice_index_or m.items k d) (bytes k d less) (item_at m.items k d s.each less);
}
