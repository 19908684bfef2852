-- A call that is read is one that a text can write.
use Rattle.std.proofs.Common.{◌≡◌, ◌≢◌, ◌∙◌, ℕ, zero, suc, pos, negsuc, ◌+◌, ◌<◌, inl, inr, Bool, true, false, not, cond, ◌&&◌, ◌||◌, nat_le, bytes_eq, codes, List, [], ◌∷◌, length, map, drop, get_or, Option, Some, None, option_map, option_and_then, refl, ap, sym, arith}
use Rattle.std.specs.Prelude.{All, AllPairs, IfSome}
use Rattle.std.specs.List.{slice_get}
use Rattle.std.proofs.lemmas.Bool.{false≢true, and_parts, or_cases, or_left, or_right, leb-true}
use Rattle.std.proofs.lemmas.Bool.Decides.{Decides-eqb}
use Rattle.std.proofs.lemmas.Slice.Eq.{bytes_eq-Decides}
use Rattle.std.proofs.lemmas.Option.{slice_get-map}
use Rattle.ir_types.specs.declared.scalar.Scalar.{Scalar}
use Rattle.ir_types.specs.declared.scalar.Scalar.TheVariants.{I1, I8, I16, I32, I64, Ptr}
use Rattle.ir_types.specs.declared.scalar.Ext.{Ext}
use Rattle.ir_types.specs.declared.scalar.FnType.{FnType}
use Rattle.ir_types.specs.Names.{is_name}
use Rattle.ir_lexer.specs.Texts.{name_of}
use Rattle.ir_syntax.specs.declared.constant.Const.{Const, out-Const}
use Rattle.ir_syntax.specs.declared.constant.Const.TheOpen.{Const-F}
use Rattle.ir_syntax.specs.declared.constant.Const.TheBlock.{Int}
use Rattle.ir_syntax.specs.declared.constant.Const.TheViews.{roll-Const, roll-out-Const}
use Rattle.ir_syntax.specs.declared.constant.Const.TheVariants.{rolls-Int}
use Rattle.ir_syntax.specs.declared.constant.Operand.{Operand}
use Rattle.ir_syntax.specs.declared.constant.Operand.TheVariants as operand
use Rattle.ir_syntax.specs.declared.body.Arg.{Arg}
use Rattle.ir_syntax.specs.declared.body.Inst.{Inst}
use Rattle.ir_syntax.specs.declared.body.Inst.TheVariants as inst
use Rattle.ir_syntax.specs.declared.item.Item.{Item}
use Rattle.ir_syntax.specs.FormedBody.{Places, IsOperand, EndsInFalse, FormedCall, FormedInst, is_intrinsic, is_intrinsic_item, is_intrinsic_address, names_intrinsic, item_name}
use Rattle.ir_grammar.specs.declared.shape.Shape.TheVariants as is
use Rattle.ir_grammar.specs.declared.shape.AtName.TheVariants as at
use Rattle.ir_grammar.specs.Tokens.{Kept}
use Rattle.name_table.specs.Places.{place_among}
use Rattle.ir_scope.specs.Runs.{Reading, behind}
use Rattle.ir_scope.specs.Scopes.{is_at, is_intrinsic_place}
use Rattle.ir_constants.specs.Constants.{is_close_paren}
use Rattle.ir_operands.specs.Operands.{Names, operand_at}
use Rattle.ir_operands.specs.Marks.{ext_at}
use Rattle.ir_calls.specs.Calls.{whole_at, arg_at, args_at, is_intrinsic_constant, calls_intrinsic, is_zero, is_false, ends_in_false, is_call, call_type, made_call, callee_at, dropped_callee_at, void_callee_at, returning_at, call_at}
use Rattle.ir_operands.proofs.FormingReadings.{IsRead, read-behind, read-map, read-next, read-run, read-closed}
use Rattle.ir_operands.proofs.FormingOperands.{Resolves, given-or}

-- ---- names of intrinsics

-- Where names are distinct, one is found where it stands.
pub placed : (names : List (List ℕ)) (place : ℕ) (name : List ℕ) → AllPairs (λ a b. a ≢ b) names → slice_get names place ≡ Some name → place_among name names ≡ Some place
placed [] place name distinct e = cc
placed (n ∷ ns) zero name distinct e =
    let here : n ≡ name = cc in
    ap (λ b. cond b (Some 0) (option_map (λ k. suc k) (place_among name ns))) ((bytes_eq-Decides name n).1 (sym here))
placed (n ∷ ns) (suc place) name distinct e = cases (bytes_eq name n) refl (placed ns place name (λ i j d before within. distinct (suc i) (suc j) d (omega arith) (omega arith)) e)
  where
    stands : (xs : List (List ℕ)) (k : ℕ) → slice_get xs k ≡ Some name → (k < length xs) × (get_or xs k n ≡ name)
    stands [] k f = cc
    stands (x ∷ xs) zero f = (omega arith, cc)
    stands (x ∷ xs) (suc k) f = let g = stands xs k f in (omega (arith, g.0), g.1)

    cases : (b : Bool) → bytes_eq name n ≡ b → place_among name ns ≡ Some place → place_among name (n ∷ ns) ≡ Some (suc place)
    cases true same later =
        let there = stands ns place e in
        absurd (distinct 0 (suc place) n (omega arith) (omega (arith, there.0)) (sym ((bytes_eq-Decides name n).0 same) ∙ sym there.1))
    cases false other later = ap (λ b. cond b (Some 0) (option_map (λ k. suc k) (place_among name ns))) other ∙ ap (option_map (λ k. suc k)) later

module _ (names : List (List ℕ)) (distinct : AllPairs (λ a b. a ≢ b) names) where
  stands-at : (place : ℕ) (name word : List ℕ) → slice_get names place ≡ Some name → bytes_eq name word ≡ true → is_at (place_among word names) place ≡ true
  stands-at place name word e same =
      let found = placed names place word distinct (e ∙ ap (λ n. Some n) ((bytes_eq-Decides name word).0 same)) in
      ap (λ o. is_at o place) found ∙ (Decides-eqb place place).1 refl

  pub intrinsic-place : (place : ℕ) (name : List ℕ) → slice_get names place ≡ Some name → is_intrinsic name ≡ true → is_intrinsic_place names place ≡ true
  intrinsic-place place name e is =
      elim (or_cases (copy || move) fill is) [
        | inl either ↦ elim (or_cases copy move either) [
          | inl c ↦ or_left first (second || (third || false)) (stands-at place name _ e c)
          | inr m ↦ or_right first (second || (third || false)) (or_left second (third || false) (stands-at place name _ e m))
        ]
        | inr f ↦ or_right first (second || (third || false)) (or_right second (third || false) (or_left third false (stands-at place name _ e f)))
      ]
    where
      copy : Bool
      copy = bytes_eq name (codes "llvm.memcpy.p0.p0.i64")

      move : Bool
      move = bytes_eq name (codes "llvm.memmove.p0.p0.i64")

      fill : Bool
      fill = bytes_eq name (codes "llvm.memset.p0.i64")

      first : Bool
      first = is_at (place_among (codes "llvm.memcpy.p0.p0.i64") names) place

      second : Bool
      second = is_at (place_among (codes "llvm.memmove.p0.p0.i64") names) place

      third : Bool
      third = is_at (place_among (codes "llvm.memset.p0.i64") names) place

-- A constant that is the address of an item with the name of an intrinsic is found to be one.
module _ (items : List Item) (names : List (List ℕ)) (same : names ≡ map item_name items) (distinct : AllPairs (λ a b. a ≢ b) names) where
  intrinsic-item : (place : ℕ) (found : Option Item) → slice_get items place ≡ found → is_intrinsic_item found ≡ true → is_intrinsic_place names place ≡ true
  intrinsic-item place None e is = absurd (false≢true is)
  intrinsic-item place (Some i) e is =
      intrinsic-place names distinct place (item_name i) (ap (λ ns. slice_get ns place) same ∙ slice_get-map item_name items place ∙ ap (option_map item_name) e) is

  intrinsic-constant : (c : Const-F Const) → is_intrinsic_address items c ≡ true → is_intrinsic_constant names c ≡ true
  intrinsic-constant (Const-F.Addr place (pos zero)) is = intrinsic-item place (slice_get items place) refl is
  intrinsic-constant (Const-F.Addr place (pos (suc n))) is = absurd (false≢true is)
  intrinsic-constant (Const-F.Addr place (negsuc n)) is = absurd (false≢true is)
  intrinsic-constant (Const-F.Int n) is = absurd (false≢true is)
  intrinsic-constant Const-F.Null is = absurd (false≢true is)
  intrinsic-constant Const-F.Undef is = absurd (false≢true is)
  intrinsic-constant Const-F.Poison is = absurd (false≢true is)
  intrinsic-constant Const-F.Zero is = absurd (false≢true is)
  intrinsic-constant (Const-F.Text bytes) is = absurd (false≢true is)
  intrinsic-constant (Const-F.Many parts) is = absurd (false≢true is)

  intrinsic-callee : (callee : Operand) → names_intrinsic items callee ≡ true → calls_intrinsic names callee ≡ true
  intrinsic-callee (operand.Param k) is = absurd (false≢true is)
  intrinsic-callee (operand.Reg k) is = absurd (false≢true is)
  intrinsic-callee (operand.Const c) is = intrinsic-constant (out-Const c) is

-- ---- the last argument

number-zero : (c : Const) (v : Const-F Const) → out-Const c ≡ v → is_zero v ≡ true → c ≡ Int 0
number-zero c (Const-F.Int n) is zeroed = sym (roll-out-Const c) ∙ ap roll-Const is ∙ rolls-Int n ∙ ap Int ((Decides-eqb n 0).0 zeroed)
number-zero c (Const-F.Addr place offset) is zeroed = absurd (false≢true zeroed)
number-zero c Const-F.Null is zeroed = absurd (false≢true zeroed)
number-zero c Const-F.Undef is zeroed = absurd (false≢true zeroed)
number-zero c Const-F.Poison is zeroed = absurd (false≢true zeroed)
number-zero c Const-F.Zero is zeroed = absurd (false≢true zeroed)
number-zero c (Const-F.Text bytes) is zeroed = absurd (false≢true zeroed)
number-zero c (Const-F.Many parts) is zeroed = absurd (false≢true zeroed)

value-false : (ty : Scalar) (value : Operand) → is_false ty value ≡ true → (ty ≡ I1) × (value ≡ operand.Const (Int 0))
value-false I1 (operand.Const c) is = (refl, ap (λ c. operand.Const c) (number-zero c (out-Const c) refl is))
value-false I1 (operand.Param k) is = absurd (false≢true is)
value-false I1 (operand.Reg k) is = absurd (false≢true is)
value-false I8 value is = absurd (false≢true is)
value-false I16 value is = absurd (false≢true is)
value-false I32 value is = absurd (false≢true is)
value-false I64 value is = absurd (false≢true is)
value-false Ptr value is = absurd (false≢true is)

ends-false : (args : List Arg) → ends_in_false args ≡ true → EndsInFalse args
ends-false [] is = absurd (false≢true is)
ends-false (arg ∷ []) is = value-false arg.ty arg.value is
ends-false (arg ∷ next ∷ more) is = ends-false (next ∷ more) is

-- ---- calls

module _ (names : Names) (places : Places) (r : Resolves names places) where
  arg-read : (ks : List Kept) → IsRead (λ (arg : Arg). IsOperand places arg.ty arg.value) (arg_at names ks)
  arg-read [] = tt
  arg-read ((is.Scalar ty, text) ∷ ks) =
      read-behind (λ (arg : Arg). IsOperand places arg.ty arg.value) (1 + (ext_at ks).1) _
      (read-map (IsOperand places ty) (λ (arg : Arg). IsOperand places arg.ty arg.value) _ (operand_at names ty (drop (ext_at ks).1 ks)) (r.operands ty (drop (ext_at ks).1 ks)) (λ f p. p))
  arg-read (k ∷ ks) = tt

  args-read : (ks : List Kept) → IsRead (All (λ (arg : Arg). IsOperand places arg.ty arg.value)) (args_at names ks)
  args-read ks =
      read-closed (All (λ (arg : Arg). IsOperand places arg.ty arg.value)) is_close_paren ks _
      (read-run (λ (arg : Arg). IsOperand places arg.ty arg.value) (λ shape. not (is_close_paren shape)) (arg_at names) 0 ks (λ k rest begins. arg-read (k ∷ rest)))

  call-formed : (fn_ty : FnType) (callee : Operand) (args : List Arg) → is_call names fn_ty callee args ≡ true → IsOperand places Ptr callee → All (λ (arg : Arg). IsOperand places arg.ty arg.value) args → FormedCall places fn_ty callee args
  call-formed fn_ty callee args is has_callee has_args =
      let parts = and_parts (nat_le (length fn_ty.params) 32 && nat_le (length args) 32) (not (calls_intrinsic names.env.symbols callee) || ends_in_false args) is in
      let few = and_parts (nat_le (length fn_ty.params) 32) (nat_le (length args) 32) parts.0 in
      record {
        few_params = leb-true (length fn_ty.params) 32 few.0;
        few_args = leb-true (length args) 32 few.1;
        has_callee = has_callee;
        has_args = has_args;
        not_volatile = λ intrinsic. ends-false args (given-or (calls_intrinsic names.env.symbols callee) (ends_in_false args) parts.1 (intrinsic-callee places.items names.env.symbols r.symbols r.distinct callee intrinsic));
      }

  made-read : (fn_ty : FnType) (ext : Ext) (callee : Operand) (args : List Arg) (n : ℕ) → IsOperand places Ptr callee → All (λ (arg : Arg). IsOperand places arg.ty arg.value) args →
      IsRead (FormedInst places) (option_map (λ i. (i, n)) (made_call names fn_ty ext callee args))
  made-read fn_ty ext callee args n has_callee has_args = cases (is_call names fn_ty callee args) refl
    where
      cases : (b : Bool) → is_call names fn_ty callee args ≡ b → IsRead (FormedInst places) (option_map (λ i. (i, n)) (cond b (Some (inst.Call fn_ty ext callee args)) None))
      cases true is = call-formed fn_ty callee args is has_callee has_args
      cases false is = tt

  callee-read : (ext : Ext) (returns : Option Scalar) (whole : Option (List Scalar × Bool)) (ks : List Kept) → IsRead (FormedInst places) (callee_at names ext returns whole ks)
  callee-read ext returns whole ks =
      read-next (IsOperand places Ptr) (FormedInst places) _ (operand_at names Ptr ks) (r.operands Ptr ks)
      (λ f callee. read-behind (FormedInst places) f.1 _
      (read-next (All (λ (arg : Arg). IsOperand places arg.ty arg.value)) (FormedInst places) _ (args_at names (drop f.1 ks)) (args-read (drop f.1 ks))
      (λ args has_args. made-read (call_type returns whole args.0) ext f.0 args.0 args.1 callee has_args)))

  abbrev IsKeptCall : Option Inst → Type 0
  IsKeptCall found = IfSome found (FormedInst places)

  kept-read : (found : Option (Inst × ℕ)) → IsRead (FormedInst places) found → IsRead IsKeptCall (option_map (λ f. (Some f.0, f.1)) found)
  kept-read None h = tt
  kept-read (Some f) h = h

  dropped-read : (text : List ℕ) → IsRead IsKeptCall (dropped_callee_at text)
  dropped-read text = cases (is_name (name_of (drop 1 text)))
    where
      cases : (b : Bool) → IsRead IsKeptCall (cond b (Some (None, 1)) None)
      cases true = tt
      cases false = tt

  void-read : (ext : Ext) (whole : Option (List Scalar × Bool)) (ks : List Kept) → IsRead IsKeptCall (void_callee_at names ext whole ks)
  void-read ext whole [] = kept-read (callee_at names ext None whole []) (callee-read ext None whole [])
  void-read ext whole ((is.At at.Debug, text) ∷ ks) = dropped-read text
  void-read ext whole (k ∷ ks) = kept-read (callee_at names ext None whole (k ∷ ks)) (callee-read ext None whole (k ∷ ks))

  -- what follows the whole type, wherever one is read
  whole-read : (next : Option (List Scalar × Bool) → Reading (Option Inst)) (ks : List Kept) → ((whole : Option (List Scalar × Bool)) (rest : List Kept) → IsRead IsKeptCall (next whole rest)) →
      IsRead IsKeptCall (option_and_then (λ whole. behind whole.1 (next whole.0 (drop whole.1 ks))) (whole_at ks))
  whole-read next ks h = cases (whole_at ks)
    where
      cases : (found : Option (Option (List Scalar × Bool) × ℕ)) → IsRead IsKeptCall (option_and_then (λ whole. behind whole.1 (next whole.0 (drop whole.1 ks))) found)
      cases None = tt
      cases (Some whole) = read-behind IsKeptCall whole.1 (next whole.0 (drop whole.1 ks)) (h whole.0 (drop whole.1 ks))

  returning-read : (ext : Ext) (ks : List Kept) → IsRead IsKeptCall (returning_at names ext ks)
  returning-read ext [] = tt
  returning-read ext ((is.Returned ty, text) ∷ ks) =
      read-behind IsKeptCall 1 _
      (whole-read (λ whole rest. option_map (λ f. (Some f.0, f.1)) (callee_at names ext (Some ty) whole rest)) ks
      (λ whole rest. kept-read (callee_at names ext (Some ty) whole rest) (callee-read ext (Some ty) whole rest)))
  returning-read ext ((is.Void, text) ∷ ks) = read-behind IsKeptCall 1 _ (whole-read (void_callee_at names ext) ks (void-read ext))
  returning-read ext (k ∷ ks) = tt

  pub call-read : (ks : List Kept) → IsRead (λ found. IfSome found (FormedInst places)) (call_at names ks)
  call-read ks = read-behind IsKeptCall (ext_at ks).1 _ (returning-read (ext_at ks).0 (drop (ext_at ks).1 ks))
