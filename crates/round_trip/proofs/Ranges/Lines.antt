-- A line that is read from lexemes of bytes is in range.
use Rattle.std.proofs.Common.{ℕ, ◌+◌, ◌^◌, Bool, true, false, not, cond, ◌&&◌, nat_lt, List, [], ◌∷◌, length, drop, Option, Some, None, option_map, option_and_then, refl, arith}
use Rattle.std.specs.Prelude.{All, IfSome, IsTrue}
use Rattle.std.specs.List.{list_all}
use Rattle.std.proofs.lemmas.Bool.{false≢true, and_from, ltb-true, lt-ltb}
use Rattle.std.proofs.lemmas.List.Sums.{list_all-from_AllPass}
use Rattle.ir_types.specs.declared.scalar.Scalar.{Scalar}
use Rattle.ir_types.specs.declared.scalar.Scalar.TheVariants.{I1, I8, I16, I32, I64, Ptr}
use Rattle.ir_types.specs.declared.scalar.Ext.{Ext}
use Rattle.ir_types.specs.declared.scalar.BinOp.{BinOp}
use Rattle.ir_types.specs.declared.scalar.CastOp.{CastOp}
use Rattle.ir_types.specs.declared.scalar.FnType.{FnType}
use Rattle.ir_types.specs.declared.shape.Ty.{Ty}
use Rattle.ir_types.specs.Names.{is_name}
use Rattle.ir_lexer.specs.Texts.{name_of}
use Rattle.ir_syntax.specs.declared.constant.Operand.{Operand}
use Rattle.ir_syntax.specs.declared.body.Arg.{Arg}
use Rattle.ir_syntax.specs.declared.body.Inst.{Inst}
use Rattle.ir_syntax.specs.declared.body.Inst.TheVariants as inst
use Rattle.ir_syntax.specs.declared.body.Term.{Term}
use Rattle.ir_syntax.specs.declared.body.Term.TheVariants as term
use Rattle.ir_syntax.specs.declared.body.Phi.{Phi}
use Rattle.ir_syntax.specs.Suits.{is_number_of}
use Rattle.ir_grammar.specs.declared.shape.Shape.{Shape}
use Rattle.ir_grammar.specs.declared.shape.Shape.TheVariants as is
use Rattle.ir_grammar.specs.declared.shape.Free.TheVariants as free
use Rattle.ir_grammar.specs.declared.shape.AtName.TheVariants as at
use Rattle.ir_grammar.specs.Tokens.{Kept}
use Rattle.ir_scope.specs.Runs.{Reading, behind, runs}
use Rattle.ir_scope.specs.Integers.{number}
use Rattle.ir_scope.specs.Types.{written_type}
use Rattle.ir_constants.specs.Constants.{is_close_paren}
use Rattle.ir_operands.specs.Operands.{Names, operand_at, block_at, then_at, typed, pair_at, flags_at, allows, nneg_at, allows_nneg, inbounds_at, align_at, aligned}
use Rattle.ir_operands.specs.Marks.{ext_at, scalar_at}
use Rattle.ir_calls.specs.Calls.{whole_at, arg_at, args_at, is_call, call_type, made_call, callee_at, dropped_callee_at, void_callee_at, returning_at, call_at}
use Rattle.ir_insts.specs.Insts.{bin_at, icmp_at, select_at, cast_at, count_at, made_alloca, alloca_at, made_load, load_at, made_store, store_at, is_integer, made_gep, gep_at}
use Rattle.ir_terms.specs.Terms.{is_open_square, entry_at, made_phi, phi_at, ret_at, made_branch, br_at, cases_at, made_switch, switch_at}
use Rattle.ir_body.specs.Lines.{Line, Labelled, OfPhi, OfInst, Dropped, Ends, dropped_or, inst_line, term_line, verb_at, line_at}
use Rattle.ir_operands.proofs.FormingReadings.{IsRead, Any, read-any, read-behind, read-map, read-next, read-where, read-closed}
use Rattle.ir_operands.proofs.FormingTypes.{number-suits}
use Rattle.ir_writer.specs.Ranges.{is_type_in_range, is_operand_in_range, is_inst_in_range, is_phi_in_range, is_term_in_range}
use Rattle.round_trip.proofs.Ranges.Texts.{LexemesAreBytes, lexemes_behind, dropped_lexemes}
use Rattle.round_trip.proofs.Ranges.Types.{IsTypeIn, AreTypesIn, written_in}
use Rattle.round_trip.proofs.Ranges.Constants.{run_in, IsOperandIn, operand_read}

-- ---- readings of lexemes of bytes

-- What is read from lexemes of bytes, where something is, is so.
abbrev Finds : {X : Type 0} → (X → Type 0) → Reading X → Type 0
Finds P reading = (ks : List Kept) → LexemesAreBytes ks → IsRead P (reading ks)

finds-then : {X Y Z : Type 0} (P : X → Type 0) (Q : Y → Type 0) (R : Z → Type 0) (make : X → Y → Z) (ks : List Kept) → LexemesAreBytes ks → (next : Reading Y) (found : Option (X × ℕ)) →
    IsRead P found → Finds Q next → ((x : X) (y : Y) → P x → Q y → R (make x y)) → IsRead R (then_at make ks next found)
finds-then P Q R make ks are next found first second step =
    read-next P R _ found first
    (λ f p. read-behind R f.1 _ (read-map Q R _ (next (drop f.1 ks)) (second (drop f.1 ks) (dropped_lexemes f.1 ks are)) (λ g q. step f.0 g.0 p q)))

finds-typed : {X : Type 0} (P : X → Type 0) (next : Scalar → Reading X) → ((ty : Scalar) → Finds P (next ty)) → Finds (λ (f : Scalar × X). P f.1) (typed next)
finds-typed P next h [] are = tt
finds-typed {X} P next h ((is.Scalar ty, text) ∷ ks) are =
    read-behind (λ (f : Scalar × X). P f.1) 1 _ (read-map P (λ (f : Scalar × X). P f.1) _ (next ty ks) (h ty ks (lexemes_behind (is.Scalar ty, text) ks are)) (λ f p. p))
finds-typed P next h (k ∷ ks) are = tt

finds-aligned : {X Y : Type 0} (P : X → Type 0) (Q : Y → Type 0) (make : X → Option ℕ → Y) (ks : List Kept) (found : Option (X × ℕ)) → IsRead P found →
    ((x : X) (align : Option ℕ) → P x → Q (make x align)) → IsRead Q (aligned make ks found)
finds-aligned P Q make ks None h step = tt
finds-aligned P Q make ks (Some f) h step = step f.0 (align_at (drop f.1 ks)).0 h

-- ---- what is in range

abbrev pub IsInstIn : Inst → Type 0
IsInstIn i = IsTrue (is_inst_in_range i)

abbrev pub IsPhiIn : Phi → Type 0
IsPhiIn phi = IsTrue (is_phi_in_range phi)

abbrev IsTermIn : Term → Type 0
IsTermIn t = IsTrue (is_term_in_range t)

-- what a line stands for is in range
abbrev pub IsLineIn : Line → Type 0
IsLineIn Labelled = Unit {0}
IsLineIn (OfPhi phi) = IsTrue (is_phi_in_range phi)
IsLineIn (OfInst i) = IsTrue (is_inst_in_range i)
IsLineIn Dropped = Unit {0}
IsLineIn (Ends t) = IsTrue (is_term_in_range t)

-- ---- counts

number-below : (ty : Scalar) (n : ℕ) → IsTrue (is_number_of ty n) → IsTrue (nat_lt n (2 ^ 64))
number-below I1 n e = lt-ltb n (2 ^ 64) (omega (arith, ltb-true n 2 e))
number-below I8 n e = lt-ltb n (2 ^ 64) (omega (arith, ltb-true n (2 ^ 8) e))
number-below I16 n e = lt-ltb n (2 ^ 64) (omega (arith, ltb-true n (2 ^ 16) e))
number-below I32 n e = lt-ltb n (2 ^ 64) (omega (arith, ltb-true n (2 ^ 32) e))
number-below I64 n e = e
number-below Ptr n e = absurd (false≢true e)

abbrev IsCount : ℕ → Type 0
IsCount n = IsTrue (nat_lt n (2 ^ 64))

count-below : (ks : List Kept) → IsRead IsCount (count_at ks)
count-below [] = refl
count-below ((is.Scalar ty, text) ∷ []) = tt
count-below ((is.Scalar ty, text) ∷ k ∷ ks) = cases (number ty k) (number-suits ty k)
  where
    cases : (found : Option ℕ) → IfSome found (λ n. IsTrue (is_number_of ty n)) → IsRead IsCount (option_map (λ n. (n, 2)) found)
    cases None h = tt
    cases (Some n) h = number-below ty n h
count-below (k ∷ ks) = refl

-- ---- what is made of parts

abbrev ArePair : Operand × Operand → Type 0
ArePair p = IsOperandIn p.0 × IsOperandIn p.1

two : (a b : Operand) → IsOperandIn a → IsOperandIn b → IsTrue (is_operand_in_range a && is_operand_in_range b)
two a b p q = and_from (is_operand_in_range a) (is_operand_in_range b) p q

module _ (names : Names) (looks : AreTypesIn names.env.types) where
  pair-in : (ty : Scalar) → Finds ArePair (pair_at names ty)
  pair-in ty ks are = finds-then IsOperandIn IsOperandIn ArePair (λ a b. (a, b)) ks are (operand_at names ty) (operand_at names ty ks) (operand_read names ty ks are) (operand_read names ty) (λ a b p q. (p, q))

  pairs-in : Finds (λ (f : Scalar × (Operand × Operand)). ArePair f.1) (typed (pair_at names))
  pairs-in = finds-typed ArePair (pair_at names) pair-in

  one-in : Finds (λ (f : Scalar × Operand). IsOperandIn f.1) (typed (operand_at names))
  one-in = finds-typed IsOperandIn (operand_at names) (operand_read names)

  bin-in : (op : BinOp) → Finds IsInstIn (bin_at names op)
  bin-in op ks are =
      read-where IsInstIn (allows op (flags_at ks).0) _
      (λ e. read-behind IsInstIn (flags_at ks).1 _
      (read-map (λ (f : Scalar × (Operand × Operand)). ArePair f.1) IsInstIn _ (typed (pair_at names) (drop (flags_at ks).1 ks)) (pairs-in (drop (flags_at ks).1 ks) (dropped_lexemes (flags_at ks).1 ks are))
      (λ f p. two f.0.1.0 f.0.1.1 p.0 p.1)))

  icmp-in : Finds IsInstIn (icmp_at names)
  icmp-in [] are = tt
  icmp-in ((is.Free (free.Pred pred), text) ∷ ks) are =
      read-behind IsInstIn 1 _
      (read-map (λ (f : Scalar × (Operand × Operand)). ArePair f.1) IsInstIn _ (typed (pair_at names) ks) (pairs-in ks (lexemes_behind (is.Free (free.Pred pred), text) ks are)) (λ f p. two f.0.1.0 f.0.1.1 p.0 p.1))
  icmp-in (k ∷ ks) are = tt

  select-in : Finds IsInstIn (select_at names)
  select-in ks are =
      finds-then IsOperandIn (λ (f : Scalar × (Operand × Operand)). ArePair f.1) IsInstIn (λ cond f. inst.Select f.0 cond f.1.0 f.1.1) ks are (typed (pair_at names)) (operand_at names I1 ks)
      (operand_read names I1 ks are) pairs-in
      (λ cond f p q. and_from (is_operand_in_range cond && is_operand_in_range f.1.0) (is_operand_in_range f.1.1) (two cond f.1.0 p q.0) q.1)

  cast-in : (op : CastOp) → Finds IsInstIn (cast_at names op)
  cast-in op ks are =
      read-where IsInstIn (allows_nneg op (nneg_at ks).0) _
      (λ e. read-behind IsInstIn (nneg_at ks).1 _
      (finds-then (λ (f : Scalar × Operand). IsOperandIn f.1) Any IsInstIn (λ f to. inst.Cast op (nneg_at ks).0 f.0 to f.1) (drop (nneg_at ks).1 ks) (dropped_lexemes (nneg_at ks).1 ks are) scalar_at
      (typed (operand_at names) (drop (nneg_at ks).1 ks)) (one-in (drop (nneg_at ks).1 ks) (dropped_lexemes (nneg_at ks).1 ks are)) (λ rest bytes. read-any (scalar_at rest)) (λ f to p any. p)))

  abbrev IsCounted : Ty × ℕ → Type 0
  IsCounted f = IsTypeIn f.0 × IsCount f.1

  alloca-in : Finds IsInstIn (alloca_at names)
  alloca-in ks are =
      finds-aligned IsCounted IsInstIn made_alloca ks _
      (finds-then IsTypeIn IsCount IsCounted (λ ty count. (ty, count)) ks are count_at (written_type names.env.types ks) (written_in names.env.types looks ks) (λ rest bytes. count-below rest) (λ ty count p q. (p, q)))
      (λ f align p. and_from (is_type_in_range f.0) (nat_lt f.1 (2 ^ 64)) p.0 p.1)

  load-in : Finds IsInstIn (load_at names)
  load-in ks are =
      finds-aligned (λ (f : Scalar × Operand). IsOperandIn f.1) IsInstIn made_load ks _ (finds-typed IsOperandIn (λ ty. operand_at names Ptr) (λ ty. operand_read names Ptr) ks are) (λ f align p. p)

  abbrev AreStored : (Scalar × Operand) × Operand → Type 0
  AreStored f = IsOperandIn f.0.1 × IsOperandIn f.1

  store-in : Finds IsInstIn (store_at names)
  store-in ks are =
      finds-aligned AreStored IsInstIn made_store ks _
      (finds-then (λ (f : Scalar × Operand). IsOperandIn f.1) IsOperandIn AreStored (λ f at. (f, at)) ks are (operand_at names Ptr) (typed (operand_at names) ks) (one-in ks are) (operand_read names Ptr) (λ f at p q. (p, q)))
      (λ f align p. two f.0.1 f.1 p.0 p.1)

  abbrev IsBase : Ty × Operand → Type 0
  IsBase f = IsTypeIn f.0 × IsOperandIn f.1

  gep-in : Finds IsInstIn (gep_at names)
  gep-in ks are =
      read-behind IsInstIn (inbounds_at ks).1 _
      (finds-then IsBase (All (λ (f : Scalar × Operand). IsOperandIn f.1)) IsInstIn (made_gep (inbounds_at ks).0) rest bytes (runs is_integer (typed (operand_at names))) _
      (finds-then IsTypeIn IsOperandIn IsBase (λ ty base. (ty, base)) rest bytes (operand_at names Ptr) (written_type names.env.types rest) (written_in names.env.types looks rest) (operand_read names Ptr) (λ ty base p q. (p, q)))
      (run_in (λ (f : Scalar × Operand). IsOperandIn f.1) is_integer (typed (operand_at names)) one-in 0)
      (λ f indices p q. and_from (is_type_in_range f.0 && is_operand_in_range f.1) (list_all (λ (index : Scalar × Operand). is_operand_in_range index.1) indices)
      (and_from (is_type_in_range f.0) (is_operand_in_range f.1) p.0 p.1) (list_all-from_AllPass (λ (index : Scalar × Operand). is_operand_in_range index.1) indices q)))
    where
      rest : List Kept
      rest = drop (inbounds_at ks).1 ks

      bytes : LexemesAreBytes rest
      bytes = dropped_lexemes (inbounds_at ks).1 ks are

  -- ---- calls

  abbrev IsArgIn : Arg → Type 0
  IsArgIn arg = IsOperandIn arg.value

  arg-in : Finds IsArgIn (arg_at names)
  arg-in [] are = tt
  arg-in ((is.Scalar ty, text) ∷ ks) are =
      read-behind IsArgIn (1 + (ext_at ks).1) _
      (read-map IsOperandIn IsArgIn _ (operand_at names ty (drop (ext_at ks).1 ks)) (operand_read names ty (drop (ext_at ks).1 ks) (dropped_lexemes (ext_at ks).1 ks (lexemes_behind (is.Scalar ty, text) ks are))) (λ f p. p))
  arg-in (k ∷ ks) are = tt

  args-in : Finds (All IsArgIn) (args_at names)
  args-in ks are = read-closed (All IsArgIn) is_close_paren ks _ (run_in IsArgIn (λ shape. not (is_close_paren shape)) (arg_at names) arg-in 0 ks are)

  made-in : (fn_ty : FnType) (ext : Ext) (callee : Operand) (args : List Arg) (n : ℕ) → IsOperandIn callee → All IsArgIn args → IsRead IsInstIn (option_map (λ i. (i, n)) (made_call names fn_ty ext callee args))
  made-in fn_ty ext callee args n p q = cases (is_call names fn_ty callee args)
    where
      cases : (b : Bool) → IsRead IsInstIn (option_map (λ i. (i, n)) (cond b (Some (inst.Call fn_ty ext callee args)) None))
      cases true = and_from (is_operand_in_range callee) (list_all (λ (arg : Arg). is_operand_in_range arg.value) args) p (list_all-from_AllPass (λ (arg : Arg). is_operand_in_range arg.value) args q)
      cases false = tt

  callee-in : (ext : Ext) (returns : Option Scalar) (whole : Option (List Scalar × Bool)) → Finds IsInstIn (callee_at names ext returns whole)
  callee-in ext returns whole ks are =
      read-next IsOperandIn IsInstIn _ (operand_at names Ptr ks) (operand_read names Ptr ks are)
      (λ f p. read-behind IsInstIn f.1 _
      (read-next (All IsArgIn) IsInstIn _ (args_at names (drop f.1 ks)) (args-in (drop f.1 ks) (dropped_lexemes f.1 ks are)) (λ args q. made-in (call_type returns whole args.0) ext f.0 args.0 args.1 p q)))

  abbrev IsCallIn : Option Inst → Type 0
  IsCallIn found = IfSome found IsInstIn

  kept-in : (found : Option (Inst × ℕ)) → IsRead IsInstIn found → IsRead IsCallIn (option_map (λ f. (Some f.0, f.1)) found)
  kept-in None h = tt
  kept-in (Some f) h = h

  dropped-in : (text : List ℕ) → IsRead IsCallIn (dropped_callee_at text)
  dropped-in text = cases (is_name (name_of (drop 1 text)))
    where
      cases : (b : Bool) → IsRead IsCallIn (cond b (Some (None, 1)) None)
      cases true = tt
      cases false = tt

  void-in : (ext : Ext) (whole : Option (List Scalar × Bool)) → Finds IsCallIn (void_callee_at names ext whole)
  void-in ext whole [] are = kept-in (callee_at names ext None whole []) (callee-in ext None whole [] are)
  void-in ext whole ((is.At at.Debug, text) ∷ ks) are = dropped-in text
  void-in ext whole (k ∷ ks) are = kept-in (callee_at names ext None whole (k ∷ ks)) (callee-in ext None whole (k ∷ ks) are)

  -- what follows the whole type, wherever one is read
  whole-in : (next : Option (List Scalar × Bool) → Reading (Option Inst)) → ((whole : Option (List Scalar × Bool)) → Finds IsCallIn (next whole)) →
      Finds IsCallIn (λ ks. option_and_then (λ whole. behind whole.1 (next whole.0 (drop whole.1 ks))) (whole_at ks))
  whole-in next h ks are = cases (whole_at ks)
    where
      cases : (found : Option (Option (List Scalar × Bool) × ℕ)) → IsRead IsCallIn (option_and_then (λ whole. behind whole.1 (next whole.0 (drop whole.1 ks))) found)
      cases None = tt
      cases (Some whole) = read-behind IsCallIn whole.1 (next whole.0 (drop whole.1 ks)) (h whole.0 (drop whole.1 ks) (dropped_lexemes whole.1 ks are))

  returning-in : (ext : Ext) → Finds IsCallIn (returning_at names ext)
  returning-in ext [] are = tt
  returning-in ext ((is.Returned ty, text) ∷ ks) are =
      read-behind IsCallIn 1 _
      (whole-in (λ whole rest. option_map (λ f. (Some f.0, f.1)) (callee_at names ext (Some ty) whole rest))
      (λ whole rest bytes. kept-in (callee_at names ext (Some ty) whole rest) (callee-in ext (Some ty) whole rest bytes)) ks (lexemes_behind (is.Returned ty, text) ks are))
  returning-in ext ((is.Void, text) ∷ ks) are = read-behind IsCallIn 1 _ (whole-in (void_callee_at names ext) (void-in ext) ks (lexemes_behind (is.Void, text) ks are))
  returning-in ext (k ∷ ks) are = tt

  call-in : Finds IsCallIn (call_at names)
  call-in ks are = read-behind IsCallIn (ext_at ks).1 _ (returning-in (ext_at ks).0 (drop (ext_at ks).1 ks) (dropped_lexemes (ext_at ks).1 ks are))

  -- ---- phis

  abbrev IsEntryIn : Operand × ℕ → Type 0
  IsEntryIn entry = IsOperandIn entry.0

  entry-in : (ty : Scalar) → Finds IsEntryIn (entry_at names ty)
  entry-in ty [] are = tt
  entry-in ty ((is.OpenSquare, text) ∷ ks) are =
      read-behind IsEntryIn 1 _
      (finds-then IsOperandIn Any IsEntryIn (λ a l. (a, l)) ks (lexemes_behind (is.OpenSquare, text) ks are) (block_at names) (operand_at names ty ks) (operand_read names ty ks (lexemes_behind (is.OpenSquare, text) ks are))
      (λ rest bytes. read-any (block_at names rest)) (λ a l p any. p))
  entry-in ty (k ∷ ks) are = tt

  made-phi : (ty : Scalar) (f : List (Operand × ℕ) × ℕ) → All IsEntryIn f.0 → IsRead IsPhiIn (made_phi ty f)
  made-phi ty f h =
      read-where IsPhiIn (nat_lt 0 (length f.0)) (Some (record { ty = ty; entries = f.0 }, f.1)) (λ e. list_all-from_AllPass (λ (entry : Operand × ℕ). is_operand_in_range entry.0) f.0 h)

  phi-in : Finds IsPhiIn (phi_at names)
  phi-in [] are = tt
  phi-in ((is.Scalar ty, text) ∷ ks) are =
      read-behind IsPhiIn 1 _
      (read-next (All IsEntryIn) IsPhiIn (made_phi ty) (runs is_open_square (entry_at names ty) ks)
      (run_in IsEntryIn is_open_square (entry_at names ty) (entry-in ty) 0 ks (lexemes_behind (is.Scalar ty, text) ks are)) (made-phi ty))
  phi-in (k ∷ ks) are = tt

  -- ---- terminators

  value-in : Finds IsTermIn (λ ks. option_map (λ f. (term.Ret f.0.0 f.0.1, f.1)) (typed (operand_at names) ks))
  value-in ks are = read-map (λ (f : Scalar × Operand). IsOperandIn f.1) IsTermIn _ (typed (operand_at names) ks) (one-in ks are) (λ f p. p)

  ret-in : Finds IsTermIn (ret_at names)
  ret-in [] are = value-in [] are
  ret-in ((is.Void, text) ∷ ks) are = refl
  ret-in (k ∷ ks) are = value-in (k ∷ ks) are

  jump-in : (ks : List Kept) → IsRead IsTermIn (option_map (λ f. (term.Br f.0, f.1)) (block_at names ks))
  jump-in ks = read-map Any IsTermIn _ (block_at names ks) (read-any (block_at names ks)) (λ f any. refl)

  br-in : Finds IsTermIn (br_at names)
  br-in [] are = jump-in []
  br-in ((is.Scalar I1, text) ∷ ks) are =
      read-behind IsTermIn 1 _
      (finds-then IsEntryIn Any IsTermIn made_branch ks bytes (block_at names) _
      (finds-then IsOperandIn Any IsEntryIn (λ cond one. (cond, one)) ks bytes (block_at names) (operand_at names I1 ks) (operand_read names I1 ks bytes) (λ rest after. read-any (block_at names rest)) (λ cond one p any. p))
      (λ rest after. read-any (block_at names rest)) (λ f other p any. p))
    where
      bytes : LexemesAreBytes ks
      bytes = lexemes_behind (is.Scalar I1, text) ks are
  br-in (k ∷ ks) are = jump-in (k ∷ ks)

  switch-in : Finds IsTermIn (switch_at names)
  switch-in [] are = tt
  switch-in ((is.Scalar ty, text) ∷ ks) are =
      read-behind IsTermIn 1 _
      (finds-then IsEntryIn Any IsTermIn (made_switch ty) ks bytes (cases_at names ty) _
      (finds-then IsOperandIn Any IsEntryIn (λ value default. (value, default)) ks bytes (block_at names) (operand_at names ty ks) (operand_read names ty ks bytes) (λ rest after. read-any (block_at names rest)) (λ value default p any. p))
      (λ rest after. read-any (cases_at names ty rest)) (λ f cases p any. p))
    where
      bytes : LexemesAreBytes ks
      bytes = lexemes_behind (is.Scalar ty, text) ks are
  switch-in (k ∷ ks) are = tt

  -- ---- lines

  inst-line : (found : Option (Inst × ℕ)) → IsRead IsInstIn found → IsRead IsLineIn (inst_line found)
  inst-line None h = tt
  inst-line (Some f) h = h

  term-line : (found : Option (Term × ℕ)) → IsRead IsTermIn found → IsRead IsLineIn (term_line found)
  term-line None h = tt
  term-line (Some f) h = h

  phi-line : (found : Option (Phi × ℕ)) → IsRead IsPhiIn found → IsRead IsLineIn (option_map (λ f. (OfPhi f.0, f.1)) found)
  phi-line None h = tt
  phi-line (Some f) h = h

  call-line : (found : Option (Option Inst × ℕ)) → IsRead IsCallIn found → IsRead IsLineIn (option_map (λ f. (dropped_or f.0, f.1)) found)
  call-line None h = tt
  call-line (Some (None, n)) h = tt
  call-line (Some (Some i, n)) h = h

  verb-in : (shape : Shape) → Finds IsLineIn (verb_at names shape)
  verb-in (is.Bin op) ks are = inst-line (bin_at names op ks) (bin-in op ks are)
  verb-in is.Icmp ks are = inst-line (icmp_at names ks) (icmp-in ks are)
  verb-in is.Select ks are = inst-line (select_at names ks) (select-in ks are)
  verb-in (is.Cast op) ks are = inst-line (cast_at names op ks) (cast-in op ks are)
  verb-in is.Alloca ks are = inst-line (alloca_at names ks) (alloca-in ks are)
  verb-in is.Load ks are = inst-line (load_at names ks) (load-in ks are)
  verb-in is.Store ks are = inst-line (store_at names ks) (store-in ks are)
  verb-in is.Gep ks are = inst-line (gep_at names ks) (gep-in ks are)
  verb-in is.Call ks are = call-line (call_at names ks) (call-in ks are)
  verb-in is.Phi ks are = phi-line (phi_at names ks) (phi-in ks are)
  verb-in is.Ret ks are = term-line (ret_at names ks) (ret-in ks are)
  verb-in is.Br ks are = term-line (br_at names ks) (br-in ks are)
  verb-in is.Switch ks are = term-line (switch_at names ks) (switch-in ks are)
  verb-in is.Unreachable ks are = refl
  verb-in shape ks are = tt

  -- A line of lexemes of bytes is in range.
  pub line-in : Finds IsLineIn (line_at names)
  line-in [] are = tt
  line-in ((is.Label, text) ∷ ks) are = tt
  line-in ((is.Result, text) ∷ []) are = tt
  line-in ((is.Result, text) ∷ k ∷ ks) are = read-behind IsLineIn 2 (verb_at names k.0 ks) (verb-in k.0 ks (lexemes_behind k ks (lexemes_behind (is.Result, text) (k ∷ ks) are)))
  line-in (k ∷ ks) are = read-behind IsLineIn 1 (verb_at names k.0 ks) (verb-in k.0 ks (lexemes_behind k ks are))
