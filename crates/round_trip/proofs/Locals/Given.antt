-- Each phi and each instruction with a result gives one, and no other line does.
use Rattle.std.proofs.Common.{◌≡◌, ◌∙◌, ℕ, Bool, true, false, cond, eqb, codes, List, [], ◌∷◌, ◌++◌, map, Option, Some, None, refl, ap, append_assoc}
use Rattle.std.proofs.lemmas.Bool.{cond-true, cond_both}
use Rattle.ir_types.specs.declared.scalar.Scalar.{Scalar}
use Rattle.ir_types.specs.declared.scalar.Scalar.TheVariants.{I1, I64, Ptr}
use Rattle.ir_types.specs.declared.scalar.Ext.{Ext}
use Rattle.ir_types.specs.declared.scalar.Ext.TheVariants as ext
use Rattle.ir_types.specs.declared.scalar.Flags.{Flags}
use Rattle.ir_types.specs.declared.scalar.FnType.{FnType}
use Rattle.ir_syntax.specs.declared.constant.Operand.{Operand}
use Rattle.ir_syntax.specs.declared.body.Arg.{Arg}
use Rattle.ir_syntax.specs.declared.body.Phi.{Phi}
use Rattle.ir_syntax.specs.declared.body.Inst.{Inst}
use Rattle.ir_syntax.specs.declared.body.Inst.TheVariants as inst
use Rattle.ir_syntax.specs.declared.body.Term.{Term}
use Rattle.ir_syntax.specs.declared.body.Term.TheVariants as term
use Rattle.ir_syntax.specs.Results.{result_type}
use Rattle.ir_grammar.specs.declared.shape.Shape.{Shape}
use Rattle.ir_grammar.specs.declared.shape.Shape.TheVariants as is
use Rattle.ir_grammar.specs.declared.shape.Free.TheVariants as free
use Rattle.ir_grammar.specs.declared.shape.Flag.{Flag}
use Rattle.ir_grammar.specs.declared.shape.Flag.TheVariants as flag
use Rattle.ir_grammar.specs.Tokens.{Kept}
use Rattle.ir_locals.specs.Locals.{has_result, results_from, label_names}
use Rattle.ir_writer.specs.Words.{op_text, cast_text, pred_text}
use Rattle.ir_writer.specs.Instructions.{is_whole}
use Rattle.round_trip.proofs.Grammar.Kept.{Lexemes, joined, close_paren_kept, close_square_kept, scalar_kept, integer_kept, type_kept, operand_kept, typed_kept, pair_kept, block_kept_name, align_kept, flag_kept, flags_kept, ext_kept, dots_kept, whole_kept, arg_kept, call_returned_kept, count_kept, inst_kept, entry_kept, phi_kept, case_kept, term_kept}
use Rattle.round_trip.proofs.Locals.Still.{Still, still_append, still_more, still_joined, type_still, integer_still, operand_still, pair_still, still_results, still_labels}

-- ---- parts of lines

align_still : (align : Option ℕ) → Still (align_kept align)
align_still None = refl
align_still (Some exponent) = refl

flag_still : (on : Bool) (f : Flag) (text : List ℕ) → Still (flag_kept on f text)
flag_still false f text = refl
flag_still true f text = refl

flags_still : (flags : Flags) → Still (flags_kept flags)
flags_still flags =
    let disjoint = flag_still flags.disjoint flag.Disjoint (codes "disjoint") in
    let exact = still_append (flag_kept flags.exact flag.Exact (codes "exact")) _ (flag_still flags.exact flag.Exact (codes "exact")) disjoint in
    let nsw = still_append (flag_kept flags.nsw flag.Nsw (codes "nsw")) _ (flag_still flags.nsw flag.Nsw (codes "nsw")) exact in
    still_append (flag_kept flags.nuw flag.Nuw (codes "nuw")) _ (flag_still flags.nuw flag.Nuw (codes "nuw")) nsw

ext_still : (e : Ext) → Still (ext_kept e)
ext_still ext.Plain = refl
ext_still ext.Signed = refl
ext_still ext.Unsigned = refl

scalars_still : (tys : List Scalar) → Still (map scalar_kept tys)
scalars_still [] = refl
scalars_still (ty ∷ tys) = scalars_still tys

dots_still : (variadic : Bool) → Still (dots_kept variadic)
dots_still false = refl
dots_still true = refl

whole_still : (fn_ty : FnType) → Still (whole_kept fn_ty)
whole_still fn_ty =
    still_append (map scalar_kept fn_ty.params) (dots_kept fn_ty.variadic ++ close_paren_kept ∷ []) (scalars_still fn_ty.params)
    (still_append (dots_kept fn_ty.variadic) (close_paren_kept ∷ []) (dots_still fn_ty.variadic) refl)

count_still : (count : ℕ) → Still (count_kept count)
count_still count = cond_both (eqb count 1) [] (scalar_kept I64 ∷ integer_kept I64 count ∷ []) Still (λ e. refl) (λ e. refl)

module _ (names : List (List ℕ)) where
  arg_still : (arg : Arg) → Still (arg_kept names arg)
  arg_still arg = still_append (ext_kept arg.ext) (operand_kept names arg.ty arg.value) (ext_still arg.ext) (operand_still names arg.ty arg.value)

  index_still : (index : Scalar × Operand) → Still (typed_kept names index.0 index.1)
  index_still index = operand_still names index.0 index.1

  entry_still : (ty : Scalar) (entry : Operand × ℕ) → Still (entry_kept names ty entry)
  entry_still ty entry = still_append (operand_kept names ty entry.0) (block_kept_name entry.1 ∷ []) (operand_still names ty entry.0) refl

  case_still : (ty : Scalar) (case : ℕ × ℕ) → Still (case_kept ty case)
  case_still ty case = still_more (integer_kept ty case.0) (block_kept_name case.1 ∷ []) (integer_still ty case.0) refl

  -- what stands behind the type that a call returns
  abbrev called : FnType → Operand → List Arg → Lexemes
  called fn_ty callee args = (cond (is_whole fn_ty args) (whole_kept fn_ty) []) ++ (operand_kept names Ptr callee ++ (joined (map (arg_kept names) args) ++ close_paren_kept ∷ []))

  called_still : (fn_ty : FnType) (callee : Operand) (args : List Arg) → Still (called fn_ty callee args)
  called_still fn_ty callee args =
      still_append (cond (is_whole fn_ty args) (whole_kept fn_ty) []) (operand_kept names Ptr callee ++ (joined (map (arg_kept names) args) ++ close_paren_kept ∷ []))
      (cond_both (is_whole fn_ty args) (whole_kept fn_ty) [] Still (λ e. whole_still fn_ty) (λ e. refl))
      (still_append (operand_kept names Ptr callee) (joined (map (arg_kept names) args) ++ close_paren_kept ∷ []) (operand_still names Ptr callee)
      (still_append (joined (map (arg_kept names) args)) (close_paren_kept ∷ []) (still_joined (arg_kept names) arg_still args) refl))

  store_still : (ty : Scalar) (value at : Operand) (align : Option ℕ) → Still (inst_kept names (inst.Store ty value at align))
  store_still ty value at align =
      still_append (typed_kept names ty value) (operand_kept names Ptr at ++ align_kept align) (operand_still names ty value)
      (still_append (operand_kept names Ptr at) (align_kept align) (operand_still names Ptr at) (align_still align))

  void_still : (returns : Option Scalar) (ret_ext : Ext) (ks : List Kept) → returns ≡ None → Still ks → Still (ext_kept ret_ext ++ call_returned_kept returns ∷ ks)
  void_still None ret_ext ks none h = still_append (ext_kept ret_ext) (call_returned_kept None ∷ ks) (ext_still ret_ext) h
  void_still (Some ty) ret_ext ks none h = absurd (cc)

  -- an instruction without result
  pub inst_still : (i : Inst) → result_type i ≡ None → Still (inst_kept names i)
  inst_still (inst.Bin op flags ty a b) none = absurd (cc)
  inst_still (inst.Icmp pred ty a b) none = absurd (cc)
  inst_still (inst.Select ty c a b) none = absurd (cc)
  inst_still (inst.Cast op nneg from to a) none = absurd (cc)
  inst_still (inst.Alloca ty count align) none = absurd (cc)
  inst_still (inst.Load ty at align) none = absurd (cc)
  inst_still (inst.Store ty value at align) none = store_still ty value at align
  inst_still (inst.Gep inbounds ty base indices) none = absurd (cc)
  inst_still (inst.Call fn_ty ret_ext callee args) none = void_still fn_ty.returns ret_ext (called fn_ty callee args) none (called_still fn_ty callee args)

  pub term_still : (t : Term) → Still (term_kept names t)
  term_still term.RetVoid = refl
  term_still (term.Ret ty value) = operand_still names ty value
  term_still (term.Br to) = refl
  term_still (term.CondBr c one other) = still_append (operand_kept names I1 c) (block_kept_name one ∷ block_kept_name other ∷ []) (operand_still names I1 c) refl
  term_still (term.Switch ty value default cases) =
      still_append (operand_kept names ty value) (block_kept_name default ∷ (joined (map (case_kept ty) cases) ++ close_square_kept ∷ [])) (operand_still names ty value)
      (still_append (joined (map (case_kept ty) cases)) (close_square_kept ∷ []) (still_joined (case_kept ty) (case_still ty) cases) refl)
  term_still term.Unreachable = refl

-- ---- lines with a result

-- One result stands among the lexemes, no name of one and no label.
pub record Gives (ks : List Kept) : Type 0 where
  pub results : (pending : Option (List ℕ)) (rest : List Kept) → results_from pending (ks ++ rest) ≡ pending ∷ results_from None rest
  pub labels : (rest : List Kept) → label_names (ks ++ rest) ≡ label_names rest

-- behind a word that has a result
word_gives : (word : Shape) (text : List ℕ) (ks : List Kept) → has_result word ≡ true → ((rest : List Kept) → label_names ((word, text) ∷ rest) ≡ label_names rest) → Still ks → Gives ((word, text) ∷ ks)
word_gives word text ks has unlabelled h = record {
  results = λ pending rest. cond-true (has_result word) _ _ has ∙ ap (λ rs. pending ∷ rs) (still_results ks rest None h);
  labels = λ rest. unlabelled (ks ++ rest) ∙ still_labels ks rest h;
}

before_gives : (before ks : List Kept) → Still before → Gives ks → Gives (before ++ ks)
before_gives before ks h g = record {
  results = λ pending rest. ap (results_from pending) (append_assoc before ks rest) ∙ (still_results before (ks ++ rest) pending h ∙ g.results pending rest);
  labels = λ rest. ap label_names (append_assoc before ks rest) ∙ (still_labels before (ks ++ rest) h ∙ g.labels rest);
}

module _ (names : List (List ℕ)) where
  returned_gives : (returns : Option Scalar) (ty : Scalar) (ks : List Kept) → returns ≡ Some ty → Still ks → Gives (call_returned_kept returns ∷ ks)
  returned_gives None ty ks some h = absurd (cc)
  returned_gives (Some r) ty ks some h = word_gives (is.Returned r) _ ks refl (λ rest. refl) h

  pub inst_gives : (i : Inst) (result : Scalar) → result_type i ≡ Some result → Gives (inst_kept names i)
  inst_gives (inst.Bin op flags ty a b) result some =
      word_gives (is.Bin op) (op_text op) (flags_kept flags ++ pair_kept names ty a b) refl (λ rest. refl) (still_append (flags_kept flags) (pair_kept names ty a b) (flags_still flags) (pair_still names ty a b))
  inst_gives (inst.Icmp pred ty a b) result some =
      word_gives is.Icmp (codes "icmp") ((is.Free (free.Pred pred), pred_text pred) ∷ pair_kept names ty a b) refl (λ rest. refl) (pair_still names ty a b)
  inst_gives (inst.Select ty c a b) result some =
      word_gives is.Select (codes "select") (operand_kept names I1 c ++ pair_kept names ty a b) refl (λ rest. refl)
      (still_append (operand_kept names I1 c) (pair_kept names ty a b) (operand_still names I1 c) (pair_still names ty a b))
  inst_gives (inst.Cast op nneg from to a) result some =
      word_gives (is.Cast op) (cast_text op) (flag_kept nneg flag.Nneg (codes "nneg") ++ (typed_kept names from a ++ scalar_kept to ∷ [])) refl (λ rest. refl)
      (still_append (flag_kept nneg flag.Nneg (codes "nneg")) (typed_kept names from a ++ scalar_kept to ∷ []) (flag_still nneg flag.Nneg (codes "nneg"))
      (still_append (typed_kept names from a) (scalar_kept to ∷ []) (operand_still names from a) refl))
  inst_gives (inst.Alloca ty count align) result some =
      word_gives is.Alloca (codes "alloca") (type_kept ty ++ (count_kept count ++ align_kept align)) refl (λ rest. refl)
      (still_append (type_kept ty) (count_kept count ++ align_kept align) (type_still ty) (still_append (count_kept count) (align_kept align) (count_still count) (align_still align)))
  inst_gives (inst.Load ty at align) result some =
      word_gives is.Load (codes "load") (scalar_kept ty ∷ (operand_kept names Ptr at ++ align_kept align)) refl (λ rest. refl)
      (still_append (operand_kept names Ptr at) (align_kept align) (operand_still names Ptr at) (align_still align))
  inst_gives (inst.Store ty value at align) result some = absurd (cc)
  inst_gives (inst.Gep inbounds ty base indices) result some =
      word_gives is.Gep (codes "getelementptr")
      (flag_kept inbounds flag.Inbounds (codes "inbounds") ++ (type_kept ty ++ (operand_kept names Ptr base ++ joined (map (λ (index : Scalar × Operand). typed_kept names index.0 index.1) indices)))) refl (λ rest. refl)
      (still_append (flag_kept inbounds flag.Inbounds (codes "inbounds")) _ (flag_still inbounds flag.Inbounds (codes "inbounds"))
      (still_append (type_kept ty) _ (type_still ty)
      (still_append (operand_kept names Ptr base) _ (operand_still names Ptr base) (still_joined (λ (index : Scalar × Operand). typed_kept names index.0 index.1) (index_still names) indices))))
  inst_gives (inst.Call fn_ty ret_ext callee args) result some =
      before_gives ((is.Call, codes "call") ∷ ext_kept ret_ext) (call_returned_kept fn_ty.returns ∷ called names fn_ty callee args) (ext_still ret_ext)
      (returned_gives fn_ty.returns result (called names fn_ty callee args) some (called_still names fn_ty callee args))

  pub phi_gives : (phi : Phi) → Gives (phi_kept names phi)
  phi_gives phi =
      word_gives is.Phi (codes "phi") (scalar_kept phi.ty ∷ joined (map (entry_kept names phi.ty) phi.entries)) refl (λ rest. refl)
      (still_joined (entry_kept names phi.ty) (entry_still names phi.ty) phi.entries)
