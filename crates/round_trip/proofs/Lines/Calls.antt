-- Calls are read again.
use Rattle.std.proofs.Common.{◌≡◌, ◌∙◌, ℕ, suc, ◌+◌, Bool, true, not, ◌&&◌, ◌||◌, nat_le, List, [], ◌∷◌, ◌++◌, length, map, Option, Some, None, option_map, option_and_then, refl, sym, ap, arith, append_assoc}
use Rattle.std.specs.Prelude.{All}
use Rattle.std.specs.List.{list_all}
use Rattle.std.proofs.lemmas.Bool.{and_parts, and_from, cond-true, le-leb}
use Rattle.std.proofs.lemmas.List.Elements.{All-nil, All-cons, All-head, All-tail}
use Rattle.ir_types.specs.declared.scalar.Scalar.{Scalar}
use Rattle.ir_types.specs.declared.scalar.Scalar.TheVariants.{I1, Ptr}
use Rattle.ir_types.specs.declared.scalar.Ext.{Ext}
use Rattle.ir_types.specs.declared.scalar.Ext.TheVariants as ext
use Rattle.ir_types.specs.declared.scalar.FnType.{FnType}
use Rattle.ir_syntax.specs.declared.constant.Const.TheVariants.{outs-Int}
use Rattle.ir_syntax.specs.declared.constant.Operand.{Operand}
use Rattle.ir_syntax.specs.declared.body.Arg.{Arg}
use Rattle.ir_syntax.specs.declared.body.Inst.{Inst}
use Rattle.ir_syntax.specs.declared.body.Inst.TheVariants as inst
use Rattle.ir_syntax.specs.FormedBody.{Places, IsOperand, EndsInFalse, FormedCall}
use Rattle.ir_scope.specs.Runs.{behind, runs}
use Rattle.ir_constants.specs.Constants.{is_close_paren}
use Rattle.ir_operands.specs.Operands.{Names, operand_at}
use Rattle.ir_operands.specs.Marks.{ext_at}
use Rattle.ir_calls.specs.Calls.{arg_at, args_at, calls_intrinsic, is_zero, is_false, ends_in_false, is_call, call_type, made_call, callee_at, void_callee_at, returning_at, whole_at, call_at}
use Rattle.ir_writer.specs.Ranges.{is_operand_in_range}
use Rattle.round_trip.proofs.Grammar.Kept.{Lexemes, joined, operand_kept, ext_kept, arg_kept, close_paren_kept, call_returned_kept}
use Rattle.round_trip.proofs.Constants.Runs.{IsReadBack, runs_back}
use Rattle.round_trip.proofs.Lines.Words.{one_more, next_back, front_back, ended_back}
use Rattle.round_trip.proofs.Lines.Flags.{or_given, ext_back}
use Rattle.round_trip.proofs.Lines.Operands.{no_whole, no_ext, not_dropped}
use Rattle.round_trip.proofs.Lines.Names.{ReadsBack}
use Rattle.round_trip.proofs.Lines.WholeTypes.{given, given_kept, whole_back, called}

behind_next : {X : Type 0} (n : ℕ) (found : Option (X × ℕ)) → behind (1 + n) found ≡ behind 1 (behind n found)
behind_next n None = refl
behind_next n (Some f) = let e : 1 + n + f.1 ≡ 1 + (n + f.1) = omega arith in ap (λ m. Some (f.0, m)) e

ends_back : (args : List Arg) → EndsInFalse args → ends_in_false args ≡ true
ends_back [] e = absurd e
ends_back (arg ∷ []) e = ap (λ ty. is_false ty arg.value) e.0 ∙ ap (is_false I1) e.1 ∙ ap is_zero (outs-Int 0)
ends_back (arg ∷ next ∷ more) e = ends_back (next ∷ more) e

no_ext_returned : (returns : Option Scalar) (rest : Lexemes) → ext_at (call_returned_kept returns ∷ rest) ≡ (ext.Plain, 0)
no_ext_returned None rest = refl
no_ext_returned (Some ty) rest = refl

module _ (names : List (List ℕ)) (N : Names) (places : Places) (r : ReadsBack names N places) where
  -- ---- arguments

  -- An argument is read again, whatever follows.
  abbrev IsArgBack : Arg → Type 0
  IsArgBack arg = IsReadBack (λ shape. not (is_close_paren shape)) (arg_at N) arg (arg_kept names arg)

  abbrev IsValue : Arg → Type 0
  IsValue arg = IsOperand places arg.ty arg.value

  abbrev in_range : Arg → Bool
  in_range arg = is_operand_in_range arg.value

  arg_back : (arg : Arg) → IsValue arg → in_range arg ≡ true → IsArgBack arg
  arg_back arg is_there has = record {
    starts = refl;
    back = λ rest.
        behind_next (ext_at ((ext_kept arg.ext ++ operand_kept names arg.ty arg.value) ++ rest)).1 _
        ∙ one_more arg (length (ext_kept arg.ext ++ operand_kept names arg.ty arg.value)) _
        (front_back {Y = Arg} (λ e. true) ext_at (λ e ks. option_map (λ f. (record { ty = arg.ty; ext = e; value = f.0 }, f.1)) (operand_at N arg.ty ks)) arg.ext arg
        (ext_kept arg.ext) (operand_kept names arg.ty arg.value) rest refl
        (ext_back arg.ext (operand_kept names arg.ty arg.value ++ rest) (no_ext names places r.plain arg.ty arg.value is_there rest))
        (ap (option_map (λ f. (record { ty = arg.ty; ext = arg.ext; value = f.0 }, f.1))) (r.operands arg.ty arg.value is_there has rest)));
  }

  args_are : (args : List Arg) → All IsValue args → list_all in_range args ≡ true → All IsArgBack args
  args_are [] are has = All-nil IsArgBack
  args_are (arg ∷ args) are has =
      let two = and_parts (in_range arg) (list_all in_range args) has in
      All-cons IsArgBack arg args (arg_back arg (All-head IsValue arg args are) two.0) (args_are args (All-tail IsValue arg args are) two.1)

  abbrev args_kept : List Arg → Lexemes
  args_kept args = joined (map (arg_kept names) args) ++ close_paren_kept ∷ []

  args_back : (args : List Arg) → All IsValue args → list_all in_range args ≡ true → (rest : Lexemes) → args_at N (args_kept args ++ rest) ≡ Some (args, length (args_kept args))
  args_back args are has rest =
      ended_back is_close_paren (runs (λ shape. not (is_close_paren shape)) (arg_at N)) args (joined (map (arg_kept names) args)) close_paren_kept rest
      (runs_back (λ shape. not (is_close_paren shape)) (arg_at N) (arg_kept names) args (close_paren_kept ∷ rest) (args_are args are has) refl) refl

  -- ---- the call

  module _ (fn_ty : FnType) (ret_ext : Ext) (callee : Operand) (args : List Arg) (formed : FormedCall places fn_ty callee args) (callee_has : is_operand_in_range callee ≡ true) (args_have : list_all in_range args ≡ true) where
    abbrev the_call : Inst
    the_call = inst.Call fn_ty ret_ext callee args

    is_one : is_call N fn_ty callee args ≡ true
    is_one =
        and_from (nat_le (length fn_ty.params) 32 && nat_le (length args) 32) (not (calls_intrinsic N.env.symbols callee) || ends_in_false args)
        (and_from (nat_le (length fn_ty.params) 32) (nat_le (length args) 32) (le-leb (length fn_ty.params) 32 formed.few_params) (le-leb (length args) 32 formed.few_args))
        (or_given (calls_intrinsic N.env.symbols callee) (ends_in_false args) (λ calls. ends_back args (formed.not_volatile (r.intrinsics callee calls))))

    made_back : (returns : Option Scalar) → returns ≡ fn_ty.returns → made_call N (call_type returns (given fn_ty args) args) ret_ext callee args ≡ Some the_call
    made_back returns returned = ap (λ ty. made_call N ty ret_ext callee args) (called fn_ty args returns returned) ∙ cond-true (is_call N fn_ty callee args) (Some the_call) None is_one

    abbrev tail_kept : Lexemes
    tail_kept = operand_kept names Ptr callee ++ args_kept args

    callee_back : (returns : Option Scalar) → returns ≡ fn_ty.returns → (rest : Lexemes) → callee_at N ret_ext returns (given fn_ty args) (tail_kept ++ rest) ≡ Some (the_call, length tail_kept)
    callee_back returns returned rest =
        next_back {X = Operand} {Y = Inst} (operand_at N Ptr)
        (λ value ks. option_and_then (λ found. option_map (λ i. (i, found.1)) (made_call N (call_type returns (given fn_ty args) found.0) ret_ext value found.0)) (args_at N ks))
        callee the_call (operand_kept names Ptr callee) (args_kept args) rest (r.operands Ptr callee formed.has_callee callee_has (args_kept args ++ rest))
        (ap (option_and_then (λ found. option_map (λ i. (i, found.1)) (made_call N (call_type returns (given fn_ty args) found.0) ret_ext callee found.0))) (args_back args formed.has_args args_have rest)
        ∙ ap (option_map (λ i. (i, length (args_kept args)))) (made_back returns returned))

    kept_back : (returns : Option Scalar) → returns ≡ fn_ty.returns → (rest : Lexemes) → option_map {U = Option Inst × ℕ} (λ f. (Some f.0, f.1)) (callee_at N ret_ext returns (given fn_ty args) (tail_kept ++ rest)) ≡ Some (Some the_call, length tail_kept)
    kept_back returns returned rest = ap (option_map (λ f. (Some f.0, f.1))) (callee_back returns returned rest)

    void_back : None ≡ fn_ty.returns → (rest : Lexemes) → void_callee_at N ret_ext (given fn_ty args) (tail_kept ++ rest) ≡ Some (Some the_call, length tail_kept)
    void_back returned rest =
        ap (void_callee_at N ret_ext (given fn_ty args)) again
        ∙ not_dropped names places r.plain Ptr callee formed.has_callee (args_kept args ++ rest) N ret_ext (given fn_ty args)
        ∙ ap (λ ks. option_map (λ f. (Some f.0, f.1)) (callee_at N ret_ext None (given fn_ty args) ks)) (sym again)
        ∙ kept_back None returned rest
      where
        again : tail_kept ++ rest ≡ operand_kept names Ptr callee ++ (args_kept args ++ rest)
        again = append_assoc (operand_kept names Ptr callee) (args_kept args) rest

    no_whole_before : (rest : Lexemes) → whole_at (tail_kept ++ rest) ≡ Some (None, 0)
    no_whole_before rest = ap whole_at (append_assoc (operand_kept names Ptr callee) (args_kept args) rest) ∙ no_whole names places r.plain Ptr callee formed.has_callee (args_kept args ++ rest)

    abbrev behind_kept : Lexemes
    behind_kept = given_kept fn_ty args ++ tail_kept

    returning_back : (returns : Option Scalar) → returns ≡ fn_ty.returns → (rest : Lexemes) → returning_at N ret_ext ((call_returned_kept returns ∷ behind_kept) ++ rest) ≡ Some (Some the_call, suc (length behind_kept))
    returning_back (Some ty) returned rest =
        one_more (Some the_call) (length behind_kept) _
        (next_back {Y = Option Inst} whole_at (λ whole ks. option_map (λ f. (Some f.0, f.1)) (callee_at N ret_ext (Some ty) whole ks)) (given fn_ty args) (Some the_call) (given_kept fn_ty args) tail_kept rest
        (whole_back fn_ty args (tail_kept ++ rest) (no_whole_before rest)) (kept_back (Some ty) returned rest))
    returning_back None returned rest =
        one_more (Some the_call) (length behind_kept) _
        (next_back {Y = Option Inst} whole_at (void_callee_at N ret_ext) (given fn_ty args) (Some the_call) (given_kept fn_ty args) tail_kept rest
        (whole_back fn_ty args (tail_kept ++ rest) (no_whole_before rest)) (void_back returned rest))

    pub call_back : (rest : Lexemes) → call_at N ((ext_kept ret_ext ++ call_returned_kept fn_ty.returns ∷ behind_kept) ++ rest) ≡ Some (Some the_call, length (ext_kept ret_ext ++ call_returned_kept fn_ty.returns ∷ behind_kept))
    call_back rest =
        front_back {Y = Option Inst} (λ e. true) ext_at (returning_at N) ret_ext (Some the_call) (ext_kept ret_ext) (call_returned_kept fn_ty.returns ∷ behind_kept) rest refl
        (ext_back ret_ext ((call_returned_kept fn_ty.returns ∷ behind_kept) ++ rest) (no_ext_returned fn_ty.returns (behind_kept ++ rest))) (returning_back fn_ty.returns refl rest)
