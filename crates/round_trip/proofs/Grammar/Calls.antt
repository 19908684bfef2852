-- The grammar takes the tokens of calls.
use Rattle.std.proofs.Common.{◌≡◌, ℕ, Bool, true, false, List, [], ◌∷◌, ◌++◌, map, Option, Some, None, refl, arith}
use Rattle.std.specs.Prelude.{All, is_some, if◌then◌else◌}
use Rattle.std.proofs.lemmas.List.Elements.{All-head, All-tail}
use Rattle.ir_types.specs.declared.scalar.Scalar.{Scalar}
use Rattle.ir_types.specs.declared.scalar.Scalar.TheVariants.{Ptr}
use Rattle.ir_types.specs.declared.scalar.Ext.{Ext}
use Rattle.ir_types.specs.declared.scalar.Ext.TheVariants as ext
use Rattle.ir_types.specs.declared.scalar.FnType.{FnType}
use Rattle.ir_syntax.specs.declared.constant.Operand.{Operand}
use Rattle.ir_syntax.specs.declared.body.Arg.{Arg}
use Rattle.ir_syntax.specs.FormedBody.{Places, IsOperand, FormedCall}
use Rattle.ir_grammar.specs.declared.shape.Shape.TheVariants as is
use Rattle.ir_grammar.specs.declared.grammar.Keep.TheVariants as keep
use Rattle.ir_grammar.specs.declared.grammar.Item.TheVariants as item
use Rattle.ir_grammar.specs.declared.grammar.Name.TheVariants as the
use Rattle.ir_grammar.specs.declared.grammar.Terminal.TheVariants as a
use Rattle.ir_grammar.specs.Items as grammar
use Rattle.ir_writer.specs.Words.{Parts, scalar, space, open_paren, close_paren, listed, more, returned, ext_before, ext_behind}
use Rattle.ir_writer.specs.Instructions.{operand_parts, dots, is_whole, whole_parts, arg_parts, call_parts}
use Rattle.round_trip.proofs.Grammar.Kept.{Lexemes, joined, scalar_kept, close_paren_kept, operand_kept, ext_kept, dots_kept, whole_kept, arg_kept, call_returned_kept, call_kept}
use Rattle.round_trip.proofs.Grammar.Parts.{Through, nothing, spaced, keeps, keeps_returned, drops, then_on, Begins, begun, Said}
use Rattle.round_trip.proofs.Grammar.Words.{scalar_shape}
use Rattle.round_trip.proofs.Grammar.Quiet.{past_call}
use Rattle.round_trip.proofs.Grammar.Operands.{AreNames, operand_through}
use Rattle.round_trip.proofs.Grammar.Walking.{Items}

-- ---- the whole type

types_through : (params : List Scalar) (variadic : Bool) (next : Items) →
    Through (item.One the.MoreTypes ∷ next) (more (map (λ ty. scalar ty ∷ []) params ++ dots variadic) ++ close_paren ∷ space ∷ []) (map scalar_kept params ++ (dots_kept variadic ++ close_paren_kept ∷ [])) next
types_through [] false next = keeps refl refl refl (spaced (nothing next))
types_through [] true next = drops refl refl refl (spaced (keeps refl refl refl (keeps refl refl refl (spaced (nothing next)))))
types_through (ty ∷ params) variadic next = drops refl refl refl (spaced (keeps (scalar_shape ty) refl refl (types_through params variadic next)))

whole_from : (params : List Scalar) (variadic : Bool) (next : Items) →
    Through (item.One the.Types ∷ next) (listed (map (λ ty. scalar ty ∷ []) params ++ dots variadic) ++ close_paren ∷ space ∷ []) (map scalar_kept params ++ (dots_kept variadic ++ close_paren_kept ∷ [])) next
whole_from [] false next = keeps refl refl refl (spaced (nothing next))
whole_from [] true next = keeps refl refl refl (keeps refl refl refl (spaced (nothing next)))
whole_from (ty ∷ params) variadic next = keeps (scalar_shape ty) refl refl (types_through params variadic next)

pub whole_through : (fn_ty : FnType) (next : Items) → Through (item.May the.WholeType ∷ next) (whole_parts fn_ty) (whole_kept fn_ty) next
whole_through fn_ty next = keeps refl refl refl (whole_from fn_ty.params fn_ty.variadic next)

-- ---- attributes of types

-- what is returned, where this stands behind it
returned_through : (ret_ext : Ext) (returns : Option Scalar) → is_some returns ≡ true → (rest : Parts) (kept : Lexemes) (next left : Items) → Through next rest kept left →
    Through (grammar.extended (item.Token a.AnyScalar keep.AsReturned ∷ next)) (ext_before ret_ext ++ returned returns ∷ space ∷ rest) (ext_kept ret_ext ++ call_returned_kept returns ∷ kept) left
returned_through ret_ext None some rest kept next left h = cc
returned_through ext.Plain (Some ty) some rest kept next left h = keeps_returned (scalar_shape ty) refl (spaced h)
returned_through ext.Signed (Some ty) some rest kept next left h = keeps refl refl refl (spaced (keeps_returned (scalar_shape ty) refl (spaced h)))
returned_through ext.Unsigned (Some ty) some rest kept next left h = keeps refl refl refl (spaced (keeps_returned (scalar_shape ty) refl (spaced h)))

attributes_begin : (next : Items) → Begins (item.One the.Operand ∷ next) (item.Many the.Attribute ∷ item.One the.Operand ∷ next)
attributes_begin next (is.Free free) kept_as after e = cc
attributes_begin next is.Str kept_as after e = cc
attributes_begin next is.Hash kept_as after e = cc
attributes_begin next is.Record kept_as after e = cc
attributes_begin next is.Align kept_as after e = cc
attributes_begin next _ kept_as after e = e

extended_begins : (next : Items) → Begins (item.One the.Operand ∷ next) (grammar.extended (item.One the.Operand ∷ next))
extended_begins next (is.Ext ext) kept_as after e = cc
extended_begins next (is.Free free) kept_as after e = cc
extended_begins next is.Str kept_as after e = cc
extended_begins next is.Hash kept_as after e = cc
extended_begins next is.Record kept_as after e = cc
extended_begins next is.Align kept_as after e = cc
extended_begins next _ kept_as after e = e

whole_begins : (next : Items) → Begins (item.One the.Operand ∷ next) (item.May the.WholeType ∷ item.One the.Operand ∷ next)
whole_begins next is.OpenParen kept_as after e = cc
whole_begins next _ kept_as after e = e

-- ---- arguments

module _ (names : List (List ℕ)) (are : AreNames names) (places : Places) where
  abbrev IsArg : Arg → Type 0
  IsArg arg = IsOperand places arg.ty arg.value

  value_through : (given : Ext) (ty : Scalar) (value : Operand) → IsOperand places ty value → (next : Items) →
      Through (grammar.extended (item.One the.Operand ∷ next)) (ext_behind given ++ space ∷ operand_parts names ty value) (ext_kept given ++ operand_kept names ty value) next
  value_through ext.Plain ty value formed next = spaced (begun (omega arith) (extended_begins next) (operand_through names are places ty value formed next))
  value_through ext.Signed ty value formed next = spaced (keeps refl refl refl (spaced (begun (omega arith) (attributes_begin next) (operand_through names are places ty value formed next))))
  value_through ext.Unsigned ty value formed next = spaced (keeps refl refl refl (spaced (begun (omega arith) (attributes_begin next) (operand_through names are places ty value formed next))))

  more_args_through : (args : List Arg) → All IsArg args → (next : Items) → Through (item.Further the.Argument ∷ grammar.close_paren ∷ next) (more (map (arg_parts names) args)) (joined (map (arg_kept names) args)) (item.Further the.Argument ∷ grammar.close_paren ∷ next)
  more_args_through [] formed next = nothing (item.Further the.Argument ∷ grammar.close_paren ∷ next)
  more_args_through (arg ∷ args) formed next =
      drops refl refl refl
      (spaced (keeps (scalar_shape arg.ty) refl refl
      (then_on (value_through arg.ext arg.ty arg.value (All-head IsArg arg args formed) (item.Further the.Argument ∷ grammar.close_paren ∷ next)) (more_args_through args (All-tail IsArg arg args formed) next))))

  pub args_through : (args : List Arg) → All IsArg args → (next : Items) → Through (item.Separated the.Argument ∷ grammar.close_paren ∷ next) (listed (map (arg_parts names) args) ++ close_paren ∷ []) (joined (map (arg_kept names) args) ++ close_paren_kept ∷ []) next
  args_through [] formed next = keeps refl refl refl (nothing next)
  args_through (arg ∷ args) formed next =
      keeps (scalar_shape arg.ty) refl refl
      (then_on (then_on (value_through arg.ext arg.ty arg.value (All-head IsArg arg args formed) (item.Further the.Argument ∷ grammar.close_paren ∷ next)) (more_args_through args (All-tail IsArg arg args formed) next)) (keeps refl refl refl (nothing next)))

  -- ---- a call with a result

  -- the callee, with the whole type before it or not, and the arguments
  callee_through : (whole : Bool) (fn_ty : FnType) (callee : Operand) (args : List Arg) → IsOperand places Ptr callee → All IsArg args → (next : Items) →
      Through (item.May the.WholeType ∷ item.One the.Operand ∷ grammar.open_paren ∷ item.Separated the.Argument ∷ grammar.close_paren ∷ next)
      ((if whole then whole_parts fn_ty else []) ++ (operand_parts names Ptr callee ++ open_paren ∷ (listed (map (arg_parts names) args) ++ close_paren ∷ [])))
      ((if whole then whole_kept fn_ty else []) ++ (operand_kept names Ptr callee ++ (joined (map (arg_kept names) args) ++ close_paren_kept ∷ []))) next
  callee_through true fn_ty callee args formed are_formed next =
      then_on (whole_through fn_ty (item.One the.Operand ∷ grammar.open_paren ∷ item.Separated the.Argument ∷ grammar.close_paren ∷ next))
      (then_on (operand_through names are places Ptr callee formed (grammar.open_paren ∷ item.Separated the.Argument ∷ grammar.close_paren ∷ next)) (drops refl refl refl (args_through args are_formed next)))
  callee_through false fn_ty callee args formed are_formed next =
      then_on (begun (omega arith) (whole_begins (grammar.open_paren ∷ item.Separated the.Argument ∷ grammar.close_paren ∷ next)) (operand_through names are places Ptr callee formed (grammar.open_paren ∷ item.Separated the.Argument ∷ grammar.close_paren ∷ next)))
      (drops refl refl refl (args_through args are_formed next))

  pub call_said : (fn_ty : FnType) (ret_ext : Ext) (callee : Operand) (args : List Arg) → is_some fn_ty.returns ≡ true → FormedCall places fn_ty callee args → (next : Items) →
      Said (item.One (the.NamedLine false) ∷ next) (call_parts names fn_ty ret_ext callee args) (call_kept names fn_ty ret_ext callee args) (item.One (the.Lines false) ∷ next)
  call_said fn_ty ret_ext callee args some formed next =
      let last = item.Many the.CallAttribute ∷ item.Many the.CommaAttachment ∷ item.One (the.Lines false) ∷ next in
      record {
        left = last;
        through = keeps refl refl refl (spaced (returned_through ret_ext fn_ty.returns some _ _ _ last (callee_through (is_whole fn_ty args) fn_ty callee args formed.has_callee formed.has_args last)));
        quiet = past_call (item.One (the.Lines false) ∷ next);
      }
