-- The grammar takes the tokens of instructions that have no result: stores, and calls of void.
use Rattle.std.proofs.Common.{◌≡◌, ◌∙◌, ℕ, zero, suc, pos, negsuc, Bool, true, false, List, [], ◌∷◌, ◌++◌, length, map, Option, Some, None, refl, sym, ap, subst}
use Rattle.std.specs.Prelude.{All, is_some, if◌then◌else◌}
use Rattle.std.proofs.lemmas.Bool.{false≢true}
use Rattle.ir_lexer.specs.declared.token.Kind.{Kind}
use Rattle.ir_lexer.specs.Written.{Spelling}
use Rattle.ir_types.specs.declared.scalar.Scalar.{Scalar}
use Rattle.ir_types.specs.declared.scalar.Scalar.TheVariants.{Ptr}
use Rattle.ir_types.specs.declared.scalar.Ext.{Ext}
use Rattle.ir_types.specs.declared.scalar.Ext.TheVariants as ext
use Rattle.ir_types.specs.declared.scalar.FnType.{FnType}
use Rattle.ir_types.specs.declared.shape.Ty.{Ty}
use Rattle.ir_types.specs.declared.shape.Ty.TheBlock.{One}
use Rattle.ir_types.specs.declared.shape.Ty.TheVariants.{outs-One}
use Rattle.ir_syntax.specs.declared.constant.Const.{Const, out-Const}
use Rattle.ir_syntax.specs.declared.constant.Const.TheOpen.{Const-F}
use Rattle.ir_syntax.specs.declared.constant.Const.TheViews.{roll-Const, roll-out-Const}
use Rattle.ir_syntax.specs.declared.constant.Const.TheFolds.{map-Const}
use Rattle.ir_syntax.specs.declared.constant.Operand.{Operand}
use Rattle.ir_syntax.specs.declared.constant.Operand.TheVariants as operand
use Rattle.ir_syntax.specs.declared.body.Arg.{Arg}
use Rattle.ir_syntax.specs.declared.body.Inst.TheVariants as inst
use Rattle.ir_syntax.specs.Suits.{suits, suits_step, takes_number, takes_zero, takes_text, takes_parts}
use Rattle.ir_syntax.specs.FormedBody.{Places, IsOperand, FormedCall, FormedInst}
use Rattle.ir_grammar.specs.declared.shape.AtName.{AtName}
use Rattle.ir_grammar.specs.declared.shape.AtName.TheVariants as at_name
use Rattle.ir_grammar.specs.declared.shape.Shape.{Shape}
use Rattle.ir_grammar.specs.declared.shape.Shape.TheVariants as is
use Rattle.ir_grammar.specs.declared.grammar.Item.TheVariants as item
use Rattle.ir_grammar.specs.declared.grammar.Name.TheVariants as the
use Rattle.ir_grammar.specs.Items as grammar
use Rattle.ir_grammar.specs.Shapes.{at_shape, shape_of}
use Rattle.ir_grammar.specs.Mirrors.Walk.{settle}
use Rattle.ir_writer.specs.Names.{name_at}
use Rattle.ir_writer.specs.Words.{Parts, space, open_paren, close_paren, listed, returned, ext_before}
use Rattle.ir_writer.specs.Constants.{constant_step, constant_parts}
use Rattle.ir_writer.specs.Instructions.{operand_parts, is_whole, whole_parts, arg_parts, call_parts, inst_parts}
use Rattle.round_trip.proofs.Grammar.Kept.{Lexemes, joined, close_paren_kept, operand_kept, whole_kept, arg_kept, ext_kept, call_returned_kept, call_kept, inst_kept, constant_kept_step, constant_kept}
use Rattle.round_trip.proofs.Grammar.Parts.{Through, through_as, nothing, spaced, keeps, drops, passes, then_on, Said}
use Rattle.round_trip.proofs.Grammar.Words.{scalar_shape}
use Rattle.round_trip.proofs.Grammar.Singles.{name_shape, address_through}
use Rattle.round_trip.proofs.Grammar.Constants.{parts_at, kept_at, suits_at}
use Rattle.round_trip.proofs.Grammar.Quiet.{past_call}
use Rattle.round_trip.proofs.Grammar.Operands.{is_debug, AreNames, operand_through, align_said}
use Rattle.round_trip.proofs.Grammar.Calls.{whole_through, args_through}
use Rattle.round_trip.proofs.Grammar.Walking.{Items}

-- ---- the callee

-- neither a name of debug information nor a parenthesis
abbrev is_calm : Shape → Bool
is_calm (is.At at_name.Debug) = false
is_calm is.OpenParen = false
is_calm _ = true

-- what stands behind the callee of a call of void
abbrev void_arguments : Items → Items
void_arguments next =
    grammar.open_paren ∷ item.Separated the.Argument ∷ grammar.close_paren ∷ item.Many the.CallAttribute ∷ item.Many the.CommaAttachment ∷ item.One (the.Lines false) ∷ next

-- At such a shape these items do what the operand and the arguments of a call of void do.
abbrev IsCallee : Items → Items → Type 0
IsCallee items next = (at : Shape) → is_calm at ≡ true → settle at items ≡ settle at (item.One the.Operand ∷ void_arguments next)

void_callee : (phis : Bool) (next : Items) → IsCallee (item.One (the.VoidCallee phis) ∷ next) next
void_callee phis next (is.At at_name.Debug) calm = absurd (false≢true calm)
void_callee phis next (is.At _) calm = refl
void_callee phis next _ calm = refl

whole_void_callee : (phis : Bool) (next : Items) → IsCallee (item.May the.WholeType ∷ item.One (the.VoidCallee phis) ∷ next) next
whole_void_callee phis next (is.At at_name.Debug) calm = absurd (false≢true calm)
whole_void_callee phis next (is.At _) calm = refl
whole_void_callee phis next is.OpenParen calm = absurd (false≢true calm)
whole_void_callee phis next _ calm = refl

name_calm : (name : AtName) → is_debug name ≡ false → is_calm (is.At name) ≡ true
name_calm at_name.Debug calm = cc
name_calm _ calm = refl

module _ (names : List (List ℕ)) (are : AreNames names) (places : Places) where
  module _ (items next : Items) (callee : IsCallee items next) where
    as_callee : {kind : Kind} {text : List ℕ} {at : Shape} {parts : Parts} {kept : Lexemes} {left : Items} → shape_of kind text ≡ at → is_calm at ≡ true →
        Through (item.One the.Operand ∷ void_arguments next) (Spelling kind text ∷ parts) kept left → Through items (Spelling kind text ∷ parts) kept left
    as_callee {at = at} shaped calm h = passes shaped (callee at calm) h

    constant_layer : (x : Const-F Const) → suits_step (length places.items) (map-Const Const (Ty → Bool) (suits (length places.items)) x) (One Ptr) ≡ true →
        Through items (constant_step names (map-Const Const (Ty → Parts) (constant_parts names) x) (One Ptr)) (constant_kept_step names (map-Const Const (Ty → Lexemes) (constant_kept names) x) (One Ptr)) (void_arguments next)
    constant_layer (Const-F.Int n) suited = absurd (false≢true (sym (ap (λ t. takes_number t n) (outs-One Ptr)) ∙ suited))
    constant_layer Const-F.Null suited = as_callee refl refl (keeps refl refl refl (nothing (void_arguments next)))
    constant_layer (Const-F.Addr place (pos zero)) suited =
        as_callee (name_shape names are.read place) (name_calm (at_shape (name_at names place)) (are.calm place)) (keeps (name_shape names are.read place) refl refl (nothing (void_arguments next)))
    constant_layer (Const-F.Addr place (pos (suc n))) suited = passes refl (callee is.Gep refl) (address_through names are.read place (pos (suc n)) (void_arguments next))
    constant_layer (Const-F.Addr place (negsuc n)) suited = passes refl (callee is.Gep refl) (address_through names are.read place (negsuc n) (void_arguments next))
    constant_layer Const-F.Undef suited = as_callee refl refl (keeps refl refl refl (nothing (void_arguments next)))
    constant_layer Const-F.Poison suited = as_callee refl refl (keeps refl refl refl (nothing (void_arguments next)))
    constant_layer Const-F.Zero suited = absurd (false≢true (sym (ap takes_zero (outs-One Ptr)) ∙ suited))
    constant_layer (Const-F.Text bytes) suited = absurd (false≢true (sym (ap (λ t. takes_text t (length bytes)) (outs-One Ptr)) ∙ suited))
    constant_layer (Const-F.Many cs) suited = absurd (false≢true (sym (ap (λ t. takes_parts t (map (suits (length places.items)) cs)) (outs-One Ptr)) ∙ suited))

    abbrev Takes : Const → Type 0
    Takes c = suits (length places.items) c (One Ptr) ≡ true → Through items (constant_parts names c (One Ptr)) (constant_kept names c (One Ptr)) (void_arguments next)

    rolled_through : (x : Const-F Const) → Takes (roll-Const x)
    rolled_through x suited =
        through_as (sym (ap (λ f. f (One Ptr)) (parts_at names x))) (sym (ap (λ f. f (One Ptr)) (kept_at names x))) (constant_layer x (sym (ap (λ f. f (One Ptr)) (suits_at (length places.items) x)) ∙ suited))

    void_operand : (value : Operand) → IsOperand places Ptr value → Through items (operand_parts names Ptr value) (operand_kept names Ptr value) (void_arguments next)
    void_operand (operand.Param k) formed = as_callee refl refl (keeps refl refl refl (nothing (void_arguments next)))
    void_operand (operand.Reg k) formed = as_callee refl refl (keeps refl refl refl (nothing (void_arguments next)))
    void_operand (operand.Const c) formed = subst Takes (roll-out-Const c) (rolled_through (out-Const c)) formed

  abbrev IsArg : Arg → Type 0
  IsArg arg = IsOperand places arg.ty arg.value

  -- ---- calls of void

  void_args_through : (args : List Arg) → All IsArg args → (next : Items) →
      Through (void_arguments next) (open_paren ∷ (listed (map (arg_parts names) args) ++ close_paren ∷ [])) (joined (map (arg_kept names) args) ++ close_paren_kept ∷ [])
      (item.Many the.CallAttribute ∷ item.Many the.CommaAttachment ∷ item.One (the.Lines false) ∷ next)
  void_args_through args formed next =
      drops refl refl refl (args_through names are places args formed (item.Many the.CallAttribute ∷ item.Many the.CommaAttachment ∷ item.One (the.Lines false) ∷ next))

  -- where phis may still come, or none may
  module _ (phis : Bool) (next : Items) where
    -- what is behind the type that is returned
    void_callee_through : (whole : Bool) (fn_ty : FnType) (callee : Operand) (args : List Arg) → IsOperand places Ptr callee → All IsArg args →
        Through (item.May the.WholeType ∷ item.One (the.VoidCallee phis) ∷ next)
        ((if whole then whole_parts fn_ty else []) ++ (operand_parts names Ptr callee ++ open_paren ∷ (listed (map (arg_parts names) args) ++ close_paren ∷ [])))
        ((if whole then whole_kept fn_ty else []) ++ (operand_kept names Ptr callee ++ (joined (map (arg_kept names) args) ++ close_paren_kept ∷ [])))
        (item.Many the.CallAttribute ∷ item.Many the.CommaAttachment ∷ item.One (the.Lines false) ∷ next)
    void_callee_through true fn_ty callee args formed are_formed =
        then_on (whole_through fn_ty (item.One (the.VoidCallee phis) ∷ next))
        (then_on (void_operand (item.One (the.VoidCallee phis) ∷ next) next (void_callee phis next) callee formed) (void_args_through args are_formed next))
    void_callee_through false fn_ty callee args formed are_formed =
        then_on (void_operand (item.May the.WholeType ∷ item.One (the.VoidCallee phis) ∷ next) next (whole_void_callee phis next) callee formed) (void_args_through args are_formed next)

    void_returned : (ret_ext : Ext) (returns : Option Scalar) → is_some returns ≡ false → (rest : Parts) (kept : Lexemes) (left : Items) →
        Through (item.May the.WholeType ∷ item.One (the.VoidCallee phis) ∷ next) rest kept left →
        Through (grammar.extended (item.One (the.Called phis) ∷ next)) (ext_before ret_ext ++ returned returns ∷ space ∷ rest) (ext_kept ret_ext ++ call_returned_kept returns ∷ kept) left
    void_returned ret_ext (Some ty) none rest kept left h = cc
    void_returned ext.Plain None none rest kept left h = keeps refl refl refl (spaced h)
    void_returned ext.Signed None none rest kept left h = keeps refl refl refl (spaced (keeps refl refl refl (spaced h)))
    void_returned ext.Unsigned None none rest kept left h = keeps refl refl refl (spaced (keeps refl refl refl (spaced h)))

    pub void_call_said : (fn_ty : FnType) (ret_ext : Ext) (callee : Operand) (args : List Arg) → is_some fn_ty.returns ≡ false → FormedCall places fn_ty callee args →
        Said (item.One (the.Lines phis) ∷ next) (call_parts names fn_ty ret_ext callee args) (call_kept names fn_ty ret_ext callee args) (item.One (the.Lines false) ∷ next)
    void_call_said fn_ty ret_ext callee args none formed =
        let last = item.Many the.CallAttribute ∷ item.Many the.CommaAttachment ∷ item.One (the.Lines false) ∷ next in
        let behind = void_callee_through (is_whole fn_ty args) fn_ty callee args formed.has_callee formed.has_args in
        record { left = last; through = keeps refl refl refl (spaced (void_returned ret_ext fn_ty.returns none _ _ last behind)); quiet = past_call (item.One (the.Lines false) ∷ next) }

  -- ---- stores

  pub store_said : (phis : Bool) (ty : Scalar) (value at : Operand) (align : Option ℕ) → FormedInst places (inst.Store ty value at align) → (next : Items) →
      Said (item.One (the.Lines phis) ∷ next) (inst_parts names (inst.Store ty value at align)) (inst_kept names (inst.Store ty value at align)) (item.One (the.Lines false) ∷ next)
  store_said phis ty value at align formed next =
      let behind = align_said align formed.2 (item.One (the.Lines false) ∷ next) in
      let pointer = grammar.ptr ∷ item.One the.Operand ∷ item.May the.AlignPart ∷ item.One (the.Lines false) ∷ next in
      record {
        left = behind.left;
        through =
            keeps refl refl refl
            (spaced (keeps (scalar_shape ty) refl refl
            (spaced (then_on (operand_through names are places ty value formed.0 (grammar.comma ∷ pointer))
            (drops refl refl refl (spaced (drops refl refl refl (spaced (then_on (operand_through names are places Ptr at formed.1 (item.May the.AlignPart ∷ item.One (the.Lines false) ∷ next)) behind.through)))))))));
        quiet = behind.quiet;
      }
