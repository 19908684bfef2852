-- The grammar takes targets and variables.
use Rattle.std.proofs.Common.{◌≡◌, ◌∙◌, ℕ, ◌^◌, Bool, true, false, codes, List, [], ◌∷◌, ◌++◌, Option, Some, None, IfSome, refl, ap}
use Rattle.std.specs.Fmt.{decimal}
use Rattle.ir_types.specs.declared.shape.Ty.{Ty}
use Rattle.ir_lexer.specs.declared.token.Kind.TheVariants as kind
use Rattle.ir_lexer.specs.Written.{spellings_of}
use Rattle.ir_syntax.specs.FormedBody.{IsAlign}
use Rattle.ir_syntax.specs.declared.constant.Const.{Const}
use Rattle.ir_syntax.specs.declared.item.Linkage.{Linkage}
use Rattle.ir_syntax.specs.declared.item.Linkage.TheVariants as linkage
use Rattle.ir_syntax.specs.declared.item.Var.{Var}
use Rattle.ir_grammar.specs.Numbers.{digits_shape}
use Rattle.ir_grammar.specs.Shapes.{at_shape}
use Rattle.ir_grammar.specs.declared.shape.AtName.TheVariants as at
use Rattle.ir_grammar.specs.declared.shape.Free.TheVariants as free
use Rattle.ir_grammar.specs.declared.shape.Shape.TheVariants as is
use Rattle.ir_grammar.specs.declared.grammar.Keep.TheVariants as keep
use Rattle.ir_grammar.specs.declared.grammar.Item.TheVariants as item
use Rattle.ir_grammar.specs.declared.grammar.Name.TheVariants as the
use Rattle.ir_grammar.specs.declared.grammar.Terminal.TheVariants as a
use Rattle.ir_grammar.specs.Items as grammar
use Rattle.ir_grammar.specs.Mirrors.Walk.{settle, Taken}
use Rattle.ir_writer.specs.Names.{quoted, name_text}
use Rattle.ir_writer.specs.Words.{Parts, space, line_end, linkage_parts}
use Rattle.ir_writer.specs.Constants.{type_parts, constant_parts}
use Rattle.ir_writer.specs.Instructions.{align_parts}
use Rattle.ir_writer.specs.Modules.{target_parts, var_word, valued_parts, var_parts}
use Rattle.ir_writer.specs.Ranges.{AreBytes}
use Rattle.round_trip.proofs.Grammar.Kept.{Lexemes, type_kept, constant_kept, align_kept, linkage_kept, var_word_kept, valued_kept, var_kept}
use Rattle.round_trip.proofs.Grammar.Digits.{power_taken}
use Rattle.round_trip.proofs.Grammar.Walking.{goes, alike, Takes, Items, entity}
use Rattle.round_trip.proofs.Grammar.Quiet.{past_variable_parts}
use Rattle.round_trip.proofs.Grammar.Goes.{spellings_append, goes_append}
use Rattle.round_trip.proofs.Entities.Steps.{taken, shape_taken}
use Rattle.round_trip.proofs.Entities.Names.{name_shape}

-- ---- targets

pub layout_takes : (text : List ℕ) → Takes entity (spellings_of (target_parts (codes "datalayout") (Some text))) ((is.Free free.Datalayout, codes "datalayout") ∷ (is.Str, quoted text) ∷ []) []
layout_takes text = record { left = []; gone = refl; quiet = alike [] }

pub triple_takes : (text : List ℕ) → Takes entity (spellings_of (target_parts (codes "triple") (Some text))) ((is.Free free.Triple, codes "triple") ∷ (is.Str, quoted text) ∷ []) []
triple_takes text = record { left = []; gone = refl; quiet = alike [] }

-- ---- alignments

align_goes : (align : Option ℕ) → IsAlign align → (next : Items) → goes (item.Many the.VariablePart ∷ next) (spellings_of (align_parts align ++ line_end ∷ [])) ≡ Some (align_kept align, item.Many the.VariablePart ∷ next)
align_goes None most next = refl
align_goes (Some exponent) most next =
    let text : List ℕ = decimal (2 ^ exponent) in
    ap (λ gone. taken keep.Drops is.Comma (44 ∷ []) (taken keep.Drops is.Align (codes "align") gone))
    (shape_taken (kind.Int, text) [] (is.Int (digits_shape text)) keep.Keeps (grammar.power ∷ item.Many the.VariablePart ∷ next) (item.Many the.VariablePart ∷ next) refl
    (power_taken exponent (item.Many the.VariablePart ∷ next) most))

-- ---- what follows the name

-- what the items do at a type and at a constant, which is shown elsewhere
abbrev pub TypeGoes : Ty → Type 0
TypeGoes ty = (next : Items) → goes (item.One the.Type ∷ next) (spellings_of (type_parts ty)) ≡ Some (type_kept ty, next)

abbrev pub ConstantGoes : List (List ℕ) → Ty → Const → Type 0
ConstantGoes names ty c = (next : Items) → goes (item.One the.Constant ∷ next) (spellings_of (constant_parts names c ty)) ≡ Some (constant_kept names c ty, next)

pub record VarGoes (names : List (List ℕ)) (var : Var) : Type 0 where
  pub has_type : TypeGoes var.ty
  pub has_init : IfSome var.init (ConstantGoes names var.ty)

kind_goes : (constant : Bool) (items next last : Items) (rest : Parts) (kept : Lexemes) → settle is.Global items ≡ Taken keep.Keeps next → settle is.ConstantWord items ≡ Taken keep.Keeps next →
    goes next (spellings_of rest) ≡ Some (kept, last) → goes items (spellings_of (var_word constant ∷ rest)) ≡ Some (var_word_kept constant ∷ kept, last)
kind_goes false items next last rest kept global constant h = shape_taken (kind.Word, codes "global") (spellings_of rest) is.Global keep.Keeps items next refl global ∙ ap (taken keep.Keeps is.Global (codes "global")) h
kind_goes true items next last rest kept global constant h = shape_taken (kind.Word, codes "constant") (spellings_of rest) is.ConstantWord keep.Keeps items next refl constant ∙ ap (taken keep.Keeps is.ConstantWord (codes "constant")) h

-- the items of a type, a constant and alignments
abbrev to_value : Items
to_value = item.One the.Type ∷ item.One the.Constant ∷ item.Many the.VariablePart ∷ []

linkage_goes : (link : Linkage) (constant : Bool) (last : Items) (rest : Parts) (kept : Lexemes) → goes to_value (spellings_of rest) ≡ Some (kept, last) →
    goes (item.One the.Variable ∷ []) (spellings_of (linkage_parts link ++ var_word constant ∷ rest)) ≡ Some (linkage_kept link ++ var_word_kept constant ∷ kept, last)
linkage_goes linkage.External constant last rest kept h = kind_goes constant (item.One the.Variable ∷ []) to_value last rest kept refl refl h
linkage_goes linkage.Internal constant last rest kept h =
    ap (taken keep.Keeps (is.Linkage linkage.Internal) (codes "internal")) (kind_goes constant (item.Many the.Attribute ∷ grammar.kept a.GlobalOrConstant ∷ to_value) to_value last rest kept refl refl h)
linkage_goes linkage.Private constant last rest kept h =
    ap (taken keep.Keeps (is.Linkage linkage.Private) (codes "private")) (kind_goes constant (item.Many the.Attribute ∷ grammar.kept a.GlobalOrConstant ∷ to_value) to_value last rest kept refl refl h)

valued_goes : (names : List (List ℕ)) (var : Var) (init : Option Const) → TypeGoes var.ty → IfSome init (ConstantGoes names var.ty) →
    goes (item.One the.Variable ∷ []) (spellings_of (valued_parts names var init)) ≡ Some (valued_kept names var init, item.Many the.VariablePart ∷ [])
valued_goes names var None ty c =
    ap (taken keep.Keeps (is.Linkage linkage.External) (codes "external"))
    (kind_goes var.constant (item.Many the.Attribute ∷ grammar.kept a.GlobalOrConstant ∷ item.One the.Type ∷ item.Many the.VariablePart ∷ []) (item.One the.Type ∷ item.Many the.VariablePart ∷ []) (item.Many the.VariablePart ∷ []) (space ∷ type_parts var.ty) (type_kept var.ty) refl refl
    (ty (item.Many the.VariablePart ∷ [])))
valued_goes names var (Some init) ty c =
    linkage_goes var.linkage var.constant (item.Many the.VariablePart ∷ []) (space ∷ (type_parts var.ty ++ space ∷ constant_parts names init var.ty)) (type_kept var.ty ++ constant_kept names init var.ty)
    (ap (goes to_value) (spellings_append (type_parts var.ty) (space ∷ constant_parts names init var.ty))
    ∙ goes_append (spellings_of (type_parts var.ty)) (spellings_of (constant_parts names init var.ty)) to_value (item.One the.Constant ∷ item.Many the.VariablePart ∷ []) (item.Many the.VariablePart ∷ []) (type_kept var.ty) (constant_kept names init var.ty)
    (ty (item.One the.Constant ∷ item.Many the.VariablePart ∷ [])) (c (item.Many the.VariablePart ∷ [])))

-- ---- variables

pub var_takes : (names : List (List ℕ)) (var : Var) → AreBytes var.name → at_shape var.name ≡ at.Plain → IsAlign var.align → VarGoes names var →
    Takes entity (spellings_of (var_parts names var)) (var_kept names var) []
var_takes names var bytes plain most h =
    let value : Parts = valued_parts names var var.init in
    let align : Parts = align_parts var.align ++ line_end ∷ [] in
    let behind : goes (item.One the.Variable ∷ []) (spellings_of (value ++ align)) ≡ Some (valued_kept names var var.init ++ align_kept var.align, item.Many the.VariablePart ∷ []) =
    ap (goes (item.One the.Variable ∷ [])) (spellings_append value align)
    ∙ goes_append (spellings_of value) (spellings_of align) (item.One the.Variable ∷ []) (item.Many the.VariablePart ∷ []) (item.Many the.VariablePart ∷ []) (valued_kept names var var.init) (align_kept var.align)
    (valued_goes names var var.init h.has_type h.has_init) (align_goes var.align most []) in
    record {
      left = item.Many the.VariablePart ∷ [];
      gone =
          shape_taken (kind.AtName, 64 ∷ name_text var.name) ((kind.Mark, 61 ∷ []) ∷ spellings_of (value ++ align)) (is.At (at_shape var.name)) keep.Keeps entity (grammar.equals ∷ item.One the.Variable ∷ []) (name_shape var.name bytes)
          (ap (λ a. settle (is.At a) entity) plain)
          ∙ ap (λ gone. taken keep.Keeps (is.At (at_shape var.name)) (64 ∷ name_text var.name) (taken keep.Drops is.Equals (61 ∷ []) gone)) behind;
      quiet = past_variable_parts [];
    }
