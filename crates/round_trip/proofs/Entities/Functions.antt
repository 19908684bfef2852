-- The grammar takes declarations and definitions.
use Rattle.std.proofs.Common.{◌≡◌, ◌∙◌, ℕ, ◌<◌, true, codes, List, [], ◌∷◌, ◌++◌, length, map, Option, Some, None, IfSome, IsNone, All, refl, ap, append-nil}
use Rattle.std.proofs.lemmas.Bool.{false_from_ne_true, true≢false}
use Rattle.ir_lexer.specs.declared.token.Kind.TheVariants as kind
use Rattle.ir_lexer.specs.Written.{spellings_of}
use Rattle.ir_syntax.specs.FormedBody.{is_intrinsic, FormedBody}
use Rattle.ir_syntax.specs.FormedItem.{is_reserved}
use Rattle.ir_syntax.specs.declared.body.Body.{Body}
use Rattle.ir_syntax.specs.declared.item.Item.{Item}
use Rattle.ir_syntax.specs.declared.item.Linkage.{Linkage}
use Rattle.ir_syntax.specs.declared.item.Linkage.TheVariants as linkage
use Rattle.ir_syntax.specs.declared.item.Func.{Func}
use Rattle.ir_grammar.specs.Shapes.{at_shape}
use Rattle.ir_grammar.specs.declared.shape.AtName.{AtName}
use Rattle.ir_grammar.specs.declared.shape.AtName.TheVariants as at
use Rattle.ir_grammar.specs.declared.shape.Shape.TheVariants as is
use Rattle.ir_grammar.specs.declared.grammar.Keep.TheVariants as keep
use Rattle.ir_grammar.specs.declared.grammar.Item.TheVariants as item
use Rattle.ir_grammar.specs.declared.grammar.Name.TheVariants as the
use Rattle.ir_grammar.specs.declared.grammar.Terminal.TheVariants as a
use Rattle.ir_grammar.specs.Items as grammar
use Rattle.ir_grammar.specs.Mirrors.Walk.{settle, Taken}
use Rattle.ir_writer.specs.Names.{name_text}
use Rattle.ir_writer.specs.Words.{Parts, space, line_end, open_paren, close_paren, open_brace, listed, linkage_parts}
use Rattle.ir_writer.specs.Instructions.{dots, blocks_parts}
use Rattle.ir_writer.specs.Modules.{at_name, declared_param, defined_params, head_parts, func_with}
use Rattle.ir_writer.specs.Ranges.{AreBytes}
use Rattle.round_trip.proofs.Grammar.Kept.{Lexemes, joined, name_kept, dots_kept, close_paren_kept, linkage_kept, declared_param_kept, defined_params_kept, head_kept, body_kept, func_kept}
use Rattle.round_trip.proofs.Grammar.Walking.{goes, alike, Takes, Items, entity}
use Rattle.round_trip.proofs.Grammar.Quiet.{past_attributes}
use Rattle.round_trip.proofs.Grammar.Goes.{spellings_append, goes_append}
use Rattle.round_trip.proofs.Entities.Steps.{taken, shape_taken}
use Rattle.round_trip.proofs.Entities.Names.{at_plain, is_declared, at_declared, name_shape}
use Rattle.round_trip.proofs.Entities.Heads.{BeginsHead, head_goes, declared_params_go, defined_params_go}
use Rattle.round_trip.proofs.Entities.Bodies.{BlockGoes, body_end, body_goes}

-- the head up to the parenthesis behind the parameters, where the items do this at the name and at what follows it
named_head : (func : Func) (params : List Parts) (kept : Lexemes) (items next behind last : Items) → AreBytes func.name → BeginsHead items next →
    settle (is.At (at_shape func.name)) next ≡ Taken keep.Keeps (grammar.open_paren ∷ behind) →
    goes behind (spellings_of (listed params ++ close_paren ∷ [])) ≡ Some (kept ++ close_paren_kept ∷ [], last) →
    goes items (spellings_of (head_parts func params)) ≡ Some (head_kept func kept, last)
named_head func params kept items next behind last bytes begins at_it h =
    head_goes items next last func.ret_ext func.returns (at_name func.name ∷ open_paren ∷ (listed params ++ close_paren ∷ [])) (name_kept func.name ∷ (kept ++ close_paren_kept ∷ [])) begins
    (shape_taken (kind.AtName, 64 ∷ name_text func.name) ((kind.Mark, 40 ∷ []) ∷ spellings_of (listed params ++ close_paren ∷ [])) (is.At (at_shape func.name)) keep.Keeps next (grammar.open_paren ∷ behind) (name_shape func.name bytes) at_it
    ∙ ap (λ gone. taken keep.Keeps (is.At (at_shape func.name)) (64 ∷ name_text func.name) (taken keep.Drops is.OpenParen (40 ∷ []) gone)) h)

-- ---- declarations

declared_name : (a : AtName) → is_declared a ≡ true → settle (is.At a) (item.One the.Declared ∷ []) ≡ Taken keep.Keeps (grammar.open_paren ∷ item.One the.DeclaredParams ∷ item.Many the.Attribute ∷ [])
declared_name at.Plain e = refl
declared_name at.Memory e = refl
declared_name at.Debug e = cc
declared_name at.Other e = cc

declaration_takes : (names : List (List ℕ)) (func : Func) → AreBytes func.name → is_declared (at_shape func.name) ≡ true → Takes entity (spellings_of (func_with names func None)) (func_kept names func None) []
declaration_takes names func bytes e =
    let params : List Parts = map declared_param func.params ++ dots func.variadic in
    let kept : Lexemes = joined (map declared_param_kept func.params) ++ dots_kept func.variadic in
    let items : Items = item.Many the.Attachment ∷ item.May the.External ∷ grammar.extended (grammar.kept a.VoidOrScalar ∷ item.One the.Declared ∷ []) in
    let head : goes items (spellings_of (head_parts func params)) ≡ Some (head_kept func kept, item.Many the.Attribute ∷ []) =
    named_head func params kept items (item.One the.Declared ∷ []) (item.One the.DeclaredParams ∷ item.Many the.Attribute ∷ []) (item.Many the.Attribute ∷ []) bytes (record { ext = λ ext. refl; none = refl; one = λ ty. refl })
    (declared_name (at_shape func.name) e) (declared_params_go func.params func.variadic (item.Many the.Attribute ∷ [])) in
    record {
      left = item.Many the.Attribute ∷ [];
      gone = ap (taken keep.Keeps is.Declare (codes "declare"))
          (ap (goes items) (spellings_append (head_parts func params) (line_end ∷ []) ∙ append-nil (spellings_of (head_parts func params))) ∙ head);
      quiet = past_attributes [];
    }

-- ---- definitions

-- the items from the name on
abbrev from_name : Items
from_name = grammar.kept (a.Only (is.At at.Plain)) ∷ grammar.open_paren ∷ item.Separated the.Param ∷ grammar.close_paren ∷ item.Many the.Attribute ∷ item.Many the.Attachment ∷ item.One the.Body ∷ []

module _ (names : List (List ℕ)) (func : Func) (body : Body) (bytes : AreBytes func.name) (plain : at_shape func.name ≡ at.Plain) (some : 0 < length body.blocks) (all : All (BlockGoes names) body.blocks) where
  abbrev head : Parts
  head = head_parts func (defined_params 0 func.params)

  abbrev head_then : Lexemes
  head_then = head_kept func (joined (defined_params_kept 0 func.params))

  abbrev behind_head : Parts
  behind_head = space ∷ open_brace ∷ line_end ∷ (blocks_parts names 0 0 body.blocks ++ body_end)

  headed_body : (items : Items) → BeginsHead items from_name → goes items (spellings_of (head ++ behind_head)) ≡ Some (head_then ++ body_kept names body, [])
  headed_body items begins =
      ap (goes items) (spellings_append head behind_head)
      ∙ goes_append (spellings_of head) (spellings_of behind_head) items (item.Many the.Attribute ∷ item.Many the.Attachment ∷ item.One the.Body ∷ []) [] head_then (body_kept names body)
      (named_head func (defined_params 0 func.params) (joined (defined_params_kept 0 func.params)) items from_name (item.Separated the.Param ∷ grammar.close_paren ∷ item.Many the.Attribute ∷ item.Many the.Attachment ∷ item.One the.Body ∷ []) (item.Many the.Attribute ∷ item.Many the.Attachment ∷ item.One the.Body ∷ []) bytes begins
      (ap (λ a. settle (is.At a) from_name) plain) (defined_params_go func.params (item.Many the.Attribute ∷ item.Many the.Attachment ∷ item.One the.Body ∷ [])))
      (body_goes names body [] some all)

  linked_body : (link : Linkage) → goes (item.May the.LinkageWord ∷ grammar.extended (grammar.kept a.VoidOrScalar ∷ from_name)) (spellings_of (linkage_parts link ++ (head ++ behind_head))) ≡ Some (linkage_kept link ++ (head_then ++ body_kept names body), [])
  linked_body linkage.External = headed_body (item.May the.LinkageWord ∷ grammar.extended (grammar.kept a.VoidOrScalar ∷ from_name)) (record { ext = λ ext. refl; none = refl; one = λ ty. refl })
  linked_body linkage.Internal =
      ap (taken keep.Keeps (is.Linkage linkage.Internal) (codes "internal")) (headed_body (grammar.extended (grammar.kept a.VoidOrScalar ∷ from_name)) (record { ext = λ ext. refl; none = refl; one = λ ty. refl }))
  linked_body linkage.Private =
      ap (taken keep.Keeps (is.Linkage linkage.Private) (codes "private")) (headed_body (grammar.extended (grammar.kept a.VoidOrScalar ∷ from_name)) (record { ext = λ ext. refl; none = refl; one = λ ty. refl }))

  definition_takes : Takes entity (spellings_of (func_with names func (Some body))) (func_kept names func (Some body)) []
  definition_takes = record { left = []; gone = ap (taken keep.Keeps is.Define (codes "define")) (linked_body func.linkage); quiet = alike [] }

-- ---- both

pub func_takes : (names : List (List ℕ)) (items : List Item) (func : Func) (body : Option Body) → AreBytes func.name → (is_reserved func.name ≡ true → is_intrinsic func.name ≡ true) → (is_reserved func.name ≡ true → IsNone body) →
    IfSome body (FormedBody items (length func.params)) → IfSome body (λ b. All (BlockGoes names) b.blocks) →
    Takes entity (spellings_of (func_with names func body)) (func_kept names func body) []
func_takes names items func None bytes intrinsic not_defined formed goes_on = declaration_takes names func bytes (at_declared func.name intrinsic)
func_takes names items func (Some body) bytes intrinsic not_defined formed goes_on =
    definition_takes names func body bytes (at_plain func.name (false_from_ne_true _ (λ t. true≢false (not_defined t)))) formed.has_block goes_on
