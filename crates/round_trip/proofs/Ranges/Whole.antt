-- A module that a text of bytes spells is in range.
use Rattle.std.proofs.Common.{◌≡◌, ℕ, List, [], ◌∷◌, Option, Some, None, Ok, Err, refl, subst}
use Rattle.std.specs.Prelude.{All, IfSome, IfOk, Result}
use Rattle.std.proofs.lemmas.List.Elements.{All-head, All-tail}
use Rattle.ir_lexer.specs.Tokens.{texts_of}
use Rattle.ir_lexer.specs.Texts.{inside}
use Rattle.ir_syntax.specs.declared.item.Item.{Item}
use Rattle.ir_syntax.specs.declared.item.Module.{Module}
use Rattle.ir_grammar.specs.declared.shape.Shape.TheVariants as is
use Rattle.ir_grammar.specs.declared.shape.Free.TheVariants as free
use Rattle.ir_grammar.specs.Tokens.{Kept}
use Rattle.type_names.specs.TypeNames.{named_types}
use Rattle.ir_parser.specs.Modules.{env_of, string_of, layout_from, triple_from, items_from, with_targets, module_of}
use Rattle.ir_parser.specs.Spelled.{Spells, kept_of}
use Rattle.ir_writer.specs.Ranges.{AreBytes, InRange}
use Rattle.round_trip.proofs.Ranges.Escapes.{inside_bytes, unescaped_bytes}
use Rattle.round_trip.proofs.Ranges.Texts.{LexemesAreBytes, first_lexeme, lexemes_behind, texts_are_bytes}
use Rattle.round_trip.proofs.Ranges.Kept.{entities_are_bytes}
use Rattle.round_trip.proofs.Ranges.Items.{items_in_range}

-- ---- targets

-- the string of a target, which stands behind its word
target_bytes : (word string : Kept) (e : List Kept) (es : List (List Kept)) → All LexemesAreBytes ((word ∷ string ∷ e) ∷ es) → AreBytes (string_of string.1)
target_bytes word string e es are =
    let entity : LexemesAreBytes (word ∷ string ∷ e) = All-head LexemesAreBytes (word ∷ string ∷ e) es are in
    let text : AreBytes string.1 = first_lexeme string e (lexemes_behind word (string ∷ e) entity) in
    unescaped_bytes (inside string.1) (inside_bytes string.1 text)

layout_bytes : (found : Option (List ℕ)) (es : List (List Kept)) → IfSome found AreBytes → All LexemesAreBytes es → IfSome (layout_from found es) AreBytes
layout_bytes found [] before are = before
layout_bytes found (((is.Free free.Datalayout, word) ∷ (is.Str, text) ∷ []) ∷ es) before are =
    layout_bytes (Some (string_of text)) es (target_bytes (is.Free free.Datalayout, word) (is.Str, text) [] es are)
    (All-tail LexemesAreBytes ((is.Free free.Datalayout, word) ∷ (is.Str, text) ∷ []) es are)
layout_bytes found (e ∷ es) before are = layout_bytes found es before (All-tail LexemesAreBytes e es are)

triple_bytes : (found : Option (List ℕ)) (es : List (List Kept)) → IfSome found AreBytes → All LexemesAreBytes es → IfSome (triple_from found es) AreBytes
triple_bytes found [] before are = before
triple_bytes found (((is.Free free.Triple, word) ∷ (is.Str, text) ∷ []) ∷ es) before are =
    triple_bytes (Some (string_of text)) es (target_bytes (is.Free free.Triple, word) (is.Str, text) [] es are)
    (All-tail LexemesAreBytes ((is.Free free.Triple, word) ∷ (is.Str, text) ∷ []) es are)
triple_bytes found (e ∷ es) before are = triple_bytes found es before (All-tail LexemesAreBytes e es are)

-- ---- modules

targets_and_items : (entities : List (List Kept)) → All LexemesAreBytes entities → (found : Result (List Item) ℕ) →
    items_from (env_of entities) (named_types entities) entities 0 0 ≡ found → IfOk (with_targets entities found) InRange
targets_and_items entities are (Ok items) read = record {
  layout = layout_bytes None entities tt are;
  triple = triple_bytes None entities tt are;
  items = items_in_range entities are items read;
}
targets_and_items entities are (Err at) read = tt

module_in_range : (entities : List (List Kept)) (m : Module) → All LexemesAreBytes entities → module_of entities ≡ Ok m → InRange m
module_in_range entities m are resolved =
    subst (λ found. IfOk found InRange) resolved (targets_and_items entities are (items_from (env_of entities) (named_types entities) entities 0 0) refl)

pub spelled_in_range : (text : List ℕ) (m : Module) → AreBytes text → Spells text m → InRange m
spelled_in_range text m are spelled =
    module_in_range (kept_of spelled.entities) m
    (entities_are_bytes spelled.entities (texts_of text spelled.tokens) [] spelled.split (texts_are_bytes text spelled.tokens are))
    spelled.resolved
