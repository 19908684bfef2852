-- A module has at most as many items as its text has bytes.
use Rattle.std.proofs.Common.{◌≡◌, ℕ, ◌+◌, ◌<◌, ◌≤◌, List, [], ◌∷◌, length, drop, Some, arith, length-drop}
use Rattle.std.proofs.lemmas.List.{length-map}
use Rattle.ir_lexer.specs.declared.token.Token.{Token}
use Rattle.ir_lexer.specs.Tokens.{InOrder, texts_of, text_of}
use Rattle.ir_lexer.proofs.Tilings.{tokens_in_order}
use Rattle.ir_syntax.specs.declared.item.Module.{Module}
use Rattle.ir_grammar.specs.declared.grammar.Name.TheVariants as the
use Rattle.ir_grammar.specs.Tokens.{Piece, Kept}
use Rattle.ir_grammar.specs.Derives.{IsDerived}
use Rattle.type_names.specs.TypeNames.{named_types}
use Rattle.ir_parser.specs.Modules.{env_of}
use Rattle.ir_parser.specs.Spelled.{Entity, Splits, kept_of, Spells}
use Rattle.ir_parser.proofs.FormingModules.{items-few, module-items}

-- ---- entities and tokens

-- An entity takes a token at least.
abbrev pub EntityTakesOne : Type 0
EntityTakesOne = (pieces : List Piece) (kept : List Kept) (taken : ℕ) → IsDerived the.Entity pieces kept taken → 0 < taken

entities-few : EntityTakesOne → (pieces : List Piece) (es : List Entity) → Splits pieces es [] → length es ≤ length pieces
entities-few one pieces [] s = omega arith
entities-few one pieces (e ∷ es) s =
    let taken = one pieces e.0 e.1 s.0 in
    let some = s.0.0 in
    let more = entities-few one (drop e.1 pieces) es s.1 in
    omega (arith, length-drop e.1 pieces)

-- ---- tokens and bytes

order-few : (from : ℕ) (ts : List Token) (end : ℕ) → InOrder from ts end → from + length ts ≤ end
order-few from [] end h = omega (arith, h)
order-few from (t ∷ ts) end h = omega (arith, order-few t.to ts end h.2, h.0, h.1)

pub items-within : EntityTakesOne → (text : List ℕ) (m : Module) → Spells text m → length m.items ≤ length text
items-within one text m a =
    let items : length m.items ≤ length (kept_of a.entities) = module-items (λ items. length items ≤ length (kept_of a.entities)) (kept_of a.entities) m a.resolved (items-few (env_of (kept_of a.entities)) (named_types (kept_of a.entities)) (kept_of a.entities)) in
    let kept : length (kept_of a.entities) ≡ length a.entities = length-map a.entities (λ (e : Entity). e.0) in
    let entities = entities-few one (texts_of text a.tokens) a.entities a.split in
    let pieces : length (texts_of text a.tokens) ≡ length a.tokens = length-map a.tokens (λ (t : Token). (t.kind, text_of text t)) in
    let tokens = order-few 0 a.tokens (length text) (tokens_in_order text a.tokens a.tile) in
    omega arith
