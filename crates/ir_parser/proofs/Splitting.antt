-- Entities one after another among tokens.
use Rattle.std.proofs.Common.{◌≡◌, ◌≢◌, ◌∙◌, ℕ, ◌+◌, ◌-◌, ◌<◌, ◌≤◌, suc, zero, List, [], ◌∷◌, ◌++◌, length, map, drop, Option, Some, None, refl, sym, ap, subst, arith, length-drop}
use Rattle.std.proofs.lemmas.List.{drop-drop, map-append, length-map}
use Rattle.std.proofs.Math.ListN.{drop_of_length-le}
use Rattle.ir_lexer.specs.declared.token.Token.{Token}
use Rattle.ir_lexer.specs.Tokens.{texts_of}
use Rattle.ir_grammar.specs.Tokens.{Kept, Piece}
use Rattle.ir_parser.specs.Spelled.{Entity, IsEntityOf, IsNoEntity, Splits, kept_of, IsNotSpelled}
use Rattle.ir_parser.specs.Mirrors.Steps.{AreEntities}

pub texts-drop : (bytes : List ℕ) (n : ℕ) (ts : List Token) → texts_of bytes (drop n ts) ≡ drop n (texts_of bytes ts)
texts-drop bytes zero ts = refl
texts-drop bytes (suc n) [] = refl
texts-drop bytes (suc n) (t ∷ ts) = texts-drop bytes n ts

texts-length : (bytes : List ℕ) (ts : List Token) → length (texts_of bytes ts) ≡ length ts
texts-length bytes [] = refl
texts-length bytes (t ∷ ts) = ap suc (texts-length bytes ts)

-- the entity at a place of the tokens, and where none is there
abbrev Here : List ℕ → List Token → ℕ → Entity → Type 0
Here bytes ts from e = IsEntityOf (texts_of bytes (drop from ts)) e

abbrev NoneHere : List ℕ → List Token → ℕ → Type 0
NoneHere bytes ts from = IsNoEntity (texts_of bytes (drop from ts))

splits-more : (pieces rest : List Piece) (es : List Entity) (e : Entity) → Splits pieces es rest → IsEntityOf rest e → Splits pieces (es ++ e ∷ []) (drop e.1 rest)
splits-more pieces rest [] e s w = (subst (λ ps. IsEntityOf ps e) (sym s) w, ap (drop e.1) s)
splits-more pieces rest (x ∷ es) e s w = (s.0, splits-more (drop x.1 pieces) rest es e s.1 w)

pub no_entities : (pieces : List Piece) → AreEntities pieces [] pieces
no_entities pieces = record { entities = []; split = refl; is = refl }

-- one more entity, up to the place of the next
pub entities_more : (bytes : List ℕ) (ts : List Token) (kept : List (List Kept)) (from next : ℕ) (k : List Kept) → AreEntities (texts_of bytes ts) kept (drop from (texts_of bytes ts)) → Here bytes ts from (k, next - from) → from ≤ next →
    AreEntities (texts_of bytes ts) (kept ++ k ∷ []) (drop next (texts_of bytes ts))
entities_more bytes ts kept from next k so_far w onwards =
    let e : from + (next - from) ≡ next = omega arith in
    record {
      entities = so_far.entities ++ (k, next - from) ∷ [];
      split = subst (λ rest. Splits (texts_of bytes ts) (so_far.entities ++ (k, next - from) ∷ []) rest) (drop-drop (next - from) from (texts_of bytes ts) ∙ ap (λ n. drop n (texts_of bytes ts)) e)
          (splits-more (texts_of bytes ts) (drop from (texts_of bytes ts)) so_far.entities (k, next - from) so_far.split (subst (λ ps. IsEntityOf ps (k, next - from)) (texts-drop bytes from ts) w));
      is = map-append (λ (x : Entity). x.0) so_far.entities ((k, next - from) ∷ []) ∙ ap (λ ks. ks ++ k ∷ []) so_far.is;
    }

-- all tokens are taken
pub entities_all : (bytes : List ℕ) (ts : List Token) (kept : List (List Kept)) (from : ℕ) → AreEntities (texts_of bytes ts) kept (drop from (texts_of bytes ts)) → length ts ≤ from → AreEntities (texts_of bytes ts) kept []
entities_all bytes ts kept from so_far all =
    let past : length (texts_of bytes ts) ≤ from = omega (arith, texts-length bytes ts) in
    subst (λ rest. AreEntities (texts_of bytes ts) kept rest) (drop_of_length-le (texts_of bytes ts) past) so_far

-- no entity begins here
pub entities_end : (bytes : List ℕ) (ts : List Token) (kept : List (List Kept)) (from : ℕ) → AreEntities (texts_of bytes ts) kept (drop from (texts_of bytes ts)) → from < length ts → NoneHere bytes ts from → IsNotSpelled (texts_of bytes ts) (length kept)
entities_end bytes ts kept from so_far within w = record {
  entities = so_far.entities;
  rest = drop from (texts_of bytes ts);
  split = so_far.split;
  before = sym (length-map so_far.entities (λ (x : Entity). x.0)) ∙ ap (length {A = List Kept}) so_far.is;
  some = λ e. let short = ap (length {A = Piece}) e in absurd (omega (arith, short, length-drop from (texts_of bytes ts), texts-length bytes ts, within));
  none = subst IsNoEntity (texts-drop bytes from ts) w;
}
