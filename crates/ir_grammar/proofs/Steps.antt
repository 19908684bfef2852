-- One step of the walk over tokens.
use Rattle.std.proofs.Common.{◌≡◌, ℕ, suc, ◌+◌, ◌<◌, length, drop, get_or, drop-cons, add-one, Bool, List, [], ◌∷◌, ◌++◌, Some, None, refl, ap, sym, ◌∙◌, append_assoc, arith}
use Rattle.std.specs.Option.{option_map}
use Rattle.ir_lexer.specs.declared.token.Token.{Token}
use Rattle.ir_lexer.specs.Tokens.{text_of, texts_of}
use Rattle.ir_grammar.specs.declared.shape.Shape.{Shape}
use Rattle.ir_grammar.specs.declared.shape.Shape.TheVariants as is
use Rattle.ir_grammar.specs.declared.grammar.Keep.{Keep}
use Rattle.ir_grammar.specs.declared.grammar.Keep.TheVariants as keep
use Rattle.ir_grammar.specs.declared.grammar.Item.{Item}
use Rattle.ir_grammar.specs.Tokens.{Kept, shape_before, told, keeping}
use Rattle.ir_grammar.specs.Mirrors.Walk.{Settled, Taken, Found, settle, walk, walk_on}

-- a group behind any token but a debug record counts for nothing
pub told_otherwise : (shape : Shape) (group : Bool) → (shape ≡ is.Record → ⊥) → shape ≡ told shape group
told_otherwise is.Record group other = absurd (other refl)
told_otherwise _ group other = refl

-- what a walk gives, where these tokens were kept before it and so many were taken
abbrev pub behind : List Kept → ℕ → Found → Found
behind kept taken found = option_map (λ f. (kept ++ f.0, taken + f.1)) found

keeping-append : (kept_as : Keep) (shape : Shape) (text : List ℕ) (more : List Kept) → keeping kept_as shape text more ≡ keeping kept_as shape text [] ++ more
keeping-append keep.Drops shape text more = refl
keeping-append keep.Keeps shape text more = refl
keeping-append keep.AsResult shape text more = refl
keeping-append keep.AsAddress shape text more = refl
keeping-append keep.AsReturned shape text more = refl

abbrev pub one_more : Keep → Shape → List ℕ → List Kept × ℕ → List Kept × ℕ
one_more kept_as shape text found = (keeping kept_as shape text found.0, suc found.1)

behind-more : (kept : List Kept) (taken : ℕ) (kept_as : Keep) (shape : Shape) (text : List ℕ) (found : Found) →
    behind kept taken (option_map (one_more kept_as shape text) found) ≡ behind (kept ++ keeping kept_as shape text []) (taken + 1) found
behind-more kept taken kept_as shape text None = refl
behind-more kept taken kept_as shape text (Some f) =
    let kept_so : kept ++ keeping kept_as shape text f.0 ≡ (kept ++ keeping kept_as shape text []) ++ f.0 =
    ap (λ more. kept ++ more) (keeping-append kept_as shape text f.0) ∙ sym (append_assoc kept (keeping kept_as shape text []) f.0) in
    let so_many : taken + suc f.1 ≡ (taken + 1) + f.1 = omega arith in
    cc

-- the walk over a token, where its items settle so
walk-token : (bytes : List ℕ) (token : Token) (rest : List Token) (items : List Item) (shape : Shape) (settled : Settled) →
    shape ≡ shape_before (token.kind, text_of bytes token) (texts_of bytes rest) → settle shape items ≡ settled →
    walk items (texts_of bytes (token ∷ rest)) ≡ walk_on (λ next. walk next (texts_of bytes rest)) shape (text_of bytes token) settled
walk-token bytes token rest items shape settled is_so e =
    ap (λ s. walk_on (λ next. walk next (texts_of bytes rest)) s (text_of bytes token) (settle s items)) (sym is_so)
    ∙ ap (walk_on (λ next. walk next (texts_of bytes rest)) shape (text_of bytes token)) e

-- the tokens from a place on
from_place : (tokens : List Token) (at : ℕ) (token : Token) → at < length tokens → token ≡ get_or tokens at token → drop at tokens ≡ token ∷ drop (at + 1) tokens
from_place tokens at token within e = rw (add-one, drop-cons tokens at token) (ap (λ first. first ∷ drop (suc at) tokens) (sym e))

-- what settles the token at a place
pub walk-place : (bytes : List ℕ) (tokens : List Token) (at : ℕ) (token : Token) (items : List Item) (shape : Shape) (settled : Settled) →
    at < length tokens → token ≡ get_or tokens at token →
    shape ≡ shape_before (token.kind, text_of bytes token) (texts_of bytes (drop (at + 1) tokens)) →
    settle shape items ≡ settled →
    walk items (texts_of bytes (drop at tokens)) ≡ walk_on (λ next. walk next (texts_of bytes (drop (at + 1) tokens))) shape (text_of bytes token) settled
walk-place bytes tokens at token items shape settled within e is_so settles =
    ap (λ ts. walk items (texts_of bytes ts)) (from_place tokens at token within e)
    ∙ walk-token bytes token (drop (at + 1) tokens) items shape settled is_so settles

pub walk-place-taken : (bytes : List ℕ) (tokens : List Token) (at : ℕ) (token : Token) (kept kept_then : List Kept) (items items_then : List Item) (shape : Shape) (kept_as : Keep) →
    at < length tokens → token ≡ get_or tokens at token →
    shape ≡ shape_before (token.kind, text_of bytes token) (texts_of bytes (drop (at + 1) tokens)) →
    settle shape items ≡ Taken kept_as items_then →
    kept_then ≡ kept ++ keeping kept_as shape (text_of bytes token) [] →
    behind kept at (walk items (texts_of bytes (drop at tokens))) ≡ behind kept_then (at + 1) (walk items_then (texts_of bytes (drop (at + 1) tokens)))
walk-place-taken bytes tokens at token kept kept_then items items_then shape kept_as within e is_so settles keeps =
    ap (behind kept at) (walk-place bytes tokens at token items shape (Taken kept_as items_then) within e is_so settles)
    ∙ behind-more kept at kept_as shape (text_of bytes token) (walk items_then (texts_of bytes (drop (at + 1) tokens)))
    ∙ ap (λ all. behind all (at + 1) (walk items_then (texts_of bytes (drop (at + 1) tokens)))) (sym keeps)
