-- A text that is written token by token has these tokens.
use Rattle.std.proofs.Common.{◌≡◌, ℕ, zero, suc, ◌+◌, ◌-◌, ◌<◌, ◌≤◌, Bool, true, false, List, [], ◌∷◌, ◌++◌, length, take, drop, refl, sym, ap, subst, ◌∙◌, arith, Option, Some, None, length-drop, length-append, drop-drop}
use Rattle.std.proofs.lemmas.List.{take_at, drop_at}
use Rattle.ir_lexer.specs.declared.token.Kind.{Kind}
use Rattle.ir_lexer.specs.declared.token.Token.{Token}
use Rattle.ir_lexer.specs.Signs.{is_blank}
use Rattle.ir_lexer.specs.Spelled.{is_spelled}
use Rattle.ir_lexer.specs.Tokens.{IsLongest, Piece, Blank, Comment, Lexeme, len_of, BeginsWith, Tiles, tokens_of, Tokens, text_of, texts_of}
use Rattle.ir_lexer.specs.Written.{Part, Space, Spelling, bytes_of, spellings_of, MayFollow, IsReadable}
use Rattle.ir_lexer.specs.Mirrors.Front.{front}
use Rattle.ir_lexer.proofs.Pieces.{found_longest}
use Rattle.ir_lexer.proofs.Ends.{stays}

abbrev pieces_of : List Part → List Piece
pieces_of [] = []
pieces_of (Space byte ∷ parts) = Blank ∷ pieces_of parts
pieces_of (Spelling kind text ∷ parts) = Lexeme kind (length text) ∷ pieces_of parts

written_longest : (kind : Kind) (text rest : List ℕ) → is_spelled kind text ≡ true → MayFollow kind rest → IsLongest (text ++ rest) kind (length text)
written_longest kind text rest passes end = found_longest (text ++ rest) kind (length text) (stays text rest kind passes end)

-- the rest behind one part
rest_behind : (bytes text rest : List ℕ) (from : ℕ) → drop from bytes ≡ text ++ rest → drop (from + length text) bytes ≡ rest
rest_behind bytes text rest from e = sym (drop-drop (length text) from bytes) ∙ ap (drop (length text)) e ∙ drop_at text rest (length text) refl

tiles_written : (bytes : List ℕ) (from : ℕ) (parts : List Part) → from ≤ length bytes → drop from bytes ≡ bytes_of parts → IsReadable parts → Tiles bytes from (pieces_of parts) (length bytes)
tiles_written bytes from [] le e readable = omega (arith, length-drop from bytes, ap length e)
tiles_written bytes from (Space b ∷ parts) le e readable = (
  subst (λ r. BeginsWith r Blank) (sym e) (record { within = omega arith; blank = readable.0 }),
  tiles_written bytes (from + 1) parts (omega (arith, length-drop from bytes, ap length e)) (rest_behind bytes (b ∷ []) (bytes_of parts) from e) readable.1,
)
tiles_written bytes from (Spelling kind text ∷ parts) le e readable = (
  subst (λ r. IsLongest r kind (length text)) (sym e) (written_longest kind text (bytes_of parts) readable.0 readable.1),
  tiles_written bytes (from + length text) parts (omega (arith, length-drop from bytes, ap length e, length-append text (bytes_of parts))) (rest_behind bytes text (bytes_of parts) from e) readable.2,
)

texts_written : (bytes : List ℕ) (from : ℕ) (parts : List Part) → drop from bytes ≡ bytes_of parts → texts_of bytes (tokens_of from (pieces_of parts)) ≡ spellings_of parts
texts_written bytes from [] e = refl
texts_written bytes from (Space b ∷ parts) e = texts_written bytes (from + 1) parts (rest_behind bytes (b ∷ []) (bytes_of parts) from e)
texts_written bytes from (Spelling kind text ∷ parts) e =
    let more = texts_written bytes (from + length text) parts (rest_behind bytes text (bytes_of parts) from e) in
    let n : (from + length text) - from ≡ length text = omega arith in
    let here : take ((from + length text) - from) (drop from bytes) ≡ text = ap (λ k. take k (drop from bytes)) n ∙ ap (take (length text)) e ∙ take_at text (bytes_of parts) (length text) refl in
    (λ i. (kind, here i) ∷ more i)

-- there are tokens, and their texts are what was written
pub written : (parts : List Part) → IsReadable parts → (ts : List Token) × Tokens (bytes_of parts) ts × (texts_of (bytes_of parts) ts ≡ spellings_of parts)
written parts readable =
    let bytes : List ℕ = bytes_of parts in
    let is : Tokens bytes (tokens_of 0 (pieces_of parts)) = record { pieces = pieces_of parts; tile = tiles_written bytes 0 parts (omega arith) refl readable; tokens = refl } in
    (tokens_of 0 (pieces_of parts), is, texts_written bytes 0 parts refl)
