-- A text is tiled in one way, up to its end or up to one bad byte.
use Rattle.std.proofs.Common.{◌≡◌, ℕ, zero, suc, ◌+◌, ◌-◌, ◌<◌, ◌≤◌, true, ◌⊎◌, List, [], ◌∷◌, ◌++◌, length, take, drop, refl, sym, ap, subst, ◌∙◌, ⊎_elim, inl, inr, arith, Option, Some, None, Result, Ok, Err, IfOk, IfErr, length-drop}
use Rattle.std.proofs.lemmas.Bool.{cases_lt}
use Rattle.std.proofs.lemmas.List.Elements.{All-from_recursion}
use Rattle.std.specs.List.{All, AllByRecursion}
use Rattle.ir_lexer.specs.declared.token.Kind.{Kind}
use Rattle.ir_lexer.specs.declared.token.Token.{Token}
use Rattle.ir_lexer.specs.declared.token.LexFault.{LexFault}
use Rattle.ir_lexer.specs.declared.token.LexFault.TheVariants.{BadByte, OutOfMemory}
use Rattle.ir_lexer.specs.Spelled.{is_spelled}
use Rattle.ir_lexer.specs.Tokens.{IsLongest, NothingBegins, Piece, Blank, Comment, Lexeme, len_of, BeginsWith, Tiles, tokens_of, Tokens, IsBadByte, IsCause, Answers, InOrder, IsTokenIn}
use Rattle.ir_lexer.proofs.Pieces.{next, Next, IsNext, next_is, nothing_next, one_piece, piece_bounds}

-- the end of a tiling

at_end : (bytes : List ℕ) (p : Piece) → BeginsWith (drop (length bytes) bytes) p → ⊥
at_end bytes p begins =
    let bounds = piece_bounds (drop (length bytes) bytes) p begins in
    omega (arith, bounds.0, bounds.1, length-drop (length bytes) bytes)

-- one more piece at the end
pub tiles_more : (bytes : List ℕ) (from to : ℕ) (ps : List Piece) (p : Piece) → Tiles bytes from ps to → BeginsWith (drop to bytes) p → Tiles bytes from (ps ++ p ∷ []) (to + len_of p)
tiles_more bytes from to [] p tile begins = (subst (λ at. BeginsWith (drop at bytes) p) (sym tile) begins, ap (λ at. at + len_of p) tile)
tiles_more bytes from to (q ∷ qs) p tile begins = (tile.0, tiles_more bytes (from + len_of q) to qs p tile.1 begins)

pub tokens_more : (bytes : List ℕ) (from to : ℕ) (ps : List Piece) (p : Piece) → Tiles bytes from ps to → tokens_of from (ps ++ p ∷ []) ≡ tokens_of from ps ++ tokens_of to (p ∷ [])
tokens_more bytes from to [] p tile = ap (λ at. tokens_of at (p ∷ [])) tile
tokens_more bytes from to (Blank ∷ qs) p tile = tokens_more bytes (from + 1) to qs p tile.1
tokens_more bytes from to (Comment len ∷ qs) p tile = tokens_more bytes (from + len) to qs p tile.1
tokens_more bytes from to (Lexeme kind len ∷ qs) p tile = ap (λ ts. record { kind = kind; from = from; to = from + len } ∷ ts) (tokens_more bytes (from + len) to qs p tile.1)

-- one tiling

one_tiling : (bytes : List ℕ) (from : ℕ) (ps qs : List Piece) → Tiles bytes from ps (length bytes) → Tiles bytes from qs (length bytes) → ps ≡ qs
one_tiling bytes from [] [] a b = refl
one_tiling bytes from [] (q ∷ qs) a b = absurd (at_end bytes q (subst (λ at. BeginsWith (drop at bytes) q) a b.0))
one_tiling bytes from (p ∷ ps) [] a b = absurd (at_end bytes p (subst (λ at. BeginsWith (drop at bytes) p) b a.0))
one_tiling bytes from (p ∷ ps) (q ∷ qs) a b =
    let same = one_piece (drop from bytes) p q a.0 b.0 in
    let rest : Tiles bytes (from + len_of p) qs (length bytes) = subst (λ r. Tiles bytes (from + len_of r) qs (length bytes)) (sym same) b.1 in
    let more = one_tiling bytes (from + len_of p) ps qs a.1 rest in
    (λ i. same i ∷ more i)

never_both : (bytes : List ℕ) (from at : ℕ) (ps qs : List Piece) → Tiles bytes from ps (length bytes) → Tiles bytes from qs at → at < length bytes → NothingBegins (drop at bytes) → ⊥
never_both bytes from at [] [] a b lt nothing = omega arith
never_both bytes from at [] (q ∷ qs) a b lt nothing = at_end bytes q (subst (λ k. BeginsWith (drop k bytes) q) a b.0)
never_both bytes from at (p ∷ ps) [] a b lt nothing = nothing_next (drop at bytes) nothing p (subst (λ k. BeginsWith (drop k bytes) p) b a.0)
never_both bytes from at (p ∷ ps) (q ∷ qs) a b lt nothing =
    let same = one_piece (drop from bytes) p q a.0 b.0 in
    never_both bytes (from + len_of p) at ps qs a.1 (subst (λ r. Tiles bytes (from + len_of r) qs at) (sym same) b.1) lt nothing

one_bad : (bytes : List ℕ) (from x y : ℕ) (ps qs : List Piece) → Tiles bytes from ps x → NothingBegins (drop x bytes) → Tiles bytes from qs y → NothingBegins (drop y bytes) → x ≡ y
one_bad bytes from x y [] [] a nothing_x b nothing_y = sym a ∙ b
one_bad bytes from x y [] (q ∷ qs) a nothing_x b nothing_y = absurd (nothing_next (drop x bytes) nothing_x q (subst (λ k. BeginsWith (drop k bytes) q) a b.0))
one_bad bytes from x y (p ∷ ps) [] a nothing_x b nothing_y = absurd (nothing_next (drop y bytes) nothing_y p (subst (λ k. BeginsWith (drop k bytes) p) b a.0))
one_bad bytes from x y (p ∷ ps) (q ∷ qs) a nothing_x b nothing_y =
    let same = one_piece (drop from bytes) p q a.0 b.0 in
    one_bad bytes (from + len_of p) x y ps qs a.1 nothing_x (subst (λ r. Tiles bytes (from + len_of r) qs y) (sym same) b.1) nothing_y

pub tokens_once : (bytes : List ℕ) (ts us : List Token) → Tokens bytes ts → Tokens bytes us → ts ≡ us
tokens_once bytes ts us a b = a.tokens ∙ ap (tokens_of 0) (one_tiling bytes 0 a.pieces b.pieces a.tile b.tile) ∙ sym b.tokens

pub tokens_or_bad : (bytes : List ℕ) (ts : List Token) (at : ℕ) → Tokens bytes ts → IsBadByte bytes at → ⊥
tokens_or_bad bytes ts at a b = never_both bytes 0 at a.pieces b.pieces a.tile b.tile b.within b.nothing

pub bad_once : (bytes : List ℕ) (x y : ℕ) → IsBadByte bytes x → IsBadByte bytes y → x ≡ y
bad_once bytes x y a b = one_bad bytes 0 x y a.pieces b.pieces a.tile a.nothing b.tile b.nothing

-- the bytes up to a place are tiled, and these are their tokens
pub record LexedTo (bytes : List ℕ) (ts : List Token) (at : ℕ) : Type 0 where
  pub pieces : List Piece
  pub tile : Tiles bytes 0 pieces at
  pub tokens : ts ≡ tokens_of 0 pieces
  pub within : at ≤ length bytes

pub lexed_none : (bytes : List ℕ) → LexedTo bytes [] 0
lexed_none bytes = record { pieces = []; tile = refl; tokens = refl; within = omega arith }

pub lexed_more : (bytes : List ℕ) (ts : List Token) (at : ℕ) (p : Piece) → LexedTo bytes ts at → BeginsWith (drop at bytes) p → LexedTo bytes (ts ++ tokens_of at (p ∷ [])) (at + len_of p)
lexed_more bytes ts at p lexed begins = record {
  pieces = lexed.pieces ++ p ∷ [];
  tile = tiles_more bytes 0 at lexed.pieces p lexed.tile begins;
  tokens = ap (λ us. us ++ tokens_of at (p ∷ [])) lexed.tokens ∙ sym (tokens_more bytes 0 at lexed.pieces p lexed.tile);
  within = omega (arith, lexed.within, (piece_bounds (drop at bytes) p begins).1, length-drop at bytes);
}

pub lexed_all : (bytes : List ℕ) (ts : List Token) (at : ℕ) → LexedTo bytes ts at → length bytes ≤ at → Tokens bytes ts
lexed_all bytes ts at lexed end =
    let e : at ≡ length bytes = omega (arith, lexed.within) in
    record { pieces = lexed.pieces; tile = subst (Tiles bytes 0 lexed.pieces) e lexed.tile; tokens = lexed.tokens }

pub lexed_bad : (bytes : List ℕ) (ts : List Token) (at : ℕ) → LexedTo bytes ts at → at < length bytes → NothingBegins (drop at bytes) → IsBadByte bytes at
lexed_bad bytes ts at lexed lt nothing = record { pieces = lexed.pieces; tile = lexed.tile; within = lt; nothing = nothing }

-- tokens or a bad byte
abbrev pub HasAnswer : List ℕ → Type 0
HasAnswer bytes = ((ts : List Token) × Tokens bytes ts) ⊎ ((at : ℕ) × IsBadByte bytes at)

lexed_step : (bytes : List ℕ) (ts : List Token) (at : ℕ) (o : Option Piece) → LexedTo bytes ts at → at < length bytes → Next (drop at bytes) o → ((p : Piece) → IsNext (drop at bytes) p → HasAnswer bytes) → HasAnswer bytes
lexed_step bytes ts at None lexed lt is go_on = inr (at, lexed_bad bytes ts at lexed lt is)
lexed_step bytes ts at (Some p) lexed lt is go_on = go_on p is

lexed_on : (fuel : ℕ) (bytes : List ℕ) (ts : List Token) (at : ℕ) → length bytes - at ≤ fuel → LexedTo bytes ts at → HasAnswer bytes
lexed_on zero bytes ts at le lexed = inl (ts, lexed_all bytes ts at lexed (omega arith))
lexed_on (suc fuel) bytes ts at le lexed = ⊎_elim
    (λ lt. lexed_step bytes ts at (next (drop at bytes)) lexed lt (next_is (drop at bytes))
    (λ p is. lexed_on fuel bytes (ts ++ tokens_of at (p ∷ [])) (at + len_of p) (omega (arith, is.some)) (lexed_more bytes ts at p lexed is.begins)))
    (λ ge. inl (ts, lexed_all bytes ts at lexed ge))
    (cases_lt at (length bytes))

pub some_answer : (bytes : List ℕ) → HasAnswer bytes
some_answer bytes = lexed_on (length bytes) bytes [] 0 (omega arith) (lexed_none bytes)

-- where the tokens are

token_in : (bytes : List ℕ) (from : ℕ) (kind : Kind) (len : ℕ) → IsLongest (drop from bytes) kind len → IsTokenIn bytes (record { kind = kind; from = from; to = from + len })
token_in bytes from kind len longest =
    let bounds = piece_bounds (drop from bytes) (Lexeme kind len) longest in
    let e : len ≡ (from + len) - from = omega arith in
    record {
      some = omega (arith, bounds.0);
      within = omega (arith, bounds.0, bounds.1, length-drop from bytes);
      spelled = subst (λ n. is_spelled kind (take n (drop from bytes)) ≡ true) e longest.spelled;
    }

in_tiling : (bytes : List ℕ) (from to : ℕ) (ps : List Piece) → Tiles bytes from ps to → AllByRecursion (IsTokenIn bytes) (tokens_of from ps)
in_tiling bytes from to [] tile = tt
in_tiling bytes from to (Blank ∷ ps) tile = in_tiling bytes (from + 1) to ps tile.1
in_tiling bytes from to (Comment len ∷ ps) tile = in_tiling bytes (from + len) to ps tile.1
in_tiling bytes from to (Lexeme kind len ∷ ps) tile = (token_in bytes from kind len tile.0, in_tiling bytes (from + len) to ps tile.1)

in_order_before : (from start to : ℕ) (ts : List Token) → from ≤ start → InOrder start ts to → InOrder from ts to
in_order_before from start to [] le order = omega arith
in_order_before from start to (t ∷ ts) le order = (omega (arith, order.0), order.1, order.2)

order_tiling : (bytes : List ℕ) (from to : ℕ) (ps : List Piece) → Tiles bytes from ps to → InOrder from (tokens_of from ps) to
order_tiling bytes from to [] tile = omega arith
order_tiling bytes from to (Blank ∷ ps) tile = in_order_before from (from + 1) to (tokens_of (from + 1) ps) (omega arith) (order_tiling bytes (from + 1) to ps tile.1)
order_tiling bytes from to (Comment len ∷ ps) tile = in_order_before from (from + len) to (tokens_of (from + len) ps) (omega arith) (order_tiling bytes (from + len) to ps tile.1)
order_tiling bytes from to (Lexeme kind len ∷ ps) tile =
    let bounds = piece_bounds (drop from bytes) (Lexeme kind len) tile.0 in
    (omega arith, omega (arith, bounds.0), order_tiling bytes (from + len) to ps tile.1)

pub tokens_in : (bytes : List ℕ) (ts : List Token) → Tokens bytes ts → All (IsTokenIn bytes) ts
tokens_in bytes ts is = subst (All (IsTokenIn bytes)) (sym is.tokens) (All-from_recursion (IsTokenIn bytes) (tokens_of 0 is.pieces) (in_tiling bytes 0 (length bytes) is.pieces is.tile))

pub tokens_in_order : (bytes : List ℕ) (ts : List Token) → Tokens bytes ts → InOrder 0 ts (length bytes)
tokens_in_order bytes ts is = subst (λ us. InOrder 0 us (length bytes)) (sym is.tokens) (order_tiling bytes 0 (length bytes) is.pieces is.tile)

-- the answer of the code against the text's one answer

pub answers_tokens : (bytes : List ℕ) (r : Result (List Token) LexFault) → IfOk r (λ ts. Tokens bytes ts) → IfErr r (IsCause bytes) → (ts : List Token) → Tokens bytes ts → Answers r (Ok ts)
answers_tokens bytes (Ok us) ok err ts is = ap (λ x. Ok x) (tokens_once bytes ts us is ok)
answers_tokens bytes (Err (BadByte at)) ok err ts is = absurd (tokens_or_bad bytes ts at is err)
answers_tokens bytes (Err OutOfMemory) ok err ts is = tt

pub answers_bad : (bytes : List ℕ) (r : Result (List Token) LexFault) → IfOk r (λ ts. Tokens bytes ts) → IfErr r (IsCause bytes) → (at : ℕ) → IsBadByte bytes at → Answers r (Err (BadByte at))
answers_bad bytes (Ok us) ok err at is = absurd (tokens_or_bad bytes us at ok is)
answers_bad bytes (Err (BadByte other)) ok err at is = ap (λ x. Err (BadByte x)) (bad_once bytes at other is err)
answers_bad bytes (Err OutOfMemory) ok err at is = tt

pub answers_each : (bytes : List ℕ) (r : Result (List Token) LexFault) → IfOk r (λ ts. Tokens bytes ts) → IfOk r (λ ts. All (IsTokenIn bytes) ts)
answers_each bytes (Ok us) ok = tokens_in bytes us ok
answers_each bytes (Err e) ok = tt

pub answers_in_order : (bytes : List ℕ) (r : Result (List Token) LexFault) → IfOk r (λ ts. Tokens bytes ts) → IfOk r (λ ts. InOrder 0 ts (length bytes))
answers_in_order bytes (Ok us) ok = tokens_in_order bytes us ok
answers_in_order bytes (Err e) ok = tt
