-- What one turn of the lexer's loop keeps.
use Rattle.std.proofs.Common.{◌≡◌, ℕ, suc, ◌+◌, ◌<◌, ◌≤◌, false, List, [], ◌∷◌, ◌++◌, length, drop, eqb, refl, sym, ap, subst, ◌∙◌, ⊎_elim, arith, Option, Some, None, length-drop, append-nil, drop-drop}
use Rattle.std.proofs.lemmas.Bool.{false_from_ne_true, or_left}
use Rattle.std.specs.List.{prefix_len}
use Rattle.ir_lexer.specs.declared.token.Kind.{Kind}
use Rattle.ir_lexer.specs.declared.token.Kind.TheVariants as kinds
use Rattle.ir_lexer.specs.declared.token.Token.{Token}
use Rattle.ir_lexer.specs.Signs.{is_blank, is_name_byte, is_no_line_feed}
use Rattle.ir_lexer.specs.Tokens.{NothingBegins, Piece, Blank, Comment, Lexeme, len_of, BeginsWith, tokens_of, IsBadByte}
use Rattle.ir_lexer.specs.Mirrors.Front.{front, gap_len, is_labelled}
use Rattle.ir_lexer.proofs.Runs.{by_test}
use Rattle.ir_lexer.proofs.Lengths.{run_measures}
use Rattle.ir_lexer.proofs.Names.{integer_measures, integer_in_run, labelled_inside, label_from, has_tells}
use Rattle.ir_lexer.proofs.Fronts.{IsFound, Found, Reach, found, reach}
use Rattle.ir_lexer.proofs.Pieces.{lexeme, next, Next, next_is}
use Rattle.ir_lexer.proofs.Tilings.{LexedTo, lexed_more, lexed_bad}

-- a blank or a comment, which gives no token
pub record IsGap (rest : List ℕ) (len : ℕ) : Type 0 where
  pub piece : Piece
  pub is : next rest ≡ Some piece
  pub length : len_of piece ≡ len
  pub no_token : (at : ℕ) → tokens_of at (piece ∷ []) ≡ []

gap_next : (rest : List ℕ) → 0 < gap_len rest → IsGap rest (gap_len rest)
unfolding gap_len
gap_next [] some = absurd (omega arith)
gap_next (b ∷ bs) some = by_test (is_blank b)
    (λ blank. record { piece = Blank; is = rw blank refl; length = rw blank refl; no_token = λ at. refl })
    (λ none. by_test (eqb b 59)
    (λ semicolon. record {
      piece = Comment (suc (prefix_len is_no_line_feed bs));
      is = rw (none, semicolon) refl;
      length = rw (none, semicolon) refl;
      no_token = λ at. refl;
    })
    (λ other. absurd (let h = rw (none, other) at some in omega arith)))

no_gap : (rest : List ℕ) → gap_len rest ≡ 0 → next rest ≡ lexeme (front rest)
unfolding gap_len
no_gap [] none = refl
no_gap (b ∷ bs) none = by_test (is_blank b)
    (λ blank. absurd (let h = rw blank at none in omega arith))
    (λ no_blank. by_test (eqb b 59)
    (λ semicolon. absurd (let h = rw (no_blank, semicolon) at none in omega arith))
    (λ no_semicolon. rw (no_blank, no_semicolon) refl))

-- The code's rest is the bytes from the place on.

pub gap_more : (bytes : List ℕ) (ts : List Token) (at : ℕ) (rest : List ℕ) (gap : ℕ) → rest ≡ drop at bytes → LexedTo bytes ts at → gap ≡ gap_len rest → 0 < gap → LexedTo bytes ts (at + gap)
gap_more bytes ts at rest gap is_rest lexed is_gap some =
    let found_gap = gap_next rest (omega (arith, is_gap)) in
    let is : Next rest (Some found_gap.piece) = subst (Next rest) found_gap.is (next_is rest) in
    let begins : BeginsWith (drop at bytes) found_gap.piece = subst (λ r. BeginsWith r found_gap.piece) is_rest is.begins in
    let more = lexed_more bytes ts at found_gap.piece lexed begins in
    let same : ts ++ tokens_of at (found_gap.piece ∷ []) ≡ ts = ap (λ us. ts ++ us) (found_gap.no_token at) ∙ append-nil ts in
    subst (λ us. LexedTo bytes us (at + gap)) same
    (subst (λ n. LexedTo bytes (ts ++ tokens_of at (found_gap.piece ∷ [])) (at + n)) (found_gap.length ∙ sym is_gap) more)

front_next : (rest : List ℕ) (gap : ℕ) (o : Option (Kind × ℕ)) → gap ≡ gap_len rest → gap ≤ 0 → o ≡ front rest → Next rest (lexeme o)
front_next rest gap o is_gap none is_front =
    let no : gap_len rest ≡ 0 = omega (arith, is_gap) in
    subst (Next rest) (no_gap rest no ∙ ap lexeme (sym is_front)) (next_is rest)

pub token_more : (bytes : List ℕ) (ts : List Token) (at : ℕ) (rest : List ℕ) (gap : ℕ) (kind : Kind) (len : ℕ) → rest ≡ drop at bytes → LexedTo bytes ts at → gap ≡ gap_len rest → gap ≤ 0 → Some (kind, len) ≡ front rest → LexedTo bytes (ts ++ record { kind = kind; from = at; to = at + len } ∷ []) (at + len)
token_more bytes ts at rest gap kind len is_rest lexed is_gap none is_front =
    let is = front_next rest gap (Some (kind, len)) is_gap none is_front in
    lexed_more bytes ts at (Lexeme kind len) lexed (subst (λ r. BeginsWith r (Lexeme kind len)) is_rest is.begins)

pub bad_here : (bytes : List ℕ) (ts : List Token) (at : ℕ) (rest : List ℕ) (gap : ℕ) → rest ≡ drop at bytes → LexedTo bytes ts at → at < length bytes → gap ≡ gap_len rest → gap ≤ 0 → None ≡ front rest → IsBadByte bytes at
bad_here bytes ts at rest gap is_rest lexed lt is_gap none is_front =
    lexed_bad bytes ts at lexed lt (subst NothingBegins is_rest (front_next rest gap None is_gap none is_front))

-- a token that was found has bytes, and ends within the text
pub front_bounds : (bytes : List ℕ) (at : ℕ) (rest : List ℕ) (kind : Kind) (len : ℕ) → rest ≡ drop at bytes → at < length bytes → Some (kind, len) ≡ front rest → (0 < len) × (at + len ≤ length bytes)
front_bounds bytes at rest kind len is_rest lt is_front =
    let is : IsFound rest kind len = subst (Found rest) (sym is_front) (found rest) in
    (is.some, omega (arith, is.within, ap length is_rest, length-drop at bytes))

-- behind an integer that is no label none begins within the same run
integer_no_label : (rest : List ℕ) (len : ℕ) → front rest ≡ Some (kinds.Int, len) → is_labelled rest ≡ false
unfolding is_labelled
integer_no_label rest len e = false_from_ne_true _ (λ colon.
    let n : ℕ = prefix_len is_name_byte rest in
    let is : IsFound rest kinds.Int len = subst (Found rest) e (found rest) in
    let most = integer_measures.most rest len is.within is.spelled in
    let run : len ≤ n = omega (arith, integer_in_run rest) in
    let within : suc n ≤ length rest = omega (arith, (has_tells rest n 58 colon).0) in
    let label = label_from rest n colon (or_left _ _ (run_measures.found rest (omega (arith, is.some)))) in
    let there : Reach (Some (kinds.Int, len)) kinds.Label (suc n) = subst (λ o. Reach o kinds.Label (suc n)) e (reach rest kinds.Label (suc n) within label) in
    ⊎_elim (λ less. omega arith) (λ same. omega (arith, same.0)) there)

pub inside_after : (bytes : List ℕ) (at : ℕ) (rest : List ℕ) (kind : Kind) (len : ℕ) → rest ≡ drop at bytes → Some (kind, len) ≡ front rest → kind ≡ kinds.Int → is_labelled (drop (at + len) bytes) ≡ false
inside_after bytes at rest kind len is_rest is_front is_int =
    let e : front rest ≡ Some (kinds.Int, len) = sym is_front ∙ ap (λ k. Some (k, len)) is_int in
    let is : IsFound rest kinds.Int len = subst (Found rest) e (found rest) in
    let most = integer_measures.most rest len is.within is.spelled in
    let run : len ≤ prefix_len is_name_byte rest = omega (arith, integer_in_run rest) in
    ap is_labelled (sym (drop-drop len at bytes) ∙ ap (drop len) (sym is_rest)) ∙ labelled_inside rest len run ∙ integer_no_label rest len e
