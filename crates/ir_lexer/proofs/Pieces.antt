-- The piece at the front of some bytes is the only one.
use Rattle.std.proofs.Common.{◌≡◌, ℕ, zero, suc, ◌<◌, ◌≤◌, true, false, cond, ◌||◌, List, [], ◌∷◌, length, get_or, eqb, refl, sym, ap, subst, ◌∙◌, ⊎_elim, arith, Option, Some, None}
use Rattle.std.proofs.lemmas.Bool.{and_from, and_parts, or_cases, cases_lt, eqb-true, eq-eqb, both_ways, cond_both, not-false, not_from_true, false_from_ne_true}
use Rattle.std.proofs.lemmas.List.Sums.{prefix_len-le-length, prefix_len_passes, prefix_len_stops}
use Rattle.std.specs.List.{prefix_len}
use Rattle.ir_lexer.specs.declared.token.Kind.{Kind}
use Rattle.ir_lexer.specs.declared.class.Class.TheVariants as classes
use Rattle.ir_lexer.specs.Signs.{is_blank, begins_word, is_mark, is_no_line_feed}
use Rattle.ir_lexer.specs.Tokens.{IsBlank, IsComment, IsLongest, NothingBegins, Piece, Blank, Comment, Lexeme, len_of, BeginsWith}
use Rattle.ir_lexer.specs.Mirrors.Front.{class_of, front, front_of}
use Rattle.ir_lexer.proofs.Runs.{run_passes, run_most}
use Rattle.ir_lexer.proofs.Fronts.{IsFound, Found, Reach, found, reach}

-- the piece at the front
abbrev pub lexeme : Option (Kind × ℕ) → Option Piece
lexeme None = None
lexeme (Some f) = Some (Lexeme f.0 f.1)

abbrev pub next : List ℕ → Option Piece
next [] = None
next (b ∷ bs) =
    cond (is_blank b) (Some Blank)
    (cond (eqb b 59) (Some (Comment (suc (prefix_len is_no_line_feed bs))))
    (lexeme (front (b ∷ bs))))

-- no token begins with a blank or a semicolon

other_at : (b sign : ℕ) → eqb b sign ≡ true → class_of sign ≡ classes.Other → class_of b ≡ classes.Other
other_at b sign h e = ap class_of (eqb-true b sign h) ∙ e

blank_other : (b : ℕ) → is_blank b ≡ true → class_of b ≡ classes.Other
unfolding is_blank class_of begins_word is_mark
blank_other b h = ⊎_elim
    (λ h. ⊎_elim
    (λ h. ⊎_elim (λ h. other_at b 32 h refl) (λ h. other_at b 9 h refl) (or_cases (eqb b 32) (eqb b 9) h))
    (λ h. other_at b 13 h refl)
    (or_cases (eqb b 32 || eqb b 9) (eqb b 13) h))
    (λ h. other_at b 10 h refl)
    (or_cases (eqb b 32 || eqb b 9 || eqb b 13) (eqb b 10) h)

semicolon_other : (b : ℕ) → eqb b 59 ≡ true → class_of b ≡ classes.Other
unfolding class_of begins_word is_mark
semicolon_other b h = other_at b 59 h refl

front_other : (b : ℕ) (bs : List ℕ) → class_of b ≡ classes.Other → front (b ∷ bs) ≡ None
front_other b bs e = ap (λ c. front_of c (b ∷ bs) bs) e

semicolon_no_blank : is_blank 59 ≡ false
unfolding is_blank
semicolon_no_blank = refl

-- what next gives begins here, has bytes, and is within the rest
pub record IsNext (rest : List ℕ) (p : Piece) : Type 0 where
  pub some : 0 < len_of p
  pub within : len_of p ≤ length rest
  pub begins : BeginsWith rest p

abbrev pub Next : List ℕ → Option Piece → Type 0
Next rest None = NothingBegins rest
Next rest (Some p) = IsNext rest p

comment_front : (b : ℕ) (bs : List ℕ) → eqb b 59 ≡ true → IsComment (b ∷ bs) (suc (prefix_len is_no_line_feed bs))
unfolding is_no_line_feed
comment_front b bs semicolon = record {
  some = omega arith;
  within = omega (arith, prefix_len-le-length is_no_line_feed bs);
  begins = eqb-true b 59 semicolon;
  one_line = and_from (is_no_line_feed b) _
      (rw (eqb-true b 59 semicolon) refl)
      (run_passes is_no_line_feed bs (prefix_len is_no_line_feed bs) (omega arith));
  ends = λ lt. eqb-true _ 10 (not-false _ (prefix_len_stops is_no_line_feed bs 0 (omega arith)));
}

comment_only : (b : ℕ) (bs : List ℕ) (len : ℕ) → IsComment (b ∷ bs) len → (eqb b 59 ≡ true) × (len ≡ suc (prefix_len is_no_line_feed bs))
unfolding is_no_line_feed
comment_only b bs zero comment = absurd (omega (arith, comment.some))
comment_only b bs (suc m) comment =
    let within : m ≤ length bs = omega (arith, comment.within) in
    let most : m ≤ prefix_len is_no_line_feed bs = run_most is_no_line_feed bs m within (and_parts (is_no_line_feed b) _ comment.one_line).1 in (
      eq-eqb b 59 comment.begins,
      ⊎_elim
          (λ lt.
          let ends : get_or bs m 0 ≡ 10 = comment.ends (omega (arith, prefix_len-le-length is_no_line_feed bs)) in
          absurd (both_ways _ (not_from_true _ (eq-eqb _ 10 ends)) (prefix_len_passes is_no_line_feed bs m 0 lt)))
          (λ ge. omega arith)
          (cases_lt m (prefix_len is_no_line_feed bs)),
    )

longest_front : (rest : List ℕ) (o : Option (Kind × ℕ)) → front rest ≡ o → Found rest o → (IsBlank rest → ⊥) → ((len : ℕ) → IsComment rest len → ⊥) → Next rest (lexeme o)
longest_front rest None e is no_blank no_comment = record {
  no_blank = no_blank;
  no_comment = no_comment;
  no_token = λ kind len le. false_from_ne_true _ (λ spelled. subst (λ o. Reach o kind len) e (reach rest kind len le spelled));
}
longest_front rest (Some f) e is no_blank no_comment = record {
  some = is.some;
  within = is.within;
  begins = record {
    within = is.within;
    spelled = is.spelled;
    longest = λ other longer lt le. false_from_ne_true _ (λ spelled.
        ⊎_elim (λ less. absurd (omega arith)) (λ same. absurd (omega (arith, same.0)))
        (subst (λ o. Reach o other longer) e (reach rest other longer le spelled)));
  };
}

pub next_is : (rest : List ℕ) → Next rest (next rest)
next_is [] = record {
  no_blank = λ blank. absurd (omega (arith, blank.within));
  no_comment = λ len comment. absurd (omega (arith, comment.some, comment.within));
  no_token = λ kind len le. false_from_ne_true _ (λ spelled. reach [] kind len le spelled);
}
next_is (b ∷ bs) =
    let P : Option Piece → Type 0 = λ o. Next (b ∷ bs) o in
    cond_both (is_blank b) _ _ P
    (λ blank. record { some = omega arith; within = omega arith; begins = record { within = omega arith; blank = blank } })
    (λ no_blank. cond_both (eqb b 59) _ _ P
    (λ semicolon. record { some = omega arith; within = omega (arith, prefix_len-le-length is_no_line_feed bs); begins = comment_front b bs semicolon })
    (λ no_semicolon. longest_front (b ∷ bs) (front (b ∷ bs)) refl (found (b ∷ bs))
    (λ blank. both_ways _ no_blank blank.blank)
    (λ len comment. both_ways _ no_semicolon (comment_only b bs len comment).0)))

-- whatever begins here is what next gives

only_lexeme : (rest : List ℕ) (o : Option (Kind × ℕ)) (kind : Kind) (len : ℕ) → Found rest o → Reach o kind len → IsLongest rest kind len → o ≡ Some (kind, len)
only_lexeme rest None kind len is there longest = absurd there
only_lexeme rest (Some f) kind len is there longest = ⊎_elim
    (λ less. absurd (both_ways _ (longest.longest f.0 f.1 less is.within) is.spelled))
    (λ same. let a : f.0 ≡ kind = sym same.1 in let b : f.1 ≡ len = sym same.0 in (λ i. Some (a i, b i)))
    there

pub next_only : (rest : List ℕ) (p : Piece) → BeginsWith rest p → next rest ≡ Some p
next_only [] Blank begins = absurd (omega (arith, begins.within))
next_only [] (Comment len) begins = absurd (omega (arith, begins.some, begins.within))
next_only [] (Lexeme kind len) begins = absurd (reach [] kind len begins.within begins.spelled)
next_only (b ∷ bs) Blank begins = rw begins.blank refl
next_only (b ∷ bs) (Comment len) begins =
    let only = comment_only b bs len begins in
    let no_blank : is_blank b ≡ false = ap is_blank (eqb-true b 59 only.0) ∙ semicolon_no_blank in
    rw (no_blank, only.0) (ap (λ n. Some (Comment n)) (sym only.1))
next_only (b ∷ bs) (Lexeme kind len) begins =
    let there = reach (b ∷ bs) kind len begins.within begins.spelled in
    let is = only_lexeme (b ∷ bs) (front (b ∷ bs)) kind len (found (b ∷ bs)) there begins in
    let no_none : front (b ∷ bs) ≡ None → ⊥ = λ none. cc in
    let no_blank : is_blank b ≡ false = false_from_ne_true _ (λ h. no_none (front_other b bs (blank_other b h))) in
    let no_semicolon : eqb b 59 ≡ false = false_from_ne_true _ (λ h. no_none (front_other b bs (semicolon_other b h))) in
    rw (no_blank, no_semicolon) (ap lexeme is)

pub nothing_next : (rest : List ℕ) → NothingBegins rest → (p : Piece) → BeginsWith rest p → ⊥
nothing_next rest nothing Blank begins = nothing.no_blank begins
nothing_next rest nothing (Comment len) begins = nothing.no_comment len begins
nothing_next rest nothing (Lexeme kind len) begins = both_ways _ (nothing.no_token kind len begins.within) begins.spelled

pub one_piece : (rest : List ℕ) (p q : Piece) → BeginsWith rest p → BeginsWith rest q → p ≡ q
one_piece rest p q is_p is_q =
    let a = next_only rest p is_p in
    let b = next_only rest q is_q in
    cc

pub piece_bounds : (rest : List ℕ) (p : Piece) → BeginsWith rest p → (0 < len_of p) × (len_of p ≤ length rest)
piece_bounds rest p begins =
    let is : Next rest (Some p) = subst (Next rest) (next_only rest p begins) (next_is rest) in
    (is.some, is.within)

-- the token that front gives is the longest
pub found_longest : (rest : List ℕ) (kind : Kind) (len : ℕ) → front rest ≡ Some (kind, len) → IsLongest rest kind len
found_longest rest kind len e =
    let is : IsFound rest kind len = subst (Found rest) e (found rest) in
    record {
      within = is.within;
      spelled = is.spelled;
      longest = λ other longer lt le. false_from_ne_true _ (λ spelled.
          ⊎_elim (λ less. absurd (omega arith)) (λ same. absurd (omega (arith, same.0)))
          (subst (λ o. Reach o other longer) e (reach rest other longer le spelled)));
    }
