-- Steps of the loops that read words, lines and definitions.
use Rattle.std.proofs.Common.{◌≡◌, ◌∙◌, ℕ, ◌+◌, ◌-◌, suc, zero, Bool, true, false, cond, List, [], ◌∷◌, ◌++◌, length, drop, Option, Some, None, option_map, option_and_then, refl, sym, ap, subst, ◌<◌, arith, append_assoc}
use Rattle.std.proofs.lemmas.List.{drop-drop}
use Rattle.straight_form.specs.declared.lexeme.Lexeme.{Lexeme}
use Rattle.straight_form.specs.declared.surface.Value.{Value}
use Rattle.straight_form.specs.declared.surface.Line.{Line}
use Rattle.straight_form.specs.declared.surface.Line.TheVariants.{Add, Call}
use Rattle.straight_form.specs.declared.surface.Entity.{Entity}
use Rattle.straight_form.specs.Spelled.{Piece, seen}
use Rattle.straight_reader.specs.Readings.{word_at, words_from, group_len, params_at, begins_line, line_at, line_len, lines_len, lines_from, end_at, entity_by, body_at, block_at, params_by, entity_at, entity_len, entities_from, extended}

pub seen-drop : (k : ℕ) (xs : List Lexeme) → seen (drop k xs) ≡ drop k (seen xs)
seen-drop zero xs = refl
seen-drop (suc k) [] = refl
seen-drop (suc k) (x ∷ xs) = seen-drop k xs

pub seen-length : (xs : List Lexeme) → length (seen xs) ≡ length xs
seen-length [] = refl
seen-length (x ∷ xs) = ap suc (seen-length xs)

pub extended-more : {X : Type 0} (xs : List X) (x : X) (o : Option (List X)) → extended xs (option_map (λ ys. x ∷ ys) o) ≡ extended (xs ++ x ∷ []) o
extended-more xs x None = refl
extended-more xs x (Some ys) = ap Some (sym (append_assoc xs (x ∷ []) ys))

-- what is left to read behind some more pieces
pub seen-more : (xs : List Lexeme) (at n : ℕ) → seen (drop (at + n) xs) ≡ drop n (seen (drop at xs))
seen-more xs at n = ap seen (sym (drop-drop n at xs)) ∙ seen-drop n (drop at xs)

pub one-less : (p : Piece) (ps : List Piece) (n : ℕ) → 0 < n → drop (n - 1) ps ≡ drop n (p ∷ ps)
one-less p ps zero above = absurd (omega arith)
one-less p ps (suc n) above = let e : suc n - 1 ≡ n = omega arith in ap (λ k. drop k ps) e

-- ---- words

pub words-skipped : (k : ℕ) (ps : List Piece) → words_from k ps ≡ words_from 0 (drop k ps)
words-skipped zero ps = refl
words-skipped (suc k) [] = refl
words-skipped (suc k) (p ∷ ps) = words-skipped k ps

-- a word, and those behind it where there are more
abbrev pub words_then : List Piece → Value × Bool → Option (List Value)
words_then rest w = cond w.1 (option_map (λ ws. w.0 ∷ ws) (words_from 0 rest)) (Some (w.0 ∷ []))

pub word-step : (ps : List Piece) → words_from 0 ps ≡ option_and_then (words_then (drop 3 ps)) (word_at ps)
word-step [] = refl
word-step (p ∷ ps) = ap (λ o. option_and_then (λ w. cond w.1 (option_map (λ ws. w.0 ∷ ws) o) (Some (w.0 ∷ []))) (word_at (p ∷ ps))) (words-skipped 2 ps)

word-here : (xs rest : List Lexeme) (at : ℕ) (o : Option (Value × Bool)) → rest ≡ drop at xs → o ≡ word_at (seen rest) →
    words_from 0 (seen (drop at xs)) ≡ option_and_then (words_then (drop 3 (seen (drop at xs)))) o
word-here xs rest at o r here =
    word-step (seen (drop at xs)) ∙ ap (option_and_then (words_then (drop 3 (seen (drop at xs))))) (ap (λ ys. word_at (seen ys)) (sym r) ∙ sym here)

-- one more word
pub words_more : (xs rest : List Lexeme) (at : ℕ) (words : List Value) (v : Value) → rest ≡ drop at xs → Some (v, true) ≡ word_at (seen rest) →
    extended (words ++ v ∷ []) (words_from 0 (seen (drop (at + 3) xs))) ≡ extended words (words_from 0 (seen (drop at xs)))
words_more xs rest at words v r here =
    ap (λ ps. extended (words ++ v ∷ []) (words_from 0 ps)) (seen-more xs at 3)
    ∙ sym (extended-more words v (words_from 0 (drop 3 (seen (drop at xs)))))
    ∙ ap (extended words) (sym (word-here xs rest at (Some (v, true)) r here))

-- the last word
pub words_end : (xs rest : List Lexeme) (at : ℕ) (words : List Value) (v : Value) → rest ≡ drop at xs → Some (v, false) ≡ word_at (seen rest) →
    Some (words ++ v ∷ []) ≡ extended words (words_from 0 (seen (drop at xs)))
words_end xs rest at words v r here = ap (extended words) (sym (word-here xs rest at (Some (v, false)) r here))

-- no word
pub words_bad : (xs rest : List Lexeme) (at : ℕ) (words : List Value) → rest ≡ drop at xs → None ≡ word_at (seen rest) → None ≡ extended words (words_from 0 (seen (drop at xs)))
words_bad xs rest at words r here = ap (extended words) (sym (word-here xs rest at None r here))

-- ---- lines

pub line_len-positive : (l : Line) → 0 < line_len l
line_len-positive (Add name a b) = omega arith
line_len-positive (Call name callee args) = omega arith

pub lines_len-append : (ls ms : List Line) → lines_len (ls ++ ms) ≡ lines_len ls + lines_len ms
lines_len-append [] ms = omega arith
lines_len-append (l ∷ ls) ms = omega (arith, lines_len-append ls ms)

pub lines_len-more : (ls : List Line) (l : Line) → lines_len (ls ++ l ∷ []) ≡ lines_len ls + line_len l
lines_len-more ls l = omega (arith, lines_len-append ls (l ∷ []))

pub lines-skipped : (k : ℕ) (ps : List Piece) → lines_from k ps ≡ lines_from 0 (drop k ps)
lines-skipped zero ps = refl
lines-skipped (suc k) [] = refl
lines-skipped (suc k) (p ∷ ps) = lines-skipped k ps

-- a line, and those behind it
abbrev pub lines_then : List Piece → Line → Option (List Line)
lines_then ps l = option_map (λ ls. l ∷ ls) (lines_from 0 (drop (line_len l) ps))

pub line-step : (ps : List Piece) → begins_line ps ≡ true → lines_from 0 ps ≡ option_and_then (lines_then ps) (line_at ps)
line-step [] begins = cc
line-step (p ∷ ps) begins =
    ap (λ b. cond b (option_and_then (λ l. option_map (λ ls. l ∷ ls) (lines_from (line_len l - 1) ps)) (line_at (p ∷ ps))) (Some [])) begins ∙ each (line_at (p ∷ ps))
  where
    each : (o : Option Line) → option_and_then (λ l. option_map (λ ls. l ∷ ls) (lines_from (line_len l - 1) ps)) o ≡ option_and_then (lines_then (p ∷ ps)) o
    each None = refl
    each (Some l) = ap (option_map (λ ls. l ∷ ls)) (lines-skipped (line_len l - 1) ps ∙ ap (lines_from 0) (one-less p ps (line_len l) (line_len-positive l)))

pub line-stop : (ps : List Piece) → begins_line ps ≡ false → lines_from 0 ps ≡ Some []
line-stop [] begins = refl
line-stop (p ∷ ps) begins = ap (λ b. cond b (option_and_then (λ l. option_map (λ ls. l ∷ ls) (lines_from (line_len l - 1) ps)) (line_at (p ∷ ps))) (Some [])) begins

-- one more line
pub lines_more : (xs rest : List Lexeme) (at : ℕ) (lines : List Line) (l : Line) → rest ≡ drop at xs → begins_line (seen rest) ≡ true → Some l ≡ line_at (seen rest) →
    extended (lines ++ l ∷ []) (lines_from 0 (seen (drop (at + line_len l) xs))) ≡ extended lines (lines_from 0 (seen (drop at xs)))
lines_more xs rest at lines l r begins here =
    ap (λ ps. extended (lines ++ l ∷ []) (lines_from 0 ps)) (seen-more xs at (line_len l))
    ∙ sym (extended-more lines l (lines_from 0 (drop (line_len l) (seen (drop at xs)))))
    ∙ ap (extended lines)
    (ap (option_and_then (lines_then (seen (drop at xs)))) (here ∙ ap (λ ys. line_at (seen ys)) r)
    ∙ sym (line-step (seen (drop at xs)) (ap (λ ys. begins_line (seen ys)) (sym r) ∙ begins)))

-- no line where one should begin
pub lines_bad : (xs rest : List Lexeme) (at : ℕ) (lines : List Line) → rest ≡ drop at xs → begins_line (seen rest) ≡ true → None ≡ line_at (seen rest) →
    None ≡ extended lines (lines_from 0 (seen (drop at xs)))
lines_bad xs rest at lines r begins here =
    ap (extended lines)
    (ap (option_and_then (lines_then (seen (drop at xs)))) (here ∙ ap (λ ys. line_at (seen ys)) r)
    ∙ sym (line-step (seen (drop at xs)) (ap (λ ys. begins_line (seen ys)) (sym r) ∙ begins)))

-- ---- definitions

pub entities-skipped : (k : ℕ) (ps : List Piece) → entities_from k ps ≡ entities_from 0 (drop k ps)
entities-skipped zero ps = refl
entities-skipped (suc k) [] = refl
entities-skipped (suc k) (p ∷ ps) = entities-skipped k ps

pub entity_len-positive : (e : Entity) → 0 < entity_len e
entity_len-positive e = positive e.internal
  where
    positive : (b : Bool) → 0 < cond b 9 8 + group_len (length e.params) + lines_len e.lines
    positive true = omega arith
    positive false = omega arith

pub entity-step : (ps : List Piece) → 0 < length ps → entities_from 0 ps ≡ option_and_then (λ e. option_map (λ es. e ∷ es) (entities_from 0 (drop (entity_len e) ps))) (entity_at ps)
entity-step [] some = absurd (omega arith)
entity-step (p ∷ ps) some = each (entity_at (p ∷ ps))
  where
    each : (o : Option Entity) → option_and_then (λ e. option_map (λ es. e ∷ es) (entities_from (entity_len e - 1) ps)) o ≡ option_and_then (λ e. option_map (λ es. e ∷ es) (entities_from 0 (drop (entity_len e) (p ∷ ps)))) o
    each None = refl
    each (Some e) = ap (option_map (λ es. e ∷ es)) (entities-skipped (entity_len e - 1) ps ∙ ap (entities_from 0) (one-less p ps (entity_len e) (entity_len-positive e)))

-- one more definition
pub entities_more : (xs rest : List Lexeme) (at : ℕ) (entities : List Entity) (e : Entity) → rest ≡ drop at xs → 0 < length (seen rest) → Some e ≡ entity_at (seen rest) →
    extended (entities ++ e ∷ []) (entities_from 0 (seen (drop (at + entity_len e) xs))) ≡ extended entities (entities_from 0 (seen (drop at xs)))
entities_more xs rest at entities e r some here =
    ap (λ ps. extended (entities ++ e ∷ []) (entities_from 0 ps)) (seen-more xs at (entity_len e))
    ∙ sym (extended-more entities e (entities_from 0 (drop (entity_len e) (seen (drop at xs)))))
    ∙ ap (extended entities)
    (ap (λ o. option_and_then (λ e. option_map (λ es. e ∷ es) (entities_from 0 (drop (entity_len e) (seen (drop at xs))))) o) (here ∙ ap (λ ys. entity_at (seen ys)) r)
    ∙ sym (entity-step (seen (drop at xs)) (some_too (drop at xs) (sym r))))
  where
    some_too : (ys : List Lexeme) → ys ≡ rest → 0 < length (seen ys)
    some_too ys q = subst (λ zs. 0 < length (seen zs)) (sym q) some

-- ---- parts of a definition

-- the body behind its lines
pub body_is : (internal : Bool) (name : List ℕ) (params : List (List ℕ)) (xs rest : List Lexeme) (lines : List Line) → Some lines ≡ lines_from 0 (seen xs) → rest ≡ drop (lines_len lines) xs →
    body_at internal name params (seen xs) ≡ option_map (λ result. entity_by internal name params lines result) (end_at (seen rest))
unfolding body_at
body_is internal name params xs rest lines here r =
    ap (λ o. option_and_then (λ lines. option_map (λ result. entity_by internal name params lines result) (end_at (drop (lines_len lines) (seen xs)))) o) (sym here)
    ∙ ap (λ ps. option_map (λ result. entity_by internal name params lines result) (end_at ps)) (sym (seen-drop (lines_len lines) xs) ∙ ap seen (sym r))

-- the block behind the parameters
pub params_is : (internal : Bool) (name : List ℕ) (xs rest : List Lexeme) (params : List (List ℕ)) → Some params ≡ params_at (seen xs) → rest ≡ drop (group_len (length params)) xs →
    params_by internal name (seen xs) ≡ block_at internal name params (seen rest)
unfolding params_by
params_is internal name xs rest params here r =
    ap (λ o. option_and_then (λ params. block_at internal name params (drop (group_len (length params)) (seen xs))) o) (sym here)
    ∙ ap (block_at internal name params) (sym (seen-drop (group_len (length params)) xs) ∙ ap seen (sym r))
