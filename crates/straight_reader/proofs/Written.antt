-- What is spelled is read: each production and its reading function.
use Rattle.std.proofs.Common.{◌≡◌, ◌∙◌, ℕ, ◌*◌, Bool, true, false, List, [], ◌∷◌, ◌++◌, length, drop, map, flat_map, Some, None, option_map, option_and_then, refl, sym, ap, arith, append_assoc, length-append}
use Rattle.std.proofs.Math.Seq.{drop-append_seam}
use Rattle.std.proofs.lemmas.List.{length-map}
use Rattle.straight_form.specs.declared.surface.Value.{Value}
use Rattle.straight_form.specs.declared.surface.Value.TheVariants.{Number, Local}
use Rattle.straight_form.specs.declared.surface.Line.{Line}
use Rattle.straight_form.specs.declared.surface.Line.TheVariants.{Add, Call}
use Rattle.straight_form.specs.declared.surface.Entity.{Entity}
use Rattle.straight_form.specs.Spelled.{Piece, mark, local_name, value_piece, more_pieces, listed_pieces, group_pieces, line_pieces, end_pieces, head_pieces, entity_pieces}
use Rattle.straight_reader.specs.Readings.{word_by, word_at, words_from, group_at, group_len, names_in, params_at, begins_line, addition_by, verb_by, line_at, line_len, lines_len, lines_from, end_at, entity_by, body_at, block_at, params_by, head_at, entity_at, entity_len, entities_from}
use Rattle.straight_reader.proofs.Reading.{words_then, lines_then, word-step, line-step, line-stop, entity-step, entity_len-positive}
use Rattle.straight_reader.proofs.Spelling.{local_value, local_pieces, filled_len}

-- ---- groups

word_again : (v : Value) (rest : List Piece) → word_at (listed_pieces (value_piece v ∷ []) ++ (mark 41 ∷ rest)) ≡ Some (v, false)
unfolding word_by
word_again (Number digits) rest = refl
word_again (Local name) rest = refl

word_more : (v : Value) (p : Piece) (ps rest : List Piece) → word_at (listed_pieces (value_piece v ∷ p ∷ ps) ++ rest) ≡ Some (v, true)
unfolding word_by
word_more (Number digits) p ps rest = refl
word_more (Local name) p ps rest = refl

words_again : (v : Value) (vs : List Value) (rest : List Piece) → words_from 0 (listed_pieces (map value_piece (v ∷ vs)) ++ (mark 41 ∷ rest)) ≡ Some (v ∷ vs)
words_again v [] rest =
    word-step (listed_pieces (value_piece v ∷ []) ++ (mark 41 ∷ rest))
    ∙ ap (option_and_then (words_then (drop 3 (listed_pieces (value_piece v ∷ []) ++ (mark 41 ∷ rest))))) (word_again v rest)
words_again v (w ∷ vs) rest =
    word-step (listed_pieces (map value_piece (v ∷ w ∷ vs)) ++ (mark 41 ∷ rest))
    ∙ ap (option_and_then (words_then (drop 3 (listed_pieces (map value_piece (v ∷ w ∷ vs)) ++ (mark 41 ∷ rest))))) (word_more v (value_piece w) (map value_piece vs) (mark 41 ∷ rest))
    ∙ ap (option_map (λ ws. v ∷ ws)) (words_again w vs rest)

pub group_again : (vs : List Value) (rest : List Piece) → group_at (group_pieces (map value_piece vs) ++ rest) ≡ Some vs
group_again [] rest = refl
group_again (v ∷ vs) rest = ap (words_from 0) (append_assoc (listed_pieces (map value_piece (v ∷ vs))) (mark 41 ∷ []) rest) ∙ words_again v vs rest

more_length : (ps : List Piece) → length (more_pieces ps) ≡ 3 * length ps
more_length [] = refl
more_length (p ∷ ps) = omega (arith, more_length ps)

group_length : (ps : List Piece) → length (group_pieces ps) ≡ group_len (length ps)
group_length [] = refl
group_length (p ∷ ps) = omega (arith, length-append (listed_pieces (p ∷ ps)) (mark 41 ∷ []), more_length ps, filled_len (length ps))

-- ---- parameters

names_again : (names : List (List ℕ)) → names_in (map local_value names) ≡ Some names
names_again [] = refl
names_again (n ∷ ns) = ap (option_map (λ ns. n ∷ ns)) (names_again ns)

params_again : (params : List (List ℕ)) (rest : List Piece) → params_at (group_pieces (map local_name params) ++ rest) ≡ Some params
params_again params rest =
    ap (λ ps. params_at (group_pieces ps ++ rest)) (sym (local_pieces params))
    ∙ ap (option_and_then names_in) (group_again (map local_value params) rest)
    ∙ names_again params

pub params_length : (params : List (List ℕ)) → length (group_pieces (map local_name params)) ≡ group_len (length params)
params_length params = group_length (map local_name params) ∙ ap group_len (length-map params local_name)

params_drop : (params : List (List ℕ)) (rest : List Piece) → drop (group_len (length params)) (group_pieces (map local_name params) ++ rest) ≡ rest
params_drop params rest = ap (λ n. drop n (group_pieces (map local_name params) ++ rest)) (sym (params_length params)) ∙ drop-append_seam (group_pieces (map local_name params)) rest

-- ---- lines

line_again : (l : Line) (rest : List Piece) → line_at (line_pieces l ++ rest) ≡ Some l
unfolding addition_by verb_by
line_again (Add name (Number a) (Number b)) rest = refl
line_again (Add name (Number a) (Local b)) rest = refl
line_again (Add name (Local a) (Number b)) rest = refl
line_again (Add name (Local a) (Local b)) rest = refl
line_again (Call name callee args) rest = ap (option_map (λ args. Call name callee args)) (group_again args rest)

line_begins : (l : Line) (rest : List Piece) → begins_line (line_pieces l ++ rest) ≡ true
line_begins (Add name a b) rest = refl
line_begins (Call name callee args) rest = refl

pub line_length : (l : Line) → length (line_pieces l) ≡ line_len l
line_length (Add name a b) = refl
line_length (Call name callee args) = omega (arith, group_length (map value_piece args), ap group_len (length-map args value_piece))

line_drop : (l : Line) (rest : List Piece) → drop (line_len l) (line_pieces l ++ rest) ≡ rest
line_drop l rest = ap (λ n. drop n (line_pieces l ++ rest)) (sym (line_length l)) ∙ drop-append_seam (line_pieces l) rest

pub lines_length : (ls : List Line) → length (flat_map line_pieces ls) ≡ lines_len ls
lines_length [] = refl
lines_length (l ∷ ls) = omega (arith, length-append (line_pieces l) (flat_map line_pieces ls), line_length l, lines_length ls)

lines_again : (ls : List Line) (ps : List Piece) → begins_line ps ≡ false → lines_from 0 (flat_map line_pieces ls ++ ps) ≡ Some ls
lines_again [] ps e = line-stop ps e
lines_again (l ∷ ls) ps e =
    ap (lines_from 0) (append_assoc (line_pieces l) (flat_map line_pieces ls) ps)
    ∙ line-step (line_pieces l ++ (flat_map line_pieces ls ++ ps)) (line_begins l (flat_map line_pieces ls ++ ps))
    ∙ ap (option_and_then (lines_then (line_pieces l ++ (flat_map line_pieces ls ++ ps)))) (line_again l (flat_map line_pieces ls ++ ps))
    ∙ ap (λ qs. option_map (λ more. l ∷ more) (lines_from 0 qs)) (line_drop l (flat_map line_pieces ls ++ ps))
    ∙ ap (option_map (λ more. l ∷ more)) (lines_again ls ps e)

lines_drop : (ls : List Line) (ps : List Piece) → drop (lines_len ls) (flat_map line_pieces ls ++ ps) ≡ ps
lines_drop ls ps = ap (λ n. drop n (flat_map line_pieces ls ++ ps)) (sym (lines_length ls)) ∙ drop-append_seam (flat_map line_pieces ls) ps

-- ---- definitions

end_again : (v : Value) (rest : List Piece) → end_at (end_pieces v ++ rest) ≡ Some v
end_again (Number digits) rest = refl
end_again (Local name) rest = refl

end_begins : (v : Value) (rest : List Piece) → begins_line (end_pieces v ++ rest) ≡ false
end_begins v rest = refl

body_again : (internal : Bool) (name : List ℕ) (params : List (List ℕ)) (lines : List Line) (v : Value) (rest : List Piece) →
    body_at internal name params ((flat_map line_pieces lines ++ end_pieces v) ++ rest) ≡ Some (entity_by internal name params lines v)
unfolding body_at
body_again internal name params lines v rest =
    ap (body_at internal name params) (append_assoc (flat_map line_pieces lines) (end_pieces v) rest)
    ∙ ap (option_and_then (λ ls. option_map (λ result. entity_by internal name params ls result) (end_at (drop (lines_len ls) (flat_map line_pieces lines ++ (end_pieces v ++ rest))))))
    (lines_again lines (end_pieces v ++ rest) (end_begins v rest))
    ∙ ap (λ qs. option_map (λ result. entity_by internal name params lines result) (end_at qs)) (lines_drop lines (end_pieces v ++ rest))
    ∙ ap (option_map (λ result. entity_by internal name params lines result)) (end_again v rest)

tail_again : (internal : Bool) (name : List ℕ) (params : List (List ℕ)) (ps : List Piece) →
    params_by internal name ((group_pieces (map local_name params) ++ mark 123 ∷ []) ++ ps) ≡ body_at internal name params ps
unfolding params_by
tail_again internal name params ps =
    ap (params_by internal name) (append_assoc (group_pieces (map local_name params)) (mark 123 ∷ []) ps)
    ∙ ap (option_and_then (λ params'. block_at internal name params' (drop (group_len (length params')) (group_pieces (map local_name params) ++ (mark 123 ∷ ps))))) (params_again params (mark 123 ∷ ps))
    ∙ ap (block_at internal name params) (params_drop params (mark 123 ∷ ps))

head_again : (internal : Bool) (name : List ℕ) (params : List (List ℕ)) (ps : List Piece) → head_at internal (head_pieces name params ++ ps) ≡ body_at internal name params ps
head_again internal name params ps = tail_again internal name params ps

-- the pieces behind define and the linkage
abbrev behind : List ℕ → List (List ℕ) → List Line → Value → List Piece
behind name params lines v = head_pieces name params ++ (flat_map line_pieces lines ++ end_pieces v)

behind_again : (internal : Bool) (name : List ℕ) (params : List (List ℕ)) (lines : List Line) (v : Value) (rest : List Piece) →
    head_at internal (behind name params lines v ++ rest) ≡ Some (entity_by internal name params lines v)
behind_again internal name params lines v rest =
    ap (head_at internal) (append_assoc (head_pieces name params) (flat_map line_pieces lines ++ end_pieces v) rest)
    ∙ head_again internal name params ((flat_map line_pieces lines ++ end_pieces v) ++ rest)
    ∙ body_again internal name params lines v rest

by_again : (internal : Bool) (name : List ℕ) (params : List (List ℕ)) (lines : List Line) (v : Value) (rest : List Piece) →
    entity_at (entity_pieces (entity_by internal name params lines v) ++ rest) ≡ Some (entity_by internal name params lines v)
by_again true name params lines v rest = behind_again true name params lines v rest
by_again false name params lines v rest = behind_again false name params lines v rest

unlabelled : (e : Entity) → e.label ≡ None → e ≡ entity_by e.internal e.name e.params e.lines e.result
unlabelled e none = ap (λ label. record e { label = label }) none

entity_again : (e : Entity) (rest : List Piece) → e.label ≡ None → entity_at (entity_pieces e ++ rest) ≡ Some e
entity_again e rest none =
    ap (λ e. entity_at (entity_pieces e ++ rest)) (unlabelled e none) ∙ by_again e.internal e.name e.params e.lines e.result rest ∙ ap Some (sym (unlabelled e none))

by_length : (internal : Bool) (name : List ℕ) (params : List (List ℕ)) (lines : List Line) (v : Value) →
    length (entity_pieces (entity_by internal name params lines v)) ≡ entity_len (entity_by internal name params lines v)
by_length true name params lines v =
    omega (arith, length-append (group_pieces (map local_name params) ++ mark 123 ∷ []) (flat_map line_pieces lines ++ end_pieces v), length-append (group_pieces (map local_name params)) (mark 123 ∷ []), length-append (flat_map line_pieces lines) (end_pieces v), lines_length lines, params_length params)
by_length false name params lines v =
    omega (arith, length-append (group_pieces (map local_name params) ++ mark 123 ∷ []) (flat_map line_pieces lines ++ end_pieces v), length-append (group_pieces (map local_name params)) (mark 123 ∷ []), length-append (flat_map line_pieces lines) (end_pieces v), lines_length lines, params_length params)

pub entity_length : (e : Entity) → e.label ≡ None → length (entity_pieces e) ≡ entity_len e
entity_length e none = ap (λ e. length (entity_pieces e)) (unlabelled e none) ∙ by_length e.internal e.name e.params e.lines e.result

entity_drop : (e : Entity) (rest : List Piece) → e.label ≡ None → drop (entity_len e) (entity_pieces e ++ rest) ≡ rest
entity_drop e rest none = ap (λ n. drop n (entity_pieces e ++ rest)) (sym (entity_length e none)) ∙ drop-append_seam (entity_pieces e) rest

-- each has no label
abbrev pub AreUnlabelled : List Entity → Type 0
AreUnlabelled [] = Unit {0}
AreUnlabelled (e ∷ es) = (e.label ≡ None) × AreUnlabelled es

-- What definitions without labels spell is read as these definitions.
pub entities_again : (es : List Entity) → AreUnlabelled es → entities_from 0 (flat_map entity_pieces es) ≡ Some es
entities_again [] all = refl
entities_again (e ∷ es) all =
    entity-step (entity_pieces e ++ flat_map entity_pieces es) (omega (arith, length-append (entity_pieces e) (flat_map entity_pieces es), entity_length e all.0, entity_len-positive e))
    ∙ ap (option_and_then (λ f. option_map (λ fs. f ∷ fs) (entities_from 0 (drop (entity_len f) (entity_pieces e ++ flat_map entity_pieces es))))) (entity_again e (flat_map entity_pieces es) all.0)
    ∙ ap (λ ps. option_map (λ fs. e ∷ fs) (entities_from 0 ps)) (entity_drop e (flat_map entity_pieces es) all.0)
    ∙ ap (option_map (λ fs. e ∷ fs)) (entities_again es all.1)
