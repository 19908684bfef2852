-- What is read is spelled so: each reading function and its production.
use Rattle.std.proofs.Common.{◌≡◌, ◌∙◌, ℕ, ◌+◌, ◌-◌, ◌*◌, ◌<◌, suc, zero, ◌⊎◌, inl, inr, Bool, true, false, cond, ◌&&◌, ◌||◌, nat_eq, codes, List, [], ◌∷◌, ◌++◌, length, drop, map, flat_map, Option, Some, None, option_map, option_and_then, refl, sym, ap, subst, arith, append_assoc}
use Rattle.std.proofs.Math.Seq.{drop-nil}
use Rattle.std.proofs.lemmas.List.{drop-drop, length-map}
use Rattle.std.proofs.lemmas.Bool.{and_parts}
use Rattle.std.proofs.lemmas.Bool.Decides.{Decides-eqb, nat_tests}
use Rattle.ir_lexer.specs.declared.token.Kind.{Kind}
use Rattle.ir_lexer.specs.declared.token.Kind.TheVariants.{AtName, LocalName, Hash, Meta, Str, CStr, Label, Word, Int, Mark}
use Rattle.straight_form.specs.declared.surface.Value.{Value}
use Rattle.straight_form.specs.declared.surface.Value.TheVariants.{Number, Local}
use Rattle.straight_form.specs.declared.surface.Line.{Line}
use Rattle.straight_form.specs.declared.surface.Line.TheVariants.{Add, Call}
use Rattle.straight_form.specs.declared.surface.Entity.{Entity}
use Rattle.straight_form.specs.Spelled.{Piece, word, mark, at_name, local_name, value_piece, listed_pieces, group_pieces, line_pieces, end_pieces, head_pieces, entity_pieces}
use Rattle.straight_reader.specs.Readings.{is_word, is_mark, is_local, behind, at_of, local_of, value_of, addition_by, addition_at, word_by, word_at, words_from, inside_at, group_at, group_len, name_in, names_in, params_at, call_at, verb_by, verb_at, line_at, line_len, lines_len, lines_from, end_at, entity_by, body_at, block_at, params_by, head_at, linkage_at, entity_at, entity_len}
use Rattle.straight_reader.proofs.NameLists.{and_left, and_right, same}
use Rattle.straight_reader.proofs.Reading.{one-less, line_len-positive}

pub if_some : {A : Type 0} (b : Bool) (o : Option A) (x : A) → cond b o None ≡ Some x → (b ≡ true) × (o ≡ Some x)
if_some true o x e = (refl, e)
if_some false o x e = cc

pub either_some : {A : Type 0} (b : Bool) (o p : Option A) (x : A) → cond b o p ≡ Some x → ((b ≡ true) × (o ≡ Some x)) ⊎ (p ≡ Some x)
either_some true o p x e = inl (refl, e)
either_some false o p x e = inr e

pub then_some : {A B : Type 0} (f : A → Option B) (o : Option A) (y : B) → option_and_then f o ≡ Some y → (x : A) × (o ≡ Some x) × (f x ≡ Some y)
then_some f None y e = cc
then_some f (Some x) y e = (x, refl, e)

pub map_some : {A B : Type 0} (f : A → B) (o : Option A) (y : B) → option_map f o ≡ Some y → (x : A) × (o ≡ Some x) × (f x ≡ y)
map_some f None y e = cc
map_some f (Some x) y e = (x, refl, cc)

word_found : (text : List ℕ) (p : Piece) → is_word text p.0 p.1 ≡ true → p ≡ word text
word_found text p e = cases p.0 p.1 e
  where
    cases : (k : Kind) (t : List ℕ) → is_word text k t ≡ true → ◌≡◌ {A = Piece} (k, t) (word text)
    cases Word t e = ap (λ (u : List ℕ). word u) (same t text e)
    cases AtName t e = cc
    cases LocalName t e = cc
    cases Hash t e = cc
    cases Meta t e = cc
    cases Str t e = cc
    cases CStr t e = cc
    cases Label t e = cc
    cases Int t e = cc
    cases Mark t e = cc

abbrev mark_text : List ℕ → Piece
mark_text text = (Mark, text)

mark_found : (byte : ℕ) (p : Piece) → is_mark byte p.0 p.1 ≡ true → p ≡ mark byte
mark_found byte p e = cases p.0 p.1 e
  where
    cases : (k : Kind) (t : List ℕ) → is_mark byte k t ≡ true → ◌≡◌ {A = Piece} (k, t) (mark byte)
    cases Mark t e = ap mark_text (same t (byte ∷ []) e)
    cases AtName t e = cc
    cases LocalName t e = cc
    cases Hash t e = cc
    cases Meta t e = cc
    cases Str t e = cc
    cases CStr t e = cc
    cases Label t e = cc
    cases Int t e = cc
    cases Word t e = cc

behind_found : (sign : ℕ) (t r : List ℕ) → behind sign t ≡ Some r → t ≡ sign ∷ r
behind_found sign [] r e = cc
behind_found sign (b ∷ bs) r e =
    let f = if_some (nat_eq b sign) (Some bs) r e in
    let g : b ≡ sign = (Decides-eqb b sign).0 f.0 in
    let h : bs ≡ r = cc (f.1) in
    cc (g, h)

at_found : (p : Piece) (name : List ℕ) → at_of p.0 p.1 ≡ Some name → p ≡ at_name name
at_found p name e = cases p.0 p.1 e
  where
    cases : (k : Kind) (t : List ℕ) → at_of k t ≡ Some name → ◌≡◌ {A = Piece} (k, t) (at_name name)
    cases AtName t e = cc (behind_found 64 t name e)
    cases Word t e = cc
    cases LocalName t e = cc
    cases Hash t e = cc
    cases Meta t e = cc
    cases Str t e = cc
    cases CStr t e = cc
    cases Label t e = cc
    cases Int t e = cc
    cases Mark t e = cc

local_found : (p : Piece) (name : List ℕ) → local_of p.0 p.1 ≡ Some name → p ≡ local_name name
local_found p name e = cases p.0 p.1 e
  where
    cases : (k : Kind) (t : List ℕ) → local_of k t ≡ Some name → ◌≡◌ {A = Piece} (k, t) (local_name name)
    cases LocalName t e = cc (behind_found 37 t name e)
    cases Word t e = cc
    cases AtName t e = cc
    cases Hash t e = cc
    cases Meta t e = cc
    cases Str t e = cc
    cases CStr t e = cc
    cases Label t e = cc
    cases Int t e = cc
    cases Mark t e = cc

value_found : (p : Piece) (v : Value) → value_of p.0 p.1 ≡ Some v → p ≡ value_piece v
value_found p v e = cases p.0 p.1 e
  where
    cases : (k : Kind) (t : List ℕ) → value_of k t ≡ Some v → ◌≡◌ {A = Piece} (k, t) (value_piece v)
    cases Int t e = let f : Number t ≡ v = cc in ap value_piece f
    cases LocalName t e =
        let (name, f, g) = map_some (λ name. Local name) (behind 37 t) v e in
        let h : ◌≡◌ {A = Piece} (LocalName, t) (value_piece (Local name)) = cc (behind_found 37 t name f) in
        h ∙ ap value_piece g
    cases AtName t e = cc
    cases Word t e = cc
    cases Hash t e = cc
    cases Meta t e = cc
    cases Str t e = cc
    cases CStr t e = cc
    cases Label t e = cc
    cases Mark t e = cc

addition_found : (name : Piece) (ps : List Piece) (l : Line) → addition_at name ps ≡ Some l →
    name ∷ mark 61 ∷ word (codes "add") ∷ word (codes "i32") ∷ ps ≡ line_pieces l ++ drop (line_len l) (name ∷ mark 61 ∷ word (codes "add") ∷ word (codes "i32") ∷ ps)
unfolding addition_by
addition_found name [] l e = cc
addition_found name (a ∷ []) l e = cc
addition_found name (a ∷ comma ∷ []) l e = cc
addition_found name (a ∷ comma ∷ b ∷ rest) l e =
    let f = if_some (is_mark 44 comma.0 comma.1) (option_and_then (λ n. option_and_then (λ x. option_map (λ y. Add n x y) (value_of b.0 b.1)) (value_of a.0 a.1)) (local_of name.0 name.1)) l e in
    let (n, g, h) = then_some (λ n. option_and_then (λ x. option_map (λ y. Add n x y) (value_of b.0 b.1)) (value_of a.0 a.1)) (local_of name.0 name.1) l f.1 in
    let (x, i, j) = then_some (λ x. option_map (λ y. Add n x y) (value_of b.0 b.1)) (value_of a.0 a.1) l h in
    let (y, k, m) = map_some (λ y. Add n x y) (value_of b.0 b.1) l j in
    spell n x y (local_found name n g) (value_found a x i) (mark_found 44 comma f.0) (value_found b y k) m
  where
    spell : (n : List ℕ) (x y : Value) → name ≡ local_name n → a ≡ value_piece x → comma ≡ mark 44 → b ≡ value_piece y → Add n x y ≡ l →
        name ∷ mark 61 ∷ word (codes "add") ∷ word (codes "i32") ∷ a ∷ comma ∷ b ∷ rest ≡ line_pieces l ++ drop (line_len l) (name ∷ mark 61 ∷ word (codes "add") ∷ word (codes "i32") ∷ a ∷ comma ∷ b ∷ rest)
    spell n x y e f g h i =
        let j : name ∷ mark 61 ∷ word (codes "add") ∷ word (codes "i32") ∷ a ∷ comma ∷ b ∷ rest ≡ local_name n ∷ mark 61 ∷ word (codes "add") ∷ word (codes "i32") ∷ value_piece x ∷ mark 44 ∷ value_piece y ∷ rest = cc in
        j ∙ ap (λ l. line_pieces l ++ drop (line_len l) (name ∷ mark 61 ∷ word (codes "add") ∷ word (codes "i32") ∷ a ∷ comma ∷ b ∷ rest)) i

-- ---- groups

pub words-some : (k : ℕ) (ps : List Piece) → words_from k ps ≡ Some [] → ⊥
words-some zero [] e = cc
words-some (suc k) [] e = cc
words-some zero (p ∷ ps) e =
    let (w, f, g) = then_some (λ w. cond w.1 (option_map (λ ws. w.0 ∷ ws) (words_from 2 ps)) (Some (w.0 ∷ []))) (word_at (p ∷ ps)) [] e in
    cases w.0 w.1 (words_from 2 ps) g
  where
    cases : (v : Value) (b : Bool) (o : Option (List Value)) → cond b (option_map (λ ws. v ∷ ws) o) (Some (v ∷ [])) ≡ Some [] → ⊥
    cases v true None g = cc
    cases v true (Some ws) g = cc
    cases v false o g = cc
words-some (suc k) (p ∷ ps) e = words-some k ps e

-- a word at the front, and the sign behind it
word_found_at : (ps : List Piece) (v : Value) (more : Bool) → word_at ps ≡ Some (v, more) → ps ≡ word (codes "i32") ∷ value_piece v ∷ mark (cond more 44 41) ∷ drop 3 ps
unfolding word_by
word_found_at [] v more e = cc
word_found_at (a ∷ []) v more e = cc
word_found_at (a ∷ b ∷ []) v more e = cc
word_found_at (a ∷ b ∷ c ∷ rest) v more e =
    let f = if_some (is_word (codes "i32") a.0 a.1 && (is_mark 44 c.0 c.1 || is_mark 41 c.0 c.1)) (option_map (λ x. (x, is_mark 44 c.0 c.1)) (value_of b.0 b.1)) (v, more) e in
    let both = and_parts (is_word (codes "i32") a.0 a.1) (is_mark 44 c.0 c.1 || is_mark 41 c.0 c.1) f.0 in
    let (x, g, h) = map_some (λ x. (x, is_mark 44 c.0 c.1)) (value_of b.0 b.1) (v, more) f.1 in
    let value : x ≡ v = ap (λ (w : Value × Bool). w.0) h in
    let sign : is_mark 44 c.0 c.1 ≡ more = ap (λ (w : Value × Bool). w.1) h in
    spell (word_found (codes "i32") a both.0) (value_found b x g ∙ ap value_piece value) (sign_found more sign both.1)
  where
    sign_found : (more : Bool) → is_mark 44 c.0 c.1 ≡ more → (is_mark 44 c.0 c.1 || is_mark 41 c.0 c.1) ≡ true → c ≡ mark (cond more 44 41)
    sign_found true e f = mark_found 44 c e
    sign_found false e f = mark_found 41 c (ap (λ t. t || is_mark 41 c.0 c.1) (sym e) ∙ f)

    spell : a ≡ word (codes "i32") → b ≡ value_piece v → c ≡ mark (cond more 44 41) → a ∷ b ∷ c ∷ rest ≡ word (codes "i32") ∷ value_piece v ∷ mark (cond more 44 41) ∷ rest
    spell e f g = cc

-- the words of a group up to its end
abbrev pub closed_pieces : List Value → List Piece
closed_pieces vs = listed_pieces (map value_piece vs) ++ mark 41 ∷ []

words_found : (k : ℕ) (ps : List Piece) (vs : List Value) → words_from k ps ≡ Some vs → drop k ps ≡ closed_pieces vs ++ drop (k + 3 * length vs) ps
words_found zero [] vs e = cc
words_found (suc k) [] vs e = cc
words_found zero (p ∷ ps) vs e =
    let (w, f, g) = then_some (λ w. cond w.1 (option_map (λ ws. w.0 ∷ ws) (words_from 2 ps)) (Some (w.0 ∷ []))) (word_at (p ∷ ps)) vs e in
    cases (words_found 2 ps) w.0 w.1 f g
  where
    Rest : Type 0
    Rest = (more : List Value) → words_from 2 ps ≡ Some more → drop 2 ps ≡ closed_pieces more ++ drop (2 + 3 * length more) ps

    behind : Rest → (v : Value) (more : List Value) → word_at (p ∷ ps) ≡ Some (v, true) → words_from 2 ps ≡ Some more → p ∷ ps ≡ closed_pieces (v ∷ more) ++ drop (0 + 3 * length (v ∷ more)) (p ∷ ps)
    behind found v [] f h = absurd (words-some 2 ps h)
    behind found v (w ∷ more) f h =
        let n : suc (2 + 3 * length (w ∷ more)) ≡ 0 + 3 * length (v ∷ w ∷ more) = omega arith in
        word_found_at (p ∷ ps) v true f
        ∙ ap (λ qs. word (codes "i32") ∷ value_piece v ∷ mark 44 ∷ qs) (found (w ∷ more) h)
        ∙ ap (λ n. closed_pieces (v ∷ w ∷ more) ++ drop n (p ∷ ps)) n

    cases : Rest → (v : Value) (more : Bool) → word_at (p ∷ ps) ≡ Some (v, more) → cond more (option_map (λ ws. v ∷ ws) (words_from 2 ps)) (Some (v ∷ [])) ≡ Some vs → p ∷ ps ≡ closed_pieces vs ++ drop (0 + 3 * length vs) (p ∷ ps)
    cases found v false f g =
        let only : v ∷ [] ≡ vs = cc in
        word_found_at (p ∷ ps) v false f ∙ ap (λ vs. closed_pieces vs ++ drop (0 + 3 * length vs) (p ∷ ps)) only
    cases found v true f g =
        let (more, h, i) = map_some (λ ws. v ∷ ws) (words_from 2 ps) vs g in
        behind found v more f h ∙ ap (λ vs. closed_pieces vs ++ drop (0 + 3 * length vs) (p ∷ ps)) i
words_found (suc k) (p ∷ ps) vs e =
    let n : suc (k + 3 * length vs) ≡ suc k + 3 * length vs = omega arith in
    words_found k ps vs e ∙ ap (λ n. closed_pieces vs ++ drop n (p ∷ ps)) n

pub filled_len : (n : ℕ) → group_len (suc n) ≡ 3 * suc n + 1
filled_len n = grind (arith, nat_tests)

pub group_found : (ps : List Piece) (vs : List Value) → group_at ps ≡ Some vs → ps ≡ group_pieces (map value_piece vs) ++ drop (group_len (length vs)) ps
group_found [] vs e = cc
group_found (opened ∷ rest) vs e =
    let f = if_some (is_mark 40 opened.0 opened.1) (inside_at rest) vs e in
    ap (λ p. p ∷ rest) (mark_found 40 opened f.0) ∙ ap (λ qs. mark 40 ∷ qs) (inside rest f.1)
  where
    filled : (ps : List Piece) (vs : List Value) → words_from 0 ps ≡ Some vs → ps ≡ closed_pieces vs ++ drop (group_len (length vs)) (opened ∷ ps)
    filled ps [] e = absurd (words-some 0 ps e)
    filled ps (v ∷ vs) e =
        let n : suc (0 + 3 * length (v ∷ vs)) ≡ group_len (length (v ∷ vs)) = omega (arith, filled_len (length vs)) in
        words_found 0 ps (v ∷ vs) e ∙ ap (λ n. closed_pieces (v ∷ vs) ++ drop n (opened ∷ ps)) n

    inside : (ps : List Piece) → inside_at ps ≡ Some vs → ps ≡ closed_pieces vs ++ drop (group_len (length vs)) (opened ∷ ps)
    inside [] e = cc
    inside (p ∷ qs) e =
        elim (either_some (is_mark 41 p.0 p.1) (Some []) (words_from 0 (p ∷ qs)) vs e) [
          | inl g ↦
              let none : [] ≡ vs = cc (g.1) in
              ap (λ p. p ∷ qs) (mark_found 41 p g.0) ∙ ap (λ vs. closed_pieces vs ++ drop (group_len (length vs)) (opened ∷ p ∷ qs)) none
          | inr g ↦ filled (p ∷ qs) vs g
        ]

-- ---- parameters

abbrev pub local_value : List ℕ → Value
local_value name = Local name

names_found : (vs : List Value) (names : List (List ℕ)) → names_in vs ≡ Some names → vs ≡ map local_value names
names_found [] names e = let f : [] ≡ names = cc in ap (map local_value) f
names_found (v ∷ vs) names e =
    let (n, f, g) = then_some (λ n. option_map (λ ns. n ∷ ns) (names_in vs)) (name_in v) names e in
    let (more, h, i) = map_some (λ ns. n ∷ ns) (names_in vs) names g in
    ap (λ v. v ∷ vs) (one v n f) ∙ ap (λ ws. local_value n ∷ ws) (names_found vs more h) ∙ ap (map local_value) i
  where
    one : (v : Value) (n : List ℕ) → name_in v ≡ Some n → v ≡ local_value n
    one (Number digits) n e = cc
    one (Local name) n e = let f : name ≡ n = cc in ap local_value f

pub local_pieces : (names : List (List ℕ)) → map value_piece (map local_value names) ≡ map local_name names
local_pieces [] = refl
local_pieces (n ∷ ns) = ap (λ ps. local_name n ∷ ps) (local_pieces ns)

params_found : (ps : List Piece) (params : List (List ℕ)) → params_at ps ≡ Some params → ps ≡ group_pieces (map local_name params) ++ drop (group_len (length params)) ps
params_found ps params e =
    let (vs, f, g) = then_some names_in (group_at ps) params e in
    let named = names_found vs params g in
    group_found ps vs f
    ∙ ap (λ qs. group_pieces qs ++ drop (group_len (length vs)) ps) (ap (map value_piece) named ∙ local_pieces params)
    ∙ ap (λ n. group_pieces (map local_name params) ++ drop (group_len n) ps) (ap (length {A = Value}) named ∙ length-map params local_value)

-- ---- lines

call_found : (name : Piece) (ps : List Piece) (l : Line) → call_at name ps ≡ Some l →
    name ∷ mark 61 ∷ word (codes "call") ∷ word (codes "i32") ∷ ps ≡ line_pieces l ++ drop (line_len l) (name ∷ mark 61 ∷ word (codes "call") ∷ word (codes "i32") ∷ ps)
call_found name [] l e = cc
call_found name (callee ∷ rest) l e =
    let (n, g, h) = then_some (λ n. option_and_then (λ c. option_map (λ args. Call n c args) (group_at rest)) (at_of callee.0 callee.1)) (local_of name.0 name.1) l e in
    let (c, i, j) = then_some (λ c. option_map (λ args. Call n c args) (group_at rest)) (at_of callee.0 callee.1) l h in
    let (args, k, m) = map_some (λ args. Call n c args) (group_at rest) l j in
    spell n c args (local_found name n g) (at_found callee c i) (group_found rest args k) m
  where
    whole : List Piece
    whole = name ∷ mark 61 ∷ word (codes "call") ∷ word (codes "i32") ∷ callee ∷ rest

    spell : (n c : List ℕ) (args : List Value) → name ≡ local_name n → callee ≡ at_name c → rest ≡ group_pieces (map value_piece args) ++ drop (group_len (length args)) rest → Call n c args ≡ l →
        whole ≡ line_pieces l ++ drop (line_len l) whole
    spell n c args e f g h =
        let five : suc (suc (suc (suc (suc (group_len (length args)))))) ≡ 5 + group_len (length args) = omega arith in
        let head : whole ≡ local_name n ∷ mark 61 ∷ word (codes "call") ∷ word (codes "i32") ∷ at_name c ∷ rest = cc in
        head ∙ ap (λ qs. local_name n ∷ mark 61 ∷ word (codes "call") ∷ word (codes "i32") ∷ at_name c ∷ qs) g
        ∙ ap (λ k. line_pieces (Call n c args) ++ drop k whole) five
        ∙ ap (λ l. line_pieces l ++ drop (line_len l) whole) h

verb_found : (name : Piece) (ps : List Piece) (l : Line) → verb_at name ps ≡ Some l → name ∷ mark 61 ∷ ps ≡ line_pieces l ++ drop (line_len l) (name ∷ mark 61 ∷ ps)
unfolding verb_by
verb_found name [] l e = cc
verb_found name (verb ∷ []) l e = cc
verb_found name (verb ∷ ty ∷ rest) l e =
    let f = if_some (is_word (codes "i32") ty.0 ty.1) (cond (is_word (codes "add") verb.0 verb.1) (addition_at name rest) (cond (is_word (codes "call") verb.0 verb.1) (call_at name rest) None)) l e in
    elim (either_some (is_word (codes "add") verb.0 verb.1) (addition_at name rest) (cond (is_word (codes "call") verb.0 verb.1) (call_at name rest) None) l f.1) [
      | inl g ↦ spell (codes "add") (word_found (codes "add") verb g.0) (word_found (codes "i32") ty f.0) (addition_found name rest l g.1)
      | inr g ↦
          let h = if_some (is_word (codes "call") verb.0 verb.1) (call_at name rest) l g in
          spell (codes "call") (word_found (codes "call") verb h.0) (word_found (codes "i32") ty f.0) (call_found name rest l h.1)
    ]
  where
    spell : (text : List ℕ) → verb ≡ word text → ty ≡ word (codes "i32") →
        name ∷ mark 61 ∷ word text ∷ word (codes "i32") ∷ rest ≡ line_pieces l ++ drop (line_len l) (name ∷ mark 61 ∷ word text ∷ word (codes "i32") ∷ rest) →
        name ∷ mark 61 ∷ verb ∷ ty ∷ rest ≡ line_pieces l ++ drop (line_len l) (name ∷ mark 61 ∷ verb ∷ ty ∷ rest)
    spell text e f g =
        let same : name ∷ mark 61 ∷ word text ∷ word (codes "i32") ∷ rest ≡ name ∷ mark 61 ∷ verb ∷ ty ∷ rest = cc in
        subst (λ whole. whole ≡ line_pieces l ++ drop (line_len l) whole) same g

pub line_found : (ps : List Piece) (l : Line) → line_at ps ≡ Some l → ps ≡ line_pieces l ++ drop (line_len l) ps
line_found [] l e = cc
line_found (name ∷ []) l e = cc
line_found (name ∷ equals ∷ rest) l e =
    let f = if_some (is_mark 61 equals.0 equals.1) (verb_at name rest) l e in
    subst (λ p. name ∷ p ∷ rest ≡ line_pieces l ++ drop (line_len l) (name ∷ p ∷ rest)) (sym (mark_found 61 equals f.0)) (verb_found name rest l f.1)

-- behind one piece, so many less
less_more : (p : Piece) (ps : List Piece) (n k : ℕ) → 0 < n → drop (n - 1 + k) ps ≡ drop (n + k) (p ∷ ps)
less_more p ps n k above = let e : n - 1 + k ≡ (n + k) - 1 = omega (arith, above) in ap (λ j. drop j ps) e ∙ one-less p ps (n + k) (omega (arith, above))

pub lines_found : (k : ℕ) (ps : List Piece) (ls : List Line) → lines_from k ps ≡ Some ls → drop k ps ≡ flat_map line_pieces ls ++ drop (k + lines_len ls) ps
lines_found zero [] ls e = let f : [] ≡ ls = cc in ap (λ ls. flat_map line_pieces ls ++ drop (0 + lines_len ls) []) f
lines_found (suc k) [] ls e = let f : [] ≡ ls = cc in sym (drop-nil (suc k + lines_len [])) ∙ ap (λ ls. flat_map line_pieces ls ++ drop (suc k + lines_len ls) []) f
lines_found zero (p ∷ ps) ls e =
    elim (either_some (is_local p.0) (option_and_then (λ l. option_map (λ ls. l ∷ ls) (lines_from (line_len l - 1) ps)) (line_at (p ∷ ps))) (Some []) ls e) [
      | inl f ↦
          let (l, g, h) = then_some (λ l. option_map (λ ls. l ∷ ls) (lines_from (line_len l - 1) ps)) (line_at (p ∷ ps)) ls f.1 in
          let (more, i, j) = map_some (λ ls. l ∷ ls) (lines_from (line_len l - 1) ps) ls h in
          let n : line_len l + lines_len more ≡ 0 + lines_len (l ∷ more) = omega arith in
          line_found (p ∷ ps) l g
          ∙ ap (λ qs. line_pieces l ++ qs) (sym (one-less p ps (line_len l) (line_len-positive l)) ∙ lines_found (line_len l - 1) ps more i ∙ ap (λ qs. flat_map line_pieces more ++ qs) (less_more p ps (line_len l) (lines_len more) (line_len-positive l)))
          ∙ sym (append_assoc (line_pieces l) (flat_map line_pieces more) (drop (line_len l + lines_len more) (p ∷ ps)))
          ∙ ap (λ n. flat_map line_pieces (l ∷ more) ++ drop n (p ∷ ps)) n
          ∙ ap (λ ls. flat_map line_pieces ls ++ drop (0 + lines_len ls) (p ∷ ps)) j
      | inr f ↦ let g : [] ≡ ls = cc in ap (λ ls. flat_map line_pieces ls ++ drop (0 + lines_len ls) (p ∷ ps)) g
    ]
lines_found (suc k) (p ∷ ps) ls e =
    let n : suc (k + lines_len ls) ≡ suc k + lines_len ls = omega arith in
    lines_found k ps ls e ∙ ap (λ n. flat_map line_pieces ls ++ drop n (p ∷ ps)) n

-- ---- definitions

end_found : (ps : List Piece) (v : Value) → end_at ps ≡ Some v → ps ≡ end_pieces v ++ drop 4 ps
end_found [] v e = cc
end_found (a ∷ []) v e = cc
end_found (a ∷ b ∷ []) v e = cc
end_found (a ∷ b ∷ c ∷ []) v e = cc
end_found (a ∷ b ∷ c ∷ d ∷ rest) v e =
    let f = if_some (is_word (codes "ret") a.0 a.1 && is_word (codes "i32") b.0 b.1 && is_mark 125 d.0 d.1) (value_of c.0 c.1) v e in
    let g = and_left (is_word (codes "ret") a.0 a.1 && is_word (codes "i32") b.0 b.1) (is_mark 125 d.0 d.1) f.0 in
    spell a b c d (word (codes "ret")) (word (codes "i32")) (value_piece v) (mark 125)
    (word_found (codes "ret") a (and_left (is_word (codes "ret") a.0 a.1) (is_word (codes "i32") b.0 b.1) g))
    (word_found (codes "i32") b (and_right (is_word (codes "ret") a.0 a.1) (is_word (codes "i32") b.0 b.1) g))
    (value_found c v f.1)
    (mark_found 125 d (and_right (is_word (codes "ret") a.0 a.1 && is_word (codes "i32") b.0 b.1) (is_mark 125 d.0 d.1) f.0))
  where
    spell : (a b c d a' b' c' d' : Piece) → a ≡ a' → b ≡ b' → c ≡ c' → d ≡ d' → a ∷ b ∷ c ∷ d ∷ rest ≡ a' ∷ b' ∷ c' ∷ d' ∷ rest
    spell a b c d a' b' c' d' e f g h = cc

abbrev body_pieces : List Line → Value → List Piece
body_pieces lines result = flat_map line_pieces lines ++ end_pieces result

body_found : (internal : Bool) (name : List ℕ) (params : List (List ℕ)) (ps : List Piece) (e : Entity) → body_at internal name params ps ≡ Some e →
    (lines : List Line) × (result : Value) × (entity_by internal name params lines result ≡ e) × (ps ≡ body_pieces lines result ++ drop (lines_len lines + 4) ps)
unfolding body_at
body_found internal name params ps e f =
    let (lines, g, h) = then_some (λ lines. option_map (λ result. entity_by internal name params lines result) (end_at (drop (lines_len lines) ps))) (lines_from 0 ps) e f in
    let (result, i, j) = map_some (λ result. entity_by internal name params lines result) (end_at (drop (lines_len lines) ps)) e h in
    let n : 0 + lines_len lines ≡ lines_len lines = omega arith in (
      lines,
      result,
      j,
      lines_found 0 ps lines g
          ∙ ap (λ k. flat_map line_pieces lines ++ drop k ps) n
          ∙ ap (λ qs. flat_map line_pieces lines ++ qs) (end_found (drop (lines_len lines) ps) result i ∙ ap (λ qs. end_pieces result ++ qs) (drop-drop 4 (lines_len lines) ps))
          ∙ sym (append_assoc (flat_map line_pieces lines) (end_pieces result) (drop (lines_len lines + 4) ps)),
    )

block_found : (internal : Bool) (name : List ℕ) (params : List (List ℕ)) (ps : List Piece) (e : Entity) → block_at internal name params ps ≡ Some e →
    (lines : List Line) × (result : Value) × (entity_by internal name params lines result ≡ e) × (ps ≡ mark 123 ∷ (body_pieces lines result ++ drop (lines_len lines + 5) ps))
block_found internal name params [] e f = cc
block_found internal name params (brace ∷ rest) e f =
    let g = if_some (is_mark 123 brace.0 brace.1) (body_at internal name params rest) e f in
    let (lines, result, m, s) = body_found internal name params rest e g.1 in
    let n : suc (lines_len lines + 4) ≡ lines_len lines + 5 = omega arith in (
      lines,
      result,
      m,
      ap (λ p. p ∷ rest) (mark_found 123 brace g.0) ∙ ap (λ qs. mark 123 ∷ qs) s ∙ ap (λ k. mark 123 ∷ (body_pieces lines result ++ drop k (brace ∷ rest))) n,
    )

abbrev tail_pieces : List (List ℕ) → List Line → Value → List Piece
tail_pieces params lines result = group_pieces (map local_name params) ++ (mark 123 ∷ body_pieces lines result)

abbrev tail_len : List (List ℕ) → List Line → ℕ
tail_len params lines = group_len (length params) + (lines_len lines + 5)

tail_found : (internal : Bool) (name : List ℕ) (ps : List Piece) (e : Entity) → params_by internal name ps ≡ Some e →
    (params : List (List ℕ)) × (lines : List Line) × (result : Value) × (entity_by internal name params lines result ≡ e) × (ps ≡ tail_pieces params lines result ++ drop (tail_len params lines) ps)
unfolding params_by
tail_found internal name ps e f =
    let (params, g, h) = then_some (λ params. block_at internal name params (drop (group_len (length params)) ps)) (params_at ps) e f in
    let (lines, result, m, s) = block_found internal name params (drop (group_len (length params)) ps) e h in (
      params,
      lines,
      result,
      m,
      params_found ps params g
          ∙ ap (λ qs. group_pieces (map local_name params) ++ qs) (s ∙ ap (λ qs. mark 123 ∷ (body_pieces lines result ++ qs)) (drop-drop (lines_len lines + 5) (group_len (length params)) ps))
          ∙ sym (append_assoc (group_pieces (map local_name params)) (mark 123 ∷ body_pieces lines result) (drop (tail_len params lines) ps)),
    )

abbrev behind_linkage : List ℕ → List (List ℕ) → List Line → Value → List Piece
behind_linkage name params lines result = head_pieces name params ++ body_pieces lines result

head_found : (internal : Bool) (ps : List Piece) (e : Entity) → head_at internal ps ≡ Some e →
    (name : List ℕ) × (params : List (List ℕ)) × (lines : List Line) × (result : Value) × (entity_by internal name params lines result ≡ e) × (ps ≡ behind_linkage name params lines result ++ drop (2 + tail_len params lines) ps)
head_found internal [] e f = cc
head_found internal (a ∷ []) e f = cc
head_found internal (a ∷ b ∷ rest) e f =
    let i = if_some (is_word (codes "i32") a.0 a.1) (option_and_then (λ n. params_by internal n rest) (at_of b.0 b.1)) e f in
    let (name, j, k) = then_some (λ n. params_by internal n rest) (at_of b.0 b.1) e i.1 in
    let (params, lines, result, m, s) = tail_found internal name rest e k in (
      name,
      params,
      lines,
      result,
      m,
      spell name params lines result (word_found (codes "i32") a i.0) (at_found b name j) s,
    )
  where
    spell : (name : List ℕ) (params : List (List ℕ)) (lines : List Line) (result : Value) → a ≡ word (codes "i32") → b ≡ at_name name → rest ≡ tail_pieces params lines result ++ drop (tail_len params lines) rest →
        a ∷ b ∷ rest ≡ behind_linkage name params lines result ++ drop (2 + tail_len params lines) (a ∷ b ∷ rest)
    spell name params lines result e f g =
        let two : suc (suc (tail_len params lines)) ≡ 2 + tail_len params lines = omega arith in
        let l : a ∷ b ∷ rest ≡ word (codes "i32") ∷ at_name name ∷ rest = cc in
        l ∙ ap (λ qs. word (codes "i32") ∷ at_name name ∷ qs)
        (g ∙ ap (λ qs. qs ++ drop (tail_len params lines) rest) (sym (append_assoc (group_pieces (map local_name params)) (mark 123 ∷ []) (body_pieces lines result))))
        ∙ ap (λ n. behind_linkage name params lines result ++ drop n (a ∷ b ∷ rest)) two

-- a definition and the rest
pub record IsSpelledAt (ps : List Piece) (e : Entity) : Type 0 where
  pub unlabelled : e.label ≡ None
  pub spelled : ps ≡ entity_pieces e ++ drop (entity_len e) ps

linkage_found : (ps : List Piece) (e : Entity) → linkage_at ps ≡ Some e → IsSpelledAt (word (codes "define") ∷ ps) e
linkage_found [] e f = cc
linkage_found (linkage ∷ rest) e f =
    elim (either_some (is_word (codes "internal") linkage.0 linkage.1) (head_at true rest) (head_at false (linkage ∷ rest)) e f) [
      | inl g ↦
          let (name, params, lines, result, m, s) = head_found true rest e g.1 in
          let n : suc (suc (2 + tail_len params lines)) ≡ entity_len (entity_by true name params lines result) = omega arith in
          record {
            unlabelled = ap (λ (e : Entity). e.label) (sym m);
            spelled = ap (λ p. word (codes "define") ∷ p ∷ rest) (word_found (codes "internal") linkage g.0)
                ∙ ap (λ qs. word (codes "define") ∷ word (codes "internal") ∷ qs) s
                ∙ ap (λ k. entity_pieces (entity_by true name params lines result) ++ drop k (word (codes "define") ∷ linkage ∷ rest)) n
                ∙ ap (λ e. entity_pieces e ++ drop (entity_len e) (word (codes "define") ∷ linkage ∷ rest)) m;
          }
      | inr g ↦
          let (name, params, lines, result, m, s) = head_found false (linkage ∷ rest) e g in
          let n : suc (2 + tail_len params lines) ≡ entity_len (entity_by false name params lines result) = omega arith in
          record {
            unlabelled = ap (λ (e : Entity). e.label) (sym m);
            spelled = ap (λ qs. word (codes "define") ∷ qs) s
                ∙ ap (λ k. entity_pieces (entity_by false name params lines result) ++ drop k (word (codes "define") ∷ linkage ∷ rest)) n
                ∙ ap (λ e. entity_pieces e ++ drop (entity_len e) (word (codes "define") ∷ linkage ∷ rest)) m;
          }
    ]

pub entity_found : (ps : List Piece) (e : Entity) → entity_at ps ≡ Some e → IsSpelledAt ps e
entity_found [] e f = cc
entity_found (define ∷ rest) e f =
    let g = if_some (is_word (codes "define") define.0 define.1) (linkage_at rest) e f in
    subst (λ p. IsSpelledAt (p ∷ rest) e) (sym (word_found (codes "define") define g.0)) (linkage_found rest e g.1)
