-- The words of rows.
use Rattle.std.proofs.Common.{◌≡◌, ◌≢◌, ℕ, zero, suc, ◌+◌, ◌*◌, ◌%◌, ◌<◌, ◌≤◌, Bool, true, false, eqb, List, [], ◌∷◌, length, get_or, set, sym, refl, ap, ◌∙◌, subst, ⊎_elim, arith, eq-eqb, ne_eqb}
use Rattle.std.specs.Prelude.{Option, Some, None, if◌then◌else◌}
use mathlib.Core.Option.{some, some-injective, some-ne-none}
use mathlib.Core.Logic.{dite}
use native.Mathlib.Decide.{ℕ_discrete, dec_le}
use lib.ListN.{get_elem?}
use Rattle.atomic_table.proofs.Lists.{one_turn}
use Rattle.table_rule.specs.Layout.{Has, word_of, span, content_at, named, home, probe}
use Rattle.table_rule.specs.Views.{Held, put, pairs_from, pairs_of, without}
use Rattle.table_rule.proofs.Lists.{has_none, has_cons, has_later, has_here, has_left, has_right, has_either, has_filter, has_filtered, not_eqb, eqb_not}

-- words of different rows, or different words of a row, stand at different places
pub one_row : (x y i j : ℕ) → i < 37 → j < 37 → word_of x i ≡ word_of y j → x ≡ y
one_row x y i j hi hj e = omega arith

pub one_word : (x y i j : ℕ) → i < 37 → j < 37 → word_of x i ≡ word_of y j → i ≡ j
one_word x y i j hi hj e = let xy : x ≡ y = omega arith in omega arith

pub length_span : (words : List ℕ) (at n : ℕ) → length (span words at n) ≡ n
length_span words at zero = refl
length_span words at (suc n) = ap suc (length_span words (at + 1) n)

pub word_at : (words : List ℕ) (p q : ℕ) → p ≡ q → get_or words p 0 ≡ get_or words q 0
word_at words p q e = ap (λ (i : ℕ). get_or words i 0) e

pub span_same : (words words' : List ℕ) (at at' n : ℕ) → ((j : ℕ) → j < n → get_or words (at + j) 0 ≡ get_or words' (at' + j) 0) → span words at n ≡ span words' at' n
span_same words words' at at' zero h = refl
span_same words words' at at' (suc n) h =
    let first : get_or words at 0 ≡ get_or words' at' 0 = word_at words at (at + 0) (omega arith) ∙ (h 0 (omega arith) ∙ word_at words' (at' + 0) at' (omega arith)) in
    let rest = span_same words words' (at + 1) (at' + 1) n (λ j lt. word_at words (at + 1 + j) (at + suc j) (omega arith) ∙ (h (suc j) (omega arith) ∙ word_at words' (at' + suc j) (at' + 1 + j) (omega arith))) in
    λ i. first i ∷ rest i

pub span_at : (words : List ℕ) (at n j a : ℕ) → get_elem? (span words at n) j ≡ some a → (j < n) × (get_or words (at + j) 0 ≡ a)
span_at words at zero j a e = absurd (some-ne-none a (sym e))
span_at words at (suc n) zero a e = (omega arith, word_at words (at + 0) at (omega arith) ∙ some-injective (get_or words at 0) a e)
span_at words at (suc n) (suc j) a e = let r = span_at words (at + 1) n j a e in let lt = r.0 in (omega arith, word_at words (at + suc j) (at + 1 + j) (omega arith) ∙ r.1)

-- a row's words are the same where its head and words are
pub content_is : (words words' : List ℕ) (at at' : ℕ) → get_or words' at' 0 % 64 ≤ 34 → ((j : ℕ) → j < 36 → get_or words (at + j) 0 ≡ get_or words' (at' + j) 0) → content_at words at ≡ content_at words' at'
content_is words words' at at' short h =
    let head : get_or words at 0 ≡ get_or words' at' 0 = word_at words at (at + 0) (omega arith) ∙ (h 0 (omega arith) ∙ word_at words' (at' + 0) at' (omega arith)) in
    let n = get_or words' at' 0 % 64 in
    ap (λ (m : ℕ). span words (at + 1) (m % 64)) head
    ∙ span_same words words' (at + 1) (at' + 1) n (λ j lt. word_at words (at + 1 + j) (at + suc j) (omega arith) ∙ (h (suc j) (omega arith) ∙ word_at words' (at' + suc j) (at' + 1 + j) (omega arith)))

pub probe_low : (row : List ℕ) (i : ℕ) → 0 < probe row i
unfolding probe
probe_low row i = omega arith

pub probe_high : (row : List ℕ) (i : ℕ) → probe row i ≤ 131072
unfolding probe
probe_high row i = let h = home row in omega arith

probe_apart : (row : List ℕ) (i j : ℕ) → i ≤ j → j < i + 131072 → probe row i ≡ probe row j → i ≡ j
unfolding probe
probe_apart row i j le lt e = let a : ℕ = home row in let m : (a + i) % 131072 ≡ (a + j) % 131072 = omega arith in let s : a + i ≡ a + j = one_turn (a + i) (a + j) 131072 (omega arith) (omega arith) m in omega arith

pub probe_one : (row : List ℕ) (i j : ℕ) → i < 131072 → j < 131072 → probe row i ≡ probe row j → i ≡ j
probe_one row i j hi hj e = dite (dec_le i j) (λ le. probe_apart row i j le (omega arith) e) (λ n. sym (probe_apart row j i (omega arith) (omega arith) (sym e)))

-- the two parts of an origin word
pub same_named : (o q : Option ℕ) → named o ≡ named q → o ≡ q
same_named None None e = refl
same_named None (Some y) e = let z : 0 ≡ y + 1 = e in absurd (omega arith)
same_named (Some x) None e = let z : x + 1 ≡ 0 = e in absurd (omega arith)
same_named (Some x) (Some y) e = let z : x + 1 ≡ y + 1 = e in let xy : x ≡ y = omega arith in ap (λ (n : ℕ). Some n) xy

pub halves : (m n : ℕ) (o q : Option ℕ) → m < 64 → n < 64 → m + 64 * named o ≡ n + 64 * named q → (m ≡ n) × (o ≡ q)
halves m n o q lm ln e = let a : ℕ = named o in let c : ℕ = named q in let e' : m + 64 * a ≡ n + 64 * c = e in (omega arith, same_named o q (omega arith))

module _ (x : ℕ) where
  pub without_kept : (held : List Held) (k y : ℕ) (ws : List ℕ) → Has held (k, (y, ws)) → y ≢ x → Has (without x held) (k, (y, ws))
  without_kept held k y ws h ne = has_filter _ held (k, (y, ws)) h (not_eqb y x ne)

  pub without_was : (held : List Held) (k y : ℕ) (ws : List ℕ) → Has (without x held) (k, (y, ws)) → Has held (k, (y, ws)) × (y ≢ x)
  without_was held k y ws h = let r = has_filtered _ held (k, (y, ws)) h in (r.0, eqb_not y x r.1)

  if_true : {A : Type 0} (c : Bool) (a b : A) → c ≡ true → (if c then a else b) ≡ a
  if_true c a b e = ap (λ (d : Bool). if d then a else b) e

  if_false : {A : Type 0} (c : Bool) (a b : A) → c ≡ false → (if c then a else b) ≡ b
  if_false c a b e = ap (λ (d : Bool). if d then a else b) e

  pub put_here : (j a k : ℕ) (ws : List ℕ) → put x j a (k, (x, ws)) ≡ (k, (x, set ws j a))
  put_here j a k ws = ap (λ (us : List ℕ). (k, (x, us))) (if_true (eqb x x) (set ws j a) ws (eq-eqb x x refl))

  pub put_other : (j a k y : ℕ) (ws : List ℕ) → y ≢ x → put x j a (k, (y, ws)) ≡ (k, (y, ws))
  put_other j a k y ws ne = ap (λ (us : List ℕ). (k, (y, us))) (if_false (eqb y x) (set ws j a) ws (ne_eqb y x ne))

-- where a pair stands among those of some words
pub pairs_has : (at : ℕ) (ws : List ℕ) (j a : ℕ) → get_elem? ws j ≡ some a → Has (pairs_from at ws) (at + j, a)
pairs_has at [] j a e = absurd (some-ne-none a (sym e))
pairs_has at (w ∷ ws) zero a e = let is : at ≡ at + 0 = omega arith in let wa = some-injective w a e in has_here (pairs_from (at + 1) ws) (at, w) (at + 0, a) (λ i. (is i, wa i))
pairs_has at (w ∷ ws) (suc j) a e = let is : at + 1 + j ≡ at + suc j = omega arith in
    has_later (pairs_from (at + 1) ws) (at, w) (at + suc j, a) (subst (λ (q : ℕ). Has (pairs_from (at + 1) ws) (q, a)) is (pairs_has (at + 1) ws j a e))

pub pairs_was : (at : ℕ) (ws : List ℕ) (q n : ℕ) → Has (pairs_from at ws) (q, n) → (j : ℕ) × (q ≡ at + j) × (get_elem? ws j ≡ some n)
pairs_was at [] q n h = absurd (has_none (q, n) h)
pairs_was at (w ∷ ws) q n h = ⊎_elim
    (λ e. let is : at ≡ q = ap (λ (z : ℕ × ℕ). z.0) e in (0, omega arith, ap (λ (z : ℕ × ℕ). some z.1) e))
    (λ g. let r = pairs_was (at + 1) ws q n g in let is : q ≡ at + 1 + r.0 = r.1 in (suc r.0, omega arith, r.2))
    (has_cons (pairs_from (at + 1) ws) (at, w) (q, n) h)

pub pairs_of_has : (x : ℕ) (held : List Held) (k : ℕ) (ws : List ℕ) (j a : ℕ) → Has held (k, (x, ws)) → get_elem? ws j ≡ some a → Has (pairs_of x held) (word_of x j, a)
pairs_of_has x [] k ws j a h e = absurd (has_none (k, (x, ws)) h)
pairs_of_has x (g ∷ gs) k ws j a h e =
    let mine = if eqb g.1.0 x then pairs_from (word_of x 0) g.1.1 else [] in
    ⊎_elim
    (λ is.
    let same : g.1.0 ≡ x = ap (λ (z : Held). z.1.0) is in
    let here : pairs_from (word_of x 0) ws ≡ mine = sym (if_true x (eqb g.1.0 x) (pairs_from (word_of x 0) g.1.1) [] (eq-eqb g.1.0 x same) ∙ ap (λ (z : Held). pairs_from (word_of x 0) z.1.1) is) in
    let place : word_of x 0 + j ≡ word_of x j = omega arith in
    has_left mine (pairs_of x gs) (word_of x j, a) (subst (λ (l : List (ℕ × ℕ)). Has l (word_of x j, a)) here (subst (λ (q : ℕ). Has (pairs_from (word_of x 0) ws) (q, a)) place (pairs_has (word_of x 0) ws j a e))))
    (λ later. has_right mine (pairs_of x gs) (word_of x j, a) (pairs_of_has x gs k ws j a later e))
    (has_cons gs g (k, (x, ws)) h)

pub pairs_of_was : (x : ℕ) (held : List Held) (q n : ℕ) → Has (pairs_of x held) (q, n) → (k : ℕ) × (ws : List ℕ) × (j : ℕ) × Has held (k, (x, ws)) × (q ≡ word_of x j) × (get_elem? ws j ≡ some n)
pairs_of_was x [] q n h = absurd (has_none (q, n) h)
pairs_of_was x (g ∷ gs) q n h =
    let mine = if eqb g.1.0 x then pairs_from (word_of x 0) g.1.1 else [] in
    ⊎_elim
    (λ m. dite (ℕ_discrete g.1.0 x)
    (λ is.
    let r = pairs_was (word_of x 0) g.1.1 q n (subst (λ (l : List (ℕ × ℕ)). Has l (q, n)) (if_true x (eqb g.1.0 x) (pairs_from (word_of x 0) g.1.1) [] (eq-eqb g.1.0 x is)) m) in
    let e : q ≡ word_of x 0 + r.0 = r.1 in
    (g.0, g.1.1, r.0, has_here gs g (g.0, (x, g.1.1)) (λ i. (g.0, (is i, g.1.1))), omega arith, r.2))
    (λ ne. absurd (has_none (q, n) (subst (λ (l : List (ℕ × ℕ)). Has l (q, n)) (if_false x (eqb g.1.0 x) (pairs_from (word_of x 0) g.1.1) [] (ne_eqb g.1.0 x ne)) m))))
    (λ l. let r = pairs_of_was x gs q n l in (r.0, r.1, r.2, has_later gs g (r.0, (x, r.1)) r.3, r.4, r.5))
    (has_either mine (pairs_of x gs) (q, n) h)
