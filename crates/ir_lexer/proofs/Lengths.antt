-- How long a part of a token is, against the test that tells its spelling.
use Rattle.std.proofs.Common.{◌≡◌, ℕ, zero, suc, ◌+◌, ◌<◌, ◌≤◌, Bool, true, false, List, [], ◌∷◌, length, take, eqb, ltb, refl, arith, length-take-le}
use Rattle.std.proofs.lemmas.Bool.{and_from, and_parts, eqb-true, lt-ltb, ltb-true, ne_eqb, false≢true}
use Rattle.std.proofs.lemmas.List.Sums.{prefix_len-le-length}
use Rattle.std.specs.List.{prefix_len}
use Rattle.std.specs.Char.{is_ascii_digit}
use Rattle.ir_lexer.specs.Signs.{is_name_byte, is_no_quote}
use Rattle.ir_lexer.specs.Spelled.{headed, after, closes, is_quoted, is_decimal, is_run}
use Rattle.ir_lexer.specs.Mirrors.Front.{with_sign, behind, closing_len, quoted_len, c_string_len}
use Rattle.ir_lexer.proofs.Runs.{by_test, run_passes, run_most}

-- len says how long the longest front is that passes the test, and is 0 where none does
pub record Measures (test : List ℕ → Bool) (len : List ℕ → ℕ) : Type 0 where
  pub within : (xs : List ℕ) → len xs ≤ length xs
  pub found : (xs : List ℕ) → 0 < len xs → test (take (len xs) xs) ≡ true
  pub some : (xs : List ℕ) (m : ℕ) → m ≤ length xs → test (take m xs) ≡ true → 0 < m
  pub most : (xs : List ℕ) (m : ℕ) → m ≤ length xs → test (take m xs) ≡ true → m ≤ len xs

-- strings
closes_front : (xs : List ℕ) → prefix_len is_no_quote xs < length xs → closes (take (suc (prefix_len is_no_quote xs)) xs) ≡ true
unfolding is_no_quote
closes_front [] lt = absurd (omega arith)
closes_front (x ∷ xs) lt =
    by_test (eqb x 34)
    (λ yes. rw yes refl)
    (λ no. let h = rw no at lt in
    let e : 1 + prefix_len is_no_quote xs ≡ suc (prefix_len is_no_quote xs) = omega arith in
    rw (no, e) (closes_front xs (omega arith)))

pub closes_only : (xs : List ℕ) (m : ℕ) → m ≤ length xs → closes (take m xs) ≡ true → (m ≡ suc (prefix_len is_no_quote xs)) × (prefix_len is_no_quote xs < length xs)
unfolding is_no_quote
closes_only xs zero le passes = absurd (false≢true passes)
closes_only [] (suc m) le passes = absurd (omega arith)
closes_only (x ∷ xs) (suc m) le passes =
    by_test (eqb x 34)
    (λ yes. let h = rw yes at passes in
    let none : length (take m xs) ≡ 0 = eqb-true (length (take m xs)) 0 h in
    let taken : length (take m xs) ≡ m = length-take-le m xs (omega arith) in
    rw yes (omega arith, omega arith))
    (λ no. let h = rw no at passes in
    let more = closes_only xs m (omega arith) h in
    rw no (omega (arith, more.0), omega (arith, more.1)))

pub closing_measures : Measures closes closing_len
unfolding closing_len
closing_measures = record {
  within = λ xs. by_test (ltb (prefix_len is_no_quote xs) (length xs))
      (λ yes. rw yes (omega (arith, ltb-true _ _ yes)))
      (λ no. rw no (omega arith));
  found = λ xs some. by_test (ltb (prefix_len is_no_quote xs) (length xs))
      (λ yes. rw yes (closes_front xs (ltb-true _ _ yes)))
      (λ no. absurd (let h = rw no at some in omega arith));
  some = λ xs m le passes. omega (arith, (closes_only xs m le passes).0);
  most = λ xs m le passes. let only = closes_only xs m le passes in
      let yes : ltb (prefix_len is_no_quote xs) (length xs) ≡ true = lt-ltb _ _ only.1 in
      rw yes (omega (arith, only.0));
}

-- one more for a sign in front
pub with_sign_of : (n : ℕ) → 0 < n → with_sign n ≡ suc n
with_sign_of zero some = absurd (omega arith)
with_sign_of (suc n) some = let e : eqb (suc n) 0 ≡ false = ne_eqb (suc n) 0 (λ h. omega arith) in rw e refl

pub with_sign_some : (n : ℕ) → 0 < with_sign n → 0 < n
with_sign_some zero some = some
with_sign_some (suc n) some = omega arith

pub behind_measures : (sign : ℕ) (test : List ℕ → Bool) (len : List ℕ → ℕ) → Measures test len → Measures (after sign test) (behind sign len)
behind_measures sign test len measures = record { within = within; found = found; some = some; most = most }
  where
    within : (xs : List ℕ) → behind sign len xs ≤ length xs
    within [] = omega arith
    within (x ∷ xs) = by_test (eqb x sign)
        (λ yes. rw yes (by_test (eqb (len xs) 0) (λ none. rw none (omega arith)) (λ more. rw more (omega (arith, measures.within xs)))))
        (λ no. rw no (omega arith))

    found : (xs : List ℕ) → 0 < behind sign len xs → after sign test (take (behind sign len xs) xs) ≡ true
    found [] some = absurd (omega arith)
    found (x ∷ xs) some = by_test (eqb x sign)
        (λ yes. let h = rw yes at some in
        let n : 0 < len xs = with_sign_some (len xs) h in
        rw (yes, with_sign_of (len xs) n) (and_from _ _ yes (measures.found xs n)))
        (λ no. absurd (let h = rw no at some in omega arith))

    some : (xs : List ℕ) (m : ℕ) → m ≤ length xs → after sign test (take m xs) ≡ true → 0 < m
    some xs zero le passes = absurd (false≢true passes)
    some xs (suc m) le passes = omega arith

    most : (xs : List ℕ) (m : ℕ) → m ≤ length xs → after sign test (take m xs) ≡ true → m ≤ behind sign len xs
    most xs zero le passes = omega arith
    most [] (suc m) le passes = absurd (omega arith)
    most (x ∷ xs) (suc m) le passes =
        let parts = and_parts (eqb x sign) _ passes in
        let n = measures.some xs m (omega arith) parts.1 in
        let more : m ≤ len xs = measures.most xs m (omega arith) parts.1 in
        rw (parts.0, with_sign_of (len xs) (omega arith)) (omega arith)

-- quoted strings
pub quoted_measures : Measures is_quoted quoted_len
unfolding is_quoted quoted_len
quoted_measures = behind_measures 34 closes closing_len closing_measures

-- there is one quoted string at the front at most
pub quoted_only : (xs : List ℕ) (m : ℕ) → m ≤ length xs → is_quoted (take m xs) ≡ true → m ≡ quoted_len xs
unfolding is_quoted quoted_len closing_len
quoted_only xs zero le passes = absurd (false≢true passes)
quoted_only [] (suc m) le passes = absurd (omega arith)
quoted_only (x ∷ xs) (suc m) le passes =
    let parts = and_parts (eqb x 34) _ passes in
    let only = closes_only xs m (omega arith) parts.1 in
    let closed : ltb (prefix_len is_no_quote xs) (length xs) ≡ true = lt-ltb _ _ only.1 in
    rw (parts.0, closed, with_sign_of (suc (prefix_len is_no_quote xs)) (omega arith)) (omega (arith, only.0))

pub c_string_measures : Measures (after 99 is_quoted) c_string_len
unfolding c_string_len
c_string_measures = behind_measures 99 is_quoted quoted_len quoted_measures

-- a run that begins at once
pub begun : (first rest : ℕ → Bool) (b : ℕ) (bs : List ℕ) → first b ≡ true → rest b ≡ true → (0 < prefix_len rest (b ∷ bs)) × (headed first rest (take (prefix_len rest (b ∷ bs)) (b ∷ bs)) ≡ true)
begun first rest b bs first_is rest_is =
    let e : 1 + prefix_len rest bs ≡ suc (prefix_len rest bs) = omega arith in
    rw (rest_is, e) (omega arith, and_from _ _ first_is (run_passes rest bs (prefix_len rest bs) (omega arith)))

pub headed_first : (first rest : ℕ → Bool) (b : ℕ) (bs : List ℕ) (m : ℕ) → headed first rest (take m (b ∷ bs)) ≡ true → (0 < m) × (first b ≡ true)
headed_first first rest b bs zero passes = absurd (false≢true passes)
headed_first first rest b bs (suc m) passes = (omega arith, (and_parts (first b) _ passes).0)

pub headed_most : (first rest : ℕ → Bool) → ((b : ℕ) → first b ≡ true → rest b ≡ true) → (xs : List ℕ) (m : ℕ) → m ≤ length xs → headed first rest (take m xs) ≡ true → m ≤ prefix_len rest xs
headed_most first rest within xs zero le passes = omega arith
headed_most first rest within [] (suc m) le passes = absurd (omega arith)
headed_most first rest within (b ∷ bs) (suc m) le passes =
    let parts = and_parts (first b) _ passes in
    run_most rest (b ∷ bs) (suc m) le (and_from (rest b) _ (within b parts.0) parts.1)

-- runs of one test
headed_measures : (p : ℕ → Bool) → Measures (headed p p) (prefix_len p)
headed_measures p = record {
  within = λ xs. prefix_len-le-length p xs;
  found = found;
  some = some;
  most = λ xs m le passes. headed_most p p (λ b h. h) xs m le passes;
}
  where
    found : (xs : List ℕ) → 0 < prefix_len p xs → headed p p (take (prefix_len p xs) xs) ≡ true
    found [] some = absurd (omega arith)
    found (x ∷ xs) some = by_test (p x)
        (λ yes. (begun p p x xs yes yes).1)
        (λ no. absurd (let h = rw no at some in omega arith))

    some : (xs : List ℕ) (m : ℕ) → m ≤ length xs → headed p p (take m xs) ≡ true → 0 < m
    some xs zero le passes = absurd (false≢true passes)
    some xs (suc m) le passes = omega arith

pub run_measures : Measures is_run (prefix_len is_name_byte)
unfolding is_run
run_measures = headed_measures is_name_byte

pub decimal_measures : Measures is_decimal (prefix_len is_ascii_digit)
unfolding is_decimal
decimal_measures = headed_measures is_ascii_digit

-- behind a sign
pub signed_integer_measures : Measures (after 45 is_decimal) (behind 45 (prefix_len is_ascii_digit))
signed_integer_measures = behind_measures 45 is_decimal (prefix_len is_ascii_digit) decimal_measures

pub hash_measures : Measures (after 35 is_run) (behind 35 (prefix_len is_name_byte))
hash_measures = behind_measures 35 is_run (prefix_len is_name_byte) run_measures
