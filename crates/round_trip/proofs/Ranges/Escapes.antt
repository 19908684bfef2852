-- Bytes stay bytes where a text is cut, and where its quotes and escapes are read.
use Rattle.std.proofs.Common.{◌≡◌, ℕ, ◌-◌, ◌<◌, Bool, true, false, List, [], ◌∷◌, length, take, drop, eqb, refl, arith}
use Rattle.std.specs.Char.{is_ascii_hexdigit, digit_value}
use Rattle.std.proofs.lemmas.Bool.{and_parts, cond_both}
use Rattle.std.proofs.lemmas.Bool.Decides.{nat_tests}
use Rattle.std.proofs.lemmas.List.Elements.{All-nil, All-cons, All-head, All-tail, All-take, All-drop}
use Rattle.ir_lexer.specs.Spelled.{has}
use Rattle.ir_lexer.specs.Texts.{is_hex_pair, hex_byte, unescaped, inside, name_of}
use Rattle.ir_writer.specs.Ranges.{AreBytes}

abbrev IsByte : ℕ → Type 0
IsByte byte = byte < 256

-- ---- one byte more, one byte less, and cuts

pub no_bytes : AreBytes []
no_bytes = All-nil IsByte

pub byte_before : (b : ℕ) (bs : List ℕ) → b < 256 → AreBytes bs → AreBytes (b ∷ bs)
byte_before b bs small are = All-cons IsByte b bs small are

pub first_byte : (b : ℕ) (bs : List ℕ) → AreBytes (b ∷ bs) → b < 256
first_byte b bs are = All-head IsByte b bs are

pub bytes_behind : (b : ℕ) (bs : List ℕ) → AreBytes (b ∷ bs) → AreBytes bs
bytes_behind b bs are = All-tail IsByte b bs are

pub taken_bytes : (n : ℕ) (text : List ℕ) → AreBytes text → AreBytes (take n text)
taken_bytes n text are = All-take IsByte n text are

pub dropped_bytes : (n : ℕ) (text : List ℕ) → AreBytes text → AreBytes (drop n text)
dropped_bytes n text are = All-drop IsByte n text are

pub inside_bytes : (text : List ℕ) → AreBytes text → AreBytes (inside text)
inside_bytes text are = taken_bytes (length text - 2) (drop 1 text) (dropped_bytes 1 text are)

-- ---- escapes

hex_value : (c : ℕ) → is_ascii_hexdigit c ≡ true → digit_value c < 16
hex_value c hex = grind (arith, nat_tests)

pair_byte : (c d : ℕ) → is_hex_pair c d ≡ true → hex_byte c d < 256
pair_byte c d pair =
    let digits = and_parts (is_ascii_hexdigit c) (is_ascii_hexdigit d) pair in
    let high = hex_value c digits.0 in
    let low = hex_value d digits.1 in
    omega (arith, high, low)

backslash_before : (bs : List ℕ) → AreBytes bs → AreBytes (92 ∷ bs)
backslash_before bs are = byte_before 92 bs (omega arith) are

-- one text or another, as the definition of escapes chooses
abbrev either : Bool → List ℕ → List ℕ → List ℕ
either test one other = elim test [ true ↦ one | false ↦ other ]

either_bytes : (test : Bool) (one other : List ℕ) → (test ≡ true → AreBytes one) → (test ≡ false → AreBytes other) → AreBytes (either test one other)
either_bytes true one other chosen left = chosen refl
either_bytes false one other chosen left = left refl

pub unescaped_bytes : (text : List ℕ) → AreBytes text → AreBytes (unescaped text)
unfolding unescaped
unescaped_bytes [] are = no_bytes
unescaped_bytes (b ∷ []) are = are
unescaped_bytes (b ∷ c ∷ []) are =
    let rest = unescaped_bytes (c ∷ []) (bytes_behind b (c ∷ []) are) in
    either_bytes (eqb b 92) (either (eqb c 92) (92 ∷ []) (92 ∷ unescaped (c ∷ []))) (b ∷ unescaped (c ∷ []))
    (λ _. either_bytes (eqb c 92) (92 ∷ []) (92 ∷ unescaped (c ∷ [])) (λ _. backslash_before [] no_bytes) (λ _. backslash_before (unescaped (c ∷ [])) rest))
    (λ _. byte_before b (unescaped (c ∷ [])) (first_byte b (c ∷ []) are) rest)
unescaped_bytes (b ∷ c ∷ d ∷ bs) are =
    let behind : AreBytes (c ∷ d ∷ bs) = bytes_behind b (c ∷ d ∷ bs) are in
    let behind_two : AreBytes (d ∷ bs) = bytes_behind c (d ∷ bs) behind in
    let rest = unescaped_bytes (c ∷ d ∷ bs) behind in
    let other : List ℕ = either (is_hex_pair c d) (hex_byte c d ∷ unescaped bs) (92 ∷ unescaped (c ∷ d ∷ bs)) in
    either_bytes (eqb b 92) (either (eqb c 92) (92 ∷ unescaped (d ∷ bs)) other) (b ∷ unescaped (c ∷ d ∷ bs))
    (λ _. either_bytes (eqb c 92) (92 ∷ unescaped (d ∷ bs)) other
    (λ _. backslash_before (unescaped (d ∷ bs)) (unescaped_bytes (d ∷ bs) behind_two))
    (λ _. either_bytes (is_hex_pair c d) (hex_byte c d ∷ unescaped bs) (92 ∷ unescaped (c ∷ d ∷ bs))
    (λ pair. byte_before (hex_byte c d) (unescaped bs) (pair_byte c d pair) (unescaped_bytes bs (bytes_behind d bs behind_two)))
    (λ _. backslash_before (unescaped (c ∷ d ∷ bs)) rest)))
    (λ _. byte_before b (unescaped (c ∷ d ∷ bs)) (first_byte b (c ∷ d ∷ bs) are) rest)

pub name_bytes : (text : List ℕ) → AreBytes text → AreBytes (name_of text)
unfolding name_of
name_bytes text are = cond_both (has text 0 34) (unescaped (inside text)) text AreBytes (λ _. unescaped_bytes (inside text) (inside_bytes text are)) (λ _. are)
