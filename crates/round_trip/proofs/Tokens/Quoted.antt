-- Names and strings that are written, in quotes or without: each is one token, and is read as its bytes again.
use Rattle.std.proofs.Common.{◌≡◌, ◌∙◌, ℕ, suc, ◌+◌, ◌-◌, ◌*◌, ◌/◌, ◌%◌, ◌<◌, ◌≤◌, Bool, true, false, ◌&&◌, not, List, [], ◌∷◌, ◌++◌, length, take, flat_map, refl, ap, arith, eqb, ltb, leb, append_assoc, length-append}
use Rattle.std.specs.Char.{is_ascii_hexdigit, digit_value}
use Rattle.std.proofs.Math.Seq.{take-append_seam}
use Rattle.std.proofs.lemmas.Bool.{and_parts, and_from, or_left, or_right, cond-true, cond-false, cond_both, not-true, ne_eqb, lt-ltb, ltb-true, ltb-false}
use Rattle.std.proofs.lemmas.Bool.Decides.{nat_tests}
use Rattle.ir_lexer.specs.Signs.{begins_name, begins_word, is_name_byte}
use Rattle.ir_lexer.specs.Spelled.{headed, closes, is_quoted, is_name, has}
use Rattle.ir_lexer.specs.Texts.{is_hex_pair, hex_byte, unescaped, inside, name_of}
use Rattle.ir_lexer.proofs.Names.{begin_is_no}
use Rattle.ir_writer.specs.Names.{hex_digit, stands_itself, escaped, quoted, is_unquoted, name_text}
use Rattle.ir_writer.specs.Ranges.{AreBytes}

-- ---- a name in quotes is one token

closes_step : (b : ℕ) (bs : List ℕ) → eqb b 34 ≡ false → closes (b ∷ bs) ≡ closes bs
closes_step b bs other = cond-false (eqb b 34) _ _ other

digit_is_no_quote : (n : ℕ) → eqb (hex_digit n) 34 ≡ false
digit_is_no_quote n = cond_both (ltb n 10) (48 + n) (55 + n) (λ d. eqb d 34 ≡ false) (λ _. ne_eqb (48 + n) 34 (λ e. absurd (omega (arith, e)))) (λ _. ne_eqb (55 + n) 34 (λ e. absurd (omega (arith, e))))

-- what a byte that stands for itself isn't
itself_parts : (b : ℕ) → stands_itself b ≡ true → (eqb b 34 ≡ false) × (eqb b 92 ≡ false)
itself_parts b h =
    let signs = and_parts (leb 32 b && leb b 126 && not (eqb b 34)) (not (eqb b 92)) h in
    (not-true _ (and_parts (leb 32 b && leb b 126) (not (eqb b 34)) signs.0).1, not-true _ signs.1)

escaped_closes : (b : ℕ) (rest : List ℕ) → closes rest ≡ true → closes (escaped b ++ rest) ≡ true
escaped_closes b rest h = cond_both (stands_itself b) (b ∷ []) (92 ∷ hex_digit (b / 16) ∷ hex_digit (b % 16) ∷ []) (λ t. closes (t ++ rest) ≡ true)
    (λ itself. closes_step b rest (itself_parts b itself).0 ∙ h)
    (λ _. closes_step (hex_digit (b / 16)) (hex_digit (b % 16) ∷ rest) (digit_is_no_quote (b / 16)) ∙ closes_step (hex_digit (b % 16)) rest (digit_is_no_quote (b % 16)) ∙ h)

all_close : (name : List ℕ) → closes (flat_map escaped name ++ 34 ∷ []) ≡ true
all_close [] = refl
all_close (b ∷ bs) = ap closes (append_assoc (escaped b) (flat_map escaped bs) (34 ∷ [])) ∙ escaped_closes b (flat_map escaped bs ++ 34 ∷ []) (all_close bs)

pub headed_name : (name : List ℕ) → headed begins_name is_name_byte name ≡ true → is_name name ≡ true
unfolding is_name
headed_name name h = or_left _ _ (or_left _ _ h)

pub quoted_spelled : (bytes : List ℕ) → is_quoted (quoted bytes) ≡ true
unfolding is_quoted
quoted_spelled bytes = all_close bytes

quoted_name : (name : List ℕ) → is_name (quoted name) ≡ true
unfolding is_name
quoted_name name = or_right _ _ (quoted_spelled name)

pub name_spelled : (name : List ℕ) → is_name (name_text name) ≡ true
name_spelled name = cond_both (is_unquoted name) name (quoted name) (λ t. is_name t ≡ true) (headed_name name) (λ _. quoted_name name)

-- ---- a name that was written is read again

quote_begins_nothing : begins_name 34 ≡ false
unfolding begins_name begins_word
quote_begins_nothing = refl

and_out : (a b : Bool) → b ≡ false → (a && b) ≡ false
and_out true b h = h
and_out false b h = refl

-- what doesn't begin with a quote stands for itself
pub itself_back : (b : ℕ) (bs : List ℕ) → eqb b 34 ≡ false → name_of (b ∷ bs) ≡ b ∷ bs
unfolding name_of has
itself_back b bs other = cond-false (ltb 0 (suc (length bs)) && eqb b 34) _ _ (and_out (ltb 0 (suc (length bs))) (eqb b 34) other)

pub headed_back : (name : List ℕ) → headed begins_name is_name_byte name ≡ true → name_of name ≡ name
headed_back [] h = absurd (cc)
headed_back (b ∷ bs) h = itself_back b bs (begin_is_no b 34 (and_parts (begins_name b) _ h).0 quote_begins_nothing)

read_itself : (b : ℕ) (rest : List ℕ) → eqb b 92 ≡ false → unescaped (b ∷ rest) ≡ b ∷ unescaped rest
unfolding unescaped
read_itself b [] other = refl
read_itself b (c ∷ []) other = rw (other, unescaped) refl
read_itself b (c ∷ d ∷ rest) other = rw (other, unescaped) refl

read_pair : (c d : ℕ) (rest : List ℕ) → eqb c 92 ≡ false → is_hex_pair c d ≡ true → unescaped (92 ∷ c ∷ d ∷ rest) ≡ hex_byte c d ∷ unescaped rest
unfolding unescaped
read_pair c d rest other pair = rw (other, pair, unescaped) refl

-- ---- hexadecimal digits

decimal_digit : (n : ℕ) → n < 10 → (eqb (48 + n) 92 ≡ false) × (is_ascii_hexdigit (48 + n) ≡ true) × (digit_value (48 + n) ≡ n)
decimal_digit n lt = (grind (arith, nat_tests), grind (arith, nat_tests), grind (arith, nat_tests))

letter_digit : (n : ℕ) → 10 ≤ n → n < 16 → (eqb (55 + n) 92 ≡ false) × (is_ascii_hexdigit (55 + n) ≡ true) × (digit_value (55 + n) ≡ n)
letter_digit n least lt = (grind (arith, nat_tests), grind (arith, nat_tests), grind (arith, nat_tests))

digit_parts : (n : ℕ) → n < 16 → (eqb (hex_digit n) 92 ≡ false) × (is_ascii_hexdigit (hex_digit n) ≡ true) × (digit_value (hex_digit n) ≡ n)
digit_parts n lt = cond_both (ltb n 10) (48 + n) (55 + n) (λ d. (eqb d 92 ≡ false) × (is_ascii_hexdigit d ≡ true) × (digit_value d ≡ n)) (λ h. decimal_digit n (ltb-true n 10 h)) (λ h. letter_digit n (ltb-false n 10 h) lt)

byte_back : (b : ℕ) → b < 256 → hex_byte (hex_digit (b / 16)) (hex_digit (b % 16)) ≡ b
byte_back b lt =
    let high : digit_value (hex_digit (b / 16)) ≡ b / 16 = (digit_parts (b / 16) (omega (arith, lt))).2 in
    let low : digit_value (hex_digit (b % 16)) ≡ b % 16 = (digit_parts (b % 16) (omega arith)).2 in
    let sum : 16 * (b / 16) + b % 16 ≡ b = omega arith in
    (λ j. 16 * high j + low j) ∙ sum

read_escaped : (b : ℕ) (rest : List ℕ) → b < 256 → unescaped (escaped b ++ rest) ≡ b ∷ unescaped rest
read_escaped b rest lt = cond_both (stands_itself b) (b ∷ []) (92 ∷ hex_digit (b / 16) ∷ hex_digit (b % 16) ∷ []) (λ t. unescaped (t ++ rest) ≡ b ∷ unescaped rest)
    (λ itself. read_itself b rest (itself_parts b itself).1)
    (λ _.
    let high = digit_parts (b / 16) (omega (arith, lt)) in
    let low = digit_parts (b % 16) (omega arith) in
    read_pair (hex_digit (b / 16)) (hex_digit (b % 16)) rest high.0 (and_from _ _ high.1 low.1) ∙ ap (λ x. x ∷ unescaped rest) (byte_back b lt))

nothing_read : unescaped [] ≡ []
unfolding unescaped
nothing_read = refl

all_read : (name : List ℕ) → AreBytes name → unescaped (flat_map escaped name) ≡ name
all_read [] bytes = nothing_read
all_read (b ∷ bs) bytes = read_escaped b (flat_map escaped bs) (bytes 0 0 (omega arith)) ∙ ap (λ x. b ∷ x) (all_read bs (λ k d lt. bytes (suc k) d (omega (arith, lt))))

between : (x : List ℕ) → inside (34 ∷ (x ++ 34 ∷ [])) ≡ x
between x =
    let many : length (34 ∷ (x ++ 34 ∷ [])) - 2 ≡ length x = omega (arith, length-append x (34 ∷ [])) in
    ap (λ n. take n (x ++ 34 ∷ [])) many ∙ take-append_seam x (34 ∷ [])

pub quoted_back : (bytes : List ℕ) → AreBytes bytes → unescaped (inside (quoted bytes)) ≡ bytes
quoted_back bytes are = ap unescaped (between (flat_map escaped bytes)) ∙ all_read bytes are

quote_read : (x : List ℕ) → name_of (34 ∷ x) ≡ unescaped (inside (34 ∷ x))
unfolding name_of has
quote_read x = cond-true (ltb 0 (suc (length x)) && true) _ _ (and_from _ _ (lt-ltb 0 (suc (length x)) (omega arith)) refl)

pub name_back : (name : List ℕ) → AreBytes name → name_of (name_text name) ≡ name
name_back name are = cond_both (is_unquoted name) name (quoted name) (λ t. name_of t ≡ name) (headed_back name) (λ _. quote_read (flat_map escaped name ++ 34 ∷ []) ∙ quoted_back name are)
