-- Integers and names that are written are read again.
use Rattle.std.proofs.Common.{◌≡◌, ◌≢◌, ◌∙◌, ℕ, ℤ, pos, negsuc, zero, suc, ◌+◌, ◌-◌, ◌%◌, ◌^◌, ◌<◌, ◌≤◌, true, false, cond, List, [], ◌∷◌, length, drop, Some, None, option_map, refl, sym, ap, subst, arith, ltb, leb, eqb, bytes_eq, get_or, codes}
use Rattle.std.specs.Prelude.{All, AllPairs}
use Rattle.std.specs.Fmt.{decimal, signed_decimal}
use Rattle.std.proofs.Math.Nat.{mod-eq_of_lt}
use Rattle.std.proofs.lemmas.Bool.{cond-true, cond-false, cond_both, lt-ltb, le-leb, ltb-true, ltb-false, eqb-true, eqb-false, false_from_ne_true, false≢true}
use Rattle.std.proofs.lemmas.Option.{unwrap_or-slice_get}
use Rattle.std.proofs.lemmas.Slice.Eq.{bytes_eq-Decides}
use Rattle.ir_types.specs.declared.scalar.Scalar.{Scalar}
use Rattle.ir_types.specs.declared.scalar.Scalar.TheVariants.{I1, I8, I16, I32, I64, Ptr}
use Rattle.ir_types.specs.Names.{IsName, is_name}
use Rattle.ir_types.proofs.Naming.{is-name}
use Rattle.ir_syntax.specs.Suits.{is_number_of}
use Rattle.name_table.specs.Places.{place_among}
use Rattle.ir_lexer.specs.Texts.{name_of}
use Rattle.ir_grammar.specs.declared.shape.Shape.TheVariants as is
use Rattle.ir_grammar.specs.declared.shape.Value.TheVariants as val
use Rattle.ir_grammar.specs.Numbers.{number_of}
use Rattle.ir_scope.specs.Integers.{number, integer_of}
use Rattle.ir_constants.specs.Constants.{symbol_at}
use Rattle.ir_writer.specs.Names.{name_text, name_at}
use Rattle.ir_writer.specs.Constants.{signed_text}
use Rattle.ir_writer.specs.Ranges.{AreBytes, is_offset}
use Rattle.round_trip.proofs.Tokens.Quoted.{name_back}
use Rattle.round_trip.proofs.Tokens.Digits.{number_back, decimal_shape}
use Rattle.round_trip.proofs.Grammar.Kept.{integer_kept}

-- ---- decimals at a width

unsigned_read : (w n : ℕ) → n < 2 ^ 64 → n < 2 ^ w → integer_of w (decimal n) ≡ Some n
unsigned_read w n small below =
    let s = decimal_shape n in
    let back : number_of (s.first ∷ s.rest) ≡ n = sym (ap number_of s.is) ∙ number_back n small in
    ap (integer_of w) s.is ∙ cond-false (eqb s.first 45) _ _ s.no_minus ∙ ap (λ k. cond (ltb k (2 ^ w)) (Some k) None) back ∙ cond-true (ltb n (2 ^ w)) (Some n) None (lt-ltb n (2 ^ w) below)

-- a number below zero, whose amount is at most half of the power
negative_read : (w power half n amount : ℕ) → 2 ^ w ≡ power → 2 ^ (w - 1) ≡ half → amount ≤ half → amount < 2 ^ 64 → amount + n ≡ power → n < power → integer_of w (45 ∷ decimal amount) ≡ Some n
negative_read w power half n amount is_power is_half few small sum below =
    let same : (power - amount) % power ≡ n = ap (λ k. k % power) (omega arith) ∙ mod-eq_of_lt below in
    ap (λ k. cond (leb k (2 ^ (w - 1))) (Some ((2 ^ w - k) % 2 ^ w)) None) (number_back amount small)
    ∙ cond-true (leb amount (2 ^ (w - 1))) _ None (le-leb amount (2 ^ (w - 1)) (omega (arith, is_half, few)))
    ∙ ap (λ p. Some ((p - amount) % p)) is_power ∙ ap (λ k. Some k) same

signed_read : (w half n : ℕ) → 2 ^ w ≡ half + half → 2 ^ (w - 1) ≡ half → half ≤ 2 ^ 63 → n < half + half → integer_of w (signed_text half n) ≡ Some n
signed_read w half n is_power is_half small below = cond_both (ltb n half) (decimal n) (45 ∷ decimal (half - (n - half))) (λ t. integer_of w t ≡ Some n)
    (λ low. unsigned_read w n (omega (arith, ltb-true n half low)) (omega (arith, is_power)))
    (λ high.
    let least : half ≤ n = ltb-false n half high in
    negative_read w (half + half) half n (half - (n - half)) is_power is_half (omega arith) (omega arith) (omega arith) below)

-- An offset of 64 bits is read as the number that it is modulo 2^64.
abbrev pub unsigned : ℤ → ℕ
unsigned (pos n) = n
unsigned (negsuc n) = 2 ^ 64 - suc n

pub offset_read : (offset : ℤ) → is_offset offset ≡ true → integer_of 64 (signed_decimal offset) ≡ Some (unsigned offset)
offset_read (pos n) h = let small : n < 2 ^ 63 = ltb-true n (2 ^ 63) h in unsigned_read 64 n (omega arith) (omega arith)
offset_read (negsuc n) h = let small : n < 2 ^ 63 = ltb-true n (2 ^ 63) h in negative_read 64 (2 ^ 64) (2 ^ 63) (2 ^ 64 - suc n) (suc n) refl refl (omega arith) (omega arith) (omega arith) (omega arith)

-- ---- integers at their types

-- An integer is read again at its type.
pub number_read : (ty : Scalar) (n : ℕ) → is_number_of ty n ≡ true → number ty (integer_kept ty n) ≡ Some n
number_read I1 n h = cond_both (eqb n 0) (is.Value val.False, codes "false") (is.Value val.True, codes "true") (λ k. number I1 k ≡ Some n)
    (λ nought. ap (λ m. Some m) (sym (eqb-true n 0 nought)))
    (λ more.
    let below : n < 2 = ltb-true n 2 h in
    let some : n ≢ 0 = eqb-false n 0 more in
    let one : 1 ≡ n = omega arith in
    ap (λ m. Some m) one)
number_read I8 n h = signed_read 8 (2 ^ 7) n refl refl (omega arith) (ltb-true n (2 ^ 8) h)
number_read I16 n h = signed_read 16 (2 ^ 15) n refl refl (omega arith) (ltb-true n (2 ^ 16) h)
number_read I32 n h = signed_read 32 (2 ^ 31) n refl refl (omega arith) (ltb-true n (2 ^ 32) h)
number_read I64 n h = signed_read 64 (2 ^ 63) n refl refl (omega arith) (ltb-true n (2 ^ 64) h)
number_read Ptr n h = absurd (false≢true h)

-- ---- names

apart : (xs ys : List ℕ) → xs ≢ ys → bytes_eq xs ys ≡ false
apart xs ys differ = false_from_ne_true (bytes_eq xs ys) (λ t. differ ((bytes_eq-Decides xs ys).0 t))

placed : (names : List (List ℕ)) (place : ℕ) → AllPairs (λ a b. a ≢ b) names → place < length names → place_among (get_or names place []) names ≡ Some place
placed [] place distinct within = absurd (omega (arith, within))
placed (name ∷ names) zero distinct within = cond-true (bytes_eq name name) (Some 0) _ ((bytes_eq-Decides name name).1 refl)
placed (name ∷ names) (suc place) distinct within =
    let differ : get_or names place [] ≢ name = λ e. distinct 0 (suc place) [] (omega arith) within (sym e) in
    cond-false (bytes_eq (get_or names place []) name) (Some 0) _ (apart (get_or names place []) name differ)
    ∙ ap (option_map (λ k. suc k)) (placed names place (λ i j d less inside. distinct (suc i) (suc j) d (omega (arith, less)) (omega (arith, inside))) (omega (arith, within)))

-- The name of an item, as it is written, is found at the item's place.
pub symbol_read : (names : List (List ℕ)) (place : ℕ) → AllPairs (λ a b. a ≢ b) names → All IsName names → All AreBytes names → place < length names →
    symbol_at names (name_of (drop 1 (64 ∷ name_text (name_at names place)))) ≡ Some place
symbol_read names place distinct named bytes within =
    let here : name_at names place ≡ get_or names place [] = unwrap_or-slice_get names place [] in
    let own : AreBytes (name_at names place) = subst AreBytes (sym here) (bytes place [] within) in
    let keeps : is_name (get_or names place []) ≡ true = is-name (get_or names place []) (named place [] within) in
    ap (symbol_at names) (name_back (name_at names place) own ∙ here)
    ∙ cond-true (is_name (get_or names place [])) (place_among (get_or names place []) names) None keeps
    ∙ placed names place distinct within
