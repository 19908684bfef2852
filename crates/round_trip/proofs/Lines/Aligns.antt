-- Alignments and counts are read again, before what begins a line.
use Rattle.std.proofs.Common.{◌≡◌, ◌≢◌, ◌∙◌, ℕ, zero, suc, ◌+◌, ◌^◌, ◌<◌, ◌≤◌, Bool, true, false, cond, ◌&&◌, ◌==◌, nat_eq, [], ◌∷◌, ◌++◌, length, Option, Some, None, option_map, refl, sym, ap, arith, append_assoc, length-append}
use Rattle.std.specs.Fmt.{decimal, digits}
use Rattle.std.proofs.Math.Seq.{drop-append_seam}
use Rattle.std.proofs.lemmas.Bool.{false≢true, and_parts, eqb-true, eqb-false}
use Rattle.ir_types.specs.declared.scalar.Scalar.TheVariants.{I64}
use Rattle.ir_syntax.specs.FormedBody.{IsAlign}
use Rattle.ir_grammar.specs.declared.shape.Shape.{Shape}
use Rattle.ir_grammar.specs.declared.shape.Shape.TheVariants as is
use Rattle.ir_grammar.specs.declared.shape.Digits.{Digits}
use Rattle.ir_grammar.specs.declared.shape.Digits.TheVariants.{Power, Count, Other}
use Rattle.ir_grammar.specs.Numbers.{digits_shape, number_of, exponent_of}
use Rattle.ir_scope.specs.Runs.{Reading, begins_with}
use Rattle.ir_scope.specs.Integers.{number}
use Rattle.ir_operands.specs.Operands.{align_at, aligned}
use Rattle.ir_insts.specs.Insts.{count_at, is_integer}
use Rattle.ir_terms.specs.Terms.{is_open_square}
use Rattle.ir_writer.specs.Words.{scalar_text}
use Rattle.round_trip.proofs.Grammar.Kept.{Lexemes, integer_kept, align_kept, count_kept}

-- ---- what follows a line

-- a shape at which a line begins, or a body ends
abbrev pub begins_line : Shape → Bool
begins_line is.Result = true
begins_line is.Label = true
begins_line is.CloseBrace = true
begins_line is.Store = true
begins_line is.Call = true
begins_line is.Ret = true
begins_line is.Br = true
begins_line is.Switch = true
begins_line is.Unreachable = true
begins_line _ = false

-- No optional part begins there.
abbrev pub begins_quietly : Lexemes → Bool
begins_quietly [] = true
begins_quietly (k ∷ ks) = begins_line k.0

pub no_align : (rest : Lexemes) → begins_quietly rest ≡ true → align_at rest ≡ (None, 0)
no_align [] quiet = refl
no_align ((is.Int d, text) ∷ ks) quiet = absurd (false≢true quiet)
no_align (k ∷ ks) quiet = refl

pub no_count : (rest : Lexemes) → begins_quietly rest ≡ true → count_at rest ≡ Some (1, 0)
no_count [] quiet = refl
no_count ((is.Scalar ty, text) ∷ ks) quiet = absurd (false≢true quiet)
no_count (k ∷ ks) quiet = refl

pub no_index : (rest : Lexemes) → begins_quietly rest ≡ true → begins_with is_integer rest ≡ false
no_index [] quiet = refl
no_index ((is.Scalar ty, text) ∷ ks) quiet = absurd (false≢true quiet)
no_index (k ∷ ks) quiet = refl

pub no_entry : (rest : Lexemes) → begins_quietly rest ≡ true → begins_with is_open_square rest ≡ false
no_entry [] quiet = refl
no_entry ((is.OpenSquare, text) ∷ ks) quiet = absurd (false≢true quiet)
no_entry (k ∷ ks) quiet = refl

-- ---- alignments

passes_below : (ℕ → Bool) → ℕ → Bool
passes_below test zero = true
passes_below test (suc n) = test n && passes_below test n

passes_at : (test : ℕ → Bool) (n k : ℕ) → passes_below test n ≡ true → k < n → test k ≡ true
unfolding passes_below
passes_at test zero k e less = absurd (omega arith)
passes_at test (suc n) k e less = cases (nat_eq k n) refl (passes_at test n k parts.1)
  where
    parts : (test n ≡ true) × (passes_below test n ≡ true)
    parts = and_parts (test n) (passes_below test n) e

    cases : (b : Bool) → nat_eq k n ≡ b → (k < n → test k ≡ true) → test k ≡ true
    cases true same below = ap test (eqb-true k n same) ∙ parts.0
    cases false other below = let differs : k ≢ n = eqb-false k n other in below (omega arith)

is_power : Digits → Bool
is_power Power = true
is_power _ = false

is_exponent : Option ℕ → ℕ → Bool
is_exponent None k = false
is_exponent (Some e) k = nat_eq e k

power_test : ℕ → Bool
power_test k = is_power (digits_shape (decimal (2 ^ k))) && is_exponent (exponent_of (number_of (decimal (2 ^ k)))) k

powers : passes_below power_test 33 ≡ true
unfolding passes_below power_test is_power is_exponent exponent_of digits
powers = refl

power_found : (k : ℕ) → k ≤ 32 → power_test k ≡ true
power_found k few = passes_at power_test 33 k powers (omega arith)

power_is : (d : Digits) → is_power d ≡ true → d ≡ Power
unfolding is_power
power_is Power e = refl
power_is Count e = absurd (false≢true e)
power_is Other e = absurd (false≢true e)

exponent_is : (found : Option ℕ) (k : ℕ) → is_exponent found k ≡ true → found ≡ Some k
unfolding is_exponent
exponent_is None k e = absurd (false≢true e)
exponent_is (Some e) k same = ap (λ e. Some e) (eqb-true e k same)

power_shape : (k : ℕ) → k ≤ 32 → digits_shape (decimal (2 ^ k)) ≡ Power
unfolding power_test
power_shape k few = power_is _ (and_parts (is_power (digits_shape (decimal (2 ^ k)))) (is_exponent (exponent_of (number_of (decimal (2 ^ k)))) k) (power_found k few)).0

power_exponent : (k : ℕ) → k ≤ 32 → exponent_of (number_of (decimal (2 ^ k))) ≡ Some k
unfolding power_test
power_exponent k few = exponent_is _ k (and_parts (is_power (digits_shape (decimal (2 ^ k)))) (is_exponent (exponent_of (number_of (decimal (2 ^ k)))) k) (power_found k few)).1

align_back : (align : Option ℕ) (rest : Lexemes) → IsAlign align → begins_quietly rest ≡ true → align_at (align_kept align ++ rest) ≡ (align, length (align_kept align))
align_back None rest few quiet = no_align rest quiet
align_back (Some e) rest few quiet = ap (λ d. align_at ((is.Int d, decimal (2 ^ e)) ∷ rest)) (power_shape e few) ∙ ap (λ found. (found, 1)) (power_exponent e few)

-- what is read, and an alignment behind it
pub aligned_back : {X Y : Type 0} (make : X → Option ℕ → Y) (first : Reading X) (x : X) (align : Option ℕ) (xs rest : Lexemes) → IsAlign align → begins_quietly rest ≡ true →
    first (xs ++ (align_kept align ++ rest)) ≡ Some (x, length xs) →
    aligned make ((xs ++ align_kept align) ++ rest) (first ((xs ++ align_kept align) ++ rest)) ≡ Some (make x align, length (xs ++ align_kept align))
aligned_back make first x align xs rest few quiet e =
    ap (λ ks. aligned make ks (first ks)) (append_assoc xs (align_kept align) rest)
    ∙ ap (aligned make (xs ++ (align_kept align ++ rest))) e
    ∙ ap (λ ks. Some (make x (align_at ks).0, length xs + (align_at ks).1)) (drop-append_seam xs (align_kept align ++ rest))
    ∙ ap (λ (g : Option ℕ × ℕ). Some (make x g.0, length xs + g.1)) (align_back align rest few quiet)
    ∙ ap (λ n. Some (make x align, n)) (sym (length-append xs (align_kept align)))

-- ---- counts

uncounted : (align : Option ℕ) (rest : Lexemes) → begins_quietly rest ≡ true → count_at (align_kept align ++ rest) ≡ Some (1, 0)
uncounted None rest quiet = no_count rest quiet
uncounted (Some e) rest quiet = refl

pub count_back : (count : ℕ) (align : Option ℕ) (rest : Lexemes) → number I64 (integer_kept I64 count) ≡ Some count → begins_quietly rest ≡ true →
    count_at (count_kept count ++ (align_kept align ++ rest)) ≡ Some (count, length (count_kept count))
count_back count align rest e quiet = cases (count == 1) refl
  where
    written : Lexemes
    written = (is.Scalar I64, scalar_text I64) ∷ integer_kept I64 count ∷ []

    cases : (b : Bool) → (count == 1) ≡ b → count_at (cond b [] written ++ (align_kept align ++ rest)) ≡ Some (count, length (cond b [] written))
    cases true one = uncounted align rest quiet ∙ ap (λ n. Some (n, 0)) (sym (eqb-true count 1 one))
    cases false other = ap (option_map (λ n. (n, 2))) e
