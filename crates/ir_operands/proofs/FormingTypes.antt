-- Types, numbers and alignments that are read are ones that a text can write.
use Rattle.std.proofs.Common.{◌≡◌, ℕ, suc, ◌-◌, ◌%◌, ◌^◌, ◌<◌, ◌≤◌, Bool, true, false, cond, nat_eq, nat_le, nat_lt, List, [], ◌∷◌, drop, Option, Some, None, option_map, option_and_then, refl, arith}
use Rattle.std.specs.Prelude.{IfSome, IsTrue}
use Rattle.std.specs.List.{list_all}
use Rattle.std.proofs.lemmas.Bool.{and_parts, leb-true, ltb-true, lt-ltb}
use Rattle.std.proofs.Math.Pow.{pow_pos}
use Rattle.ir_types.specs.declared.scalar.Scalar.{Scalar}
use Rattle.ir_types.specs.declared.scalar.Scalar.TheVariants.{I1, I8, I16, I32, I64, Ptr}
use Rattle.ir_types.specs.declared.shape.Ty.{Ty}
use Rattle.ir_types.specs.declared.shape.Ty.TheBlock.{One}
use Rattle.ir_types.specs.Nesting.{nesting, nodes}
use Rattle.ir_types.proofs.Nestings.{nesting-One, nodes-One}
use Rattle.ir_syntax.specs.Suits.{IsType, is_number_of}
use Rattle.ir_syntax.specs.FormedBody.{IsAlign}
use Rattle.ir_grammar.specs.declared.shape.Shape.TheVariants as is
use Rattle.ir_grammar.specs.declared.shape.Digits.TheVariants as digits
use Rattle.ir_grammar.specs.declared.shape.Value.TheVariants as val
use Rattle.ir_grammar.specs.Numbers.{number_of, exponents, exponent_among, exponent_of}
use Rattle.ir_grammar.specs.Tokens.{Kept}
use Rattle.ir_scope.specs.Integers.{width, integer_of, truth, number}
use Rattle.ir_scope.specs.Types.{fits, fitting, type_at, written_type}
use Rattle.ir_operands.specs.Operands.{align_at, aligned}
use Rattle.ir_operands.proofs.FormingReadings.{IsRead, read-where}

-- ---- types

pub type-fits : (ty : Ty) → fits ty ≡ true → IsType ty
type-fits ty e =
    let both = and_parts (nat_le (nesting ty) 64) (nat_le (nodes ty) 4096) e in
    record { nests = leb-true (nesting ty) 64 both.0; has_nodes = leb-true (nodes ty) 4096 both.1 }

fitting-read : (found : Option (Ty × ℕ)) → IsRead IsType (fitting found)
fitting-read None = tt
fitting-read (Some f) = cases (fits f.0) refl
  where
    cases : (b : Bool) → fits f.0 ≡ b → IsRead IsType (cond b (Some f) None)
    cases true e = type-fits f.0 e
    cases false e = tt

one-fits : (s : Scalar) → IsType (One s)
one-fits s = record { nests = omega (arith, nesting-One s); has_nodes = omega (arith, nodes-One s) }

type-read : (look : List ℕ → Option Ty) (depth : ℕ) (ks : List Kept) → IsRead IsType (type_at look depth ks)
type-read look depth [] = tt
type-read look depth ((is.Scalar s, text) ∷ ks) = one-fits s
type-read look depth ((is.Local, text) ∷ ks) = fitting-read _
type-read look (suc depth) ((is.OpenSquare, text) ∷ (is.Int digits, count) ∷ ks) = read-where IsType (nat_lt (number_of count) (2 ^ 64)) _ (λ e. fitting-read _)
type-read look (suc depth) ((is.OpenBrace, text) ∷ ks) = fitting-read _
type-read look depth (k ∷ ks) = tt

pub written-read : (look : List ℕ → Option Ty) (ks : List Kept) → IsRead IsType (written_type look ks)
written-read look ks = type-read look 64 ks

-- ---- numbers

integer-below : (w : ℕ) (text : List ℕ) → IfSome (integer_of w text) (λ n. n < 2 ^ w)
integer-below w [] = tt
integer-below w (first ∷ rest) = cases (nat_eq first 45)
  where
    negative : (b : Bool) → IfSome (cond b (Some ((2 ^ w - number_of rest) % 2 ^ w)) None) (λ n. n < 2 ^ w)
    negative true = let some : 0 < 2 ^ w = pow_pos w in omega arith
    negative false = tt

    positive : (n : ℕ) (b : Bool) → nat_lt n (2 ^ w) ≡ b → IfSome (cond b (Some n) None) (λ n. n < 2 ^ w)
    positive n true e = ltb-true n (2 ^ w) e
    positive n false e = tt

    cases : (b : Bool) → IfSome (cond b (cond (nat_le (number_of rest) (2 ^ (w - 1))) (Some ((2 ^ w - number_of rest) % 2 ^ w)) None) (cond (nat_lt (number_of (first ∷ rest)) (2 ^ w)) (Some (number_of (first ∷ rest))) None)) (λ n. n < 2 ^ w)
    cases true = negative (nat_le (number_of rest) (2 ^ (w - 1)))
    cases false = positive (number_of (first ∷ rest)) (nat_lt (number_of (first ∷ rest)) (2 ^ w)) refl

-- The number is one of its type.
abbrev IsNumber : Scalar → Option ℕ → Type 0
IsNumber ty found = IfSome found (λ n. IsTrue (is_number_of ty n))

less-is : (m : ℕ) (found : Option ℕ) → IfSome found (λ n. n < m) → IfSome found (λ n. nat_lt n m ≡ true)
less-is m None h = tt
less-is m (Some k) h = lt-ltb k m h

integer-suits : (ty : Scalar) (text : List ℕ) → IsNumber ty (option_and_then (λ w. integer_of w text) (width ty))
integer-suits I1 text = less-is 2 (integer_of 1 text) (integer-below 1 text)
integer-suits I8 text = less-is (2 ^ 8) (integer_of 8 text) (integer-below 8 text)
integer-suits I16 text = less-is (2 ^ 16) (integer_of 16 text) (integer-below 16 text)
integer-suits I32 text = less-is (2 ^ 32) (integer_of 32 text) (integer-below 32 text)
integer-suits I64 text = less-is (2 ^ 64) (integer_of 64 text) (integer-below 64 text)
integer-suits Ptr text = tt

truth-suits : (ty : Scalar) (n : ℕ) → n < 2 → IsNumber ty (truth ty n)
truth-suits I1 n less = lt-ltb n 2 less
truth-suits I8 n less = tt
truth-suits I16 n less = tt
truth-suits I32 n less = tt
truth-suits I64 n less = tt
truth-suits Ptr n less = tt

zero-suits : (ty : Scalar) → IsNumber ty (option_map (λ w. 0) (width ty))
zero-suits I1 = refl
zero-suits I8 = refl
zero-suits I16 = refl
zero-suits I32 = refl
zero-suits I64 = refl
zero-suits Ptr = tt

pub number-suits : (ty : Scalar) (k : Kept) → IfSome (number ty k) (λ n. IsTrue (is_number_of ty n))
number-suits ty (is.Int digits, text) = integer-suits ty text
number-suits ty (is.Value val.True, text) = truth-suits ty 1 (omega arith)
number-suits ty (is.Value val.False, text) = truth-suits ty 0 (omega arith)
number-suits ty (is.Value val.Zero, text) = zero-suits ty
number-suits ty (shape, text) = tt

-- ---- alignments

among-few : (es : List ℕ) (n : ℕ) → list_all (λ e. nat_le e 32) es ≡ true → IfSome (exponent_among es n) (λ e. e ≤ 32)
among-few [] n few = tt
among-few (e ∷ es) n few = cases (nat_eq n (2 ^ e)) (among-few es n both.1)
  where
    both : (nat_le e 32 ≡ true) × (list_all (λ e. nat_le e 32) es ≡ true)
    both = and_parts (nat_le e 32) (list_all (λ e. nat_le e 32) es) few

    cases : (b : Bool) → IfSome (exponent_among es n) (λ e. e ≤ 32) → IfSome (cond b (Some e) (exponent_among es n)) (λ e. e ≤ 32)
    cases true later = leb-true e 32 both.0
    cases false later = later

pub exponent-few : (n : ℕ) → IsAlign (exponent_of n)
unfolding exponent_of
exponent-few n = among-few exponents n refl

align-few : (ks : List Kept) → IsAlign (align_at ks).0
align-few [] = tt
align-few ((is.Int digits.Power, text) ∷ ks) = exponent-few (number_of text)
align-few (k ∷ ks) = tt

pub read-aligned : {X Y : Type 0} (P : X → Type 0) (Q : Y → Type 0) (make : X → Option ℕ → Y) (ks : List Kept) (found : Option (X × ℕ)) → IsRead P found →
    ((x : X) (align : Option ℕ) → P x → IsAlign align → Q (make x align)) → IsRead Q (aligned make ks found)
read-aligned P Q make ks None h step = tt
read-aligned P Q make ks (Some f) h step = step f.0 (align_at rest).0 h (align-few rest)
  where
    rest : List Kept
    rest = drop f.1 ks
