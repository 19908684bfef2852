-- Results against the ranges of the types, and against what 64 bits hold.
use Rattle.std.proofs.Common.{◌≡◌, ℕ, ◌+◌, ◌-◌, ◌^◌, ◌%◌, ◌<◌, ◌≤◌, Bool, true, false, ℤ, pos, negsuc, ◌-ℤ◌, ◌&&◌, refl, sym, ap, ap₂, ◌∙◌, arith, FitsSigned, w64, to_z, of_z, SomeIff, IfSome, IfNone, Option, Some, None, ⊎_elim}
use Rattle.std.proofs.lemmas.Int.{ints, to_z-of_z}
use Rattle.std.proofs.lemmas.Bool.{cases_lt}
use Rattle.ir_types.specs.declared.scalar.Scalar.{Scalar}
use Rattle.ir_types.specs.declared.scalar.Scalar.TheVariants.{I1, I8, I16, I32, I64, Ptr}
use Rattle.ir_types.specs.declared.scalar.Flags.{Flags}
use Rattle.ir_types.specs.Scalars.{width, is_number_of, number_modulo, integer_modulo}
use Rattle.int_ops.specs.Outcomes.{implies, poison_unless}
use Rattle.int_ops.specs.Sums.{is_unsigned, is_signed}

no_number : (ty : Scalar) (n : ℕ) → 2 ^ 64 ≤ n → is_number_of ty n ≡ false
no_number I1 n h = grind arith
no_number I8 n h = grind arith
no_number I16 n h = grind arith
no_number I32 n h = grind arith
no_number I64 n h = grind arith
no_number Ptr n h = refl

-- in the range of a type is in that of 64 bits
signed_fits : (ty : Scalar) (z : ℤ) → is_signed ty z ≡ true → FitsSigned w64 z
signed_fits I1 z h = grind (arith, ints)
signed_fits I8 z h = grind (arith, ints)
signed_fits I16 z h = grind (arith, ints)
signed_fits I32 z h = grind (arith, ints)
signed_fits I64 z h = grind (arith, ints)
signed_fits Ptr z h = grind (arith, ints)

-- ---- a result that 64 bits may hold, or not

pub unsigned_from : (ty : Scalar) (o : Option ℕ) (r : Bool) (n : ℕ) → SomeIff o (n < 2 ^ 64) n → IfSome o (λ m. r ≡ is_number_of ty m) → IfNone o (r ≡ false) → r ≡ is_number_of ty n
unsigned_from ty None r n iff some none = none ∙ sym (no_number ty n (grind (arith, iff)))
unsigned_from ty (Some m) r n iff some none = some ∙ ap (is_number_of ty) iff.1

not_signed : (ty : Scalar) (z : ℤ) (r : Bool) → r ≡ is_signed ty z → (FitsSigned w64 z → ⊥) → r ≡ false
not_signed ty z true e h = absurd (h (signed_fits ty z (sym e)))
not_signed ty z false e h = refl

pub signed_from : (ty : Scalar) (o : Option ℤ) (r : Bool) (z s : ℤ) → z ≡ s → SomeIff o (FitsSigned w64 z) z → IfSome o (λ y. r ≡ is_signed ty y) → IfNone o (r ≡ false) → r ≡ is_signed ty s
signed_from ty None r z s e iff some none = none ∙ sym (not_signed ty z (is_signed ty z) refl iff) ∙ ap (is_signed ty) e
signed_from ty (Some y) r z s e iff some none = some ∙ ap (is_signed ty) (iff.1 ∙ e)

pub as_given : (z s : ℤ) → FitsSigned w64 z → z ≡ s → to_z w64 (of_z w64 z) ≡ s
as_given z s fits e = to_z-of_z w64 z fits ∙ e

-- ---- results modulo 2^w

-- 2^w divides 2^64
pub modulo_of_word : (ty : Scalar) (n : ℕ) → number_modulo ty (n % 2 ^ 64) ≡ n % 2 ^ width ty
modulo_of_word I1 n = omega arith
modulo_of_word I8 n = omega arith
modulo_of_word I16 n = omega arith
modulo_of_word I32 n = omega arith
modulo_of_word I64 n = omega arith
modulo_of_word Ptr n = omega arith

-- ---- a difference is a number, or negative

difference : (a b : ℕ) → b ≤ a → pos a -ℤ pos b ≡ pos (a - b)
difference a b h = omega (arith, ints)

difference_below : (a b : ℕ) → a < b → pos a -ℤ pos b ≡ negsuc (b - a - 1)
difference_below a b h = omega (arith, ints)

modulo_of_difference : (ty : Scalar) (a b : ℕ) → b < 2 ^ 64 → b ≤ a → (a + (2 ^ 64 - b)) % 2 ^ width ty ≡ integer_modulo ty (pos (a - b))
modulo_of_difference I1 a b f h = omega arith
modulo_of_difference I8 a b f h = omega arith
modulo_of_difference I16 a b f h = omega arith
modulo_of_difference I32 a b f h = omega arith
modulo_of_difference I64 a b f h = omega arith
modulo_of_difference Ptr a b f h = omega arith

modulo_of_difference_below : (ty : Scalar) (a b : ℕ) → b < 2 ^ 64 → a < b → (a + (2 ^ 64 - b)) % 2 ^ width ty ≡ integer_modulo ty (negsuc (b - a - 1))
modulo_of_difference_below I1 a b f h = omega arith
modulo_of_difference_below I8 a b f h = omega arith
modulo_of_difference_below I16 a b f h = omega arith
modulo_of_difference_below I32 a b f h = omega arith
modulo_of_difference_below I64 a b f h = omega arith
modulo_of_difference_below Ptr a b f h = omega arith

pub modulo_of_wrapped_difference : (ty : Scalar) (a b : ℕ) → b < 2 ^ 64 → number_modulo ty ((a + (2 ^ 64 - b)) % 2 ^ 64) ≡ integer_modulo ty (pos a -ℤ pos b)
modulo_of_wrapped_difference ty a b f = ⊎_elim
    (λ h. modulo_of_word ty (a + (2 ^ 64 - b)) ∙ modulo_of_difference_below ty a b f h ∙ ap (integer_modulo ty) (sym (difference_below a b h)))
    (λ h. modulo_of_word ty (a + (2 ^ 64 - b)) ∙ modulo_of_difference ty a b f h ∙ ap (integer_modulo ty) (sym (difference a b h)))
    (cases_lt a b)

-- the range of a difference
pub difference_from : (ty : Scalar) (o : Option ℕ) (r : Bool) (a b : ℕ) → SomeIff o (b ≤ a) (a - b) → IfSome o (λ m. r ≡ is_number_of ty m) → IfNone o (r ≡ false) → r ≡ is_unsigned ty (pos a -ℤ pos b)
difference_from ty None r a b iff some none = none ∙ ap (is_unsigned ty) (sym (difference_below a b (grind (arith, iff))))
difference_from ty (Some m) r a b iff some none = some ∙ ap (is_number_of ty) iff.1 ∙ ap (is_unsigned ty) (sym (difference a b iff.0))

-- ---- the three together

pub wrapped_as : (flags : Flags) {u v s t : Bool} {m n : ℕ} → u ≡ v → s ≡ t → m ≡ n
    → poison_unless (implies flags.nuw u && implies flags.nsw s) m ≡ poison_unless (implies flags.nuw v && implies flags.nsw t) n
wrapped_as flags {u} {v} {s} {t} {m} {n} e f g = ap₂ (λ (x : Bool) (k : ℕ). poison_unless x k) (ap₂ (λ (x y : Bool). implies flags.nuw x && implies flags.nsw y) e f) g
