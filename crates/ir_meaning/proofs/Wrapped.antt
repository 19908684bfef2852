-- Sums of signed numbers that wrap.
use Rattle.std.proofs.Common.{◌≡◌, ◌∙◌, ℕ, ◌+◌, ◌-◌, ◌%◌, ◌^◌, ◌<◌, Bool, true, false, ℤ, pos, negsuc, ◌+ℤ◌, ◌-ℤ◌, Option, Some, None, refl, sym, ap, arith, w64, nat_lt, if◌then◌else◌}
use Rattle.std.specs.Prelude.{◌==◌}
use Rattle.std.specs.Int.{int_wrap, int_rem_euclid, cast_signed}
use Rattle.std.proofs.lemmas.Int.{ints, int_wrap-add_left, int_wrap-add_right, int_wrap_fits}
use Rattle.std.proofs.lemmas.Bool.Decides.{nat_tests}
use Rattle.ir_types.specs.declared.scalar.Scalar.TheVariants.{I64}
use Rattle.ir_types.specs.Scalars.{signed_of, signed_value, integer_modulo}
use Rattle.ir_syntax.specs.declared.symbol.Sym.{Sym}
use Rattle.block_memory.specs.declared.value.Val.{Val}
use Rattle.block_memory.specs.declared.value.Val.TheVariants as val
use Rattle.block_memory.specs.Answers.{Answer, Gives, Stuck, and_then, or_stuck}
use Rattle.block_memory.specs.Blocks.{MemoryData}
use Rattle.block_memory.specs.Comparisons.{Extent, extent}
use Rattle.ir_steps.specs.Pointers.{wrapped, added, at_offset, moved_by, moved}
use Rattle.ir_meaning.specs.Mirrors.Walking.{wrapped_option, sum_of}

cast_is : (m : ℕ) → m < 2 ^ 64 → cast_signed w64 m ≡ signed_of I64 m
cast_is m h = grind (arith, nat_tests, ints)

below : (n : ℕ) → n % 2 ^ 64 < 2 ^ 64
below n = omega arith

same : (m : ℕ) → m < 2 ^ 64 → m % 2 ^ 64 ≡ m
same m h = omega arith

modulo_below : (z : ℤ) → integer_modulo I64 z < 2 ^ 64
modulo_below (pos n) = omega arith
modulo_below (negsuc n) = omega arith

pub wrapped_is : (z : ℤ) → int_wrap w64 z ≡ wrapped z
unfolding int_wrap
wrapped_is (pos n) = cast_is (n % 2 ^ 64) (below n) ∙ ap (signed_of I64) (sym (same (n % 2 ^ 64) (below n)))
wrapped_is (negsuc n) = cast_is (2 ^ 64 - 1 - n % 2 ^ 64) (omega arith) ∙ ap (signed_of I64) (sym (same (2 ^ 64 - 1 - n % 2 ^ 64) (omega arith)))

pub wrapped_left : (a b : ℤ) → wrapped (wrapped a +ℤ b) ≡ wrapped (a +ℤ b)
wrapped_left a b = sym (wrapped_is (wrapped a +ℤ b)) ∙ ap (λ c. int_wrap w64 (c +ℤ b)) (sym (wrapped_is a)) ∙ int_wrap-add_left w64 a b ∙ wrapped_is (a +ℤ b)

pub wrapped_right : (a b : ℤ) → wrapped (a +ℤ wrapped b) ≡ wrapped (a +ℤ b)
wrapped_right a b = sym (wrapped_is (a +ℤ wrapped b)) ∙ ap (λ c. int_wrap w64 (a +ℤ c)) (sym (wrapped_is b)) ∙ int_wrap-add_right w64 a b ∙ wrapped_is (a +ℤ b)

swapped : (a r o : ℤ) → (a +ℤ o) +ℤ r ≡ (a +ℤ r) +ℤ o
swapped a r o = omega (arith, ints)

grouped : (a r o : ℤ) → (a +ℤ r) +ℤ o ≡ a +ℤ (o +ℤ r)
grouped a r o = omega (arith, ints)

-- what is known so far, one index more, and the rest
pub sum_shift : (so_far one rest : Option ℤ) → sum_of so_far (added one rest) ≡ sum_of (sum_of so_far (wrapped_option one)) rest
sum_shift None one rest = refl
sum_shift (Some a) None rest = refl
sum_shift (Some a) (Some o) None = refl
sum_shift (Some a) (Some o) (Some r) =
    ap Some (sym (wrapped_left (a +ℤ wrapped o) r ∙ ap wrapped (swapped a r (wrapped o)) ∙ wrapped_right (a +ℤ r) o ∙ ap wrapped (grouped a r o)))

pub sum_first : (one rest : Option ℤ) → wrapped_option (added one rest) ≡ sum_of (wrapped_option one) rest
sum_first None rest = refl
sum_first (Some o) None = refl
sum_first (Some o) (Some r) = ap Some (sym (wrapped_left o r))

modulo_again : (m : ℕ) → m < 2 ^ 64 → integer_modulo I64 (signed_of I64 m) ≡ m
modulo_again m h = tested (nat_lt m (2 ^ 63)) refl where
  above : (m : ℕ) → m < 2 ^ 64 → pos m -ℤ pos (2 ^ 64) ≡ negsuc (2 ^ 64 - m - 1)
  above m h = omega (arith, ints)

  tested : (b : Bool) → b ≡ nat_lt m (2 ^ 63) → integer_modulo I64 (if b then pos m else (pos m -ℤ pos (2 ^ 64))) ≡ m
  tested true is = same m h
  tested false is = ap (integer_modulo I64) (above m h) ∙ omega arith

pub modulo_wrapped : (z : ℤ) → integer_modulo I64 (wrapped z) ≡ integer_modulo I64 z
modulo_wrapped z =
    ap (λ m. integer_modulo I64 (signed_of I64 m)) (same (integer_modulo I64 z) (modulo_below z)) ∙ modulo_again (integer_modulo I64 z) (modulo_below z)

pub moved_wrapped : (mem : MemoryData) (inbounds : Bool) (base : Val Sym) (z : ℤ) → moved_by mem inbounds base (wrapped z) ≡ moved_by mem inbounds base z
moved_wrapped mem inbounds (val.Num n) z = refl
moved_wrapped mem inbounds val.Null z = ap (λ m. Gives (if m == 0 then val.Null else val.Poison)) (modulo_wrapped z)
moved_wrapped mem inbounds (val.At of from) z = ap (λ (to : ℤ). and_then (λ (block : Extent). Gives (at_offset inbounds of from to block.size)) (or_stuck (extent mem of))) (wrapped_right from z)
moved_wrapped mem inbounds val.Poison z = refl
