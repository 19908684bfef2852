-- What the code's `==` and `>>` at 64 bits say of signed values.
use Rattle.std.proofs.Common.{◌≡◌, ℕ, ◌^◌, ℤ, int_eq, eqb, sym, ap, ap₂, ◌∙◌, arith, FitsSigned, w64, to_z, of_z}
use Rattle.std.specs.Int.{int_shr}
use Rattle.std.specs.Int.Signed.{mag_shr}
use Rattle.std.specs.Bool.{one_answer}
use Rattle.std.proofs.lemmas.Bool.{eqb-true, eq-eqb}
use Rattle.std.proofs.lemmas.Bool.Decides.{Decides-int_eq}
use Rattle.std.proofs.lemmas.Int.{to_z-of_z}

same_bits : (x y : ℤ) → FitsSigned w64 x → FitsSigned w64 y → of_z w64 x ≡ of_z w64 y → x ≡ y
same_bits x y f g e = sym (to_z-of_z w64 x f) ∙ ap (to_z w64) e ∙ to_z-of_z w64 y g

equal_as_bits : (x y : ℤ) → FitsSigned w64 x → FitsSigned w64 y → eqb (of_z w64 x) (of_z w64 y) ≡ int_eq x y
equal_as_bits x y f g = one_answer _ _ (λ e. same_bits x y f g (eqb-true _ _ e), λ e. eq-eqb _ _ (ap (of_z w64) e)) (Decides-int_eq x y)

shifted_fits : (x : ℤ) (k : ℕ) → FitsSigned w64 x → FitsSigned w64 (int_shr x k)
shifted_fits x k f = record { sfits = omega (arith, mag_shr x (2 ^ k), f.sfits) }

-- whether a value that is shifted back is the operand
pub comes_back_as : (x y s t : ℤ) (k : ℕ) → FitsSigned w64 x → FitsSigned w64 y → x ≡ s → y ≡ t
    → eqb (of_z w64 (int_shr (to_z w64 (of_z w64 x)) k)) (of_z w64 y) ≡ int_eq (int_shr s k) t
comes_back_as x y s t k f g e d =
    ap (λ (z : ℤ). eqb (of_z w64 (int_shr z k)) (of_z w64 y)) (to_z-of_z w64 x f)
    ∙ equal_as_bits (int_shr x k) y (shifted_fits x k f) g
    ∙ ap₂ (λ (z u : ℤ). int_eq (int_shr z k) u) e d
