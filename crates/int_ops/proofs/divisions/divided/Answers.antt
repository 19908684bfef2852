use Rattle.std.proofs.Common.{rules, ap₂, ◌∙◌, int_div, int_rem, FitsSigned, to_z, of_z, w64, ℤ}
use Rattle.std.proofs.lemmas.Int.{quot_is, rem_is, to_z-of_z}
use Rattle.int_ops.proofs.divisions.divided.Goals as goal

pub returns-else-dividend-least_value-clause-quotient : goal.returns-else-dividend-least_value-clause-quotient
returns-else-dividend-least_value-clause-quotient c =
    let first : FitsSigned w64 c.signed-dividend.result = search rules in
    let second : FitsSigned w64 c.signed-divisor.result = search rules in
    let fits : FitsSigned w64 (int_div (to_z w64 (of_z w64 c.signed-dividend.result)) (to_z w64 (of_z w64 c.signed-divisor.result))) = search rules in
    let whole : FitsSigned w64 (int_div c.signed-dividend.result c.signed-divisor.result) = simp to_z-of_z at fits in
    quot_is w64 c.signed-dividend.result c.signed-divisor.result first second whole
    ∙ ap₂ (λ (x y : ℤ). int_div x y) c.signed-dividend.ensures.value c.signed-divisor.ensures.value

pub returns-else-dividend-least_value-clause-remainder : goal.returns-else-dividend-least_value-clause-remainder
returns-else-dividend-least_value-clause-remainder c =
    let first : FitsSigned w64 c.signed-dividend.result = search rules in
    let second : FitsSigned w64 c.signed-divisor.result = search rules in
    rem_is w64 c.signed-dividend.result c.signed-divisor.result first second
    ∙ ap₂ (λ (x y : ℤ). int_rem x y) c.signed-dividend.ensures.value c.signed-divisor.ensures.value
