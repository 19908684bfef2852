use Rattle.std.proofs.Common.{rules, refl, List, [], ◌∷◌, ◌++◌, ℕ, ap, arith}
use Rattle.std.specs.Prelude.{codes}
use Rattle.std.specs.List.{join_with_byte}
use Rattle.std.proofs.lemmas.Fmt.{decimal_digit}
use Rattle.ir_syntax.specs.declared.constant.Operand.TheVariants as operand
use Rattle.ir_syntax.specs.declared.item.Linkage.TheVariants.{Internal}
use Rattle.straight_meaning.specs.Worked.{function, integer, sum_of, module_with, left_main}
use Rattle.straight_meaning.proofs.worked.worked_row.Goals as goal

pub returns-clause-left : goal.returns-clause-left
returns-clause-left c = ap (λ (three : List ℕ).
    let name : List ℕ = codes "(" ++ join_with_byte 44 (three ∷ codes "_" ∷ []) ++ codes ")" ++ codes "add" in
    module_with (left_main ∷ function name Internal 1 (sum_of (integer 3) (operand.Param 0) ∷ []) (operand.Reg 0) ∷ []))
    (decimal_digit 3 (omega arith))

pub returns-clause-lawful : goal.returns-clause-lawful
returns-clause-lawful c = record {
  straight = search rules;
  apart = search rules;
  takes = search rules;
  rooted = refl;
  planned = search rules;
}
