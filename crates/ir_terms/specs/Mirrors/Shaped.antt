-- Parts of phis and terminators.
use Rattle.std.specs.Prelude.{ℕ, Bool, not, option_map}
use Rattle.ir_types.specs.declared.scalar.Scalar.{Scalar}
use Rattle.ir_types.specs.declared.scalar.Scalar.TheVariants.{I1}
use Rattle.ir_syntax.specs.declared.constant.Operand.{Operand}
use Rattle.ir_syntax.specs.declared.body.Term.{Term}
use Rattle.ir_syntax.specs.declared.body.Term.TheVariants as term
use Rattle.ir_grammar.specs.declared.shape.Shape.{Shape}
use Rattle.ir_scope.specs.Runs.{Reading}
use Rattle.ir_constants.specs.Constants.{is_close_square}
use Rattle.ir_operands.specs.Operands.{Names, operand_at, block_at, then_at, typed}
use Rattle.ir_terms.specs.Terms.{made_branch}

abbrev pub begins_case : Shape → Bool
begins_case shape = not (is_close_square shape)

-- a, %l
abbrev pub defaulted_at : Names → Scalar → Reading (Operand × ℕ)
defaulted_at names ty ks = then_at (λ value place. (value, place)) ks (block_at names) (operand_at names ty ks)

-- T a
abbrev pub value_ret_at : Names → Reading Term
value_ret_at names ks = option_map (λ f. (term.Ret f.0.0 f.0.1, f.1)) (typed (operand_at names) ks)

-- label %l
abbrev pub jump_at : Names → Reading Term
jump_at names ks = option_map (λ f. (term.Br f.0, f.1)) (block_at names ks)

-- c, label %l, label %m
abbrev pub branch_at : Names → Reading Term
branch_at names ks = then_at made_branch ks (block_at names) (defaulted_at names I1 ks)
