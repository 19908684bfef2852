-- Parts of readings of operands and flags.
use Rattle.std.specs.Prelude.{◌∷◌, List, Option, Some, None, option_map}
use Rattle.ir_types.specs.declared.scalar.Scalar.{Scalar}
use Rattle.ir_types.specs.declared.shape.Ty.TheBlock.{One}
use Rattle.ir_syntax.specs.declared.constant.Operand.{Operand}
use Rattle.ir_syntax.specs.declared.constant.Operand.TheVariants as operand
use Rattle.ir_scope.specs.Runs.{Reading}
use Rattle.ir_constants.specs.Constants.{constant_at}
use Rattle.ir_operands.specs.Operands.{Names}
use Rattle.ir_grammar.specs.declared.shape.Shape.TheVariants as is
use Rattle.ir_grammar.specs.declared.shape.Free.TheVariants as free
use Rattle.ir_grammar.specs.declared.shape.Flag.{Flag}
use Rattle.ir_grammar.specs.Tokens.{Kept}

-- the flag that stands first
abbrev pub first_flag : List Kept → Option Flag
first_flag ((is.Free (free.Flag f), text) ∷ ks) = Some f
first_flag _ = None

abbrev pub constant_operand_at : Names → Scalar → Reading Operand
constant_operand_at names ty ks = option_map (λ f. (operand.Const f.0, f.1)) (constant_at names.env (One ty) ks)
