-- Parts of calls.
use Rattle.std.specs.Prelude.{Bool, not, List, map, drop, Option, Some, None, option_map, option_and_then}
use Rattle.ir_types.specs.declared.scalar.Scalar.{Scalar}
use Rattle.ir_types.specs.declared.scalar.Ext.{Ext}
use Rattle.ir_syntax.specs.declared.body.Arg.{Arg}
use Rattle.ir_syntax.specs.declared.body.Inst.{Inst}
use Rattle.ir_grammar.specs.declared.shape.Shape.{Shape}
use Rattle.ir_scope.specs.Runs.{Reading, behind}
use Rattle.ir_constants.specs.Constants.{is_close_paren}
use Rattle.ir_operands.specs.Operands.{Names}
use Rattle.ir_calls.specs.Calls.{whole_at, callee_at, void_callee_at}

abbrev pub begins_arg : Shape → Bool
begins_arg shape = not (is_close_paren shape)

abbrev pub arg_types : List Arg → List Scalar
arg_types args = map (λ arg. arg.ty) args

abbrev pub plain_callee_at : Names → Ext → Option (List Scalar × Bool) → Reading (Option Inst)
plain_callee_at names ext whole ks = option_map (λ f. (Some f.0, f.1)) (callee_at names ext None whole ks)

-- behind the scalar that is returned
abbrev pub returning_value_at : Names → Ext → Scalar → Reading (Option Inst)
returning_value_at names ext ty ks = option_and_then (λ whole. behind whole.1 (option_map (λ f. (Some f.0, f.1)) (callee_at names ext (Some ty) whole.0 (drop whole.1 ks)))) (whole_at ks)

-- behind void
abbrev pub returning_void_at : Names → Ext → Reading (Option Inst)
returning_void_at names ext ks = option_and_then (λ whole. behind whole.1 (void_callee_at names ext whole.0 (drop whole.1 ks))) (whole_at ks)
