-- Parts of what one lexeme spells.
use Rattle.std.specs.Prelude.{Option}
use Rattle.ir_types.specs.declared.shape.Ty.{Ty}
use Rattle.ir_types.specs.declared.shape.Ty.TheOpen.{Ty-F}
use Rattle.ir_syntax.specs.declared.constant.Const.{Const}
use Rattle.ir_grammar.specs.Tokens.{Kept}
use Rattle.ir_scope.specs.Scopes.{Env}
use Rattle.ir_constants.specs.Constants.{scalar_of, array_of, struct_of}

-- a constant that isn't undef or poison, at a type
abbrev pub defined : Env → Ty-F Ty → Kept → Option Const
defined env (Ty-F.One s) k = scalar_of env s k
defined env (Ty-F.Array count element) k = array_of count element k
defined env (Ty-F.Struct fields) k = struct_of k
