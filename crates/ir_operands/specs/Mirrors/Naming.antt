-- What contracts see of the names of a function.
use Rattle.ir_scope.specs.Scopes.{env_of}
use Rattle.ir_operands.specs.declared.names.Names.{Names as Naming}
use Rattle.ir_operands.specs.Operands.{Names}

unfoldable pub naming : Naming → Names
naming names = record { env = env_of names.scope.now; locals = names.locals.now }
