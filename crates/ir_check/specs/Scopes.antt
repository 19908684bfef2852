-- What the operands of a body may be, as the definitions see it.
use Rattle.std.specs.Prelude.{map}
use Rattle.ir_syntax.specs.Typed.{Types}
use Rattle.ir_check.specs.declared.scope.Scope.{Scope}

abbrev pub types_of : Scope → Types
types_of scope = record { items = scope.items.now; params = map (λ param. param.ty) scope.params.now; results = scope.results.now }
