use Rattle.std.proofs.Common.{List, map, subst, ◌∙◌}
use Rattle.ir_types.specs.declared.bytes.Bytes.{Bytes}
use Rattle.ir_types.specs.declared.shape.Ty.{Ty}
use Rattle.ir_scope.specs.Mirrors.Placed.{ArePlaces}
use Rattle.ir_scope.proofs.Placing.{entries_by}
use Rattle.ir_scope.proofs.scope.Scope.first_of.Goals as goal

pub invariant_of-result : goal.invariant_of-result
invariant_of-result c = (
  subst (λ (ts : List (Bytes × Ty)). ArePlaces (entries_by (λ v. v.items) c.in_ok-type_places.type_places.first.entries) c.in_ok-type_places.type_places.doubled (map (λ t. t.0) ts)) c.as_slice.ensures c.in_ok-type_places.ensures,
  (subst (λ (ns : List Bytes). ArePlaces (entries_by (λ v. v.items) c.in_ok-symbol_places.symbol_places.first.entries) c.in_ok-symbol_places.symbol_places.doubled ns) c.as_slice-2.ensures c.in_ok-symbol_places.ensures, tt),
)
