use Rattle.ir_scope.proofs.Equal.{equal_where_same, same_itself}
use Rattle.ir_scope.proofs.sameness.same_type_is_equality.Goals as goal

pub returns-clause-equal : goal.returns-clause-equal
returns-clause-equal c = equal_where_same

pub returns-clause-reflexive : goal.returns-clause-reflexive
returns-clause-reflexive c = same_itself
