use Rattle.ir_syntax.proofs.MappedLemmas.{operands-map, result-map, term_operands-map, successors-map, phi_operands-map}
use Rattle.ir_syntax.proofs.laws.mapping_keeps_the_rest.Goals as goal

pub returns : goal.returns
returns c = record { operands = operands-map; result = result-map; term_operands = term_operands-map; successors = successors-map; phi_operands = phi_operands-map }
