use Rattle.residual_laws.proofs.Mapping.{inst_mapped, phi_mapped, term_mapped}
use Rattle.residual_laws.proofs.rewritten.mapped_parts_fit.Goals as goal

pub returns-clause-insts : goal.returns-clause-insts
returns-clause-insts c = λ places later types typed f inst. inst_mapped places types later typed f inst

pub returns-clause-phis : goal.returns-clause-phis
returns-clause-phis c = λ places later types typed f blocks others place phi. phi_mapped places types later typed f blocks others place phi

pub returns-clause-terms : goal.returns-clause-terms
returns-clause-terms c = λ places later types typed f returns term. term_mapped places types later typed f returns term
