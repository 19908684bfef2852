use Rattle.ir_parser.specs.Spelled.{kept_of}
use Rattle.ir_parser.proofs.FormingModules.{module-formed}
use Rattle.ir_parser.proofs.laws.what_is_spelled_is_formed.Goals as goal

pub returns : goal.returns
returns c = λ text m spelled. module-formed (kept_of spelled.entities) m spelled.resolved
