use Rattle.std.proofs.Common.{◌∙◌, sym, ap}
use Rattle.program_runner.specs.Ending.{value_in, returned}
use Rattle.program_runner.proofs.Ends.{returned_last}
use Rattle.program_runner.proofs.ended.returned.Goals as goal

pub returns-in-Some-Returned : goal.returns-in-Some-Returned
returns-in-Some-Returned c =
    sym (ap returned c.in-Some-Returned.ensures ∙ returned_last c.pop.new.self c.in-Some-Returned.field-0 ∙ ap value_in c.in-Some-Returned.field-0-is)

pub returns-in-Some-Asked : goal.returns-in-Some-Asked
returns-in-Some-Asked c = sym (ap returned c.in-Some-Asked.ensures ∙ returned_last c.pop.new.self c.in-Some-Asked.field-0 ∙ ap value_in c.in-Some-Asked.field-0-is)
