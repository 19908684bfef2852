use Rattle.residual_laws.proofs.Least.{least_led, least_asked}
use Rattle.residual_laws.proofs.laws.least_closed_assignments_are_led.Goals as goal

pub returns-clause-led : goal.returns-clause-led
returns-clause-led c = least_led

pub returns-clause-asked : goal.returns-clause-asked
returns-clause-asked c = least_asked
