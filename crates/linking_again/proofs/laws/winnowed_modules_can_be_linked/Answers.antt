use Rattle.linking_again.proofs.Needs.{modules_few, modules_linkable}
use Rattle.linking_again.proofs.laws.winnowed_modules_can_be_linked.Goals as goal

pub returns-clause-few : goal.returns-clause-few
returns-clause-few c = modules_few

pub returns-clause-sound : goal.returns-clause-sound
returns-clause-sound c = modules_linkable
