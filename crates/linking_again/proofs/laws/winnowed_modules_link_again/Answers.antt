use Rattle.linking_again.proofs.Needs.{modules_linked}
use Rattle.linking_again.proofs.Rules.{rules_kept, none_refused}
use Rattle.linking_again.proofs.laws.winnowed_modules_link_again.Goals as goal

pub returns-clause-kept : goal.returns-clause-kept
returns-clause-kept c = λ p cycles members made d program whole free are linked. rules_kept p cycles members made program whole free are d linked

pub returns-clause-linked : goal.returns-clause-linked
returns-clause-linked c = modules_linked

pub returns-clause-not_refused : goal.returns-clause-not_refused
returns-clause-not_refused c = λ p cycles members made d rule name program whole free are linked refused. none_refused p cycles members made program whole free are d linked rule name refused
