use Rattle.std.proofs.Common.{Ok}
use Rattle.manifest.proofs.AnswerLaws.{some_answer, one_answer}
use Rattle.manifest.proofs.laws.text_has_one_answer.Goals as goal

pub returns-clause-some : goal.returns-clause-some
returns-clause-some c = some_answer

pub returns-clause-one : goal.returns-clause-one
returns-clause-one c = one_answer

pub returns-clause-one_manifest : goal.returns-clause-one_manifest
returns-clause-one_manifest c = λ text a b p q. let e = one_answer text (Ok a) (Ok b) p q in cc
