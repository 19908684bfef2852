use Rattle.std.proofs.Common.{◌∷◌}
use Rattle.std.proofs.lemmas.Result.{IfOk-weaker}
use Rattle.linker.proofs.Judging.{first_defined, none_defined}
use Rattle.linker.proofs.slot.Slot.of.Goals as goal

pub returns-in-Some : goal.returns-in-Some
returns-in-Some c = IfOk-weaker c.of_defined.result _ _ (λ slot h name listed is alike. h name listed is (first_defined c.args.modules.now name (c.args.group.now.first ∷ c.args.group.now.others) c.in-Some.symbol is c.in-Some.ensures)) c.of_defined.ensures

pub returns-in-None : goal.returns-in-None
returns-in-None c = IfOk-weaker c.of_undefined.result _ _ (λ slot h name listed is alike. h name listed is alike (none_defined c.args.modules.now name (c.args.group.now.first ∷ c.args.group.now.others) is c.in-None.ensures)) c.of_undefined.ensures
