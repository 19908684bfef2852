use Rattle.program_loader.proofs.Judgements.{refused_is}
use Rattle.program_loader.proofs.walking.add_module.Goals as goal

pub returns-in-Refused : goal.returns-in-Refused
returns-in-Refused c = refused_is c.args.name.now c.args.text.now c.in_ok-judged.judged c.in-Refused.refusal c.in_ok-judged.ensures c.in-Refused.is
