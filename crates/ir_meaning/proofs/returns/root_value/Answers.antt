use Rattle.std.proofs.Common.{subst}
use Rattle.block_memory.specs.Answers.{IsMeant}
use Rattle.ir_steps.specs.Returns as returns
use Rattle.ir_meaning.proofs.Named.{root_is_shown}
use Rattle.ir_meaning.proofs.returns.root_value.Goals as goal

pub shown_value-requires : goal.shown_value-requires
shown_value-requires c = root_is_shown c.args.p.now c.in-Some.value (λ mem. subst (λ r. IsMeant (returns.root_returns c.args.p.now mem r)) c.in-Some.is (c.requires mem))
