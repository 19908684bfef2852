use Rattle.std.proofs.Common.{rules}
use Rattle.ir_types.specs.Layout.{round_up}
use Rattle.block_memory.proofs.starts.rounded_up.Goals as goal

pub returns-clause-value : goal.returns-clause-value
unfolding round_up
returns-clause-value c = search rules
