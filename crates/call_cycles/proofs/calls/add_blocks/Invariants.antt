use Rattle.std.proofs.Common.{◌≡◌, ◌++◌, drop}
use Rattle.call_cycles.specs.Mirrors.Numbering.{block_ends}
use Rattle.call_cycles.proofs.calls.add_blocks.Given as goal

abbrev pub invariant-loop-block : goal.invariant-loop-block
invariant-loop-block l = l.ends ++ block_ends l.leads (drop l.block-index l.blocks) ≡ l.fn.ends ++ block_ends l.leads l.blocks
