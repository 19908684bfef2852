-- Made blocks as the code keeps them.
use Rattle.block_memory.specs.declared.slot.State.{State}
use Rattle.block_memory.specs.declared.slot.State.TheVariants as state
use Rattle.block_memory.specs.Blocks.{MemoryBlock, Live, Ended}

abbrev pub block_seen : State → MemoryBlock
block_seen (state.Live block) = Live block
block_seen (state.Ended size) = Ended size
