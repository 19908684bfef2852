use Rattle.std.proofs.Common.{take, drop, ap, sym, ◌∙◌}
use Rattle.ir_types.specs.Layout.{scalar_size}
use Rattle.block_memory.specs.Answers.{Gives}
use Rattle.block_memory.specs.Parts.{value_in}
use Rattle.block_memory.proofs.Places.{load_is}
use Rattle.block_memory.proofs.memory.Memory.load.Goals as goal

pub returns : goal.returns
returns c =
    load_is c.args.self.now c.args.ty c.args.align c.bytes_of.result c.args.at.now c.in_ok-spot.spot c.block.result.now c.bytes_of.ensures.value c.in_ok-spot.ensures c.block.ensures
    ∙ ap (λ parts. Gives (value_in c.args.ty (take (scalar_size c.args.ty) (drop c.in_ok-spot.spot.offset parts)))) (sym c.parts.ensures)
    ∙ ap Gives (sym c.value.ensures)
