use Rattle.std.proofs.Common.{◌≡◌, map, take}
use Rattle.block_memory.specs.declared.value.Val.TheVariants as val
use Rattle.ir_meaning.proofs.state.number_values.Given as goal

abbrev pub invariant-loop-n : goal.invariant-loop-n
invariant-loop-n l = l.values.items ≡ map (λ n. val.Num n) (take l.n-index l.numbers)
