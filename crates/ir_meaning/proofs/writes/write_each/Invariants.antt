use Rattle.std.proofs.Common.{◌≡◌, true, drop}
use Rattle.ir_steps.specs.Replies.{write_all}
use Rattle.ir_meaning.specs.Mirrors.Opening.{may_write_all}
use Rattle.ir_meaning.proofs.writes.write_each.Given as goal

abbrev pub invariant-loop-write : goal.invariant-loop-write
invariant-loop-write l = record {
  open_yet : may_write_all l.memory l.args (drop l.write-index l.writes) ≡ true;
  left : write_all l.args (drop l.write-index l.writes) l.memory ≡ write_all l.args l.writes l.fn.memory;
}
