use Rattle.std.proofs.Common.{◌≡◌, drop}
use Rattle.ir_meaning.specs.Mirrors.Opening.{may_write_all}
use Rattle.ir_meaning.proofs.writes.may_write_all.Given as goal

abbrev pub invariant-loop-write : goal.invariant-loop-write
invariant-loop-write l = may_write_all l.memory l.args (drop l.write-index l.writes) ≡ may_write_all l.memory l.args l.writes
