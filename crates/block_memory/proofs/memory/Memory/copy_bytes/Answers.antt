use Rattle.std.proofs.Common.{ap, sym, if◌then◌else◌, ◌∙◌}
use Rattle.int_ops.specs.declared.cause.Cause.TheVariants as cause
use Rattle.block_memory.specs.Answers.{Gives, Undefined}
use Rattle.block_memory.specs.Mirrors.Spots.{moved}
use Rattle.block_memory.specs.Copies as copies
use Rattle.block_memory.proofs.Copying.{copy_is}
use Rattle.block_memory.proofs.Meant.{has_bytes}
use Rattle.block_memory.proofs.memory.Memory.copy_bytes.Goals as goal

pub returns-then-is_refused-clause-answer : goal.returns-then-is_refused-clause-answer
returns-then-is_refused-clause-answer c =
    copy_is c.args.self.now c.args.to.now c.args.from.now c.args.len c.args.may_overlap c.in_ok-to.to c.in_ok-from.from c.if-len-eq0.false c.in_ok-to.ensures c.in_ok-from.ensures
    ∙ ap (λ refused. if refused then Undefined cause.Overlap else Gives (moved c.args.self.now c.in_ok-to.to c.in_ok-from.from c.args.len)) (sym c.is_refused.ensures ∙ c.if-is_refused.true)

pub returns-clause-answer : goal.returns-clause-answer
returns-clause-answer c =
    copy_is c.args.self.now c.args.to.now c.args.from.now c.args.len c.args.may_overlap c.in_ok-to.to c.in_ok-from.from c.if-len-eq0.false c.in_ok-to.ensures c.in_ok-from.ensures
    ∙ ap (λ refused. if refused then Undefined cause.Overlap else Gives (moved c.args.self.now c.in_ok-to.to c.in_ok-from.from c.args.len)) (sym c.is_refused.ensures ∙ c.if-is_refused.false)
    ∙ ap Gives (sym c.move_bytes.ensures)

pub move_bytes-requires-clause-there : goal.move_bytes-requires-clause-there
move_bytes-requires-clause-there c =
    has_bytes c.args.self.now (copies.reading_bytes c.args.len) c.args.from.now c.in_ok-from.from c.in_ok-from.ensures
