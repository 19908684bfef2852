use Rattle.std.proofs.Common.{map}
use Rattle.std.proofs.lemmas.Result.{on_ok_weaker}
use Rattle.ir_syntax.specs.FormedBody.{item_name}
use Rattle.ir_writer.proofs.LineTexts.{walk_written}
use Rattle.ir_writer.proofs.instructions.write_gep.Goals as goal

pub returns : goal.returns
returns c =
    on_ok_weaker c.write_indices.result
    (λ e. walk_written (map item_name c.args.items.now) c.args.inbounds c.args.ty.now c.args.base.now c.args.indices.now _ _ _ _ _ _ _
    c.in_ok-append.ensures.ok c.in_ok-write_said.ensures c.in_ok-write_type.ensures c.in_ok-append-2.ensures.ok c.in_ok-write_typed.ensures e)
    c.write_indices.ensures
