use Rattle.std.proofs.Common.{map}
use Rattle.std.proofs.lemmas.Result.{on_ok_weaker}
use Rattle.ir_syntax.specs.FormedBody.{item_name}
use Rattle.ir_writer.proofs.CallTexts.{call_written}
use Rattle.ir_writer.proofs.calls.write_call.Goals as goal

pub returns : goal.returns
returns c =
    on_ok_weaker c.append-4.result
    (λ e. call_written (map item_name c.args.items.now) c.args.fn_ty.now c.args.ret_ext c.args.callee.now c.args.args.now _ _ _ _ _ _ _ _ _ _
    c.in_ok-append.ensures.ok c.in_ok-write_ext_before.ensures c.in_ok-write_returned.ensures c.in_ok-append-2.ensures.ok c.in_ok-write_needed.ensures
    c.in_ok-write_operand.ensures c.in_ok-append-3.ensures.ok c.in_ok-write_args.ensures e)
    c.append-4.ensures.ok
