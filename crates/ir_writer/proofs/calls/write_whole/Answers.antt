use Rattle.std.proofs.lemmas.Result.{on_ok_weaker}
use Rattle.ir_writer.proofs.CallTexts.{whole_written}
use Rattle.ir_writer.proofs.calls.write_whole.Goals as goal

pub returns : goal.returns
returns c =
    on_ok_weaker c.append-2.result
    (λ e. whole_written c.args.fn_ty.now c.as_slice.result.now c.len.result _ _ _ _ _ c.as_slice.ensures c.len.ensures c.in_ok-append.ensures.ok c.in_ok-write_scalars.ensures c.in_ok-write_dots.ensures e)
    c.append-2.ensures.ok
