use Rattle.std.proofs.Common.{◌≡◌, ◌∙◌, ◌%◌, ◌^◌, map, option_map, ap}
use Rattle.ir_constants.specs.Offsets.{index_of}
use Rattle.ir_constants.proofs.Totals.{lost_none}
use Rattle.ir_constants.proofs.offsets.offset_of.Goals as goal

pub returns-in-Err-NoSuch : goal.returns-in-Err-NoSuch
returns-in-Err-NoSuch c =
    let lost = rw c.in-Err-NoSuch.field-0-is at c.in-Err-NoSuch.ensures.cause in
    ap (option_map (λ n. n % 2 ^ 64)) (lost_none c.args.ty.now c.args.indices.now _ _ (c.as_slice.ensures ∙ c.in_ok-walked.ensures) lost)
