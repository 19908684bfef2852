use Rattle.program_loader.proofs.Judgements.{judged_all, bad_byte, not_in_subset}
use Rattle.program_loader.proofs.judging.judge.Goals as goal

pub check-requires : goal.check-requires
check-requires c = c.what_is_spelled_is_formed.ensures c.args.text.now c.in-Ok.module c.in-Ok.ensures.spelled

pub returns-in-Ok : goal.returns-in-Ok
returns-in-Ok c = judged_all c.args.file.now c.args.text.now c.in-Ok.module c.check.result c.in-Ok.ensures.spelled c.check.ensures

pub returns-in_ok-refusal-in-Err-BadByte : goal.returns-in_ok-refusal-in-Err-BadByte
returns-in_ok-refusal-in-Err-BadByte c =
    bad_byte c.args.file.now c.args.text.now c.in-Err-BadByte.field-0 c.in-Err-BadByte.at c.in_ok-refusal-in-Err-BadByte.refusal c.in-Err-BadByte.ensures.refused c.in-Err-BadByte.field-0-is
    c.in_ok-refusal-in-Err-BadByte.ensures

pub returns-in_ok-refusal-in-Err-NotInSubset : goal.returns-in_ok-refusal-in-Err-NotInSubset
returns-in_ok-refusal-in-Err-NotInSubset c =
    not_in_subset c.args.file.now c.args.text.now c.in-Err-NotInSubset.field-0 c.in-Err-NotInSubset.entity c.in_ok-refusal-in-Err-NotInSubset.refusal c.in-Err-NotInSubset.ensures.refused c.in-Err-NotInSubset.field-0-is
    c.in_ok-refusal-in-Err-NotInSubset.ensures
