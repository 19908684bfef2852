use Rattle.std.proofs.Common.{rules, ◌<◌, length}
use Rattle.program_loader.proofs.Judgements.{first_indefinite, place_within, indefinite}
use Rattle.program_loader.proofs.judging.check_definite.Goals as goal

pub bounds-as_slice-item : goal.bounds-as_slice-item
bounds-as_slice-item c =
    place_within c.args.module.items c.as_slice.result.now c.in-Err-NotDefinite.item
    (first_indefinite c.args.module.items c.in-Err-NotDefinite.field-0 c.in-Err-NotDefinite.item c.in-Err-NotDefinite.ensures.not_definite c.in-Err-NotDefinite.field-0-is) c.as_slice.ensures

pub offset_bounds-as_slice-item : goal.offset_bounds-as_slice-item
offset_bounds-as_slice-item c =
    let within : c.in-Err-NotDefinite.item < length c.as_slice.result.now =
    place_within c.args.module.items c.as_slice.result.now c.in-Err-NotDefinite.item
    (first_indefinite c.args.module.items c.in-Err-NotDefinite.field-0 c.in-Err-NotDefinite.item c.in-Err-NotDefinite.ensures.not_definite c.in-Err-NotDefinite.field-0-is) c.as_slice.ensures in
    search rules

pub returns-in-Err-NotDefinite : goal.returns-in-Err-NotDefinite
returns-in-Err-NotDefinite c =
    indefinite c.args.file.now c.args.module c.as_slice.result.now c.in-Err-NotDefinite.item c.index-as_slice-item.result c.in_ok-refusal-in-Err-NotDefinite.refusal c.requires.typed
    (first_indefinite c.args.module.items c.in-Err-NotDefinite.field-0 c.in-Err-NotDefinite.item c.in-Err-NotDefinite.ensures.not_definite c.in-Err-NotDefinite.field-0-is) c.as_slice.ensures c.index-as_slice-item.is
    c.in_ok-refusal-in-Err-NotDefinite.ensures
