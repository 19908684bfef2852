use Rattle.std.proofs.Common.{subst}
use Rattle.ir_check.specs.declared.fault.TypeFault.{TypeFault}
use Rattle.ir_check.specs.IllTyped.{IsCause}
use Rattle.program_loader.proofs.Judgements.{ill_typed}
use Rattle.program_loader.proofs.judging.check.Goals as goal

pub returns-in-Err-IllTyped : goal.returns-in-Err-IllTyped
returns-in-Err-IllTyped c =
    ill_typed c.args.file.now c.args.module c.as_slice.result.now c.in-Err-IllTyped.item c.index-as_slice-item.result c.in_ok-refusal-in-Err-IllTyped.refusal
    (subst (λ (e : TypeFault). IsCause c.args.module e) c.in-Err-IllTyped.field-0-is c.in-Err-IllTyped.ensures.ill_typed) c.as_slice.ensures c.index-as_slice-item.is c.in_ok-refusal-in-Err-IllTyped.ensures
