use Rattle.occam_tool.proofs.Endings.{can_end, no_write, no_done, fault_can_end, manifest_ends, module_ends, planned_ends, written_ends}
use Rattle.occam_tool.proofs.winnowing.winnow.Goals as goal

pub returns-in-Err-clause-answer : goal.returns-in-Err-clause-answer
returns-in-Err-clause-answer g c = λ f.
    manifest_ends (g.S.Shelf.files c.args.shelf.now) (g.S.Shelf.files c.read_plan.new.shelf) c.args.job.now.manifest c.args.job.now.outdir c.in-Err.refusal
    c.in-Err.ensures.gives c.in-Err.ensures.alone.files f

pub returns-in-Err-clause-codes : goal.returns-in-Err-clause-codes
returns-in-Err-clause-codes g c = can_end c.in-Err.refusal.code c.in-Err.ensures.codes

pub returns-in-Err-clause-write_fault : goal.returns-in-Err-clause-write_fault
returns-in-Err-clause-write_fault g c = λ e. absurd (no_write c.in-Err.refusal.code c.in-Err.ensures.codes e)

pub returns-in-Err-read_module-clause-answer : goal.returns-in-Err-read_module-clause-answer
returns-in-Err-read_module-clause-answer g c = λ f.
    module_ends (g.S.Shelf.files c.args.shelf.now) (g.S.Shelf.files c.read_plan.new.shelf) (g.S.Shelf.files c.read_module.new.shelf) c.args.job.now.manifest c.args.job.now.outdir c.in-Ok.plan
    c.in-Err-read_module.refusal c.in-Ok.ensures.gives c.in-Ok.ensures.alone.files c.in-Err-read_module.ensures.gives c.in-Err-read_module.ensures.alone.files f

pub returns-in-Err-read_module-clause-codes : goal.returns-in-Err-read_module-clause-codes
returns-in-Err-read_module-clause-codes g c = can_end c.in-Err-read_module.refusal.code c.in-Err-read_module.ensures.codes

pub returns-in-Err-read_module-clause-write_fault : goal.returns-in-Err-read_module-clause-write_fault
returns-in-Err-read_module-clause-write_fault g c = λ e. absurd (no_write c.in-Err-read_module.refusal.code c.in-Err-read_module.ensures.codes e)

pub returns-in-Ok-put_output-clause-answer : goal.returns-in-Ok-put_output-clause-answer
returns-in-Ok-put_output-clause-answer g c = λ f.
    written_ends (g.S.Shelf.files c.args.shelf.now) (g.S.Shelf.files c.read_plan.new.shelf) (g.S.Shelf.files c.read_module.new.shelf) (g.S.Shelf.files c.put_output.new.shelf)
    c.args.job.now.manifest c.args.job.now.outdir c.as_slice.result.now c.as_slice-2.result.now c.in-Ok.plan c.in-Ok-read_module.module c.in-Ok-leave.left
    c.in-Ok.ensures.gives c.in-Ok.ensures.alone.files c.in-Ok-read_module.ensures.gives c.in-Ok-read_module.ensures.alone.files c.as_slice.ensures c.as_slice-2.ensures c.in-Ok-leave.ensures c.in-Ok-put_output.ensures.gives

pub returns-in-Err-clause-never_done : goal.returns-in-Err-clause-never_done
returns-in-Err-clause-never_done g c = no_done c.in-Err.refusal.code c.in-Err.ensures.codes

pub returns-in-Err-read_module-clause-never_done : goal.returns-in-Err-read_module-clause-never_done
returns-in-Err-read_module-clause-never_done g c = no_done c.in-Err-read_module.refusal.code c.in-Err-read_module.ensures.codes

pub returns-in-Err-leave-clause-answer : goal.returns-in-Err-leave-clause-answer
returns-in-Err-leave-clause-answer g c = λ f.
    planned_ends (g.S.Shelf.files c.args.shelf.now) (g.S.Shelf.files c.read_plan.new.shelf) (g.S.Shelf.files c.read_module.new.shelf) c.args.job.now.manifest c.args.job.now.outdir
    c.as_slice.result.now c.as_slice-2.result.now c.in-Ok.plan c.in-Ok-read_module.module c.in-Err-leave.fault c.unplanned.result
    c.in-Ok.ensures.gives c.in-Ok.ensures.alone.files c.in-Ok-read_module.ensures.gives c.in-Ok-read_module.ensures.alone.files c.as_slice.ensures c.as_slice-2.ensures c.in-Err-leave.ensures c.unplanned.ensures f

pub returns-in-Err-leave-clause-codes : goal.returns-in-Err-leave-clause-codes
returns-in-Err-leave-clause-codes g c = fault_can_end c.in-Err-leave.fault c.unplanned.result c.unplanned.ensures
