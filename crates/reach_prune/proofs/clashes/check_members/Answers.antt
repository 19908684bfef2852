use Rattle.std.proofs.Common.{◌≡◌, ◌∙◌, false, [], All, take, subst}
use Rattle.std.proofs.lemmas.List.{take_all}
use Rattle.std.proofs.lemmas.List.Elements.{All-nil}
use Rattle.name_table.specs.Places.{is_among}
use Rattle.winnowed_form.specs.declared.winnowed.ShapeFault.{ShapeFault}
use Rattle.winnowed_form.specs.declared.winnowed.ShapeFault.TheVariants.{NameClash, OutOfMemory}
use Rattle.winnowed_form.specs.Clashes.{AreFree, copy_names}
use Rattle.reach_prune.specs.Mirrors.Shown.{shown}
use Rattle.reach_prune.proofs.Clashing.{copies_next, free_from_new, first_fault}
use Rattle.reach_prune.proofs.clashes.check_members.Goals as goal

pub loop-member-init : goal.loop-member-init
loop-member-init c = All-nil (λ name. is_among name c.args.taken.now ≡ false)

pub loop-member-preserved : goal.loop-member-preserved
loop-member-preserved c =
    copies_next (shown c.args.g.now) c.args.taken.now c.args.members.now c.loop-member.member-index c.member-item.result c.loop-member-test.true c.member-item.is c.loop-member.invariant c.in-Ok.ensures.free

pub returns-in-Err-clause-clash : goal.returns-in-Err-clause-clash
returns-in-Err-clause-clash c =
    first_fault (shown c.args.g.now) c.args.g.now.program.now.modules c.args.taken.now c.args.members.now c.loop-member.member-index c.member-item.result c.in-Err.fault c.requires.have c.loop-member-test.true c.member-item.is c.loop-member.invariant c.in-Err.ensures.taken

pub returns-clause-free : goal.returns-clause-free
returns-clause-free c =
    subst (λ l. AreFree c.args.g.now.program.now.modules (copy_names (shown c.args.g.now) l)) (take_all c.loop-member.member-index c.args.members.now c.loop-member-test.false)
    (free_from_new c.args.g.now.program.now.modules c.args.taken.now (copy_names (shown c.args.g.now) (take c.loop-member.member-index c.args.members.now)) c.requires.have c.loop-member.invariant)
