use Rattle.std.proofs.Common.{◌≡◌, ◌∙◌, ◌<◌, List, Some, All, length, ap, sym, subst, arith}
use Rattle.std.specs.Prelude.{slice_get}
use Rattle.winnowed_form.specs.declared.member.Member.{Member}
use Rattle.winnowed_form.specs.Winnowed.{IsWinnowedModule}
use Rattle.reach_prune.specs.Mirrors.Members.{IsWritable}
use Rattle.reach_prune.specs.Mirrors.Shown.{shown}
use Rattle.reach_prune.proofs.Splitting.{slice_at, made_more, made_whole}
use Rattle.reach_prune.proofs.assembling.winnowed_modules.Goals as goal

pub winnowed_module-requires : goal.winnowed_module-requires
winnowed_module-requires c =
    let within : c.loop-home.home < length c.args.lists.now = omega (arith, c.loop-home-test.true, c.requires.long, ap length c.modules-module-items.ensures.modules) in
    record {
      writable = subst (All (IsWritable (shown c.args.g.now) c.loop-home.home)) (sym c.as_slice.ensures)
          (c.requires.writable c.loop-home.home c.index-lists-home.result (slice_at c.args.lists.now c.loop-home.home c.index-lists-home.result within c.index-lists-home.is));
    }

pub loop-home-preserved : goal.loop-home-preserved
loop-home-preserved c =
    let within : c.loop-home.home < length c.args.lists.now = omega (arith, c.loop-home-test.true, c.requires.long, ap length c.modules-module-items.ensures.modules) in
    made_more (shown c.args.g.now) c.args.lists.now c.modules-module-items.result.now c.loop-home.made c.push.new.self c.loop-home.home c.index-lists-home.result c.module-item.result c.in_ok-winnowed_module.field-0 c.loop-home.invariant
    (slice_at c.args.lists.now c.loop-home.home c.index-lists-home.result within c.index-lists-home.is)
    (slice_at c.modules-module-items.result.now c.loop-home.home c.module-item.result c.loop-home-test.true c.module-item.is)
    (subst (λ (l : List Member). IsWinnowedModule (shown c.args.g.now) l c.loop-home.home c.module-item.result c.in_ok-winnowed_module.field-0) c.as_slice.ensures c.in_ok-winnowed_module.ensures) c.in_ok-push.ensures.ok

pub returns : goal.returns
returns c = made_whole (shown c.args.g.now) c.args.lists.now c.modules-module-items.result.now c.args.g.now.program.now.modules c.loop-home.made c.loop-home.home c.modules-module-items.ensures.modules c.loop-home.auto.home-end c.loop-home-test.false c.loop-home.invariant
