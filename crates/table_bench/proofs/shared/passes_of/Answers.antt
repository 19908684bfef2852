use Rattle.std.proofs.Common.{◌≡◌, All, subst, sym, List}
use Rattle.demand_table.specs.Passes.{PassView}
use Rattle.table_bench.proofs.Passes.{all_front, all_last, all_snoc}
use Rattle.table_bench.proofs.shared.passes_of.Goals as goal

pub loop-preserved : goal.loop-preserved
loop-preserved c =
    let P = λ (pass : PassView). pass.table ≡ c.args.table.now.id in
    let all = subst (λ (l : List PassView). All (λ (pass : PassView). pass.table ≡ c.args.table.now.id) l) c.in-Some.ensures c.loop.invariant.0 in (
      all_front P _ c.in-Some.pass all,
      subst (λ (l : List PassView). All (λ (pass : PassView). pass.table ≡ c.args.table.now.id) l) (sym c.in_ok-push.ensures.items) (all_snoc P _ c.in-Some.pass c.loop.invariant.1 (all_last P _ c.in-Some.pass all)),
    )
