use Rattle.std.proofs.Common.{◌≡◌, All, subst, sym, List}
use Rattle.table_rule.specs.Views.{counted}
use Rattle.demand_table.specs.Passes.{PassView}
use Rattle.table_bench.proofs.Passes.{all_fresh}
use Rattle.table_bench.proofs.shared.round.Goals as goal

pub passes_of-requires : goal.passes_of-requires
passes_of-requires g c = record {
  belongs = subst (λ (l : List PassView). All (λ (pass : PassView). pass.table ≡ c.in_ok-table.table.id) l) (sym c.in_ok-table.ensures.passes) (all_fresh c.in_ok-table.table.id c.args.workers (counted 0 c.args.workers));
}
