use Rattle.std.proofs.Common.{◌≡◌, All}
use Rattle.demand_table.specs.Passes.{PassView}
use Rattle.table_bench.proofs.shared.passes_of.Given as goal

abbrev pub invariant-loop : goal.invariant-loop
invariant-loop l = All (λ (pass : PassView). pass.table ≡ l.table.id) l.given × All (λ (pass : PassView). pass.table ≡ l.table.id) l.passes.items
