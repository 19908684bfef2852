use Rattle.std.proofs.lemmas.Result.{IfOk-weaker}
use Rattle.specialise.specs.Pieces.{IsExpansion}
use Rattle.specialise.specs.Mirrors.Expander.{Expands}
use Rattle.specialise.proofs.Rows.{row_expands}
use Rattle.specialise.proofs.expander.ExpanderExpand.expand.Goals as goal

pub returns-in-Ok : goal.returns-in-Ok
returns-in-Ok c =
    IfOk-weaker c.expanded.result (IsExpansion c.args.self.now.program.now c.args.self.now.cycles c.in-Ok.demand) (Expands c.args.self.now.program.now c.args.self.now.cycles c.args.row.now)
    (λ piece h. row_expands c.args.self.now.program.now c.args.self.now.cycles c.args.row.now c.in-Ok.demand piece c.expanded.ensures.program c.in-Ok.ensures.read c.in-Ok.ensures.found.0 h) c.expanded.ensures.expansion
