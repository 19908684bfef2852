use Rattle.std.proofs.Common.{arith}
use Rattle.demand_table.proofs.Shown.{test_past, test_is}
use Rattle.demand_table.proofs.pass.Pass.is_known.Goals as goal

pub returns-then-place-len : goal.returns-then-place-len
returns-then-place-len c = let h = c.if-place-len.true in let e = c.len.ensures in let ok = c.self.inside.found.ok.0 in test_past _ _ _ _ _ _ c.self.view_is c.self.invariant.1 c.args.place (omega (arith, h, e, ok))

pub returns : goal.returns
returns c = let lt = c.if-place-len.false in let e = c.len.ensures in let ok = c.self.inside.found.ok.0 in test_is _ _ _ _ _ _ c.self.view_is c.self.invariant.1 c.args.place c.index.result.now (omega (arith, lt, e, ok)) c.index.ensures
