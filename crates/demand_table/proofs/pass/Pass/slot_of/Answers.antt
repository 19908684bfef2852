use Rattle.std.proofs.Common.{arith, subst, ◌≡◌, ◌+◌, ◌-◌, ℕ}
use Rattle.table_rule.specs.Layout.{Has}
use Rattle.demand_table.proofs.Shown.{known_at, slot_at}
use Rattle.demand_table.proofs.pass.Pass.slot_of.Goals as goal

pub index-requires : goal.index-requires
index-requires c =
    let k = known_at _ _ _ _ _ _ c.self.view_is c.self.invariant.1 c.args.ticket.place (c.is_known.ensures.0 c.if-not-is_known.false) in
    let lt = k.0 in
    let ok = c.self.inside.found.ok.0 in
    omega (arith, lt, ok)

pub overflow_sub-result : goal.overflow_sub-result
overflow_sub-result c =
    let s = slot_at _ _ _ _ _ _ c.self.view_is c.self.invariant.1 c.args.ticket.place c.index.result.now (c.is_known.ensures.0 c.if-not-is_known.false) c.index.ensures in
    let lo = s.0 in
    omega (arith, lo)

pub returns-clause-some : goal.returns-clause-some
returns-clause-some c =
    let s = slot_at _ _ _ _ _ _ c.self.view_is c.self.invariant.1 c.args.ticket.place c.index.result.now (c.is_known.ensures.0 c.if-not-is_known.false) c.index.ensures in
    let lo = s.0 in
    let hi = s.1 in
    let same : c.index.result.now ≡ c.index.result.now - 1 + 1 = omega (arith, lo) in
    (omega (arith, lo, hi), subst (λ (z : ℕ). Has c.args.self.now.seen.known (z, c.args.ticket.place + 1)) same s.2)
