use Rattle.std.proofs.Common.{arith, refl, subst, ◌∙◌, ◌≡◌, ◌+◌, ◌*◌, ℕ, length}
use Rattle.demand_table.specs.Seeking.{Fills}
use Rattle.demand_table.proofs.Seeking.{later_writes}
use Rattle.demand_table.proofs.Filling.{held_writes, fills_none, fills_more}
use Rattle.demand_table.proofs.pass.Pass.fill.Goals as goal

pub write-requires-2-clause-row : goal.write-requires-2-clause-row
write-requires-2-clause-row c =
    let h = c.requires.held in
    let lt = h.0 in
    let same = (later_writes _ _ _ _ _ c.write.ensures.written).limit in
    (omega (arith, lt, same), (_, held_writes _ _ _ _ _ _ _ c.write.ensures.written h.1.1))

pub loop-i-init : goal.loop-i-init
loop-i-init c =
    let h = c.requires.held.1 in
    (c.write-2.ensures.table ∙ c.write.ensures.table, fills_none _ _ _ _ _ _ _ c.args.words.now h.0 h.1 (c.write.ensures.long h.0 h.1) c.write.ensures.written c.write-2.ensures.written)

pub write-requires-in-loop-i-clause-belongs : goal.write-requires-in-loop-i-clause-belongs
write-requires-in-loop-i-clause-belongs c = c.loop-i.invariant.0 ∙ c.requires.belongs

pub write-requires-in-loop-i-clause-row : goal.write-requires-in-loop-i-clause-row
write-requires-in-loop-i-clause-row c =
    let f = c.loop-i.invariant.1 in
    let lt = c.requires.held.0 in
    let same = f.later.limit in
    (omega (arith, lt, same), (f.ws, f.held))

pub loop-i-preserved : goal.loop-i-preserved
loop-i-preserved c =
    let lt = c.loop-i-test.true in
    let few = c.requires.few in
    (c.write-in-loop-i.ensures.table ∙ c.loop-i.invariant.0, fills_more c.loop-i.i _ _ _ _ _ _ _ _ c.args.words.now c.loop-i.invariant.1 (omega (arith, lt, few)) refl c.write-in-loop-i.ensures.written)

pub returns-clause-table : goal.returns-clause-table
returns-clause-table c = c.loop-i.invariant.0

pub returns-clause-fills : goal.returns-clause-fills
returns-clause-fills c =
    let le = c.loop-i-test.false in
    let up = c.loop-i.auto.i-end in
    let e : c.loop-i.i ≡ length c.args.words.now = omega (arith, le, up) in
    subst (λ (z : ℕ × ℕ). Fills z.0 c.args.self.now.seen c.loop-i.self.seen c.args.held.worker c.args.held.number (64 * c.args.booking.generation + length c.args.words.now) (c.args.booking.maker + 64 * z.1) c.args.words.now)
    (λ i. (e i, c.named_by.ensures i)) c.loop-i.invariant.1
