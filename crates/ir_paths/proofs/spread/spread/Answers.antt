use Rattle.std.proofs.Common.{◌≡◌, length, arith}
use Rattle.std.proofs.lemmas.Nat.Bits.{bit_at_ones}
use Rattle.ir_paths.proofs.Searching.{start_of, goes_on, goes_down, goes_end, no_items}
use Rattle.ir_paths.proofs.spread.spread.Goals as goal

pub loop-place-init : goal.loop-place-init
loop-place-init c =
    start_of c.args.blocks.now c.args.own.now c.args.words.now c.new-next.result.items c.args.order.now c.args.flags.now 18446744073709551615 (c.arrive.new.words, c.arrive.new.flags, c.arrive.new.next.items)
    (c.visit_all.new.words, c.visit_all.new.flags, c.visit_all.new.next.items) c.requires.words c.requires.flags c.new-next.ensures.items c.in_ok-arrive.ensures c.in_ok-visit_all.ensures
    (omega arith) (bit_at_ones 64) (λ k. omega (arith, c.type_inv.own k))

pub loop-place-smaller : goal.loop-place-smaller
loop-place-smaller c =
    goes_down c.args.blocks.now c.args.own.now c.loop-place.words c.loop-place.next.items c.pop.new.self.items c.loop-place.flags c.in-Some.place (c.visit.new.words, c.visit.new.flags, c.visit.new.next.items)
    (λ k. omega (arith, c.type_inv.own k)) c.in-Some.ensures.items c.in_ok-visit.ensures c.loop-place.invariant

pub loop-place-preserved : goal.loop-place-preserved
loop-place-preserved c =
    goes_on c.args.blocks.now c.args.own.now c.loop-place.words c.loop-place.next.items c.pop.new.self.items c.loop-place.flags c.in-Some.place (c.visit.new.words, c.visit.new.flags, c.visit.new.next.items)
    (λ k. omega (arith, c.type_inv.own k)) c.in-Some.ensures.items c.in_ok-visit.ensures c.loop-place.invariant

pub returns : goal.returns
returns c =
    let none : length c.loop-place.next.items ≡ 0 = omega (arith, c.in_default.ensures.cases.0, c.loop-place.next.ok) in
    goes_end c.args.blocks.now c.args.own.now c.loop-place.words c.loop-place.next.items c.loop-place.flags c.loop-place.invariant (no_items c.loop-place.next.items none)
