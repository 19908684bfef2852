use Rattle.std.proofs.Common.{arith, ap, subst, ◌∙◌, ◌+◌, ◌%◌, ℕ, List}
use Rattle.table_rule.specs.Layout.{Has}
use Rattle.table_rule.specs.Tells.{KnowsRow}
use Rattle.demand_table.proofs.Booking.{on_true, on_false}
use Rattle.demand_table.proofs.Seeking.{slot_is, slot_named, slot_later, later_trans, later_learned, made_learned, booked_later, seek_more}
use Rattle.demand_table.proofs.pass.Pass.insert.Goals as goal

pub overflow_add-home : goal.overflow_add-home
overflow_add-home c = let low = c.home_of-home.ensures.low in let lt = c.loop-i-test.true in omega (arith, low, lt)

pub try_slot-requires-clause-chain : goal.try_slot-requires-clause-chain
try_slot-requires-clause-chain c = (c.loop-i.i, ap (λ (h : ℕ). (h + c.loop-i.i) % 131072 + 1) c.home_of-home.ensures.home ∙ slot_is c.words-words.result.now c.loop-i.i, c.loop-i.invariant.1.clear)

pub has_words-requires-clause-known : goal.has_words-requires-clause-known
has_words-requires-clause-known c =
    slot_named c.try_slot.new.self.seen c.words-words.result.now c.loop-i.i c.in-Named.place _ (ap (λ (h : ℕ). (h + c.loop-i.i) % 131072 + 1) c.home_of-home.ensures.home ∙ slot_is c.words-words.result.now c.loop-i.i) c.in-Named.ensures.named.0

pub returns-then-has_words-clause-later : goal.returns-then-has_words-clause-later
returns-then-has_words-clause-later c = later_trans _ _ _ c.loop-i.invariant.1.later (later_trans _ _ _ c.try_slot.ensures.later (later_learned _ _ c.has_words.ensures.learned))

pub returns-then-has_words-clause-there : goal.returns-then-has_words-clause-there
returns-then-has_words-clause-there c =
    let known = slot_named c.try_slot.new.self.seen c.words-words.result.now c.loop-i.i c.in-Named.place _ (ap (λ (h : ℕ). (h + c.loop-i.i) % 131072 + 1) c.home_of-home.ensures.home ∙ slot_is c.words-words.result.now c.loop-i.i) c.in-Named.ensures.named.0 in (
      slot_later _ _ _ (later_learned _ _ c.has_words.ensures.learned) known,
      subst (λ (z : List ℕ). KnowsRow c.has_words.new.self.seen c.in-Named.place z) c.words-words.ensures.words (on_true _ _ _ c.has_words.ensures.told c.if-has_words.true),
      made_learned _ _ c.has_words.ensures.learned ∙ (c.in-Named.ensures.named.1 ∙ c.loop-i.invariant.1.made),
    )

pub loop-i-preserved : goal.loop-i-preserved
loop-i-preserved c =
    let lt = c.loop-i-test.true in
    let s = c.loop-i.invariant.1 in
    let slot = ap (λ (h : ℕ). (h + c.loop-i.i) % 131072 + 1) c.home_of-home.ensures.home in (
      c.has_words.ensures.table ∙ (c.try_slot.ensures.table ∙ c.loop-i.invariant.0),
      seek_more _ _ _ _ c.words-words.result.now c.loop-i.i c.in-Named.place s c.try_slot.ensures.later c.in-Named.ensures.named.1 (subst (λ (z : ℕ). Has c.try_slot.new.self.seen.known (z, c.in-Named.place + 1)) slot c.in-Named.ensures.named.0) c.has_words.ensures.learned
          (on_false _ _ _ c.has_words.ensures.told c.if-has_words.false) (c.try_slot.ensures.crowd c.words-words.result.now c.loop-i.i (omega (arith, lt)) s.clear),
      booked_later _ _ _ _ _ (later_trans _ _ _ c.try_slot.ensures.later (later_learned _ _ c.has_words.ensures.learned)) c.loop-i.invariant.2,
    )

pub unreachable-requires : goal.unreachable-requires
unreachable-requires c =
    let le = c.loop-i-test.false in
    let s = c.loop-i.invariant.1 in
    let few = s.few in
    let same = s.later.limit in
    let low = c.booking-booking.ensures.few in
    omega (arith, le, few, same, low)
