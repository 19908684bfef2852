use Rattle.std.proofs.Common.{arith, ap, ◌∙◌, ◌<◌, ◌≤◌, ◌+◌, ◌∷◌, ℕ, List}
use Rattle.std.specs.Prelude.{Option}
use Rattle.table_rule.specs.declared.view.View.{View}
use Rattle.demand_table.specs.Answers.{place_of}
use Rattle.demand_table.proofs.Seeking.{later_knows, later_empty, later_trans, later_published, booked_later, clear_later}
use Rattle.demand_table.proofs.Filling.{ready, published_slot, published_row, published_made}
use Rattle.demand_table.proofs.pass.Pass.try_slot.Goals as goal

pub returns-in-Some-clause-later : goal.returns-in-Some-clause-later
returns-in-Some-clause-later c = later_knows _ _ _ _ c.in-Some.ensures.named

pub returns-in_default-row_at_hand-clause-later : goal.returns-in_default-row_at_hand-clause-later
returns-in_default-row_at_hand-clause-later c = later_trans _ _ _ (later_empty _ _ _ c.in_default.ensures.empty) c.row_at_hand.ensures.later.0

pub fill-requires-clause-booked : goal.fill-requires-clause-booked
fill-requires-clause-booked c = booked_later _ _ _ _ _ (later_trans _ _ _ (later_empty _ _ _ c.in_default.ensures.empty) c.row_at_hand.ensures.later.0) c.requires.booked

pub publish_at-requires-clause-ready : goal.publish_at-requires-clause-ready
publish_at-requires-clause-ready c =
    let f = c.fill.ensures.fills in
    let l = later_trans _ _ _ (later_trans _ _ _ (later_empty _ _ _ c.in_default.ensures.empty) c.row_at_hand.ensures.later.0) f.later in
    let chain = c.requires.chain in
    (f.ws, c.args.words.now, chain.0, c.args.booking.maker, place_of c.args.booking.parent, f.held, ready _ _ _ _ _ _ _ c.args.words.now c.requires.few f (booked_later _ _ _ _ _ l c.requires.booked), chain.1, clear_later _ _ _ _ l chain.2)

pub returns-in-None-clause-later : goal.returns-in-None-clause-later
returns-in-None-clause-later c =
    let f = c.fill.ensures.fills in
    let l = later_trans _ _ _ (later_trans _ _ _ (later_empty _ _ _ c.in_default.ensures.empty) c.row_at_hand.ensures.later.0) f.later in
    let p = c.in-None.ensures.placed c.args.booking.maker (place_of c.args.booking.parent) f.ws c.args.words.now f.held (ready _ _ _ _ _ _ _ c.args.words.now c.requires.few f (booked_later _ _ _ _ _ l c.requires.booked)) in
    later_trans _ _ _ l (later_published _ _ _ _ _ _ p)

pub returns-in-None-clause-placed : goal.returns-in-None-clause-placed
returns-in-None-clause-placed c =
    let f = c.fill.ensures.fills in
    let l = later_trans _ _ _ (later_trans _ _ _ (later_empty _ _ _ c.in_default.ensures.empty) c.row_at_hand.ensures.later.0) f.later in
    let p = c.in-None.ensures.placed c.args.booking.maker (place_of c.args.booking.parent) f.ws c.args.words.now f.held (ready _ _ _ _ _ _ _ c.args.words.now c.requires.few f (booked_later _ _ _ _ _ l c.requires.booked)) in
    let lt = c.requires.slot in
    let lo : 0 < c.args.slot + 1 = omega arith in
    let hi : c.args.slot + 1 ≤ 131072 = omega (arith, lt) in
    let made = c.row_at_hand.ensures.later.1 ∙ ap (λ (z : View). z.made) c.in_default.ensures.empty in (
      published_slot _ _ _ _ _ _ _ c.args.words.now c.requires.few f _ _ p lo hi,
      published_row _ _ _ _ _ _ _ c.args.words.now c.requires.few f _ _ p lo hi,
      published_made _ _ _ _ _ _ _ c.args.words.now c.requires.few f _ _ p lo hi ∙ ap (λ (z : List (ℕ × (ℕ × Option ℕ))). (c.in-Some-row_at_hand.held.number, (c.args.booking.maker, place_of c.args.booking.parent)) ∷ z) made,
    )

pub returns-in-Some-publish_at-clause-later : goal.returns-in-Some-publish_at-clause-later
returns-in-Some-publish_at-clause-later c =
    let f = c.fill.ensures.fills in
    let l = later_trans _ _ _ (later_trans _ _ _ (later_empty _ _ _ c.in_default.ensures.empty) c.row_at_hand.ensures.later.0) f.later in
    later_trans _ _ _ l (later_knows _ _ _ _ c.in-Some-publish_at.ensures.named)
