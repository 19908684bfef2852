-- The left program beside the original: equally many calls run, each of what its ask is left as, with what is left of
-- its instructions, and the same values at the new numbers.
use Rattle.std.specs.Prelude.{ℕ, List, [], ◌∷◌, map, slice_get, Option, None, Some, if◌then◌else◌}
use Rattle.ir_syntax.specs.declared.body.Inst.{Inst}
use Rattle.ir_syntax.specs.declared.item.Item.{Item}
use Rattle.straight_plan.specs.declared.fact.Fact.{Fact}
use Rattle.straight_plan.specs.declared.cut.Ask.{Ask}
use Rattle.straight_plan.specs.declared.cut.Cut.{Cut}
use Rattle.straight_plan.specs.Folding.{fact_at}
use Rattle.straight_plan.specs.Residual as residual
use Rattle.straight_plan.specs.Asked.{insts_at}
use Rattle.straight_plan.specs.Left.{asks_of, place_of, left_params, left_from, left_term}
use Rattle.straight_meaning.specs.declared.session.Root.{Root}
use Rattle.straight_meaning.specs.State.{Frame, State, Register}
use Rattle.straight_meaning.specs.Run.{Moment}
use Rattle.straight_meaning.specs.Kept.{facts_of}

abbrev pub cut_of : List Cut → Ask → Cut
cut_of plan ask = record { ask = ask; facts = facts_of plan ask }

-- the instruction of a body at a place
abbrev pub stays_at : List Fact → List Inst → ℕ → Option Inst → List Register → Register → List Register
stays_at facts insts k None more r = more
stays_at facts insts k (Some i) more r = if residual.stays (fact_at (slice_get facts k)) i then (residual.stay_count facts 0 k insts, r.1) ∷ more else more

-- the registers whose instructions are left, by their new numbers
abbrev pub left_registers : List Fact → List Inst → List Register → List Register
left_registers facts insts [] = []
left_registers facts insts (r ∷ rs) = stays_at facts insts r.0 (slice_get insts r.0) (left_registers facts insts rs) r

-- The number of the first instruction that is left to run: a call that waits for another is at the call.
abbrev pub left_frame : List Item → Ask → List Cut → Ask → ℕ → Frame → Frame
left_frame items start plan ask at f =
    let cut = cut_of plan ask in
    let insts = insts_at (slice_get items ask.place) in
    record f {
      func = place_of (asks_of plan) ask;
      rest = left_from items (asks_of plan) start cut insts at f.rest;
      last = left_term start cut insts f.last;
      args = left_params start ask f.args;
      registers = left_registers cut.facts insts f.registers;
      next = residual.stay_count cut.facts 0 f.next insts;
    }

-- the calls that wait: each is behind the instruction of its next result
abbrev pub left_waiting : List Item → Ask → List Cut → List Ask → List Frame → List Frame
left_waiting items start plan [] fs = []
left_waiting items start plan (ask ∷ running) [] = []
left_waiting items start plan (ask ∷ running) (f ∷ fs) = left_frame items start plan ask (ℕ.suc f.next) f ∷ left_waiting items start plan running fs

abbrev pub left_frames : List Item → Ask → List Cut → List Ask → List Frame → List Frame
left_frames items start plan [] fs = []
left_frames items start plan (ask ∷ running) [] = []
left_frames items start plan (ask ∷ running) (f ∷ fs) = left_frame items start plan ask f.next f ∷ left_waiting items start plan running fs

abbrev pub left_state : List Item → Ask → List Cut → List Ask → State → State
left_state items start plan running s = record s { frames = left_frames items start plan running s.frames }

abbrev pub left_root : Ask → List Cut → Root → Root
left_root start plan r = record r { func = record r.func { item = place_of (asks_of plan) start } }

-- The matching moment of a run: the trace, the phase, the memory and the replies to come are the same. It has made as
-- many steps as stay.
abbrev pub left_moment : List Item → Ask → List Cut → List Ask → ℕ → Moment → Moment
left_moment items start plan running steps x = record x { state = left_state items start plan running x.state; roots = map (left_root start plan) x.roots; steps = steps }
