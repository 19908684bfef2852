-- Which steps stay in what is left of a module, and that it means the same.
use Rattle.std.specs.Prelude.{◌≡◌, ℕ, zero, suc, ◌+◌, max, Bool, true, false, ◌&&◌, List, [], ◌∷◌, length, map, slice_get, Option, Some, None, option_map, option_and_then, unwrap_or, if◌then◌else◌}
use Rattle.ir_syntax.specs.declared.body.Block.{Block}
use Rattle.ir_syntax.specs.declared.body.Body.{Body}
use Rattle.ir_syntax.specs.declared.item.Item.{Item}
use Rattle.ir_syntax.specs.declared.item.Item.TheVariants as item
use Rattle.ir_syntax.specs.declared.item.Module.{Module}
use Rattle.straight_meaning.specs.declared.session.Root.{Root}
use Rattle.straight_meaning.specs.declared.session.Session.{Session}
use Rattle.straight_meaning.specs.declared.session.Event.{Event}
use Rattle.straight_meaning.specs.declared.session.Phase.{Phase}
use Rattle.straight_meaning.specs.declared.session.Run.{Run}
use Rattle.name_table.specs.Places.{place_among}
use Rattle.ir_syntax.specs.FormedBody.{item_name}
use Rattle.ir_syntax.specs.declared.body.Inst.{Inst}
use Rattle.straight_plan.specs.declared.fact.Fact.{Fact}
use Rattle.straight_plan.specs.declared.cut.Ask.{Ask}
use Rattle.straight_plan.specs.declared.cut.Cut.{Cut}
use Rattle.straight_plan.specs.Folding.{fact_at}
use Rattle.straight_plan.specs.Residual.{put_inst}
use Rattle.straight_plan.specs.Residual as residual
use Rattle.straight_plan.specs.Asked.{asks}
use Rattle.straight_plan.specs.Left.{same_ask}
use Rattle.straight_meaning.specs.State.{Frame}
use Rattle.straight_meaning.specs.Run.{Moment, is_running, moment, run}

-- ---- what each call is left as

-- what folding knows of the results of what is asked for
abbrev pub facts_of : List Cut → Ask → List Fact
facts_of [] ask = []
facts_of (cut ∷ cuts) ask = if same_ask cut.ask ask then cut.facts else facts_of cuts ask

-- what the innermost call asks for by its next instruction, where that is a call
abbrev pub asked_next : List Item → List Cut → Ask → List Inst → List Ask
asked_next items plan ask [] = []
asked_next items plan ask (i ∷ is) = asks items (put_inst ask.pattern (facts_of plan ask) i)

-- The asks of the calls that run, after a step: a call puts what it asks for in front, a return takes the first away,
-- and a root is what is asked for from outside.
abbrev pub asks_after_inst : List Ask → List Ask → List Ask
asks_after_inst [] running = running
asks_after_inst (need ∷ needs) running = need ∷ running

abbrev pub or_start : Ask → List Ask → List Ask
or_start start [] = start ∷ []
or_start start (ask ∷ running) = ask ∷ running

abbrev pub asks_after_rest : List Item → Ask → List Cut → Ask → List Ask → List Inst → List Ask
asks_after_rest items start plan ask running [] = or_start start running
asks_after_rest items start plan ask running (i ∷ is) = asks_after_inst (asked_next items plan ask (i ∷ is)) (ask ∷ running)

abbrev pub asks_after : List Item → Ask → List Cut → List Ask → List Frame → List Ask
asks_after items start plan [] frames = start ∷ []
asks_after items start plan (ask ∷ running) [] = start ∷ []
asks_after items start plan (ask ∷ running) (f ∷ fs) = asks_after_rest items start plan ask running f.rest

abbrev pub asks_at : List Item → Ask → List Cut → List Ask → Option Moment → List Ask
asks_at items start plan running None = running
asks_at items start plan running (Some x) = if is_running x.phase then asks_after items start plan running x.state.frames else running

-- for each call that runs after n steps, from the innermost on, what it is a call of
abbrev pub running_asks : Module → Ask → List Cut → Session → ℕ → List Ask
running_asks m start plan s zero = start ∷ []
running_asks m start plan s (suc n) = asks_at m.items start plan (running_asks m start plan s n) (moment m s n)

-- ---- which steps stay

-- Whether the instruction or the terminator that the innermost call is at is left: a terminator is.
abbrev pub rest_stays : List Fact → ℕ → List Inst → Bool
rest_stays facts k [] = true
rest_stays facts k (i ∷ is) = residual.stays (fact_at (slice_get facts k)) i

abbrev pub stays : List Cut → List Ask → List Frame → Bool
stays plan [] frames = true
stays plan (ask ∷ running) [] = true
stays plan (ask ∷ running) (f ∷ fs) = rest_stays (facts_of plan ask) f.next f.rest

-- whether a step begins that stays
abbrev pub keeps : List Cut → List Ask → Option Moment → Bool
keeps plan running None = false
keeps plan running (Some x) = is_running x.phase && stays plan running x.state.frames

-- how many of the first n steps are begun and stay
abbrev pub kept_steps : Module → Ask → List Cut → Session → ℕ → ℕ
kept_steps m start plan s zero = 0
kept_steps m start plan s (suc n) = kept_steps m start plan s n + (if keeps plan (running_asks m start plan s n) (moment m s n) then 1 else 0)

-- ---- the same session of what is left

abbrev pub item_names : Module → List (List ℕ)
item_names m = map item_name m.items

-- the function of the same name in another module
abbrev pub place_in : Module → Module → ℕ → ℕ
place_in m w k = unwrap_or (option_and_then (λ name. place_among name (item_names w)) (slice_get (item_names m) k)) 0

abbrev pub root_in : Module → Module → Root → Root
root_in m w root = record root { func = record root.func { item = place_in m w root.func.item } }

-- the same session, where each root is the function of the same name
abbrev pub session_in : Module → Module → Session → Session
session_in m w s = record s { roots = map (root_in m w) s.roots }

-- what the outside can tell of a run: the trace and the phase
abbrev pub Seen : Type 0
Seen = List Event × Phase

abbrev pub seen : Option Run → Option Seen
seen r = option_map (λ x. (x.trace, x.phase)) r

-- After any number of steps the outside sees the same of both: of the module after n steps, and of what is left of
-- it after those of them that stay.
abbrev pub Agree : Module → Module → Ask → List Cut → Session → Type 0
Agree m w start plan s = (n : ℕ) → seen (run w (session_in m w s) (kept_steps m start plan s n)) ≡ seen (run m s n)

-- instructions with the terminator
abbrev pub block_length : Block → ℕ
block_length block = length block.insts + 1

abbrev pub longest : List Block → ℕ
longest [] = 0
longest (block ∷ blocks) = max (block_length block) (longest blocks)

abbrev pub longest_of_body : Option Body → ℕ
longest_of_body None = 0
longest_of_body (Some body) = longest body.blocks

abbrev pub longest_of_item : Item → ℕ
longest_of_item (item.Var v) = 0
longest_of_item (item.Func f) = longest_of_body f.body

abbrev pub longest_among : List Item → ℕ
longest_among [] = 0
longest_among (i ∷ is) = max (longest_of_item i) (longest_among is)

-- the greatest number of instructions of a block with its terminator
abbrev pub longest_block : Module → ℕ
longest_block m = longest_among m.items
