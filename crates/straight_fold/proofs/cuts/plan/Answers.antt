use denote.Param.Send.{sendable}
use Rattle.std.proofs.Common.{◌≡◌, ◌∙◌, ◌^◌, ◌<◌, ℕ, List, [], ◌∷◌, map, Result, Err, ap, sym, subst}
use Rattle.std.specs.List.Sorted.{IsPermutation}
use Rattle.ir_types.specs.declared.scalar.Known.{Known}
use Rattle.fixed_point.specs.declared.fault.FixFault.{FixFault}
use Rattle.fixed_point.specs.declared.fault.FixFault.TheVariants.{TooManyDemands, TooMuchCode}
use Rattle.fixed_point.specs.Needs.{AreAllNeeded, NeedsMoreThan, WeighsMoreThan}
use Rattle.straight_plan.specs.Left.{IsPlanned}
use Rattle.straight_fold.specs.declared.piece.Found.{Found}
use Rattle.straight_fold.specs.Expansion.{row_needs, row_size}
use Rattle.std.specs.Prelude.{slice_get}
use Rattle.ir_syntax.specs.declared.item.Item.{Item}
use Rattle.demands.specs.Demands.{IsFunctionFor}
use Rattle.straight_plan.specs.declared.cut.Ask.{Ask}
use Rattle.straight_plan.specs.Asked.{program_items, root}
use Rattle.straight_fold.specs.Calls.{row_of}
use Rattle.straight_fold.proofs.Reading.{short-place}
use Rattle.straight_fold.proofs.Roots.{root-good, root-place}
use Rattle.straight_fold.proofs.Programs.{program-many, program-much, program-planned}
use Rattle.straight_fold.proofs.Shared.{program-sync}
use Rattle.straight_fold.proofs.cuts.plan.Goals as goal

pub least-requires-sync-E : goal.least-requires-sync-E
least-requires-sync-E c κs = search (sendable, program-sync) depth 20

pub root_in-requires-clause-few : goal.root_in-requires-clause-few
root_in-requires-clause-few c =
    (short-place c.items_of.result.now c.args.place c.args.args.now c.items_of.ensures.straight
    (subst (λ (items : List Item). IsFunctionFor c.args.args.now (slice_get items c.args.place)) (sym c.items_of.ensures.items) c.requires.entry)).0

pub row_at-requires : goal.row_at-requires
row_at-requires c =
    let short = (short-place c.items_of.result.now c.args.place c.args.args.now c.items_of.ensures.straight
    (subst (λ (items : List Item). IsFunctionFor c.args.args.now (slice_get items c.args.place)) (sym c.items_of.ensures.items) c.requires.entry)).1 in
    let same : c.in_ok-root.root.place ≡ c.args.place = ap (λ (ask : Ask). ask.place) c.in_ok-root.ensures ∙ root-place c.items_of.result.now c.args.place c.args.args.now in
    record { short = subst (λ (place : ℕ). place < 2 ^ 32) (sym same) short }

-- what holds for the row that was asked for holds for the root's
at-root : (P : List (List ℕ) → Type 0) (row : List ℕ) (ask start : Ask) → row ≡ row_of ask → ask ≡ start → P (row ∷ []) → P (row_of start ∷ [])
at-root P row ask start is same h = subst P (λ i. (is ∙ ap row_of same) i ∷ []) h

root-same : (items others : List Item) (place : ℕ) (args : List Known) (ask : Ask) → ask ≡ root items place args → items ≡ others → ask ≡ root others place args
root-same items others place args ask is same = is ∙ ap (λ (items : List Item). root items place args) same

fault-same : {A : Type 0} (x y : FixFault) → ◌≡◌ {A = Result A FixFault} (Err x) (Err y) → x ≡ y
fault-same x y e = cc

pub returns-in-Err-clause-too_many : goal.returns-in-Err-clause-too_many
returns-in-Err-clause-too_many c is =
    let modules = c.args.program.now in
    let start = root (program_items modules) c.args.place c.args.args.now in
    let same = root-same c.items_of.result.now (program_items modules) c.args.place c.args.args.now c.in_ok-root.root c.in_ok-root.ensures c.items_of.ensures.items in
    program-many (record { found = c.rows_are_read.ensures.found; all = c.rows_are_read.ensures.all }) c.demands_are_ordered.ensures.equal c.rows_are_needed_in_any_order.ensures modules start c.items_of.ensures.program (root-good (program_items modules) c.args.place c.args.args.now c.requires.entry)
    (at-root (λ roots. NeedsMoreThan (row_needs modules) roots 65536) c.row_at.result c.in_ok-root.root start c.row_at.ensures same
    (c.in-Err.ensures.too_many (ap Err (fault-same c.in-Err.fault TooManyDemands is))))

pub returns-in-Err-clause-too_much : goal.returns-in-Err-clause-too_much
returns-in-Err-clause-too_much c is =
    let modules = c.args.program.now in
    let start = root (program_items modules) c.args.place c.args.args.now in
    let same = root-same c.items_of.result.now (program_items modules) c.args.place c.args.args.now c.in_ok-root.root c.in_ok-root.ensures c.items_of.ensures.items in
    let fault = ap Err (fault-same c.in-Err.fault TooMuchCode is) in
    program-much (record { found = c.rows_are_read.ensures.found; all = c.rows_are_read.ensures.all }) c.demands_are_ordered.ensures.equal c.rows_are_needed_in_any_order.ensures modules start c.items_of.ensures.program (root-good (program_items modules) c.args.place c.args.args.now c.requires.entry)
    (at-root (λ roots. WeighsMoreThan (row_needs modules) (row_size modules) roots 8388608) c.row_at.result c.in_ok-root.root start c.row_at.ensures same (c.in-Err.ensures.too_much fault))
    (at-root (λ roots. NeedsMoreThan (row_needs modules) roots 65536 → ⊥) c.row_at.result c.in_ok-root.root start c.row_at.ensures same (c.in-Err.ensures.too_much_of_few fault))

pub returns-clause-planned : goal.returns-clause-planned
returns-clause-planned c =
    let modules = c.args.program.now in
    let items = program_items modules in
    let start = root items c.args.place c.args.args.now in
    let same = root-same c.items_of.result.now items c.args.place c.args.args.now c.in_ok-root.root c.in_ok-root.ensures c.items_of.ensures.items in
    let pairs = c.in-Ok.pairs in
    let sorted = c.in_ok-found.found.items in
    let needed = at-root (λ roots. AreAllNeeded (row_needs modules) roots (map (λ pair. pair.0) pairs)) c.row_at.result c.in_ok-root.root start c.row_at.ensures same c.in-Ok.ensures.rows in
    let moved = subst (λ (found : List Found). IsPermutation found sorted) c.in_ok-functions_of.ensures c.in_ok-found.ensures.same in
    subst (IsPlanned items start) (sym c.in_ok-cuts_of.ensures)
    (program-planned (record { found = c.rows_are_read.ensures.found; all = c.rows_are_read.ensures.all }) c.demands_are_ordered.ensures.equal c.rows_are_needed_in_any_order.ensures modules start pairs sorted c.items_of.ensures.program (root-good items c.args.place c.args.args.now c.requires.entry)
    needed c.in-Ok.ensures.pieces c.in-Ok.ensures.few c.in-Ok.ensures.small moved c.in_ok-found.ensures.order)
