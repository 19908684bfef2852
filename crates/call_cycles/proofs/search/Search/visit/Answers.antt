use Rattle.std.proofs.Common.{◌≡◌, Some, subst}
use Rattle.std.specs.Prelude.{slice_get}
use Rattle.std.proofs.lemmas.Option.{none-some}
use Rattle.call_cycles.proofs.Lists.{within}
use Rattle.call_cycles.proofs.Steps.{enter_search, enter_fewer, enter_not_fresh}
use Rattle.call_cycles.proofs.search.Search.visit.Goals as goal

pub walk-requires-clause-search : goal.walk-requires-clause-search
walk-requires-clause-search c =
    let e = c.in_ok-enter-in-Fresh.ensures in
    enter_search c.args.graph.now c.args.self.now.marks c.enter.new.self.marks c.args.self.now.next c.enter.new.self.next c.args.self.now.stack.items c.enter.new.self.stack.items
    c.args.self.now.bounds c.enter.new.self.bounds c.args.self.now.waiting c.enter.new.self.waiting c.args.node
    (record { marks_are = e.marks; next_are = e.next; stack_is = e.stack; bounds_are = e.bounds; waiting_are = e.waiting })
    c.requires.search c.in-Fresh.ensures (λ j u at. absurd (none-some u (subst (λ l. slice_get l j ≡ Some u) c.requires.none at)))

pub returns-in_ok-walk-in-Fresh-clause-fewer : goal.returns-in_ok-walk-in-Fresh-clause-fewer
returns-in_ok-walk-in-Fresh-clause-fewer c =
    let e = c.in_ok-enter-in-Fresh.ensures in
    λ u at. enter_fewer c.args.self.now.marks c.enter.new.self.marks c.args.self.now.next c.enter.new.self.next c.args.self.now.stack.items c.enter.new.self.stack.items
    c.args.self.now.bounds c.enter.new.self.bounds c.args.self.now.waiting c.enter.new.self.waiting c.args.node
    (record { marks_are = e.marks; next_are = e.next; stack_is = e.stack; bounds_are = e.bounds; waiting_are = e.waiting })
    (within c.args.self.now.marks c.args.node _ c.in-Fresh.ensures) u (c.in_ok-walk-in-Fresh.ensures.fewer u at)

pub returns-in_ok-walk-in-Fresh-clause-visited : goal.returns-in_ok-walk-in-Fresh-clause-visited
returns-in_ok-walk-in-Fresh-clause-visited c =
    λ at. enter_not_fresh c.args.self.now.marks c.enter.new.self.marks c.args.self.now.stack.items c.args.node (within c.args.self.now.marks c.args.node _ c.in-Fresh.ensures) c.in_ok-enter-in-Fresh.ensures.marks
    (c.in_ok-walk-in-Fresh.ensures.fewer c.args.node at)
