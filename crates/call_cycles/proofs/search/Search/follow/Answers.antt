use Rattle.call_cycles.proofs.Lists.{within}
use Rattle.call_cycles.proofs.Steps.{enter_search, enter_fewer, enter_settled, enter_stack, enter_left}
use Rattle.call_cycles.proofs.Searching.{joins, joined}
use Rattle.call_cycles.proofs.search.Search.follow.Goals as goal

pub returns-in-Open-clause-search : goal.returns-in-Open-clause-search
returns-in-Open-clause-search c =
    joins c.args.graph.now c.args.self.now.marks c.args.self.now.next c.args.self.now.stack.items c.args.self.now.bounds c.cut.new.bounds c.args.self.now.waiting c.in-Open.at c.args.to c.requires.search c.cut.ensures.cut
    (c.requires.search.opened c.in-Open.at c.args.to c.in-Open.ensures) c.requires.leads

pub returns-in-Open-clause-settled : goal.returns-in-Open-clause-settled
returns-in-Open-clause-settled c =
    joined c.args.self.now.marks c.args.self.now.stack.items c.args.self.now.bounds c.cut.new.bounds c.in-Open.at c.args.to c.args.place c.requires.search.bounds_rise c.cut.ensures.cut c.cut.ensures.last
    (c.requires.search.opened c.in-Open.at c.args.to c.in-Open.ensures)

pub returns-in_ok-enter-in-Fresh-clause-search : goal.returns-in_ok-enter-in-Fresh-clause-search
returns-in_ok-enter-in-Fresh-clause-search c =
    let e = c.in_ok-enter-in-Fresh.ensures in
    enter_search c.args.graph.now c.args.self.now.marks c.enter.new.self.marks c.args.self.now.next c.enter.new.self.next c.args.self.now.stack.items c.enter.new.self.stack.items
    c.args.self.now.bounds c.enter.new.self.bounds c.args.self.now.waiting c.enter.new.self.waiting c.args.to
    (record { marks_are = e.marks; next_are = e.next; stack_is = e.stack; bounds_are = e.bounds; waiting_are = e.waiting }) c.requires.search c.in-Fresh.ensures c.requires.leads

pub returns-in_ok-enter-in-Fresh-clause-settled : goal.returns-in_ok-enter-in-Fresh-clause-settled
returns-in_ok-enter-in-Fresh-clause-settled c =
    let e = c.in_ok-enter-in-Fresh.ensures in
    enter_settled c.args.graph.now c.args.self.now.marks c.enter.new.self.marks c.args.self.now.next c.enter.new.self.next c.args.self.now.stack.items c.enter.new.self.stack.items
    c.args.self.now.bounds c.enter.new.self.bounds c.args.self.now.waiting c.enter.new.self.waiting c.args.to c.args.place
    (record { marks_are = e.marks; next_are = e.next; stack_is = e.stack; bounds_are = e.bounds; waiting_are = e.waiting }) c.requires.search c.requires.place

pub returns-in_ok-enter-in-Fresh-clause-stack : goal.returns-in_ok-enter-in-Fresh-clause-stack
returns-in_ok-enter-in-Fresh-clause-stack c =
    let e = c.in_ok-enter-in-Fresh.ensures in
    enter_stack c.args.self.now.marks c.enter.new.self.marks c.args.self.now.next c.enter.new.self.next c.args.self.now.stack.items c.enter.new.self.stack.items
    c.args.self.now.bounds c.enter.new.self.bounds c.args.self.now.waiting c.enter.new.self.waiting c.args.to
    (record { marks_are = e.marks; next_are = e.next; stack_is = e.stack; bounds_are = e.bounds; waiting_are = e.waiting })

pub returns-in_ok-enter-in-Fresh-clause-fewer : goal.returns-in_ok-enter-in-Fresh-clause-fewer
returns-in_ok-enter-in-Fresh-clause-fewer c =
    let e = c.in_ok-enter-in-Fresh.ensures in
    enter_fewer c.args.self.now.marks c.enter.new.self.marks c.args.self.now.next c.enter.new.self.next c.args.self.now.stack.items c.enter.new.self.stack.items
    c.args.self.now.bounds c.enter.new.self.bounds c.args.self.now.waiting c.enter.new.self.waiting c.args.to
    (record { marks_are = e.marks; next_are = e.next; stack_is = e.stack; bounds_are = e.bounds; waiting_are = e.waiting }) (within c.args.self.now.marks c.args.to _ c.in-Fresh.ensures)

pub returns-in_ok-enter-in-Fresh-clause-left : goal.returns-in_ok-enter-in-Fresh-clause-left
returns-in_ok-enter-in-Fresh-clause-left c =
    let e = c.in_ok-enter-in-Fresh.ensures in
    enter_left c.args.graph.now c.args.self.now.marks c.enter.new.self.marks c.args.self.now.next c.enter.new.self.next c.args.self.now.stack.items c.enter.new.self.stack.items
    c.args.self.now.bounds c.enter.new.self.bounds c.args.self.now.waiting c.enter.new.self.waiting c.args.to
    (record { marks_are = e.marks; next_are = e.next; stack_is = e.stack; bounds_are = e.bounds; waiting_are = e.waiting }) c.in-Fresh.ensures
