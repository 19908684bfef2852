use Rattle.std.proofs.Common.{◌∙◌, length, drop, arith, ap, sym}
use Rattle.std.specs.Prelude.{slice_get}
use Rattle.call_cycles.specs.declared.mark.Mark.TheVariants.{Closed}
use Rattle.call_cycles.specs.Searching.{put_all}
use Rattle.call_cycles.proofs.Steps.{done_there, done_nodes, close_search, close_fewer, close_left}
use Rattle.call_cycles.proofs.search.Search.close.Goals as goal

pub split_at-requires : goal.split_at-requires
split_at-requires c =
    let there = done_there c.args.graph.now c.args.self.now.marks c.args.self.now.next c.args.self.now.stack.items c.args.self.now.bounds c.args.self.now.waiting c.args.bound c.requires.done in
    omega (arith, there, ap length c.as_slice.ensures.value)

pub close_all-requires : goal.close_all-requires
close_all-requires c k u at =
    done_nodes c.args.graph.now c.args.self.now.marks c.args.self.now.next c.args.self.now.stack.items c.args.self.now.bounds c.args.self.now.waiting c.args.bound k u c.requires.done
    (sym (ap (λ l. slice_get l k) (c.split_at.ensures.back ∙ ap (drop c.args.bound) c.as_slice.ensures.value)) ∙ at)

pub returns-clause-search : goal.returns-clause-search
returns-clause-search c =
    close_search c.args.graph.now c.args.self.now.marks c.close_all.new.marks c.args.self.now.next c.args.self.now.stack.items c.truncate.new.self.items c.args.self.now.bounds c.pop.new.self c.args.self.now.waiting c.pop.result c.args.bound
    c.is_on_cycle-on_cycle.result c.requires.done c.is_on_cycle-on_cycle.ensures c.pop.ensures
    (c.close_all.ensures ∙ ap (λ l. put_all l (Closed c.is_on_cycle-on_cycle.result) c.args.self.now.marks) (c.split_at.ensures.back ∙ ap (drop c.args.bound) c.as_slice.ensures.value)) c.truncate.ensures.items

pub returns-clause-fewer : goal.returns-clause-fewer
returns-clause-fewer c =
    close_fewer c.args.graph.now c.args.self.now.marks c.close_all.new.marks c.args.self.now.next c.args.self.now.stack.items c.args.self.now.bounds c.args.self.now.waiting c.args.bound c.is_on_cycle-on_cycle.result c.requires.done
    (c.close_all.ensures ∙ ap (λ l. put_all l (Closed c.is_on_cycle-on_cycle.result) c.args.self.now.marks) (c.split_at.ensures.back ∙ ap (drop c.args.bound) c.as_slice.ensures.value))

pub returns-clause-left : goal.returns-clause-left
returns-clause-left c =
    close_left c.args.graph.now c.args.self.now.marks c.close_all.new.marks c.args.self.now.next c.args.self.now.stack.items c.args.self.now.bounds c.pop.new.self c.args.self.now.waiting c.pop.result c.args.bound
    c.is_on_cycle-on_cycle.result c.requires.done c.pop.ensures
    (c.close_all.ensures ∙ ap (λ l. put_all l (Closed c.is_on_cycle-on_cycle.result) c.args.self.now.marks) (c.split_at.ensures.back ∙ ap (drop c.args.bound) c.as_slice.ensures.value))
