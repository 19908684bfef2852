-- the calls so far, and then those of what is left
use Rattle.std.proofs.Common.{◌≡◌, ◌++◌, drop}
use Rattle.std.specs.List.{filter_map}
use Rattle.interface.specs.Summaries.{call_out, known_of}
use Rattle.interface.proofs.summaries.add_calls.Given as goal

abbrev pub invariant-loop-inst : goal.invariant-loop-inst
invariant-loop-inst l =
    l.calls ++ filter_map (call_out l.p l.home (known_of (record { known = l.known }) l.facts)) (drop l.inst-index l.insts) ≡ l.fn.calls ++ filter_map (call_out l.p l.home (known_of (record { known = l.known }) l.facts)) l.insts
