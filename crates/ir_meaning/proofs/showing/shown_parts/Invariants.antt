use Rattle.std.proofs.Common.{◌≡◌, ◌++◌, drop, option_map}
use Rattle.ir_steps.specs.Showing.{shown_parts}
use Rattle.ir_meaning.proofs.showing.shown_parts.Given as goal

abbrev pub invariant-loop-part : goal.invariant-loop-part
invariant-loop-part l = option_map (λ more. l.named ++ more) (shown_parts l.p (drop l.part-index l.parts)) ≡ shown_parts l.p l.parts
