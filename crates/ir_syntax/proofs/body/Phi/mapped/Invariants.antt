-- the entries made so far, and then those that are left, mapped, are all, mapped
use Rattle.std.proofs.Common.{◌≡◌, ◌++◌, map, drop}
use Rattle.ir_syntax.proofs.body.Phi.mapped.Given as goal

abbrev pub invariant-loop-entry : goal.invariant-loop-entry
invariant-loop-entry g l =
    l.entries ++ map (λ entry. (g.M.MapOperand.maps l.mapping entry.0, entry.1)) (drop l.entry-index l.entry-items) ≡ map (λ entry. (g.M.MapOperand.maps l.mapping entry.0, entry.1)) l.entry-items
