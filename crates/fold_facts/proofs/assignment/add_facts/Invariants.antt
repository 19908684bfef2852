use Rattle.std.proofs.Common.{◌≡◌, ◌++◌, map, drop}
use Rattle.fold_facts.proofs.assignment.add_facts.Given as goal

abbrev pub invariant-loop-phi : goal.invariant-loop-phi
invariant-loop-phi l = l.facts ++ map (λ ty. l.fact) (map (λ phi. phi.ty) (drop l._phi-index l._phi-items)) ≡ l.fn.facts ++ map (λ ty. l.fact) (map (λ phi. phi.ty) l._phi-items)
