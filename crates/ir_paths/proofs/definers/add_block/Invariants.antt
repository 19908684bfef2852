use Rattle.std.proofs.Common.{◌≡◌, ◌++◌, map, drop}
use Rattle.ir_paths.proofs.definers.add_block.Given as goal

abbrev pub invariant-loop-phi : goal.invariant-loop-phi
invariant-loop-phi l =
    l.definers.items ++ map (λ ty. l.place) (map (λ phi. phi.ty) (drop l._phi-index l._phi-items)) ≡ l.fn.definers.items ++ map (λ ty. l.place) (map (λ phi. phi.ty) l._phi-items)
