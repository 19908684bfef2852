-- How deep each form of type nests, and how many nodes it has.
use Rattle.std.proofs.Common.{◌≡◌, ℕ, ◌+◌, List, map, sum, ap, sym, ◌∙◌}
use Rattle.ir_types.specs.declared.scalar.Scalar.{Scalar}
use Rattle.ir_types.specs.declared.shape.Ty.{Ty}
use Rattle.ir_types.specs.declared.shape.Ty.TheOpen.{Ty-F}
use Rattle.ir_types.specs.declared.shape.Ty.TheViews.{Array, Struct}
use Rattle.ir_types.specs.declared.shape.Ty.TheBlock.{One}
use Rattle.ir_types.specs.declared.shape.Ty.TheVariants.{rolls-One, rolls-Array, rolls-Struct}
use Rattle.ir_types.specs.declared.shape.Ty.TheFolds.{fold-roll-Ty}
use Rattle.ir_types.specs.Nesting.{greatest, nesting, nesting_step, nodes, nodes_step}

pub nesting-One : (s : Scalar) → nesting (One s) ≡ 0
unfolding nesting
nesting-One s = ap nesting (sym (rolls-One s)) ∙ fold-roll-Ty ℕ nesting_step (Ty-F.One s)

pub nesting-Array : (n : ℕ) (t : Ty) → nesting (Array n t) ≡ nesting t + 1
unfolding nesting
nesting-Array n t = ap nesting (sym (rolls-Array n t)) ∙ fold-roll-Ty ℕ nesting_step (Ty-F.Array n t)

pub nesting-Struct : (ts : List Ty) → nesting (Struct ts) ≡ greatest (map nesting ts) + 1
unfolding nesting
nesting-Struct ts = ap nesting (sym (rolls-Struct ts)) ∙ fold-roll-Ty ℕ nesting_step (Ty-F.Struct ts)

pub nodes-One : (s : Scalar) → nodes (One s) ≡ 1
unfolding nodes
nodes-One s = ap nodes (sym (rolls-One s)) ∙ fold-roll-Ty ℕ nodes_step (Ty-F.One s)

pub nodes-Array : (n : ℕ) (t : Ty) → nodes (Array n t) ≡ nodes t + 1
unfolding nodes
nodes-Array n t = ap nodes (sym (rolls-Array n t)) ∙ fold-roll-Ty ℕ nodes_step (Ty-F.Array n t)

pub nodes-Struct : (ts : List Ty) → nodes (Struct ts) ≡ sum (map nodes ts) + 1
unfolding nodes
nodes-Struct ts = ap nodes (sym (rolls-Struct ts)) ∙ fold-roll-Ty ℕ nodes_step (Ty-F.Struct ts)
