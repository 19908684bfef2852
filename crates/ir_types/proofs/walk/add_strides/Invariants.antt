-- what is added so far, and what is left adds, is all; and the part is no wider than the type
use Rattle.std.proofs.Common.{◌≡◌, ◌≤◌, ◌++◌, drop, is_some, true}
use Rattle.std.specs.Option.{option_map}
use Rattle.ir_types.specs.Layout.{extent}
use Rattle.ir_types.specs.Walk.{strides_within}
use Rattle.ir_types.proofs.walk.add_strides.Given as goal

abbrev pub invariant-loop-index : goal.invariant-loop-index
invariant-loop-index l = record {
  adds : option_map (λ more. l.strides ++ more) (strides_within l.part (drop l.index-index l.indices)) ≡ option_map (λ more. l.fn.strides ++ more) (strides_within l.ty l.indices);
  goes : is_some (strides_within l.part (drop l.index-index l.indices)) ≡ true;
  width : (extent l.part).widest ≤ (extent l.ty).widest;
}
