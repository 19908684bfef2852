use Rattle.std.proofs.Common.{◌∙◌, sym, map, rules}
use Rattle.ir_types.proofs.Extents.{scalar_extent, array_extent, struct_extent, max_one-align}
use Rattle.ir_types.specs.Layout.{extent}
use Rattle.ir_types.proofs.layouts.+alignment.Goals as goal

pub loop-field-init : goal.loop-field-init
loop-field-init t c = record {
  value = max_one-align (map extent c.as_slice-field-items.result.now) ∙ sym (struct_extent c.args.ty.now _ _ c.in-Struct.is c.as_slice-field-items.ensures).has_align;
  positive = search rules;
  small = search rules;
}

pub returns-in-One-clause-value : goal.returns-in-One-clause-value
returns-in-One-clause-value t c = let e = scalar_extent c.args.ty.now c.in-One.scalar c.in-One.is in cc

pub returns-in-Array-clause-value : goal.returns-in-Array-clause-value
returns-in-Array-clause-value t c = let e = array_extent c.args.ty.now _ _ c.in-Array.is in cc
