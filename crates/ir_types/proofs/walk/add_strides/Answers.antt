use Rattle.std.proofs.Common.{◌++◌, ◌+◌, drop, pos, sym, ◌∙◌, ap, arith}
use Rattle.std.specs.Option.{option_map}
use Rattle.ir_types.specs.declared.shape.Index.TheVariants.{Num}
use Rattle.ir_types.specs.Walk.{strides_within}
use Rattle.ir_types.proofs.Walks.{adds_next, goes_next, part-width}
use Rattle.ir_types.proofs.walk.add_strides.Goals as goal

pub loop-index-preserved : goal.loop-index-preserved
loop-index-preserved c =
    let indices = c.args.indices.now in
    let here = c.loop-index.part.now in
    let inner = c.in-Some-entered.inner.now in
    let i = c.loop-index.index-index in
    record {
      adds = ap (λ so_far. option_map (λ more. so_far ++ more) (strides_within inner (drop (i + 1) indices))) c.in_ok-push.ensures.ok
          ∙ adds_next here inner c.in-Some.stride indices i (Num (pos 0)) c.loop-index.strides c.loop-index-test.true (sym c.in-Some.is ∙ c.in_ok-stride.ensures.ok) c.in-Some-entered.ensures
          ∙ c.loop-index.invariant.adds;
      goes = goes_next here inner indices i (Num (pos 0)) c.loop-index-test.true c.in-Some-entered.ensures c.loop-index.invariant.goes;
      width = omega (arith, part-width here inner _ (sym c.in-Some-entered.ensures), c.loop-index.invariant.width);
    }
