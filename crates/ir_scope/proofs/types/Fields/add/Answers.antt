use Rattle.std.proofs.Common.{◌∙◌, ap, map, sum, sym, arith, List}
use Rattle.ir_types.specs.Nesting.{greatest, nesting, nodes}
use Rattle.ir_scope.proofs.Measuring.{nodes_more, nesting_more}
use Rattle.ir_scope.proofs.types.Fields.add.Goals as goal

pub invariant_of-self-2 : goal.invariant_of-self-2
invariant_of-self-2 c =
    let nests = ap (λ ts. greatest (map nesting ts)) c.in_ok-push.ensures.ok ∙ nesting_more c.args.self.now.types c.args.field.ty in
    let has = ap (λ ts. sum (map nodes ts)) c.in_ok-push.ensures.ok ∙ nodes_more c.args.self.now.types c.args.field.ty in
    let old = c.args.self.now.measured in
    let new = c.args.field.measured in
    let within = c.args.self.now.fits in
    let fit = c.args.field.fits in
    record {
      measured = (omega (arith, nests, old.0, new.0), omega (arith, has, old.1, new.1));
      fits = (omega (arith, within.0, fit.1), omega arith);
    }
