use Rattle.std.proofs.Common.{List, Some, arith, sym, ap, subst}
use Rattle.ir_syntax.specs.declared.body.Block.{Block}
use Rattle.ir_syntax.specs.declared.body.Body.{Body}
use Rattle.ir_syntax.specs.Results.{count}
use Rattle.fold_facts.proofs.Suiting.{few_results}
use Rattle.specialise.specs.Needs.{AreRowsOf, body_asks}
use Rattle.specialise.proofs.Bodies.{HasFewIn, residual_few, residual_small}
use Rattle.std.proofs.Common.{All}
use Rattle.specialise.proofs.expansion.piece_by.Goals as goal

pub residual_body-requires-clause-few : goal.residual_body-requires-clause-few
residual_body-requires-clause-few c = few_results c.args.func.now c.requires.sound

pub body_needs-requires : goal.body_needs-requires
body_needs-requires c =
    subst (λ (blocks : List Block). All HasFewIn blocks) (sym c.as_slice.ensures)
    (subst (λ (body : Body). All HasFewIn body.blocks) (sym c.in_ok-body.ensures) (residual_few c.args.known.now c.args.func.now c.args.a.now c.requires.sound))

pub returns : goal.returns
returns c = record {
  body = ap Some c.in_ok-body.ensures;
  calls = subst (λ (body : Body). AreRowsOf (body_asks c.args.p.now c.args.cycles.now c.args.home body.blocks) c.in_ok-calls.calls) c.in_ok-body.ensures
      (subst (λ (blocks : List Block). AreRowsOf (body_asks c.args.p.now c.args.cycles.now c.args.home blocks) c.in_ok-calls.calls) c.as_slice.ensures c.in_ok-calls.ensures);
  size = omega (arith, c.count-size.ensures, ap count c.in_ok-body.ensures, residual_small c.args.known.now c.args.func.now c.args.a.now c.requires.sound);
}
