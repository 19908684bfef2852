use Rattle.std.proofs.Common.{◌∙◌, ap, sym}
use Rattle.std.proofs.lemmas.List.{take_rest}
use Rattle.ir_constants.proofs.Moving.{moved-none, moved-some}
use Rattle.ir_constants.proofs.addresses.moved.Goals as goal

pub returns-in-None-clause-exact : goal.returns-in-None-clause-exact
returns-in-None-clause-exact c =
    moved-none c.args.ty.now c.args.kept.now _ c.args.base (take_rest c.args.kept.now c.args.base.1) (sym c.in-None.is ∙ c.in_ok-found.ensures.exact)

pub returns-in-Some-2-clause-exact : goal.returns-in-Some-2-clause-exact
returns-in-Some-2-clause-exact c =
    moved-some c.args.ty.now c.args.kept.now _ c.args.base c.in-Some.found _ _ (take_rest c.args.kept.now c.args.base.1) (sym c.in-Some.is ∙ c.in_ok-found.ensures.exact)
    c.as_slice.ensures (c.in_ok-offset.ensures ∙ c.in-Some-2.is)

pub returns-clause-exact : goal.returns-clause-exact
returns-clause-exact c =
    moved-some c.args.ty.now c.args.kept.now _ c.args.base c.in-Some.found _ _ (take_rest c.args.kept.now c.args.base.1) (sym c.in-Some.is ∙ c.in_ok-found.ensures.exact)
    c.as_slice.ensures (c.in_ok-offset.ensures ∙ c.in-None-2.is)
