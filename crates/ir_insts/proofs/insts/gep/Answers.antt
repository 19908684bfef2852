use Rattle.std.proofs.Common.{◌∙◌, Some, None, sym}
use Rattle.ir_grammar.specs.Tokens.{seen}
use Rattle.ir_operands.specs.Mirrors.Naming.{naming}
use Rattle.ir_insts.proofs.Geps.{gep_is}
use Rattle.ir_insts.proofs.insts.gep.Goals as goal

pub returns-in-Some-clause-exact : goal.returns-in-Some-clause-exact
returns-in-Some-clause-exact c =
    gep_is (naming c.args.names.now) (seen c.args.kept.now) (seen c.after.result.now) c.inbounds-inbounds.result (Some (c.in-Some.gep, c.in-Some.count))
    c.inbounds-inbounds.ensures.exact c.after.ensures.rest (sym c.in-Some.is ∙ c.in_ok-gep.ensures.exact)

pub returns-in-None-clause-exact : goal.returns-in-None-clause-exact
returns-in-None-clause-exact c =
    gep_is (naming c.args.names.now) (seen c.args.kept.now) (seen c.after.result.now) c.inbounds-inbounds.result None
    c.inbounds-inbounds.ensures.exact c.after.ensures.rest (sym c.in-None.is ∙ c.in_ok-gep.ensures.exact)
