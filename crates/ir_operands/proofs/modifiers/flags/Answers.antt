use Rattle.std.proofs.Common.{◌+◌, sym, arith}
use Rattle.ir_grammar.specs.Tokens.{seen}
use Rattle.ir_operands.specs.Operands.{with_flag}
use Rattle.ir_operands.proofs.Gathered.{Gathered, flags_none, flags_more, flags_end}
use Rattle.ir_operands.proofs.modifiers.flags.Goals as goal

pub gathering-preserved : goal.gathering-preserved
gathering-preserved c =
    let more : Gathered (seen c.args.kept.now) (with_flag c.in-Some.flag c.gathering.flags) (c.gathering.count + 1)
    = flags_more _ _ _ _ _ c.gathering.invariant.gathered c.after.ensures.rest c.in-Some.ensures.exact in
    record {
      within = omega (arith, c.in-Some.ensures.within, c.after.ensures.left);
      gathered = rw c.with_flag-flags.ensures more;
    }

pub returns-in-None-clause-exact : goal.returns-in-None-clause-exact
returns-in-None-clause-exact c = flags_end _ _ _ _ c.gathering.invariant.gathered c.after.ensures.rest c.in-None.ensures.exact
