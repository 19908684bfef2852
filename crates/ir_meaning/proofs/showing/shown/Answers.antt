use Rattle.std.proofs.Common.{sym, subst}
use Rattle.ir_meaning.specs.Mirrors.Outcomes.{IsAnswered}
use Rattle.ir_meaning.proofs.Named.{var_is_shown, made_is_shown}
use Rattle.ir_meaning.proofs.showing.shown.Goals as goal

pub returns-in-Var : goal.returns-in-Var
returns-in-Var c = subst (IsAnswered c.in_block.result) (sym (var_is_shown c.args.p.now c.args.memory.now c.args.value.now c.in-At.of _ _ c.in-At.is c.in-Var.is)) c.in_block.ensures

pub returns-in-Made : goal.returns-in-Made
returns-in-Made c = subst (IsAnswered c.in_block-in-Made.result) (sym (made_is_shown c.args.p.now c.args.memory.now c.args.value.now c.in-At.of _ _ c.in-At.is c.in-Made.is)) c.in_block-in-Made.ensures
