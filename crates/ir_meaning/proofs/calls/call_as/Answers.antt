use Rattle.std.proofs.Common.{◌≡◌, ◌∙◌, true, false, refl, sym, subst, rules}
use Rattle.std.specs.Option.{option_copied}
use Rattle.ir_syntax.specs.FunctionTypes.{type_of}
use Rattle.block_memory.specs.Answers.{IsMeant}
use Rattle.ir_steps.specs.Calls.{same_type}
use Rattle.ir_meaning.specs.Mirrors.Outcomes.{IsStepped}
use Rattle.ir_meaning.specs.Mirrors.Stacks.{point_of}
use Rattle.ir_meaning.proofs.Begun.{of_other_type, of_its_type}
use Rattle.ir_meaning.proofs.Sized.{same_type_is}
use Rattle.ir_meaning.proofs.calls.call_as.Goals as goal

pub returns-then-not-has_type : goal.returns-then-not-has_type
returns-then-not-has_type c =
    let p = c.args.p.now in
    let func = c.function_at-func.result.now in
    let test : c.has_type.result ≡ false = search rules in
    let other : same_type (type_of func) c.args.fn_ty.now ≡ false = same_type_is c.has_type.result (type_of func) c.args.fn_ty.now c.has_type.ensures ∙ test in
    (of_other_type p (point_of p c.args.stack.now c.args.memory.now) c.args.fn_ty.now c.args.args.items (option_copied c.args.reply) c.args.symbol func c.function_at-func.ensures other, refl)

pub call_of-requires-clause-meant : goal.call_of-requires-clause-meant
call_of-requires-clause-meant c =
    let p = c.args.p.now in
    let func = c.function_at-func.result.now in
    let test : c.has_type.result ≡ true = search rules in
    let same : same_type (type_of func) c.args.fn_ty.now ≡ true = same_type_is c.has_type.result (type_of func) c.args.fn_ty.now c.has_type.ensures ∙ test in
    subst IsMeant (of_its_type p (point_of p c.args.stack.now c.args.memory.now) c.args.fn_ty.now c.args.args.items (option_copied c.args.reply) c.args.symbol func c.target.result.now c.function_at-func.ensures same c.target.ensures) c.requires.meant

pub returns : goal.returns
returns c =
    let p = c.args.p.now in
    let func = c.function_at-func.result.now in
    let test : c.has_type.result ≡ true = search rules in
    let same : same_type (type_of func) c.args.fn_ty.now ≡ true = same_type_is c.has_type.result (type_of func) c.args.fn_ty.now c.has_type.ensures ∙ test in
    subst (IsStepped p c.call_of.result c.call_of.new.stack c.call_of.new.memory c.args.memory.now)
    (sym (of_its_type p (point_of p c.args.stack.now c.args.memory.now) c.args.fn_ty.now c.args.args.items (option_copied c.args.reply) c.args.symbol func c.target.result.now c.function_at-func.ensures same c.target.ensures))
    c.call_of.ensures
