use Rattle.std.proofs.Common.{sym, subst, arith, length}
use Rattle.ir_lexer.specs.Tokens.{Tokens, InOrder}
use Rattle.straight_reader.proofs.Answering.{answers_some, answers_none, same_ok, bad_answer}
use Rattle.straight_reader.proofs.Found.{form_found, no_form}
use Rattle.straight_reader.proofs.Counting.{module_bounded}
use Rattle.straight_reader.proofs.read.Goals as goal

pub returns-in-Ok-clause-found : goal.returns-in-Ok-clause-found
returns-in-Ok-clause-found c =
    answers_some c.read_tokens.result _ _ c.read_tokens.ensures
    (λ m. form_found c.args.text.now c.args.entry.now c.args.count c.as_slice.result.now m (omega arith) (subst (Tokens c.args.text.now) (sym c.as_slice.ensures) c.in-Ok.ensures.ok))

pub returns-in-Ok-clause-none : goal.returns-in-Ok-clause-none
returns-in-Ok-clause-none c =
    answers_none c.read_tokens.result _ _ c.read_tokens.ensures
    (λ none m. no_form c.args.text.now c.args.entry.now c.args.count c.as_slice.result.now m (λ us tile. same_ok us c.in-Ok.tokens c.as_slice.result.now (c.in-Ok.ensures.tokens us tile) c.as_slice.ensures) none)

pub returns-in-Ok-clause-bounded : goal.returns-in-Ok-clause-bounded
returns-in-Ok-clause-bounded c =
    answers_some c.read_tokens.result _ _ c.read_tokens.ensures
    (λ m. module_bounded c.args.text.now c.args.entry.now c.args.count c.as_slice.result.now m (subst (λ ts. InOrder 0 ts (length c.args.text.now)) (sym c.as_slice.ensures) c.in-Ok.ensures.in_order))

pub returns-in-Err-BadByte-clause-none : goal.returns-in-Err-BadByte-clause-none
returns-in-Err-BadByte-clause-none c = λ m form. bad_answer c.in-Err-BadByte.field-0 _ form.spelled.tokens c.in-Err-BadByte.field-0-is (c.in-Err-BadByte.ensures.tokens form.spelled.tokens form.spelled.tile)
