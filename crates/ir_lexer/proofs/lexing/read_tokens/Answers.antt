use Rattle.std.proofs.Common.{◌+◌, sym, arith, subst}
use Rattle.std.proofs.lemmas.Bool.{false≢true, both_ways}
use Rattle.std.proofs.lemmas.List.{take_rest}
use Rattle.ir_lexer.proofs.Tilings.{LexedTo}
use Rattle.ir_lexer.proofs.Steps.{gap_more, token_more, bad_here, front_bounds, inside_after}
use Rattle.ir_lexer.proofs.lexing.read_tokens.Goals as goal
use Rattle.ir_lexer.proofs.lexing.read_tokens.Goals.{in-Int, in_default}

pub loop-at-preserved-then-gap-gt0 : goal.loop-at-preserved-then-gap-gt0
loop-at-preserved-then-gap-gt0 c = record {
  lexed = gap_more c.args.bytes.now c.loop-at.tokens c.loop-at.at _ _ (take_rest c.args.bytes.now c.loop-at.at) c.loop-at.invariant.lexed c.gap_len-gap.ensures.exact c.if-gap-gt0.true;
  plain = λ inside. absurd (false≢true inside);
}

pub overflow_add-to : goal.overflow_add-to
overflow_add-to c =
    let bounds = front_bounds c.args.bytes.now c.loop-at.at _ c.in-Some.kind c.in-Some.len (take_rest c.args.bytes.now c.loop-at.at) c.loop-at-test.true c.in-Some.ensures.exact in
    omega (arith, bounds.1)

pub loop-at-smaller : goal.loop-at-smaller
loop-at-smaller c =
    let bounds = front_bounds c.args.bytes.now c.loop-at.at _ c.in-Some.kind c.in-Some.len (take_rest c.args.bytes.now c.loop-at.at) c.loop-at-test.true c.in-Some.ensures.exact in
    omega (arith, bounds.0, bounds.1)

pub loop-at-preserved : goal.loop-at-preserved
loop-at-preserved c = record {
  lexed = subst (λ ts. LexedTo c.args.bytes.now ts (c.loop-at.at + c.in-Some.len)) (sym c.in-Ok.ensures.ok)
      (token_more c.args.bytes.now c.loop-at.tokens c.loop-at.at _ _ c.in-Some.kind c.in-Some.len (take_rest c.args.bytes.now c.loop-at.at) c.loop-at.invariant.lexed c.gap_len-gap.ensures.exact c.if-gap-gt0.false c.in-Some.ensures.exact);
  plain = λ inside. elim c.match-matches.branch [
    | in-Int w ↦ inside_after c.args.bytes.now c.loop-at.at _ c.in-Some.kind c.in-Some.len (take_rest c.args.bytes.now c.loop-at.at) c.in-Some.ensures.exact w.in-Int.is
    | in_default w ↦ absurd (both_ways _ w.matches-is inside)
  ];
}

pub returns-in-None-clause-err : goal.returns-in-None-clause-err
returns-in-None-clause-err c =
    bad_here c.args.bytes.now c.loop-at.tokens c.loop-at.at _ _ (take_rest c.args.bytes.now c.loop-at.at) c.loop-at.invariant.lexed c.loop-at-test.true c.gap_len-gap.ensures.exact c.if-gap-gt0.false c.in-None.ensures.exact
