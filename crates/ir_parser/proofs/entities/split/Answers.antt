use Rattle.std.proofs.Common.{◌∙◌, ap, sym, subst, drop, length}
use Rattle.ir_lexer.specs.Tokens.{texts_of}
use Rattle.ir_grammar.specs.Tokens.{seen}
use Rattle.ir_parser.specs.Spelled.{IsNotSpelled}
use Rattle.ir_parser.specs.Mirrors.Steps.{AreEntities}
use Rattle.ir_parser.proofs.Splitting.{entities_more, entities_end}
use Rattle.ir_parser.proofs.entities.split.Goals as goal

pub splitting-preserved : goal.splitting-preserved
splitting-preserved c =
    let spelled = rw c.in-Some.is at c.in_ok-kept.ensures.derived in
    let after = rw c.in-Some.is at c.in_ok-kept.ensures.after in
    let within = rw c.in-Some.is at c.in_ok-kept.ensures.within in
    record {
      read = subst (λ es. AreEntities (texts_of c.args.bytes.now c.args.tokens.now) es (drop c.in-Some.next (texts_of c.args.bytes.now c.args.tokens.now))) (sym c.in_ok-push-in-Some.ensures.ok)
          (entities_more c.args.bytes.now c.args.tokens.now c.splitting.entities c.splitting.from c.in-Some.next (seen c.in-Some.kept.items) c.splitting.invariant.read spelled after);
      within = within c.splitting.invariant.within;
    }

pub returns-in-None-clause-refused : goal.returns-in-None-clause-refused
returns-in-None-clause-refused c =
    let spelled = rw c.in-None.is at c.in_ok-kept.ensures.refused in
    subst (λ n. IsNotSpelled (texts_of c.args.bytes.now c.args.tokens.now) n) (sym c.len.ensures)
    (entities_end c.args.bytes.now c.args.tokens.now c.splitting.entities c.splitting.from c.splitting.invariant.read c.splitting-test.true spelled)
