use Rattle.std.proofs.Common.{◌≡◌, ◌++◌, [], drop, sym, ap, ◌∙◌}
use Rattle.std.proofs.lemmas.List.{drop_all, append-nil}
use Rattle.ir_lexer.specs.Texts.{unescaped}
use Rattle.ir_lexer.proofs.text.unescape.Goals as goal

-- at the end nothing is left to decode
pub returns : goal.returns
unfolding unescaped
returns c =
    let rest : drop c.loop-at.at c.args.text.now ≡ [] = drop_all c.loop-at.at c.args.text.now c.loop-at-test.false in
    sym (append-nil c.loop-at.bytes) ∙ ap (λ xs. c.loop-at.bytes ++ unescaped xs) (sym rest) ∙ c.loop-at.invariant.decoded
