use Rattle.std.proofs.Common.{◌≡◌, ◌-◌, length, take, drop, sym, ap, ◌∙◌, arith}
use Rattle.ir_lexer.specs.Texts.{unescaped}
use Rattle.ir_lexer.proofs.text.string_bytes.Goals as goal

-- less than two bytes have nothing between their quotes
pub returns-in_default : goal.returns-in_default
unfolding unescaped
returns-in_default c =
    let none : length c.args.text.now - 2 ≡ 0 = omega arith in
    c.new.ensures ∙ ap (λ n. unescaped (take n (drop 1 c.args.text.now))) (sym none)
