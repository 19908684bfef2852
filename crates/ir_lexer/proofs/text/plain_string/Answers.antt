use Rattle.std.proofs.Common.{◌≡◌, ◌-◌, [], length, take, drop, refl, sym, ap, ◌∙◌, arith, eqb, ℕ}
use Rattle.ir_lexer.specs.Texts.{unescaped, inside}
use Rattle.ir_lexer.proofs.Texts.{unescaped_plain, any_take, any_drop}
use Rattle.ir_lexer.proofs.text.plain_string.Goals as goal

-- less than two bytes have nothing between their quotes
pub returns-in_default-clause-some : goal.returns-in_default-clause-some
unfolding unescaped
returns-in_default-clause-some c =
    let none : length c.args.text.now - 2 ≡ 0 = omega arith in
    ap (λ n. unescaped (take n (drop 1 c.args.text.now))) (sym none)

pub returns-then-has_backslash-clause-none : goal.returns-then-has_backslash-clause-none
returns-then-has_backslash-clause-none c =
    let test = λ (b : ℕ). eqb b 92 in
    any_drop test 1 c.args.text.now (any_take test (length c.args.text.now - 1 - 1) (drop 1 c.args.text.now) (sym c.if-has_backslash.ensures))

pub returns-else-has_backslash-clause-some : goal.returns-else-has_backslash-clause-some
returns-else-has_backslash-clause-some c =
    let same : length c.args.text.now - 1 - 1 ≡ length c.args.text.now - 2 = omega arith in
    sym (unescaped_plain (take (length c.args.text.now - 1 - 1) (drop 1 c.args.text.now)) (sym c.if-has_backslash.ensures))
    ∙ ap (λ n. unescaped (take n (drop 1 c.args.text.now))) same
