use Rattle.std.proofs.Common.{◌≡◌, ◌-◌, ℕ, true, length, take, sym, subst, ap, ◌∙◌, eqb}
use Rattle.std.specs.List.{list_any}
use Rattle.ir_lexer.proofs.Texts.{any_take, if_none_wider}
use Rattle.ir_lexer.proofs.text.undecoded_text.Goals as goal

-- a backslash before the colon is one in the text
pub returns-in-Label-clause-none : goal.returns-in-Label-clause-none
returns-in-Label-clause-none c =
    let test = λ (b : ℕ). eqb b 92 in
    if_none_wider c.plain_name-in-Label.result
    (λ h. any_take test (length c.args.text.now - 1) c.args.text.now (sym (ap (list_any test) c.before_colon.ensures) ∙ h))
    c.plain_name-in-Label.ensures.none
