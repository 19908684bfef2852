use Rattle.std.proofs.Common.{sym, ◌∙◌}
use Rattle.ir_grammar.proofs.Powers.{digits_shape_large}
use Rattle.ir_grammar.proofs.numbers.digits_shape.Goals as goal

pub returns-in-None : goal.returns-in-None
returns-in-None c = sym (digits_shape_large c.args.text.now (sym c.number_of.ensures ∙ c.in-None.is))
