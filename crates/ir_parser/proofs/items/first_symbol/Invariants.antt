-- what is left
use Rattle.std.proofs.Common.{◌≡◌, drop}
use Rattle.ir_grammar.specs.Tokens.{seen}
use Rattle.ir_parser.specs.Items.{first_symbol}
use Rattle.ir_parser.proofs.items.first_symbol.Given as goal

abbrev pub invariant-loop-lexeme : goal.invariant-loop-lexeme
invariant-loop-lexeme l = first_symbol (seen (drop l.lexeme-index l.kept)) ≡ first_symbol (seen l.kept)
