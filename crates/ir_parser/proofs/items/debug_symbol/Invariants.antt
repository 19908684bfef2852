-- what is left
use Rattle.std.proofs.Common.{◌≡◌, drop}
use Rattle.ir_grammar.specs.Tokens.{seen}
use Rattle.ir_parser.specs.Items.{debug_symbol}
use Rattle.ir_parser.proofs.items.debug_symbol.Given as goal

abbrev pub invariant-loop-lexeme : goal.invariant-loop-lexeme
invariant-loop-lexeme l = debug_symbol (seen (drop l.lexeme-index l.kept)) ≡ debug_symbol (seen l.kept)
