-- what was found, and what is left
use Rattle.std.proofs.Common.{◌≡◌, drop, None}
use Rattle.ir_grammar.specs.Tokens.{seen}
use Rattle.ir_parser.specs.Items.{last_align}
use Rattle.ir_parser.proofs.variables.last_align.Given as goal

abbrev pub invariant-loop-lexeme : goal.invariant-loop-lexeme
invariant-loop-lexeme l = last_align l.found (seen (drop l.lexeme-index l.kept)) ≡ last_align None (seen l.kept)
