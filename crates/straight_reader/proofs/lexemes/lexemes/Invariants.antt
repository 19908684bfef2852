use Rattle.std.proofs.Common.{◌≡◌, take}
use Rattle.straight_form.specs.Spelled.{seen, pieces_of}
use Rattle.straight_reader.proofs.lexemes.lexemes.Given as goal

abbrev pub invariant-loop-token : goal.invariant-loop-token
invariant-loop-token l = seen l.lexemes.items ≡ pieces_of l.text (take l.token-index l.tokens)
