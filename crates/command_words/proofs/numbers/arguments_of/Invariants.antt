use Rattle.std.proofs.Common.{◌≡◌, drop, map, string_bytes}
use Rattle.command_words.specs.Numbers.{arguments_of}
use Rattle.command_words.proofs.FewWords.{behind}
use Rattle.command_words.proofs.numbers.arguments_of.Given as goal

abbrev pub invariant-loop-word : goal.invariant-loop-word
invariant-loop-word l = behind l.args (arguments_of (map (λ w. string_bytes w) (drop l.word-index l.words))) ≡ arguments_of (map (λ w. string_bytes w) l.words)
