use Rattle.std.proofs.Common.{string_bytes}
use Rattle.command_words.proofs.FewWords.{few_none}
use Rattle.command_words.proofs.words.command_of.Goals as goal

pub returns-in-len1 : goal.returns-in-len1
returns-in-len1 c = few_none (λ w. string_bytes w) c.args.words.now c.in-len1.len_below
