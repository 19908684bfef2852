-- The command that the code holds, as plain data.
use Rattle.command_words.specs.declared.words.Command.{Command as Held}
use Rattle.command_words.specs.declared.words.Command.TheVariants as held
use Rattle.command_words.specs.Words.{Command}
use Rattle.command_words.specs.Words.Command.{Winnow, Check, Run}

abbrev pub told : Held → Command
told (held.Winnow manifest outdir) = Winnow manifest.now outdir.now
told (held.Check manifest) = Check manifest.now
told (held.Run manifest steps args) = Run manifest.now steps args
