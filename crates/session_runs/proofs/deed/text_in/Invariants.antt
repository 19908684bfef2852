-- the bytes so far, and then the text in the parts that are left
use Rattle.std.proofs.Common.{◌≡◌, drop}
use Rattle.session_runs.specs.Tiny.{text_in}
use Rattle.session_runs.proofs.Texts.{behind}
use Rattle.session_runs.proofs.deed.text_in.Given as goal

abbrev pub invariant-loop-part : goal.invariant-loop-part
invariant-loop-part l = behind l.text (text_in (drop l.part-index l.parts)) ≡ text_in l.parts
