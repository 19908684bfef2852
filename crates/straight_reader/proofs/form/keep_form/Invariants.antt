-- what is left to test
use Rattle.std.proofs.Common.{◌≡◌, ◌+◌, drop}
use Rattle.std.specs.List.{list_all}
use Rattle.straight_form.specs.Form.{keeps_form}
use Rattle.straight_reader.proofs.form.keep_form.Given as goal

abbrev pub invariant-loop-line : goal.invariant-loop-line
invariant-loop-line l = list_all (keeps_form (drop (l.at + 1) l.entities)) (drop l.line-index l.lines) ≡ list_all (keeps_form (drop (l.at + 1) l.entities)) l.lines
