-- what is left to test
use Rattle.std.proofs.Common.{◌≡◌, drop}
use Rattle.std.specs.List.{list_all}
use Rattle.straight_form.specs.Names.{is_plain_name}
use Rattle.straight_reader.proofs.form.are_plain.Given as goal

abbrev pub invariant-loop-name : goal.invariant-loop-name
invariant-loop-name l = list_all is_plain_name (drop l.name-index l.names) ≡ list_all is_plain_name l.names
