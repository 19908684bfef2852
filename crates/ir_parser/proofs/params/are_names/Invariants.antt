-- all so far are names
use Rattle.std.proofs.Common.{◌≡◌, true, take}
use Rattle.std.specs.List.{list_all}
use Rattle.ir_locals.specs.Locals.{is_name}
use Rattle.ir_parser.proofs.params.are_names.Given as goal

abbrev pub invariant-loop-name : goal.invariant-loop-name
invariant-loop-name l = list_all is_name (take l.name-index l.names) ≡ true
