-- none was found, so what is left decides
use Rattle.std.proofs.Common.{◌≡◌, drop}
use Rattle.std.specs.List.{list_any}
use Rattle.straight_plan.specs.Asked.{names_place}
use Rattle.straight_fold.proofs.items.any_names.Given as goal

abbrev pub invariant-loop-inst : goal.invariant-loop-inst
invariant-loop-inst l = list_any (names_place l.place) (drop l.inst-index l.insts) ≡ list_any (names_place l.place) l.insts
