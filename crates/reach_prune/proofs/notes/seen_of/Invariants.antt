-- what is seen are the names so far
use Rattle.std.proofs.Common.{◌≡◌, take}
use Rattle.std.specs.Prelude.{is_some}
use Rattle.std.specs.List.{list_any}
use Rattle.winnowed_form.specs.declared.named.Named.{Named}
use Rattle.reach_prune.specs.Mirrors.Places.{kept_place, is_name}
use Rattle.reach_prune.proofs.notes.seen_of.Given as goal

abbrev pub invariant-loop-named : goal.invariant-loop-named
invariant-loop-named l = (named : Named) → is_some (kept_place l.seen named) ≡ list_any (is_name named) (take l.named-index l.names)
