-- what is noted so far, and what will be once the names of the members that are left are noted
use Rattle.std.proofs.Common.{◌≡◌, drop}
use Rattle.std.specs.Prelude.{flat_map}
use Rattle.winnowed_form.specs.Names.{uses}
use Rattle.reach_prune.specs.Mirrors.Noting.{IsNoting, noted_all}
use Rattle.reach_prune.specs.Mirrors.Shown.{shown}
use Rattle.reach_prune.proofs.notes.Notes.note_members.Given as goal

abbrev pub invariant-loop-member : goal.invariant-loop-member
invariant-loop-member l =
    IsNoting l.self
    × (l.self.defined ≡ l.fn.self.defined)
    × (noted_all l.fn.self.defined l.self.declared (flat_map (uses (shown l.g) l.home) (drop l.member-index l.members)) ≡ noted_all l.fn.self.defined l.fn.self.declared (flat_map (uses (shown l.g) l.home) l.members))
