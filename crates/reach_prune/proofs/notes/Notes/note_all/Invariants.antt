-- what is noted so far, and what will be once the names that are left are noted
use Rattle.std.proofs.Common.{◌≡◌, drop}
use Rattle.reach_prune.specs.Mirrors.Noting.{IsNoting, noted_all}
use Rattle.reach_prune.proofs.notes.Notes.note_all.Given as goal

abbrev pub invariant-loop-named : goal.invariant-loop-named
invariant-loop-named l = IsNoting l.self × (l.self.defined ≡ l.fn.self.defined) × (noted_all l.fn.self.defined l.self.declared (drop l.named-index l.names) ≡ noted_all l.fn.self.defined l.fn.self.declared l.names)
