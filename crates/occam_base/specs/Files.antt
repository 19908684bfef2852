-- What a shelf holds: a finite map from names to bytes, where it tells.
use Rattle.std.specs.Prelude.{◌≡◌, ◌≢◌, ℕ, ◌-◌, ◌≤◌, ◌<◌, List, length, take, drop, Option, Some, None, Result, Ok, Err}
use Rattle.std.specs.Ordering.{nat_cmp}
use Rattle.std.specs.Cmp.Lexicographic.{slice_cmp}
use Rattle.std.specs.FinMap as map
use Rattle.occam_base.specs.declared.fault.Fault.{Fault}
use Rattle.occam_base.specs.declared.fault.Fault.TheVariants as fault
use Rattle.occam_base.specs.declared.shelf.Read.{Read}
use Rattle.occam_base.specs.declared.shelf.Read.TheVariants.{Got, Absent}

abbrev pub FileMap : Type 0
FileMap = map.FinMap (slice_cmp nat_cmp) (List ℕ)

-- the file of a name
abbrev pub file_of : FileMap → List ℕ → Option (List ℕ)
file_of files name = map.get files name

-- A read of n bytes at a place of a file: they fill the front of the buffer, and there are none
-- only where the buffer has no room or the place is at or past the end.
pub record Fills (file : List ℕ) (at : ℕ) (before now : List ℕ) (n : ℕ) : Type 0 where
  pub within : n ≤ length file - at
  pub bytes : take n now ≡ take n (drop at file)
  pub some : 0 < length before → at < length file → 0 < n

-- What a read of a file answers: absent exactly where there is none.
abbrev pub ReadGives : Option (List ℕ) → ℕ → List ℕ → List ℕ → Read → Type 0
ReadGives None at before now Absent = Unit {0}
ReadGives None at before now (Got n) = ⊥
ReadGives (Some file) at before now Absent = ⊥
ReadGives (Some file) at before now (Got n) = Fills file at before now n

-- Of a shelf that tells nothing, nothing is said.
abbrev pub ReadOf : Option FileMap → List ℕ → ℕ → List ℕ → List ℕ → Read → Type 0
ReadOf None name at before now answer = Unit {0}
ReadOf (Some files) name at before now answer = ReadGives (file_of files name) at before now answer

-- every file but the named one is as before
abbrev pub SameOthers : FileMap → FileMap → List ℕ → Type 0
SameOthers old new name = (other : List ℕ) → other ≢ name → file_of new other ≡ file_of old other

-- What a put leaves: the one file replaced; where it failed, that file is anything.
abbrev pub PutLeaves : FileMap → FileMap → List ℕ → List ℕ → Result (Unit {0}) Fault → Type 0
PutLeaves old new name bytes (Ok done) = new ≡ map.insert old name bytes
PutLeaves old new name bytes (Err fault.Failed) = SameOthers old new name
PutLeaves old new name bytes (Err fault.OutOfMemory) = new ≡ old

-- A shelf goes on telling, or telling nothing.
abbrev pub PutOf : Option FileMap → Option FileMap → List ℕ → List ℕ → Result (Unit {0}) Fault → Type 0
PutOf None None name bytes answer = Unit {0}
PutOf None (Some new) name bytes answer = ⊥
PutOf (Some old) None name bytes answer = ⊥
PutOf (Some old) (Some new) name bytes answer = PutLeaves old new name bytes answer
