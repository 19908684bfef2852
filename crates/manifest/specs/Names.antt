-- Which bytes are the name of a module, and when names are distinct.
use Rattle.std.specs.Prelude.{◌≢◌, ℕ, ◌≤◌, ◌⊎◌, ◌==◌, List, [], length, codes, All, AllPairs, Contains}
use Rattle.std.specs.Char.{IsAsciiAlphanumeric}
use Rattle.std.specs.List.{slice_split}

-- a letter or a digit of ASCII, a mark, or the slash between parts
abbrev pub IsModuleByte : ℕ → Type 0
IsModuleByte byte = IsAsciiAlphanumeric byte ⊎ Contains (codes "._/-") byte

-- the parts of a name are what stands before, between and after its slashes
abbrev pub parts : List ℕ → List (List ℕ)
parts name = slice_split (λ byte. byte == 47) name

-- a part that names something of its own: not empty, not `.`, not `..`
abbrev pub IsPart : List ℕ → Type 0
IsPart part = (part ≢ []) × (part ≢ codes ".") × (part ≢ codes "..")

-- 1 to 255 bytes of [A-Za-z0-9._/-], and each part names something
pub record IsModuleName (name : List ℕ) : Type 0 where
  pub some : 1 ≤ length name
  pub short : length name ≤ 255
  pub bytes : All IsModuleByte name
  pub whole : All IsPart (parts name)

-- no name stands at two places
abbrev pub AreDistinct : List (List ℕ) → Type 0
AreDistinct names = AllPairs (λ earlier later. earlier ≢ later) names
