-- What may be a name.
use Rattle.std.specs.Prelude.{◌≢◌, ℕ, ◌<◌, ◌≤◌, ◌==◌, nat_lt, nat_le, Bool, not, ◌&&◌, List, All, length}
use Rattle.std.specs.List.{list_all}

-- A name has 1 to 4,096 bytes, none of them zero.
pub record IsName (name : List ℕ) : Type 0 where
  pub not_empty : 0 < length name
  pub short : length name ≤ 4096
  pub no_zero : All (λ byte. byte ≢ 0) name

-- the same as a test
abbrev pub is_name : List ℕ → Bool
is_name name = nat_lt 0 (length name) && nat_le (length name) 4096 && list_all (λ byte. not (byte == 0)) name
