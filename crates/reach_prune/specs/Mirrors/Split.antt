-- Members by modules, as the code keeps them.
use Rattle.std.specs.Prelude.{◌≡◌, ℕ, ◌<◌, List, Some, All, length, slice_get}
use Rattle.ir_syntax.specs.declared.item.Module.{Module}
use Rattle.winnowed_form.specs.declared.member.Member.{Member}
use Rattle.winnowed_form.specs.Basis.{Basis}
use Rattle.winnowed_form.specs.Members.{defined_in}
use Rattle.winnowed_form.specs.Winnowed.{IsWinnowedModule}
use Rattle.reach_prune.specs.Mirrors.Members.{IsWritable}

-- For each of so many modules the members that it defines.
pub record AreSplit (modules : ℕ) (members : List Member) (lists : List (List Member)) : Type 0 where
  pub long : length lists ≡ modules
  pub each : (home : ℕ) → home < modules → slice_get lists home ≡ Some (defined_in home members)

abbrev pub AreWritable : Basis → List (List Member) → Type 0
AreWritable b lists = (home : ℕ) (members : List Member) → slice_get lists home ≡ Some members → All (IsWritable b home) members

-- what these lists leave of modules
pub record AreMade (b : Basis) (lists : List (List Member)) (modules made : List Module) : Type 0 where
  pub long : length made ≡ length modules
  pub each : (home : ℕ) (members : List Member) (m w : Module) → slice_get lists home ≡ Some members → slice_get modules home ≡ Some m → slice_get made home ≡ Some w → IsWinnowedModule b members home m w
