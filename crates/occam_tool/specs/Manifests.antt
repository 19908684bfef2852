-- Manifests of one module, and what a text says of one.
use Rattle.std.specs.Prelude.{◌≡◌, ℕ, suc, ◌-◌, ◌^◌, ◌<◌, ◌≤◌, ℤ, pos, negsuc, List, [], ◌∷◌, All, length, map, Option, Some, None}
use Rattle.ir_types.specs.declared.scalar.Known.{Known}
use Rattle.ir_types.specs.declared.scalar.Known.TheVariants.{Unknown, Num}
use Rattle.manifest.specs.declared.fault.Manifest.{Manifest}
use Rattle.manifest.specs.Manifest.{HasManifest}
use Rattle.occam_tool.specs.declared.plan.Plan.{Plan}

-- An argument is unknown, or an integer from -2^31 to 2^32 - 1.
abbrev pub IsWord : Option ℤ → Type 0
IsWord None = Unit {0}
IsWord (Some (pos n)) = n < 2 ^ 32
IsWord (Some (negsuc n)) = n < 2 ^ 31

-- what is known of the argument: its number modulo 2^32
abbrev pub known_arg : Option ℤ → Known
known_arg None = Unknown
known_arg (Some (pos n)) = Num n
known_arg (Some (negsuc n)) = Num (2 ^ 32 - suc n)

-- The manifest has one module, an entry with arguments of 32 bits, no exports and no outside names.
pub record IsSingle (manifest : Manifest) (file entry : List ℕ) (args : List Known) : Type 0 where
  pub one_module : manifest.modules ≡ file ∷ []
  pub entry_is : manifest.entry ≡ entry
  pub words : All IsWord manifest.args
  pub args_are : args ≡ map known_arg manifest.args
  pub no_exports : manifest.exports ≡ []
  pub no_outside : manifest.outside ≡ []

abbrev pub IsNoSingle : Manifest → Type 0
IsNoSingle manifest = (file entry : List ℕ) (args : List Known) → IsSingle manifest file entry args → ⊥

-- The text, of at most 1 MiB, is such a manifest, of this module, this entry and these arguments.
pub record IsSingleManifest (text file entry : List ℕ) (args : List Known) : Type 0 where
  pub size : length text ≤ 1048576
  pub manifest : Manifest
  pub is : HasManifest text manifest
  pub single : IsSingle manifest file entry args

abbrev pub PlanOf : List ℕ → Option Plan → Type 0
PlanOf text None = (file entry : List ℕ) (args : List Known) → IsSingleManifest text file entry args → ⊥
PlanOf text (Some plan) = IsSingleManifest text plan.file plan.entry plan.args
