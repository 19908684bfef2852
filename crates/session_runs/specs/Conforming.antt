-- Which sessions conform to the deployment that a program is linked for.
use Rattle.std.specs.Prelude.{◌≡◌, ◌⊎◌, ℕ, All, Contains}
use Rattle.std.specs.List.{AllZip}
use Rattle.ir_types.specs.declared.scalar.Known.{Known}
use Rattle.ir_types.specs.declared.scalar.Known.TheVariants.{Unknown, Num, Null}
use Rattle.ir_syntax.specs.Programs.{ProgramData}
use Rattle.ir_steps.specs.Reached.{IsRoot}
use Rattle.session_runs.specs.declared.session.Root.{Root}
use Rattle.session_runs.specs.declared.session.Session.{Session}

-- a number is as is known
abbrev pub IsAsKnown : Known → ℕ → Type 0
IsAsKnown Unknown n = Unit {0}
IsAsKnown (Num known) n = n ≡ known
IsAsKnown Null n = ⊥

-- A call of the entry or of an export, with a number of its type for each parameter; one of the entry has the arguments that are known.
pub record IsConformingRoot (p : ProgramData) (root : Root) : Type 0 where
  pub from_outside : (root.func ≡ p.entry) ⊎ Contains p.exports root.func
  pub takes : IsRoot p root.func root.args
  pub known : root.func ≡ p.entry → AllZip IsAsKnown p.entry_args root.args

abbrev pub Conforms : ProgramData → Session → Type 0
Conforms p s = All (IsConformingRoot p) s.roots
