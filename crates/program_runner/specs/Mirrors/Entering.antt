-- The call of an entry, and why there is none.
use Rattle.std.specs.Prelude.{◌≡◌, ◌⊎◌, ℤ, List, Option}
use Rattle.occam_base.specs.declared.code.Code.TheVariants as code
use Rattle.manifest.specs.declared.fault.Manifest.{Manifest}
use Rattle.ir_syntax.specs.declared.item.Func.{Func}
use Rattle.ir_syntax.specs.Programs.{ProgramData}
use Rattle.ir_steps.specs.Reached.{IsRoot}
use Rattle.linker.specs.declared.fault.LinkFault.TheVariants as link
use Rattle.program_loader.specs.declared.refusal.Detail.TheVariants as detail
use Rattle.program_loader.specs.declared.refusal.Refusal.{Refusal}
use Rattle.program_loader.specs.Refusing.{refusal}
use Rattle.program_loader.specs.Loading.{link_refusal}
use Rattle.session_runs.specs.declared.session.Root.{Root}
use Rattle.program_runner.specs.Running.{TakesAtEntry, MisfitsEntry}

pub record IsEntryRoot (p : ProgramData) (args : List (Option ℤ)) (words : List ℤ) (func : Func) (root : Root) : Type 0 where
  pub takes : TakesAtEntry p args words func root.args
  pub func_is : root.func ≡ p.entry
  pub is_root : IsRoot p root.func root.args

abbrev pub RefusesEntry : ProgramData → Manifest → List ℤ → Refusal → Type 0
RefusesEntry p m words r = (MisfitsEntry p m.args words × (r ≡ link_refusal (link.EntryShape m.entry))) ⊎ (r ≡ refusal code.OutOfMemory detail.Nothing)
