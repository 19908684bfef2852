-- What `run` answers over the files of a shelf and the bytes of a source.
use Rattle.std.specs.Prelude.{◌≡◌, ◌⊎◌, ℕ, ℤ, List, [], ◌∷◌, ◌++◌, Option, Some, None, Result, Ok, Err}
use Rattle.occam_base.specs.declared.code.Code.{Code}
use Rattle.occam_base.specs.declared.code.Code.TheVariants as code
use Rattle.occam_base.specs.Files.{FileMap}
use Rattle.manifest.specs.declared.fault.Manifest.{Manifest}
use Rattle.ir_syntax.specs.declared.item.Func.{Func}
use Rattle.ir_syntax.specs.declared.item.Item.TheVariants as item
use Rattle.ir_syntax.specs.Programs.{ProgramData}
use Rattle.ir_syntax.specs.Symbols.{item_at}
use Rattle.linker.specs.declared.fault.LinkFault.TheVariants as link
use Rattle.program_loader.specs.declared.refusal.Refusal.{Refusal}
use Rattle.program_loader.specs.declared.refusal.Detail.TheVariants as detail
use Rattle.program_loader.specs.Refusing.{refusal, CanRefuse}
use Rattle.program_loader.specs.Loading.{IsLoaded, RefusesLoading, IsUnread, link_refusal}
use Rattle.session_runs.specs.declared.session.Root.{Root}
use Rattle.session_runs.specs.declared.session.Run.{Run}
use Rattle.program_runner.specs.declared.ended.Ended.{Ended}
use Rattle.program_runner.specs.Arguments.{TakesWords}
use Rattle.program_runner.specs.Ending.{ended_of}
use Rattle.program_runner.specs.TinyRuns.{IsTinyRun, IsTinyFront}

-- ---- what a sink took

-- just this text more, where it tells
abbrev pub Took : Option (List ℕ) → Option (List ℕ) → List ℕ → Type 0
Took None now text = Unit {0}
Took (Some taken) now text = now ≡ Some (taken ++ text)

-- ---- the entry and its arguments

-- The program's entry takes the manifest's arguments and the words as these numbers.
pub record TakesAtEntry (p : ProgramData) (args : List (Option ℤ)) (words : List ℤ) (func : Func) (numbers : List ℕ) : Type 0 where
  pub entry_is : item_at p.modules p.entry ≡ Some (item.Func func)
  pub takes : TakesWords func args words numbers

-- It takes them as no numbers: there are too few words or too many, or one is out of its parameter's range.
abbrev pub MisfitsEntry : ProgramData → List (Option ℤ) → List ℤ → Type 0
MisfitsEntry p args words = (func : Func) (numbers : List ℕ) → TakesAtEntry p args words func numbers → ⊥

-- the call of the entry
abbrev pub entry_call : ProgramData → List ℕ → List Root
entry_call p numbers = record { func = p.entry; args = numbers } ∷ []

-- ---- refusals

-- Why nothing is run: the program isn't loaded, or its entry doesn't take the words.
pub data RefusesRun (files : FileMap) (name : List ℕ) (words : List ℤ) (r : Refusal) : Type 0 where
  LoadingRefused : RefusesLoading files name r → RefusesRun files name words r
  WordsRefused : (m : Manifest) (p : ProgramData) → IsLoaded files name m p → MisfitsEntry p m.args words → r ≡ link_refusal (link.EntryShape m.entry) → RefusesRun files name words r

-- ---- runs

-- The program is loaded, and its entry takes the words.
pub record IsEntered (files : FileMap) (name : List ℕ) (words : List ℤ) (p : ProgramData) (func : Func) (numbers : List ℕ) : Type 0 where
  pub manifest : Manifest
  pub loaded : IsLoaded files name manifest p
  pub takes : TakesAtEntry p manifest.args words func numbers

-- The run of the entry with the small world, how it ended, and what it wrote.
pub record IsEntryRun (files : FileMap) (name : List ℕ) (n : ℕ) (words : List ℤ) (source : Option (List ℕ)) (ended : Ended) (text : List ℕ) : Type 0 where
  pub program : ProgramData
  pub func : Func
  pub numbers : List ℕ
  pub entered : IsEntered files name words program func numbers
  pub shown : Run
  pub played : IsTinyRun program (entry_call program numbers) n source shown text
  pub ended_is : ended ≡ ended_of func.returns shown

-- A front of what that run writes.
pub record IsEntryFront (files : FileMap) (name : List ℕ) (n : ℕ) (words : List ℤ) (source : Option (List ℕ)) (text : List ℕ) : Type 0 where
  pub program : ProgramData
  pub func : Func
  pub numbers : List ℕ
  pub entered : IsEntered files name words program func numbers
  pub played : IsTinyFront program (entry_call program numbers) n source text

-- What `run` answers, and what it writes before.
abbrev pub Runs : FileMap → List ℕ → ℕ → List ℤ → Option (List ℕ) → Result Ended Refusal → List ℕ → Type 0
Runs files name n words source (Ok ended) text = IsEntryRun files name n words source ended text
Runs files name n words source (Err r) text = RefusesRun files name words r × (text ≡ [])

-- ---- what `run` gives

-- the codes of a source and of a sink that fail
abbrev pub IsBreak : Code → Type 0
IsBreak status = (status ≡ code.SourceFault) ⊎ (status ≡ code.PrintFault)

-- The answer over the files and the bytes of a source, where it tells them, and what the sink took more.
pub data RunGives (files : FileMap) (name : List ℕ) (n : ℕ) (words : List ℤ) (source taken taken_new : Option (List ℕ)) (answer : Result Ended Refusal) : Type 0 where
  -- the run, and all that it writes
  Ran : (ended : Ended) (text : List ℕ) → IsEntryRun files name n words source ended text → Took taken taken_new text → answer ≡ Ok ended
      → RunGives files name n words source taken taken_new answer
  -- a refusal, and nothing
  Refused : (r : Refusal) → RefusesRun files name words r → Took taken taken_new [] → answer ≡ Err r → RunGives files name n words source taken taken_new answer
  -- a file whose reading failed, and nothing
  Unread : (r : Refusal) → IsUnread files name r → Took taken taken_new [] → answer ≡ Err r → RunGives files name n words source taken taken_new answer
  -- a source or a sink that failed, and a front of what the run writes
  Broke : (failed : Code) (text : List ℕ) → IsBreak failed → IsEntryFront files name n words source text → Took taken taken_new text → answer ≡ Err (refusal failed detail.Nothing)
      → RunGives files name n words source taken taken_new answer
  -- want of memory, and nothing or such a front
  Starved : (text : List ℕ) → (text ≡ []) ⊎ IsEntryFront files name n words source text → Took taken taken_new text → answer ≡ Err (refusal code.OutOfMemory detail.Nothing)
      → RunGives files name n words source taken taken_new answer

-- the codes that a run is refused with: those of loading, and faults of the source and of the sink
abbrev pub CanRefuseRun : Code → Type 0
CanRefuseRun status = CanRefuse status ⊎ IsBreak status
