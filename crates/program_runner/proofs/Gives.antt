-- What a run of an entry gives, of its steps.
use Rattle.std.proofs.Common.{◌≡◌, ◌∙◌, ◌⊎◌, inl, inr, ℕ, ℤ, List, [], ◌∷◌, Option, Some, None, option_and_then, Result, Ok, Err, refl, sym, ap, subst}
use Rattle.std.specs.Prelude.{IfSome, MatchOption}
use Rattle.occam_base.specs.declared.code.Code.TheVariants as code
use Rattle.occam_base.specs.Files.{FileMap}
use Rattle.manifest.specs.declared.fault.Manifest.{Manifest}
use Rattle.ir_syntax.specs.declared.item.Func.{Func}
use Rattle.std.proofs.lemmas.Option.{same_Some}
use Rattle.ir_syntax.specs.declared.item.Item.{Item}
use Rattle.ir_syntax.specs.declared.item.Item.TheVariants as item
use Rattle.ir_syntax.specs.Symbols.{item_at}
use Rattle.ir_syntax.specs.Programs.{ProgramData, IsProgram}
use Rattle.ir_steps.specs.Calls.{function_at, func_of}
use Rattle.ir_steps.specs.Reached.{IsRoot}
use Rattle.program_loader.specs.declared.loading.Loaded.{Loaded}
use Rattle.program_loader.specs.declared.refusal.Detail.TheVariants as detail
use Rattle.program_loader.specs.declared.refusal.Refusal.{Refusal}
use Rattle.program_loader.specs.Refusing.{refusal}
use Rattle.program_loader.specs.Loading.{Gives, IsLoaded, RefusesLoading, IsUnread}
use Rattle.session_runs.specs.declared.session.Root.{Root}
use Rattle.session_runs.specs.declared.session.Run.{Run}
use Rattle.session_runs.specs.declared.world.WorldFault.{WorldFault}
use Rattle.session_runs.specs.declared.world.WorldFault.TheVariants as fault
use Rattle.program_runner.specs.declared.ended.Ended.{Ended}
use Rattle.program_runner.specs.Arguments.{TakesWords}
use Rattle.program_runner.specs.Ending.{ended_of}
use Rattle.program_runner.specs.Running.{MisfitsEntry, entry_call, IsEntryFront, RunGives}
use Rattle.program_runner.specs.TinyRuns.{IsTinyRun, IsTinyFront}
use Rattle.program_runner.specs.Running.RefusesRun.{LoadingRefused, WordsRefused}
use Rattle.program_runner.specs.Running.RunGives.{Ran, Refused, Unread, Broke, Starved}
use Rattle.program_runner.specs.Mirrors.Entering.{IsEntryRoot, RefusesEntry}
use Rattle.program_runner.specs.Mirrors.Playing.{IsPlayed, IsBroken, fault_code}
use Rattle.program_runner.proofs.Entries.{function_is, entry_is_root}
use Rattle.program_runner.proofs.Texts.{took_none}

-- ---- the call of the entry

pub match_some : {X : Type 0} (A : Type 0) (P : X → Type 0) (o : Option X) (x : X) → o ≡ Some x → MatchOption o A P → P x
match_some {X} A P o x e m = subst (λ (p : Option X). MatchOption p A P) e m

pub match_none : {X : Type 0} (A : Type 0) (P : X → Type 0) (o : Option X) → o ≡ None → MatchOption o A P → A
match_none {X} A P o e m = subst (λ (p : Option X). MatchOption p A P) e m

pub root_is : (p : ProgramData) (func : Func) (args held : List (Option ℤ)) (words : List ℤ) (root : Root) → IsProgram p → function_at p p.entry ≡ Some func → held ≡ args → TakesWords func held words root.args → root.func ≡ p.entry
    → IsEntryRoot p args words func root
root_is p func args held words root is e same takes entry =
    let here : TakesWords func args words root.args = subst (λ (xs : List (Option ℤ)). TakesWords func xs words root.args) same takes in
    let at = function_is p p.entry func e in
    record {
      takes = record { entry_is = at; takes = here };
      func_is = entry;
      is_root = subst (λ s. IsRoot p s root.args) (sym entry) (entry_is_root p func args words root.args is at here);
    }

item_func : (o : Option Item) (f : Func) → o ≡ Some (item.Func f) → Some f ≡ option_and_then func_of o
item_func o f is = sym (ap (option_and_then func_of) is)

-- no other function is the entry
pub misfits : (p : ProgramData) (func : Func) (args held : List (Option ℤ)) (words : List ℤ) → function_at p p.entry ≡ Some func → held ≡ args → ((numbers : List ℕ) → TakesWords func held words numbers → ⊥) → MisfitsEntry p args words
misfits p func args held words e same none = λ other numbers takes.
    let f : other ≡ func = same_Some other func (item_func (item_at p.modules p.entry) other takes.entry_is ∙ sym (item_func (item_at p.modules p.entry) func (function_is p p.entry func e))) in
    none numbers (subst (λ (x : Func). TakesWords x held words numbers) f (subst (λ (xs : List (Option ℤ)). TakesWords other xs words numbers) (sym same) takes.takes))

-- ---- answers

unloaded : (files : FileMap) (read : List ℕ) (n : ℕ) (words : List ℤ) (source taken : Option (List ℕ)) (r : Refusal)
    → RefusesLoading files read r ⊎ (IsUnread files read r ⊎ (r ≡ refusal code.OutOfMemory detail.Nothing)) → RunGives files read n words source taken taken (Err r)
unloaded files read n words source taken r (inl h) = Refused r (LoadingRefused h) (took_none taken) refl
unloaded files read n words source taken r (inr (inl h)) = Unread r h (took_none taken) refl
unloaded files read n words source taken r (inr (inr e)) = Starved [] (inl refl) (took_none taken) (ap (λ x. Err x) e)

pub load_gives : (files : Option FileMap) (read name : List ℕ) (n : ℕ) (words : List ℤ) (source taken : Option (List ℕ)) (r : Refusal) → read ≡ name → IfSome files (λ f. Gives f read (Err r))
    → IfSome files (λ f. RunGives f name n words source taken taken (Err r))
load_gives None read name n words source taken r same gives = tt
load_gives (Some files) read name n words source taken r same gives =
    subst (λ (x : List ℕ). RunGives files x n words source taken taken (Err r)) same (unloaded files read n words source taken r gives)

pub loaded_gives : (files : Option FileMap) (read name : List ℕ) (n : ℕ) (words : List ℤ) (source taken now : Option (List ℕ)) (loaded : Loaded) (answer : Result Ended Refusal) → read ≡ name → IfSome files (λ f. Gives f read (Ok loaded))
    → ((f : FileMap) (x : List ℕ) → IsLoaded f x loaded.manifest loaded.program → RunGives f x n words source taken now answer) → IfSome files (λ f. RunGives f name n words source taken now answer)
loaded_gives None read name n words source taken now loaded answer same gives runs = tt
loaded_gives (Some files) read name n words source taken now loaded answer same gives runs =
    subst (λ (x : List ℕ). RunGives files x n words source taken now answer) same (runs files read gives)

pub entry_gives : (files : FileMap) (name : List ℕ) (n : ℕ) (m : Manifest) (p : ProgramData) (words : List ℤ) (source taken : Option (List ℕ)) (r : Refusal) → IsLoaded files name m p → RefusesEntry p m words r
    → RunGives files name n words source taken taken (Err r)
entry_gives files name n m p words source taken r loaded (inl (misfit, e)) = Refused r (WordsRefused m p loaded misfit e) (took_none taken) refl
entry_gives files name n m p words source taken r loaded (inr e) = Starved [] (inl refl) (took_none taken) (ap (λ x. Err x) e)

the_call : (p : ProgramData) (args : List (Option ℤ)) (words : List ℤ) (func : Func) (root : Root) (roots : List Root) → IsEntryRoot p args words func root → roots ≡ root ∷ [] → roots ≡ entry_call p root.args
the_call p args words func root roots is e = e ∙ ap (λ s. record { func = s; args = root.args } ∷ []) is.func_is

pub run_gives : (files : FileMap) (name : List ℕ) (n : ℕ) (m : Manifest) (p : ProgramData) (func : Func) (root : Root) (roots : List Root) (words : List ℤ) (source taken now : Option (List ℕ)) (shown : Run) (ended : Ended)
    → IsLoaded files name m p → IsEntryRoot p m.args words func root → roots ≡ root ∷ [] → IsPlayed p roots n source taken now shown → ended ≡ ended_of func.returns shown
    → RunGives files name n words source taken now (Ok ended)
run_gives files name n m p func root roots words source taken now shown ended loaded is are played e =
    Ran ended played.text
    (record {
      program = p;
      func = func;
      numbers = root.args;
      entered = record { manifest = m; loaded = loaded; takes = is.takes };
      shown = shown;
      played = subst (λ (rs : List Root). IsTinyRun p rs n source shown played.text) (the_call p m.args words func root roots is are) played.is;
      ended_is = e;
    })
    played.took refl

front_is : (files : FileMap) (name : List ℕ) (n : ℕ) (m : Manifest) (p : ProgramData) (func : Func) (root : Root) (roots : List Root) (words : List ℤ) (source taken now : Option (List ℕ)) (b : IsBroken p roots n source taken now)
    → IsLoaded files name m p → IsEntryRoot p m.args words func root → roots ≡ root ∷ [] → IsEntryFront files name n words source b.text
front_is files name n m p func root roots words source taken now b loaded is are = record {
  program = p;
  func = func;
  numbers = root.args;
  entered = record { manifest = m; loaded = loaded; takes = is.takes };
  played = subst (λ (rs : List Root). IsTinyFront p rs n source b.text) (the_call p m.args words func root roots is are) b.is;
}

pub break_gives : (files : FileMap) (name : List ℕ) (n : ℕ) (m : Manifest) (p : ProgramData) (func : Func) (root : Root) (roots : List Root) (words : List ℤ) (source taken now : Option (List ℕ)) (f : WorldFault) (r : Refusal)
    → IsLoaded files name m p → IsEntryRoot p m.args words func root → roots ≡ root ∷ [] → IsBroken p roots n source taken now → r ≡ refusal (fault_code f) detail.Nothing → RunGives files name n words source taken now (Err r)
break_gives files name n m p func root roots words source taken now fault.Source r loaded is are b e =
    Broke code.SourceFault b.text (inl refl) (front_is files name n m p func root roots words source taken now b loaded is are) b.took (ap (λ x. Err x) e)
break_gives files name n m p func root roots words source taken now fault.Sink r loaded is are b e =
    Broke code.PrintFault b.text (inr refl) (front_is files name n m p func root roots words source taken now b loaded is are) b.took (ap (λ x. Err x) e)
break_gives files name n m p func root roots words source taken now fault.OutOfMemory r loaded is are b e =
    Starved b.text (inr (front_is files name n m p func root roots words source taken now b loaded is are)) b.took (ap (λ x. Err x) e)
