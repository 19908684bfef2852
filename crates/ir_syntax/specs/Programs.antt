-- Whole programs as data, what their type keeps, and what linking makes of modules for a deployment.
use Rattle.std.specs.Prelude.{◌≡◌, ℕ, ◌<◌, ◌^◌, ℤ, List, [], ◌∷◌, Option, None, Some, All, length}
use Rattle.std.specs.List.{AllZip}
use Rattle.ir_types.specs.declared.scalar.Known.{Known}
use Rattle.ir_types.specs.declared.scalar.Known.TheVariants.{Unknown, Num}
use Rattle.ir_types.specs.Scalars.{integer_modulo}
use Rattle.ir_syntax.specs.declared.symbol.Sym.{Sym}
use Rattle.ir_syntax.specs.declared.symbol.Target.{Target}
use Rattle.ir_syntax.specs.declared.item.Param.{Param}
use Rattle.ir_syntax.specs.declared.item.Func.{Func}
use Rattle.ir_syntax.specs.declared.item.Module.{Module}
use Rattle.ir_syntax.specs.Formed.{Formed}
use Rattle.ir_syntax.specs.Typed.{Typed}
use Rattle.ir_syntax.specs.Definite.{Definite}
use Rattle.ir_syntax.specs.Symbols.{item_at, IsFunctionFor, IsDefinedFunction, IsFunctionOf}
use Rattle.ir_syntax.specs.Refusals.{Deployment, HasTwoDefinitions, IsMissing, ClashesInType, IsKept, all_rules}
use Rattle.ir_syntax.specs.Targets.{IsTarget, IsCanonical, AreEntries}

-- Targets and canonical symbols stand by module and item.
pub record ProgramData : Type 0 where
  pub modules : List Module
  pub targets : List (List Target)
  pub canonical : List (List Sym)
  pub entry : Sym
  pub entry_args : List Known
  pub exports : List Sym

-- A module that a text can write, well typed, and definite.
pub record IsSoundModule (m : Module) : Type 0 where
  pub formed : Formed m
  pub typed : Typed m
  pub definite : Definite m

-- Fewer than 2^31 sound modules, with fewer than 2^32 items each.
pub record AreSoundModules (modules : List Module) : Type 0 where
  pub sound : All IsSoundModule modules
  pub few : length modules < 2 ^ 31
  pub few_items : All (λ m. length m.items < 2 ^ 32) modules

-- Each item has its target, and no name is refused, where these names are outside.
pub record IsLinkedUnder (p : ProgramData) (outside : List (List ℕ)) : Type 0 where
  pub targets : AreEntries Target p.modules (IsTarget p.modules outside) p.targets
  pub one_definition : (name : List ℕ) → HasTwoDefinitions p.modules name → ⊥
  pub none_missing : (name : List ℕ) → IsMissing p.modules outside name → ⊥
  pub no_clash : (name : List ℕ) → ClashesInType p.modules name → ⊥

-- What the type of programs keeps.
pub record IsProgram (p : ProgramData) : Type 0 where
  pub sound : AreSoundModules p.modules
  pub canonical : AreEntries Sym p.modules (IsCanonical p.modules) p.canonical
  -- some list of names outside under which it is linked
  pub outside : List (List ℕ)
  pub linked : IsLinkedUnder p outside
  -- the entry has a body, and what is known of its arguments fits its parameters
  pub entry : IsFunctionFor p.entry_args (item_at p.modules p.entry)
  pub exports : All (λ symbol. IsDefinedFunction (item_at p.modules symbol)) p.exports

-- ---- linking

-- what is known of an argument: its number modulo 2^w
abbrev pub argument_of : Param → Option ℤ → Known
argument_of param None = Unknown
argument_of param (Some z) = Num (integer_modulo param.ty z)

-- one for each parameter
abbrev pub arguments_of : List Param → List (Option ℤ) → List Known
arguments_of [] args = []
arguments_of (param ∷ params) [] = []
arguments_of (param ∷ params) (arg ∷ args) = argument_of param arg ∷ arguments_of params args

-- The symbol names the external function of the name that has a body.
pub record IsNamedFunction (modules : List Module) (name : List ℕ) (symbol : Sym) : Type 0 where
  pub func : Func
  pub is_function : IsFunctionOf modules name symbol func

-- The entry with what is known of its arguments.
pub record IsEntryWith (modules : List Module) (d : Deployment) (symbol : Sym) (known : List Known) : Type 0 where
  pub func : Func
  pub is_function : IsFunctionOf modules d.entry symbol func
  pub args : known ≡ arguments_of func.params d.args

-- The program is these modules unchanged, linked for the deployment: each rule is kept.
pub record Linked (modules : List Module) (d : Deployment) (p : ProgramData) : Type 0 where
  pub modules_are : p.modules ≡ modules
  pub kept : All (IsKept modules d) all_rules
  pub targets : AreEntries Target modules (IsTarget modules d.outside) p.targets
  pub canonical : AreEntries Sym modules (IsCanonical modules) p.canonical
  pub entry : IsEntryWith modules d p.entry p.entry_args
  pub exports : AllZip (IsNamedFunction modules) d.exports p.exports
