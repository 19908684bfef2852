-- What linking refuses: conditions on whole programs and one name, over all items of all modules.
use Rattle.std.specs.Prelude.{◌≡◌, ◌≢◌, ℕ, ◌-◌, ◌^◌, ◌⊎◌, false, ℤ, pos, ◌≤ℤ◌, List, [], ◌∷◌, ◌++◌, Option, None, Some, All}
use Rattle.std.specs.List.{AllZip, Contains}
use Rattle.std.specs.declared.cmp.Ordering.TheVariants.{Less}
use Rattle.std.specs.Cmp.Lexicographic.{slice_cmp}
use Rattle.std.specs.Ordering.{nat_cmp}
use Rattle.ir_types.specs.declared.scalar.Scalar.TheVariants.{Ptr}
use Rattle.ir_types.specs.Scalars.{width, least_signed}
use Rattle.ir_syntax.specs.declared.symbol.Sym.{Sym}
use Rattle.ir_syntax.specs.declared.symbol.Builtin.{Builtin}
use Rattle.ir_syntax.specs.declared.item.Param.{Param}
use Rattle.ir_syntax.specs.declared.item.Func.{Func}
use Rattle.ir_syntax.specs.declared.item.Item.{Item}
use Rattle.ir_syntax.specs.declared.item.Item.TheVariants as item
use Rattle.ir_syntax.specs.declared.item.Module.{Module}
use Rattle.ir_syntax.specs.Builtins.{builtin_named, type_of_builtin}
use Rattle.ir_syntax.specs.Intrinsics.{is_intrinsic}
use Rattle.ir_syntax.specs.FunctionTypes.{function_type}
use Rattle.ir_syntax.specs.Named.{item_names}
use Rattle.ir_syntax.specs.Symbols.{item_at, IsItemOf, IsDefinitionOf, IsUndefined, IsFunctionOf}

-- What a deployment says of its program: the entry and its arguments, of which some aren't known, the exports, and the
-- names that may be called outside.
pub record Deployment : Type 0 where
  pub entry : List ℕ
  pub args : List (Option ℤ)
  pub exports : List (List ℕ)
  pub outside : List (List ℕ)

-- ---- definitions

-- Two items of the external name are defined.
pub record HasTwoDefinitions (modules : List Module) (name : List ℕ) : Type 0 where
  pub one : Sym
  pub other : Sym
  pub apart : one ≢ other
  pub one_defined : IsDefinitionOf modules name one
  pub other_defined : IsDefinitionOf modules name other

-- A body or an initialiser names an item of the external name. It counts where nothing needs it, too, and so does what
-- stands in blocks that no path reaches.
pub record IsNamed (modules : List Module) (name : List ℕ) : Type 0 where
  -- the item whose body or initialiser it is
  pub by : Sym
  pub user : Item
  pub stands : item_at modules by ≡ Some user
  -- the place of the item that is named, in the same module
  pub place : ℕ
  pub names : Contains (item_names user) place
  pub found : Item
  pub is_of : IsItemOf modules name (record { «module» = by.module; item = place }) found

-- The name is listed among those outside, and some item of it is a function.
pub record IsListed (modules : List Module) (outside : List (List ℕ)) (name : List ℕ) : Type 0 where
  pub listed : Contains outside name
  pub symbol : Sym
  pub func : Func
  pub is_of : IsItemOf modules name symbol (item.Func func)

-- The name is named and has no definition, and it is neither an intrinsic's, nor a built-in function's, nor listed.
pub record IsMissing (modules : List Module) (outside : List (List ℕ)) (name : List ℕ) : Type 0 where
  pub named : IsNamed modules name
  pub undefined : IsUndefined modules name
  pub not_intrinsic : is_intrinsic name ≡ false
  pub not_builtin : builtin_named name ≡ None
  pub not_listed : IsListed modules outside name → ⊥

-- ---- types. Neither the types of variables count, nor how parameters and results are extended.

-- Two items of the name aren't both variables or both functions of one type.
pub record DifferInType (modules : List Module) (name : List ℕ) : Type 0 where
  pub one : Sym
  pub other : Sym
  pub one_found : Item
  pub other_found : Item
  pub one_of : IsItemOf modules name one one_found
  pub other_of : IsItemOf modules name other other_found
  pub differ : function_type (Some one_found) ≢ function_type (Some other_found)

-- The name is a built-in function's, none defines it, and an item of it isn't a function of its type.
pub record DiffersFromBuiltin (modules : List Module) (name : List ℕ) : Type 0 where
  pub builtin : Builtin
  pub is_builtin : builtin_named name ≡ Some builtin
  pub undefined : IsUndefined modules name
  pub symbol : Sym
  pub found : Item
  pub is_of : IsItemOf modules name symbol found
  pub differs : function_type (Some found) ≢ Some (type_of_builtin builtin)

abbrev pub ClashesInType : List Module → List ℕ → Type 0
ClashesInType modules name = DifferInType modules name ⊎ DiffersFromBuiltin modules name

-- ---- entry and exports

-- No external function of the name has a body.
abbrev pub LacksFunction : List Module → List ℕ → Type 0
LacksFunction modules name = (symbol : Sym) (func : Func) → IsFunctionOf modules name symbol func → ⊥

-- Neither a parameter nor the result is a pointer.
pub record HasPlainShape (func : Func) : Type 0 where
  pub params : All (λ param. param.ty ≢ Ptr) func.params
  pub returns : func.returns ≢ Some Ptr

-- An argument that is known lies in -2^(w-1) to 2^w - 1, where the parameter has w bits.
abbrev pub IsArgumentOf : Param → Option ℤ → Type 0
IsArgumentOf param None = Unit {0}
IsArgumentOf param (Some z) = (least_signed param.ty ≤ℤ z) × (z ≤ℤ pos (2 ^ width param.ty - 1))

-- The function has a plain shape, and there is one argument of its type for each parameter.
pub record FitsEntry (args : List (Option ℤ)) (func : Func) : Type 0 where
  pub plain : HasPlainShape func
  pub args_fit : AllZip IsArgumentOf func.params args

-- Some function with the name and a body doesn't fit.
pub record HasOtherShape (modules : List Module) (Fits : Func → Type 0) (name : List ℕ) : Type 0 where
  pub symbol : Sym
  pub func : Func
  pub is_function : IsFunctionOf modules name symbol func
  pub misfits : Fits func → ⊥

-- ---- the rules, and their order

pub data Rule : Type 0 where
  TwoDefinitions : Rule
  NoDefinition : Rule
  TypeClash : Rule
  NoEntry : Rule
  EntryShape : Rule
  NoExport : Rule
  ExportShape : Rule

-- the rules before
abbrev pub earlier : Rule → List Rule
earlier TwoDefinitions = []
earlier NoDefinition = TwoDefinitions ∷ []
earlier TypeClash = TwoDefinitions ∷ NoDefinition ∷ []
earlier NoEntry = TwoDefinitions ∷ NoDefinition ∷ TypeClash ∷ []
earlier EntryShape = TwoDefinitions ∷ NoDefinition ∷ TypeClash ∷ NoEntry ∷ []
earlier NoExport = TwoDefinitions ∷ NoDefinition ∷ TypeClash ∷ NoEntry ∷ EntryShape ∷ []
earlier ExportShape = TwoDefinitions ∷ NoDefinition ∷ TypeClash ∷ NoEntry ∷ EntryShape ∷ NoExport ∷ []

abbrev pub all_rules : List Rule
all_rules = TwoDefinitions ∷ NoDefinition ∷ TypeClash ∷ NoEntry ∷ EntryShape ∷ NoExport ∷ ExportShape ∷ []

-- The name breaks the rule.
abbrev pub Breaks : List Module → Deployment → Rule → List ℕ → Type 0
Breaks modules d TwoDefinitions name = HasTwoDefinitions modules name
Breaks modules d NoDefinition name = IsMissing modules d.outside name
Breaks modules d TypeClash name = ClashesInType modules name
Breaks modules d NoEntry name = (name ≡ d.entry) × LacksFunction modules name
Breaks modules d EntryShape name = (name ≡ d.entry) × HasOtherShape modules (FitsEntry d.args) name
Breaks modules d NoExport name = Contains d.exports name × LacksFunction modules name
Breaks modules d ExportShape name = Contains d.exports name × HasOtherShape modules HasPlainShape name

-- No name breaks the rule.
abbrev pub IsKept : List Module → Deployment → Rule → Type 0
IsKept modules d rule = (name : List ℕ) → Breaks modules d rule name → ⊥

-- The name breaks the rule, and no lesser one by its bytes does.
pub record IsLeast (Broken : List ℕ → Type 0) (name : List ℕ) : Type 0 where
  pub broken : Broken name
  pub least : (other : List ℕ) → Broken other → slice_cmp nat_cmp other name ≢ Less

-- The name breaks the rule, and none before it in the list does.
pub record IsFirst (names : List (List ℕ)) (Broken : List ℕ → Type 0) (name : List ℕ) : Type 0 where
  pub before : List (List ℕ)
  pub after : List (List ℕ)
  pub stands : names ≡ before ++ name ∷ after
  pub broken : Broken name
  pub first : All (λ other. Broken other → ⊥) before

-- of the exports the first counts, else the least name
abbrev pub IsChosen : List Module → Deployment → Rule → List ℕ → Type 0
IsChosen modules d TwoDefinitions name = IsLeast (Breaks modules d TwoDefinitions) name
IsChosen modules d NoDefinition name = IsLeast (Breaks modules d NoDefinition) name
IsChosen modules d TypeClash name = IsLeast (Breaks modules d TypeClash) name
IsChosen modules d NoEntry name = IsLeast (Breaks modules d NoEntry) name
IsChosen modules d EntryShape name = IsLeast (Breaks modules d EntryShape) name
IsChosen modules d NoExport name = IsFirst d.exports (Breaks modules d NoExport) name
IsChosen modules d ExportShape name = IsFirst d.exports (Breaks modules d ExportShape) name

-- Linking refuses the name by the rule: it is chosen among those that break it, and each rule before is kept.
pub record IsRefused (modules : List Module) (d : Deployment) (rule : Rule) (name : List ℕ) : Type 0 where
  pub earlier_kept : All (IsKept modules d) (earlier rule)
  pub chosen : IsChosen modules d rule name
