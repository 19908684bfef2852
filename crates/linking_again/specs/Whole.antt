-- Of which sets of demands the laws on winnowed modules speak.
use Rattle.std.specs.Prelude.{◌≡◌, ◌≢◌, ℕ, ◌≤◌, Bool, true, false, List, [], Option, None, Some, All, AllPairs, Contains, length, map, slice_get}
use Rattle.ir_types.specs.declared.scalar.Known.{Known}
use Rattle.ir_syntax.specs.declared.constant.Const.{Const}
use Rattle.ir_syntax.specs.declared.symbol.Sym.{Sym}
use Rattle.ir_syntax.specs.declared.body.Body.{Body}
use Rattle.ir_syntax.specs.declared.item.Func.{Func}
use Rattle.ir_syntax.specs.declared.item.Var.{Var}
use Rattle.ir_syntax.specs.declared.item.Item.{Item}
use Rattle.ir_syntax.specs.declared.item.Item.TheVariants as item
use Rattle.ir_syntax.specs.declared.item.Module.{Module}
use Rattle.ir_syntax.specs.Symbols.{item_at}
use Rattle.ir_syntax.specs.Programs.{ProgramData}
use Rattle.fold_facts.specs.Assigned.{Assigned}
use Rattle.demands.specs.declared.demand.Demand.{Demand}
use Rattle.demands.specs.declared.demand.Demand.TheVariants.{Func as function, Var as variable}
use Rattle.demands.specs.Order.{symbol_of}
use Rattle.interface.specs.Roots.{roots}
use Rattle.specialise.specs.Residual.{residual}
use Rattle.specialise.specs.Needs.{body_asks, init_asks}
use Rattle.residual_laws.specs.Left.{IsLeft, AreAsked}
use Rattle.winnowed_form.specs.declared.member.Member.{Member}
use Rattle.winnowed_form.specs.Basis.{Basis, basis}
use Rattle.winnowed_form.specs.Copies.{is_copy}

-- ---- members

-- The symbol names a function, and the body is what is left of it by a closed assignment whose reached edges are asked for and led
-- to, where this is known of its parameters.
pub record IsFunctionLeft (p : ProgramData) (symbol : Sym) (pattern : List Known) (body : Option Body) : Type 0 where
  pub home : Module
  pub stands : slice_get p.modules symbol.module ≡ Some home
  pub func : Func
  pub is_function : slice_get home.items symbol.item ≡ Some (item.Func func)
  pub assigned : Assigned
  pub left : IsLeft home.items pattern func assigned
  pub asked : AreAsked pattern func assigned
  pub is : body ≡ Some (residual pattern func assigned)

-- The symbol names a variable that has an initialiser.
pub record IsVariableLeft (p : ProgramData) (symbol : Sym) (body : Option Body) : Type 0 where
  pub var : Var
  pub is_variable : item_at p.modules symbol ≡ Some (item.Var var)
  pub init : Const
  pub defined : var.init ≡ Some init
  pub is : body ≡ None

abbrev pub IsLeftOf : ProgramData → Demand → Option Body → Type 0
IsLeftOf p (variable symbol) body = IsVariableLeft p symbol body
IsLeftOf p (function symbol pattern) body = IsFunctionLeft p symbol pattern body

-- ---- what members ask for

abbrev pub item_asks : ProgramData → ℕ → Option Item → List Demand
item_asks p home None = []
item_asks p home (Some (item.Var var)) = init_asks p home var.init
item_asks p home (Some (item.Func func)) = []

abbrev pub left_asks : ProgramData → List (List Bool) → ℕ → Option Body → List Demand
left_asks p cycles home None = []
left_asks p cycles home (Some body) = body_asks p cycles home body.blocks

-- a function asks for what its residual body does, and a variable for what its initialiser does
abbrev pub asks_by : ProgramData → List (List Bool) → Demand → Option Body → List Demand
asks_by p cycles (variable symbol) body = item_asks p symbol.module (item_at p.modules symbol)
asks_by p cycles (function symbol pattern) body = left_asks p cycles symbol.module body

abbrev pub asks : ProgramData → List (List Bool) → Member → List Demand
asks p cycles member = asks_by p cycles member.demand member.body

-- ---- sets

abbrev pub demands_of : List Member → List Demand
demands_of members = map (λ member. member.demand) members

-- A copy has a name that leaves room for its pattern.
abbrev pub HasShortName : Basis → Demand → Type 0
HasShortName b d = is_copy b d ≡ true → (func : Func) → item_at b.program.modules (symbol_of d) ≡ Some (item.Func func) → length func.name ≤ 3072

-- The set has the roots and all that its members ask for, no demand twice. Copies are of functions whose names have at most 3,072
-- bytes, and no two members are one function under its own name: so the entry that is specialised stands alone.
pub record IsWhole (p : ProgramData) (cycles : List (List Bool)) (members : List Member) : Type 0 where
  pub left : All (λ member. IsLeftOf p member.demand member.body) members
  pub rooted : All (Contains (demands_of members)) (roots p cycles)
  pub closed : All (λ member. All (Contains (demands_of members)) (asks p cycles member)) members
  pub distinct : AllPairs (λ d e. d ≢ e) (demands_of members)
  pub short : All (λ member. HasShortName (basis p cycles) member.demand) members
  pub alone : (d e : Demand) → Contains (demands_of members) d → Contains (demands_of members) e → is_copy (basis p cycles) d ≡ false → is_copy (basis p cycles) e ≡ false
      → symbol_of d ≡ symbol_of e → d ≡ e
