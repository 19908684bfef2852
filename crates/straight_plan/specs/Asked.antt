-- Which function with which known arguments a call asks for, and what is asked for at all.
use Rattle.std.specs.Prelude.{◌≡◌, ℕ, Bool, true, false, ◌==◌, nat_le, pos, zero, List, [], ◌∷◌, map, flat_map, length, slice_get, Contains, Option, None, Some, if◌then◌else◌}
use Rattle.std.specs.List.{list_any}
use Rattle.ir_types.specs.declared.scalar.Known.{Known}
use Rattle.ir_types.specs.declared.scalar.Known.TheVariants.{Unknown, Num, Null}
use Rattle.ir_syntax.specs.declared.constant.Const.{Const}
use Rattle.ir_syntax.specs.declared.constant.Const.TheVariants as const
use Rattle.ir_syntax.specs.declared.constant.Operand.{Operand}
use Rattle.ir_syntax.specs.declared.constant.Operand.TheVariants as operand
use Rattle.ir_syntax.specs.declared.body.Inst.{Inst}
use Rattle.ir_syntax.specs.declared.body.Inst.TheVariants as inst
use Rattle.ir_syntax.specs.declared.body.Body.{Body}
use Rattle.ir_syntax.specs.declared.item.Item.{Item}
use Rattle.ir_syntax.specs.declared.item.Item.TheVariants as item
use Rattle.ir_syntax.specs.declared.item.Module.{Module}
use Rattle.ir_syntax.specs.FormedBody.{item_name}
use Rattle.demands.specs.declared.demand.Demand.{Demand}
use Rattle.demands.specs.declared.demand.Demand.TheVariants.{Func}
use Rattle.straight_plan.specs.declared.fact.Fact.{Fact}
use Rattle.straight_plan.specs.declared.cut.Ask.{Ask}
use Rattle.straight_plan.specs.Folding.{IsLeastClosed}
use Rattle.straight_plan.specs.Residual.{residual}

-- the same as a demand of a program of this one module
abbrev pub demand_of : Ask → Demand
demand_of ask = Func (record { «module» = 0; item = ask.place }) ask.pattern

-- ---- items

-- the items of a program's first module
abbrev pub program_items : List Module → List Item
program_items [] = []
program_items (m ∷ ms) = m.items

abbrev pub body_insts : Option Body → List Inst
body_insts None = []
body_insts (Some body) = flat_map (λ block. block.insts) body.blocks

-- the instructions of the item at a place
abbrev pub insts_at : Option Item → List Inst
insts_at None = []
insts_at (Some (item.Var v)) = []
insts_at (Some (item.Func f)) = body_insts f.body

abbrev pub name_at : Option Item → List ℕ
name_at None = []
name_at (Some i) = item_name i

-- ---- calls

abbrev pub place_in : Const → Option ℕ
place_in (const.Int n) = None
place_in const.Null = None
place_in (const.Addr place (pos zero)) = Some place
place_in (const.Addr place offset) = None
place_in const.Undef = None
place_in const.Poison = None
place_in const.Zero = None
place_in (const.Text bytes) = None
place_in (const.Many' shape parts) = None

-- the place of the function whose name is written as the callee
abbrev pub written_callee : Operand → Option ℕ
written_callee (operand.Param k) = None
written_callee (operand.Reg k) = None
written_callee (operand.Const c) = place_in c

abbrev pub known_const : Const → Known
known_const (const.Int n) = Num n
known_const const.Null = Null
known_const (const.Addr place offset) = Unknown
known_const const.Undef = Unknown
known_const const.Poison = Unknown
known_const const.Zero = Unknown
known_const (const.Text bytes) = Unknown
known_const (const.Many' shape parts) = Unknown

-- what is known of an argument, once known values are put in
abbrev pub known_of : Operand → Known
known_of (operand.Param k) = Unknown
known_of (operand.Reg k) = Unknown
known_of (operand.Const c) = known_const c

abbrev pub forgotten : List Known → List Known
forgotten pattern = map (λ known. Unknown) pattern

-- A function with a name of more than 3,072 bytes isn't copied.
abbrev pub is_copied : List Item → ℕ → Bool
is_copied items place = nat_le (length (name_at (slice_get items place))) 3072

-- what is asked for, with this pattern known
abbrev pub asked : List Item → ℕ → List Known → Ask
asked items place pattern = record { place = place; pattern = if is_copied items place then pattern else forgotten pattern }

abbrev pub asked_at : List Item → Option ℕ → List Known → List Ask
asked_at items None pattern = []
asked_at items (Some place) pattern = asked items place pattern ∷ []

-- what an instruction of a residual body asks for
abbrev pub asks : List Item → Inst → List Ask
asks items (inst.Bin op flags ty a b) = []
asks items (inst.Icmp pred ty a b) = []
asks items (inst.Select ty cond a b) = []
asks items (inst.Cast op nneg from to a) = []
asks items (inst.Alloca ty count align) = []
asks items (inst.Load ty at align) = []
asks items (inst.Store ty value at align) = []
asks items (inst.Gep inbounds ty base indices) = []
asks items (inst.Call fn_ty ret_ext callee args) = asked_at items (written_callee callee) (map (λ arg. known_of arg.value) args)

-- what the residual body of a function asks for, in the order of the text
abbrev pub needs : List Item → Ask → List Fact → List Ask
needs items ask facts = flat_map (asks items) (residual ask.pattern facts (insts_at (slice_get items ask.place)))

-- ---- the root

-- the item names the function at the place
abbrev pub names_place : ℕ → Inst → Bool
names_place place (inst.Bin op flags ty a b) = false
names_place place (inst.Icmp pred ty a b) = false
names_place place (inst.Select ty cond a b) = false
names_place place (inst.Cast op nneg from to a) = false
names_place place (inst.Alloca ty count align) = false
names_place place (inst.Load ty at align) = false
names_place place (inst.Store ty value at align) = false
names_place place (inst.Gep inbounds ty base indices) = false
names_place place (inst.Call fn_ty ret_ext callee args) = elim (written_callee callee) [ None ↦ false | Some callee_place ↦ callee_place == place ]

-- some body of the module names the function at the place
abbrev pub is_named : List Item → ℕ → Bool
is_named items place = list_any (λ i. list_any (names_place place) (insts_at (Some i))) items

-- The entry is asked for with the arguments that the manifest gives, unless a body names it.
abbrev pub root : List Item → ℕ → List Known → Ask
root items place args = if is_named items place then record { place = place; pattern = forgotten args } else asked items place args

-- ---- the least set

-- what the residual body by the least closed assignment asks for
abbrev pub Needs : List Item → Ask → Ask → Type 0
Needs items ask need = (facts : List Fact) × IsLeastClosed ask.pattern (insts_at (slice_get items ask.place)) facts × Contains (needs items ask facts) need

-- Needed is what is in every set that holds the root and, with each member, what it needs.
abbrev pub IsNeeded : List Item → Ask → Ask → Type 0
IsNeeded items start ask =
    (set : Ask → Bool) → set start ≡ true → ((one other : Ask) → set one ≡ true → Needs items one other → set other ≡ true) → set ask ≡ true
