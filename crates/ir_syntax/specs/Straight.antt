-- Modules of straight-line functions over i32: each function is one block of additions and calls of later functions.
use Rattle.std.specs.Prelude.{◌≡◌, ◌≢◌, ℕ, suc, ◌<◌, ◌≤◌, ◌^◌, pos, false, List, [], ◌∷◌, Option, None, Some, All, AllPairs, length, map, replicate, slice_get, IfSome}
use Rattle.ir_types.specs.declared.scalar.Scalar.TheVariants.{I32}
use Rattle.ir_types.specs.declared.scalar.Ext.TheVariants.{Plain}
use Rattle.ir_types.specs.declared.scalar.FnType.{FnType}
use Rattle.ir_types.specs.declared.scalar.BinOp.TheVariants as bin_op
use Rattle.ir_types.specs.declared.scalar.Flags.{Flags}
use Rattle.ir_syntax.specs.declared.constant.Const.{Const}
use Rattle.ir_syntax.specs.declared.constant.Const.TheVariants as const
use Rattle.ir_syntax.specs.declared.constant.Operand.{Operand}
use Rattle.ir_syntax.specs.declared.constant.Operand.TheVariants as operand
use Rattle.ir_syntax.specs.declared.body.Arg.{Arg}
use Rattle.ir_syntax.specs.declared.body.Inst.{Inst}
use Rattle.ir_syntax.specs.declared.body.Inst.TheVariants as inst
use Rattle.ir_syntax.specs.declared.body.Term.TheVariants as term
use Rattle.ir_syntax.specs.declared.body.Body.{Body}
use Rattle.ir_syntax.specs.declared.item.Param.{Param}
use Rattle.ir_syntax.specs.declared.item.Func.{Func}
use Rattle.ir_syntax.specs.declared.item.Item.{Item}
use Rattle.ir_syntax.specs.declared.item.Item.TheVariants as item
use Rattle.ir_syntax.specs.declared.item.Linkage.TheVariants.{Private}
use Rattle.ir_syntax.specs.declared.item.Module.{Module}
use Rattle.ir_types.specs.Names.{IsName}
use Rattle.ir_syntax.specs.FormedBody.{item_name}

abbrev pub no_flags : Flags
no_flags = record { nuw = false; nsw = false; exact = false; disjoint = false }

-- a parameter of i32
abbrev pub word_param : Param
word_param = record { ty = I32; ext = Plain }

-- i32 (i32, i32): so many words to one
abbrev pub word_type : ℕ → FnType
word_type n = record { params = replicate n I32; variadic = false; returns = Some I32 }

-- how many parameters the item at a place takes, where it is a function
abbrev pub params_of : Option Item → Option ℕ
params_of None = None
params_of (Some (item.Var v)) = None
params_of (Some (item.Func f)) = Some (length f.params)

-- a number of 32 bits
abbrev pub IsWord : Const → Type 0
IsWord (const.Int n) = n < 2 ^ 32
IsWord const.Null = ⊥
IsWord (const.Addr place offset) = ⊥
IsWord const.Undef = ⊥
IsWord const.Poison = ⊥
IsWord const.Zero = ⊥
IsWord (const.Text bytes) = ⊥
IsWord (const.Many' shape parts) = ⊥

-- A parameter that is there, an earlier result, or a number.
abbrev pub IsWordOperand : ℕ → ℕ → Operand → Type 0
IsWordOperand params results (operand.Param k) = k < params
IsWordOperand params results (operand.Reg k) = k < results
IsWordOperand params results (operand.Const c) = IsWord c

abbrev pub IsWordArg : ℕ → ℕ → Arg → Type 0
IsWordArg params results arg = (arg.ty ≡ I32) × (arg.ext ≡ Plain) × IsWordOperand params results arg.value

-- A call of a later function by its name, with as many words as it takes.
pub record IsLaterCall (items : List Item) (from params results : ℕ) (fn_ty : FnType) (callee : Operand) (args : List Arg) : Type 0 where
  pub place : ℕ
  pub by_name : callee ≡ operand.Const (const.Addr place (pos 0))
  pub later : from < place
  pub takes : params_of (slice_get items place) ≡ Some (length args)
  pub has_type : fn_ty ≡ word_type (length args)
  pub words : All (IsWordArg params results) args

-- An addition without flags, or a call. `from` is the place of the function, and so many results stand before.
abbrev pub IsStraightInst : List Item → ℕ → ℕ → ℕ → Inst → Type 0
IsStraightInst items from params results (inst.Bin op flags ty a b) = (op ≡ bin_op.Add) × (flags ≡ no_flags) × (ty ≡ I32) × IsWordOperand params results a × IsWordOperand params results b
IsStraightInst items from params results (inst.Icmp pred ty a b) = ⊥
IsStraightInst items from params results (inst.Select ty cond a b) = ⊥
IsStraightInst items from params results (inst.Cast op nneg from_ty to a) = ⊥
IsStraightInst items from params results (inst.Alloca ty count align) = ⊥
IsStraightInst items from params results (inst.Load ty at align) = ⊥
IsStraightInst items from params results (inst.Store ty value at align) = ⊥
IsStraightInst items from params results (inst.Gep inbounds ty base indices) = ⊥
IsStraightInst items from params results (inst.Call fn_ty ret_ext callee args) = (ret_ext ≡ Plain) × IsLaterCall items from params results fn_ty callee args

-- Each instruction has one result, which those after it see.
abbrev pub AreStraight : List Item → ℕ → ℕ → ℕ → List Inst → Type 0
AreStraight items from params results [] = Unit {0}
AreStraight items from params results (i ∷ is) = IsStraightInst items from params results i × AreStraight items from params (suc results) is

-- one block that returns a word
abbrev pub straight_body : List Inst → Operand → Body
straight_body insts value = record { blocks = record { phis = []; insts = insts; term = term.Ret I32 value } ∷ [] }

-- A function at a place among the items.
pub record IsStraightFunc (items : List Item) (place : ℕ) (f : Func) : Type 0 where
  pub has_name : IsName f.name
  pub seen : f.linkage ≢ Private
  pub returns : f.returns ≡ Some I32
  pub ret_ext : f.ret_ext ≡ Plain
  pub words : All (λ p. p ≡ word_param) f.params
  pub few_params : length f.params ≤ 32
  pub fixed : f.variadic ≡ false
  pub insts : List Inst
  pub value : Operand
  pub body : f.body ≡ Some (straight_body insts value)
  pub straight : AreStraight items place (length f.params) 0 insts
  pub result : IsWordOperand (length f.params) (length insts) value
  -- at most 1,048,576 instructions with the terminator
  pub few_insts : length insts < 1048576

abbrev pub IsStraightItem : List Item → ℕ → Item → Type 0
IsStraightItem items place (item.Var v) = ⊥
IsStraightItem items place (item.Func f) = IsStraightFunc items place f

-- A module of straight-line functions with distinct names, without target lines.
pub record IsStraight (m : Module) : Type 0 where
  pub no_layout : m.layout ≡ None
  pub no_triple : m.triple ≡ None
  pub distinct : AllPairs (λ a b. a ≢ b) (map item_name m.items)
  pub each : (place : ℕ) → IfSome (slice_get m.items place) (IsStraightItem m.items place)
  pub few : length m.items < 2 ^ 32

-- A program of one such module.
pub record IsStraightProgram (modules : List Module) : Type 0 where
  pub only : Module
  pub modules_are : modules ≡ only ∷ []
  pub straight : IsStraight only
