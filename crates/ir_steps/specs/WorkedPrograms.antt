-- Small programs that are worked by hand, and what comes of their first steps.
use Rattle.std.specs.Prelude.{ℕ, zero, suc, pos, true, false, codes, List, [], ◌∷◌, replicate, Option, None, Some}
use Rattle.ir_types.specs.declared.scalar.Scalar.{Scalar}
use Rattle.ir_types.specs.declared.scalar.Scalar.TheVariants.{I32, I64, Ptr}
use Rattle.ir_types.specs.declared.scalar.Ext.TheVariants.{Plain}
use Rattle.ir_types.specs.declared.scalar.Flags.{Flags}
use Rattle.ir_types.specs.declared.scalar.FnType.{FnType}
use Rattle.ir_types.specs.declared.scalar.BinOp.TheVariants.{Add, Sub, Mul, Udiv}
use Rattle.ir_types.specs.declared.scalar.Pred.TheVariants.{Eq}
use Rattle.ir_types.specs.declared.shape.Ty.TheBlock.{One}
use Rattle.ir_syntax.specs.declared.symbol.Sym.{Sym}
use Rattle.ir_syntax.specs.declared.symbol.Builtin.TheVariants.{Malloc, Free}
use Rattle.ir_syntax.specs.declared.symbol.Target.{Target}
use Rattle.ir_syntax.specs.declared.symbol.Target.TheVariants as target
use Rattle.ir_syntax.specs.declared.constant.Const.TheBlock as const
use Rattle.ir_syntax.specs.declared.constant.Operand.{Operand}
use Rattle.ir_syntax.specs.declared.constant.Operand.TheVariants.{Param as Argument, Reg, Const}
use Rattle.ir_syntax.specs.declared.body.Phi.{Phi}
use Rattle.ir_syntax.specs.declared.body.Arg.{Arg}
use Rattle.ir_syntax.specs.declared.body.Inst.TheVariants.{Bin, Icmp, Alloca, Load, Store, Call}
use Rattle.ir_syntax.specs.declared.body.Term.TheVariants.{RetVoid, Ret, Br, CondBr}
use Rattle.ir_syntax.specs.declared.body.Inst.{Inst}
use Rattle.ir_syntax.specs.declared.body.Term.{Term}
use Rattle.ir_syntax.specs.declared.body.Block.{Block}
use Rattle.ir_syntax.specs.declared.item.Linkage.TheVariants.{External}
use Rattle.ir_syntax.specs.declared.item.Param.{Param}
use Rattle.ir_syntax.specs.declared.item.Func.{Func}
use Rattle.ir_syntax.specs.declared.item.Item.{Item}
use Rattle.ir_syntax.specs.declared.item.Item.TheVariants as item
use Rattle.ir_syntax.specs.Programs.{ProgramData}
use Rattle.block_memory.specs.Answers.{Answer, Gives, and_then}
use Rattle.ir_steps.specs.declared.session.Reply.{Reply}
use Rattle.ir_steps.specs.declared.session.Stepped.{Stepped}
use Rattle.ir_steps.specs.declared.session.Stepped.TheVariants as stepped
use Rattle.ir_steps.specs.States.{StateData}
use Rattle.ir_steps.specs.Results.{Next}
use Rattle.ir_steps.specs.Steps.{start, enter, step}

-- ---- what comes of steps

-- steps, each with its reply, behind what came of those before
abbrev pub after : ProgramData → List (Option Reply) → Answer Next → Answer Next
after p [] came = came
after p (given ∷ more) came = after p more (and_then (λ next. step p next.1 given) came)

-- The first function is called as a root. What the last of these steps gives, where those before are defined.
abbrev pub outcome : ProgramData → List ℕ → List (Option Reply) → Answer Stepped
outcome p args given =
    and_then (λ next. Gives next.0) (after p given (and_then (λ s. Gives (stepped.Went, s)) (and_then (λ s. enter p s p.entry args) (start p))))

-- so many steps without a reply
abbrev pub silent : ℕ → List (Option Reply)
silent count = replicate count None

-- ---- programs of one module

abbrev pub symbol : ℕ → Sym
symbol place = record { «module» = 0; item = place }

abbrev pub word : Param
word = record { ty = I32; ext = Plain }

abbrev pub plain : Flags
plain = record { nuw = false; nsw = false; exact = false; disjoint = false }

abbrev pub number : ℕ → Operand
number n = Const (const.Int n)

abbrev pub named : ℕ → Operand
named place = Const (const.Addr place (pos zero))

abbrev pub returning : Scalar → List Param → List Block → Func
returning ty params blocks = record { name = codes "f"; linkage = External; returns = Some ty; ret_ext = Plain; params = params; variadic = false; body = Some (record { blocks = blocks }) }

abbrev pub declared : List ℕ → Option Scalar → List Param → Func
declared name returns params = record { name = name; linkage = External; returns = returns; ret_ext = Plain; params = params; variadic = false; body = None }

abbrev pub type : List Scalar → Option Scalar → FnType
type params returns = record { params = params; variadic = false; returns = returns }

abbrev pub called : FnType → ℕ → List Arg → Inst
called ty place args = Call ty Plain (named place) args

abbrev pub argument : Scalar → Operand → Arg
argument ty value = record { ty = ty; ext = Plain; value = value }

abbrev pub block : List Inst → Term → Block
block insts term = record { phis = []; insts = insts; term = term }

-- functions and what each stands for; names of the program's own stand for themselves
abbrev pub functions_from : ℕ → List (Func × Target) → List Sym
functions_from place [] = []
functions_from place (f ∷ more) = symbol place ∷ functions_from (suc place) more

abbrev pub items_of : List (Func × Target) → List Item
items_of [] = []
items_of (f ∷ more) = item.Func f.0 ∷ items_of more

abbrev pub targets_of : List (Func × Target) → List Target
targets_of [] = []
targets_of (f ∷ more) = f.1 ∷ targets_of more

abbrev pub program : List (Func × Target) → ProgramData
program functions = record {
  modules = record { layout = None; triple = None; items = items_of functions } ∷ [];
  targets = targets_of functions ∷ [];
  canonical = functions_from 0 functions ∷ [];
  entry = symbol 0;
  entry_args = [];
  exports = [];
}

abbrev pub defined : ℕ → Func → Func × Target
defined place func = (func, target.Def (symbol place))

-- ---- the factorial of 5, by recursion

abbrev pub factorial : Func
factorial = returning I32 (word ∷ []) (
    block (Icmp Eq I32 (Argument 0) (number 0) ∷ []) (CondBr (Reg 0) 1 2) ∷
    block [] (Ret I32 (number 1)) ∷
    block (
    Bin Sub plain I32 (Argument 0) (number 1) ∷
    called (type (I32 ∷ []) (Some I32)) 1 (argument I32 (Reg 1) ∷ []) ∷
    Bin Mul plain I32 (Argument 0) (Reg 2) ∷ []
    ) (Ret I32 (Reg 3)) ∷ [])

abbrev pub recursive : ProgramData
recursive = program (
    defined 0 (returning I32 [] (block (called (type (I32 ∷ []) (Some I32)) 1 (argument I32 (number 5) ∷ []) ∷ []) (Ret I32 (Reg 0)) ∷ [])) ∷
    defined 1 factorial ∷ [])

-- ---- a sum that may not wrap and does, and one that may

abbrev pub overflowing : ProgramData
overflowing = program (
    defined 0 (returning I32 [] (
    block (
    Bin Add (record plain { nsw = true }) I32 (number 2147483647) (number 1) ∷
    Bin Add plain I32 (number 2147483647) (number 1) ∷
    Bin Add plain I32 (Reg 0) (Reg 1) ∷ []
    ) (Ret I32 (Reg 2)) ∷ [])) ∷ [])

-- ---- a division behind a branch on whether two arguments are equal

abbrev pub dividing : ProgramData
dividing = program (
    defined 0 (returning I32 (word ∷ word ∷ word ∷ word ∷ []) (
    block (Icmp Eq I32 (Argument 0) (Argument 1) ∷ []) (CondBr (Reg 0) 1 2) ∷
    block (Bin Udiv plain I32 (Argument 2) (Argument 3) ∷ []) (Ret I32 (Reg 1)) ∷
    block [] (Ret I32 (Argument 2)) ∷ [])) ∷ [])

-- ---- two phis that change places each time around, until their difference is the third argument

abbrev pub phi : Operand → Operand → Phi
phi one other = record { ty = I32; entries = (one, 0) ∷ (other, 1) ∷ [] }

abbrev pub swapping : ProgramData
swapping = program (
    defined 0 (returning I32 (word ∷ word ∷ word ∷ []) (
    block [] (Br 1) ∷
    record {
      phis = phi (Argument 0) (Reg 1) ∷ phi (Argument 1) (Reg 0) ∷ [];
      insts = Bin Sub plain I32 (Reg 0) (Reg 1) ∷ Icmp Eq I32 (Reg 2) (Argument 2) ∷ [];
      term = CondBr (Reg 3) 2 1;
    } ∷
    block [] (Ret I32 (Reg 0)) ∷ [])) ∷ [])

-- ---- a load from a block whose call has returned

abbrev pub outliving : ProgramData
outliving = program (
    defined 0 (returning I32 [] (block (called (type [] (Some Ptr)) 1 [] ∷ Load I32 (Reg 0) None ∷ []) (Ret I32 (Reg 1)) ∷ [])) ∷
    defined 1 (returning Ptr [] (block (Alloca (One I32) 1 None ∷ []) (Ret Ptr (Reg 0)) ∷ [])) ∷ [])

-- ---- a block from the heap: made, written, read and freed

abbrev pub pointer : Param
pointer = record { ty = Ptr; ext = Plain }

abbrev pub freeing : ProgramData
freeing = program (
    defined 0 (returning I32 [] (
    block (
    called (type (I64 ∷ []) (Some Ptr)) 1 (argument I64 (number 4) ∷ []) ∷
    Store I32 (number 7) (Reg 0) None ∷
    Load I32 (Reg 0) None ∷
    called (type (Ptr ∷ []) None) 2 (argument Ptr (Reg 0) ∷ []) ∷ []
    ) (Ret I32 (Reg 1)) ∷ [])) ∷
    (declared (codes "malloc") (Some Ptr) (record { ty = I64; ext = Plain } ∷ []), target.Builtin Malloc) ∷
    (declared (codes "free") None (pointer ∷ []), target.Builtin Free) ∷ [])

-- ---- a call outside

abbrev pub asking : ProgramData
asking = program (
    defined 0 (returning I32 [] (block (called (type (I32 ∷ []) (Some I32)) 1 (argument I32 (number 5) ∷ []) ∷ []) (Ret I32 (Reg 0)) ∷ [])) ∷
    (declared (codes "ask") (Some I32) (word ∷ []), target.Outside) ∷ [])
