-- Values that suit facts: what suits a fact suits those above it, and what operands are said to be they are.
use Rattle.std.proofs.Common.{◌≡◌, ◌∙◌, ℕ, zero, suc, List, [], ◌∷◌, Some, slice_get, sym, ap, subst}
use Rattle.ir_types.specs.declared.scalar.Known.{Known}
use Rattle.ir_types.specs.declared.scalar.Known.TheVariants.{Unknown, Num, Null}
use Rattle.ir_syntax.specs.declared.symbol.Sym.{Sym}
use Rattle.ir_syntax.specs.declared.constant.Const.{Const}
use Rattle.ir_syntax.specs.declared.constant.Const.TheVariants as const
use Rattle.ir_syntax.specs.declared.constant.Operand.{Operand}
use Rattle.ir_syntax.specs.declared.constant.Operand.TheVariants as operand
use Rattle.ir_syntax.specs.Programs.{ProgramData}
use Rattle.block_memory.specs.declared.value.Val.{Val}
use Rattle.ir_steps.specs.States.{Frame}
use Rattle.ir_steps.specs.Operands.{constant_in, constant_value, value_in}
use Rattle.fold_facts.specs.declared.fact.Fact.{Fact}
use Rattle.fold_facts.specs.declared.fact.Fact.TheVariants.{Unreached, One, Varying}
use Rattle.fold_facts.specs.Facts.{IsBelow}
use Rattle.fold_facts.specs.Operands.{known_fact, param_fact, const_fact, operand_fact}
use Rattle.fold_facts.proofs.Lists.{some_is}
use Rattle.interface.specs.Summaries.{value_of}
use Rattle.known_values.specs.Suits.{IsKnownAs, Suits, AllSuit}
use Rattle.known_values.specs.Readings.{Reading, setting_of}
use Rattle.known_values.specs.Frames.{IsFrameOf}

-- ---- facts

pub suits_above : (x y : Fact) (v : Val Sym) → IsBelow x y → Suits x v → Suits y v
suits_above Unreached y v below s = absurd s
suits_above (One k) Unreached v below s = absurd below
suits_above (One k) (One l) v below s = subst (λ x. IsKnownAs x v) below s
suits_above (One k) Varying v below s = tt
suits_above Varying Unreached v below s = absurd below
suits_above Varying (One l) v below s = absurd below
suits_above Varying Varying v below s = tt

pub known_suits : (known : Known) (v : Val Sym) → IsKnownAs known v → Suits (known_fact known) v
known_suits Unknown v h = tt
known_suits (Num n) v h = h
known_suits Null v h = h

-- the one value that is known of it
pub value_suits : (fact : Fact) (v : Val Sym) → Suits fact v → Suits (known_fact (value_of fact)) v
value_suits Unreached v s = absurd s
value_suits (One known) v s = known_suits known v s
value_suits Varying v s = tt

-- ---- operands

pub param_suits : (pattern : List Known) (args : List (Val Sym)) (k : ℕ) (v : Val Sym) → AllSuit pattern args → slice_get args k ≡ Some v → Suits (param_fact (slice_get pattern k)) v
param_suits [] args k v s e = tt
param_suits (x ∷ xs) [] k v s e = absurd s
param_suits (x ∷ xs) (a ∷ args) zero v s e = subst (λ w. Suits (known_fact x) w) (some_is e) s.0
param_suits (x ∷ xs) (a ∷ args) (suc k) v s e = param_suits xs args k v s.1 e

const_suits : (p : ProgramData) (home : ℕ) (c : Const) (v : Val Sym) → constant_value p home c ≡ Some v → Suits (const_fact c) v
const_suits p home (const.Int n) v e = some_is (sym e ∙ ap (constant_in p home) (const.outs-Int n))
const_suits p home const.Null v e = some_is (sym e ∙ ap (constant_in p home) const.outs-Null)
const_suits p home (const.Addr place offset) v e = tt
const_suits p home const.Undef v e = tt
const_suits p home const.Poison v e = tt
const_suits p home const.Zero v e = tt
const_suits p home (const.Text bytes) v e = tt
const_suits p home (const.Many' shape parts) v e = tt

pub operand_suits : (p : ProgramData) (r : Reading) (f : Frame) (o : Operand) (v : Val Sym) → IsFrameOf r f → value_in p f o ≡ Some v → Suits (operand_fact (setting_of r) r.assigned.facts o) v
operand_suits p r f (operand.Param k) v h e = param_suits r.pattern f.args k v h.args e
operand_suits p r f (operand.Reg k) v h e = (h.results k v e).suits
operand_suits p r f (operand.Const c) v h e = const_suits p f.func.module c v e
