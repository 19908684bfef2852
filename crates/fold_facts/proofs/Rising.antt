-- What a place says rises with the assignment.
use Rattle.std.proofs.Common.{◌≡◌, ◌∙◌, ℕ, Bool, true, false, cond, List, refl, sym, ap, subst}
use Rattle.std.specs.Prelude.{◌==◌, slice_get}
use Rattle.std.proofs.lemmas.Bool.{false≢true}
use Rattle.ir_types.specs.declared.scalar.Known.{Known}
use Rattle.ir_types.specs.declared.scalar.Known.TheVariants.{Unknown, Num, Null}
use Rattle.ir_syntax.specs.declared.constant.Operand.{Operand}
use Rattle.ir_syntax.specs.declared.constant.Operand.TheVariants as operand
use Rattle.ir_syntax.specs.declared.body.Inst.{Inst}
use Rattle.ir_syntax.specs.declared.body.Inst.TheVariants as inst
use Rattle.ir_syntax.specs.declared.body.Phi.{Phi}
use Rattle.ir_syntax.specs.declared.body.Term.{Term}
use Rattle.ir_syntax.specs.declared.body.Term.TheVariants as term
use Rattle.fold_facts.specs.declared.fact.Fact.{Fact}
use Rattle.fold_facts.specs.declared.fact.Fact.TheVariants.{Unreached, One, Varying}
use Rattle.fold_facts.specs.declared.said.Edges.{Edges}
use Rattle.fold_facts.specs.Facts.{IsBelow}
use Rattle.fold_facts.specs.Assigned.{Assigned, fact_of, enters, IsAtMost}
use Rattle.fold_facts.specs.Operands.{Setting, operand_fact, const_fact, param_fact}
use Rattle.fold_facts.specs.Arithmetic.{bin_fact, icmp_fact, cast_fact}
use Rattle.fold_facts.specs.Instructions.{of_one, of_two, arm_fact, select_fact, inst_fact}
use Rattle.fold_facts.specs.Phis.{entry_fact, phi_fact}
use Rattle.fold_facts.specs.Terminators.{asks, edges_by, branch_edge, switch_edge, term_edges}
use Rattle.fold_facts.proofs.Orders.{below_refl, below_of_is, at_most_varying, join_all_of_less}
use Rattle.fold_facts.proofs.Reaching.{enters_rises}

-- each fact is at most that of the other list
abbrev pub AreBelow : List Fact → List Fact → Type 0
AreBelow fs gs = (k : ℕ) → IsBelow (fact_of fs k) (fact_of gs k)

pub operand_rises : (setting : Setting) (fs gs : List Fact) → AreBelow fs gs → (o : Operand) → IsBelow (operand_fact setting fs o) (operand_fact setting gs o)
operand_rises setting fs gs h (operand.Param k) = below_refl (param_fact (slice_get setting.known k))
operand_rises setting fs gs h (operand.Reg k) = h k
operand_rises setting fs gs h (operand.Const c) = below_refl (const_fact c)

-- ---- instructions

one_rises : (value : Known → Fact) (x y : Fact) → IsBelow x y → IsBelow (of_one value x) (of_one value y)
one_rises value Unreached y h = tt
one_rises value (One v) Unreached h = absurd h
one_rises value (One v) (One w) h = below_of_is (value v) (value w) (ap value h)
one_rises value (One v) Varying h = at_most_varying (value v)
one_rises value Varying Unreached h = absurd h
one_rises value Varying (One w) h = absurd h
one_rises value Varying Varying h = tt

is_varying : (y : Fact) → IsBelow Varying y → y ≡ Varying
is_varying Unreached h = absurd h
is_varying (One w) h = absurd h
is_varying Varying h = refl

varying_right : (value : Known → Known → Fact) (x : Fact) → of_two value x Varying ≡ Varying
varying_right value Unreached = refl
varying_right value (One v) = refl
varying_right value Varying = refl

at_varying_left : (value : Known → Known → Fact) (f x y : Fact) → IsBelow Varying x → IsBelow f (of_two value x y)
at_varying_left value f x y h = subst (λ z. IsBelow f (of_two value z y)) (sym (is_varying x h)) (at_most_varying f)

at_varying_right : (value : Known → Known → Fact) (f x y : Fact) → IsBelow Varying y → IsBelow f (of_two value x y)
at_varying_right value f x y h =
    subst (λ z. IsBelow f (of_two value x z)) (sym (is_varying y h)) (subst (λ z. IsBelow f z) (sym (varying_right value x)) (at_most_varying f))

ones_rise : (value : Known → Known → Fact) (v w : Known) (x y : Fact) → IsBelow (One v) x → IsBelow (One w) y → IsBelow (value v w) (of_two value x y)
ones_rise value v w Unreached y h g = absurd h
ones_rise value v w (One v') Unreached h g = absurd g
ones_rise value v w (One v') (One w') h g = below_of_is (value v w) (value v' w') (ap (λ k. value k w) h ∙ ap (value v') g)
ones_rise value v w (One v') Varying h g = at_most_varying (value v w)
ones_rise value v w Varying y h g = at_most_varying (value v w)

two_rises : (value : Known → Known → Fact) (x x' y y' : Fact) → IsBelow x x' → IsBelow y y' → IsBelow (of_two value x y) (of_two value x' y')
two_rises value Varying x' y y' h g = at_varying_left value Varying x' y' h
two_rises value Unreached x' Unreached y' h g = tt
two_rises value Unreached x' (One w) y' h g = tt
two_rises value Unreached x' Varying y' h g = at_varying_right value Varying x' y' g
two_rises value (One v) x' Unreached y' h g = tt
two_rises value (One v) x' (One w) y' h g = ones_rise value v w x' y' h g
two_rises value (One v) x' Varying y' h g = at_varying_right value Varying x' y' g

if_rises : (b : Bool) (x x' y y' : Fact) → IsBelow x x' → IsBelow y y' → IsBelow (cond b x y) (cond b x' y')
if_rises true x x' y y' h g = h
if_rises false x x' y y' h g = g

arm_rises : (v : Known) (x x' y y' : Fact) → IsBelow x x' → IsBelow y y' → IsBelow (arm_fact v x y) (arm_fact v x' y')
arm_rises Unknown x x' y y' h g = tt
arm_rises (Num n) x x' y y' h g = if_rises (n == 0) y y' x x' g h
arm_rises Null x x' y y' h g = tt

select_rises : (c c' x x' y y' : Fact) → IsBelow c c' → IsBelow x x' → IsBelow y y' → IsBelow (select_fact c x y) (select_fact c' x' y')
select_rises Unreached c' x x' y y' e h g = tt
select_rises (One v) Unreached x x' y y' e h g = absurd e
select_rises (One v) (One w) x x' y y' e h g = subst (λ k. IsBelow (arm_fact v x y) (arm_fact k x' y')) e (arm_rises v x x' y y' h g)
select_rises (One v) Varying x x' y y' e h g = at_most_varying (arm_fact v x y)
select_rises Varying Unreached x x' y y' e h g = absurd e
select_rises Varying (One w) x x' y y' e h g = absurd e
select_rises Varying Varying x x' y y' e h g = tt

pub inst_rises : (setting : Setting) (fs gs : List Fact) → AreBelow fs gs → (i : Inst) → IsBelow (inst_fact setting fs i) (inst_fact setting gs i)
inst_rises setting fs gs h (inst.Bin op flags ty a b) =
    two_rises (bin_fact op flags ty) (operand_fact setting fs a) (operand_fact setting gs a) (operand_fact setting fs b) (operand_fact setting gs b) (operand_rises setting fs gs h a) (operand_rises setting fs gs h b)
inst_rises setting fs gs h (inst.Icmp pred ty a b) =
    two_rises (icmp_fact pred ty) (operand_fact setting fs a) (operand_fact setting gs a) (operand_fact setting fs b) (operand_fact setting gs b) (operand_rises setting fs gs h a) (operand_rises setting fs gs h b)
inst_rises setting fs gs h (inst.Select ty c a b) =
    select_rises (operand_fact setting fs c) (operand_fact setting gs c) (operand_fact setting fs a) (operand_fact setting gs a) (operand_fact setting fs b) (operand_fact setting gs b)
    (operand_rises setting fs gs h c) (operand_rises setting fs gs h a) (operand_rises setting fs gs h b)
inst_rises setting fs gs h (inst.Cast op nneg from to a) =
    one_rises (cast_fact op nneg from to) (operand_fact setting fs a) (operand_fact setting gs a) (operand_rises setting fs gs h a)
inst_rises setting fs gs h (inst.Alloca ty count align) = tt
inst_rises setting fs gs h (inst.Load ty at align) = tt
inst_rises setting fs gs h (inst.Store ty value at align) = tt
inst_rises setting fs gs h (inst.Gep inbounds ty base indices) = tt
inst_rises setting fs gs h (inst.Call fn_ty ret_ext callee args) = tt

-- ---- phis

entry_when : (b c : Bool) (x y : Fact) → (b ≡ true → c ≡ true) → IsBelow x y → IsBelow (cond b x Unreached) (cond c y Unreached)
entry_when true true x y h g = g
entry_when true false x y h g = absurd (false≢true (h refl))
entry_when false c x y h g = tt

pub phi_rises : (setting : Setting) (a b : Assigned) → IsAtMost a b → (place : ℕ) (phi : Phi) → IsBelow (phi_fact setting a place phi) (phi_fact setting b place phi)
phi_rises setting a b less place phi = join_all_of_less (entry_fact setting a place) (entry_fact setting b place) phi.entries
    (λ entry. entry_when (enters a entry.1 place) (enters b entry.1 place) (operand_fact setting a.facts entry.0) (operand_fact setting b.facts entry.0)
    (enters_rises a b less entry.1 place) (operand_rises setting a.facts b.facts less.facts entry.0))

-- ---- terminators

edges_rise : (chosen : ℕ → Edges) (x y : Fact) → IsBelow x y → (k : ℕ) → asks (edges_by chosen x) k ≡ true → asks (edges_by chosen y) k ≡ true
edges_rise chosen Unreached y h k asked = absurd (false≢true asked)
edges_rise chosen (One v) Unreached h k asked = absurd h
edges_rise chosen (One v) (One w) h k asked = subst (λ u. asks (edges_by chosen (One u)) k ≡ true) h asked
edges_rise chosen (One v) Varying h k asked = refl
edges_rise chosen Varying Unreached h k asked = absurd h
edges_rise chosen Varying (One w) h k asked = absurd h
edges_rise chosen Varying Varying h k asked = refl

pub term_rises : (setting : Setting) (fs gs : List Fact) → AreBelow fs gs → (t : Term) (k : ℕ) → asks (term_edges setting fs t) k ≡ true → asks (term_edges setting gs t) k ≡ true
term_rises setting fs gs h term.RetVoid k asked = asked
term_rises setting fs gs h (term.Ret ty value) k asked = asked
term_rises setting fs gs h (term.Br to) k asked = asked
term_rises setting fs gs h (term.CondBr c one other) k asked =
    edges_rise branch_edge (operand_fact setting fs c) (operand_fact setting gs c) (operand_rises setting fs gs h c) k asked
term_rises setting fs gs h (term.Switch ty value default cases) k asked =
    edges_rise (switch_edge cases) (operand_fact setting fs value) (operand_fact setting gs value) (operand_rises setting fs gs h value) k asked
term_rises setting fs gs h term.Unreachable k asked = asked
