-- What is used in a reached block is a result of a reached block, so it has a fact, and it stays where it has no known value.
use Rattle.std.proofs.Common.{◌≡◌, ◌∙◌, ◌⊎◌, inl, inr, ℕ, suc, ◌+◌, Bool, true, false, List, [], ◌∷◌, Option, Some, Contains, length, refl, subst, arith}
use Rattle.std.specs.Prelude.{◌&&◌, slice_get, flat_map}
use Rattle.std.proofs.lemmas.List.Elements.{Contains-append_cases, Contains-push_cases}
use Rattle.ir_types.specs.declared.scalar.Known.{Known}
use Rattle.ir_types.specs.declared.scalar.Scalar.{Scalar}
use Rattle.ir_syntax.specs.declared.constant.Operand.{Operand}
use Rattle.ir_syntax.specs.declared.constant.Operand.TheVariants as operand
use Rattle.ir_syntax.specs.declared.body.Inst.{Inst}
use Rattle.ir_syntax.specs.declared.body.Term.{Term}
use Rattle.ir_syntax.specs.declared.body.Phi.{Phi}
use Rattle.ir_syntax.specs.declared.body.Block.{Block}
use Rattle.ir_syntax.specs.declared.body.Body.{Body}
use Rattle.ir_syntax.specs.declared.item.Item.{Item}
use Rattle.ir_syntax.specs.Operands.{operands, term_operands}
use Rattle.ir_syntax.specs.Results.{result_type}
use Rattle.ir_syntax.specs.Definite.{first_result, has_result, Defines, Use, operand_uses, phi_uses, insts_uses, block_uses}
use Rattle.fold_facts.specs.declared.fact.Fact.{Fact}
use Rattle.fold_facts.specs.declared.fact.Fact.TheVariants.{Unreached, One, Varying}
use Rattle.fold_facts.specs.Assigned.{Assigned, fact_of, is_reached}
use Rattle.fold_facts.proofs.Paths.{IsReachedPath, IsPathTo}
use Rattle.fold_facts.proofs.Valued.{IsValued}
use Rattle.fold_facts.proofs.Arriving.{path_valued}
use Rattle.interface.specs.Masks.{is_chosen}
use Rattle.specialise.specs.Leaving.{is_open, kept}
use Rattle.residual_laws.proofs.Every.{Every, every_to, every_first, every_rest, every_flat}
use Rattle.residual_laws.proofs.Flags.{kept_flag}
use Rattle.residual_laws.proofs.Held.{Held, walked, path_is, path_reached, stable, some_path}
use Rattle.residual_laws.proofs.Sure.{Sure, sure_uses}

-- The result has a fact, and stays where it has no known value.
pub record StaysAt (blocks : List Block) (a : Assigned) (r : ℕ) : Type 0 where
  pub valued : IsValued (fact_of a.facts r)
  pub stays : is_open (fact_of a.facts r) ≡ true → is_chosen (kept a blocks) r ≡ true

none_in : {A : Type 0} (x : A) → Contains [] x → ⊥
none_in x h = omega (arith, h.1)

cases_in : {A : Type 0} (y x : A) (xs : List A) → Contains (y ∷ xs) x → (y ≡ x) ⊎ Contains xs x
cases_in y x xs h = elim (Contains-append_cases (y ∷ []) xs x h) [
  | inl one ↦ elim (Contains-push_cases [] y x one) [ inl none ↦ absurd (none_in x none) | inr e ↦ inl e ]
  | inr more ↦ inr more
]

-- a path leads to each block that was visited
part : (a : Assigned) (place : ℕ) (visited : List ℕ) (q : ℕ) → IsReachedPath a (place ∷ visited) → Contains visited q → IsPathTo a q
part a place [] q p c = absurd (none_in q c)
part a place (from ∷ more) q p c = elim (cases_in from q more c) [
  | inl e ↦ record { visited = more; path = subst (λ (n : ℕ). IsReachedPath a (n ∷ more)) e p.1 }
  | inr later ↦ part a from more q p.1 later
]

valued_stable : (x : Fact) → ((IsValued x → ⊥) → ⊥) → IsValued x
valued_stable Unreached h = absurd (h (λ v. v))
valued_stable (One v) h = tt
valued_stable Varying h = tt

both_true : (b c : Bool) → b ≡ true → c ≡ true → (b && c) ≡ true
both_true true true h g = refl
both_true true false h g = g
both_true false c h g = h

-- ---- one use

at_end : (items : List Item) (params : List Scalar) (returns : Option Scalar) (known : List Known) (body : Body) (a : Assigned) (q r : ℕ) → Held items params returns known body a → IsPathTo a q → Defines body.blocks q r → StaysAt body.blocks a r
at_end items params returns known body a q r h p d = record {
  valued = path_valued (record { known = known }) body.blocks a q p.visited r (walked items params returns known body a h) p.path d;
  stays = λ opens. kept_flag body.blocks a q r h.of d ∙ both_true (is_reached a q) (is_open (fact_of a.facts r)) (path_reached a q p.visited p.path) opens;
}

by_path : (items : List Item) (params : List Scalar) (returns : Option Scalar) (known : List Known) (body : Body) (a : Assigned) (u : Use) → Held items params returns known body a → Sure body.blocks u → IsPathTo a u.place → StaysAt body.blocks a u.register
by_path items params returns known body a u h sure p = elim (sure.0 p.visited (path_is (record { known = known }) body.blocks a (u.place ∷ p.visited) (walked items params returns known body a h) p.path)) [
  | inl (q, c, d) ↦ at_end items params returns known body a q u.register h (part a u.place p.visited q p.path c) d
  | inr d ↦ at_end items params returns known body a u.place u.register h p (d.0, omega (arith, d.1, sure.1))
]

pub use_stays : (items : List Item) (params : List Scalar) (returns : Option Scalar) (known : List Known) (body : Body) (a : Assigned) (u : Use) → Held items params returns known body a → Sure body.blocks u → is_reached a u.place ≡ true
    → StaysAt body.blocks a u.register
use_stays items params returns known body a u h sure r = record {
  valued = valued_stable (fact_of a.facts u.register) (λ never. some_path a h.led u.place r (λ p. never (by_path items params returns known body a u h sure p).valued));
  stays = λ opens. stable (is_chosen (kept a body.blocks) u.register) (λ never. some_path a h.led u.place r (λ p. never ((by_path items params returns known body a u h sure p).stays opens)));
}

-- ---- the operands of a block

abbrev pub OperandStays : List Block → Assigned → Operand → Type 0
OperandStays blocks a o = (r : ℕ) → o ≡ operand.Reg r → StaysAt blocks a r

-- the operands in a block, those of phis where their blocks are reached
pub record BlockStays (blocks : List Block) (a : Assigned) (block : Block) : Type 0 where
  pub phis : Every (λ phi. Every (λ entry. is_reached a entry.1 ≡ true → OperandStays blocks a entry.0) phi.entries) block.phis
  pub insts : Every (λ inst. Every (OperandStays blocks a) (operands inst)) block.insts
  pub term : Every (OperandStays blocks a) (term_operands block.term)

-- uses in a block, if it is reached
abbrev UseStays : List Block → Assigned → Use → Type 0
UseStays blocks a u = is_reached a u.place ≡ true → StaysAt blocks a u.register

operand_stays : (blocks : List Block) (a : Assigned) (place until : ℕ) (o : Operand) → Every (UseStays blocks a) (operand_uses place until o) → is_reached a place ≡ true → OperandStays blocks a o
operand_stays blocks a place until (operand.Param k) h reached r e = cc
operand_stays blocks a place until (operand.Reg k) h reached r e = subst (λ n. StaysAt blocks a n) (same e) (h.0 reached)
  where
    same : operand.Reg k ≡ operand.Reg r → k ≡ r
    same g = cc
operand_stays blocks a place until (operand.Const c) h reached r e = cc

operands_stay : (blocks : List Block) (a : Assigned) (place until : ℕ) (os : List Operand) → Every (UseStays blocks a) (flat_map (operand_uses place until) os) → is_reached a place ≡ true → Every (OperandStays blocks a) os
operands_stay blocks a place until os h reached =
    every_to (λ o. Every (UseStays blocks a) (operand_uses place until o)) (OperandStays blocks a) os (λ o g. operand_stays blocks a place until o g reached) (every_flat (UseStays blocks a) (operand_uses place until) os h)

insts_stay : (blocks : List Block) (a : Assigned) (place until : ℕ) (insts : List Inst) (term : Term) → Every (UseStays blocks a) (insts_uses place until insts term) → is_reached a place ≡ true
    → Every (λ inst. Every (OperandStays blocks a) (operands inst)) insts × Every (OperandStays blocks a) (term_operands term)
insts_stay blocks a place until [] term h reached = (tt, operands_stay blocks a place until (term_operands term) h reached)
insts_stay blocks a place until (i ∷ is) term h reached =
    let first = every_first (UseStays blocks a) (flat_map (operand_uses place until) (operands i)) (insts_uses place (until + has_result (result_type i)) is term) h in
    let rest = every_rest (UseStays blocks a) (flat_map (operand_uses place until) (operands i)) (insts_uses place (until + has_result (result_type i)) is term) h in
    let more = insts_stay blocks a place (until + has_result (result_type i)) is term rest reached in
    ((operands_stay blocks a place until (operands i) first reached, more.0), more.1)

phi_stays : (blocks : List Block) (a : Assigned) (phi : Phi) → Every (UseStays blocks a) (phi_uses blocks phi) → Every (λ entry. is_reached a entry.1 ≡ true → OperandStays blocks a entry.0) phi.entries
phi_stays blocks a phi h =
    every_to (λ entry. Every (UseStays blocks a) (operand_uses entry.1 (first_result blocks (suc entry.1)) entry.0)) (λ entry. is_reached a entry.1 ≡ true → OperandStays blocks a entry.0) phi.entries
    (λ entry g reached. operand_stays blocks a entry.1 (first_result blocks (suc entry.1)) entry.0 g reached)
    (every_flat (UseStays blocks a) (λ entry. operand_uses entry.1 (first_result blocks (suc entry.1)) entry.0) phi.entries h)

pub block_stays : (items : List Item) (params : List Scalar) (returns : Option Scalar) (known : List Known) (body : Body) (a : Assigned) (place : ℕ) (block : Block) → Held items params returns known body a → slice_get body.blocks place ≡ Some block
    → is_reached a place ≡ true → BlockStays body.blocks a block
block_stays items params returns known body a place block h here reached =
    let all : Every (UseStays body.blocks a) (block_uses body.blocks place block) =
    every_to (Sure body.blocks) (UseStays body.blocks a) (block_uses body.blocks place block) (λ u sure r. use_stays items params returns known body a u h sure r) (sure_uses body.blocks place block h.definite here) in
    let phis = every_first (UseStays body.blocks a) (flat_map (phi_uses body.blocks) block.phis) (insts_uses place (first_result body.blocks place + length block.phis) block.insts block.term) all in
    let rest = every_rest (UseStays body.blocks a) (flat_map (phi_uses body.blocks) block.phis) (insts_uses place (first_result body.blocks place + length block.phis) block.insts block.term) all in
    let more = insts_stay body.blocks a place (first_result body.blocks place + length block.phis) block.insts block.term rest reached in
    record {
      phis = every_to (λ phi. Every (UseStays body.blocks a) (phi_uses body.blocks phi)) (λ phi. Every (λ entry. is_reached a entry.1 ≡ true → OperandStays body.blocks a entry.0) phi.entries) block.phis
          (λ phi g. phi_stays body.blocks a phi g) (every_flat (UseStays body.blocks a) (phi_uses body.blocks) block.phis phis);
      insts = more.0;
      term = more.1;
    }
