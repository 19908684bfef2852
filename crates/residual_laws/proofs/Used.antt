-- The operands of what is left are those of the body, as they are left: so it names no other items, and uses no parameter that has
-- a known value.
use Rattle.std.proofs.Common.{◌≡◌, ◌∙◌, inl, inr, ℕ, suc, ◌+◌, Bool, true, false, List, [], ◌∷◌, ◌++◌, Option, None, Some, Contains, length, map, refl, ap, sym, subst}
use Rattle.std.specs.Prelude.{◌==◌, slice_get, flat_map, count_by, if◌then◌else◌}
use Rattle.std.proofs.lemmas.Option.{none-some}
use Rattle.ir_types.specs.declared.scalar.Known.{Known}
use Rattle.ir_types.specs.declared.scalar.Known.TheVariants.{Unknown, Num, Null}
use Rattle.ir_syntax.specs.declared.constant.Operand.{Operand}
use Rattle.ir_syntax.specs.declared.constant.Operand.TheVariants as operand
use Rattle.ir_syntax.specs.declared.body.Term.{Term}
use Rattle.ir_syntax.specs.declared.body.Block.{Block}
use Rattle.ir_syntax.specs.declared.body.Body.{Body}
use Rattle.ir_syntax.specs.declared.item.Func.{Func}
use Rattle.ir_syntax.specs.Mapped.{map_operands}
use Rattle.ir_syntax.specs.Named.{operand_names, inst_names, phi_names, term_names, block_names, body_names, definition_names}
use Rattle.ir_syntax.specs.Operands.{operands, term_operands, phi_operands}
use Rattle.ir_syntax.specs.Results.{block_results}
use Rattle.ir_syntax.proofs.MappedLemmas.{operands-map}
use Rattle.ir_syntax.proofs.NameLemmas.{names-Int, names-Null}
use Rattle.fold_facts.specs.Assigned.{Assigned}
use Rattle.fold_facts.specs.Operands.{param_fact}
use Rattle.fold_facts.specs.Places.{blocks_in, blocks_of}
use Rattle.fold_facts.proofs.Lists.{some_is}
use Rattle.fold_facts.proofs.Arriving.{place_in, in_place}
use Rattle.interface.specs.Masks.{rank, is_chosen}
use Rattle.interface.specs.Summaries.{value_of, known_of}
use Rattle.specialise.specs.Leaving.{Leaving, leaving}
use Rattle.specialise.specs.Residual.{value_or, left_operand, left_entries, left_term, left_blocks, residual}
use Rattle.residual_laws.specs.Used.{block_operands, body_operands}
use Rattle.residual_laws.proofs.Every.{Every, every_at, every_by, every_to, every_first, every_rest, every_append, every_flat, flat_every}
use Rattle.residual_laws.proofs.Formed.{phis_each, insts_each}
use Rattle.residual_laws.proofs.Moving.{HasOperands, left_operands}
use Rattle.residual_laws.proofs.Numbering.{made}
use Rattle.residual_laws.proofs.Phis.{made_phi}

-- What holds of each operand of a block.
pub record EachOperand (Q : Operand → Type 0) (block : Block) : Type 0 where
  pub phis : Every (λ phi. Every Q (phi_operands phi)) block.phis
  pub insts : Every (λ inst. Every Q (operands inst)) block.insts
  pub term : Every Q (term_operands block.term)

-- ---- from a block to what is left of it

-- What holds of the operands holds of them as they are left.
abbrev pub Carries : Leaving → (Operand → Type 0) → (Operand → Type 0) → Type 0
Carries w Q R = (o : Operand) → Q o → R (left_operand w o)

entries_carry : (w : Leaving) (Q R : Operand → Type 0) (place : ℕ) (before : List ℕ) (entries : List (Operand × ℕ)) → Carries w Q R → Every Q (map (λ (entry : Operand × ℕ). entry.0) entries)
    → Every R (map (λ (entry : Operand × ℕ). entry.0) (left_entries w place before entries))
entries_carry w Q R place before [] c h = tt
entries_carry w Q R place before (entry ∷ more) c h = by (w.edge entry.1 place (count_by (λ other. other == entry.1) before)) (entries_carry w Q R place (entry.1 ∷ before) more c h.1)
  where
    by : (b : Bool) → Every R (map (λ (e : Operand × ℕ). e.0) (left_entries w place (entry.1 ∷ before) more))
        → Every R (map (λ (e : Operand × ℕ). e.0) ((if b then (left_operand w entry.0, rank w.reached entry.1) ∷ [] else []) ++ left_entries w place (entry.1 ∷ before) more))
    by true rest = (c entry.0 h.0, rest)
    by false rest = rest

os_carry : (w : Leaving) (Q R : Operand → Type 0) (os : List Operand) → Carries w Q R → Every Q os → Every R (map (left_operand w) os)
os_carry w Q R [] c h = tt
os_carry w Q R (o ∷ os) c h = (c o h.0, os_carry w Q R os c h.1)

term_carries : (w : Leaving) (Q R : Operand → Type 0) (t : Term) → Carries w Q R → Every Q (term_operands t) → Every R (term_operands (left_term w t))
term_carries w Q R t c h = by (left_operands w t)
  where
    by : HasOperands w t (term_operands (left_term w t)) → Every R (term_operands (left_term w t))
    by (inl none) = subst (Every R) (sym none) tt
    by (inr all) = subst (Every R) (sym all) (os_carry w Q R (term_operands t) c h)

block_carries : (w : Leaving) (Q R : Operand → Type 0) (place first : ℕ) (block : Block) → Carries w Q R → EachOperand Q block → EachOperand R (made w place first block)
block_carries w Q R place first block c h = record {
  phis = phis_each (λ phi. Every R (phi_operands phi)) w place first block.phis
      (every_to (λ phi. Every Q (phi_operands phi)) (λ phi. Every R (phi_operands (made_phi w place phi))) block.phis (λ phi g. entries_carry w Q R place [] phi.entries c g) h.phis);
  insts = insts_each (λ inst. Every R (operands inst)) w (first + length block.phis) block.insts
      (every_to (λ inst. Every Q (operands inst)) (λ inst. Every R (operands (map_operands (left_operand w) inst))) block.insts (λ inst g. subst (Every R) (sym (operands-map (left_operand w) inst)) (os_carry w Q R (operands inst) c g)) h.insts);
  term = term_carries w Q R block.term c h.term;
}

blocks_carry : (w : Leaving) (Q R : Operand → Type 0) (place first : ℕ) (blocks : List Block) → Carries w Q R → Every (EachOperand Q) blocks → Every (EachOperand R) (left_blocks w place first blocks)
blocks_carry w Q R place first [] c h = tt
blocks_carry w Q R place first (block ∷ more) c h = by (is_chosen w.reached place) (blocks_carry w Q R (suc place) (first + length (block_results block)) more c h.1)
  where
    by : (b : Bool) → Every (EachOperand R) (left_blocks w (suc place) (first + length (block_results block)) more)
        → Every (EachOperand R) ((if b then made w place first block ∷ [] else []) ++ left_blocks w (suc place) (first + length (block_results block)) more)
    by true rest = (block_carries w Q R place first block c h.0, rest)
    by false rest = rest

-- ---- names

value_names : (P : ℕ → Type 0) (other : Operand) (v : Known) → Every P (operand_names other) → Every P (operand_names (value_or other v))
value_names P other Unknown h = h
value_names P other (Num n) h = subst (Every P) (sym (names-Int n)) tt
value_names P other Null h = subst (Every P) (sym names-Null) tt

names_carry : (w : Leaving) (P : ℕ → Type 0) → Carries w (λ o. Every P (operand_names o)) (λ o. Every P (operand_names o))
names_carry w P (operand.Param k) h = value_names P (operand.Param k) (known_of w.setting w.facts (operand.Param k)) tt
names_carry w P (operand.Reg k) h = value_names P (operand.Reg (rank w.kept k)) (known_of w.setting w.facts (operand.Reg k)) tt
names_carry w P (operand.Const c) h = h

names_of_block : (P : ℕ → Type 0) (block : Block) → Every P (block_names block) → EachOperand (λ o. Every P (operand_names o)) block
names_of_block P block h =
    let front = every_first P (flat_map phi_names block.phis ++ flat_map inst_names block.insts) (term_names block.term) h in
    record {
      phis = every_to (λ phi. Every P (phi_names phi)) (λ phi. Every (λ o. Every P (operand_names o)) (phi_operands phi)) block.phis (λ phi g. every_flat P operand_names (phi_operands phi) g)
          (every_flat P phi_names block.phis (every_first P (flat_map phi_names block.phis) (flat_map inst_names block.insts) front));
      insts = every_to (λ inst. Every P (inst_names inst)) (λ inst. Every (λ o. Every P (operand_names o)) (operands inst)) block.insts (λ inst g. every_flat P operand_names (operands inst) g)
          (every_flat P inst_names block.insts (every_rest P (flat_map phi_names block.phis) (flat_map inst_names block.insts) front));
      term = every_flat P operand_names (term_operands block.term) (every_rest P (flat_map phi_names block.phis ++ flat_map inst_names block.insts) (term_names block.term) h);
    }

block_of_names : (P : ℕ → Type 0) (block : Block) → EachOperand (λ o. Every P (operand_names o)) block → Every P (block_names block)
block_of_names P block h =
    every_append P (flat_map phi_names block.phis ++ flat_map inst_names block.insts) (term_names block.term)
    (every_append P (flat_map phi_names block.phis) (flat_map inst_names block.insts)
    (flat_every P phi_names block.phis (every_to (λ phi. Every (λ o. Every P (operand_names o)) (phi_operands phi)) (λ phi. Every P (phi_names phi)) block.phis (λ phi g. flat_every P operand_names (phi_operands phi) g) h.phis))
    (flat_every P inst_names block.insts (every_to (λ inst. Every (λ o. Every P (operand_names o)) (operands inst)) (λ inst. Every P (inst_names inst)) block.insts (λ inst g. flat_every P operand_names (operands inst) g) h.insts)))
    (flat_every P operand_names (term_operands block.term) h.term)

names_left : (P : ℕ → Type 0) (w : Leaving) (blocks : List Block) → Every P (flat_map block_names blocks) → Every P (flat_map block_names (left_blocks w 0 0 blocks))
names_left P w blocks h =
    flat_every P block_names (left_blocks w 0 0 blocks) (every_to (EachOperand (λ o. Every P (operand_names o))) (λ block. Every P (block_names block)) (left_blocks w 0 0 blocks) (λ block g. block_of_names P block g)
    (blocks_carry w (λ o. Every P (operand_names o)) (λ o. Every P (operand_names o)) 0 0 blocks (names_carry w P)
    (every_to (λ block. Every P (block_names block)) (EachOperand (λ o. Every P (operand_names o))) blocks (λ block g. names_of_block P block g) (every_flat P block_names blocks h))))

all_in : {A : Type 0} (xs : List A) → Every (Contains xs) xs
all_in xs = every_by (Contains xs) xs (λ k x is. in_place xs k x is)

-- A residual body names no item that the function's body doesn't.
pub names_no_more : (known : List Known) (func : Func) (a : Assigned) (place : ℕ) → Contains (body_names (residual known func a)) place → Contains (definition_names func.body) place
names_no_more known func a place c =
    let at = place_in (body_names (residual known func a)) place c in
    every_at (Contains (definition_names func.body)) (body_names (residual known func a)) at.0 place (names_left (Contains (definition_names func.body)) (leaving known (blocks_of func) a) (blocks_of func) (by func.body)) at.1
  where
    by : (o : Option Body) → Every (Contains (definition_names o)) (flat_map block_names (blocks_in o))
    by None = tt
    by (Some body) = all_in (body_names body)

-- ---- parameters

-- A parameter is one of which nothing is known.
abbrev IsOpen : List Known → Operand → Type 0
IsOpen known o = (k : ℕ) (item : Known) → slice_get known k ≡ Some item → o ≡ operand.Param k → item ≡ Unknown

params_carry : (known : List Known) (blocks : List Block) (a : Assigned) → Carries (leaving known blocks a) (λ o. Unit {0}) (IsOpen known)
params_carry known blocks a (operand.Param j) h = by (slice_get known j) refl
  where
    by : (o : Option Known) → slice_get known j ≡ o → IsOpen known (value_or (operand.Param j) (value_of (param_fact o)))
    by None e k item is same = absurd (none-some item (sym e ∙ ap (slice_get known) (same_place same) ∙ is))
      where
        same_place : operand.Param j ≡ operand.Param k → j ≡ k
        same_place g = cc
    by (Some Unknown) e k item is same = sym (some_is (sym e ∙ ap (slice_get known) (same_place same) ∙ is))
      where
        same_place : operand.Param j ≡ operand.Param k → j ≡ k
        same_place g = cc
    by (Some (Num n)) e k item is same = cc
    by (Some Null) e k item is same = cc
params_carry known blocks a (operand.Reg j) h = by (known_of w.setting w.facts (operand.Reg j))
  where
    w : Leaving
    w = leaving known blocks a

    by : (v : Known) → IsOpen known (value_or (operand.Reg (rank w.kept j)) v)
    by Unknown k item is same = cc
    by (Num n) k item is same = cc
    by Null k item is same = cc
params_carry known blocks a (operand.Const c) h = λ k item is same. cc

each_any : (blocks : List Block) → Every (EachOperand (λ o. Unit {0})) blocks
each_any blocks = every_by (EachOperand (λ o. Unit {0})) blocks (λ k block is. record {
  phis = every_by (λ phi. Every (λ o. Unit {0}) (phi_operands phi)) block.phis (λ n phi e. every_by (λ o. Unit {0}) (phi_operands phi) (λ m o d. tt));
  insts = every_by (λ inst. Every (λ o. Unit {0}) (operands inst)) block.insts (λ n inst e. every_by (λ o. Unit {0}) (operands inst) (λ m o d. tt));
  term = every_by (λ o. Unit {0}) (term_operands block.term) (λ m o d. tt);
})

operands_of_block : (Q : Operand → Type 0) (block : Block) → EachOperand Q block → Every Q (block_operands block)
operands_of_block Q block h =
    every_append Q (flat_map phi_operands block.phis ++ flat_map operands block.insts) (term_operands block.term)
    (every_append Q (flat_map phi_operands block.phis) (flat_map operands block.insts) (flat_every Q phi_operands block.phis h.phis) (flat_every Q operands block.insts h.insts)) h.term

-- A residual body uses no parameter that has a known value.
pub params_open : (known : List Known) (func : Func) (a : Assigned) (k : ℕ) (item : Known) → slice_get known k ≡ Some item → Contains (body_operands (residual known func a)) (operand.Param k) → item ≡ Unknown
params_open known func a k item is c =
    let blocks = blocks_of func in
    let w = leaving known blocks a in
    let left = left_blocks w 0 0 blocks in
    let all : Every (IsOpen known) (flat_map block_operands left) =
    flat_every (IsOpen known) block_operands left (every_to (EachOperand (IsOpen known)) (λ block. Every (IsOpen known) (block_operands block)) left (λ block g. operands_of_block (IsOpen known) block g)
    (blocks_carry w (λ o. Unit {0}) (IsOpen known) 0 0 blocks (params_carry known blocks a) (each_any blocks))) in
    let at = place_in (body_operands (residual known func a)) (operand.Param k) c in
    every_at (IsOpen known) (body_operands (residual known func a)) at.0 (operand.Param k) all at.1 k item is refl
