-- What a place says doesn't change with the fact of a result that it doesn't read.
use Rattle.std.proofs.Common.{◌≡◌, ◌∙◌, ◌⊎◌, inl, inr, ℕ, List, [], ◌∷◌, set, refl, sym, ap, subst}
use Rattle.std.specs.Prelude.{Contains}
use Rattle.std.proofs.lemmas.List.Elements.{Contains-append_left, Contains-append_right}
use Rattle.ir_syntax.specs.declared.constant.Operand.{Operand}
use Rattle.ir_syntax.specs.declared.constant.Operand.TheVariants as operand
use Rattle.ir_syntax.specs.declared.body.Inst.{Inst}
use Rattle.ir_syntax.specs.declared.body.Inst.TheVariants as inst
use Rattle.ir_syntax.specs.declared.body.Term.{Term}
use Rattle.ir_syntax.specs.declared.body.Term.TheVariants as term
use Rattle.ir_syntax.specs.Operands.{operands, term_operands}
use Rattle.fold_facts.specs.declared.fact.Fact.{Fact}
use Rattle.fold_facts.specs.Assigned.{fact_at}
use Rattle.fold_facts.specs.Operands.{Setting, operand_fact}
use Rattle.fold_facts.specs.Arithmetic.{bin_fact, icmp_fact, cast_fact}
use Rattle.fold_facts.specs.Instructions.{of_one, of_two, select_fact, inst_fact}
use Rattle.fold_facts.specs.Terminators.{edges_by, branch_edge, switch_edge, term_edges}
use Rattle.fold_facts.proofs.Lists.{is_or_not, set_other}
use Rattle.fold_sparse.specs.Looks.{registers}
use Rattle.fold_sparse.proofs.Lists.{registers_cons}
use Rattle.fold_sparse.proofs.Opening.{in_none, in_cons}
use Rattle.fold_sparse.proofs.Keys.{first_in, rest_in}

-- whether the number is among them
pub in_or_not : (n : ℕ) (ns : List ℕ) → Contains ns n ⊎ (Contains ns n → ⊥)
in_or_not n [] = inr (in_none n)
in_or_not n (m ∷ ms) = elim (is_or_not n m) [
  | inl same ↦ inl (subst (λ k. Contains (m ∷ ms) k) (sym same) (first_in m ms))
  | inr ne ↦ elim (in_or_not n ms) [
    | inl rest ↦ inl (rest_in n m ms rest)
    | inr none ↦ inr (λ h. elim (in_cons m ms n h) [ inl same ↦ ne same | inr rest ↦ none rest ])
  ]
]

abbrev pub IsUnread : List Operand → ℕ → Type 0
IsUnread os n = Contains (registers os) n → ⊥

unread_first : (o : Operand) (os : List Operand) (n : ℕ) → IsUnread (o ∷ os) n → IsUnread (o ∷ []) n
unread_first o os n h c = h (subst (λ rs. Contains rs n) (sym (registers_cons o os)) (Contains-append_left (registers (o ∷ [])) (registers os) n c))

unread_rest : (o : Operand) (os : List Operand) (n : ℕ) → IsUnread (o ∷ os) n → IsUnread os n
unread_rest o os n h c = h (subst (λ rs. Contains rs n) (sym (registers_cons o os)) (Contains-append_right (registers (o ∷ [])) (registers os) n c))

pub operand_unread : (setting : Setting) (facts : List Fact) (n : ℕ) (x : Fact) (o : Operand) → IsUnread (o ∷ []) n → operand_fact setting (set facts n x) o ≡ operand_fact setting facts o
operand_unread setting facts n x (operand.Param k) h = refl
operand_unread setting facts n x (operand.Reg k) h = ap fact_at (set_other facts n k x (λ same. h (subst (Contains (k ∷ [])) same (first_in k []))))
operand_unread setting facts n x (operand.Const c) h = refl

pub inst_unread : (setting : Setting) (facts : List Fact) (n : ℕ) (x : Fact) (i : Inst) → IsUnread (operands i) n → inst_fact setting (set facts n x) i ≡ inst_fact setting facts i
inst_unread setting facts n x (inst.Bin op flags ty a b) h =
    ap (λ f. of_two (bin_fact op flags ty) f (operand_fact setting (set facts n x) b)) (operand_unread setting facts n x a (unread_first a (b ∷ []) n h))
    ∙ ap (of_two (bin_fact op flags ty) (operand_fact setting facts a)) (operand_unread setting facts n x b (unread_rest a (b ∷ []) n h))
inst_unread setting facts n x (inst.Icmp pred ty a b) h =
    ap (λ f. of_two (icmp_fact pred ty) f (operand_fact setting (set facts n x) b)) (operand_unread setting facts n x a (unread_first a (b ∷ []) n h))
    ∙ ap (of_two (icmp_fact pred ty) (operand_fact setting facts a)) (operand_unread setting facts n x b (unread_rest a (b ∷ []) n h))
inst_unread setting facts n x (inst.Select ty c a b) h =
    let rest = unread_rest c (a ∷ b ∷ []) n h in
    ap (λ f. select_fact f (operand_fact setting (set facts n x) a) (operand_fact setting (set facts n x) b)) (operand_unread setting facts n x c (unread_first c (a ∷ b ∷ []) n h))
    ∙ ap (λ f. select_fact (operand_fact setting facts c) f (operand_fact setting (set facts n x) b)) (operand_unread setting facts n x a (unread_first a (b ∷ []) n rest))
    ∙ ap (select_fact (operand_fact setting facts c) (operand_fact setting facts a)) (operand_unread setting facts n x b (unread_rest a (b ∷ []) n rest))
inst_unread setting facts n x (inst.Cast op nneg from to a) h = ap (of_one (cast_fact op nneg from to)) (operand_unread setting facts n x a h)
inst_unread setting facts n x (inst.Alloca ty count align) h = refl
inst_unread setting facts n x (inst.Load ty at align) h = refl
inst_unread setting facts n x (inst.Store ty value at align) h = refl
inst_unread setting facts n x (inst.Gep inbounds ty base indices) h = refl
inst_unread setting facts n x (inst.Call fn_ty ret_ext callee args) h = refl

pub term_unread : (setting : Setting) (facts : List Fact) (n : ℕ) (x : Fact) (t : Term) → IsUnread (term_operands t) n → term_edges setting (set facts n x) t ≡ term_edges setting facts t
term_unread setting facts n x term.RetVoid h = refl
term_unread setting facts n x (term.Ret ty value) h = refl
term_unread setting facts n x (term.Br to) h = refl
term_unread setting facts n x (term.CondBr c one other) h = ap (edges_by branch_edge) (operand_unread setting facts n x c h)
term_unread setting facts n x (term.Switch ty value default cases) h = ap (edges_by (switch_edge cases)) (operand_unread setting facts n x value h)
term_unread setting facts n x term.Unreachable h = refl
