-- One rule and one name at most are refused, and none of a linked program.
use Rattle.std.proofs.Common.{◌≡◌, ◌∙◌, ◌⊎◌, inl, inr, ℕ, zero, suc, ◌<◌, List, [], ◌∷◌, ◌++◌, take, Some, refl, sym, ap, subst, arith}
use Rattle.std.specs.List.{All, slice_get}
use Rattle.std.proofs.lemmas.List.Elements.{All-head, All-tail}
use Rattle.ir_types.proofs.ListSteps.{All-at}
use Rattle.ir_syntax.specs.declared.item.Module.{Module}
use Rattle.ir_syntax.specs.Refusals.{Deployment, Rule, earlier, all_rules, Breaks, IsKept, IsLeast, IsFirst, IsChosen, IsRefused}
use Rattle.ir_syntax.specs.Programs.{ProgramData, Linked}
use Rattle.linker.proofs.NameOrder.{same_name}

-- ---- the order of the rules

abbrev rank : Rule → ℕ
rank Rule.TwoDefinitions = 0
rank Rule.NoDefinition = 1
rank Rule.TypeClash = 2
rank Rule.NoEntry = 3
rank Rule.EntryShape = 4
rank Rule.NoExport = 5
rank Rule.ExportShape = 6

stands : (rule : Rule) → slice_get all_rules (rank rule) ≡ Some rule
stands Rule.TwoDefinitions = refl
stands Rule.NoDefinition = refl
stands Rule.TypeClash = refl
stands Rule.NoEntry = refl
stands Rule.EntryShape = refl
stands Rule.NoExport = refl
stands Rule.ExportShape = refl

are_before : (rule : Rule) → earlier rule ≡ take (rank rule) all_rules
are_before Rule.TwoDefinitions = refl
are_before Rule.NoDefinition = refl
are_before Rule.TypeClash = refl
are_before Rule.NoEntry = refl
are_before Rule.EntryShape = refl
are_before Rule.NoExport = refl
are_before Rule.ExportShape = refl

taken : {A : Type 0} (xs : List A) (n k : ℕ) → k < n → slice_get (take n xs) k ≡ slice_get xs k
taken xs zero k less = absurd (omega arith)
taken [] (suc n) k less = refl
taken (x ∷ xs) (suc n) zero less = refl
taken (x ∷ xs) (suc n) (suc k) less = taken xs n k (omega arith)

-- what holds of all rules before one holds of each
before : (P : Rule → Type 0) (rule other : Rule) → rank rule < rank other → All P (earlier other) → P rule
before P rule other less all =
    All-at P (take (rank other) all_rules) (rank rule) rule (subst (All P) (are_before other) all) (taken all_rules (rank other) (rank rule) less ∙ stands rule)

same_rank : (rule other : Rule) → rank rule ≡ rank other → rule ≡ other
same_rank rule other same = let found : Some rule ≡ Some other = sym (stands rule) ∙ ap (slice_get all_rules) same ∙ stands other in cc

in_order : (a b : ℕ) → (a < b) ⊎ ((a ≡ b) ⊎ (b < a))
in_order zero zero = inr (inl refl)
in_order zero (suc b) = inl (omega arith)
in_order (suc a) zero = inr (inr (omega arith))
in_order (suc a) (suc b) = elim (in_order a b) [ inl less ↦ inl (omega arith) | inr rest ↦ elim rest [ inl same ↦ inr (inl (ap suc same)) | inr more ↦ inr (inr (omega arith)) ] ]

-- ---- the name that is chosen

pub chosen_breaks : (modules : List Module) (d : Deployment) (rule : Rule) (name : List ℕ) → IsChosen modules d rule name → Breaks modules d rule name
chosen_breaks modules d Rule.TwoDefinitions name is = is.broken
chosen_breaks modules d Rule.NoDefinition name is = is.broken
chosen_breaks modules d Rule.TypeClash name is = is.broken
chosen_breaks modules d Rule.NoEntry name is = is.broken
chosen_breaks modules d Rule.EntryShape name is = is.broken
chosen_breaks modules d Rule.NoExport name is = is.broken
chosen_breaks modules d Rule.ExportShape name is = is.broken

one_least : (Broken : List ℕ → Type 0) (name other : List ℕ) → IsLeast Broken name → IsLeast Broken other → name ≡ other
one_least Broken name other a b = same_name name other (b.least name a.broken) (a.least other b.broken)

one_first_in : (Broken : List ℕ → Type 0) (fore fore' back back' : List (List ℕ)) (name other : List ℕ) → fore ++ name ∷ back ≡ fore' ++ other ∷ back'
    → Broken name → Broken other → All (λ n. Broken n → ⊥) fore → All (λ n. Broken n → ⊥) fore' → name ≡ other
one_first_in Broken [] [] back back' name other same b b' none none' = cc
one_first_in Broken [] (x ∷ fore') back back' name other same b b' none none' =
    let e : name ≡ x = cc in absurd (All-head (λ n. Broken n → ⊥) x fore' none' (subst Broken e b))
one_first_in Broken (x ∷ fore) [] back back' name other same b b' none none' =
    let e : other ≡ x = cc in absurd (All-head (λ n. Broken n → ⊥) x fore none (subst Broken e b'))
one_first_in Broken (x ∷ fore) (y ∷ fore') back back' name other same b b' none none' =
    let rest : fore ++ name ∷ back ≡ fore' ++ other ∷ back' = cc in
    one_first_in Broken fore fore' back back' name other rest b b' (All-tail (λ n. Broken n → ⊥) x fore none) (All-tail (λ n. Broken n → ⊥) y fore' none')

one_first : (names : List (List ℕ)) (Broken : List ℕ → Type 0) (name other : List ℕ) → IsFirst names Broken name → IsFirst names Broken other → name ≡ other
one_first names Broken name other a b = one_first_in Broken a.before b.before a.after b.after name other (sym a.stands ∙ b.stands) a.broken b.broken a.first b.first

one_chosen : (modules : List Module) (d : Deployment) (rule : Rule) (name other : List ℕ) → IsChosen modules d rule name → IsChosen modules d rule other → name ≡ other
one_chosen modules d Rule.TwoDefinitions name other a b = one_least (Breaks modules d Rule.TwoDefinitions) name other a b
one_chosen modules d Rule.NoDefinition name other a b = one_least (Breaks modules d Rule.NoDefinition) name other a b
one_chosen modules d Rule.TypeClash name other a b = one_least (Breaks modules d Rule.TypeClash) name other a b
one_chosen modules d Rule.NoEntry name other a b = one_least (Breaks modules d Rule.NoEntry) name other a b
one_chosen modules d Rule.EntryShape name other a b = one_least (Breaks modules d Rule.EntryShape) name other a b
one_chosen modules d Rule.NoExport name other a b = one_first d.exports (Breaks modules d Rule.NoExport) name other a b
one_chosen modules d Rule.ExportShape name other a b = one_first d.exports (Breaks modules d Rule.ExportShape) name other a b

-- ---- the laws

pub refusal_is_one : (modules : List Module) (d : Deployment) (rule other_rule : Rule) (name other_name : List ℕ) → IsRefused modules d rule name → IsRefused modules d other_rule other_name → (rule ≡ other_rule) × (name ≡ other_name)
refusal_is_one modules d rule other_rule name other_name a b = elim (in_order (rank rule) (rank other_rule)) [
  | inl less ↦ absurd (before (IsKept modules d) rule other_rule less b.earlier_kept name (chosen_breaks modules d rule name a.chosen))
  | inr rest ↦ elim rest [
    | inl same ↦
        let e : rule ≡ other_rule = same_rank rule other_rule same in
        (e, one_chosen modules d other_rule name other_name (subst (λ r. IsChosen modules d r name) e a.chosen) b.chosen)
    | inr more ↦ absurd (before (IsKept modules d) other_rule rule more a.earlier_kept other_name (chosen_breaks modules d other_rule other_name b.chosen))
  ]
]

pub linked_is_not_refused : (modules : List Module) (d : Deployment) (p : ProgramData) (rule : Rule) (name : List ℕ) → Linked modules d p → IsRefused modules d rule name → ⊥
linked_is_not_refused modules d p rule name linked refused =
    All-at (IsKept modules d) all_rules (rank rule) rule linked.kept (stands rule) name (chosen_breaks modules d rule name refused.chosen)
