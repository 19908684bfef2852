-- The first block's looks are opened, and what is left then bounds the transfers.
use Rattle.std.proofs.Common.{◌≡◌, ◌∙◌, inr, ℕ, ◌+◌, ◌*◌, ◌≤◌, List, [], ◌∷◌, ◌++◌, map, refl, sym, ap, subst, arith}
use Rattle.std.specs.Prelude.{Contains}
use Rattle.ir_syntax.specs.declared.body.Block.{Block}
use Rattle.fold_facts.specs.declared.fact.Fact.TheVariants.{Unreached}
use Rattle.fold_facts.specs.Assigned.{Assigned}
use Rattle.fold_facts.specs.Operands.{Setting}
use Rattle.fold_facts.specs.Raising.{blank}
use Rattle.fold_sparse.specs.declared.standing.Standing.{Standing}
use Rattle.fold_sparse.specs.declared.standing.Standing.TheVariants.{Unopened}
use Rattle.fold_sparse.specs.Bound.{places_in, operands_in}
use Rattle.fold_sparse.specs.Looks.{looks_of, uses_from}
use Rattle.fold_sparse.specs.Solving.{IsSolving, left, Opens}
use Rattle.fold_sparse.proofs.Counting.{left_most}
use Rattle.fold_sparse.proofs.Starting.{First, start_solving}
use Rattle.fold_sparse.proofs.Opening.{fewer}

append_none : {A : Type 0} (xs : List A) → xs ++ [] ≡ xs
append_none [] = refl
append_none (x ∷ xs) = ap (λ l. x ∷ l) (append_none xs)

pub start_opened : (setting : Setting) (blocks : List Block) (a : Assigned) (standing next : List Standing) (queue longer group : List ℕ) → a ≡ blank blocks Unreached → standing ≡ map (λ look. Unopened) (looks_of blocks) → queue ≡ []
    → ((x : ℕ) → Contains (First blocks) x → Contains group x) → Opens blocks a standing next queue longer group → IsSolving setting blocks a next longer [] []
start_opened setting blocks a standing next queue longer group is_blank none empty same opens =
    opens.goes setting [] [] (subst (λ u. IsSolving setting blocks a standing queue u []) (sym (append_none group))
    (subst (λ d. IsSolving setting blocks d standing queue group []) (sym is_blank)
    (subst (λ s. IsSolving setting blocks (blank blocks Unreached) s queue group []) (sym none)
    (subst (λ q. IsSolving setting blocks (blank blocks Unreached) (map (λ look. Unopened) (looks_of blocks)) q group []) (sym empty)
    (fewer setting blocks (blank blocks Unreached) (map (λ look. Unopened) (looks_of blocks)) [] group (First blocks) [] [] (λ x look is on un h. same x h) (λ x look is idle h. inr h) (start_solving setting blocks))))))

pub start_left : (blocks : List Block) (a b : Assigned) (standing next : List Standing) (queue longer group : List ℕ) (before after : ℕ) → a ≡ blank blocks Unreached → standing ≡ map (λ look. Unopened) (looks_of blocks) → queue ≡ []
    → b ≡ a → Opens blocks a standing next queue longer group → after ≤ before + left (uses_from blocks 0 (looks_of blocks)) b.facts next longer → after ≤ before + (places_in blocks + 3 * operands_in blocks)
start_left blocks a b standing next queue longer group before after is_blank none empty same opens ran =
    let uses = uses_from blocks 0 (looks_of blocks) in
    let one : left uses b.facts next longer ≡ left uses a.facts next longer = ap (λ (d : Assigned). left uses d.facts next longer) same in
    let two : left uses a.facts standing queue ≡ left uses (blank blocks Unreached).facts standing queue = ap (λ (d : Assigned). left uses d.facts standing queue) is_blank in
    let three : left uses (blank blocks Unreached).facts standing queue ≡ left uses (blank blocks Unreached).facts (map (λ look. Unopened) (looks_of blocks)) [] =
    ap (λ s. left uses (blank blocks Unreached).facts s queue) none ∙ ap (λ q. left uses (blank blocks Unreached).facts (map (λ look. Unopened) (looks_of blocks)) q) empty in
    let most : left uses (blank blocks Unreached).facts (map (λ look. Unopened) (looks_of blocks)) [] ≤ places_in blocks + 3 * operands_in blocks = left_most blocks in
    let opened : left uses a.facts next longer ≤ left uses a.facts standing queue = opens.left uses in
    omega (arith, ran, one, two, three, most, opened)
