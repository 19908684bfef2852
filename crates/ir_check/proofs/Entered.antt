-- Blocks that suit the blocks that their edges come from make a well-typed body.
use Rattle.std.proofs.Common.{◌≡◌, ℕ, zero, suc, ◌+◌, ◌<◌, ◌≤◌, inl, inr, Bool, true, false, List, [], ◌∷◌, length, get_or, Option, Some, Result, Ok, Err, IfOk, refl, sym, ap, ◌∙◌, subst, arith}
use Rattle.std.specs.Prelude.{◌==◌, Decides, All, IfSome, slice_get}
use Rattle.std.proofs.lemmas.Bool.{false≢true}
use Rattle.std.proofs.lemmas.Bool.Decides.{nat_tests}
use Rattle.std.proofs.lemmas.List.{get_or_default}
use Rattle.std.proofs.lemmas.List.Elements.{All-weaker}
use Rattle.std.proofs.lemmas.List.Sums.{count_by_more_yes}
use Rattle.ir_types.specs.declared.scalar.Scalar.{Scalar}
use Rattle.ir_syntax.specs.declared.body.Phi.{Phi}
use Rattle.ir_syntax.specs.declared.body.Block.{Block}
use Rattle.ir_syntax.specs.Edges.{edges}
use Rattle.ir_syntax.specs.Typed.{Types, TypedPhi, TypedBlock, TypedBody}
use Rattle.ir_check.specs.Incoming.{times, AreIncoming}
use Rattle.ir_check.specs.Suited.{SuitsPhi, SuitsBlock, AreTypedBlocks}
use Rattle.ir_check.proofs.Edging.{same_test, split_same}
use Rattle.ir_check.proofs.Counting.{count_by-take}

-- ---- the blocks that edges come from

-- Edges come from blocks that are there.
edge_there : (blocks : List Block) (from to : ℕ) → 0 < edges blocks from to → from < length blocks
edge_there [] from to some = absurd (omega arith)
edge_there (block ∷ blocks) zero to some = omega arith
edge_there (block ∷ blocks) (suc from) to some = omega (arith, edge_there blocks from to some)

counts_itself : (preds : List ℕ) (k d : ℕ) → k < length preds → 0 < times (get_or preds k d) preds
counts_itself preds k d within =
    let test = same_test (get_or preds k d) (get_or preds k d) refl in
    omega (arith, count_by_more_yes (λ pred. pred == get_or preds k d) preds k d within test, count_by-take (λ pred. pred == get_or preds k d) (k + 1) preds)

pub preds_there : (blocks : List Block) (incoming : List (List ℕ)) (place n : ℕ) (preds : List ℕ) → n ≡ length blocks → preds ≡ get_or incoming place [] → AreIncoming blocks incoming → place < length blocks → All (λ pred. pred < n) preds
preds_there blocks incoming place n preds long is are within k d below =
    let some : 0 < times (get_or preds k d) preds = counts_itself preds k d below in
    let same : times (get_or preds k d) preds ≡ edges blocks (get_or preds k d) place = ap (times (get_or preds k d)) is ∙ are.each (get_or preds k d) place within in
    omega (arith, edge_there blocks (get_or preds k d) place (omega (arith, some, same)), long)

-- A first block that edges come from is entered.
pub entered : (types : Types) (returns : Option Scalar) (blocks : List Block) (incoming : List (List ℕ)) → AreIncoming blocks incoming → (get_or incoming 0 [] ≡ [] → ⊥) → Decides false (TypedBody types returns blocks)
entered types returns blocks incoming are some = (λ e. absurd (false≢true e), λ typed. absurd (some (none (get_or incoming 0 []) refl typed.not_entered)))
  where
    within : (pred : ℕ) (preds : List ℕ) → get_or incoming 0 [] ≡ pred ∷ preds → 0 < length incoming
    within pred preds is = there incoming is
      where
        there : (lists : List (List ℕ)) → get_or lists 0 [] ≡ pred ∷ preds → 0 < length lists
        there [] e = cc
        there (l ∷ lists) e = omega arith

    none : (preds : List ℕ) → get_or incoming 0 [] ≡ preds → ((from : ℕ) → edges blocks from 0 ≡ 0) → get_or incoming 0 [] ≡ []
    none [] is not_entered = is
    none (pred ∷ preds) is not_entered =
        let first : times pred (pred ∷ preds) ≡ 0 = ap (times pred) (sym is) ∙ are.each pred 0 (omega (arith, are.as_many, within pred preds is)) ∙ not_entered pred in
        absurd (omega (arith, first, counts_itself (pred ∷ preds) 0 0 (omega arith)))

-- ---- phis and blocks

phi_typed : (types : Types) (blocks : List Block) (preds : List ℕ) (place : ℕ) → ((from : ℕ) → times from preds ≡ edges blocks from place) → (phi : Phi) → SuitsPhi types preds phi → TypedPhi types blocks place phi
phi_typed types blocks preds place are phi suits = record { edges = λ from. suits.edges from ∙ are from; agree = suits.agree; has_types = suits.has_types }

phi_suits : (types : Types) (blocks : List Block) (preds : List ℕ) (place : ℕ) → ((from : ℕ) → times from preds ≡ edges blocks from place) → (phi : Phi) → TypedPhi types blocks place phi → SuitsPhi types preds phi
phi_suits types blocks preds place are phi typed = record { edges = λ from. typed.edges from ∙ sym (are from); agree = typed.agree; has_types = typed.has_types }

block_typed : (types : Types) (returns : Option Scalar) (blocks : List Block) (preds : List ℕ) (place : ℕ) (block : Block) → ((from : ℕ) → times from preds ≡ edges blocks from place) → SuitsBlock types returns preds block → TypedBlock types returns blocks place block
block_typed types returns blocks preds place block are suits = record {
  phis = All-weaker (SuitsPhi types preds) (TypedPhi types blocks place) (phi_typed types blocks preds place are) block.phis suits.phis;
  insts = suits.insts;
  term = suits.term;
}

block_suits : (types : Types) (returns : Option Scalar) (blocks : List Block) (preds : List ℕ) (place : ℕ) (block : Block) → ((from : ℕ) → times from preds ≡ edges blocks from place) → TypedBlock types returns blocks place block → SuitsBlock types returns preds block
block_suits types returns blocks preds place block are typed = record {
  phis = All-weaker (TypedPhi types blocks place) (SuitsPhi types preds) (phi_suits types blocks preds place are) block.phis typed.phis;
  insts = typed.insts;
  term = typed.term;
}

-- ---- a body

-- Each block below a place suits the blocks that its edges come from.
abbrev pub SuitSoFar : Types → Option Scalar → List Block → List (List ℕ) → ℕ → Type 0
SuitSoFar types returns blocks incoming i = (k : ℕ) → k < i → (d : Block) → SuitsBlock types returns (get_or incoming k []) (get_or blocks k d)

get_there : {A : Type 0} (xs : List A) (k : ℕ) (d : A) → k < length xs → slice_get xs k ≡ Some (get_or xs k d)
get_there [] k d within = absurd (omega arith)
get_there (x ∷ xs) zero d within = refl
get_there (x ∷ xs) (suc k) d within = get_there xs k d (omega arith)

each_there : {A : Type 0} (P : A → Type 0) (xs : List A) (k : ℕ) → (k < length xs → (d : A) → P (get_or xs k d)) → IfSome (slice_get xs k) P
each_there P [] k holds = tt
each_there P (x ∷ xs) zero holds = holds (omega arith) x
each_there P (x ∷ xs) (suc k) holds = each_there P xs k (λ within d. holds (omega arith) d)

-- A block that doesn't suit decides the blocks.
pub blocks_stop : (types : Types) (returns : Option Scalar) (blocks : List Block) (incoming : List (List ℕ)) (i : ℕ) (block : Block) → AreIncoming blocks incoming → i < length blocks → block ≡ get_or blocks i block → (SuitsBlock types returns (get_or incoming i []) block → ⊥) → Decides false (AreTypedBlocks types returns blocks)
blocks_stop types returns blocks incoming i block are within is fails = (
  λ e. absurd (false≢true e),
  λ typed. absurd (fails (block_suits types returns blocks (get_or incoming i []) i block (λ from. are.each from i within) (here typed))),
)
  where
    here : AreTypedBlocks types returns blocks → TypedBlock types returns blocks i block
    here typed = subst (λ (o : Option Block). IfSome o (TypedBlock types returns blocks i)) (get_there blocks i block within ∙ ap Some (sym is)) (typed i)

pub blocks_go : (types : Types) (returns : Option Scalar) (blocks : List Block) (incoming : List (List ℕ)) (i : ℕ) (block : Block) → i < length blocks → block ≡ get_or blocks i block → SuitsBlock types returns (get_or incoming i []) block → SuitSoFar types returns blocks incoming i → SuitSoFar types returns blocks incoming (i + 1)
blocks_go types returns blocks incoming i block within is suits so_far k below d = elim (split_same k i) [ inl e ↦ here e | inr e ↦ so_far k (omega arith) d ]
  where
    here : k ≡ i → SuitsBlock types returns (get_or incoming k []) (get_or blocks k d)
    here e = subst (λ (j : ℕ). SuitsBlock types returns (get_or incoming j []) (get_or blocks j d)) (sym e) (subst (SuitsBlock types returns (get_or incoming i [])) (is ∙ get_or_default blocks i block d within) suits)

pub blocks_end : (types : Types) (returns : Option Scalar) (blocks : List Block) (incoming : List (List ℕ)) (i : ℕ) → AreIncoming blocks incoming → length blocks ≤ i → SuitSoFar types returns blocks incoming i → Decides true (AreTypedBlocks types returns blocks)
blocks_end types returns blocks incoming i are past so_far = (λ e. typed, λ h. refl)
  where
    typed : AreTypedBlocks types returns blocks
    typed place = each_there (TypedBlock types returns blocks place) blocks place
        (λ within d. block_typed types returns blocks (get_or incoming place []) place (get_or blocks place d) (λ from. are.each from place within) (so_far place (omega arith) d))

-- A body is well typed where the first block isn't entered, and each block is well typed.
pub not_entered : (types : Types) (returns : Option Scalar) (blocks : List Block) (incoming : List (List ℕ)) (r : Bool) → AreIncoming blocks incoming → get_or incoming 0 [] ≡ [] → Decides r (AreTypedBlocks types returns blocks) → Decides r (TypedBody types returns blocks)
not_entered types returns blocks incoming r are first decided = (λ e. record { not_entered = none blocks are; each = decided.0 e }, λ typed. decided.1 typed.each)
  where
    none : (blocks : List Block) → AreIncoming blocks incoming → (from : ℕ) → edges blocks from 0 ≡ 0
    none [] are from = refl
    none (block ∷ blocks) are from = sym (are.each from 0 (omega arith)) ∙ ap (times from) first

-- ---- answers

-- The length tells whether a list is empty.
pub empty_test : (xs : List ℕ) → xs ≡ [] → (length xs == 0) ≡ false → ⊥
empty_test [] e h = false≢true (sym h)
empty_test (x ∷ xs) e h = cc

pub empty_list : (xs : List ℕ) → (length xs == 0) ≡ true → xs ≡ []
empty_list [] h = refl
empty_list (x ∷ xs) h = absurd (grind (arith, nat_tests))

-- What an answer decides may be said otherwise.
pub on_ok : {E P Q : Type 0} (result : Result Bool E) → ((r : Bool) → Decides r P → Decides r Q) → IfOk result (λ r. Decides r P) → IfOk result (λ r. Decides r Q)
on_ok (Ok r) change h = change r h
on_ok (Err e) change h = tt
