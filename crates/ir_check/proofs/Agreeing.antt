-- Entries of a phi for one block are equal: each equals the first one for its block.
use Rattle.std.proofs.Common.{◌≡◌, ℕ, ◌<◌, ◌≤◌, true, false, List, length, get_or, refl, sym, ap, ◌∙◌, arith}
use Rattle.std.specs.Prelude.{Decides, AllPairs}
use Rattle.std.specs.List.{HoldsAt}
use Rattle.std.proofs.lemmas.Bool.{false≢true}
use Rattle.std.proofs.lemmas.List.{get_or_default}
use Rattle.ir_syntax.specs.declared.constant.Operand.{Operand}

abbrev Entry : Type 0
Entry = Operand × ℕ

-- the first entry for a block, if there is one
abbrev first_for : List ℕ → Entry → ℕ
first_for firsts entry = get_or firsts entry.1 0

pub record IsFirst (firsts : List ℕ) (entries : List Entry) (before : ℕ) (entry : Entry) : Type 0 where
  pub earlier : first_for firsts entry < before
  pub block : (d : Entry) → (get_or entries (first_for firsts entry) d).1 ≡ entry.1
  pub operand : (d : Entry) → (get_or entries (first_for firsts entry) d).0 ≡ entry.0

-- Each entry below a place has a first one for its block, which has its operand.
abbrev pub Firsts : List ℕ → List Entry → ℕ → Type 0
Firsts firsts entries i = (j : ℕ) → j < i → (d : Entry) → IsFirst firsts entries i (get_or entries j d)

abbrev pub Agree : List Entry → Type 0
Agree entries = AllPairs (λ a b. a.1 ≡ b.1 → a.0 ≡ b.0) entries

-- So all entries for one block are equal,
pub agree_all : (firsts : List ℕ) (entries : List Entry) (i : ℕ) → length entries ≤ i → Firsts firsts entries i → Decides true (Agree entries)
agree_all firsts entries i past so_far = (λ e. pairs, λ h. refl)
  where
    pairs : Agree entries
    pairs a b d less within same =
        let x = so_far a (omega arith) d in
        let y = so_far b (omega arith) d in
        sym (x.operand d) ∙ ap (λ block. (get_or entries (get_or firsts block 0) d).0) same ∙ y.operand d

-- unless one differs from the first for its block.
pub agree_not : (entries : List Entry) (i first : ℕ) (entry d : Entry) → i < length entries → entry ≡ get_or entries i entry → first < i → HoldsAt (λ e. e.1 ≡ entry.1) entries first → ((get_or entries first d).0 ≡ entry.0 → ⊥) → Decides false (Agree entries)
agree_not entries i first entry d within is less block differs = (
  λ e. absurd (false≢true e),
  λ pairs. absurd (differs (ap (λ e. e.0) (get_or_default entries first d entry (omega arith)) ∙ pairs first i entry less within (block entry ∙ ap (λ e. e.1) is) ∙ sym (ap (λ e. e.0) is))),
)
