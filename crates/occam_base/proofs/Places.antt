-- Places of names, one entry on.
use Rattle.std.proofs.Common.{◌≡◌, ◌≢◌, ℕ, zero, suc, ◌+◌, ◌<◌, List, [], ◌∷◌, length, drop, subst, arith, get_or, drop-cons, add-one}
use Rattle.occam_base.specs.Entries.{IsFirstAt, IsMissing, HasDistinctNames}

-- what holds of the entries from a place on holds of all of them
pub record Reaches (name : List ℕ) (files : List (List ℕ × List ℕ)) (at : ℕ) : Type 0 where
  pub found : (i : ℕ) → IsFirstAt name (drop at files) i → IsFirstAt name files (at + i)
  pub missing : IsMissing name (drop at files) → IsMissing name files

pub reaches_all : (name : List ℕ) (files : List (List ℕ × List ℕ)) → Reaches name files 0
reaches_all name files = record { found = λ i h. subst (IsFirstAt name files) (omega arith) h; missing = λ h. h }

-- an entry of another name is passed
pub reaches_on : (name : List ℕ) (files : List (List ℕ × List ℕ)) (at : ℕ) (e : List ℕ × List ℕ) → at < length files → get_or files at e ≡ e → e.0 ≢ name →
    Reaches name files at → Reaches name files (at + 1)
reaches_on name files at e within is other so_far =
    let split : drop at files ≡ e ∷ drop (at + 1) files = rw (add-one, drop-cons files at e, is) in
    record {
      found = λ i h.
          let one_on : at + suc i ≡ at + 1 + i = omega arith in
          subst (IsFirstAt name files) one_on (so_far.found (suc i) (rw split (other, h)));
      missing = λ h. so_far.missing (rw split (other, h));
    }

pub reaches_here : (name : List ℕ) (files : List (List ℕ × List ℕ)) (at : ℕ) (e : List ℕ × List ℕ) → at < length files → get_or files at e ≡ e → e.0 ≡ name →
    Reaches name files at → IsFirstAt name files at
reaches_here name files at e within is here so_far =
    let split : drop at files ≡ e ∷ drop (at + 1) files = rw (add-one, drop-cons files at e, is) in
    subst (IsFirstAt name files) (omega arith) (so_far.found 0 (rw split here))

pub reaches_end : (name : List ℕ) (files : List (List ℕ × List ℕ)) (at : ℕ) → drop at files ≡ [] → Reaches name files at → IsMissing name files
reaches_end name files at none so_far = so_far.missing (rw none tt)

-- a name can't both stand somewhere and be missing
pub first_not_missing : (name : List ℕ) (files : List (List ℕ × List ℕ)) (i : ℕ) → IsFirstAt name files i → IsMissing name files → ⊥
first_not_missing name [] i h m = h
first_not_missing name (e ∷ es) zero h m = m.0 h
first_not_missing name (e ∷ es) (suc i) h m = first_not_missing name es i h.1 m.1

-- the names from a place on are distinct exactly where all are
pub record Separates (files : List (List ℕ × List ℕ)) (at : ℕ) : Type 0 where
  pub all : HasDistinctNames (drop at files) → HasDistinctNames files
  pub rest : HasDistinctNames files → HasDistinctNames (drop at files)

pub separates_on : (files : List (List ℕ × List ℕ)) (at : ℕ) (e : List ℕ × List ℕ) → at < length files → get_or files at e ≡ e → IsMissing e.0 (drop (at + 1) files) →
    Separates files at → Separates files (at + 1)
separates_on files at e within is missing so_far =
    let split : drop at files ≡ e ∷ drop (at + 1) files = rw (add-one, drop-cons files at e, is) in
    record {
      all = λ h. so_far.all (rw split (missing, h));
      rest = λ h. let both = so_far.rest h in (rw split at both).1;
    }

pub separates_not : (files : List (List ℕ × List ℕ)) (at : ℕ) (e : List ℕ × List ℕ) (i : ℕ) → at < length files → get_or files at e ≡ e → IsFirstAt e.0 (drop (at + 1) files) i →
    Separates files at → HasDistinctNames files → ⊥
separates_not files at e i within is again so_far h =
    let split : drop at files ≡ e ∷ drop (at + 1) files = rw (add-one, drop-cons files at e, is) in
    let both = so_far.rest h in
    first_not_missing _ _ i again (rw split at both).0
