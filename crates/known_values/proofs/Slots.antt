-- What holds of each result that is set holds of them once more are set.
use Rattle.std.proofs.Common.{◌≡◌, ◌∙◌, ℕ, zero, suc, ◌<◌, List, [], ◌∷◌, length, drop, replicate, set, slice_get, Option, Some, None, refl, subst, arith}
use Rattle.std.proofs.lemmas.List.{length-set}
use Rattle.ir_syntax.specs.declared.symbol.Sym.{Sym}
use Rattle.block_memory.specs.declared.value.Val.{Val}
use Rattle.ir_steps.specs.States.{slot}
use Rattle.ir_steps.specs.Branches.{set_from}
use Rattle.fold_facts.proofs.Lists.{some_is}

-- what holds of each result that is set
abbrev pub AreSet : (ℕ → Val Sym → Type 0) → List (Option (Val Sym)) → Type 0
AreSet P results = (k : ℕ) (v : Val Sym) → slot results k ≡ Some v → P k v

-- one more
pub set_one : (P : ℕ → Val Sym → Type 0) (results : List (Option (Val Sym))) (k : ℕ) (x : Val Sym) → AreSet P results → P k x → AreSet P (set results k (Some x))
set_one P [] k x h px j v e = h j v e
set_one P (y ∷ more) zero x h px zero v e = subst (P 0) (some_is e) px
set_one P (y ∷ more) zero x h px (suc j) v e = h (suc j) v e
set_one P (y ∷ more) (suc k) x h px zero v e = h zero v e
set_one P (y ∷ more) (suc k) x h px (suc j) v e = set_one (λ n. P (suc n)) more k x (λ n w. h (suc n) w) px j v e

-- values for the results from a number on
abbrev pub AreFrom : (ℕ → Val Sym → Type 0) → ℕ → List (Val Sym) → Type 0
AreFrom P k [] = Unit {0}
AreFrom P k (x ∷ xs) = P k x × AreFrom P (suc k) xs

pub set_all : (P : ℕ → Val Sym → Type 0) (xs : List (Val Sym)) (k : ℕ) (results : List (Option (Val Sym))) → AreSet P results → AreFrom P k xs → AreSet P (set_from k xs results)
set_all P [] k results h are = h
set_all P (x ∷ xs) k results h are = set_all P xs (suc k) (set results k (Some x)) (set_one P results k x h are.0) are.1

pub set_length : (xs : List (Val Sym)) (k : ℕ) (results : List (Option (Val Sym))) → length (set_from k xs results) ≡ length results
set_length [] k results = refl
set_length (x ∷ xs) k results = set_length xs (suc k) (set results k (Some x)) ∙ length-set results k (Some x)

-- At first none is set.
pub none_set : (P : ℕ → Val Sym → Type 0) (n : ℕ) → AreSet P (replicate n None)
none_set P zero k v e = cc
none_set P (suc n) zero v e = cc
none_set P (suc n) (suc k) v e = none_set (λ m. P (suc m)) n k v e

-- ---- what is left of a list

-- the list from a place on, where it begins with an item
pub record IsNext {X : Type 0} (xs : List X) (n : ℕ) (x : X) (more : List X) : Type 0 where
  pub at : slice_get xs n ≡ Some x
  pub within : n < length xs
  pub behind : more ≡ drop (suc n) xs

pub next_is : {X : Type 0} (xs : List X) (n : ℕ) (x : X) (more : List X) → drop n xs ≡ x ∷ more → IsNext xs n x more
next_is [] zero x more e = cc
next_is [] (suc n) x more e = cc
next_is {X} (y ∷ ys) zero x more e = record { at = head; within = omega arith; behind = tail }
  where
    head : ◌≡◌ {A = Option X} (Some y) (Some x)
    head = cc

    tail : more ≡ ys
    tail = cc
next_is (y ∷ ys) (suc n) x more e = let h = next_is ys n x more e in record { at = h.at; within = omega (arith, h.within); behind = h.behind }
