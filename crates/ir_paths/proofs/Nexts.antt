-- What is left of a list that is gone over by place, with the element at the place at its head.
use Rattle.std.proofs.Common.{◌≡◌, ◌∙◌, ℕ, ◌+◌, List, ◌∷◌, ◌++◌, drop, Some, slice_get, flat_map, ap, sym}
use Rattle.std.proofs.lemmas.List.{drop_more, append_assoc}
use Rattle.std.proofs.lemmas.Option.{slice_get_within, get_or_from_slice_get}
use Rattle.ir_paths.specs.Spreading.{State, arrive, arrive_all}

next : {X : Type 0} (xs : List X) (k : ℕ) (x : X) → slice_get xs k ≡ Some x → drop k xs ≡ x ∷ drop (k + 1) xs
next xs k x is = drop_more xs k x (slice_get_within xs k x is) ∙ ap (λ y. y ∷ drop (k + 1) xs) (get_or_from_slice_get xs k x x is)

-- what one element adds, and then the others
pub adds_next : {X Y : Type 0} (f : X → List Y) (xs : List X) (k : ℕ) (x : X) (before now all : List Y) → slice_get xs k ≡ Some x → now ≡ before ++ f x → before ++ flat_map f (drop k xs) ≡ all →
    now ++ flat_map f (drop (k + 1) xs) ≡ all
adds_next f xs k x before now all is added rest =
    ap (λ n. n ++ flat_map f (drop (k + 1) xs)) added
    ∙ append_assoc before (f x) (flat_map f (drop (k + 1) xs))
    ∙ ap (λ ys. before ++ flat_map f ys) (sym (next xs k x is))
    ∙ rest

-- bits that come to one block, and then to the others
pub arrives_next : (bits : ℕ) (xs : List ℕ) (k x : ℕ) (before now all : State) → slice_get xs k ≡ Some x → now ≡ arrive bits x before → arrive_all bits (drop k xs) before ≡ all →
    arrive_all bits (drop (k + 1) xs) now ≡ all
arrives_next bits xs k x before now all is came rest =
    ap (λ s. arrive_all bits (drop (k + 1) xs) s) came ∙ ap (λ ys. arrive_all bits ys before) (sym (next xs k x is)) ∙ rest
