use Rattle.std.proofs.Common.{◌≡◌, List, sym, subst, rules}
use Rattle.std.specs.Fn.{Called, ComputesKey}
use Rattle.std.specs.Cmp.Lexicographic.{slice_cmp}
use Rattle.std.specs.Ordering.{nat_cmp}
use Rattle.std.specs.declared.cmp.Ordering.{Ordering}
use Rattle.std.specs.List.Sorted.{IsSortedByKey}
use Rattle.std.proofs.lemmas.List.Sorted.{answers_always}
use denote.Param.Members.{Mut}
use denote.Ref.{Bor}
use Rattle.fixed_point.proofs.search.in_row_order.Goals as goal

-- what a sort by a key ensures, where each call of the closure gives the key
sorted_by_key : {F X K : Type 0} {g : Mut F (Bor X × Unit {0}) K} {f : F} (key : X → K) (cmp : K → K → Ordering) (xs : List X)
    → ((k : X → K) → ComputesKey g k f → IsSortedByKey k cmp xs)
    → ((f : F) (a : Bor X × Unit {0}) (r : K) (f' : F) → Called g f a r f' → r ≡ key a.0.now) → IsSortedByKey key cmp xs
sorted_by_key {g = g} {f = f} key cmp xs up says = up key (answers_always g (λ a r. r ≡ key a.0.now) f says)

pub returns-clause-order : goal.returns-clause-order
returns-clause-order g c =
    subst (λ (xs : List _). IsSortedByKey (λ pair. pair.0) (slice_cmp nat_cmp) xs) (sym c.from_vec.ensures)
    (sorted_by_key (λ pair. pair.0) (slice_cmp nat_cmp) c.sort_by_key.new.self.items c.in_ok-sort_by_key.ensures.sorted (λ f a r f' q. search rules))
