-- Rows that were sorted, without repeats.
use Rattle.std.proofs.Common.{◌≡◌, ◌∙◌, ℕ, List, [], bytes_eq, sym, subst}
use Rattle.std.specs.Ordering.{nat_cmp}
use Rattle.std.specs.Cmp.Lexicographic.{slice_cmp, nat_list_cmp_total, nat_list_eq_equiv, texts_ties, bytes_decides}
use Rattle.std.specs.List.{dedup}
use Rattle.std.specs.List.Retain.{IsFiltered, DiffersFromLast}
use Rattle.std.specs.List.Sorted.{IsSorted, IsPermutation}
use Rattle.std.proofs.lemmas.List.Filters.{dedup_is}
use Rattle.std.proofs.lemmas.List.Kept.{IsStrictlySortedBy-dedup, Contains-dedup, Contains-from_dedup}
use Rattle.std.proofs.lemmas.List.Sorted.{Contains-permutation, IsPermutation-sym}
use Rattle.specialise.specs.Needs.{AreInOrder}
use Rattle.specialise.proofs.Ordered.{all_of}

pub in_order_of : (asked sorted kept rows : List (List ℕ)) → IsPermutation asked sorted → IsSorted (slice_cmp nat_cmp) sorted → IsFiltered (DiffersFromLast bytes_eq) [] sorted kept → rows ≡ kept → AreInOrder asked rows
in_order_of asked sorted kept rows moved up filtered is =
    let made : rows ≡ dedup bytes_eq sorted = is ∙ dedup_is bytes_eq sorted kept filtered in
    subst (AreInOrder asked) (sym made) (record {
      sorted = IsStrictlySortedBy-dedup nat_list_cmp_total texts_ties sorted up;
      all = all_of asked (dedup bytes_eq sorted) (λ x c. Contains-dedup nat_list_eq_equiv (λ a b same. (bytes_decides a b).0 same) sorted x (Contains-permutation asked sorted x moved c));
      only = all_of (dedup bytes_eq sorted) asked (λ x c. Contains-permutation sorted asked x (IsPermutation-sym asked sorted moved) (Contains-from_dedup bytes_eq sorted x c));
    })
