-- The order of names by their bytes.
use Rattle.std.proofs.Common.{◌≡◌, ◌≢◌, ◌∙◌, ℕ, List, refl, sym, ap}
use Rattle.std.specs.declared.cmp.Ordering.{Ordering}
use Rattle.std.specs.declared.cmp.Ordering.TheVariants.{Less, Equal, Greater}
use Rattle.std.specs.Cmp.Lexicographic.{slice_cmp, nat_list_cmp_total}
use Rattle.std.specs.Ordering.{nat_cmp, is_eq, ordering_reverse}
use Rattle.std.proofs.lemmas.Slice.Eq.{bytes_eq-Decides}
use Rattle.std.proofs.lemmas.Map.Text.{is_eq-slice_cmp}

-- of two names neither of which is less than the other
pub same_name : (name other : List ℕ) → slice_cmp nat_cmp name other ≢ Less → slice_cmp nat_cmp other name ≢ Less → name ≡ other
same_name name other below above = by (slice_cmp nat_cmp name other) refl
  where
    by : (r : Ordering) → slice_cmp nat_cmp name other ≡ r → name ≡ other
    by Less e = absurd (below e)
    by Equal e = (bytes_eq-Decides name other).0 (sym (is_eq-slice_cmp name other) ∙ ap is_eq e)
    by Greater e = absurd (above (nat_list_cmp_total.antisymm other name ∙ ap ordering_reverse e))

-- a name that is not less than one, where that is the lesser
pub not_less : (name low high : List ℕ) → slice_cmp nat_cmp name high ≢ Less → slice_cmp nat_cmp low high ≡ Less → slice_cmp nat_cmp name low ≢ Less
not_less name low high above below less = above (nat_list_cmp_total.trans name low high less below)

pub not_below_itself : (name : List ℕ) → slice_cmp nat_cmp name name ≢ Less
not_below_itself name below = let back : Less ≡ ordering_reverse Less = sym below ∙ nat_list_cmp_total.antisymm name name ∙ ap ordering_reverse below in cc
