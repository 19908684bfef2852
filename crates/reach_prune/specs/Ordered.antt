-- The order of declarations.
use Rattle.std.specs.declared.cmp.Ordering.{Ordering}
use Rattle.std.specs.Cmp.{IsTotalOrder, IsEquivalence}
use Rattle.std.specs.Ordering.{eq_by_cmp, nat_cmp, on}
use Rattle.std.specs.Cmp.Lexicographic.{slice_cmp, nat_list_cmp_total}
use Rattle.std.proofs.lemmas.Cmp.{on_total, eq_by_cmp_equiv}
use Rattle.ir_syntax.specs.FormedBody.{item_name}
use Rattle.reach_prune.specs.declared.declared.Declared.{Declared}

-- by the bytes of the name
abbrev pub declared_order : Declared → Declared → Ordering
declared_order = on (λ (d : Declared). item_name d.item) (slice_cmp nat_cmp)

pub declared_total : IsTotalOrder declared_order
declared_total = on_total (λ (d : Declared). item_name d.item) nat_list_cmp_total

pub declared_equiv : IsEquivalence (eq_by_cmp declared_order)
declared_equiv = eq_by_cmp_equiv declared_total
