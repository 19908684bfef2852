-- The order of members.
use Rattle.std.specs.declared.cmp.Ordering.{Ordering}
use Rattle.std.specs.Cmp.{IsTotalOrder, IsEquivalence}
use Rattle.std.specs.Ordering.{eq_by_cmp, on}
use Rattle.std.proofs.lemmas.Cmp.{on_total, eq_by_cmp_equiv}
use Rattle.demands.specs.Order.{demand_order}
use Rattle.demands.specs.TotalOrder.{demand_total}
use Rattle.winnowed_form.specs.declared.member.Member.{Member}

abbrev pub member_order : Member → Member → Ordering
member_order = on (λ (member : Member). member.demand) demand_order

pub member_total : IsTotalOrder member_order
member_total = on_total (λ (member : Member). member.demand) demand_total

pub member_equiv : IsEquivalence (eq_by_cmp member_order)
member_equiv = eq_by_cmp_equiv member_total
