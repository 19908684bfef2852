-- The order of demands is total.
use Rattle.std.specs.Cmp.{IsTotalOrder, IsEquivalence}
use Rattle.std.specs.Ordering.{eq_by_cmp}
use Rattle.std.proofs.lemmas.Cmp.{nat_cmp_total, on_total, then_total, lists_total, eq_by_cmp_equiv}
use Rattle.ir_syntax.specs.declared.symbol.Sym.{Sym}
use Rattle.demands.specs.Order.{kind_of, number_of, sort_of, symbol_of, pattern_of, known_order, pattern_order, symbol_order, demand_order}

pub known_total : IsTotalOrder known_order
known_total = then_total (on_total kind_of nat_cmp_total) (on_total number_of nat_cmp_total)

pub pattern_total : IsTotalOrder pattern_order
pattern_total = lists_total known_total

pub symbol_total : IsTotalOrder symbol_order
symbol_total = then_total (on_total (λ (s : Sym). s.module) nat_cmp_total) (on_total (λ (s : Sym). s.item) nat_cmp_total)

pub demand_total : IsTotalOrder demand_order
demand_total = then_total (on_total sort_of nat_cmp_total) (then_total (on_total symbol_of symbol_total) (on_total pattern_of pattern_total))

pub pattern_equiv : IsEquivalence (eq_by_cmp pattern_order)
pattern_equiv = eq_by_cmp_equiv pattern_total

pub demand_equiv : IsEquivalence (eq_by_cmp demand_order)
demand_equiv = eq_by_cmp_equiv demand_total
