use Rattle.std.proofs.Common.{◌≡◌, Bool, List, ap, rules}
use Rattle.std.specs.Fn.{Called, ComparesAs}
use Rattle.std.specs.Cmp.{IsStrictWeakOrder}
use Rattle.std.specs.Ordering.{is_lt}
use Rattle.std.specs.declared.cmp.Ordering.{Ordering}
use Rattle.std.specs.List.Sorted.{IsSortedBy, IsSortedByKey}
use Rattle.std.proofs.lemmas.List.Sorted.{answers_always, ranks_by}
use denote.Param.Members.{Mut}
use denote.Ref.{Bor}
use Rattle.demands.specs.declared.demand.Demand.{Demand}
use Rattle.demands.specs.Order.{demand_order}
use Rattle.demands.specs.TotalOrder.{demand_total}
use Rattle.straight_fold.proofs.cuts.in_demand_order.Goals as goal

-- what a sort by a comparison ensures, where each call of the closure compares the demands
sorted-by : {F X : Type 0} {g : Mut F (Bor X × (Bor X × Unit {0})) Ordering} {f : F} (key : X → Demand) (xs : List X)
    → ((lt : X → X → Bool) → IsStrictWeakOrder lt → ComparesAs g lt f → IsSortedBy lt xs)
    → ((f : F) (a : Bor X × (Bor X × Unit {0})) (r : Ordering) (f' : F) → Called g f a r f' → r ≡ demand_order (key a.0.now) (key a.1.0.now)) → IsSortedByKey key demand_order xs
sorted-by {g = g} {f = f} key xs up says =
    up (λ x y. is_lt (demand_order (key x) (key y))) (ranks_by demand_total key)
    (answers_always g (λ a r. is_lt r ≡ is_lt (demand_order (key a.0.now) (key a.1.0.now))) f (λ f a r f' q. ap is_lt (says f a r f' q)))

pub returns-clause-order : goal.returns-clause-order
returns-clause-order c =
    sorted-by (λ one. one.demand) c.sort_by.new.self.items c.in_ok-sort_by.ensures.sorted (λ f a r f' q. search rules)
