-- Each step leaves less to do.
use Rattle.std.proofs.Common.{◌≡◌, ℕ, zero, suc, ◌+◌, ◌<◌, ◌≤◌, Bool, List, [], ◌∷◌, ◌++◌, Some, length, set, ap, subst, arith}
use Rattle.std.specs.Prelude.{slice_get, slice_index}
use Rattle.std.proofs.lemmas.Option.{none-some}
use Rattle.std.proofs.lemmas.List.{length-append}
use Rattle.call_cycles.specs.declared.graph.Graph.{Graph}
use Rattle.call_cycles.specs.declared.mark.Mark.{Mark}
use Rattle.call_cycles.specs.declared.mark.Mark.TheVariants.{Fresh, Open, Closed}
use Rattle.call_cycles.specs.Searching.{put_all, is_fresh, fresh_count, edges_left, left}
use Rattle.call_cycles.proofs.Lists.{some_is}

fresh_set : (marks : List Mark) (v j : ℕ) → slice_get marks v ≡ Some Fresh → fresh_count (set marks v (Open j)) + 1 ≡ fresh_count marks
fresh_set [] v j h = absurd (none-some Fresh h)
fresh_set (m ∷ ms) zero j h = let one : is_fresh m ≡ 1 = ap is_fresh (some_is h) in omega (arith, one)
fresh_set (m ∷ ms) (suc v) j h = omega (arith, fresh_set ms v j h)

pub left_entered : (g : Graph) (marks : List Mark) (next bounds waiting : List ℕ) (v j : ℕ) → slice_get marks v ≡ Some Fresh
    → left g (set marks v (Open j)) next (bounds ++ j ∷ []) (waiting ++ j ∷ []) < left g marks next bounds waiting
left_entered g marks next bounds waiting v j h = omega (arith, fresh_set marks v j h, length-append bounds (j ∷ []), length-append waiting (j ∷ []))

edges_set : (starts : List ℕ) (k : ℕ) (next : List ℕ) (u place j : ℕ) → slice_get next u ≡ Some place → k + u + 1 ≡ j → place < slice_index starts j
    → edges_left starts k (set next u (place + 1)) + 1 ≡ edges_left starts k next
edges_set starts k [] u place j h e less = absurd (none-some place h)
edges_set starts k (n ∷ ns) zero place j h e less =
    let here : n ≡ place = some_is h in
    let below : place < slice_index starts (suc k) = subst (λ i. place < slice_index starts i) (omega (arith, e)) less in
    omega (arith, here, below)
edges_set starts k (n ∷ ns) (suc u) place j h e less = omega (arith, edges_set starts (suc k) ns u place j h (omega (arith, e)) less)

pub left_followed : (g : Graph) (marks : List Mark) (next bounds waiting : List ℕ) (u place : ℕ) → slice_get next u ≡ Some place → place < slice_index g.starts (u + 1)
    → left g marks (set next u (place + 1)) bounds waiting < left g marks next bounds waiting
left_followed g marks next bounds waiting u place h less = omega (arith, edges_set g.starts 0 next u place (u + 1) h (omega arith) less)

closed_set : (marks : List Mark) (k : ℕ) (flag : Bool) → fresh_count (set marks k (Closed flag)) ≤ fresh_count marks
closed_set [] k flag = omega arith
closed_set (m ∷ ms) zero flag = omega arith
closed_set (m ∷ ms) (suc k) flag = omega (arith, closed_set ms k flag)

fresh_put : (ks : List ℕ) (marks : List Mark) (flag : Bool) → fresh_count (put_all ks (Closed flag) marks) ≤ fresh_count marks
fresh_put [] marks flag = omega arith
fresh_put (k ∷ ks) marks flag = omega (arith, fresh_put ks (set marks k (Closed flag)) flag, closed_set marks k flag)

pub left_closed : (g : Graph) (marks : List Mark) (next bounds rest waiting ks : List ℕ) (bound : ℕ) (flag : Bool) → bounds ≡ rest ++ bound ∷ []
    → left g (put_all ks (Closed flag) marks) next rest waiting < left g marks next bounds waiting
left_closed g marks next bounds rest waiting ks bound flag split = omega (arith, fresh_put ks marks flag, ap length split, length-append rest (bound ∷ []))

pub left_fewer : (g : Graph) (marks : List Mark) (next bounds fewer waiting : List ℕ) → length fewer ≤ length bounds → left g marks next fewer waiting ≤ left g marks next bounds waiting
left_fewer g marks next bounds fewer waiting h = omega (arith, h)

pub left_idle : (g : Graph) (marks : List Mark) (next bounds waiting rest : List ℕ) (j : ℕ) → waiting ≡ rest ++ j ∷ [] → left g marks next bounds rest < left g marks next bounds waiting
left_idle g marks next bounds waiting rest j split = omega (arith, ap length split, length-append rest (j ∷ []))
