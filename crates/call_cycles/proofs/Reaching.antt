-- One edge after another.
use Rattle.std.proofs.Common.{◌≡◌, ℕ, ◌⊎◌, inl, inr, List, [], ◌∷◌, ◌++◌, refl}
use Rattle.call_cycles.specs.declared.graph.Graph.{Graph}
use Rattle.call_cycles.specs.Edges.{IsEdge, GoesBy, Reaches}

pub reach_edge : (g : Graph) (u v : ℕ) → IsEdge g u v → Reaches g u v
reach_edge g u v e = record { by_way_of = []; goes = e }

goes_more : (g : Graph) (u v w : ℕ) (us vs : List ℕ) → GoesBy g u us v → GoesBy g v vs w → GoesBy g u (us ++ v ∷ vs) w
goes_more g u v w [] vs a b = (a, b)
goes_more g u v w (x ∷ us) vs a b = (a.0, goes_more g x v w us vs a.1 b)

pub reach_more : (g : Graph) (u v w : ℕ) → Reaches g u v → Reaches g v w → Reaches g u w
reach_more g u v w a b = record { by_way_of = a.by_way_of ++ v ∷ b.by_way_of; goes = goes_more g u v w a.by_way_of b.by_way_of a.goes b.goes }

-- What edges keep is kept along all of them.
goes_keep : (g : Graph) (P : ℕ → Type 0) (u v : ℕ) (us : List ℕ) → ((x y : ℕ) → P x → IsEdge g x y → P y) → P u → GoesBy g u us v → P v
goes_keep g P u v [] keep p a = keep u v p a
goes_keep g P u v (x ∷ us) keep p a = goes_keep g P x v us keep (keep u x p a.0) a.1

pub reach_keeps : (g : Graph) (P : ℕ → Type 0) (u v : ℕ) → ((x y : ℕ) → P x → IsEdge g x y → P y) → P u → Reaches g u v → P v
reach_keeps g P u v keep p r = goes_keep g P u v r.by_way_of keep p r.goes

-- the first edge, and what follows
first_by : (g : Graph) (u v : ℕ) (us : List ℕ) → GoesBy g u us v → (w : ℕ) × IsEdge g u w × ((w ≡ v) ⊎ Reaches g w v)
first_by g u v [] a = (v, a, inl refl)
first_by g u v (x ∷ us) a = (x, a.0, inr (record { by_way_of = us; goes = a.1 }))

pub reach_first : (g : Graph) (u v : ℕ) → Reaches g u v → (w : ℕ) × IsEdge g u w × ((w ≡ v) ⊎ Reaches g w v)
reach_first g u v r = first_by g u v r.by_way_of r.goes
