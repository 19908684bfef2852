-- What holds while the search for components runs.
use Rattle.std.specs.Prelude.{◌≡◌, ◌⊎◌, ◌↔◌, ℕ, suc, ◌+◌, ◌-◌, ◌*◌, ◌<◌, ◌≤◌, Bool, List, [], ◌∷◌, ◌++◌, Some, IsTrue, Contains, length, slice_get, slice_set, slice_index}
use Rattle.call_cycles.specs.declared.graph.Graph.{Graph}
use Rattle.call_cycles.specs.declared.mark.Mark.{Mark}
use Rattle.call_cycles.specs.declared.mark.Mark.TheVariants.{Fresh, Open, Closed}
use Rattle.call_cycles.specs.Edges.{IsNode, IsEdge, Reaches}

-- each number is greater than those before it
abbrev pub Rising : List ℕ → Type 0
Rising [] = Unit {0}
Rising (x ∷ xs) = ((y : ℕ) → Contains xs y → x < y) × Rising xs

pub record IsClosed (marks : List Mark) (u : ℕ) : Type 0 where
  pub flag : Bool
  pub is : slice_get marks u ≡ Some (Closed flag)

-- The node is open, and no component ends between it and the place j behind it.
pub record IsAhead (stack bounds : List ℕ) (j v : ℕ) : Type 0 where
  pub place : ℕ
  pub is : slice_get stack place ≡ Some v
  pub ahead : (bound : ℕ) → Contains bounds bound → bound ≤ j → bound ≤ place

-- A component begins behind the place i, at j or before.
pub record IsParted (bounds : List ℕ) (i j : ℕ) : Type 0 where
  pub bound : ℕ
  pub is : Contains bounds bound
  pub above : i < bound
  pub upto : bound ≤ j

-- An edge from the node at the place j to this one was followed.
abbrev pub IsSettled : List Mark → List ℕ → List ℕ → ℕ → ℕ → Type 0
IsSettled marks stack bounds j v = IsClosed marks v ⊎ IsAhead stack bounds j v

-- Each open node leads to this one.
abbrev pub LeadTo : Graph → List ℕ → ℕ → Type 0
LeadTo g stack v = (j u : ℕ) → slice_get stack j ≡ Some u → Reaches g u v

pub record IsSearch (g : Graph) (marks : List Mark) (next stack bounds waiting : List ℕ) : Type 0 where
  pub marks_long : length marks + 1 ≡ length g.starts
  pub next_long : length next + 1 ≡ length g.starts
  -- marks and the stack of open nodes say the same
  pub opens : (j u : ℕ) → slice_get stack j ≡ Some u → slice_get marks u ≡ Some (Open j)
  pub opened : (j u : ℕ) → slice_get marks u ≡ Some (Open j) → slice_get stack j ≡ Some u
  -- no place is before a node's first edge, and no edge of a fresh node was followed
  pub begun : (u : ℕ) → u < length next → slice_index g.starts u ≤ slice_index next u
  pub fresh : (u : ℕ) → slice_get marks u ≡ Some Fresh → slice_index next u ≡ slice_index g.starts u
  -- each open node leads to those behind it, and those of one component also to those before
  pub forth : (i j u v : ℕ) → i < j → slice_get stack i ≡ Some u → slice_get stack j ≡ Some v → Reaches g u v
  pub back : (i j u v : ℕ) → i < j → slice_get stack i ≡ Some u → slice_get stack j ≡ Some v → Reaches g v u ⊎ IsParted bounds i j
  -- an edge that was followed leads to a closed node, or to none before its component
  pub followed : (j u place v : ℕ) → slice_get stack j ≡ Some u → slice_index g.starts u ≤ place → place < slice_index next u → slice_get g.ends place ≡ Some v → IsSettled marks stack bounds j v
  -- closed nodes lead to closed nodes alone, and are marked rightly
  pub closed : (u v : ℕ) → IsClosed marks u → IsEdge g u v → IsClosed marks v
  pub flags : (u : ℕ) (flag : Bool) → slice_get marks u ≡ Some (Closed flag) → IsTrue flag ↔ Reaches g u u
  -- an open node with edges left waits
  pub waits : (j u : ℕ) → slice_get stack j ≡ Some u → slice_index next u < slice_index g.starts (u + 1) → Contains waiting j
  pub waiting_rise : Rising waiting
  pub waiting_within : (j : ℕ) → Contains waiting j → j < length stack
  pub bounds_rise : Rising bounds
  pub bounds_within : (bound : ℕ) → Contains bounds bound → bound < length stack
  pub bounds_first : 0 < length stack → Contains bounds 0

-- ---- steps

-- The last bounds are taken away, those past a place.
pub record IsCut (bounds rest : List ℕ) (place : ℕ) : Type 0 where
  pub taken : List ℕ
  pub split : bounds ≡ rest ++ taken
  pub past : (bound : ℕ) → Contains taken bound → place < bound

-- The last component begins at a place of the stack, and none of its nodes waits.
pub record IsDone (g : Graph) (marks : List Mark) (next stack bounds waiting : List ℕ) (bound : ℕ) : Type 0 where
  pub search : IsSearch g marks next stack bounds waiting
  pub last : slice_get bounds (length bounds - 1) ≡ Some bound
  pub idle : (j : ℕ) → Contains waiting j → j < bound

-- The nodes of the last component are on a cycle, or none of them is.
pub record IsRight (g : Graph) (stack : List ℕ) (bound : ℕ) (whole : Bool) : Type 0 where
  pub right : (j u : ℕ) → bound ≤ j → slice_get stack j ≡ Some u → IsTrue whole ↔ Reaches g u u

-- The node is closed, and marked rightly.
pub record IsMarked (g : Graph) (marks : List Mark) (u : ℕ) : Type 0 where
  pub flag : Bool
  pub is : slice_get marks u ≡ Some (Closed flag)
  pub right : IsTrue flag ↔ Reaches g u u

pub record AreMarked (g : Graph) (marks : List Mark) : Type 0 where
  pub long : length marks + 1 ≡ length g.starts
  pub each : (u : ℕ) → IsNode g u → IsMarked g marks u

-- the items at these places are written over
abbrev pub put_all : {A : Type 0} → List ℕ → A → List A → List A
put_all [] x xs = xs
put_all (k ∷ ks) x xs = put_all ks x (slice_set xs k x)

-- What is fresh was fresh before.
abbrev pub AreFewerFresh : List Mark → List Mark → Type 0
AreFewerFresh marks after = (u : ℕ) → slice_get after u ≡ Some Fresh → slice_get marks u ≡ Some Fresh

-- ---- what is left to do

abbrev pub is_fresh : Mark → ℕ
is_fresh Fresh = 1
is_fresh (Open j) = 0
is_fresh (Closed flag) = 0

abbrev pub fresh_count : List Mark → ℕ
fresh_count [] = 0
fresh_count (mark ∷ marks) = is_fresh mark + fresh_count marks

-- how many edges were not followed, of the nodes from one on
abbrev pub edges_left : List ℕ → ℕ → List ℕ → ℕ
edges_left starts u [] = 0
edges_left starts u (place ∷ places) = (slice_index starts (suc u) - place) + edges_left starts (suc u) places

abbrev pub left : Graph → List Mark → List ℕ → List ℕ → List ℕ → ℕ
left g marks next bounds waiting = edges_left g.starts 0 next + 3 * fresh_count marks + length bounds + length waiting
