-- The needed demands with what they expand into are a whole set.
use Rattle.std.proofs.Common.{◌≡◌, ◌≢◌, ◌∙◌, ℕ, suc, Bool, true, false, List, [], ◌∷◌, Option, None, Some, All, AllPairs, Contains, map, get_or, refl, ap, sym, subst, arith}
use Rattle.std.specs.Prelude.{slice_get, option_map, bytes_eq}
use Rattle.std.specs.List.{AllByRecursion, IsDistinct, filter_map}
use Rattle.std.proofs.lemmas.Bool.{false≢true}
use Rattle.std.proofs.lemmas.List.Sorted.{Contains-permutation, IsPermutation-map, IsPermutation-sym}
use Rattle.std.proofs.lemmas.Map.Keys.{IsDistinct-cons, IsDistinct-IsPermutation, apart_from_distinct}
use Rattle.std.proofs.lemmas.Option.{get_or_from_slice_get}
use Rattle.std.proofs.lemmas.Slice.Eq.{bytes_eq-Decides}
use Rattle.ir_types.proofs.ListSteps.{All-at}
use Rattle.ir_syntax.specs.declared.body.Body.{Body}
use Rattle.ir_syntax.specs.declared.item.Func.{Func}
use Rattle.ir_syntax.specs.declared.item.Item.{Item}
use Rattle.ir_syntax.specs.declared.item.Item.TheVariants as item
use Rattle.ir_syntax.specs.Symbols.{item_at, IsFunctionFor}
use Rattle.ir_syntax.specs.Programs.{ProgramData, IsProgram}
use Rattle.fold_facts.proofs.Lists.{within, get_map, of_map}
use Rattle.fold_facts.proofs.Arriving.{place_in, in_place}
use Rattle.demand_core.specs.Needed.{IsNeeded}
use Rattle.fixed_point.specs.Needs.{AreAllNeeded}
use Rattle.demands.specs.declared.demand.Demand.{Demand}
use Rattle.demands.specs.declared.demand.Demand.TheVariants.{Func as function}
use Rattle.demands.specs.Demands.{IsDemand}
use Rattle.demands.specs.Order.{symbol_of}
use Rattle.demands.specs.Reading.{read_row}
use Rattle.demands.specs.Rows.{words_of}
use Rattle.demands.proofs.DemandReading.{row-sound}
use Rattle.demands.proofs.RowReading.{map_some}
use Rattle.interface.specs.Roots.{root_pattern, by_root, roots}
use Rattle.specialise.specs.declared.piece.Piece.{Piece}
use Rattle.specialise.specs.Pieces.{IsExpansion, IsExpansionBy, IsRowExpansion}
use Rattle.specialise.specs.Mirrors.Expanding.{row_needs}
use Rattle.specialise.proofs.Rows.{row_expands}
use Rattle.residual_laws.proofs.Every.{Every, all_of_every, every_at, every_by, every_of_all}
use Rattle.winnowed_form.specs.declared.member.Member.{Member}
use Rattle.winnowed_form.specs.Basis.{basis}
use Rattle.winnowed_form.specs.Members.{member_of, AreMembers}
use Rattle.linking_again.specs.Whole.{IsLeftOf, asks, asks_by, demands_of, HasShortName, IsWhole}
use Rattle.linking_again.proofs.Alone.{needed_short, needed_alone}
use Rattle.linking_again.proofs.Asks.{Ask, all_asked}
use Rattle.linking_again.proofs.Cycles.{bool_same}
use Rattle.linking_again.proofs.Needing.{expansion_left, expansion_asks, root_of, root_demand, read_of, of_filter_map}
use Rattle.linking_again.proofs.Rooted.{in_filter_map, root_in}

-- ---- pairs that are apart

pairs_tail : {A : Type 0} (R : A → A → Type 0) (x : A) (xs : List A) → AllPairs R (x ∷ xs) → AllPairs R xs
pairs_tail R x xs h i j d less short = h (suc i) (suc j) d (omega (arith, less)) (omega (arith, short))

pairs_head : {A : Type 0} (R : A → A → Type 0) (x : A) (xs : List A) → AllPairs R (x ∷ xs) → Every (R x) xs
pairs_head R x xs h = every_by (R x) xs (λ k y is. subst (R x) (get_or_from_slice_get xs k y x is) (h 0 (suc k) x (omega arith) (omega (arith, within xs k y is))))

by_recursion : {A : Type 0} (P : A → Type 0) (xs : List A) → Every P xs → AllByRecursion P xs
by_recursion P [] h = tt
by_recursion P (x ∷ xs) h = (h.0, by_recursion P xs h.1)

-- two demands have one row
abbrev one_row : Demand → Demand → Bool
one_row d e = bytes_eq (words_of d) (words_of e)

flips : (d e : Demand) → one_row d e ≡ one_row e d
flips d e = bool_same (one_row d e) (one_row e d) (λ h. (bytes_eq-Decides (words_of e) (words_of d)).1 (sym ((bytes_eq-Decides (words_of d) (words_of e)).0 h))) (λ h. (bytes_eq-Decides (words_of d) (words_of e)).1 (sym ((bytes_eq-Decides (words_of e) (words_of d)).0 h)))

not_one : (d e : Demand) → (words_of d ≢ words_of e) → one_row d e ≡ false
not_one d e apart = by (one_row d e) refl
  where
    by : (c : Bool) → one_row d e ≡ c → one_row d e ≡ false
    by true h = absurd (apart ((bytes_eq-Decides (words_of d) (words_of e)).0 h))
    by false h = h

module _ (p : ProgramData) (cycles : List (List Bool)) (pieces : List (List ℕ × Piece)) (members : List Member) (program : IsProgram p)
    (needed : AreAllNeeded (row_needs p cycles) (map words_of (roots p cycles)) (map (λ (pair : List ℕ × Piece). pair.0) pieces)) (expanded : All (λ (pair : List ℕ × Piece). IsRowExpansion p cycles pair.0 pair.1) pieces) (are : AreMembers p pieces members) where
  abbrev rows : List (List ℕ)
  rows = map (λ (pair : List ℕ × Piece). pair.0) pieces

  abbrev Needed : List ℕ → Type 0
  Needed row = IsNeeded (row_needs p cycles) (map words_of (roots p cycles)) row

  abbrev made : List Member
  made = filter_map (member_of p) pieces

  -- ---- members and pieces

  -- The piece of a member.
  record PieceOf (d : Demand) (body : Option Body) : Type 0 where
    pair : List ℕ × Piece
    place : ℕ
    at : slice_get pieces place ≡ Some pair
    read : read_row p.modules pair.0 ≡ Some d
    is : pair.1.body ≡ body
    demand : IsDemand p.modules d
    row : words_of d ≡ pair.0
    expands : IsExpansion p cycles d pair.1
    is_needed : Needed (words_of d)

  piece_of : (k : ℕ) (member : Member) → slice_get members k ≡ Some member → PieceOf member.demand member.body
  piece_of k member is =
      let c : Contains made member = Contains-permutation members made member (IsPermutation-sym made members are.are) (in_place members k member is) in
      let at = place_in made member c in
      let was = of_filter_map (member_of p) pieces at.0 member at.1 in
      let read = map_some (λ (d : Demand). record { demand = d; body = was.1.1.body }) (read_row p.modules was.1.0) member was.3 in
      let demand_is : read.0 ≡ member.demand = ap (λ (x : Member). x.demand) read.2 in
      let row_read : read_row p.modules was.1.0 ≡ Some member.demand = read.1 ∙ ap Some demand_is in
      let sound = row-sound p.modules was.1.0 member.demand row_read in
      record {
        pair = was.1;
        place = was.0;
        at = was.2;
        read = row_read;
        is = ap (λ (x : Member). x.body) read.2;
        demand = sound.0;
        row = sound.1;
        expands = subst (λ o. IsExpansionBy p cycles o was.1.1) row_read (All-at (λ (pair : List ℕ × Piece). IsRowExpansion p cycles pair.0 pair.1) pieces was.0 was.1 expanded was.2);
        is_needed = subst Needed (sym sound.1) (All-at Needed rows was.0 was.1.0 needed.needed (get_map (λ (pair : List ℕ × Piece). pair.0) pieces was.0 was.1 was.2));
      }

  -- each needed demand has its member
  member_there : (d : Demand) → IsDemand p.modules d → Needed (words_of d) → Contains (demands_of members) d
  member_there d demand n =
      let at = place_in rows (words_of d) (needed.complete (words_of d) n) in
      let was = of_map (λ (pair : List ℕ × Piece). pair.0) pieces at.0 (words_of d) at.1 in
      let read : read_row p.modules was.0.0 ≡ Some d = ap (read_row p.modules) was.2 ∙ read_of p d program demand in
      let member : Member = record { demand = d; body = was.0.1.body } in
      let one = in_filter_map (member_of p) pieces at.0 was.0 member was.1 (ap (option_map (λ (x : Demand). record { demand = x; body = was.0.1.body })) read) in
      let c : Contains members member = Contains-permutation made members member are.are (in_place made one.0 member one.1) in
      let place = place_in members member c in
      in_place (demands_of members) place.0 d (get_map (λ (x : Member). x.demand) members place.0 member place.1)

  -- ---- roots and what is asked for

  root_there : (d : Demand) → Contains (roots p cycles) d → Contains (demands_of members) d
  root_there d c =
      let r = root_of p cycles d program c in
      member_there d (root_demand p cycles d program r) (λ s holds closed.
      let at = place_in (roots p cycles) d c in
      every_at (λ row. s row ≡ true) (map words_of (roots p cycles)) at.0 (words_of d) (every_of_all (λ row. s row ≡ true) (map words_of (roots p cycles)) holds) (get_map words_of (roots p cycles) at.0 d at.1))

  asked_there : (k : ℕ) (member : Member) → slice_get members k ≡ Some member → Every (Contains (demands_of members)) (asks p cycles member)
  asked_there k member is = every_by (Contains (demands_of members)) (asks p cycles member) (λ j d at.
      let m = piece_of k member is in
      let left : IsLeftOf p member.demand member.body = subst (IsLeftOf p member.demand) m.is (expansion_left p cycles member.demand m.pair.1 program m.demand m.expands) in
      let ask = every_at (Ask p cycles (symbol_of member.demand).module) (asks p cycles member) j d (all_asked p cycles member.demand member.body program left) at in
      let e = row_expands p cycles m.pair.0 member.demand m.pair.1 program m.read m.demand m.expands in
      let calls = expansion_asks p cycles member.demand m.pair.1 m.expands in
      let here : slice_get (asks_by p cycles member.demand m.pair.1.body) j ≡ Some d = ap (λ o. slice_get (asks_by p cycles member.demand o) j) m.is ∙ at in
      let among : Contains m.pair.1.calls (words_of d) = All-at (Contains m.pair.1.calls) (map words_of (asks_by p cycles member.demand m.pair.1.body)) j (words_of d) calls.all (get_map words_of (asks_by p cycles member.demand m.pair.1.body) j d here) in
      let need : Contains (row_needs p cycles m.pair.0) (words_of d) = subst (λ l. Contains l (words_of d)) e.needs among in
      member_there d ask.is_demand (λ s holds closed.
      let place = place_in (row_needs p cycles m.pair.0) (words_of d) need in
      every_at (λ row. s row ≡ true) (row_needs p cycles m.pair.0) place.0 (words_of d) (every_of_all (λ row. s row ≡ true) (row_needs p cycles m.pair.0) (closed m.pair.0 (subst (λ row. s row ≡ true) m.row (m.is_needed s holds closed)))) place.1))

  -- ---- no demand twice

  distinct_from : (ps : List (List ℕ × Piece)) → AllPairs (λ (row other : List ℕ). row ≢ other) (map (λ (pair : List ℕ × Piece). pair.0) ps) → IsDistinct one_row (map (λ (m : Member). m.demand) (filter_map (member_of p) ps))
  unfolding IsDistinct
  distinct_from [] h = tt
  distinct_from (pair ∷ more) h = by (member_of p pair) refl (distinct_from more (pairs_tail (λ (row other : List ℕ). row ≢ other) pair.0 (map (λ (x : List ℕ × Piece). x.0) more) h))
    where
      none : member_of p pair ≡ None → filter_map (member_of p) (pair ∷ more) ≡ filter_map (member_of p) more
      none is = rw is

      some : (m : Member) → member_of p pair ≡ Some m → filter_map (member_of p) (pair ∷ more) ≡ m ∷ filter_map (member_of p) more
      some m is = rw is

      row_of : (x : List ℕ × Piece) (m : Member) → member_of p x ≡ Some m → words_of m.demand ≡ x.0
      row_of x m is =
          let read = map_some (λ (d : Demand). record { demand = d; body = x.1.body }) (read_row p.modules x.0) m is in
          (row-sound p.modules x.0 m.demand (read.1 ∙ ap (λ (y : Member). Some y.demand) read.2)).1

      by : (o : Option Member) → member_of p pair ≡ o → IsDistinct one_row (map (λ (m : Member). m.demand) (filter_map (member_of p) more)) → IsDistinct one_row (map (λ (m : Member). m.demand) (filter_map (member_of p) (pair ∷ more)))
      by None e rest = subst (λ (l : List Member). IsDistinct one_row (map (λ (m : Member). m.demand) l)) (sym (none e)) rest
      by (Some m) e rest = subst (λ (l : List Member). IsDistinct one_row (map (λ (m : Member). m.demand) l)) (sym (some m e))
          (IsDistinct-cons one_row m.demand (map (λ (x : Member). x.demand) (filter_map (member_of p) more))
          (by_recursion (λ y. one_row m.demand y ≡ false) (map (λ (x : Member). x.demand) (filter_map (member_of p) more)) (every_by (λ y. one_row m.demand y ≡ false) (map (λ (x : Member). x.demand) (filter_map (member_of p) more)) (λ k d is.
          let at = of_map (λ (x : Member). x.demand) (filter_map (member_of p) more) k d is in
          let was = of_filter_map (member_of p) more k at.0 at.1 in
          let apart = every_at (λ other. pair.0 ≢ other) (map (λ (x : List ℕ × Piece). x.0) more) was.0 was.1.0 (pairs_head (λ (row other : List ℕ). row ≢ other) pair.0 (map (λ (x : List ℕ × Piece). x.0) more) h) (get_map (λ (x : List ℕ × Piece). x.0) more was.0 was.1 was.2) in
          not_one m.demand d (λ same. apart (sym (row_of pair m e) ∙ same ∙ ap words_of (sym at.2) ∙ row_of was.1 at.0 was.3))))) rest)

  demands_distinct : AllPairs (λ d e. d ≢ e) (demands_of members)
  demands_distinct i j d less short same =
      let distinct = IsDistinct-IsPermutation one_row flips (map (λ (m : Member). m.demand) made) (demands_of members) (IsPermutation-map (λ (m : Member). m.demand) made members are.are) (distinct_from pieces needed.distinct) in
      let apart : one_row (get_or (demands_of members) i d) (get_or (demands_of members) j d) ≡ false = apart_from_distinct one_row (demands_of members) i j d distinct less short in
      false≢true (sym apart ∙ ap (one_row (get_or (demands_of members) i d)) (sym same) ∙ (bytes_eq-Decides (words_of (get_or (demands_of members) i d)) (words_of (get_or (demands_of members) i d))).1 refl)

  -- ---- the whole

  -- the entry's function
  entry_func : (func : Func) × (item_at p.modules p.entry ≡ Some (item.Func func))
  entry_func = by (item_at p.modules p.entry) refl program.entry
    where
      by : (o : Option Item) → item_at p.modules p.entry ≡ o → IsFunctionFor p.entry_args o → (func : Func) × (item_at p.modules p.entry ≡ Some (item.Func func))
      by None e h = absurd h
      by (Some (item.Var var)) e h = absurd h
      by (Some (item.Func func)) e h = (func, e)

  entry_demand : IsDemand p.modules (function p.entry (root_pattern p cycles p.entry entry_func.0))
  entry_demand =
      let root = by_root p cycles p.entry (item.Func entry_func.0) in
      root_demand p cycles root program (root_of p cycles root program (root_in p cycles 0 p.entry (item.Func entry_func.0) refl entry_func.1))

  demand_at : (d : Demand) → Contains (demands_of members) d → (body : Option Body) × PieceOf d body
  demand_at d c =
      let at = place_in (demands_of members) d c in
      let was = of_map (λ (m : Member). m.demand) members at.0 d at.1 in
      (was.0.body, subst (λ e. PieceOf e was.0.body) was.2 (piece_of at.0 was.0 was.1))

  left_of_piece : (d : Demand) (body : Option Body) → PieceOf d body → IsLeftOf p d body
  left_of_piece d body m = subst (IsLeftOf p d) m.is (expansion_left p cycles d m.pair.1 program m.demand m.expands)

  pub needed_whole : IsWhole p cycles members
  needed_whole = record {
    left = all_of_every (λ (member : Member). IsLeftOf p member.demand member.body) members (every_by (λ (member : Member). IsLeftOf p member.demand member.body) members (λ k member is. left_of_piece member.demand member.body (piece_of k member is)));
    rooted = all_of_every (Contains (demands_of members)) (roots p cycles) (every_by (Contains (demands_of members)) (roots p cycles) (λ k d is. root_there d (in_place (roots p cycles) k d is)));
    closed = all_of_every (λ (member : Member). All (Contains (demands_of members)) (asks p cycles member)) members (every_by (λ (member : Member). All (Contains (demands_of members)) (asks p cycles member)) members (λ k member is.
        all_of_every (Contains (demands_of members)) (asks p cycles member) (asked_there k member is)));
    distinct = demands_distinct;
    short = all_of_every (λ (member : Member). HasShortName (basis p cycles) member.demand) members (every_by (λ (member : Member). HasShortName (basis p cycles) member.demand) members (λ k member is.
        let m = piece_of k member is in
        needed_short p cycles member.demand program m.demand m.is_needed));
    alone = λ d e c f plain_d plain_e same.
        let m = demand_at d c in
        let n = demand_at e f in
        needed_alone p cycles entry_func.0 d e m.0 n.0 program entry_func.1 entry_demand m.1.demand n.1.demand (left_of_piece d m.0 m.1) (left_of_piece e n.0 n.1) m.1.is_needed n.1.is_needed plain_d plain_e same;
  }
