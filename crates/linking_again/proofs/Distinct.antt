-- No two items of a written module have one name.
use Rattle.std.proofs.Common.{◌≡◌, ◌≢◌, ◌∙◌, ◌⊎◌, inl, inr, ℕ, zero, suc, ◌+◌, ◌<◌, Bool, true, false, List, [], ◌∷◌, Some, Contains, length, map, get_or, refl, ap, sym, subst, arith}
use Rattle.std.specs.Prelude.{slice_get, flat_map, AllPairs, if◌then◌else◌}
use Rattle.std.proofs.lemmas.Bool.{cases_order}
use Rattle.std.proofs.lemmas.List.Elements.{Contains-append_left, Contains-append_right}
use Rattle.std.proofs.lemmas.List.Kept.{AllPairs-filter}
use Rattle.std.proofs.lemmas.Option.{none-some, get_or_from_slice_get}
use Rattle.ir_types.proofs.ListSteps.{All-at}
use Rattle.ir_syntax.specs.declared.symbol.Sym.{Sym}
use Rattle.ir_syntax.specs.declared.item.Item.{Item}
use Rattle.ir_syntax.specs.declared.item.Item.TheVariants as item
use Rattle.ir_syntax.specs.declared.item.Module.{Module}
use Rattle.ir_syntax.specs.FormedBody.{item_name}
use Rattle.ir_syntax.specs.Symbols.{item_at}
use Rattle.ir_syntax.specs.Programs.{ProgramData, IsSoundModule}
use Rattle.fold_facts.proofs.Lists.{some_is, there, within, get_map, of_map}
use Rattle.fold_facts.proofs.Arriving.{place_in, in_place}
use Rattle.demands.specs.declared.demand.Demand.{Demand}
use Rattle.demands.specs.declared.demand.Demand.TheVariants.{Func as function}
use Rattle.demands.specs.Names.{copy_name}
use Rattle.demands.specs.Order.{symbol_of, pattern_of}
use Rattle.demands.proofs.Apart.{apart}
use Rattle.interface.specs.Asked.{definition_of}
use Rattle.residual_laws.proofs.Every.{every_at}
use Rattle.winnowed_form.specs.declared.named.Named.{Named}
use Rattle.winnowed_form.specs.declared.named.Named.TheVariants.{Own, CopyOf}
use Rattle.winnowed_form.specs.declared.member.Member.{Member}
use Rattle.winnowed_form.specs.Basis.{Basis, basis}
use Rattle.winnowed_form.specs.Clashes.{item_names, name_at, copy_name_of, copy_names, AreFree}
use Rattle.winnowed_form.specs.Copies.{is_copy, written_name}
use Rattle.winnowed_form.specs.Members.{is_in, defined_in}
use Rattle.winnowed_form.specs.Names.{name_of}
use Rattle.linking_again.specs.Whole.{IsLeftOf, demands_of}
use Rattle.linking_again.proofs.CopyNames.{known_words}
use Rattle.linking_again.proofs.Facts.{resolved, same_symbol, own_definition}
use Rattle.linking_again.proofs.Home as at_home
use Rattle.linking_again.proofs.Home.{Frame, CopyKnown, copy_known, member_of_demand, function_at, copied_name, OwnItem, CopyItem, IsItemFor, MemberName, member_name}
use Rattle.linking_again.proofs.Kept.{Has}
use Rattle.linking_again.proofs.Lists.{first_or_rest}
use Rattle.linking_again.proofs.Places.{stands_in, item_is}
use Rattle.linking_again.proofs.Suiting.{copy_pattern, copy_call, calls_copy}

-- ---- lists

-- of a list whose elements are apart, two places with one element are one
pub apart_at : {A : Type 0} (xs : List A) (i j : ℕ) (x : A) → AllPairs (λ a b. a ≢ b) xs → slice_get xs i ≡ Some x → slice_get xs j ≡ Some x → i ≡ j
apart_at {A} xs i j x pairs at other = by (cases_order i j)
  where
    one : get_or xs i x ≡ x
    one = get_or_from_slice_get xs i x x at

    two : get_or xs j x ≡ x
    two = get_or_from_slice_get xs j x x other

    by : (i ≡ j) ⊎ ((i < j) ⊎ (j < i)) → i ≡ j
    by (inl e) = e
    by (inr (inl less)) = absurd (pairs i j x less (within xs j x other) (one ∙ sym two))
    by (inr (inr less)) = absurd (pairs j i x less (within xs i x at) (two ∙ sym one))

-- and the other way round
pub pairs_by : {A : Type 0} (xs : List A) → ((i j : ℕ) (x : A) → slice_get xs i ≡ Some x → slice_get xs j ≡ Some x → i ≡ j) → AllPairs (λ a b. a ≢ b) xs
pairs_by {A} xs one i j d less short same =
    let x = there xs j short in
    let first = there xs i (omega (arith, less, short)) in
    let at_j : get_or xs j d ≡ x.0 = get_or_from_slice_get xs j x.0 d x.1 in
    let at_i : get_or xs i d ≡ first.0 = get_or_from_slice_get xs i first.0 d first.1 in
    let both : first.0 ≡ x.0 = sym at_i ∙ same ∙ at_j in
    omega (arith, less, one i j x.0 (first.1 ∙ ap Some both) x.1)

pub in_flat : {A B : Type 0} (f : A → List B) (xs : List A) (k : ℕ) (x : A) (y : B) → slice_get xs k ≡ Some x → Contains (f x) y → Contains (flat_map f xs) y
in_flat f [] k x y is c = absurd (none-some x is)
in_flat f (z ∷ zs) zero x y is c = Contains-append_left (f z) (flat_map f zs) y (subst (λ w. Contains (f w) y) (sym (some_is is)) c)
in_flat f (z ∷ zs) (suc k) x y is c = Contains-append_right (f z) (flat_map f zs) y (in_flat f zs k x y is c)

-- ---- names of copies

-- a copy of the set has its name among those of copies
pub copy_named : (p : ProgramData) (cycles : List (List Bool)) (members : List Member) (d : Demand) → Contains (demands_of members) d → (known : CopyKnown p cycles d) → Contains (copy_names (basis p cycles) members) (copy_name (pattern_of d) known.left.func.name)
copy_named p cycles members d c known =
    let b = basis p cycles in
    let one = member_of_demand members d c in
    let func = known.left.func in
    let at : item_at p.modules (symbol_of one.1.demand) ≡ Some (item.Func func) = ap (λ e. item_at p.modules (symbol_of e)) (one.3 ∙ known.is) ∙ function_at p known.symbol known.pattern known.body known.left in
    let copy : is_copy b one.1.demand ≡ true = ap (is_copy b) one.3 ∙ known.copy in
    let names : copy_name_of b one.1 ≡ written_name b one.1.demand func ∷ [] = ap (λ t. if t then name_at b one.1.demand (item_at p.modules (symbol_of one.1.demand)) else []) copy ∙ ap (name_at b one.1.demand) at in
    let name : written_name b one.1.demand func ≡ copy_name (pattern_of d) func.name = copied_name b one.1.demand func copy ∙ ap (λ e. copy_name (pattern_of e) func.name) one.3 in
    let has : Contains (copy_name_of b one.1) (copy_name (pattern_of d) func.name) = subst (λ l. Contains l (copy_name (pattern_of d) func.name)) (sym names) (in_place (written_name b one.1.demand func ∷ []) 0 (copy_name (pattern_of d) func.name) (ap Some name)) in
    in_flat (copy_name_of b) members one.0 one.1 (copy_name (pattern_of d) func.name) one.2 has

-- and it is none of an item
pub copy_is_free : (p : ProgramData) (cycles : List (List Bool)) (members : List Member) (d : Demand) → AreFree p.modules (copy_names (basis p cycles) members) → Contains (demands_of members) d → (known : CopyKnown p cycles d)
    → Contains (item_names p.modules) (copy_name (pattern_of d) known.left.func.name) → ⊥
copy_is_free p cycles members d free c known taken =
    let all = place_in (copy_names (basis p cycles) members) (copy_name (pattern_of d) known.left.func.name) (copy_named p cycles members d c known) in
    All-at (λ name. Contains (item_names p.modules) name → ⊥) (copy_names (basis p cycles) members) all.0 (copy_name (pattern_of d) known.left.func.name) free all.1 taken

-- each item's name is among the names of all
pub name_taken : (p : ProgramData) (symbol : Sym) (found : Item) → item_at p.modules symbol ≡ Some found → Contains (item_names p.modules) (item_name found)
name_taken p symbol found is =
    let at = stands_in p.modules symbol found is in
    in_flat (λ (m : Module). map item_name m.items) p.modules symbol.module at.home (item_name found) at.stands (in_place (map item_name at.home.items) symbol.item (item_name found) (get_map item_name at.home.items symbol.item found at.is))

-- two copies of one name have one pattern, and their functions one name
pub copies_apart : (p : ProgramData) (cycles : List (List Bool)) (d e : Demand) → (one : CopyKnown p cycles d) → (other : CopyKnown p cycles e) → copy_name (pattern_of d) one.left.func.name ≡ copy_name (pattern_of e) other.left.func.name
    → (one.pattern ≡ other.pattern) × (one.left.func.name ≡ other.left.func.name)
copies_apart p cycles d e one other same =
    apart one.pattern other.pattern one.left.func.name other.left.func.name (known_words one.left.func.params one.pattern one.left.left.knows) (known_words other.left.func.params other.pattern other.left.left.knows)
    (copy_pattern (basis p cycles) one.symbol one.pattern (ap (is_copy (basis p cycles)) (sym one.is) ∙ one.copy)) (copy_pattern (basis p cycles) other.symbol other.pattern (ap (is_copy (basis p cycles)) (sym other.is) ∙ other.copy))
    (ap (λ x. copy_name (pattern_of x) one.left.func.name) (sym one.is) ∙ same ∙ ap (λ x. copy_name (pattern_of x) other.left.func.name) other.is)

-- ---- one module

-- The item of the module that stands for a copy's function.
pub record Origin (p : ProgramData) (cycles : List (List Bool)) (members : List Member) (home : ℕ) (m : Module) (d : Demand) : Type 0 where
  pub known : CopyKnown p cycles d
  pub demanded : Contains (demands_of members) d
  pub place : ℕ
  pub found : Item
  pub at : slice_get m.items place ≡ Some found
  pub name : item_name found ≡ known.left.func.name
  pub resolves : definition_of p home place ≡ Some known.symbol

module _ (p : ProgramData) (cycles : List (List Bool)) (members : List Member) (home : ℕ) (m w : Module) (f : Frame p cycles members home m w) (free : AreFree p.modules (copy_names (basis p cycles) members)) where
  abbrev b : Basis
  b = basis p cycles

  abbrev here : List Member
  here = defined_in home members

  abbrev pub named : List Named
  named = at_home.all_names p cycles members home m w f

  names_apart : AllPairs (λ x y. x ≢ y) (map item_name m.items)
  names_apart = (All-at IsSoundModule p.modules home m f.program.sound.sound f.stands).formed.distinct

  -- two items of the module of one name are one
  one_place : (j k : ℕ) (found other : Item) → slice_get m.items j ≡ Some found → slice_get m.items k ≡ Some other → item_name found ≡ item_name other → j ≡ k
  one_place j k found other at too same = apart_at (map item_name m.items) j k (item_name found) names_apart (get_map item_name m.items j found at) (get_map item_name m.items k other too ∙ ap Some (sym same))

  origin_here : (i : ℕ) (member : Member) (d : Demand) → slice_get here i ≡ Some member → name_of b member ≡ CopyOf d → Origin p cycles members home m d
  origin_here i member d at e =
      let call = copy_call b (symbol_of member.demand).item (Some member.demand) d e in
      let same : member.demand ≡ d = some_is call.0 in
      let left = subst (λ x. IsLeftOf p x member.body) same (every_at (λ (x : Member). IsLeftOf p x.demand x.body) here i member (at_home.left_here p cycles members home m w f) at) in
      let known = copy_known p cycles d member.body left call.1 in
      let demanded = subst (Contains (demands_of members)) same (every_at (λ (x : Member). Contains (demands_of members) x.demand) here i member (at_home.demanded_here p cycles members home m w f) at) in
      let home_is : known.symbol.module ≡ home = ap (λ x. (symbol_of x).module) (sym known.is ∙ sym same) ∙ every_at (λ (x : Member). (symbol_of x.demand).module ≡ home) here i member (at_home.at_home p cycles members home m w f) at in
      let symbol_is : record { «module» = home; item = known.symbol.item } ≡ known.symbol = same_symbol (record { «module» = home; item = known.symbol.item }) known.symbol (sym home_is) refl in
      let stands : item_at p.modules (record { «module» = home; item = known.symbol.item }) ≡ Some (item.Func known.left.func) = ap (item_at p.modules) symbol_is ∙ function_at p known.symbol known.pattern known.body known.left in
      record {
        known = known;
        demanded = demanded;
        place = known.symbol.item;
        found = item.Func known.left.func;
        at = sym (item_is p.modules (record { «module» = home; item = known.symbol.item }) m f.stands) ∙ stands;
        name = refl;
        resolves = own_definition p home known.symbol.item (item.Func known.left.func) f.program stands known.left.left.defined ∙ ap Some symbol_is;
      }

  origin_used : (d : Demand) → at_home.Used p cycles members home m w f (CopyOf d) → Origin p cycles members home m d
  origin_used d used =
      let known = at_home.copy_of_use p cycles members home m w f d used in
      let calls = calls_copy p cycles home used.place used.known d used.is used.copy in
      let symbol_is : calls.symbol ≡ known.symbol = ap symbol_of (sym calls.is ∙ known.is) in
      let found = used.used.found in
      let r = resolved p home used.place found calls.symbol f.program used.used.found_at calls.resolves in
      let def : item.Func known.left.func ≡ r.definition = some_is (sym (function_at p known.symbol known.pattern known.body known.left) ∙ ap (item_at p.modules) (sym symbol_is) ∙ r.stands) in
      record {
        known = known;
        demanded = used.asked;
        place = used.place;
        found = found;
        at = sym (item_is p.modules (record { «module» = home; item = used.place }) m f.stands) ∙ used.used.found_at;
        name = sym r.name ∙ ap item_name (sym def);
        resolves = calls.resolves ∙ ap Some symbol_is;
      }

  pub origin : (d : Demand) → Has named (CopyOf d) → Origin p cycles members home m d
  origin d has = by (first_or_rest (map (name_of b) here) f.winnowed.declared has.0 (CopyOf d) has.1)
    where
      by : (slice_get (map (name_of b) here) has.0 ≡ Some (CopyOf d)) ⊎ ((j : ℕ) × (length (map (name_of b) here) + j ≡ has.0) × (slice_get f.winnowed.declared j ≡ Some (CopyOf d))) → Origin p cycles members home m d
      by (inl e) = let was = of_map (name_of b) here has.0 (CopyOf d) e in origin_here has.0 was.0 d was.1 was.2
      by (inr (j, at, e)) = origin_used d (every_at (at_home.Used p cycles members home m w f) f.winnowed.declared j (CopyOf d) (at_home.declared_used p cycles members home m w f) e)

  -- ---- names of items are apart

  pub copy_name_is : (d : Demand) (found : Item) → (c : CopyItem p cycles d found) → (o : Origin p cycles members home m d) → item_name found ≡ copy_name (pattern_of d) o.known.left.func.name
  copy_name_is d found c o =
      let same : item.Func c.known.left.func ≡ item.Func o.known.left.func = some_is (sym (function_at p c.known.symbol c.known.pattern c.known.body c.known.left) ∙ ap (λ x. item_at p.modules (symbol_of x)) (sym c.known.is ∙ o.known.is) ∙ function_at p o.known.symbol o.known.pattern o.known.body o.known.left) in
      ap item_name c.is ∙ c.name ∙ ap (copy_name (pattern_of d)) (ap item_name same)

  own_or_copy : (k : ℕ) (d : Demand) (found other : Item) → OwnItem m k found → CopyItem p cycles d other → Has named (CopyOf d) → item_name found ≡ item_name other → ⊥
  own_or_copy k d found other own copy has same =
      let o = origin d has in
      let name : item_name own.original ≡ copy_name (pattern_of d) o.known.left.func.name = sym own.name ∙ same ∙ copy_name_is d other copy o in
      copy_is_free p cycles members d free o.demanded o.known (subst (Contains (item_names p.modules)) name (name_taken p (record { «module» = home; item = k }) own.original (item_is p.modules (record { «module» = home; item = k }) m f.stands ∙ own.at)))

  copies_one : (d e : Demand) (found other : Item) → CopyItem p cycles d found → CopyItem p cycles e other → Has named (CopyOf d) → Has named (CopyOf e) → item_name found ≡ item_name other → d ≡ e
  copies_one d e found other one two has too same =
      let o = origin d has in
      let q = origin e too in
      let parts = copies_apart p cycles d e o.known q.known (sym (copy_name_is d found one o) ∙ same ∙ copy_name_is e other two q) in
      let place : o.place ≡ q.place = one_place o.place q.place o.found q.found o.at q.at (o.name ∙ parts.1 ∙ sym q.name) in
      let symbol : o.known.symbol ≡ q.known.symbol = some_is (sym o.resolves ∙ ap (definition_of p home) place ∙ q.resolves) in
      o.known.is ∙ (λ i. function (symbol i) (parts.0 i)) ∙ sym q.known.is

  same_name : (one other : Named) (found too : Item) → Has named one → Has named other → IsItemFor p cycles m one found → IsItemFor p cycles m other too → item_name found ≡ item_name too → one ≡ other
  same_name (Own j) (Own k) found too h g a c same = ap Own (one_place j k a.original c.original a.at c.at (sym a.name ∙ same ∙ c.name))
  same_name (Own j) (CopyOf d) found too h g a c same = absurd (own_or_copy j d found too a c g same)
  same_name (CopyOf d) (Own k) found too h g a c same = absurd (own_or_copy k d too found c a h (sym same))
  same_name (CopyOf d) (CopyOf e) found too h g a c same = ap CopyOf (copies_one d e found too a c h g same)

  -- ---- names stand once

  -- two members of the module with one name are one
  member_once : (i j : ℕ) (one other : Member) → slice_get here i ≡ Some one → slice_get here j ≡ Some other → name_of b one ≡ name_of b other → one.demand ≡ other.demand
  member_once i j one other at too same = by (is_copy b one.demand) (is_copy b other.demand) refl refl
    where
      left_name : MemberName p cycles one.demand (name_of b one)
      left_name = member_name p cycles one.demand

      right_name : MemberName p cycles other.demand (name_of b other)
      right_name = member_name p cycles other.demand

      home_of : (k : ℕ) (member : Member) → slice_get here k ≡ Some member → (symbol_of member.demand).module ≡ home
      home_of k member is = every_at (λ (x : Member). (symbol_of x.demand).module ≡ home) here k member (at_home.at_home p cycles members home m w f) is

      in_set : (k : ℕ) (member : Member) → slice_get here k ≡ Some member → Contains (demands_of members) member.demand
      in_set k member is = every_at (λ (x : Member). Contains (demands_of members) x.demand) here k member (at_home.demanded_here p cycles members home m w f) is

      own_is : (x y : ℕ) → Own x ≡ Own y → x ≡ y
      own_is x y e = cc

      copy_is : (x y : Demand) → CopyOf x ≡ CopyOf y → x ≡ y
      copy_is x y e = cc

      mixed : (x : ℕ) (y : Demand) → Own x ≡ CopyOf y → ⊥
      mixed x y e = cc

      by : (s t : Bool) → is_copy b one.demand ≡ s → is_copy b other.demand ≡ t → one.demand ≡ other.demand
      by true true e g = copy_is one.demand other.demand (sym (left_name.copy e) ∙ same ∙ right_name.copy g)
      by true false e g = absurd (mixed (symbol_of other.demand).item one.demand (sym (right_name.plain g) ∙ sym same ∙ left_name.copy e))
      by false true e g = absurd (mixed (symbol_of one.demand).item other.demand (sym (left_name.plain e) ∙ same ∙ right_name.copy g))
      by false false e g =
          let places : (symbol_of one.demand).item ≡ (symbol_of other.demand).item = own_is (symbol_of one.demand).item (symbol_of other.demand).item (sym (left_name.plain e) ∙ same ∙ right_name.plain g) in
          f.whole.alone one.demand other.demand (in_set i one at) (in_set j other too) e g (same_symbol (symbol_of one.demand) (symbol_of other.demand) (home_of i one at ∙ sym (home_of j other too)) places)

  demands_apart : AllPairs (λ (x y : Member). x.demand ≢ y.demand) here
  demands_apart = AllPairs-filter (λ (x y : Member). x.demand ≢ y.demand) (is_in home) members (λ i j d less short same.
      let x = there members i (omega (arith, less, short)) in
      let y = there members j short in
      let at_x : get_or members i d ≡ x.0 = get_or_from_slice_get members i x.0 d x.1 in
      let at_y : get_or members j d ≡ y.0 = get_or_from_slice_get members j y.0 d y.1 in
      let both : x.0.demand ≡ y.0.demand = sym (ap (λ (z : Member). z.demand) at_x) ∙ same ∙ ap (λ (z : Member). z.demand) at_y in
      let one : i ≡ j = apart_at (demands_of members) i j x.0.demand f.whole.distinct (get_map (λ (z : Member). z.demand) members i x.0 x.1) (get_map (λ (z : Member). z.demand) members j y.0 y.1 ∙ ap Some (sym both)) in
      omega (arith, less, one))

  -- a member of the module stands once
  pub place_once : (i j : ℕ) (one other : Member) → slice_get here i ≡ Some one → slice_get here j ≡ Some other → one.demand ≡ other.demand → i ≡ j
  place_once i j one other at too same = by (cases_order i j)
    where
      x : get_or here i one ≡ one
      x = get_or_from_slice_get here i one one at

      y : get_or here j one ≡ other
      y = get_or_from_slice_get here j other one too

      by : (i ≡ j) ⊎ ((i < j) ⊎ (j < i)) → i ≡ j
      by (inl e) = e
      by (inr (inl less)) = absurd (demands_apart i j one less (within here j other too) (ap (λ (z : Member). z.demand) x ∙ same ∙ sym (ap (λ (z : Member). z.demand) y)))
      by (inr (inr less)) = absurd (demands_apart j i one less (within here i one at) (ap (λ (z : Member). z.demand) y ∙ sym same ∙ sym (ap (λ (z : Member). z.demand) x)))

  -- each name stands once
  name_once : (i j : ℕ) (one : Named) → slice_get named i ≡ Some one → slice_get named j ≡ Some one → i ≡ j
  name_once i j one at too = by (first_or_rest (map (name_of b) here) f.winnowed.declared i one at) (first_or_rest (map (name_of b) here) f.winnowed.declared j one too)
    where
      mixed : (k n : ℕ) → slice_get (map (name_of b) here) k ≡ Some one → slice_get f.winnowed.declared n ≡ Some one → ⊥
      mixed k n front back = All-at (λ x. Contains (map (name_of b) here) x → ⊥) f.winnowed.declared n one f.winnowed.are_declared.not_defined back (in_place (map (name_of b) here) k one front)

      by : (slice_get (map (name_of b) here) i ≡ Some one) ⊎ ((n : ℕ) × (length (map (name_of b) here) + n ≡ i) × (slice_get f.winnowed.declared n ≡ Some one)) → (slice_get (map (name_of b) here) j ≡ Some one) ⊎ ((n : ℕ) × (length (map (name_of b) here) + n ≡ j) × (slice_get f.winnowed.declared n ≡ Some one)) → i ≡ j
      by (inl x) (inl y) =
          let u = of_map (name_of b) here i one x in
          let v = of_map (name_of b) here j one y in
          place_once i j u.0 v.0 u.1 v.1 (member_once i j u.0 v.0 u.1 v.1 (u.2 ∙ sym v.2))
      by (inl x) (inr (n, at, y)) = absurd (mixed i n x y)
      by (inr (n, at, x)) (inl y) = absurd (mixed j n y x)
      by (inr (n, first, x)) (inr (k, second, y)) = omega (arith, first, second, apart_at f.winnowed.declared n k one f.winnowed.are_declared.distinct x y)

  -- ---- items

  -- what stands at a place of the module, by its name
  pub named_at : (i : ℕ) (found : Item) → slice_get w.items i ≡ Some found → (one : Named) × (slice_get named i ≡ Some one) × IsItemFor p cycles m one found
  named_at i found is = at_home.name_at p cycles members home m w f i found is

  pub items_apart : AllPairs (λ x y. x ≢ y) (map item_name w.items)
  items_apart = pairs_by (map item_name w.items) (λ i j name at too.
      let x = of_map item_name w.items i name at in
      let y = of_map item_name w.items j name too in
      let u = named_at i x.0 x.1 in
      let v = named_at j y.0 y.1 in
      let same : u.0 ≡ v.0 = same_name u.0 v.0 x.0 y.0 (i, u.1) (j, v.1) u.2 v.2 (x.2 ∙ sym y.2) in
      name_once i j v.0 (u.1 ∙ ap Some same) v.1)
