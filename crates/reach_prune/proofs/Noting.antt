-- Names that are noted one by one: each once, and all that are not defined.
use Rattle.std.proofs.Common.{◌≡◌, ◌∙◌, ◌⊎◌, inl, inr, ℕ, ◌+◌, ◌<◌, ◌≤◌, Bool, true, false, List, [], ◌∷◌, ◌++◌, Option, None, Some, length, take, drop, get_or, All, refl, sym, ap, subst, arith}
use Rattle.std.specs.Prelude.{◌≢◌, ◌||◌, Contains, AllPairs, flat_map, slice_get, is_some, if◌then◌else◌}
use Rattle.std.specs.List.{list_any, IsDistinct}
use Rattle.std.specs.List.Sorted.{IsPermutation}
use Rattle.std.proofs.lemmas.Bool.{false≢true}
use Rattle.std.proofs.lemmas.List.{append-nil, append_assoc, take_all, length_push, length-take-le}
use Rattle.std.proofs.lemmas.List.Elements.{All-nil, All-cons, All-head, All-tail, All-append, All-push, All-take, All-weaker, All-contains, Contains-append_left, Contains-append_right, Contains-push, Contains-append_cases}
use Rattle.std.proofs.lemmas.List.Sorted.{All-permutation as All-moved, Contains-permutation}
use Rattle.std.proofs.lemmas.List.Folds.{list_any-append}
use Rattle.std.proofs.lemmas.Map.Keys.{IsDistinct-push}
use Rattle.ir_types.proofs.ListSteps.{take_at, drop_at, slice_get-append_first, slice_get-append_rest}
use Rattle.winnowed_form.specs.declared.named.Named.{Named}
use Rattle.winnowed_form.specs.declared.named.Named.TheVariants.{Own, CopyOf}
use Rattle.winnowed_form.specs.declared.member.Member.{Member}
use Rattle.winnowed_form.specs.Winnowed.{AreDeclared}
use Rattle.reach_prune.specs.declared.notes.Notes.{Notes}
use Rattle.reach_prune.specs.declared.places.Places.{Places}
use Rattle.reach_prune.specs.Mirrors.Noting.{noted, noted_all, IsNoting, HasNoted}
use Rattle.reach_prune.specs.Mirrors.Places.{kept_place, place_or, place_in, is_name, HasRow, ArePlaced}
use Rattle.reach_prune.proofs.Naming.{names_equiv, name_same, found_there, there_found, apart, distinct_moved}

-- ---- what is noted

pub record AreNoted (used defined declared : List Named) : Type 0 where
  pub distinct : IsDistinct is_name declared
  pub used_names : All (Contains used) declared
  pub not_defined : All (λ named. Contains defined named → ⊥) declared
  pub all : All (Contains (defined ++ declared)) used
  pub rows : All HasRow declared

pub noted_none : (defined : List Named) → AreNoted [] defined []
unfolding IsDistinct
noted_none defined = record {
  distinct = tt;
  used_names = All-nil (Contains []);
  not_defined = All-nil (λ named. Contains defined named → ⊥);
  all = All-nil (Contains (defined ++ []));
  rows = All-nil HasRow;
}

noted_next : (used defined declared : List Named) (named : Named) → AreNoted used defined declared → All HasRow defined → HasRow named → AreNoted (used ++ named ∷ []) defined (noted defined declared named)
noted_next used defined declared named are defined_rows row = by (list_any (is_name named) (defined ++ declared)) refl
  where
    more : List Named
    more = used ++ named ∷ []

    weaker : All (Contains more) declared
    weaker = All-weaker (Contains used) (Contains more) (λ x h. Contains-append_left used (named ∷ []) x h) declared are.used_names

    is_used : Contains more named
    is_used = Contains-push used named

    absent : list_any (is_name named) (defined ++ declared) ≡ false → (l : List Named) → ((h : Contains l named) → Contains (defined ++ declared) named) → Contains l named → ⊥
    absent none l into h = false≢true (sym none ∙ there_found named (defined ++ declared) (into h))

    fresh : (b : Bool) → list_any (is_name named) declared ≡ b → list_any (is_name named) (defined ++ declared) ≡ false → b ≡ false
    fresh false e none = refl
    fresh true e none = absurd (absent none declared (λ h. Contains-append_right defined declared named h) (found_there named declared row are.rows e))

    by : (b : Bool) → list_any (is_name named) (defined ++ declared) ≡ b → AreNoted more defined (if b then declared else declared ++ named ∷ [])
    by true found = record {
      distinct = are.distinct;
      used_names = weaker;
      not_defined = are.not_defined;
      all = All-push (Contains (defined ++ declared)) used named are.all (found_there named (defined ++ declared) row (All-append HasRow defined declared defined_rows are.rows) found);
      rows = are.rows;
    }
    by false none = record {
      distinct = IsDistinct-push names_equiv declared named are.distinct (fresh (list_any (is_name named) declared) refl none);
      used_names = All-push (Contains more) declared named weaker is_used;
      not_defined = All-push (λ x. Contains defined x → ⊥) declared named are.not_defined (absent none defined (λ h. Contains-append_left defined declared named h));
      all = All-push (Contains (defined ++ (declared ++ named ∷ []))) used named
          (All-weaker (Contains (defined ++ declared)) (Contains (defined ++ (declared ++ named ∷ []))) (λ x h. subst (λ l. Contains l x) (append_assoc defined declared (named ∷ [])) (Contains-append_left (defined ++ declared) (named ∷ []) x h)) used are.all)
          (Contains-append_right defined (declared ++ named ∷ []) named (Contains-push declared named));
      rows = All-push HasRow declared named are.rows row;
    }

pub noted_more : (used defined declared names : List Named) → AreNoted used defined declared → All HasRow defined → All HasRow names → AreNoted (used ++ names) defined (noted_all defined declared names)
noted_more used defined declared [] are defined_rows rows = subst (λ l. AreNoted l defined declared) (sym (append-nil used)) are
noted_more used defined declared (named ∷ more) are defined_rows rows =
    subst (λ l. AreNoted l defined (noted_all defined (noted defined declared named) more)) (append_assoc used (named ∷ []) more)
    (noted_more (used ++ named ∷ []) defined (noted defined declared named) more (noted_next used defined declared named are defined_rows (All-head HasRow named more rows)) defined_rows (All-tail HasRow named more rows))

-- in another order
pub noted_moved : (used defined declared moved : List Named) → AreNoted used defined declared → IsPermutation declared moved → AreDeclared used defined moved
noted_moved used defined declared moved are permuted = record {
  distinct = apart moved (distinct_moved declared moved permuted are.distinct);
  used_names = All-moved (Contains used) declared moved permuted are.used_names;
  not_defined = All-moved (λ named. Contains defined named → ⊥) declared moved permuted are.not_defined;
  all = All-weaker (Contains (defined ++ declared)) (Contains (defined ++ moved)) (λ x h. joined x (Contains-append_cases defined declared x h)) used are.all;
}
  where
    joined : (x : Named) → (Contains defined x) ⊎ (Contains declared x) → Contains (defined ++ moved) x
    joined x (inl h) = Contains-append_left defined moved x h
    joined x (inr h) = Contains-append_right defined moved x (Contains-permutation declared moved x permuted h)

pub noted_append : (defined declared xs ys : List Named) → noted_all defined declared (xs ++ ys) ≡ noted_all defined (noted_all defined declared xs) ys
noted_append defined declared [] ys = refl
noted_append defined declared (x ∷ xs) ys = noted_append defined (noted defined declared x) xs ys

-- ---- what is seen

pub seen_one : (old new : Places) (named : Named) (place : ℕ) (names : List Named) → ((other : Named) → kept_place new other ≡ (if is_name named other then Some place else kept_place old other))
    → ((other : Named) → is_some (kept_place old other) ≡ list_any (is_name other) names) → (other : Named) → is_some (kept_place new other) ≡ list_any (is_name other) (names ++ named ∷ [])
seen_one old new named place names put seen other =
    ap is_some (put other) ∙ by (is_name named other) (names_equiv.symm named other) ∙ sym (list_any-append (is_name other) names (named ∷ []))
  where
    by : (b : Bool) → b ≡ is_name other named → is_some (if b then Some place else kept_place old other) ≡ (list_any (is_name other) names || list_any (is_name other) (named ∷ []))
    by true e = sym (ap (λ b. list_any (is_name other) names || (b || false)) (sym e) ∙ last (list_any (is_name other) names))
      where
        last : (b : Bool) → (b || (true || false)) ≡ true
        last true = refl
        last false = refl
    by false e = seen other ∙ sym (ap (λ b. list_any (is_name other) names || (b || false)) (sym e) ∙ last (list_any (is_name other) names))
      where
        last : (b : Bool) → (b || (false || false)) ≡ b
        last true = refl
        last false = refl

-- ---- places

pub placed_one : (names : List Named) (k : ℕ) (named : Named) (old new : Places) → length names ≡ k → All HasRow names → HasRow named → ArePlaced names old
    → ((other : Named) → kept_place new other ≡ (if is_name named other then Some k else kept_place old other)) → ArePlaced (names ++ named ∷ []) new
placed_one names k named old new long rows row placed put =
    All-push At names named (λ i d within. earlier (get_or names i d) (rows i d within) (placed i d within)) (last named (names_equiv.refl named) refl)
  where
    At : Named → Type 0
    At other = slice_get (names ++ named ∷ []) (place_in new other) ≡ Some other

    there : slice_get (names ++ named ∷ []) k ≡ Some named
    there = slice_get-append_rest names (named ∷ []) 0 k (omega (arith, long))

    last : (other : Named) → is_name named other ≡ true → named ≡ other → At other
    last other e same = ap (λ o. slice_get (names ++ named ∷ []) (place_or o)) (put other ∙ ap (λ b. if b then Some k else kept_place old other) e) ∙ there ∙ ap (λ x. Some x) same

    earlier : (other : Named) → HasRow other → slice_get names (place_in old other) ≡ Some other → At other
    earlier other fits at = by (is_name named other) refl
      where
        by : (b : Bool) → is_name named other ≡ b → At other
        by true e = last other e (name_same named other row fits e)
        by false e =
            ap (λ o. slice_get (names ++ named ∷ []) (place_or o)) (put other ∙ ap (λ b. if b then Some k else kept_place old other) e) ∙ slice_get-append_first names (named ∷ []) (place_in old other) other at

pub placed_next : (names : List Named) (k : ℕ) (named : Named) (old new : Places) → k < length names → named ≡ get_or names k named → All HasRow names → ArePlaced (take k names) old
    → ((other : Named) → kept_place new other ≡ (if is_name named other then Some k else kept_place old other)) → ArePlaced (take (k + 1) names) new
placed_next names k named old new within is rows placed put =
    subst (λ l. ArePlaced l new) (sym (take_at names k named within is))
    (placed_one (take k names) k named old new (length-take-le k names (omega (arith, within))) (All-take HasRow k names rows) (subst HasRow (sym is) (rows k named within)) placed put)

-- the names of one more member
pub noted_member : (defined first declared now xs ys whole : List Named) → noted_all defined declared (xs ++ ys) ≡ whole → now ≡ noted_all defined declared xs → noted_all defined now ys ≡ whole
noted_member defined first declared now xs ys whole so is = ap (λ l. noted_all defined l ys) is ∙ sym (noted_append defined declared xs ys) ∙ so

pub members_next : (f : Member → List Named) (defined : List Named) (members : List Member) (i : ℕ) (member : Member) (declared now names before whole : List Named) → i < length members → member ≡ get_or members i member
    → noted_all defined declared (flat_map f (drop i members)) ≡ whole → before ≡ defined → now ≡ noted_all before declared names → names ≡ f member → noted_all defined now (flat_map f (drop (i + 1) members)) ≡ whole
members_next f defined members i member declared now names before whole within is so same noted_is names_are =
    noted_member defined [] declared now (f member) (flat_map f (drop (i + 1) members)) whole (subst (λ l. noted_all defined declared (flat_map f l) ≡ whole) (drop_at members i member within is) so)
    (noted_is ∙ ap (λ l. noted_all l declared names) same ∙ ap (noted_all defined declared) names_are)

-- a name that wasn't seen
pub noted_new : (old : Notes) (named copy : Named) (seen : Places) (declared : List Named) → IsNoting old → is_some (kept_place old.seen named) ≡ false → ((other : Named) → kept_place seen other ≡ (if is_name named other then Some 0 else kept_place old.seen other)) → copy ≡ named
    → declared ≡ old.declared ++ copy ∷ [] → HasNoted old (named ∷ []) (record { seen = seen; defined = old.defined; declared = declared })
noted_new old named copy seen declared noting none put same pushed = record {
  noting = record {
    seen = λ other.
        seen_one old.seen seen named 0 (old.defined ++ old.declared) put noting.seen other
        ∙ ap (list_any (is_name other)) (append_assoc old.defined old.declared (named ∷ []) ∙ ap (λ l. old.defined ++ l) (sym now));
  };
  defined = refl;
  declared = now ∙ ap (λ b. if b then old.declared else old.declared ++ named ∷ []) (sym none ∙ noting.seen named);
}
  where
    now : declared ≡ old.declared ++ named ∷ []
    now = pushed ∙ ap (λ x. old.declared ++ x ∷ []) same
