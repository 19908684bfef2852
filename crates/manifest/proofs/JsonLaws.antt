-- What is read off a JSON value is what the value has.
use Rattle.std.proofs.Common.{◌≡◌, ◌≢◌, ℕ, ◌^◌, ◌-◌, ℤ, pos, negsuc, ◌≤ℤ◌, List, [], ◌∷◌, Option, Some, None, option_map, option_and_then, is_some, Bool, true, false, cond, ◌&&◌, refl, sym, ◌∙◌, ap, subst, inl, inr, ◌⊎◌, arith, Ordering, Less, Equal, Greater, nat_cmp, is_eq, true≢false}
use Rattle.std.specs.Prelude.{Decides, int_le}
use Rattle.std.specs.List.{AllZip}
use Rattle.std.specs.Cmp.Lexicographic.{slice_cmp}
use Rattle.std.specs.Ordering.{match_ordering}
use Rattle.std.proofs.lemmas.Bool.{and_parts, and_from}
use Rattle.std.proofs.lemmas.Int.{ints}
use Rattle.std.proofs.lemmas.Option.{none-some, same_Some}
use Rattle.std.proofs.lemmas.Slice.Eq.{bytes_eq-Decides}
use Rattle.std.proofs.lemmas.Map.Text.{is_eq-slice_cmp}
use Rattle.serde_json.specs.Data.{Data, null, boolean, number, string, array, object, Items, no_items, item, Members, no_members, member}
use Rattle.serde_json.specs.Find.{get_member, as_str, as_array, as_object}
use Rattle.serde_json.specs.View.{items_of}
use Rattle.manifest.specs.Json.{IsText, IsArrayOf, HasOnlyKeys}
use Rattle.manifest.specs.Manifest.{IsArgument}
use Rattle.manifest.specs.Reading.{integer_of, argument_of, each_of, keys_pass, members_pass, is_among}
use Rattle.manifest.proofs.Found.{Finds, Finds-none, Finds-some, Finds-like}
use Rattle.manifest.proofs.NameLaws.{is_among-Decides}

-- ---- a text

pub as_str-Finds : (d : Data) → Finds (as_str d) (λ text. IsText text d)
as_str-Finds null = Finds-none _ (λ x e. cc)
as_str-Finds (boolean b) = Finds-none _ (λ x e. cc)
as_str-Finds (number n) = Finds-none _ (λ x e. cc)
as_str-Finds (string s) = Finds-some s _ refl (λ x e. cc)
as_str-Finds (array ds) = Finds-none _ (λ x e. cc)
as_str-Finds (object ms) = Finds-none _ (λ x e. cc)

-- ---- an integer in a range

le-Decides : (a b : ℤ) → Decides (int_le a b) (a ≤ℤ b)
le-Decides a b = (λ e. grind (arith, ints), λ h. grind (arith, ints))

abbrev ranged : ℤ → ℤ → Option ℤ → Option (Option ℤ)
ranged low high i = option_and_then (λ n. cond (int_le low n && int_le n high) (Some (Some n)) None) i

abbrev IsRanged : ℤ → ℤ → Option ℤ → Option ℤ → Type 0
IsRanged low high i None = ⊥
IsRanged low high i (Some n) = (i ≡ Some n) × (low ≤ℤ n) × (n ≤ℤ high)

ranged-found : (low high n : ℤ) (b : Bool) → int_le low n && int_le n high ≡ b → (x : Option ℤ) → cond b (Some (Some n)) None ≡ Some x → IsRanged low high (Some n) x
ranged-found low high n true t x e =
    let both = and_parts _ _ t in
    subst (IsRanged low high (Some n)) (same_Some (Some n) x e) (refl, (le-Decides low n).0 both.0, (le-Decides n high).0 both.1)
ranged-found low high n false t x e = absurd (none-some x e)

ranged-again : (low high : ℤ) (i x : Option ℤ) → IsRanged low high i x → ranged low high i ≡ Some x
ranged-again low high i None h = absurd h
ranged-again low high i (Some n) h = rw (h.0, (le-Decides low n).1 h.1, (le-Decides n high).1 h.2)

ranged-Finds : (low high : ℤ) (i : Option ℤ) → Finds (ranged low high i) (IsRanged low high i)
ranged-Finds low high None = record { found = λ x e. absurd (none-some x e); again = ranged-again low high None }
ranged-Finds low high (Some n) = record { found = ranged-found low high n _ refl; again = ranged-again low high (Some n) }

abbrev lowest : ℤ
lowest = negsuc (2 ^ 63 - 1)

abbrev highest : ℤ
highest = pos (2 ^ 64 - 1)

-- where the value is not null, an argument is an integer in the range
other-Finds : (d : Data) → d ≢ null → Finds (ranged lowest highest (integer_of d)) (λ arg. IsArgument arg d)
other-Finds d other = Finds-like _ (IsRanged lowest highest (integer_of d)) _ to from (ranged-Finds lowest highest (integer_of d))
  where
    to : (x : Option ℤ) → IsRanged lowest highest (integer_of d) x → IsArgument x d
    to None h = absurd h
    to (Some n) h = h

    from : (x : Option ℤ) → IsArgument x d → IsRanged lowest highest (integer_of d) x
    from None h = absurd (other h)
    from (Some n) h = h

pub argument_of-Finds : (d : Data) → Finds (argument_of d) (λ arg. IsArgument arg d)
argument_of-Finds null = Finds-some None _ refl known
  where
    known : (x : Option ℤ) → IsArgument x null → None ≡ x
    known None h = refl
    known (Some n) h = absurd (none-some n h.0)
argument_of-Finds (boolean b) = other-Finds (boolean b) (λ e. cc)
argument_of-Finds (number n) = other-Finds (number n) (λ e. cc)
argument_of-Finds (string s) = other-Finds (string s) (λ e. cc)
argument_of-Finds (array ds) = other-Finds (array ds) (λ e. cc)
argument_of-Finds (object ms) = other-Finds (object ms) (λ e. cc)

-- ---- the items of an array

list_of : Items → List Data
list_of no_items = []
list_of (item d ds) = d ∷ list_of ds

items_of-list_of : (ds : Items) → ds ≡ items_of (list_of ds)
unfolding list_of
items_of-list_of no_items = refl
items_of-list_of (item d ds) = ap (item d) (items_of-list_of ds)

list_of-items_of : (ds : List Data) → list_of (items_of ds) ≡ ds
unfolding list_of
list_of-items_of [] = refl
list_of-items_of (d ∷ ds) = ap (λ es. d ∷ es) (list_of-items_of ds)

module _ {A : Type 0} (one : Data → Option A) (Is : A → Data → Type 0) (each : (d : Data) → Finds (one d) (λ x. Is x d)) where
  item-found : (d : Data) (ds : List Data) (o : Option A) (rest : Option (List A)) → one d ≡ o → ((ys : List A) → rest ≡ Some ys → AllZip Is ys ds)
      → (xs : List A) → option_and_then (λ x. option_map (λ ys. x ∷ ys) rest) o ≡ Some xs → AllZip Is xs (d ∷ ds)
  item-found d ds None rest is more xs e = absurd (none-some xs e)
  item-found d ds (Some x) None is more xs e = absurd (none-some xs e)
  item-found d ds (Some x) (Some ys) is more xs e = subst (λ zs. AllZip Is zs (d ∷ ds)) (same_Some (x ∷ ys) xs e) ((each d).found x is, more ys refl)

  items-found : (ds : Items) (xs : List A) → each_of one ds ≡ Some xs → AllZip Is xs (list_of ds)
  unfolding list_of
  items-found no_items xs e = subst (λ ys. AllZip Is ys []) (same_Some [] xs e) tt
  items-found (item d ds) xs e = item-found d (list_of ds) (one d) (each_of one ds) refl (items-found ds) xs e

  items-again : (ds : List Data) (xs : List A) → AllZip Is xs ds → each_of one (items_of ds) ≡ Some xs
  items-again [] [] h = refl
  items-again [] (x ∷ xs) h = absurd h
  items-again (d ∷ ds) [] h = absurd h
  items-again (d ∷ ds) (x ∷ xs) h = rw ((each d).again x h.0, items-again ds xs h.1)

  array-found : (ds : Items) (xs : List A) → each_of one ds ≡ Some xs → IsArrayOf Is xs (array ds)
  array-found ds xs e = (list_of ds, ap array (items_of-list_of ds), items-found ds xs e)

  array-again : (ds : Items) (xs : List A) → IsArrayOf Is xs (array ds) → each_of one ds ≡ Some xs
  array-again ds xs h = let same : ds ≡ items_of h.0 = (let e = h.1 in cc) in ap (each_of one) same ∙ items-again h.0 xs h.2

  pub listed-Finds : (d : Data) → Finds (option_and_then (each_of one) (as_array d)) (λ xs. IsArrayOf Is xs d)
  listed-Finds null = Finds-none _ (λ x h. let e = h.1 in cc)
  listed-Finds (boolean b) = Finds-none _ (λ x h. let e = h.1 in cc)
  listed-Finds (number n) = Finds-none _ (λ x h. let e = h.1 in cc)
  listed-Finds (string s) = Finds-none _ (λ x h. let e = h.1 in cc)
  listed-Finds (array ds) = record { found = array-found ds; again = array-again ds }
  listed-Finds (object ms) = Finds-none _ (λ x h. let e = h.1 in cc)

-- ---- the keys of an object

-- a key that is found at a place or behind it
found_at : (o : Ordering) (rest : Option Data) (e : Data) → is_some (match_ordering o rest (Some e) rest) ≡ true → (is_eq o ≡ true) ⊎ (is_some rest ≡ true)
found_at Less rest e h = inr h
found_at Equal rest e h = inl refl
found_at Greater rest e h = inr h

there_at : (o : Ordering) (rest : Option Data) (e : Data) → is_eq o ≡ true → is_some (match_ordering o rest (Some e) rest) ≡ true
there_at Less rest e h = absurd (true≢false (sym h))
there_at Equal rest e h = refl
there_at Greater rest e h = absurd (true≢false (sym h))

later_at : (o : Ordering) (rest : Option Data) (e : Data) → is_some rest ≡ true → is_some (match_ordering o rest (Some e) rest) ≡ true
later_at Less rest e h = h
later_at Equal rest e h = refl
later_at Greater rest e h = h

same_key : (k l : List ℕ) → Decides (is_eq (slice_cmp nat_cmp k l)) (k ≡ l)
same_key k l = (λ e. (bytes_eq-Decides k l).0 (sym (is_eq-slice_cmp k l) ∙ e), λ e. is_eq-slice_cmp k l ∙ (bytes_eq-Decides k l).1 e)

module _ (test : List ℕ → Bool) where
  passes : (ms : Members) → keys_pass test ms ≡ true → (key : List ℕ) → is_some (get_member key ms) ≡ true → test key ≡ true
  passes no_members h key there = absurd (true≢false (sym there))
  passes (member l d ms) h key there =
      let both = and_parts (test l) (keys_pass test ms) h in
      elim (found_at (slice_cmp nat_cmp key l) (get_member key ms) d there) [
        | inl e ↦ ap test ((same_key key l).0 e) ∙ both.0
        | inr e ↦ passes ms both.1 key e
      ]

  pass_all : (ms : Members) → ((key : List ℕ) → is_some (get_member key ms) ≡ true → test key ≡ true) → keys_pass test ms ≡ true
  pass_all no_members h = refl
  pass_all (member l d ms) h =
      and_from (test l) (keys_pass test ms) (h l (there_at (slice_cmp nat_cmp l l) (get_member l ms) d ((same_key l l).1 refl)))
      (pass_all ms (λ key e. h key (later_at (slice_cmp nat_cmp key l) (get_member key ms) d e)))

pub only-Decides : (keys : List (List ℕ)) (d : Data) → Decides (members_pass (is_among keys) (as_object d)) (HasOnlyKeys keys d)
only-Decides keys null = (λ e key there. absurd (true≢false (sym there)), λ h. refl)
only-Decides keys (boolean b) = (λ e key there. absurd (true≢false (sym there)), λ h. refl)
only-Decides keys (number n) = (λ e key there. absurd (true≢false (sym there)), λ h. refl)
only-Decides keys (string s) = (λ e key there. absurd (true≢false (sym there)), λ h. refl)
only-Decides keys (array ds) = (λ e key there. absurd (true≢false (sym there)), λ h. refl)
only-Decides keys (object ms) = (
  λ e key there. (is_among-Decides keys key).0 (passes (is_among keys) ms e key there),
  λ h. pass_all (is_among keys) ms (λ key there. (is_among-Decides keys key).1 (h key there)),
)
