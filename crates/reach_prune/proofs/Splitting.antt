-- Members by modules.
use Rattle.std.proofs.Common.{◌≡◌, ◌∙◌, ℕ, zero, suc, ◌+◌, ◌<◌, ◌≤◌, Bool, true, false, List, [], ◌∷◌, ◌++◌, Option, None, Some, All, length, set, get_or, refl, sym, ap, subst, arith}
use Rattle.std.specs.Prelude.{◌==◌, nat_lt, slice_get, if◌then◌else◌}
use Rattle.std.specs.List.{filter}
use Rattle.std.proofs.lemmas.Bool.{false≢true, ltb-true, ltb-false}
use Rattle.std.proofs.lemmas.Option.{none-some}
use Rattle.std.proofs.lemmas.List.{append-nil, length-set, length_push}
use Rattle.std.proofs.lemmas.List.Elements.{All-nil, All-cons, All-head, All-tail, filter-append}
use Rattle.ir_types.proofs.ListSteps.{slice_get-within, slice_get-append_first, slice_get-append_rest}
use Rattle.ir_syntax.specs.declared.item.Module.{Module}
use Rattle.demands.specs.Order.{symbol_of}
use Rattle.winnowed_form.specs.declared.member.Member.{Member}
use Rattle.winnowed_form.specs.Basis.{Basis}
use Rattle.winnowed_form.specs.Members.{is_in, defined_in}
use Rattle.winnowed_form.specs.Winnowed.{IsWinnowedModule, AreWinnowedModules}
use Rattle.reach_prune.specs.Mirrors.Members.{IsWritable}
use Rattle.reach_prune.specs.Mirrors.Split.{AreSplit, AreWritable, AreMade}

-- ---- lists

pub slice_at : {X : Type 0} (xs : List X) (k : ℕ) (x : X) → k < length xs → x ≡ get_or xs k x → slice_get xs k ≡ Some x
slice_at [] k x within is = absurd (omega (arith, within))
slice_at (y ∷ ys) zero x within is = ap (λ z. Some z) (sym is)
slice_at (y ∷ ys) (suc k) x within is = slice_at ys k x (omega (arith, within)) is

set_here : {X : Type 0} (xs : List X) (k : ℕ) (x : X) → k < length xs → slice_get (set xs k x) k ≡ Some x
set_here [] k x within = absurd (omega (arith, within))
set_here (y ∷ ys) zero x within = refl
set_here (y ∷ ys) (suc k) x within = set_here ys k x (omega (arith, within))

set_apart : {X : Type 0} (xs : List X) (k j : ℕ) (x : X) → (k ≡ j → ⊥) → slice_get (set xs k x) j ≡ slice_get xs j
set_apart [] k j x other = refl
set_apart (y ∷ ys) zero zero x other = absurd (other refl)
set_apart (y ∷ ys) zero (suc j) x other = refl
set_apart (y ∷ ys) (suc k) zero x other = refl
set_apart (y ∷ ys) (suc k) (suc j) x other = set_apart ys k j x (λ e. other (ap suc e))

same_number : (k j : ℕ) → (k == j) ≡ true → k ≡ j
same_number k j e = grind arith

apart_numbers : (k j : ℕ) → (k == j) ≡ false → k ≡ j → ⊥
apart_numbers k j e is = grind arith

-- ---- by modules

-- no lists, and one more
pub split_none : AreSplit 0 [] []
split_none = record { long = refl; each = λ home less. absurd (omega (arith, less)) }

pub split_more : (k : ℕ) (lists next : List (List Member)) → AreSplit k [] lists → next ≡ lists ++ [] ∷ [] → AreSplit (k + 1) [] next
split_more k lists next split is = record {
  long = ap length is ∙ length_push lists [] ∙ ap (λ n. n + 1) split.long;
  each = λ home less. ap (λ l. slice_get l home) is ∙ by home less (home == k) refl;
}
  where
    by : (home : ℕ) → home < k + 1 → (b : Bool) → (home == k) ≡ b → slice_get (lists ++ [] ∷ []) home ≡ Some []
    by home less true e = slice_get-append_rest lists ([] ∷ []) 0 home (omega (arith, split.long, same_number home k e))
    by home less false e = slice_get-append_first lists ([] ∷ []) home [] (split.each home (lower home less (same home k e)))
      where
        same : (a c : ℕ) → (a == c) ≡ false → a ≡ c → ⊥
        same a c e is = grind arith

        lower : (a : ℕ) → a < k + 1 → (a ≡ k → ⊥) → a < k
        lower a less apart = omega (arith, less, apart)

-- one more member
pub split_put : (members : List Member) (member : Member) (lists next : List (List Member)) (old : List Member) (home : ℕ) → home ≡ (symbol_of member.demand).module → home < length lists → old ≡ get_or lists home old
    → next ≡ set lists home (old ++ member ∷ []) → AreSplit (length lists) members lists → AreSplit (length lists) (members ++ member ∷ []) next
split_put members member lists next old home home_is within old_is next_is split = record {
  long = ap length next_is ∙ length-set lists home (old ++ member ∷ []);
  each = λ other less. ap (λ l. slice_get l other) next_is ∙ by other less (home == other) refl;
}
  where
    one : (other : ℕ) (b : Bool) → is_in other member ≡ b → defined_in other (members ++ member ∷ []) ≡ defined_in other members ++ (if b then member ∷ [] else [])
    one other b e = filter-append (is_in other) members (member ∷ []) ∙ ap (λ c. defined_in other members ++ (if c then member ∷ [] else [])) e

    by : (other : ℕ) → other < length lists → (b : Bool) → (home == other) ≡ b → slice_get (set lists home (old ++ member ∷ [])) other ≡ Some (defined_in other (members ++ member ∷ []))
    by other less true e =
        subst (λ n. slice_get (set lists home (old ++ member ∷ [])) n ≡ Some (defined_in n (members ++ member ∷ []))) (same_number home other e)
        (set_here lists home (old ++ member ∷ []) within ∙ ap (λ l. Some l) (ap (λ l. l ++ member ∷ []) here ∙ sym (one home true (ap (λ n. n == home) (sym home_is) ∙ self home))))
      where
        self : (n : ℕ) → (n == n) ≡ true
        self n = grind arith

        same : {a c : List Member} → Some a ≡ Some c → a ≡ c
        same e = cc

        here : old ≡ defined_in home members
        here = same (sym (slice_at lists home old within old_is) ∙ split.each home within)
    by other less false e =
        set_apart lists home other (old ++ member ∷ []) (apart_numbers home other e) ∙ split.each other less
        ∙ ap (λ l. Some l) (sym (append-nil (defined_in other members)) ∙ sym (one other false (ap (λ n. n == other) (sym home_is) ∙ e)))

-- Each list has what its module defines.
all_kept : (b : Basis) (home : ℕ) (xs : List Member) → All (λ member. IsWritable b (symbol_of member.demand).module member) xs → All (IsWritable b home) (defined_in home xs)
all_kept b home [] all = All-nil (IsWritable b home)
all_kept b home (x ∷ xs) all = by (is_in home x) refl (all_kept b home xs (All-tail (λ (member : Member). IsWritable b (symbol_of member.demand).module member) x xs all))
  where
    by : (c : Bool) → is_in home x ≡ c → All (IsWritable b home) (defined_in home xs) → All (IsWritable b home) (if c then x ∷ defined_in home xs else defined_in home xs)
    by true e rest = All-cons (IsWritable b home) x (defined_in home xs) (subst (λ n. IsWritable b n x) (same_number (symbol_of x.demand).module home e) (All-head (λ (member : Member). IsWritable b (symbol_of member.demand).module member) x xs all)) rest
    by false e rest = rest

some_same : {X : Type 0} {a c : X} → Some a ≡ Some c → a ≡ c
some_same e = cc

pub split_writable : (b : Basis) (modules : ℕ) (members : List Member) (lists : List (List Member)) → AreSplit modules members lists → All (λ member. IsWritable b (symbol_of member.demand).module member) members → AreWritable b lists
split_writable b modules members lists split all home list is =
    subst (All (IsWritable b home)) (some_same (sym (split.each home (omega (arith, slice_get-within lists home list is, split.long))) ∙ is)) (all_kept b home members all)

-- ---- what is made

pub made_more : (b : Basis) (lists : List (List Member)) (modules made next : List Module) (home : ℕ) (list : List Member) (m w : Module)
    → (length made ≡ home) × ((k : ℕ) (members : List Member) (n v : Module) → slice_get lists k ≡ Some members → slice_get modules k ≡ Some n → slice_get made k ≡ Some v → IsWinnowedModule b members k n v)
    → slice_get lists home ≡ Some list → slice_get modules home ≡ Some m → IsWinnowedModule b list home m w → next ≡ made ++ w ∷ []
    → (length next ≡ home + 1) × ((k : ℕ) (members : List Member) (n v : Module) → slice_get lists k ≡ Some members → slice_get modules k ≡ Some n → slice_get next k ≡ Some v → IsWinnowedModule b members k n v)
made_more b lists modules made next home list m w so list_is m_is winnowed is = (
  ap length is ∙ length_push made w ∙ ap (λ n. n + 1) so.0,
  λ k members n v members_are n_is v_is. by k members n v members_are n_is (sym (ap (λ l. slice_get l k) is) ∙ v_is) (home == k) refl,
)
  where
    some : {X : Type 0} {a c : X} → Some a ≡ Some c → a ≡ c
    some e = cc

    by : (k : ℕ) (members : List Member) (n v : Module) → slice_get lists k ≡ Some members → slice_get modules k ≡ Some n → slice_get (made ++ w ∷ []) k ≡ Some v → (c : Bool) → (home == k) ≡ c → IsWinnowedModule b members k n v
    by k members n v members_are n_is v_is true e =
        let same = same_number home k e in
        let members_same : list ≡ members = some (sym list_is ∙ ap (slice_get lists) same ∙ members_are) in
        let n_same : m ≡ n = some (sym m_is ∙ ap (slice_get modules) same ∙ n_is) in
        let v_same : w ≡ v = some (sym (slice_get-append_rest made (w ∷ []) 0 k (omega (arith, so.0, same))) ∙ v_is) in
        subst (λ x. IsWinnowedModule b members k n x) v_same (subst (λ x. IsWinnowedModule b members k x w) n_same (subst (λ x. IsWinnowedModule b x k m w) members_same (subst (λ x. IsWinnowedModule b list x m w) same winnowed)))
    by k members n v members_are n_is v_is false e = so.1 k members n v members_are n_is (earlier (nat_lt k (length made)) refl)
      where
        apart : (a c : ℕ) → (a == c) ≡ false → a ≡ c → ⊥
        apart a c e is = grind arith

        past : (xs : List Module) (i : ℕ) → length xs < i → slice_get (xs ++ w ∷ []) i ≡ None
        past [] zero less = absurd (omega (arith, less))
        past [] (suc i) less = refl
        past (x ∷ xs) zero less = absurd (omega (arith, less))
        past (x ∷ xs) (suc i) less = past xs i (omega (arith, less))

        front : (xs : List Module) (i : ℕ) → i < length xs → slice_get (xs ++ w ∷ []) i ≡ slice_get xs i
        front [] i less = absurd (omega (arith, less))
        front (x ∷ xs) zero less = refl
        front (x ∷ xs) (suc i) less = front xs i (omega (arith, less))

        earlier : (t : Bool) → nat_lt k (length made) ≡ t → slice_get made k ≡ Some v
        earlier true less = sym (front made k (ltb-true k (length made) less)) ∙ v_is
        earlier false less = absurd (none-some v (sym (past made k (omega (arith, so.0, ltb-false k (length made) less, apart home k e))) ∙ v_is))

pub made_all : (b : Basis) (members : List Member) (lists : List (List Member)) (made : List Module) → AreSplit (length b.program.modules) members lists → AreMade b lists b.program.modules made → AreWinnowedModules b members made
made_all b members lists made split are = record {
  long = are.long;
  each = λ home m w m_is w_is. are.each home (defined_in home members) m w (split.each home (slice_get-within b.program.modules home m m_is)) m_is w_is;
}

pub made_whole : (b : Basis) (lists : List (List Member)) (items modules made : List Module) (home : ℕ) → items ≡ modules → home ≤ length items → length items ≤ home
    → (length made ≡ home) × ((k : ℕ) (members : List Member) (n v : Module) → slice_get lists k ≡ Some members → slice_get items k ≡ Some n → slice_get made k ≡ Some v → IsWinnowedModule b members k n v) → AreMade b lists modules made
made_whole b lists items modules made home same most past so = record {
  long = omega (arith, so.0, most, past, ap length same);
  each = λ k members n v members_are n_is v_is. so.1 k members n v members_are (ap (λ l. slice_get l k) same ∙ n_is) v_is;
}
