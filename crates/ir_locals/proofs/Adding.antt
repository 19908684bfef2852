-- One more name among names that are well.
use Rattle.std.proofs.Common.{◌≡◌, ◌∙◌, ℕ, Bool, true, false, cond, List, [], ◌∷◌, ◌++◌, map, Option, Some, bytes_eq, refl, sym, ap}
use Rattle.std.specs.List.{list_all}
use Rattle.std.specs.Option.{is_some}
use Rattle.std.specs.Map.{lookup}
use Rattle.std.proofs.lemmas.Bool.{false≢true, and_parts, and_from}
use Rattle.std.proofs.lemmas.List.{map-append}
use Rattle.std.proofs.lemmas.List.Folds.{list_all-append}
use Rattle.indexmap.specs.IndexMap.{insert_entry}
use Rattle.name_table.specs.Places.{is_among, are_distinct}
use Rattle.name_table.proofs.NameLists.{distinct-more, distinct-front, new-absent}
use Rattle.ir_locals.specs.Locals.{Local, is_name, are_locals, local_among}

-- what fails wherever something that follows from it fails
pub fails : (b c : Bool) → (b ≡ true → c ≡ true) → c ≡ false → b ≡ false
fails true c f e = sym (f refl) ∙ e
fails false c f e = refl

-- ---- names with what they stand for

abbrev pub names : List (List ℕ × Local) → List (List ℕ)
names ls = map (λ (l : List ℕ × Local). l.0) ls

-- a name is among the names just where it stands for something
pub among_names : (name : List ℕ) (ls : List (List ℕ × Local)) → is_among name (names ls) ≡ is_some (local_among ls name)
among_names name [] = refl
among_names name (l ∷ ls) = ap (cond (bytes_eq name l.0) true) (among_names name ls) ∙ moved (bytes_eq name l.0) (local_among ls name)
  where
    moved : (b : Bool) (o : Option Local) → cond b true (is_some o) ≡ is_some (cond b (Some l.1) o)
    moved true o = refl
    moved false o = refl

-- names that are well, and one more that is a name and new
pub more_well : (ls : List (List ℕ × Local)) (name : List ℕ) (local : Local) → are_locals ls ≡ true → is_name name ≡ true → is_some (local_among ls name) ≡ false →
    are_locals (ls ++ (name, local) ∷ []) ≡ true
more_well ls name local w n a =
    let (are, distinct) = and_parts (list_all (λ (l : List ℕ × Local). is_name l.0) ls) (are_distinct (names ls)) w in
    and_from (list_all (λ (l : List ℕ × Local). is_name l.0) (ls ++ (name, local) ∷ [])) (are_distinct (names (ls ++ (name, local) ∷ [])))
    (list_all-append (λ (l : List ℕ × Local). is_name l.0) ls ((name, local) ∷ []) ∙ and_from _ _ are (and_from (is_name name) true n refl))
    (ap are_distinct (map-append (λ (l : List ℕ × Local). l.0) ls ((name, local) ∷ [])) ∙ distinct-more (names ls) name distinct (among_names name ls ∙ a))

-- the first of names that are well are
pub front_well : (ls more : List (List ℕ × Local)) → are_locals (ls ++ more) ≡ true → are_locals ls ≡ true
front_well ls more w =
    let (are, distinct) = and_parts (list_all (λ (l : List ℕ × Local). is_name l.0) (ls ++ more)) (are_distinct (names (ls ++ more))) w in
    and_from (list_all (λ (l : List ℕ × Local). is_name l.0) ls) (are_distinct (names ls))
    (and_parts (list_all (λ (l : List ℕ × Local). is_name l.0) ls) (list_all (λ (l : List ℕ × Local). is_name l.0) more) (sym (list_all-append (λ (l : List ℕ × Local). is_name l.0) ls more) ∙ are)).0
    (distinct-front (names ls) (names more) (sym (ap are_distinct (map-append (λ (l : List ℕ × Local). l.0) ls more)) ∙ distinct))

-- names with one that stood before aren't
pub doubled : (ls : List (List ℕ × Local)) (name : List ℕ) (local : Local) → is_some (local_among ls name) ≡ true → are_locals (ls ++ (name, local) ∷ []) ≡ false
doubled ls name local there = cases (are_locals (ls ++ (name, local) ∷ [])) refl
  where
    cases : (b : Bool) → are_locals (ls ++ (name, local) ∷ []) ≡ b → are_locals (ls ++ (name, local) ∷ []) ≡ false
    cases false e = e
    cases true e =
        let distinct = (and_parts (list_all (λ (l : List ℕ × Local). is_name l.0) (ls ++ (name, local) ∷ [])) (are_distinct (names (ls ++ (name, local) ∷ []))) e).1 in
        let new = new-absent (names ls) name (sym (ap are_distinct (map-append (λ (l : List ℕ × Local). l.0) ls ((name, local) ∷ []))) ∙ distinct) in
        absurd (false≢true (sym new ∙ among_names name ls ∙ there))

-- ---- a map from names

-- what contracts see of a map whose keys are seen as bytes
abbrev pub seen_as : {K : Type 0} → (K → List ℕ) → List (K × Local) → List (List ℕ × Local)
seen_as {K} bytes es = map (λ (e : K × Local). (bytes e.0, e.1)) es

pub local_among-map : {K : Type 0} (name : List ℕ) (bytes : K → List ℕ) (es : List (K × Local)) → local_among (seen_as bytes es) name ≡ lookup (λ k. bytes_eq name (bytes k)) es
local_among-map name bytes [] = refl
local_among-map name bytes (e ∷ es) = ap (cond (bytes_eq name (bytes e.0)) (Some e.1)) (local_among-map name bytes es)

-- a new key goes last
inserted : {K : Type 0} (bytes : K → List ℕ) (k : K) (local : Local) (es : List (K × Local)) → is_some (lookup (λ x. bytes_eq (bytes k) (bytes x)) es) ≡ false →
    seen_as bytes (insert_entry (λ x y. bytes_eq (bytes x) (bytes y)) es k local) ≡ seen_as bytes es ++ (bytes k, local) ∷ []
inserted bytes k local [] e = refl
inserted {K} bytes k local (x ∷ xs) e = cases (bytes_eq (bytes k) (bytes x.0)) e (inserted bytes k local xs)
  where
    cases : (b : Bool) → is_some (cond b (Some x.1) (lookup (λ y. bytes_eq (bytes k) (bytes y)) xs)) ≡ false →
        (is_some (lookup (λ y. bytes_eq (bytes k) (bytes y)) xs) ≡ false → seen_as bytes (insert_entry (λ y z. bytes_eq (bytes y) (bytes z)) xs k local) ≡ seen_as bytes xs ++ (bytes k, local) ∷ []) →
        seen_as bytes (cond b ((x.0, local) ∷ xs) (x ∷ insert_entry (λ y z. bytes_eq (bytes y) (bytes z)) xs k local)) ≡ seen_as bytes (x ∷ xs) ++ (bytes k, local) ∷ []
    cases true f ih = cc
    cases false f ih = ap (λ ls. (bytes x.0, x.1) ∷ ls) (ih f)

-- the names after a new one was added
pub names_after : {K : Type 0} (bytes : K → List ℕ) (name : List ℕ) (local : Local) (es new : List (K × Local)) (owned : K) → bytes owned ≡ name →
    is_some (lookup (λ x. bytes_eq name (bytes x)) es) ≡ false → new ≡ insert_entry (λ x y. bytes_eq (bytes x) (bytes y)) es owned local → seen_as bytes new ≡ seen_as bytes es ++ (name, local) ∷ []
names_after bytes name local es new owned o absent n =
    ap (seen_as bytes) n
    ∙ inserted bytes owned local es (ap (λ m. is_some (lookup (λ x. bytes_eq m (bytes x)) es)) o ∙ absent)
    ∙ ap (λ m. seen_as bytes es ++ (m, local) ∷ []) o
