-- A blank assignment, made block by block.
use Rattle.std.proofs.Common.{◌≡◌, ◌∙◌, ℕ, zero, suc, ◌+◌, ◌<◌, ◌≤◌, ◌⊎◌, inl, inr, Bool, true, false, List, [], ◌∷◌, ◌++◌, Some, length, map, drop, get_or, refl, sym, ap, subst, arith, length-append}
use Rattle.std.specs.Prelude.{slice_get, ◌==◌}
use Rattle.std.proofs.lemmas.List.{drop_all, length-map, length-drop}
use Rattle.std.proofs.lemmas.Bool.{eqb-true}
use Rattle.std.proofs.lemmas.Option.{none-some}
use Rattle.ir_types.proofs.ListSteps.{drop_at, slice_get-append_rest}
use Rattle.ir_syntax.specs.declared.body.Block.{Block}
use Rattle.ir_syntax.specs.Results.{block_results}
use Rattle.fold_facts.specs.declared.fact.Fact.{Fact}
use Rattle.fold_facts.specs.declared.edge.Edge.{Edge}
use Rattle.fold_facts.specs.Assigned.{is_reached}
use Rattle.fold_facts.specs.OfFunction.{results_in}
use Rattle.fold_facts.specs.Raising.{blank, blank_edges}
use Rattle.fold_facts.proofs.Flags.{AreFlags}
use Rattle.fold_facts.proofs.Lists.{some_is}
use Rattle.fold_facts.proofs.Reaching.{reached_by}
use Rattle.fold_facts.proofs.Settling.{not_reached}

-- the parts of the blocks so far, with those of what is left, are those of all
pub record IsBlankTo (blocks : List Block) (fact : Fact) (n : ℕ) (facts : List Fact) (edges : List (List Edge)) (flags : List Bool) : Type 0 where
  pub facts_are : facts ++ map (λ ty. fact) (results_in (drop n blocks)) ≡ map (λ ty. fact) (results_in blocks)
  pub edges_are : edges ++ map blank_edges (drop n blocks) ≡ map blank_edges blocks
  pub long : length flags ≡ n
  pub flags_are : (place : ℕ) (flag : Bool) → slice_get flags place ≡ Some flag → flag ≡ (place == 0)

pub blank_start : (blocks : List Block) (fact : Fact) → IsBlankTo blocks fact 0 [] [] []
blank_start blocks fact = record {
  facts_are = ap (λ bs. map (λ ty. fact) (results_in bs)) (drop_none blocks);
  edges_are = ap (map blank_edges) (drop_none blocks);
  long = refl;
  flags_are = λ place flag h. absurd (none-some flag h);
}
  where
    drop_none : (bs : List Block) → drop 0 bs ≡ bs
    drop_none [] = refl
    drop_none (b ∷ more) = refl

map_append : {A B : Type 0} (f : A → B) (xs ys : List A) → map f (xs ++ ys) ≡ map f xs ++ map f ys
map_append f [] ys = refl
map_append f (x ∷ xs) ys = ap (λ l. f x ∷ l) (map_append f xs ys)

assoc : {A : Type 0} (xs ys zs : List A) → (xs ++ ys) ++ zs ≡ xs ++ (ys ++ zs)
assoc [] ys zs = refl
assoc (x ∷ xs) ys zs = ap (λ l. x ∷ l) (assoc xs ys zs)

less_or : (k m : ℕ) → (k < m) ⊎ ((j : ℕ) × (j + m ≡ k))
less_or k zero = inr (k, omega arith)
less_or zero (suc m) = inl (omega arith)
less_or (suc k) (suc m) = elim (less_or k m) [ inl low ↦ inl (omega (arith, low)) | inr e ↦ inr (e.0, omega (arith, e.1)) ]

pub blank_step : (blocks : List Block) (fact : Fact) (n : ℕ) (block : Block) (facts more : List Fact) (edges next : List (List Edge)) (row : List Edge) (flags then_flags : List Bool)
    → IsBlankTo blocks fact n facts edges flags → n < length blocks → block ≡ get_or blocks n block
    → more ≡ facts ++ map (λ ty. fact) (block_results block) → row ≡ blank_edges block → next ≡ edges ++ row ∷ [] → then_flags ≡ flags ++ (n == 0) ∷ []
    → IsBlankTo blocks fact (n + 1) more next then_flags
blank_step blocks fact n block facts more edges next row flags then_flags h less is added made pushed flagged =
    let rest : drop n blocks ≡ block ∷ drop (n + 1) blocks = drop_at blocks n block less is in
    record {
      facts_are =
          ap (λ l. l ++ map (λ ty. fact) (results_in (drop (n + 1) blocks))) added
          ∙ assoc facts (map (λ ty. fact) (block_results block)) (map (λ ty. fact) (results_in (drop (n + 1) blocks)))
          ∙ ap (λ l. facts ++ l) (sym (map_append (λ ty. fact) (block_results block) (results_in (drop (n + 1) blocks))))
          ∙ sym (ap (λ bs. facts ++ map (λ ty. fact) (results_in bs)) rest) ∙ h.facts_are;
      edges_are =
          ap (λ l. l ++ map blank_edges (drop (n + 1) blocks)) pushed
          ∙ assoc edges (row ∷ []) (map blank_edges (drop (n + 1) blocks))
          ∙ ap (λ r. edges ++ (r ∷ map blank_edges (drop (n + 1) blocks))) made
          ∙ sym (ap (λ bs. edges ++ map blank_edges bs) rest) ∙ h.edges_are;
      long = omega (arith, ap length flagged, length-append flags ((n == 0) ∷ []), h.long);
      flags_are = λ place flag at. by place flag (sym (ap (λ l. slice_get l place) flagged) ∙ at);
    }
  where
    last : (k : ℕ) (flag b : Bool) → slice_get (b ∷ []) k ≡ Some flag → (k ≡ 0) × (b ≡ flag)
    last zero flag b h = (refl, some_is h)
    last (suc k) flag b h = absurd (none-some flag h)

    by : (place : ℕ) (flag : Bool) → slice_get (flags ++ (n == 0) ∷ []) place ≡ Some flag → flag ≡ (place == 0)
    by place flag at = elim (less_or place (length flags)) [
      | inl low ↦ h.flags_are place flag (sym (keeps flags place low) ∙ at)
      | inr e ↦
          let found = last e.0 flag (n == 0) (sym (slice_get-append_rest flags ((n == 0) ∷ []) e.0 place (omega (arith, e.1))) ∙ at) in
          let same : n ≡ place = omega (arith, e.1, found.0, h.long) in
          sym found.1 ∙ ap (λ m. m == 0) same
    ]
      where
        keeps : (l : List Bool) (k : ℕ) → k < length l → slice_get (l ++ (n == 0) ∷ []) k ≡ slice_get l k
        keeps [] k l = absurd (omega arith)
        keeps (x ∷ xs) zero l = refl
        keeps (x ∷ xs) (suc k) l = keeps xs k (omega arith)

-- one row of edges for each block so far
pub blank_rows : (blocks : List Block) (fact : Fact) (n : ℕ) (facts : List Fact) (edges : List (List Edge)) (flags : List Bool) → n ≤ length blocks → IsBlankTo blocks fact n facts edges flags → length edges ≡ n
blank_rows blocks fact n facts edges flags less h =
    omega (arith, less, ap length h.edges_are, length-append edges (map blank_edges (drop n blocks)), length-map (drop n blocks) blank_edges, length-map blocks blank_edges, length-drop n blocks)

pub blank_end : (blocks : List Block) (fact : Fact) (n : ℕ) (facts : List Fact) (edges : List (List Edge)) (flags : List Bool) → length blocks ≤ n → IsBlankTo blocks fact n facts edges flags → (record { facts = facts; edges = edges }) ≡ blank blocks fact
blank_end blocks fact n facts edges flags all h =
    let none : drop n blocks ≡ [] = drop_all n blocks all in
    ap (λ fs. record { facts = fs; edges = edges }) (none_left facts (λ bs. map (λ ty. fact) (results_in bs)) none refl ∙ h.facts_are)
    ∙ ap (λ es. record { facts = map (λ ty. fact) (results_in blocks); edges = es }) (none_left edges (map blank_edges) none refl ∙ h.edges_are)
  where
    right : {A : Type 0} (xs : List A) → xs ≡ xs ++ []
    right [] = refl
    right (x ∷ xs) = ap (λ l. x ∷ l) (right xs)

    none_left : {A : Type 0} (xs : List A) (f : List Block → List A) → drop n blocks ≡ [] → f [] ≡ [] → xs ≡ xs ++ f (drop n blocks)
    none_left xs f e z = right xs ∙ sym (ap (λ l. xs ++ l) z) ∙ sym (ap (λ bs. xs ++ f bs) e)

pub blank_flags : (blocks : List Block) (fact : Fact) (n : ℕ) (facts : List Fact) (edges : List (List Edge)) (flags : List Bool) → n ≡ length blocks → IsBlankTo blocks fact n facts edges flags → AreFlags (record { facts = facts; edges = edges }) flags
blank_flags blocks fact n facts edges flags all h =
    let is : (record { facts = facts; edges = edges }) ≡ blank blocks fact = blank_end blocks fact n facts edges flags (omega (arith, all)) h in
    subst (λ a. AreFlags a flags) (sym is) (omega (arith, h.long, all, length-map blocks blank_edges), λ place flag at. h.flags_are place flag at ∙ sym (reached place))
  where
    both : (x y : Bool) → (x ≡ true → y ≡ true) → (y ≡ true → x ≡ true) → x ≡ y
    both true y p q = sym (p refl)
    both false true p q = q refl
    both false false p q = refl

    first_is : (place : ℕ) → (place == 0) ≡ true → is_reached (blank blocks fact) place ≡ true
    first_is zero z = refl
    first_is (suc k) z = absurd (omega (arith, eqb-true (suc k) 0 z))

    reached : (place : ℕ) → is_reached (blank blocks fact) place ≡ (place == 0)
    reached place = both (is_reached (blank blocks fact) place) (place == 0)
        (λ r. elim (reached_by (blank blocks fact) place r) [
          | inl first ↦ subst (λ m. (m == 0) ≡ true) (sym first) refl
          | inr edge ↦ absurd (not_reached blocks fact edge.0 edge.1 place edge.2)
        ])
        (λ z. first_is place z)

drop_some : {A : Type 0} (xs : List A) (k : ℕ) (x : A) → slice_get xs k ≡ Some x → drop k xs ≡ x ∷ drop (k + 1) xs
drop_some [] k x h = absurd (none-some x h)
drop_some (y ∷ ys) zero x h = ap (λ z. z ∷ ys) (some_is h) ∙ ap (λ l. x ∷ l) (sym (whole ys))
  where
    whole : {A : Type 0} (l : List A) → drop 0 l ≡ l
    whole [] = refl
    whole (z ∷ zs) = refl
drop_some (y ∷ ys) (suc k) x h = let e : suc (k + 1) ≡ suc k + 1 = omega arith in drop_some ys k x h ∙ ap (λ n. x ∷ drop n (y ∷ ys)) e

-- the edges so far, with those of what is left
pub edges_next : (tos : List ℕ) (k to : ℕ) (edges next whole : List Edge) → slice_get tos k ≡ Some to → next ≡ edges ++ record { to = to; reached = false } ∷ []
    → edges ++ map (λ t. record { to = t; reached = false }) (drop k tos) ≡ whole → next ++ map (λ t. record { to = t; reached = false }) (drop (k + 1) tos) ≡ whole
edges_next tos k to edges next whole at pushed h =
    ap (λ l. l ++ map (λ t. record { to = t; reached = false }) (drop (k + 1) tos)) pushed
    ∙ assoc edges (record { to = to; reached = false } ∷ []) (map (λ t. record { to = t; reached = false }) (drop (k + 1) tos))
    ∙ sym (ap (λ l. edges ++ map (λ t. record { to = t; reached = false }) l) (drop_some tos k to at)) ∙ h
