-- Constants with new places of what they name: what they name, which types take them, and which numbers and names they are.
use Rattle.std.proofs.Common.{◌≡◌, ◌∙◌, ℕ, zero, suc, pos, negsuc, ℤ, ◌<◌, nat_lt, Bool, true, ◌&&◌, ◌==◌, List, [], ◌∷◌, ◌++◌, Some, length, map, refl, sym, ap, subst}
use Rattle.std.specs.Prelude.{flat_map, option_map}
use Rattle.std.specs.List.{list_all}
use Rattle.std.proofs.lemmas.Bool.{false≢true, and_parts, lt-ltb}
use Rattle.std.proofs.lemmas.List.{length-map}
use Rattle.ir_types.specs.declared.shape.Ty.{Ty, out-Ty}
use Rattle.ir_types.specs.declared.shape.Ty.TheOpen.{Ty-F}
use Rattle.ir_syntax.specs.declared.constant.Const.{Const, out-Const, roll-Const}
use Rattle.ir_syntax.specs.declared.constant.Const.TheVariants as const
use Rattle.ir_syntax.specs.declared.constant.Const.TheVariants.{outs-Int, outs-Null, outs-Addr, outs-Undef, outs-Poison, outs-Zero, outs-Text, outs-Many}
use Rattle.ir_syntax.specs.declared.constant.Const.TheOpen.{Const-F}
use Rattle.ir_syntax.specs.declared.constant.Const.TheFolds.{map-Const, fold-roll-Const, fold_out-Const, ind-Const}
use Rattle.ir_syntax.specs.Callees.{place_in}
use Rattle.ir_syntax.specs.Named.{names, names_step}
use Rattle.ir_syntax.specs.Suits.{suits, suits_step, takes_address, takes_parts, each_takes}
use Rattle.ir_syntax.specs.Typed.{number_in}
use Rattle.ir_syntax.proofs.NameLemmas.{names-Int, names-Null, names-Addr, names-Undef, names-Poison, names-Zero, names-Text, names-Many}
use Rattle.ir_syntax.proofs.SuitLemmas.{suits-Int, suits-Null, suits-Addr, suits-Undef, suits-Poison, suits-Zero, suits-Text, suits-Many}
use Rattle.residual_laws.proofs.Every.{Every, every_first, every_rest}
use Rattle.winnowed_form.specs.declared.named.Named.{Named}
use Rattle.winnowed_form.specs.declared.named.Named.TheVariants.{Own}
use Rattle.winnowed_form.specs.Bodies.{moved, moved_step}

-- ---- by the layer

moved_roll : (place : Named → ℕ) (x : Const-F Const) → moved place (roll-Const x) ≡ moved_step place (map-Const Const Const (moved place) x)
unfolding moved
moved_roll place x = fold-roll-Const Const (moved_step place) x

moved_out : (place : Named → ℕ) (c : Const) (x : Const-F Const) → out-Const c ≡ x → moved place c ≡ moved_step place (map-Const Const Const (moved place) x)
unfolding moved
moved_out place c x is = fold_out-Const Const (moved_step place) c ∙ ap (λ y. moved_step place (map-Const Const Const (moved place) y)) is

pub names_roll : (x : Const-F Const) → names (roll-Const x) ≡ names_step (map-Const Const (List ℕ) names x)
unfolding names
names_roll x = fold-roll-Const (List ℕ) names_step x

pub suits_roll : (items : ℕ) (x : Const-F Const) (ty : Ty) → suits items (roll-Const x) ty ≡ suits_step items (map-Const Const (Ty → Bool) (suits items) x) ty
unfolding suits
suits_roll items x ty = ap (λ f. f ty) (fold-roll-Const (Ty → Bool) (suits_step items) x)

-- ---- numbers and names

pub number_moved : (place : Named → ℕ) (c : Const) → number_in (out-Const (moved place c)) ≡ number_in (out-Const c)
number_moved place c = by (out-Const c) refl
  where
    by : (x : Const-F Const) → out-Const c ≡ x → number_in (out-Const (moved place c)) ≡ number_in (out-Const c)
    by (Const-F.Int n) e = ap (λ d. number_in (out-Const d)) (moved_out place c (Const-F.Int n) e) ∙ ap number_in (outs-Int n) ∙ sym (ap number_in e)
    by Const-F.Null e = ap (λ d. number_in (out-Const d)) (moved_out place c Const-F.Null e) ∙ ap number_in outs-Null ∙ sym (ap number_in e)
    by (Const-F.Addr k offset) e = ap (λ d. number_in (out-Const d)) (moved_out place c (Const-F.Addr k offset) e) ∙ ap number_in (outs-Addr (place (Own k)) offset) ∙ sym (ap number_in e)
    by Const-F.Undef e = ap (λ d. number_in (out-Const d)) (moved_out place c Const-F.Undef e) ∙ ap number_in outs-Undef ∙ sym (ap number_in e)
    by Const-F.Poison e = ap (λ d. number_in (out-Const d)) (moved_out place c Const-F.Poison e) ∙ ap number_in outs-Poison ∙ sym (ap number_in e)
    by Const-F.Zero e = ap (λ d. number_in (out-Const d)) (moved_out place c Const-F.Zero e) ∙ ap number_in outs-Zero ∙ sym (ap number_in e)
    by (Const-F.Text bytes) e = ap (λ d. number_in (out-Const d)) (moved_out place c (Const-F.Text bytes) e) ∙ ap number_in (outs-Text bytes) ∙ sym (ap number_in e)
    by (Const-F.Many parts) e = ap (λ d. number_in (out-Const d)) (moved_out place c (Const-F.Many parts) e) ∙ ap number_in (outs-Many (map (moved place) parts)) ∙ sym (ap number_in e)

address_place : (k : ℕ) (offset : ℤ) → (g : ℕ → ℕ) → place_in (Const-F.Addr (g k) offset) ≡ option_map g (place_in (Const-F.Addr k offset))
address_place k (pos zero) g = refl
address_place k (pos (suc n)) g = refl
address_place k (negsuc n) g = refl

-- The name that a constant is becomes the name of the new place.
pub place_moved : (place : Named → ℕ) (c : Const) → place_in (out-Const (moved place c)) ≡ option_map (λ k. place (Own k)) (place_in (out-Const c))
place_moved place c = by (out-Const c) refl
  where
    g : ℕ → ℕ
    g k = place (Own k)

    by : (x : Const-F Const) → out-Const c ≡ x → place_in (out-Const (moved place c)) ≡ option_map g (place_in (out-Const c))
    by (Const-F.Int n) e = ap (λ d. place_in (out-Const d)) (moved_out place c (Const-F.Int n) e) ∙ ap place_in (outs-Int n) ∙ sym (ap (λ x. option_map g (place_in x)) e)
    by Const-F.Null e = ap (λ d. place_in (out-Const d)) (moved_out place c Const-F.Null e) ∙ ap place_in outs-Null ∙ sym (ap (λ x. option_map g (place_in x)) e)
    by (Const-F.Addr k offset) e = ap (λ d. place_in (out-Const d)) (moved_out place c (Const-F.Addr k offset) e) ∙ ap place_in (outs-Addr (place (Own k)) offset) ∙ address_place k offset g ∙ sym (ap (λ x. option_map g (place_in x)) e)
    by Const-F.Undef e = ap (λ d. place_in (out-Const d)) (moved_out place c Const-F.Undef e) ∙ ap place_in outs-Undef ∙ sym (ap (λ x. option_map g (place_in x)) e)
    by Const-F.Poison e = ap (λ d. place_in (out-Const d)) (moved_out place c Const-F.Poison e) ∙ ap place_in outs-Poison ∙ sym (ap (λ x. option_map g (place_in x)) e)
    by Const-F.Zero e = ap (λ d. place_in (out-Const d)) (moved_out place c Const-F.Zero e) ∙ ap place_in outs-Zero ∙ sym (ap (λ x. option_map g (place_in x)) e)
    by (Const-F.Text bytes) e = ap (λ d. place_in (out-Const d)) (moved_out place c (Const-F.Text bytes) e) ∙ ap place_in (outs-Text bytes) ∙ sym (ap (λ x. option_map g (place_in x)) e)
    by (Const-F.Many parts) e = ap (λ d. place_in (out-Const d)) (moved_out place c (Const-F.Many parts) e) ∙ ap place_in (outs-Many (map (moved place) parts)) ∙ sym (ap (λ x. option_map g (place_in x)) e)

-- a constant that is a number names nothing
pub number_names : (c : Const) (n : ℕ) → number_in (out-Const c) ≡ Some n → names c ≡ []
unfolding names
number_names c n is = by (out-Const c) refl
  where
    by : (x : Const-F Const) → out-Const c ≡ x → names c ≡ []
    by (Const-F.Int m) e = fold_out-Const (List ℕ) names_step c ∙ ap (λ y. names_step (map-Const Const (List ℕ) names y)) e
    by Const-F.Null e = cc
    by (Const-F.Addr k offset) e = cc
    by Const-F.Undef e = cc
    by Const-F.Poison e = cc
    by Const-F.Zero e = cc
    by (Const-F.Text bytes) e = cc
    by (Const-F.Many parts) e = cc

-- a constant that is a name names its item alone
pub place_names : (c : Const) (k : ℕ) → place_in (out-Const c) ≡ Some k → names c ≡ k ∷ []
unfolding names
place_names c k is = by (out-Const c) refl
  where
    at : (j : ℕ) (offset : ℤ) → place_in (Const-F.Addr j offset) ≡ Some k → j ≡ k
    at j (pos zero) e = cc
    at j (pos (suc n)) e = cc
    at j (negsuc n) e = cc

    by : (x : Const-F Const) → out-Const c ≡ x → names c ≡ k ∷ []
    by (Const-F.Int m) e = cc
    by Const-F.Null e = cc
    by (Const-F.Addr j offset) e =
        fold_out-Const (List ℕ) names_step c ∙ ap (λ y. names_step (map-Const Const (List ℕ) names y)) e ∙ ap (λ m. m ∷ []) (at j offset (sym (ap place_in e) ∙ is))
    by Const-F.Undef e = cc
    by Const-F.Poison e = cc
    by Const-F.Zero e = cc
    by (Const-F.Text bytes) e = cc
    by (Const-F.Many parts) e = cc

-- ---- what moved constants name

map_append : {A B : Type 0} (g : A → B) (xs ys : List A) → map g (xs ++ ys) ≡ map g xs ++ map g ys
map_append g [] ys = refl
map_append g (x ∷ xs) ys = ap (λ l. g x ∷ l) (map_append g xs ys)

module _ (place : Named → ℕ) where
  abbrev own : ℕ → ℕ
  own k = place (Own k)

  abbrev NamesMove : Const → Type 0
  NamesMove c = names (moved place c) ≡ map own (names c)

  abbrev Moves : Type 0
  Moves = (c : Const) × NamesMove c

  parts_move : (cs : List Moves) → flat_map names (map (moved place) (map (λ (c : Moves). c.0) cs)) ≡ map own (flat_map (λ part. part) (map names (map (λ (c : Moves). c.0) cs)))
  parts_move [] = refl
  parts_move (c ∷ cs) =
      ap (λ l. l ++ flat_map names (map (moved place) (map (λ (x : Moves). x.0) cs))) c.1
      ∙ ap (λ l. map own (names c.0) ++ l) (parts_move cs)
      ∙ sym (map_append own (names c.0) (flat_map (λ part. part) (map names (map (λ (x : Moves). x.0) cs))))

  layer_moves : (y : Const-F Moves)
      → names (moved_step place (map-Const Const Const (moved place) (map-Const Moves Const (λ c. c.0) y))) ≡ map own (names_step (map-Const Const (List ℕ) names (map-Const Moves Const (λ c. c.0) y)))
  layer_moves (Const-F.Int n) = names-Int n
  layer_moves Const-F.Null = names-Null
  layer_moves (Const-F.Addr k offset) = names-Addr (place (Own k)) offset
  layer_moves Const-F.Undef = names-Undef
  layer_moves Const-F.Poison = names-Poison
  layer_moves Const-F.Zero = names-Zero
  layer_moves (Const-F.Text bytes) = names-Text bytes
  layer_moves (Const-F.Many cs) = names-Many (map (moved place) (map (λ (c : Moves). c.0) cs)) ∙ parts_move cs

  -- What a moved constant names are the new places of what the constant names.
  pub names_moved : (c : Const) → NamesMove c
  names_moved = ind-Const NamesMove (λ x y made. subst (λ z. NamesMove (roll-Const z)) made
      (ap names (moved_roll place (map-Const Moves Const (λ c. c.0) y)) ∙ layer_moves y ∙ sym (ap (map own) (names_roll (map-Const Moves Const (λ c. c.0) y)))))

-- ---- which types take them

module _ (place : Named → ℕ) (before after : ℕ) where
  abbrev Placed : ℕ → Type 0
  Placed k = place (Own k) < after

  abbrev StaysFit : Const → Type 0
  StaysFit c = (ty : Ty) → Every Placed (names c) → suits before c ty ≡ true → suits after (moved place c) ty ≡ true

  abbrev Stays : Type 0
  Stays = (c : Const) × StaysFit c

  abbrev bare : List Stays → List Const
  bare cs = map (λ (c : Stays). c.0) cs

  elements_stay : (element : Ty) (cs : List Stays) → Every Placed (flat_map (λ part. part) (map names (bare cs))) → list_all (λ part. part element) (map (suits before) (bare cs)) ≡ true
      → list_all (λ part. part element) (map (suits after) (map (moved place) (bare cs))) ≡ true
  elements_stay element [] placed fit = refl
  elements_stay element (c ∷ cs) placed fit =
      let both = and_parts (suits before c.0 element) (list_all (λ part. part element) (map (suits before) (bare cs))) fit in
      let rest = flat_map (λ part. part) (map names (bare cs)) in
      ap (λ b. b && list_all (λ part. part element) (map (suits after) (map (moved place) (bare cs)))) (c.1 element (every_first Placed (names c.0) rest placed) both.0)
      ∙ elements_stay element cs (every_rest Placed (names c.0) rest placed) both.1

  fields_stay : (fields : List Ty) (cs : List Stays) → Every Placed (flat_map (λ part. part) (map names (bare cs))) → each_takes (map (suits before) (bare cs)) fields ≡ true
      → each_takes (map (suits after) (map (moved place) (bare cs))) fields ≡ true
  fields_stay [] [] placed fit = refl
  fields_stay (ty ∷ tys) [] placed fit = fit
  fields_stay [] (c ∷ cs) placed fit = absurd (false≢true fit)
  fields_stay (ty ∷ tys) (c ∷ cs) placed fit =
      let both = and_parts (suits before c.0 ty) (each_takes (map (suits before) (bare cs)) tys) fit in
      let rest = flat_map (λ part. part) (map names (bare cs)) in
      ap (λ b. b && each_takes (map (suits after) (map (moved place) (bare cs))) tys) (c.1 ty (every_first Placed (names c.0) rest placed) both.0)
      ∙ fields_stay tys cs (every_rest Placed (names c.0) rest placed) both.1

  parts_stay : (x : Ty-F Ty) (cs : List Stays) → Every Placed (flat_map (λ part. part) (map names (bare cs))) → takes_parts x (map (suits before) (bare cs)) ≡ true
      → takes_parts x (map (suits after) (map (moved place) (bare cs))) ≡ true
  parts_stay (Ty-F.One scalar) cs placed fit = absurd (false≢true fit)
  parts_stay (Ty-F.Array count element) cs placed fit =
      let both = and_parts (length (map (suits before) (bare cs)) == count) (list_all (λ part. part element) (map (suits before) (bare cs))) fit in
      let long : length (map (suits after) (map (moved place) (bare cs))) ≡ length (map (suits before) (bare cs)) =
      length-map (map (moved place) (bare cs)) (suits after) ∙ length-map (bare cs) (moved place) ∙ sym (length-map (bare cs) (suits before)) in
      ap (λ b. b && list_all (λ part. part element) (map (suits after) (map (moved place) (bare cs)))) (ap (λ n. n == count) long ∙ both.0) ∙ elements_stay element cs placed both.1
  parts_stay (Ty-F.Struct fields) cs placed fit = fields_stay fields cs placed fit

  layer_stays : (y : Const-F Stays) (ty : Ty) → Every Placed (names_step (map-Const Const (List ℕ) names (map-Const Stays Const (λ c. c.0) y)))
      → suits_step before (map-Const Const (Ty → Bool) (suits before) (map-Const Stays Const (λ c. c.0) y)) ty ≡ true
      → suits after (moved_step place (map-Const Const Const (moved place) (map-Const Stays Const (λ c. c.0) y))) ty ≡ true
  layer_stays (Const-F.Int n) ty placed fit = suits-Int after n ty ∙ fit
  layer_stays Const-F.Null ty placed fit = suits-Null after ty ∙ fit
  layer_stays (Const-F.Addr k offset) ty placed fit =
      let both = and_parts (takes_address (out-Ty ty)) (nat_lt k before) fit in
      suits-Addr after (place (Own k)) offset ty ∙ ap (λ b. b && nat_lt (place (Own k)) after) both.0 ∙ less (place (Own k)) after placed.0
    where
      less : (m n : ℕ) → m < n → nat_lt m n ≡ true
      less m n h = lt-ltb m n h
  layer_stays Const-F.Undef ty placed fit = suits-Undef after ty
  layer_stays Const-F.Poison ty placed fit = suits-Poison after ty
  layer_stays Const-F.Zero ty placed fit = suits-Zero after ty ∙ fit
  layer_stays (Const-F.Text bytes) ty placed fit = suits-Text after bytes ty ∙ fit
  layer_stays (Const-F.Many cs) ty placed fit = suits-Many after (map (moved place) (bare cs)) ty ∙ parts_stay (out-Ty ty) cs placed fit

  -- A type that takes a constant takes the moved one, where each new place is an item's.
  pub suits_moved : (c : Const) → StaysFit c
  suits_moved = ind-Const StaysFit (λ x y made. subst (λ z. StaysFit (roll-Const z)) made (λ ty placed fit.
      let rolled = map-Const Stays Const (λ c. c.0) y in
      ap (λ d. suits after d ty) (moved_roll place rolled) ∙ layer_stays y ty (subst (Every Placed) (names_roll rolled) placed) (sym (suits_roll before rolled ty) ∙ fit)))

-- ---- numbers stay

pub int_moved : (place : Named → ℕ) (n : ℕ) → moved place (const.Int n) ≡ const.Int n
int_moved place n = moved_out place (const.Int n) (Const-F.Int n) (outs-Int n)
