-- What a constant names is in range where a type takes it.
use Rattle.std.proofs.Common.{◌≡◌, ◌∙◌, ℕ, ◌<◌, nat_lt, Bool, true, ◌==◌, List, [], ◌∷◌, length, map, sym, ap, subst, All}
use Rattle.std.specs.List.{flat_map, list_all}
use Rattle.std.proofs.lemmas.Bool.{false≢true, and_parts, ltb-true}
use Rattle.std.proofs.lemmas.List.Elements.{All-nil, All-cons, All-append}
use Rattle.ir_types.specs.declared.shape.Ty.{Ty, out-Ty}
use Rattle.ir_types.specs.declared.shape.Ty.TheOpen.{Ty-F}
use Rattle.ir_syntax.specs.declared.constant.Const.{Const, roll-Const}
use Rattle.ir_syntax.specs.declared.constant.Const.TheOpen.{Const-F}
use Rattle.ir_syntax.specs.declared.constant.Const.TheFolds.{map-Const, fold-roll-Const, ind-Const}
use Rattle.ir_syntax.specs.Suits.{suits, suits_step, takes_address, takes_parts, each_takes}
use Rattle.ir_syntax.specs.Named.{names, names_step}

-- ---- by the layer

suits_roll : (items : ℕ) (x : Const-F Const) (ty : Ty) → suits items (roll-Const x) ty ≡ suits_step items (map-Const Const (Ty → Bool) (suits items) x) ty
unfolding suits
suits_roll items x ty = ap (λ f. f ty) (fold-roll-Const (Ty → Bool) (suits_step items) x)

pub names_roll : (x : Const-F Const) → names (roll-Const x) ≡ names_step (map-Const Const (List ℕ) names x)
unfolding names
names_roll x = fold-roll-Const (List ℕ) names_step x

-- ---- names in range

module _ (items : ℕ) where
  abbrev Within : ℕ → Type 0
  Within place = place < items

  abbrev NamesWithin : Const → Type 0
  NamesWithin c = (ty : Ty) → suits items c ty ≡ true → All Within (names c)

  abbrev Named : Type 0
  Named = (c : Const) × NamesWithin c

  elements_within : (element : Ty) (cs : List Named) → list_all (λ part. part element) (map (suits items) (map (λ (c : Named). c.0) cs)) ≡ true → All Within (flat_map (λ part. part) (map names (map (λ (c : Named). c.0) cs)))
  elements_within element [] fit = All-nil Within
  elements_within element (c ∷ cs) fit =
      let both = and_parts (suits items c.0 element) (list_all (λ part. part element) (map (suits items) (map (λ (x : Named). x.0) cs))) fit in
      All-append Within (names c.0) (flat_map (λ part. part) (map names (map (λ (x : Named). x.0) cs))) (c.1 element both.0) (elements_within element cs both.1)

  fields_within : (fields : List Ty) (cs : List Named) → each_takes (map (suits items) (map (λ (c : Named). c.0) cs)) fields ≡ true → All Within (flat_map (λ part. part) (map names (map (λ (c : Named). c.0) cs)))
  fields_within fields [] fit = All-nil Within
  fields_within [] (c ∷ cs) fit = absurd (false≢true fit)
  fields_within (ty ∷ tys) (c ∷ cs) fit =
      let both = and_parts (suits items c.0 ty) (each_takes (map (suits items) (map (λ (x : Named). x.0) cs)) tys) fit in
      All-append Within (names c.0) (flat_map (λ part. part) (map names (map (λ (x : Named). x.0) cs))) (c.1 ty both.0) (fields_within tys cs both.1)

  parts_within : (x : Ty-F Ty) (cs : List Named) → takes_parts x (map (suits items) (map (λ (c : Named). c.0) cs)) ≡ true → All Within (flat_map (λ part. part) (map names (map (λ (c : Named). c.0) cs)))
  parts_within (Ty-F.One scalar) cs fit = absurd (false≢true fit)
  parts_within (Ty-F.Array count element) cs fit =
      elements_within element cs (and_parts (length (map (suits items) (map (λ (c : Named). c.0) cs)) == count) (list_all (λ part. part element) (map (suits items) (map (λ (c : Named). c.0) cs))) fit).1
  parts_within (Ty-F.Struct fields) cs fit = fields_within fields cs fit

  layer_within : (y : Const-F Named) (ty : Ty) → suits_step items (map-Const Const (Ty → Bool) (suits items) (map-Const Named Const (λ c. c.0) y)) ty ≡ true
      → All Within (names_step (map-Const Const (List ℕ) names (map-Const Named Const (λ c. c.0) y)))
  layer_within (Const-F.Int n) ty fit = All-nil Within
  layer_within Const-F.Null ty fit = All-nil Within
  layer_within (Const-F.Addr place offset) ty fit = All-cons Within place [] (ltb-true place items (and_parts (takes_address (out-Ty ty)) (nat_lt place items) fit).1) (All-nil Within)
  layer_within Const-F.Undef ty fit = All-nil Within
  layer_within Const-F.Poison ty fit = All-nil Within
  layer_within Const-F.Zero ty fit = All-nil Within
  layer_within (Const-F.Text bytes) ty fit = All-nil Within
  layer_within (Const-F.Many cs) ty fit = parts_within (out-Ty ty) cs fit

  -- What a constant names is in range, where a type takes it.
  pub names_within : (c : Const) → NamesWithin c
  names_within = ind-Const NamesWithin (λ x y made. subst (λ z. NamesWithin (roll-Const z)) made (λ ty fit.
      let rolled = map-Const Named Const (λ c. c.0) y in
      subst (All Within) (sym (names_roll rolled)) (layer_within y ty (sym (suits_roll items rolled ty) ∙ fit))))
