-- What the bytes that a constant lays down name is there, where what it names is.
use Rattle.std.proofs.Common.{◌≡◌, ℕ, ◌+◌, ◌-◌, List, [], ◌∷◌, ◌++◌, map, sym, ap, subst, All}
use Rattle.std.specs.List.{flat_map}
use Rattle.std.proofs.lemmas.List.Elements.{All-nil, All-cons, All-head, All-tail, All-append, All-map, All-replicate}
use Rattle.ir_types.specs.declared.shape.Ty.{Ty, out-Ty}
use Rattle.ir_types.specs.declared.shape.Ty.TheOpen.{Ty-F}
use Rattle.ir_types.specs.Layout.{size, align, round_up}
use Rattle.ir_syntax.specs.declared.constant.Const.{Const, roll-Const}
use Rattle.ir_syntax.specs.declared.constant.Const.TheOpen.{Const-F}
use Rattle.ir_syntax.specs.declared.constant.Const.TheFolds.{map-Const, fold-roll-Const, ind-Const}
use Rattle.ir_syntax.specs.Named.{names, names_step}
use Rattle.ir_syntax.specs.InitialBytes.{InitialPart, Poison, Num, Of, little_endian, address_bytes, zeros, fields_from, parts_in, initial_step, initial_parts}
use Rattle.ir_syntax.specs.Programs.{ProgramData}
use Rattle.block_memory.specs.Starts.{name_of}
use Rattle.ir_steps.proofs.Fits.{Has, IsThere}
use Rattle.ir_steps.proofs.NamingConstants.{names_roll}

initial_roll : (x : Const-F Const) (ty : Ty) → initial_parts (roll-Const x) ty ≡ initial_step (map-Const Const (Ty → List InitialPart) initial_parts x) ty
unfolding initial_parts
initial_roll x ty = ap (λ f. f ty) (fold-roll-Const (Ty → List InitialPart) initial_step x)

-- ---- lists

All-front : {X : Type 0} (P : X → Type 0) (xs ys : List X) → All P (xs ++ ys) → All P xs
All-front P [] ys h = All-nil P
All-front P (x ∷ xs) ys h = All-cons P x xs (All-head P x (xs ++ ys) h) (All-front P xs ys (All-tail P x (xs ++ ys) h))

All-back : {X : Type 0} (P : X → Type 0) (xs ys : List X) → All P (xs ++ ys) → All P ys
All-back P [] ys h = h
All-back P (x ∷ xs) ys h = All-back P xs ys (All-tail P x (xs ++ ys) h)

-- ---- initial bytes

module _ (p : ProgramData) (home made : ℕ) where
  -- the place of the module is the name of a block
  abbrev pub HasName : ℕ → Type 0
  HasName place = Has (IsThere p made) (name_of p (record { «module» = home; item = place }))

  -- a byte that names no more than is there
  abbrev pub IsInitial : InitialPart → Type 0
  IsInitial Poison = Unit {0}
  IsInitial (Num byte) = Unit {0}
  IsInitial (Of place offset k) = HasName place

  abbrev LaysDown : Const → Type 0
  LaysDown c = All HasName (names c) → (ty : Ty) → All IsInitial (initial_parts c ty)

  abbrev Laid : Type 0
  Laid = (c : Const) × LaysDown c

  zeros_initial : (count : ℕ) → All IsInitial (zeros count)
  zeros_initial count = All-replicate IsInitial count (Num 0) tt

  numbers_initial : (bytes : List ℕ) → All IsInitial (map Num bytes)
  numbers_initial [] = All-nil IsInitial
  numbers_initial (byte ∷ bytes) = All-cons IsInitial (Num byte) (map Num bytes) tt (numbers_initial bytes)

  -- what the parts of an array or a struct name, in one list
  elements_initial : (element : Ty) (cs : List Laid) → All HasName (flat_map (λ part. part) (map names (map (λ (c : Laid). c.0) cs)))
      → All IsInitial (flat_map (λ part. part element) (map initial_parts (map (λ (c : Laid). c.0) cs)))
  elements_initial element [] named = All-nil IsInitial
  elements_initial element (c ∷ cs) named =
      All-append IsInitial (initial_parts c.0 element) (flat_map (λ part. part element) (map initial_parts (map (λ (x : Laid). x.0) cs)))
      (c.1 (All-front HasName (names c.0) _ named) element)
      (elements_initial element cs (All-back HasName (names c.0) _ named))

  fields_initial : (at end : ℕ) (fields : List Ty) (cs : List Laid) → All HasName (flat_map (λ part. part) (map names (map (λ (c : Laid). c.0) cs)))
      → All IsInitial (fields_from at end (map initial_parts (map (λ (c : Laid). c.0) cs)) fields)
  fields_initial at end fields [] named = zeros_initial (end - at)
  fields_initial at end [] (c ∷ cs) named = zeros_initial (end - at)
  fields_initial at end (ty ∷ tys) (c ∷ cs) named =
      let next = round_up at (align ty) + size ty in
      let rest = fields_from next end (map initial_parts (map (λ (x : Laid). x.0) cs)) tys in
      All-append IsInitial (zeros (round_up at (align ty) - at)) (initial_parts c.0 ty ++ rest) (zeros_initial (round_up at (align ty) - at))
      (All-append IsInitial (initial_parts c.0 ty) rest
      (c.1 (All-front HasName (names c.0) _ named) ty)
      (fields_initial next end tys cs (All-back HasName (names c.0) _ named)))

  parts_initial : (ty : Ty) (x : Ty-F Ty) (cs : List Laid) → All HasName (flat_map (λ part. part) (map names (map (λ (c : Laid). c.0) cs)))
      → All IsInitial (parts_in ty x (map initial_parts (map (λ (c : Laid). c.0) cs)))
  parts_initial ty (Ty-F.One scalar) cs named = All-nil IsInitial
  parts_initial ty (Ty-F.Array count element) cs named = elements_initial element cs named
  parts_initial ty (Ty-F.Struct fields) cs named = fields_initial 0 (size ty) fields cs named

  layer_initial : (y : Const-F Laid) → All HasName (names_step (map-Const Const (List ℕ) names (map-Const Laid Const (λ c. c.0) y)))
      → (ty : Ty) → All IsInitial (initial_step (map-Const Const (Ty → List InitialPart) initial_parts (map-Const Laid Const (λ c. c.0) y)) ty)
  layer_initial (Const-F.Int n) named ty = numbers_initial (little_endian (size ty) n)
  layer_initial Const-F.Null named ty = zeros_initial (size ty)
  layer_initial (Const-F.Addr place offset) named ty = All-map IsInitial (Of place offset) address_bytes (each_named address_bytes (All-head HasName place [] named))
    where
      each_named : (ks : List ℕ) → HasName place → All (λ k. IsInitial (Of place offset k)) ks
      each_named [] h = All-nil (λ k. IsInitial (Of place offset k))
      each_named (k ∷ ks) h = All-cons (λ j. IsInitial (Of place offset j)) k ks h (each_named ks h)
  layer_initial Const-F.Undef named ty = All-replicate IsInitial (size ty) Poison tt
  layer_initial Const-F.Poison named ty = All-replicate IsInitial (size ty) Poison tt
  layer_initial Const-F.Zero named ty = zeros_initial (size ty)
  layer_initial (Const-F.Text text) named ty = numbers_initial text
  layer_initial (Const-F.Many cs) named ty = parts_initial ty (out-Ty ty) cs named

  -- The bytes that a constant lays down name what it names.
  pub initial_fits : (c : Const) → LaysDown c
  initial_fits = ind-Const LaysDown (λ x y at. subst (λ z. LaysDown (roll-Const z)) at (λ named ty.
      let rolled = map-Const Laid Const (λ c. c.0) y in
      subst (All IsInitial) (sym (initial_roll rolled ty)) (layer_initial y (subst (All HasName) (names_roll rolled) named) ty)))
