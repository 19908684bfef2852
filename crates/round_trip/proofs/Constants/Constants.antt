-- Constants that are written are read again.
use Rattle.std.proofs.Common.{◌≡◌, ◌≢◌, ◌∙◌, ℕ, zero, suc, ◌+◌, ◌^◌, ◌≤◌, Bool, true, cond, not, ◌==◌, nat_eq, nat_lt, List, [], ◌∷◌, ◌++◌, length, map, sum, drop, Option, Some, None, option_map, option_and_then, refl, sym, ap, subst, arith, append_assoc, length-append}
use Rattle.std.specs.Prelude.{All, AllPairs}
use Rattle.std.specs.List.{list_all}
use Rattle.std.proofs.Math.Seq.{drop-append_seam}
use Rattle.std.proofs.lemmas.Bool.{false≢true, and_parts, cond-true, eqb-true, eq-eqb, ltb-true}
use Rattle.std.proofs.lemmas.List.{length-map}
use Rattle.std.proofs.lemmas.Simd.{map-map}
use Rattle.std.proofs.lemmas.List.Elements.{All-cons}
use Rattle.std.proofs.lemmas.List.Sums.{sum_by-cons}
use Rattle.ir_types.specs.declared.shape.Ty.{Ty, out-Ty}
use Rattle.ir_types.specs.declared.shape.Ty.TheOpen.{Ty-F}
use Rattle.ir_types.specs.declared.shape.Ty.TheViews.{Array, Struct, roll-Ty, roll-out-Ty}
use Rattle.ir_types.specs.declared.shape.Ty.TheVariants.{rolls-Array, rolls-Struct}
use Rattle.ir_types.specs.Nesting.{greatest, nesting, nodes}
use Rattle.ir_types.proofs.Nestings.{nesting-Array, nesting-Struct, nodes-Struct}
use Rattle.ir_types.specs.Names.{IsName}
use Rattle.ir_syntax.specs.declared.constant.Const.{Const}
use Rattle.ir_syntax.specs.declared.constant.Const.TheOpen.{Const-F}
use Rattle.ir_syntax.specs.declared.constant.Const.TheBlock as const
use Rattle.ir_syntax.specs.declared.constant.Const.TheViews.{Many, roll-Const}
use Rattle.ir_syntax.specs.declared.constant.Const.TheVariants.{rolls-Int, rolls-Null, rolls-Addr, rolls-Undef, rolls-Poison, rolls-Zero, rolls-Text, rolls-Many}
use Rattle.ir_syntax.specs.declared.constant.Const.TheFolds.{map-Const, ind-Const}
use Rattle.ir_syntax.specs.Suits.{IsType, Suits, suits, takes_address, takes_parts, each_takes}
use Rattle.ir_syntax.proofs.SuitLemmas.{suits-Int, suits-Null, suits-Addr, suits-Zero, suits-Text, suits-Many}
use Rattle.ir_grammar.specs.declared.shape.Shape.{Shape}
use Rattle.ir_grammar.specs.Tokens.{Kept}
use Rattle.ir_scope.specs.Runs.{behind, runs, closed_by}
use Rattle.ir_scope.specs.Scopes.{Env}
use Rattle.ir_scope.specs.Types.{same_type, is_close_brace}
use Rattle.ir_scope.proofs.Equal.{same_itself}
use Rattle.ir_constants.specs.Constants.{is_close_square, part_at, parts_at, counted, elements_at, fields_at, constant_within, constant_at}
use Rattle.ir_writer.specs.Ranges.{AreBytes, is_type_in_range, is_constant_in_range}
use Rattle.round_trip.proofs.Grammar.Kept.{Lexemes, joined, open_square_kept, close_square_kept, open_brace_kept, close_brace_kept, type_kept, part_kept, fields_kept, many_kept, constant_kept}
use Rattle.round_trip.proofs.Constants.Runs.{IsReadBack, begins_on, closed_back, closed_runs_back}
use Rattle.round_trip.proofs.Constants.Types.{type_begins, type_back, in_range-Array, in_range-Struct, element_type}
use Rattle.round_trip.proofs.Constants.Forms.{constant_kept-Int, constant_kept-Null, constant_kept-Addr, constant_kept-Undef, constant_kept-Poison, constant_kept-Zero, constant_kept-Text, constant_kept-Many, in_range-Addr, in_range-Text, in_range-Many}
use Rattle.round_trip.proofs.Constants.Singles.{IsReadAt, int_back, null_back, undef_back, poison_back, zero_back, text_back, addr_back}

-- ---- types by their layers

array_is : (ty : Ty) (count : ℕ) (element : Ty) → out-Ty ty ≡ Ty-F.Array count element → ty ≡ Array count element
array_is ty count element made = sym (roll-out-Ty ty) ∙ ap roll-Ty made ∙ rolls-Array count element

struct_is : (ty : Ty) (fields : List Ty) → out-Ty ty ≡ Ty-F.Struct fields → ty ≡ Struct fields
struct_is ty fields made = sym (roll-out-Ty ty) ∙ ap roll-Ty made ∙ rolls-Struct fields

-- whatever isn't a closing bracket
abbrev begins_element : Shape → Bool
begins_element shape = not (is_close_square shape)

-- What a type has where it is written: so many arrays and structs may be open.
record Fits (depth : ℕ) (ty : Ty) : Type 0 where
  nests : nesting ty ≤ depth
  type : IsType ty
  within : is_type_in_range ty ≡ true

element_fits : (depth : ℕ) (ty : Ty) (count : ℕ) (element : Ty) → out-Ty ty ≡ Ty-F.Array count element → Fits (suc depth) ty → Fits depth element
element_fits depth ty count element made h =
    let own : ty ≡ Array count element = array_is ty count element made in
    let nests : nesting (Array count element) ≤ suc depth = subst (λ t. nesting t ≤ suc depth) own h.nests in
    let within : is_type_in_range (Array count element) ≡ true = ap is_type_in_range (sym own) ∙ h.within in
    record {
      nests = omega (arith, nests, nesting-Array count element);
      type = element_type count element (subst IsType own h.type);
      within = (and_parts (nat_lt count (2 ^ 64)) (is_type_in_range element) (sym (in_range-Array count element) ∙ within)).1;
    }

data FieldsFit (depth : ℕ) : List Ty → Type 0 where
  none : FieldsFit depth []
  more : {ty : Ty} {tys : List Ty} → Fits depth ty → FieldsFit depth tys → FieldsFit depth (ty ∷ tys)

fields_fit : (depth : ℕ) (tys : List Ty) → greatest (map nesting tys) ≤ depth → greatest (map nesting tys) ≤ 64 → sum (map nodes tys) ≤ 4096 → list_all (λ b. b) (map is_type_in_range tys) ≡ true → FieldsFit depth tys
fields_fit depth [] deep nests few within = none
fields_fit depth (ty ∷ tys) deep nests few within =
    let count = sum_by-cons (λ n. n) (nodes ty) (map nodes tys) in
    let both = and_parts (is_type_in_range ty) (list_all (λ b. b) (map is_type_in_range tys)) within in
    more (record { nests = omega (arith, deep); type = record { nests = omega (arith, nests); has_nodes = omega (arith, few, count) }; within = both.0 })
    (fields_fit depth tys (omega (arith, deep)) (omega (arith, nests)) (omega (arith, few, count)) both.1)

struct_fits : (depth : ℕ) (ty : Ty) (fields : List Ty) → out-Ty ty ≡ Ty-F.Struct fields → Fits (suc depth) ty → FieldsFit depth fields
struct_fits depth ty fields made h =
    let own : ty ≡ Struct fields = struct_is ty fields made in
    let nests : nesting (Struct fields) ≤ suc depth = subst (λ t. nesting t ≤ suc depth) own h.nests in
    let written : IsType (Struct fields) = subst IsType own h.type in
    let within : is_type_in_range (Struct fields) ≡ true = ap is_type_in_range (sym own) ∙ h.within in
    fields_fit depth fields (omega (arith, nests, nesting-Struct fields)) (omega (arith, written.nests, nesting-Struct fields)) (omega (arith, written.has_nodes, nodes-Struct fields)) (sym (in_range-Struct fields) ∙ within)

module _ (env : Env) (distinct : AllPairs (λ a b. a ≢ b) env.symbols) (named : All IsName env.symbols) (bytes : All AreBytes env.symbols) where
  abbrev kept : Const → Ty → Lexemes
  kept = constant_kept env.symbols

  abbrev IsBack : Const → Type 0
  IsBack c = (ty : Ty) (depth : ℕ) → Fits depth ty → suits (length env.symbols) c ty ≡ true → is_constant_in_range c ≡ true → IsReadAt env depth ty c (kept c ty)

  -- a constant with a proof of it
  abbrev Shown : Type 0
  Shown = (c : Const) × IsBack c

  -- ---- a part: its type, and then the constant

  abbrev then_constant : ℕ → Ty → Lexemes → Option (Ty × ℕ) → Option (Const × ℕ)
  then_constant depth ty ks found = option_and_then (λ t. cond (same_type ty t.0) (behind t.1 (constant_within env depth ty (drop t.1 ks))) None) found

  part_back : (depth : ℕ) (ty : Ty) (c : Const) → Fits depth ty → IsReadAt env depth ty c (kept c ty) → (rest : Lexemes) →
      part_at env (constant_within env depth) ty (part_kept (kept c) ty ++ rest) ≡ Some (c, length (part_kept (kept c) ty))
  part_back depth ty c h back rest =
      let behind_it : Lexemes = kept c ty ++ rest in
      ap (part_at env (constant_within env depth) ty) (append_assoc (type_kept ty) (kept c ty) rest)
      ∙ ap (then_constant depth ty (type_kept ty ++ behind_it)) (type_back env.types ty behind_it h.type h.within)
      ∙ cond-true (same_type ty ty) _ None (same_itself ty)
      ∙ ap (λ ks. behind (length (type_kept ty)) (constant_within env depth ty ks)) (drop-append_seam (type_kept ty) behind_it)
      ∙ ap (behind (length (type_kept ty))) (back rest)
      ∙ ap (λ n. Some (c, n)) (sym (length-append (type_kept ty) (kept c ty)))

  -- ---- arrays

  abbrev IsElement : ℕ → Ty → Const → Type 0
  IsElement depth ty c = IsReadBack begins_element (part_at env (constant_within env depth) ty) c (part_kept (kept c) ty)

  elements_back : (depth : ℕ) (ty : Ty) → Fits depth ty → (fs : List Shown) → list_all (λ part. part ty) (map (suits (length env.symbols)) (map (λ f. f.0) fs)) ≡ true → list_all (λ b. b) (map is_constant_in_range (map (λ f. f.0) fs)) ≡ true →
      All (IsElement depth ty) (map (λ f. f.0) fs)
  elements_back depth ty h [] fit within = λ k d lt. absurd (omega (arith, lt))
  elements_back depth ty h (f ∷ fs) fit within =
      let cs : List Const = map (λ (g : Shown). g.0) fs in
      let suited = and_parts (suits (length env.symbols) f.0 ty) (list_all (λ part. part ty) (map (suits (length env.symbols)) cs)) fit in
      let ranged = and_parts (is_constant_in_range f.0) (list_all (λ b. b) (map is_constant_in_range cs)) within in
      All-cons (IsElement depth ty) f.0 cs
      (record { starts = begins_on begins_element (type_kept ty) (kept f.0 ty) (type_begins begins_element (λ s. refl) refl refl ty); back = part_back depth ty f.0 h (f.1 ty depth h suited.0 ranged.0) })
      (elements_back depth ty h fs suited.1 ranged.1)

  -- ---- structs

  abbrev and_more : ℕ → List Ty → Lexemes → Option (Const × ℕ) → Option (List Const × ℕ)
  and_more depth tys ks found = option_and_then (λ f. option_map (λ rest. (f.0 ∷ rest.0, f.1 + rest.1)) (parts_at env (constant_within env depth) tys (drop f.1 ks))) found

  fields_back : (depth : ℕ) (fs : List Shown) (tys : List Ty) → FieldsFit depth tys → each_takes (map (suits (length env.symbols)) (map (λ f. f.0) fs)) tys ≡ true → list_all (λ b. b) (map is_constant_in_range (map (λ f. f.0) fs)) ≡ true → (rest : Lexemes) →
      parts_at env (constant_within env depth) tys (joined (fields_kept (map kept (map (λ f. f.0) fs)) tys) ++ rest) ≡ Some (map (λ f. f.0) fs, length (joined (fields_kept (map kept (map (λ f. f.0) fs)) tys)))
  fields_back depth [] [] h fit within rest = refl
  fields_back depth [] (ty ∷ tys) h fit within rest = absurd (false≢true fit)
  fields_back depth (f ∷ fs) [] h fit within rest = absurd (false≢true fit)
  fields_back depth (f ∷ fs) (ty ∷ tys) (more first others) fit within rest =
      let cs : List Const = map (λ (g : Shown). g.0) fs in
      let suited = and_parts (suits (length env.symbols) f.0 ty) (each_takes (map (suits (length env.symbols)) cs) tys) fit in
      let ranged = and_parts (is_constant_in_range f.0) (list_all (λ b. b) (map is_constant_in_range cs)) within in
      let own : Lexemes = part_kept (kept f.0) ty in
      let later : Lexemes = joined (fields_kept (map kept cs) tys) in
      ap (parts_at env (constant_within env depth) (ty ∷ tys)) (append_assoc own later rest)
      ∙ ap (and_more depth tys (own ++ (later ++ rest))) (part_back depth ty f.0 first (f.1 ty depth first suited.0 ranged.0) (later ++ rest))
      ∙ ap (λ ks. option_map (λ (g : List Const × ℕ). (f.0 ∷ g.0, length own + g.1)) (parts_at env (constant_within env depth) tys ks)) (drop-append_seam own (later ++ rest))
      ∙ ap (option_map (λ (g : List Const × ℕ). (f.0 ∷ g.0, length own + g.1))) (fields_back depth fs tys others suited.1 ranged.1 rest)
      ∙ ap (λ n. Some (f.0 ∷ cs, n)) (sym (length-append own later))

  -- ---- constants of parts

  abbrev elements_kept : Ty → List Const → Lexemes
  elements_kept element cs = joined (map (λ part. part_kept part element) (map kept cs))

  abbrev counted_by : ℕ → Option (List Const × ℕ) → Option (Const × ℕ)
  counted_by count found = behind 1 (counted count found)

  array_read : (depth count : ℕ) (element : Ty) (cs : List Const) (rest : Lexemes) → All (IsElement depth element) cs → length cs ≡ count →
      behind 1 (counted count (closed_by is_close_square (elements_kept element cs ++ close_square_kept ∷ rest) (runs begins_element (part_at env (constant_within env depth) element) (elements_kept element cs ++ close_square_kept ∷ rest))))
      ≡ Some (Many cs, 1 + (length (elements_kept element cs) + 1))
  array_read depth count element cs rest all many =
      subst (λ lists. behind 1 (counted count (closed_by is_close_square (joined lists ++ close_square_kept ∷ rest) (runs begins_element (part_at env (constant_within env depth) element) (joined lists ++ close_square_kept ∷ rest))))
      ≡ Some (Many cs, 1 + (length (joined lists) + 1))) (sym (map-map (λ part. part_kept part element) kept cs))
      (ap (counted_by count) (closed_runs_back begins_element (part_at env (constant_within env depth) element) (λ c. part_kept (kept c) element) is_close_square cs (close_square_kept ∷ rest) all refl refl)
      ∙ ap (behind 1) (cond-true (nat_eq (length cs) count) _ None (eq-eqb (length cs) count many)))

  abbrev elements_by : ℕ → Lexemes → Ty-F Ty → Option (Const × ℕ)
  elements_by depth ks x = behind 1 (elements_at env (constant_within env depth) x ks)

  abbrev fields_by : ℕ → Lexemes → Ty-F Ty → Option (Const × ℕ)
  fields_by depth ks x = behind 1 (fields_at env (constant_within env depth) x ks)

  -- a list and one more in front and behind
  ends_count : (ks : Lexemes) (k l : Kept) → 1 + (length ks + 1) ≡ length (k ∷ (ks ++ l ∷ []))
  ends_count ks k l = omega (arith, length-append ks (l ∷ []))

  many_back : (fs : List Shown) (ty : Ty) (x : Ty-F Ty) → out-Ty ty ≡ x → (depth : ℕ) → Fits depth ty → takes_parts x (map (suits (length env.symbols)) (map (λ f. f.0) fs)) ≡ true → list_all (λ b. b) (map is_constant_in_range (map (λ f. f.0) fs)) ≡ true →
      IsReadAt env depth ty (Many (map (λ f. f.0) fs)) (many_kept x (map kept (map (λ f. f.0) fs)))
  many_back fs ty (Ty-F.One s) made depth h fit within rest = absurd (false≢true fit)
  many_back fs ty (Ty-F.Array count element) made zero h fit within rest =
      let nests : nesting (Array count element) ≤ 0 = subst (λ t. nesting t ≤ 0) (array_is ty count element made) h.nests in
      absurd (omega (arith, nests, nesting-Array count element))
  many_back fs ty (Ty-F.Struct fields) made zero h fit within rest =
      let nests : nesting (Struct fields) ≤ 0 = subst (λ t. nesting t ≤ 0) (struct_is ty fields made) h.nests in
      absurd (omega (arith, nests, nesting-Struct fields))
  many_back fs ty (Ty-F.Array count element) made (suc depth) h fit within rest =
      let cs : List Const = map (λ (g : Shown). g.0) fs in
      let both = and_parts (length (map (suits (length env.symbols)) cs) == count) (list_all (λ part. part element) (map (suits (length env.symbols)) cs)) fit in
      let many : length cs ≡ count = sym (length-map cs (suits (length env.symbols))) ∙ eqb-true (length (map (suits (length env.symbols)) cs)) count both.0 in
      let all = elements_back depth element (element_fits depth ty count element made h) fs both.1 within in
      ap (λ ks. constant_within env (suc depth) ty (open_square_kept ∷ ks)) (append_assoc (elements_kept element cs) (close_square_kept ∷ []) rest)
      ∙ ap (elements_by depth (elements_kept element cs ++ close_square_kept ∷ rest)) made
      ∙ array_read depth count element cs rest all many
      ∙ ap (λ n. Some (Many cs, n)) (ends_count (elements_kept element cs) open_square_kept close_square_kept)
  many_back fs ty (Ty-F.Struct fields) made (suc depth) h fit within rest =
      let cs : List Const = map (λ (g : Shown). g.0) fs in
      let own : Lexemes = joined (fields_kept (map kept cs) fields) in
      let behind_it : Lexemes = close_brace_kept ∷ rest in
      ap (λ ks. constant_within env (suc depth) ty (open_brace_kept ∷ ks)) (append_assoc own (close_brace_kept ∷ []) rest)
      ∙ ap (fields_by depth (own ++ behind_it)) made
      ∙ ap (λ found. behind 1 (option_map (λ (g : List Const × ℕ). (Many g.0, g.1)) (closed_by is_close_brace (own ++ behind_it) found))) (fields_back depth fs fields (struct_fits depth ty fields made h) fit within behind_it)
      ∙ ap (λ found. behind 1 (option_map (λ (g : List Const × ℕ). (Many g.0, g.1)) found)) (closed_back is_close_brace own behind_it cs refl)
      ∙ ap (λ n. Some (Many cs, n)) (ends_count own open_brace_kept close_brace_kept)

  -- ---- all constants

  abbrev back_as : Const → Ty → ℕ → Lexemes → Type 0
  back_as c ty depth ks = IsReadAt env depth ty c ks

  layer_back : (y : Const-F Shown) → IsBack (roll-Const (map-Const Shown Const (λ f. f.0) y))
  layer_back (Const-F.Int n) = subst IsBack (sym (rolls-Int n)) (λ ty depth h fit within.
      subst (back_as (const.Int n) ty depth) (sym (constant_kept-Int env.symbols n ty)) (int_back env depth n ty (out-Ty ty) refl (sym (suits-Int (length env.symbols) n ty) ∙ fit)))
  layer_back Const-F.Null = subst IsBack (sym rolls-Null) (λ ty depth h fit within.
      subst (back_as const.Null ty depth) (sym (constant_kept-Null env.symbols ty)) (null_back env depth ty (sym (suits-Null (length env.symbols) ty) ∙ fit)))
  layer_back (Const-F.Addr place offset) = subst IsBack (sym (rolls-Addr place offset)) (λ ty depth h fit within.
      let both = and_parts (takes_address (out-Ty ty)) (nat_lt place (length env.symbols)) (sym (suits-Addr (length env.symbols) place offset ty) ∙ fit) in
      subst (back_as (const.Addr place offset) ty depth) (sym (constant_kept-Addr env.symbols place offset ty))
      (addr_back env distinct named bytes offset depth place ty (sym (in_range-Addr place offset) ∙ within) (ltb-true place (length env.symbols) both.1) both.0))
  layer_back Const-F.Undef = subst IsBack (sym rolls-Undef) (λ ty depth h fit within.
      subst (back_as const.Undef ty depth) (sym (constant_kept-Undef env.symbols ty)) (undef_back env depth ty))
  layer_back Const-F.Poison = subst IsBack (sym rolls-Poison) (λ ty depth h fit within.
      subst (back_as const.Poison ty depth) (sym (constant_kept-Poison env.symbols ty)) (poison_back env depth ty))
  layer_back Const-F.Zero = subst IsBack (sym rolls-Zero) (λ ty depth h fit within.
      subst (back_as const.Zero ty depth) (sym (constant_kept-Zero env.symbols ty)) (zero_back env depth ty (sym (suits-Zero (length env.symbols) ty) ∙ fit)))
  layer_back (Const-F.Text text) = subst IsBack (sym (rolls-Text text)) (λ ty depth h fit within.
      subst (back_as (const.Text text) ty depth) (sym (constant_kept-Text env.symbols text ty)) (text_back env depth text ty (sym (in_range-Text text) ∙ within) (sym (suits-Text (length env.symbols) text ty) ∙ fit)))
  layer_back (Const-F.Many fs) = subst IsBack (sym (rolls-Many (map (λ (f : Shown). f.0) fs))) (λ ty depth h fit within.
      let cs : List Const = map (λ (f : Shown). f.0) fs in
      subst (back_as (Many cs) ty depth) (sym (constant_kept-Many env.symbols cs ty))
      (many_back fs ty (out-Ty ty) refl depth h (sym (suits-Many (length env.symbols) cs ty) ∙ fit) (sym (in_range-Many cs) ∙ within)))

  all_back : (c : Const) → IsBack c
  all_back = ind-Const IsBack (λ x y made. subst (λ z. IsBack (roll-Const z)) made (layer_back y))

-- A constant is read again at its type, with so many lexemes as were written.
pub constant_back : (env : Env) (c : Const) (ty : Ty) (rest : Lexemes) → AllPairs (λ a b. a ≢ b) env.symbols → All IsName env.symbols → All AreBytes env.symbols → Suits (length env.symbols) ty c → IsType ty → is_type_in_range ty ≡ true → is_constant_in_range c ≡ true →
    constant_at env ty (constant_kept env.symbols c ty ++ rest) ≡ Some (c, length (constant_kept env.symbols c ty))
constant_back env c ty rest distinct named bytes fit h ranged within = all_back env distinct named bytes c ty 64 (record { nests = h.nests; type = h; within = ranged }) fit within rest
