-- Types that are written are read again.
use Rattle.std.proofs.Common.{◌≡◌, ◌∙◌, ℕ, zero, suc, ◌+◌, ◌^◌, ◌<◌, ◌≤◌, Bool, true, cond, ◌&&◌, nat_lt, List, [], ◌∷◌, ◌++◌, length, map, sum, Option, Some, None, option_map, refl, sym, ap, subst, arith, append_assoc, length-append}
use Rattle.std.specs.Prelude.{All}
use Rattle.std.specs.Fmt.{decimal}
use Rattle.std.specs.List.{list_all}
use Rattle.std.proofs.lemmas.Bool.{and_parts, cond-true, lt-ltb, ltb-true}
use Rattle.std.proofs.lemmas.List.Elements.{All-cons}
use Rattle.std.proofs.lemmas.List.Sums.{sum_by-cons}
use Rattle.ir_types.specs.declared.scalar.Scalar.{Scalar}
use Rattle.ir_types.specs.declared.shape.Ty.{Ty, out-Ty}
use Rattle.ir_types.specs.declared.shape.Ty.TheOpen.{Ty-F}
use Rattle.ir_types.specs.declared.shape.Ty.TheBlock.{One}
use Rattle.ir_types.specs.declared.shape.Ty.TheViews.{Array, Struct, roll-Ty}
use Rattle.ir_types.specs.declared.shape.Ty.TheVariants.{rolls-One, rolls-Array, rolls-Struct}
use Rattle.ir_types.specs.declared.shape.Ty.TheFolds.{map-Ty, fold-roll-Ty, fold_out-Ty, ind-Ty}
use Rattle.ir_types.specs.Nesting.{greatest, nesting, nodes}
use Rattle.ir_types.proofs.Nestings.{nesting-Array, nesting-Struct, nodes-Array, nodes-Struct}
use Rattle.ir_syntax.specs.Suits.{IsType}
use Rattle.ir_grammar.specs.declared.shape.Shape.{Shape}
use Rattle.ir_grammar.specs.declared.shape.Shape.TheVariants as is
use Rattle.ir_scope.specs.Runs.{behind, begins_with}
use Rattle.ir_scope.specs.Types.{fitting, type_at, written_type, is_close_brace, begins_field}
use Rattle.ir_scope.proofs.Typing.{fitting-is}
use Rattle.ir_writer.specs.Ranges.{is_type_in_range, type_in_range}
use Rattle.round_trip.proofs.Tokens.Digits.{number_back}
use Rattle.round_trip.proofs.Grammar.Kept.{Lexemes, joined, open_square_kept, open_brace_kept, close_brace_kept, scalar_kept, digits_kept, type_kept, type_kept_step}
use Rattle.round_trip.proofs.Constants.Runs.{IsReadBack, closed_runs_back}

-- ---- what is kept of each form of type

pub type_kept-One : (s : Scalar) → type_kept (One s) ≡ scalar_kept s ∷ []
unfolding type_kept
type_kept-One s = ap type_kept (sym (rolls-One s)) ∙ fold-roll-Ty Lexemes type_kept_step (Ty-F.One s)

pub type_kept-Array : (n : ℕ) (t : Ty) → type_kept (Array n t) ≡ open_square_kept ∷ digits_kept (decimal n) ∷ type_kept t
unfolding type_kept
type_kept-Array n t = ap type_kept (sym (rolls-Array n t)) ∙ fold-roll-Ty Lexemes type_kept_step (Ty-F.Array n t)

pub type_kept-Struct : (ts : List Ty) → type_kept (Struct ts) ≡ open_brace_kept ∷ (joined (map type_kept ts) ++ close_brace_kept ∷ [])
unfolding type_kept
type_kept-Struct ts = ap type_kept (sym (rolls-Struct ts)) ∙ fold-roll-Ty Lexemes type_kept_step (Ty-F.Struct ts)

-- A type begins with the name of a scalar or with an opening bracket or brace.
pub type_begins : (test : Shape → Bool) → ((s : Scalar) → test (is.Scalar s) ≡ true) → test is.OpenSquare ≡ true → test is.OpenBrace ≡ true → (ty : Ty) → begins_with test (type_kept ty) ≡ true
unfolding type_kept
type_begins test scalar square brace ty = ap (begins_with test) (fold_out-Ty Lexemes type_kept_step ty) ∙ by_shape (map-Ty Ty Lexemes type_kept (out-Ty ty))
  where
    by_shape : (x : Ty-F Lexemes) → begins_with test (type_kept_step x) ≡ true
    by_shape (Ty-F.One s) = scalar s
    by_shape (Ty-F.Array n element) = square
    by_shape (Ty-F.Struct fields) = brace

-- ---- which forms are in range

pub in_range-Array : (n : ℕ) (t : Ty) → is_type_in_range (Array n t) ≡ (nat_lt n (2 ^ 64) && is_type_in_range t)
unfolding is_type_in_range
in_range-Array n t = ap is_type_in_range (sym (rolls-Array n t)) ∙ fold-roll-Ty Bool type_in_range (Ty-F.Array n t)

pub in_range-Struct : (ts : List Ty) → is_type_in_range (Struct ts) ≡ list_all (λ b. b) (map is_type_in_range ts)
unfolding is_type_in_range
in_range-Struct ts = ap is_type_in_range (sym (rolls-Struct ts)) ∙ fold-roll-Ty Bool type_in_range (Ty-F.Struct ts)

-- the elements of an array have a type too
pub element_type : (n : ℕ) (t : Ty) → IsType (Array n t) → IsType t
element_type n t h = record { nests = omega (arith, h.nests, nesting-Array n t); has_nodes = omega (arith, h.has_nodes, nodes-Array n t) }

-- ---- types are read again

module _ (look : List ℕ → Option Ty) where
  abbrev IsBack : Ty → Type 0
  IsBack ty = (depth : ℕ) → nesting ty ≤ depth → IsType ty → is_type_in_range ty ≡ true → (rest : Lexemes) → type_at look depth (type_kept ty ++ rest) ≡ Some (ty, length (type_kept ty))

  -- a type with a proof of it
  abbrev Shown : Type 0
  Shown = (t : Ty) × IsBack t

  scalar_at : (s : Scalar) (depth : ℕ) (rest : Lexemes) → type_at look depth (scalar_kept s ∷ rest) ≡ Some (One s, 1)
  scalar_at s zero rest = refl
  scalar_at s (suc depth) rest = refl

  one_back : (s : Scalar) → IsBack (One s)
  one_back s depth deep h within rest = subst (λ ks. type_at look depth (ks ++ rest) ≡ Some (One s, length ks)) (sym (type_kept-One s)) (scalar_at s depth rest)

  abbrev array_by : ℕ → Option (Ty × ℕ) → Option (Ty × ℕ)
  array_by n found = cond (nat_lt n (2 ^ 64)) (fitting (behind 2 (option_map (λ f. (Array n f.0, f.1)) found))) None

  array_at : (n : ℕ) (t : Ty) (depth : ℕ) (rest : Lexemes) → IsType (Array n t) → n < 2 ^ 64 → type_at look depth (type_kept t ++ rest) ≡ Some (t, length (type_kept t)) →
      type_at look (suc depth) (open_square_kept ∷ digits_kept (decimal n) ∷ (type_kept t ++ rest)) ≡ Some (Array n t, 2 + length (type_kept t))
  array_at n t depth rest h small here =
      ap (λ k. array_by k (type_at look depth (type_kept t ++ rest))) (number_back n small)
      ∙ ap (array_by n) here
      ∙ cond-true (nat_lt n (2 ^ 64)) _ None (lt-ltb n (2 ^ 64) small)
      ∙ fitting-is (Array n t) (2 + length (type_kept t)) h.nests h.has_nodes

  array_back : (n : ℕ) (t : Ty) → IsBack t → IsBack (Array n t)
  array_back n t back zero deep h within rest = absurd (omega (arith, deep, nesting-Array n t))
  array_back n t back (suc depth) deep h within rest =
      let both = and_parts (nat_lt n (2 ^ 64)) (is_type_in_range t) (sym (in_range-Array n t) ∙ within) in
      let here = back depth (omega (arith, deep, nesting-Array n t)) (element_type n t h) both.1 rest in
      let count : 2 + length (type_kept t) ≡ suc (suc (length (type_kept t))) = omega arith in
      subst (λ ks. type_at look (suc depth) (ks ++ rest) ≡ Some (Array n t, length ks)) (sym (type_kept-Array n t))
      (array_at n t depth rest h (ltb-true n (2 ^ 64) both.0) here ∙ ap (λ k. Some (Array n t, k)) count)

  abbrev IsField : ℕ → Ty → Type 0
  IsField depth t = IsReadBack begins_field (type_at look depth) t (type_kept t)

  fields_back : (fs : List Shown) (depth : ℕ) → greatest (map nesting (map (λ f. f.0) fs)) ≤ depth → greatest (map nesting (map (λ f. f.0) fs)) ≤ 64 → sum (map nodes (map (λ f. f.0) fs)) ≤ 4096 →
      list_all (λ b. b) (map is_type_in_range (map (λ f. f.0) fs)) ≡ true → All (IsField depth) (map (λ f. f.0) fs)
  fields_back [] depth deep nests few within = λ k d lt. absurd (omega (arith, lt))
  fields_back (f ∷ fs) depth deep nests few within =
      let ts : List Ty = map (λ (g : Shown). g.0) fs in
      let count = sum_by-cons (λ n. n) (nodes f.0) (map nodes ts) in
      let both = and_parts (is_type_in_range f.0) (list_all (λ b. b) (map is_type_in_range ts)) within in
      All-cons (IsField depth) f.0 ts
      (record { starts = type_begins begins_field (λ s. refl) refl refl f.0; back = λ rest. f.1 depth (omega (arith, deep)) (record { nests = omega (arith, nests); has_nodes = omega (arith, few, count) }) both.0 rest })
      (fields_back fs depth (omega (arith, deep)) (omega (arith, nests)) (omega (arith, few, count)) both.1)

  abbrev struct_by : Option (List Ty × ℕ) → Option (Ty × ℕ)
  struct_by found = fitting (behind 1 (option_map (λ f. (Struct f.0, f.1)) found))

  struct_at : (ts : List Ty) (depth : ℕ) (rest : Lexemes) → IsType (Struct ts) → All (IsField depth) ts →
      type_at look (suc depth) (open_brace_kept ∷ (joined (map type_kept ts) ++ close_brace_kept ∷ rest)) ≡ Some (Struct ts, 1 + (length (joined (map type_kept ts)) + 1))
  struct_at ts depth rest h all =
      ap struct_by (closed_runs_back begins_field (type_at look depth) type_kept is_close_brace ts (close_brace_kept ∷ rest) all refl refl)
      ∙ fitting-is (Struct ts) (1 + (length (joined (map type_kept ts)) + 1)) h.nests h.has_nodes

  struct_back : (fs : List Shown) → IsBack (Struct (map (λ f. f.0) fs))
  struct_back fs zero deep h within rest = absurd (omega (arith, deep, nesting-Struct (map (λ (f : Shown). f.0) fs)))
  struct_back fs (suc depth) deep h within rest =
      let ts : List Ty = map (λ (f : Shown). f.0) fs in
      let all = fields_back fs depth (omega (arith, deep, nesting-Struct ts)) (omega (arith, h.nests, nesting-Struct ts)) (omega (arith, h.has_nodes, nodes-Struct ts)) (sym (in_range-Struct ts) ∙ within) in
      let count : 1 + (length (joined (map type_kept ts)) + 1) ≡ suc (length (joined (map type_kept ts) ++ close_brace_kept ∷ [])) = omega (arith, length-append (joined (map type_kept ts)) (close_brace_kept ∷ [])) in
      subst (λ ks. type_at look (suc depth) (ks ++ rest) ≡ Some (Struct ts, length ks)) (sym (type_kept-Struct ts))
      (ap (λ ks. type_at look (suc depth) (open_brace_kept ∷ ks)) (append_assoc (joined (map type_kept ts)) (close_brace_kept ∷ []) rest)
      ∙ struct_at ts depth rest h all ∙ ap (λ k. Some (Struct ts, k)) count)

  layer_back : (y : Ty-F Shown) → IsBack (roll-Ty (map-Ty Shown Ty (λ f. f.0) y))
  layer_back (Ty-F.One s) = subst IsBack (sym (rolls-One s)) (one_back s)
  layer_back (Ty-F.Array n f) = subst IsBack (sym (rolls-Array n f.0)) (array_back n f.0 f.1)
  layer_back (Ty-F.Struct fs) = subst IsBack (sym (rolls-Struct (map (λ (f : Shown). f.0) fs))) (struct_back fs)

  all_back : (ty : Ty) → IsBack ty
  all_back = ind-Ty IsBack (λ x y made. subst (λ z. IsBack (roll-Ty z)) made (layer_back y))

-- A type is read again, with so many lexemes as were written.
pub type_back : (look : List ℕ → Option Ty) (ty : Ty) (rest : Lexemes) → IsType ty → is_type_in_range ty ≡ true → written_type look (type_kept ty ++ rest) ≡ Some (ty, length (type_kept ty))
type_back look ty rest h within = all_back look ty 64 h.nests h within rest
