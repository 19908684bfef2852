-- The walk of a `getelementptr` in one pass is that of the definition.
use Rattle.std.proofs.Common.{◌≡◌, ◌∙◌, ◌≤◌, ◌-◌, get_or, drop, take, arith, ℕ, ◌<◌, ℤ, pos, ◌+ℤ◌, zero, List, [], ◌∷◌, length, map, Option, Some, None, refl, sym, ap, subst, slice_get, IsSome, option_and_then, option_map, Bool}
use Rattle.std.proofs.lemmas.Option.{slice_get_within}
use Rattle.ir_types.specs.declared.scalar.Scalar.{Scalar}
use Rattle.ir_types.specs.declared.shape.Ty.{Ty}
use Rattle.ir_types.specs.declared.shape.Stride.{Stride}
use Rattle.ir_types.specs.declared.shape.Stride.TheVariants.{Each}
use Rattle.ir_types.specs.Layout.{size}
use Rattle.ir_types.specs.Walk.{part, stride, strides, strides_within}
use Rattle.ir_syntax.specs.declared.symbol.Sym.{Sym}
use Rattle.ir_syntax.specs.declared.constant.Operand.{Operand}
use Rattle.ir_syntax.specs.IndexWalks.{index_of}
use Rattle.ir_syntax.specs.Programs.{ProgramData}
use Rattle.int_ops.specs.declared.cause.Cause.{Cause}
use Rattle.block_memory.specs.declared.value.Name.{Name}
use Rattle.block_memory.specs.declared.value.Name.TheVariants as name
use Rattle.block_memory.specs.declared.value.Val.{Val}
use Rattle.block_memory.specs.declared.value.Val.TheVariants as val
use Rattle.block_memory.specs.Answers.{Answer, Gives, Undefined, Stuck, IsMeant, and_then, or_stuck}
use Rattle.block_memory.specs.Blocks.{Live, MemoryBlock, MemoryData, var_at, block_at, IsNamed}
use Rattle.block_memory.specs.Comparisons.{Extent, extent, extent_of}
use Rattle.ir_steps.specs.States.{Frame}
use Rattle.ir_steps.specs.Operands.{value_in, value, values}
use Rattle.ir_steps.specs.Pointers.{wrapped, moves, moves_all, added, moved_by, moved}
use Rattle.ir_steps.specs.Reading.{index_types, index_operands, gep}
use Rattle.ir_meaning.specs.Mirrors.Walking.{moved_at, moved_within, moved_along, wrapped_option, sum_of}
use Rattle.ir_meaning.proofs.Meaning.{first}
use Rattle.ir_meaning.proofs.Wrapped.{sum_first, sum_shift, moved_wrapped}
use Rattle.std.proofs.Math.Seq.{take-length}

-- ---- a block that has an extent is named

mapped : {A B : Type 0} (F : A → B) (o : Option A) → IsSome (option_map F o) → IsSome o
mapped F None some = absurd (cc)
mapped F (Some x) some = refl

within : {A : Type 0} (xs : List A) (k : ℕ) (o : Option A) → slice_get xs k ≡ o → IsSome o → k < length xs
within xs k None is some = absurd (cc)
within xs k (Some x) is some = slice_get_within xs k x is

extent_is_named : (mem : MemoryData) (of : Name Sym) → IsSome (extent mem of) → IsNamed mem of
extent_is_named mem (name.Var symbol) some = mapped Live (var_at mem symbol) (mapped extent_of (block_at mem (name.Var symbol)) some)
extent_is_named mem (name.Func symbol) some = tt
extent_is_named mem (name.Made number) some = within mem.made number (slice_get mem.made number) refl (mapped extent_of (block_at mem (name.Made number)) some)

pub is_named : (mem : MemoryData) (of : Name Sym) (F : Extent → Answer (Val Sym)) → IsMeant (and_then F (or_stuck (extent mem of))) → IsNamed mem of
is_named mem of F meant = extent_is_named mem of (there (extent mem of) meant) where
  there : (o : Option Extent) → IsMeant (and_then F (or_stuck o)) → IsSome o
  there None meant = absurd meant
  there (Some x) meant = refl

-- ---- values have no cause

never : (p : ProgramData) (f : Frame) (list : List Operand) (cause : Cause) → values p f list ≡ Undefined cause → ⊥
never p f [] cause is = cc
never p f (a ∷ more) cause is = head (value_in p f a) (values p f more) (never p f more cause) is where
  tail : (x : Val Sym) (rest : Answer (List (Val Sym))) → (rest ≡ Undefined cause → ⊥) → and_then (λ xs. Gives (x ∷ xs)) rest ≡ Undefined cause → ⊥
  tail x (Gives xs) deny is = cc
  tail x (Undefined other) deny is = let same : other ≡ cause = cc in deny (ap Undefined same)
  tail x Stuck deny is = cc

  head : (o : Option (Val Sym)) (rest : Answer (List (Val Sym))) → (rest ≡ Undefined cause → ⊥) → and_then (λ x. and_then (λ xs. Gives (x ∷ xs)) rest) (or_stuck o) ≡ Undefined cause → ⊥
  head None rest deny is = cc
  head (Some x) rest deny is = tail x rest deny is

-- ---- one pass

abbrev apart : ProgramData → Frame → Option (List Stride) → List (Scalar × Operand) → Answer (Option ℤ)
apart p f ss indices = and_then (λ xs. and_then (λ ss. moves_all (index_types indices) xs ss) (or_stuck ss)) (values p f (index_operands indices))

abbrev joined : List Scalar → Answer (List (Val Sym)) → Option (List Stride) → Answer (Option ℤ)
joined tys V T = and_then (λ xs. and_then (λ ss. moves_all tys xs ss) (or_stuck T)) V

-- the first of several
one_more : (ty : Scalar) (tys : List Scalar) (o : Option (Val Sym)) (V : Answer (List (Val Sym))) (T : Option (List Stride)) (st : Stride) (M : Answer (Option ℤ))
    → ((cause : Cause) → V ≡ Undefined cause → ⊥) → (IsMeant (joined tys V T) → joined tys V T ≡ M)
    → IsMeant (joined (ty ∷ tys) (and_then (λ x. and_then (λ xs. Gives (x ∷ xs)) V) (or_stuck o)) (option_map (λ ss. st ∷ ss) T))
    → joined (ty ∷ tys) (and_then (λ x. and_then (λ xs. Gives (x ∷ xs)) V) (or_stuck o)) (option_map (λ ss. st ∷ ss) T) ≡ and_then (λ one. and_then (λ rest. Gives (added one rest)) M) (and_then (λ x. moves ty x st) (or_stuck o))
one_more ty tys None V T st M deny same meant = absurd meant
one_more ty tys (Some x) (Undefined cause) T st M deny same meant = absurd (deny cause refl)
one_more ty tys (Some x) Stuck T st M deny same meant = absurd meant
one_more ty tys (Some x) (Gives xs) None st M deny same meant = absurd meant
one_more ty tys (Some x) (Gives xs) (Some ss) st M deny same meant = by (moves ty x st) meant where
  by : (N : Answer (Option ℤ)) → IsMeant (and_then (λ one. and_then (λ rest. Gives (added one rest)) (moves_all tys xs ss)) N)
      → and_then (λ one. and_then (λ rest. Gives (added one rest)) (moves_all tys xs ss)) N ≡ and_then (λ one. and_then (λ rest. Gives (added one rest)) M) N
  by (Gives one) meant = ap (and_then (λ rest. Gives (added one rest))) (same (first (λ rest. Gives (added one rest)) (moves_all tys xs ss) meant))
  by (Undefined cause) meant = refl
  by Stuck meant = absurd meant

-- within a type
within_is : (p : ProgramData) (f : Frame) (ty : Ty) (indices : List (Scalar × Operand)) → IsMeant (apart p f (strides_within ty (map index_of indices)) indices) → apart p f (strides_within ty (map index_of indices)) indices ≡ moved_within p f ty indices
within_is p f ty [] meant = refl
within_is p f ty (index ∷ more) meant =
    entered (stride ty (index_of index)) (part ty (index_of index)) (λ inner. within_is p f inner more) meant
  where
    shaped : (o : Option (Val Sym)) (st : Stride) (M : Answer (Option ℤ)) → and_then (λ one. and_then (λ rest. Gives (added one rest)) M) (and_then (λ x. moves index.0 x st) (or_stuck o)) ≡ and_then (λ one. and_then (λ rest. Gives (added one rest)) M) (and_then (λ x. and_then (moves index.0 x) (Gives st)) (or_stuck o))
    shaped o st M = refl

    none_stuck : (o : Option (Val Sym)) (V : Answer (List (Val Sym))) → IsMeant (joined (index.0 ∷ index_types more) (and_then (λ x. and_then (λ xs. Gives (x ∷ xs)) V) (or_stuck o)) None) → ((cause : Cause) → V ≡ Undefined cause → ⊥) → ⊥
    none_stuck None V meant deny = meant
    none_stuck (Some x) (Gives xs) meant deny = meant
    none_stuck (Some x) (Undefined cause) meant deny = deny cause refl
    none_stuck (Some x) Stuck meant deny = meant

    entered : (s : Option Stride) (q : Option Ty) → ((inner : Ty) → IsMeant (apart p f (strides_within inner (map index_of more)) more) → apart p f (strides_within inner (map index_of more)) more ≡ moved_within p f inner more)
        → IsMeant (apart p f (option_and_then (λ here. option_and_then (λ inner. option_map (λ rest. here ∷ rest) (strides_within inner (map index_of more))) q) s) (index ∷ more))
        → apart p f (option_and_then (λ here. option_and_then (λ inner. option_map (λ rest. here ∷ rest) (strides_within inner (map index_of more))) q) s) (index ∷ more)
        ≡ and_then (λ one. and_then (λ inner. and_then (λ rest. Gives (added one rest)) (moved_within p f inner more)) (or_stuck q)) (and_then (λ x. and_then (moves index.0 x) (or_stuck s)) (value p f index.1))
    entered None q ih meant = absurd (none_stuck (value_in p f index.1) (values p f (index_operands more)) meant (never p f (index_operands more)))
    entered (Some st) None ih meant = absurd (none_stuck (value_in p f index.1) (values p f (index_operands more)) meant (never p f (index_operands more)))
    entered (Some st) (Some inner) ih meant =
        one_more index.0 (index_types more) (value_in p f index.1) (values p f (index_operands more)) (strides_within inner (map index_of more)) st (moved_within p f inner more) (never p f (index_operands more)) (ih inner) meant

along_is : (p : ProgramData) (f : Frame) (ty : Ty) (indices : List (Scalar × Operand)) → IsMeant (apart p f (strides ty (map index_of indices)) indices) → apart p f (strides ty (map index_of indices)) indices ≡ moved_along p f ty indices
along_is p f ty [] meant = refl
along_is p f ty (index ∷ more) meant =
    one_more index.0 (index_types more) (value_in p f index.1) (values p f (index_operands more)) (strides_within ty (map index_of more)) (Each (size ty)) (moved_within p f ty more) (never p f (index_operands more)) (within_is p f ty more) meant

-- what is done with both lists, and then with the sum
moved_behind : (G : Option ℤ → Answer (Val Sym)) (tys : List Scalar) (V : Answer (List (Val Sym))) (T : Option (List Stride))
    → and_then (λ xs. and_then (λ ss. and_then G (moves_all tys xs ss)) (or_stuck T)) V ≡ and_then G (joined tys V T)
moved_behind G tys (Gives xs) None = refl
moved_behind G tys (Gives xs) (Some ss) = refl
moved_behind G tys (Undefined cause) T = refl
moved_behind G tys Stuck T = refl

pub gep_is : (p : ProgramData) (f : Frame) (mem : MemoryData) (inbounds : Bool) (ty : Ty) (indices : List (Scalar × Operand)) (base : Val Sym) → IsMeant (gep p f mem inbounds ty indices base) → gep p f mem inbounds ty indices base ≡ and_then (moved mem inbounds base) (moved_along p f ty indices)
gep_is p f mem inbounds ty indices base meant =
    let both = moved_behind (moved mem inbounds base) (index_types indices) (values p f (index_operands indices)) (strides ty (map index_of indices)) in
    let meant_both = first (moved mem inbounds base) (apart p f (strides ty (map index_of indices)) indices) (subst IsMeant both meant) in
    both ∙ ap (and_then (moved mem inbounds base)) (along_is p f ty indices meant_both)

pub along_is_meant : (p : ProgramData) (f : Frame) (mem : MemoryData) (inbounds : Bool) (ty : Ty) (indices : List (Scalar × Operand)) (base : Val Sym) → IsMeant (gep p f mem inbounds ty indices base) → IsMeant (moved_along p f ty indices)
along_is_meant p f mem inbounds ty indices base meant = first (moved mem inbounds base) (moved_along p f ty indices) (subst IsMeant (gep_is p f mem inbounds ty indices base meant) meant)

-- what the sum that wraps leads to
pub gep_sums : (p : ProgramData) (f : Frame) (mem : MemoryData) (inbounds : Bool) (ty : Ty) (indices : List (Scalar × Operand)) (base : Val Sym) (by : ℤ) → IsMeant (gep p f mem inbounds ty indices base)
    → and_then (λ z. Gives (wrapped_option z)) (moved_along p f ty indices) ≡ Gives (Some by) → gep p f mem inbounds ty indices base ≡ moved_by mem inbounds base by
gep_sums p f mem inbounds ty indices base by meant is = gep_is p f mem inbounds ty indices base meant ∙ of (moved_along p f ty indices) is where
  of : (a : Answer (Option ℤ)) → and_then (λ z. Gives (wrapped_option z)) a ≡ Gives (Some by) → and_then (moved mem inbounds base) a ≡ moved_by mem inbounds base by
  of (Gives (Some z)) e = let same : wrapped z ≡ by = cc (e) in sym (moved_wrapped mem inbounds base z) ∙ ap (moved_by mem inbounds base) same
  of (Gives None) e = absurd (cc (e))
  of (Undefined cause) e = absurd (cc (e))
  of Stuck e = absurd (cc (e))

pub gep_is_poison : (p : ProgramData) (f : Frame) (mem : MemoryData) (inbounds : Bool) (ty : Ty) (indices : List (Scalar × Operand)) (base : Val Sym) → IsMeant (gep p f mem inbounds ty indices base)
    → and_then (λ z. Gives (wrapped_option z)) (moved_along p f ty indices) ≡ Gives None → gep p f mem inbounds ty indices base ≡ Gives val.Poison
gep_is_poison p f mem inbounds ty indices base meant is = gep_is p f mem inbounds ty indices base meant ∙ of (moved_along p f ty indices) is where
  of : (a : Answer (Option ℤ)) → and_then (λ z. Gives (wrapped_option z)) a ≡ Gives None → and_then (moved mem inbounds base) a ≡ Gives val.Poison
  of (Gives (Some z)) e = absurd (cc (e))
  of (Gives None) e = refl
  of (Undefined cause) e = absurd (cc (e))
  of Stuck e = absurd (cc (e))

pub head_cons : {A : Type 0} (xs : List A) (x : A) → 1 ≤ length xs → x ≡ get_or xs 0 x → xs ≡ x ∷ drop 1 xs
head_cons [] x some is = absurd (omega arith)
head_cons (y ∷ ys) x some is = ap (λ z. z ∷ ys) (sym is)

pub along_sums : (p : ProgramData) (f : Frame) (ty : Ty) (indices : List (Scalar × Operand)) (index : Scalar × Operand) (more : List (Scalar × Operand)) (x : Val Sym) (n : ℕ) (one total : Option ℤ) → indices ≡ index ∷ more → value p f index.1 ≡ Gives x → n ≡ size ty
    → and_then (λ z. Gives (wrapped_option z)) (moves index.0 x (Each n)) ≡ Gives one → and_then (λ rest. Gives (sum_of one rest)) (moved_within p f ty more) ≡ Gives total
    → and_then (λ z. Gives (wrapped_option z)) (moved_along p f ty indices) ≡ Gives total
along_sums p f ty indices index more x n one total split read wide first_is rest_is =
    ap (λ l. and_then (λ z. Gives (wrapped_option z)) (moved_along p f ty l)) split
    ∙ ap (λ a. and_then (λ z. Gives (wrapped_option z)) (and_then (λ one. and_then (λ rest. Gives (added one rest)) (moved_within p f ty more)) (and_then (λ x. moves index.0 x (Each (size ty))) a))) read
    ∙ ap (λ k. and_then (λ z. Gives (wrapped_option z)) (and_then (λ one. and_then (λ rest. Gives (added one rest)) (moved_within p f ty more)) (moves index.0 x (Each k)))) (sym wide)
    ∙ of (moves index.0 x (Each n)) (moved_within p f ty more) first_is rest_is
  where
    of : (a : Answer (Option ℤ)) (rest : Answer (Option ℤ)) → and_then (λ z. Gives (wrapped_option z)) a ≡ Gives one → and_then (λ rest. Gives (sum_of one rest)) rest ≡ Gives total
        → and_then (λ z. Gives (wrapped_option z)) (and_then (λ one. and_then (λ rest. Gives (added one rest)) rest) a) ≡ Gives total
    of (Gives m) (Gives r) e k = let same : wrapped_option m ≡ one = cc (e) in ap Gives (sum_first m r ∙ ap (λ o. sum_of o r) same) ∙ k
    of (Gives m) (Undefined cause) e k = absurd (cc (k))
    of (Gives m) Stuck e k = absurd (cc (k))
    of (Undefined cause) rest e k = absurd (cc (e))
    of Stuck rest e k = absurd (cc (e))

whole : {A : Type 0} (l : List A) (n : ℕ) → n ≡ length l → take n l ≡ l
whole l n is = ap (λ k. take k l) is ∙ take-length l

pub head_rest : {A : Type 0} (xs : List A) (x : A) → 1 ≤ length xs → x ≡ get_or xs 0 x → xs ≡ x ∷ take (length xs - 1) (drop 1 xs)
head_rest [] x some is = absurd (omega arith)
head_rest (y ∷ ys) x some is = ap (λ z. z ∷ ys) (sym is) ∙ ap (λ l. x ∷ l) (sym (whole ys (length (y ∷ ys) - 1) (omega arith)))

-- one index more
pub within_next : (p : ProgramData) (f : Frame) (ty inner : Ty) (list : List (Scalar × Operand)) (index : Scalar × Operand) (more : List (Scalar × Operand)) (by one : Option ℤ) → list ≡ index ∷ more → IsMeant (moved_within p f ty list)
    → and_then (λ z. Gives (wrapped_option z)) (moved_at p f ty index) ≡ Gives one → part ty (index_of index) ≡ Some inner
    → IsMeant (moved_within p f inner more) × (and_then (λ rest. Gives (sum_of (sum_of by one) rest)) (moved_within p f inner more) ≡ and_then (λ rest. Gives (sum_of by rest)) (moved_within p f ty list))
within_next p f ty inner list index more by one split meant one_is part_is =
    let meant_here = subst (λ l. IsMeant (moved_within p f ty l)) split meant in
    let both = of (moved_at p f ty index) (part ty (index_of index)) one_is part_is meant_here in
    (both.0, both.1 ∙ ap (λ l. and_then (λ rest. Gives (sum_of by rest)) (moved_within p f ty l)) (sym split))
  where
    last : (m : Option ℤ) (R : Answer (Option ℤ)) → wrapped_option m ≡ one → and_then (λ rest. Gives (sum_of (sum_of by one) rest)) R ≡ and_then (λ rest. Gives (sum_of by rest)) (and_then (λ rest. Gives (added m rest)) R)
    last m (Gives r) same = ap Gives (ap (λ o. sum_of (sum_of by o) r) (sym same) ∙ sym (sum_shift by m r))
    last m (Undefined cause) same = refl
    last m Stuck same = refl

    of : (a : Answer (Option ℤ)) (q : Option Ty) → and_then (λ z. Gives (wrapped_option z)) a ≡ Gives one → q ≡ Some inner
        → IsMeant (and_then (λ one. and_then (λ inner. and_then (λ rest. Gives (added one rest)) (moved_within p f inner more)) (or_stuck q)) a)
        → IsMeant (moved_within p f inner more) × (and_then (λ rest. Gives (sum_of (sum_of by one) rest)) (moved_within p f inner more) ≡ and_then (λ rest. Gives (sum_of by rest)) (and_then (λ one. and_then (λ inner. and_then (λ rest. Gives (added one rest)) (moved_within p f inner more)) (or_stuck q)) a))
    of (Gives m) None e k meant = absurd (cc (k))
    of (Gives m) (Some t) e k meant =
        let same : t ≡ inner = cc (k) in
        let value_is : wrapped_option m ≡ one = cc (e) in
        let meant_in = subst (λ (t : Ty). IsMeant (and_then (λ rest. Gives (added m rest)) (moved_within p f t more))) same meant in
        (first (λ rest. Gives (added m rest)) (moved_within p f inner more) meant_in, last m (moved_within p f inner more) value_is ∙ ap (λ (t : Ty). and_then (λ rest. Gives (sum_of by rest)) (and_then (λ rest. Gives (added m rest)) (moved_within p f t more))) (sym same))
    of (Undefined cause) q e k meant = absurd (cc (e))
    of Stuck q e k meant = absurd (cc (e))
