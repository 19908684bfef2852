-- A `getelementptr` is safe, and gives a pointer.
use Rattle.std.proofs.Common.{◌≡◌, ℕ, suc, ◌<◌, ◌^◌, Bool, ℤ, List, [], ◌∷◌, length, map, All, Option, Some, None, option_map, option_and_then, IsSomeAnd, IfSome, refl, ap, ◌∙◌, arith}
use Rattle.std.proofs.lemmas.List.{length-map}
use Rattle.std.proofs.lemmas.List.Elements.{All-head, All-tail}
use Rattle.ir_types.specs.declared.scalar.Scalar.{Scalar}
use Rattle.ir_types.specs.declared.scalar.Scalar.TheVariants.{Ptr}
use Rattle.ir_types.specs.declared.shape.Ty.{Ty}
use Rattle.ir_types.specs.declared.shape.Index.{Index}
use Rattle.ir_types.specs.declared.shape.Stride.{Stride}
use Rattle.ir_types.specs.declared.shape.Stride.TheVariants.{Each, Field}
use Rattle.ir_types.specs.Nesting.{nodes}
use Rattle.ir_types.specs.Layout.{size}
use Rattle.ir_types.specs.Scalars.{IsInteger}
use Rattle.ir_types.specs.Walk.{part, stride, strides_within, strides}
use Rattle.ir_syntax.specs.declared.symbol.Sym.{Sym}
use Rattle.ir_syntax.specs.declared.constant.Operand.{Operand}
use Rattle.ir_syntax.specs.declared.body.Inst.TheVariants.{Gep}
use Rattle.ir_syntax.specs.Programs.{ProgramData}
use Rattle.ir_syntax.specs.Typed.{IsWalk}
use Rattle.ir_syntax.specs.IndexWalks.{index_of, SuitStrides}
use Rattle.ir_syntax.proofs.IndexLemmas.{walks}
use Rattle.block_memory.specs.declared.value.Val.{Val}
use Rattle.block_memory.specs.declared.value.Val.TheVariants as val
use Rattle.block_memory.specs.Answers.{Gives, and_then, or_stuck}
use Rattle.block_memory.specs.Blocks.{MemoryData}
use Rattle.ir_steps.specs.States.{Frame}
use Rattle.ir_steps.specs.Operands.{value, values}
use Rattle.ir_steps.specs.Pointers.{moves, added, moves_all, moved}
use Rattle.ir_steps.specs.Reading.{index_types, index_operands, gep, evaluated}
use Rattle.ir_steps.proofs.Fits.{IsValue, Has, MemoryFits}
use Rattle.ir_steps.proofs.Safely.{Safe, safe_then, safe_read}
use Rattle.ir_steps.proofs.Values.{AreValues, zip_maps}
use Rattle.ir_steps.proofs.AccessingPointers.{moved_fits}
use Rattle.ir_steps.proofs.Evaluating.{IsRead, value_safe, values_safe}

-- ---- as many strides as indices

if_then : {A B : Type 0} (Q : B → Type 0) (F : A → Option B) (o : Option A) → ((x : A) → IfSome (F x) Q) → IfSome (option_and_then F o) Q
if_then Q F None h = tt
if_then Q F (Some x) h = h x

if_map : {A B : Type 0} (P : A → Type 0) (Q : B → Type 0) (F : A → B) (o : Option A) → IfSome o P → ((x : A) → P x → Q (F x)) → IfSome (option_map F o) Q
if_map P Q F None h k = tt
if_map P Q F (Some x) h k = k x h

within_length : (ty : Ty) (indices : List Index) → IfSome (strides_within ty indices) (λ ss. length ss ≡ length indices)
within_length ty [] = refl
within_length ty (index ∷ more) =
    if_then (λ ss. length ss ≡ length (index ∷ more)) (λ here. option_and_then (λ inner. option_map (λ rest. here ∷ rest) (strides_within inner more)) (part ty index)) (stride ty index)
    (λ here. if_then (λ ss. length ss ≡ length (index ∷ more)) (λ inner. option_map (λ rest. here ∷ rest) (strides_within inner more)) (part ty index)
    (λ inner. if_map (λ ss. length ss ≡ length more) (λ ss. length ss ≡ length (index ∷ more)) (λ rest. here ∷ rest) (strides_within inner more) (within_length inner more)
    (λ rest same. ap suc same)))

strides_length : (ty : Ty) (indices : List Index) → IfSome (strides ty indices) (λ ss. length ss ≡ length indices)
strides_length ty [] = refl
strides_length ty (index ∷ more) =
    if_map (λ ss. length ss ≡ length more) (λ ss. length ss ≡ length (index ∷ more)) (λ rest. Each (size ty) ∷ rest) (strides_within ty more) (within_length ty more) (λ rest same. ap suc same)

both_has : {A : Type 0} (P Q : A → Type 0) (o : Option A) → IsSomeAnd o P → IfSome o Q → Has Q o
both_has P Q None h k = absurd h
both_has P Q (Some x) h k = k

-- A walk that typing accepts has a stride for each index.
pub strides_has : (ty : Ty) (indices : List (Scalar × Operand)) → nodes ty < 2 ^ 31 → IsWalk ty indices → Has (λ ss. length ss ≡ length indices) (strides ty (map index_of indices))
strides_has ty indices few walk =
    both_has (SuitStrides indices) (λ ss. length ss ≡ length indices) (strides ty (map index_of indices)) ((walks ty indices few).0 walk)
    (long (strides ty (map index_of indices)) (strides_length ty (map index_of indices)))
  where
    long : (o : Option (List Stride)) → IfSome o (λ ss. length ss ≡ length (map index_of indices)) → IfSome o (λ ss. length ss ≡ length indices)
    long None h = tt
    long (Some ss) h = h ∙ length-map indices index_of

-- ---- what indices move by

moves_safe : (p : ProgramData) (made : ℕ) (ty : Scalar) (x : Val Sym) (s : Stride) → IsInteger ty → IsValue p made ty x → Safe (λ (by : Option ℤ). Unit {0}) (moves ty x s)
moves_safe p made ty (val.Num n) (Each size) i h = tt
moves_safe p made ty (val.Num n) (Field offset) i h = tt
moves_safe p made ty val.Null s i h = i h
moves_safe p made ty (val.At of offset) s i h = i h.0
moves_safe p made ty val.Poison s i h = tt

moves_all_safe : (p : ProgramData) (made : ℕ) (indices : List (Scalar × Operand)) (xs : List (Val Sym)) (ss : List Stride) → All (λ index. IsInteger index.0) indices
    → AreValues p made (index_types indices) xs → length ss ≡ length indices → Safe (λ (by : Option ℤ). Unit {0}) (moves_all (index_types indices) xs ss)
moves_all_safe p made [] [] [] i h e = tt
moves_all_safe p made [] [] (s ∷ ss) i h e = absurd (omega arith)
moves_all_safe p made [] (x ∷ xs) ss i h e = absurd h
moves_all_safe p made (index ∷ more) [] ss i h e = absurd h
moves_all_safe p made (index ∷ more) (x ∷ xs) [] i h e = absurd (omega arith)
moves_all_safe p made (index ∷ more) (x ∷ xs) (s ∷ ss) i h e =
    let I = λ (index : Scalar × Operand). IsInteger index.0 in
    let same : length ss ≡ length more = omega arith in
    let P = λ (by : Option ℤ). Unit {0} in
    safe_then P P (λ one. and_then (λ rest. Gives (added one rest)) (moves_all (index_types more) xs ss)) (moves index.0 x s) (moves_safe p made index.0 x s (All-head I index more i) h.0)
    (λ one k. safe_then P P (λ rest. Gives (added one rest)) (moves_all (index_types more) xs ss) (moves_all_safe p made more xs ss (All-tail I index more i) h.1 same) (λ rest j. tt))

-- ---- the instruction

gep_safe : (p : ProgramData) (f : Frame) (mem : MemoryData) (inbounds : Bool) (ty : Ty) (indices : List (Scalar × Operand)) (base : Val Sym) → MemoryFits p mem → nodes ty < 2 ^ 31
    → All (λ index. IsInteger index.0) indices → IsWalk ty indices → IsValue p (length mem.made) Ptr base → All (λ index. IsRead p (length mem.made) f index.0 index.1) indices
    → Safe (IsValue p (length mem.made) Ptr) (gep p f mem inbounds ty indices base)
gep_safe p f mem inbounds ty indices base fits few i walk h k =
    let made = length mem.made in
    let tys = index_types indices in
    let Q = IsValue p made Ptr in
    safe_then (AreValues p made tys) Q (λ xs. and_then (λ ss. and_then (moved mem inbounds base) (moves_all tys xs ss)) (or_stuck (strides ty (map index_of indices)))) (values p f (index_operands indices))
    (values_safe p f made tys (index_operands indices) (zip_maps (IsRead p made f) (λ (index : Scalar × Operand). index.0) (λ (index : Scalar × Operand). index.1) indices k))
    (λ xs are. safe_read (λ ss. length ss ≡ length indices) Q (λ ss. and_then (moved mem inbounds base) (moves_all tys xs ss)) (strides ty (map index_of indices)) (strides_has ty indices few walk)
    (λ ss long. safe_then (λ (by : Option ℤ). Unit {0}) Q (moved mem inbounds base) (moves_all tys xs ss) (moves_all_safe p made indices xs ss i are long)
    (λ by j. moved_fits p mem inbounds base by fits h)))

pub gep_evaluated : (p : ProgramData) (f : Frame) (mem : MemoryData) (inbounds : Bool) (ty : Ty) (base : Operand) (indices : List (Scalar × Operand)) → MemoryFits p mem → nodes ty < 2 ^ 31
    → All (λ index. IsInteger index.0) indices → IsWalk ty indices → IsRead p (length mem.made) f Ptr base → All (λ index. IsRead p (length mem.made) f index.0 index.1) indices
    → Safe (IsValue p (length mem.made) Ptr) (evaluated p f mem (Gep inbounds ty base indices))
gep_evaluated p f mem inbounds ty base indices fits few i walk h k =
    let made = length mem.made in
    safe_then (IsValue p made Ptr) (IsValue p made Ptr) (gep p f mem inbounds ty indices) (value p f base) (value_safe p f made Ptr base h)
    (λ x m. gep_safe p f mem inbounds ty indices x fits few i walk m k)
