-- The bytes of each form of type, from those of its parts, and the steps of a list with commas.
use Rattle.std.proofs.Common.{◌≡◌, ◌∙◌, ℕ, zero, suc, ◌+◌, ◌<◌, ◌==◌, Bool, true, false, List, [], ◌∷◌, ◌++◌, length, get_or, drop, map, codes, refl, ap, sym, append_assoc, if◌then◌else◌, arith}
use Rattle.std.specs.Fmt.{decimal}
use Rattle.std.proofs.lemmas.Bool.Decides.{nat_tests}
use Rattle.std.proofs.lemmas.List.{append-nil, drop_more}
use Rattle.ir_lexer.specs.Written.{bytes_of}
use Rattle.ir_types.specs.declared.scalar.Scalar.{Scalar}
use Rattle.ir_types.specs.declared.shape.Ty.{Ty, out-Ty}
use Rattle.ir_types.specs.declared.shape.Ty.TheOpen.{Ty-F}
use Rattle.ir_types.specs.declared.shape.Ty.TheViews.{Array, Struct}
use Rattle.ir_types.specs.declared.shape.Ty.TheBlock.{One}
use Rattle.ir_types.specs.declared.shape.Ty.TheVariants.{rolls-One, rolls-Array, rolls-Struct, outs-Array}
use Rattle.ir_types.specs.declared.shape.Ty.TheFolds.{fold-roll-Ty}
use Rattle.ir_writer.specs.Words.{Parts, listed, more, scalar_text}
use Rattle.ir_writer.specs.Constants.{braced, type_step, type_parts}
use Rattle.ir_writer.proofs.Bytes.{bytes_append}

-- ---- lists with commas

-- a list that isn't empty by the test
pub some_length : {A : Type 0} (xs : List A) (b : Bool) → b ≡ (length xs == 0) → b ≡ false → 0 < length xs
some_length [] b e none = cc
some_length (x ∷ xs) b e none = omega arith

pub none_length : {A : Type 0} (xs : List A) (b : Bool) → b ≡ (length xs == 0) → b ≡ true → length xs ≡ 0
none_length xs b e t = grind (arith, nat_tests, e, t)

-- what is left of a list from a place on
abbrev pub left_from : ℕ → List Parts → Parts
left_from zero lists = listed lists
left_from (suc k) lists = more lists

-- what stands before the part at a place
abbrev separator : ℕ → List ℕ
separator zero = []
separator (suc k) = codes ", "

separator_is : (place : ℕ) → (if place == 0 then [] else codes ", ") ≡ separator place
separator_is zero = refl
separator_is (suc k) = let some : (suc k == 0) ≡ false = grind (arith, nat_tests) in ap (λ b. if b then [] else codes ", ") some

left_first : (k : ℕ) (parts : Parts) (lists : List Parts) → bytes_of (left_from k (parts ∷ lists)) ≡ separator k ++ (bytes_of parts ++ bytes_of (more lists))
left_first zero parts lists = bytes_append parts (more lists)
left_first (suc k) parts lists = ap (λ bytes. 44 ∷ 32 ∷ bytes) (bytes_append parts (more lists))

-- one more part is written
pub part_written : (k next : ℕ) (parts : Parts) (lists : List Parts) (out mid new : List ℕ) → next ≡ suc k → mid ≡ out ++ (if k == 0 then [] else codes ", ") → new ≡ mid ++ bytes_of parts →
    new ++ bytes_of (left_from next lists) ≡ out ++ bytes_of (left_from k (parts ∷ lists))
part_written k next parts lists out mid new e m n =
    ap (λ j. new ++ bytes_of (left_from j lists)) e
    ∙ ap (λ bytes. bytes ++ bytes_of (more lists)) (n ∙ ap (λ bytes. bytes ++ bytes_of parts) (m ∙ ap (λ bytes. out ++ bytes) (separator_is k)))
    ∙ append_assoc (out ++ separator k) (bytes_of parts) (bytes_of (more lists))
    ∙ append_assoc out (separator k) (bytes_of parts ++ bytes_of (more lists))
    ∙ ap (λ bytes. out ++ bytes) (sym (left_first k parts lists))

-- what is left from a place on begins with what stands there
pub drop_here : {A : Type 0} (xs : List A) (k : ℕ) (x : A) → k < length xs → x ≡ get_or xs k x → drop k xs ≡ x ∷ drop (k + 1) xs
drop_here xs k x within is = drop_more xs k x within ∙ ap (λ y. y ∷ drop (k + 1) xs) (sym is)

-- the step of a loop that writes each part of a list
pub list_step : {A : Type 0} (f : A → Parts) (xs : List A) (k next : ℕ) (x : A) (out mid new whole : List ℕ) → k < length xs → x ≡ get_or xs k x → next ≡ suc k → mid ≡ out ++ (if k == 0 then [] else codes ", ") → new ≡ mid ++ bytes_of (f x) →
    out ++ bytes_of (left_from k (map f (drop k xs))) ≡ whole → new ++ bytes_of (left_from next (map f (drop (k + 1) xs))) ≡ whole
list_step f xs k next x out mid new whole within is e m n h =
    part_written k next (f x) (map f (drop (k + 1) xs)) out mid new e m n
    ∙ ap (λ ys. out ++ bytes_of (left_from k (map f ys))) (sym (drop_here xs k x within is))
    ∙ h

-- braces around a list that isn't empty
braced_first : (parts : Parts) (lists : List Parts) → bytes_of (braced (parts ∷ lists)) ≡ codes "{ " ++ (bytes_of (listed (parts ∷ lists)) ++ codes " }")
braced_first parts lists = ap (λ bytes. 123 ∷ 32 ∷ bytes) (bytes_append (listed (parts ∷ lists)) _)

-- ---- types

type-One : (s : Scalar) → type_parts (One s) ≡ type_step (Ty-F.One s)
unfolding type_parts
type-One s = ap type_parts (sym (rolls-One s)) ∙ fold-roll-Ty Parts type_step (Ty-F.One s)

type-Array : (n : ℕ) (t : Ty) → type_parts (Array n t) ≡ type_step (Ty-F.Array n (type_parts t))
unfolding type_parts
type-Array n t = ap type_parts (sym (rolls-Array n t)) ∙ fold-roll-Ty Parts type_step (Ty-F.Array n t)

type-Struct : (ts : List Ty) → type_parts (Struct ts) ≡ type_step (Ty-F.Struct (map type_parts ts))
unfolding type_parts
type-Struct ts = ap type_parts (sym (rolls-Struct ts)) ∙ fold-roll-Ty Parts type_step (Ty-F.Struct ts)

pub scalar_bytes : (ty : Ty) (s : Scalar) → ty ≡ One s → bytes_of (type_parts ty) ≡ scalar_text s
scalar_bytes ty s is = ap bytes_of (ap type_parts is ∙ type-One s) ∙ append-nil (scalar_text s)

array_bytes : (ty : Ty) (n : ℕ) (t u : Ty) → ty ≡ Array n t → u ≡ t → bytes_of (type_parts ty) ≡ codes "[" ++ (decimal n ++ (codes " x " ++ (bytes_of (type_parts u) ++ codes "]")))
array_bytes ty n t u is same =
    ap bytes_of (ap type_parts is ∙ type-Array n t)
    ∙ ap (λ bytes. codes "[" ++ (decimal n ++ (codes " x " ++ bytes))) (bytes_append (type_parts t) _ ∙ ap (λ v. bytes_of (type_parts v) ++ codes "]") (sym same))

pub struct_bytes : (ty : Ty) (ts us : List Ty) → ty ≡ Struct ts → us ≡ ts → bytes_of (type_parts ty) ≡ bytes_of (braced (map type_parts us))
struct_bytes ty ts us is same = ap bytes_of (ap type_parts is ∙ type-Struct ts) ∙ ap (λ vs. bytes_of (braced (map type_parts vs))) (sym same)

-- ---- what is written of a type

pub array_written : (ty : Ty) (n : ℕ) (t u : Ty) (out a b c d e : List ℕ) → ty ≡ Array n t → u ≡ t →
    a ≡ out ++ codes "[" → b ≡ a ++ decimal n → c ≡ b ++ codes " x " → d ≡ c ++ bytes_of (type_parts u) → e ≡ d ++ codes "]" → e ≡ out ++ bytes_of (type_parts ty)
array_written ty n t u out a b c d e is same one two three four five =
    five
    ∙ ap (λ x. x ++ codes "]") (four ∙ ap (λ x. x ++ bytes_of (type_parts u)) (three ∙ ap (λ x. x ++ codes " x ") (two ∙ ap (λ x. x ++ decimal n) one)))
    ∙ regroup (decimal n) (bytes_of (type_parts u))
    ∙ ap (λ x. out ++ x) (sym (array_bytes ty n t u is same))
  where
    regroup : (count element : List ℕ) → ((((out ++ codes "[") ++ count) ++ codes " x ") ++ element) ++ codes "]" ≡ out ++ (codes "[" ++ (count ++ (codes " x " ++ (element ++ codes "]"))))
    regroup count element = simp append_assoc

-- the layer of an array
pub array_layer : (ty : Ty) (n : ℕ) (t u : Ty) → ty ≡ Array n t → u ≡ t → out-Ty ty ≡ Ty-F.Array n u
array_layer ty n t u is same = ap out-Ty is ∙ outs-Array n t ∙ ap (λ v. Ty-F.Array n v) (sym same)

-- braces round a list
pub braces_written : (lists : List Parts) (out a b c : List ℕ) → 0 < length lists → a ≡ out ++ codes "{ " → b ≡ a ++ bytes_of (listed lists) → c ≡ b ++ codes " }" → c ≡ out ++ bytes_of (braced lists)
braces_written [] out a b c some one two three = absurd (omega arith)
braces_written (parts ∷ lists) out a b c some one two three =
    three
    ∙ ap (λ x. x ++ codes " }") (two ∙ ap (λ x. x ++ bytes_of (listed (parts ∷ lists))) one)
    ∙ regroup (bytes_of (listed (parts ∷ lists)))
    ∙ ap (λ x. out ++ x) (sym (braced_first parts lists))
  where
    regroup : (inner : List ℕ) → ((out ++ codes "{ ") ++ inner) ++ codes " }" ≡ out ++ (codes "{ " ++ (inner ++ codes " }"))
    regroup inner = simp append_assoc
