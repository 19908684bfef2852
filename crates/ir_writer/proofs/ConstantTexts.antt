-- The bytes of each form of constant, from those of its parts.
use Rattle.std.proofs.Common.{◌≡◌, ◌≢◌, ◌∙◌, ℕ, ℤ, pos, negsuc, zero, suc, ◌+◌, ◌<◌, ◌≤◌, ◌⊎◌, inl, inr, ◌==◌, if◌then◌else◌, List, [], ◌∷◌, ◌++◌, length, get_or, drop, map, codes, refl, ap, sym, append_assoc, arith}
use Rattle.std.specs.Fmt.{signed_decimal}
use Rattle.std.proofs.lemmas.List.{append-nil, drop_all}
use Rattle.ir_lexer.specs.Written.{bytes_of}
use Rattle.ir_types.specs.declared.shape.Ty.{Ty, out-Ty}
use Rattle.ir_types.specs.declared.shape.Ty.TheOpen.{Ty-F}
use Rattle.ir_syntax.specs.declared.constant.Const.{Const}
use Rattle.ir_syntax.specs.declared.constant.Const.TheOpen.{Const-F}
use Rattle.ir_syntax.specs.declared.constant.Const.TheBlock.{Int, Null, Addr, Undef, Poison, Zero, Text}
use Rattle.ir_syntax.specs.declared.constant.Const.TheViews.{Many}
use Rattle.ir_syntax.specs.declared.constant.Const.TheVariants.{rolls-Int, rolls-Null, rolls-Addr, rolls-Undef, rolls-Poison, rolls-Zero, rolls-Text, rolls-Many}
use Rattle.ir_syntax.specs.declared.constant.Const.TheFolds.{fold-roll-Const}
use Rattle.ir_writer.specs.Names.{quoted, name_text, name_at}
use Rattle.ir_writer.specs.Words.{Parts, close_square, listed}
use Rattle.ir_writer.specs.Constants.{type_parts, symbol, address, number_at, typed_part, typed_fields, many_at, constant_step, constant_parts}
use Rattle.ir_writer.proofs.Bytes.{bytes_append}
use Rattle.ir_writer.proofs.TypeTexts.{left_from, drop_here, part_written}

-- the layer of each form
abbrev AtForm : Const-F (Ty → Parts) → Const → Type 0
AtForm layer constant = (names : List (List ℕ)) (ty : Ty) → constant_parts names constant ty ≡ constant_step names layer ty

constant-Int : (n : ℕ) → AtForm (Const-F.Int n) (Int n)
unfolding constant_parts
constant-Int n names ty = ap (λ c. constant_parts names c ty) (sym (rolls-Int n)) ∙ ap (λ f. f ty) (fold-roll-Const (Ty → Parts) (constant_step names) (Const-F.Int n))

constant-Null : AtForm Const-F.Null Null
unfolding constant_parts
constant-Null names ty = ap (λ c. constant_parts names c ty) (sym rolls-Null) ∙ ap (λ f. f ty) (fold-roll-Const (Ty → Parts) (constant_step names) Const-F.Null)

constant-Addr : (place : ℕ) (offset : ℤ) → AtForm (Const-F.Addr place offset) (Addr place offset)
unfolding constant_parts
constant-Addr place offset names ty = ap (λ c. constant_parts names c ty) (sym (rolls-Addr place offset)) ∙ ap (λ f. f ty) (fold-roll-Const (Ty → Parts) (constant_step names) (Const-F.Addr place offset))

constant-Undef : AtForm Const-F.Undef Undef
unfolding constant_parts
constant-Undef names ty = ap (λ c. constant_parts names c ty) (sym rolls-Undef) ∙ ap (λ f. f ty) (fold-roll-Const (Ty → Parts) (constant_step names) Const-F.Undef)

constant-Poison : AtForm Const-F.Poison Poison
unfolding constant_parts
constant-Poison names ty = ap (λ c. constant_parts names c ty) (sym rolls-Poison) ∙ ap (λ f. f ty) (fold-roll-Const (Ty → Parts) (constant_step names) Const-F.Poison)

constant-Zero : AtForm Const-F.Zero Zero
unfolding constant_parts
constant-Zero names ty = ap (λ c. constant_parts names c ty) (sym rolls-Zero) ∙ ap (λ f. f ty) (fold-roll-Const (Ty → Parts) (constant_step names) Const-F.Zero)

constant-Text : (bytes : List ℕ) → AtForm (Const-F.Text bytes) (Text bytes)
unfolding constant_parts
constant-Text bytes names ty = ap (λ c. constant_parts names c ty) (sym (rolls-Text bytes)) ∙ ap (λ f. f ty) (fold-roll-Const (Ty → Parts) (constant_step names) (Const-F.Text bytes))

constant-Many : (names : List (List ℕ)) (parts : List Const) (ty : Ty) → constant_parts names (Many parts) ty ≡ many_at (out-Ty ty) (map (constant_parts names) parts)
unfolding constant_parts
constant-Many names parts ty = ap (λ c. constant_parts names c ty) (sym (rolls-Many parts)) ∙ ap (λ f. f ty) (fold-roll-Const (Ty → Parts) (constant_step names) (Const-F.Many parts))

-- ---- the bytes

-- these are the bytes of a constant at a type
abbrev pub HasBytes : List (List ℕ) → Const → Ty → List ℕ → Type 0
HasBytes names constant ty bytes = bytes_of (constant_parts names constant ty) ≡ bytes

pub number_bytes : (names : List (List ℕ)) (ty : Ty) (c : Const) (n : ℕ) → c ≡ Int n → HasBytes names c ty (bytes_of (number_at (out-Ty ty) n))
number_bytes names ty c n is = ap bytes_of (ap (λ d. constant_parts names d ty) is ∙ constant-Int n names ty)

pub null_bytes : (names : List (List ℕ)) (ty : Ty) (c : Const) → c ≡ Null → HasBytes names c ty (codes "null")
null_bytes names ty c is = ap bytes_of (ap (λ d. constant_parts names d ty) is ∙ constant-Null names ty)

pub address_bytes : (names : List (List ℕ)) (ty : Ty) (c : Const) (place : ℕ) (offset : ℤ) → c ≡ Addr place offset → HasBytes names c ty (bytes_of (address names place offset))
address_bytes names ty c place offset is = ap bytes_of (ap (λ d. constant_parts names d ty) is ∙ constant-Addr place offset names ty)

pub undef_bytes : (names : List (List ℕ)) (ty : Ty) (c : Const) → c ≡ Undef → HasBytes names c ty (codes "undef")
undef_bytes names ty c is = ap bytes_of (ap (λ d. constant_parts names d ty) is ∙ constant-Undef names ty)

pub poison_bytes : (names : List (List ℕ)) (ty : Ty) (c : Const) → c ≡ Poison → HasBytes names c ty (codes "poison")
poison_bytes names ty c is = ap bytes_of (ap (λ d. constant_parts names d ty) is ∙ constant-Poison names ty)

pub zero_bytes : (names : List (List ℕ)) (ty : Ty) (c : Const) → c ≡ Zero → HasBytes names c ty (codes "zeroinitializer")
zero_bytes names ty c is = ap bytes_of (ap (λ d. constant_parts names d ty) is ∙ constant-Zero names ty)

text_bytes : (names : List (List ℕ)) (ty : Ty) (c : Const) (bytes : List ℕ) → c ≡ Text bytes → HasBytes names c ty (99 ∷ quoted bytes)
text_bytes names ty c bytes is = ap bytes_of (ap (λ d. constant_parts names d ty) is ∙ constant-Text bytes names ty) ∙ append-nil (99 ∷ quoted bytes)

pub many_bytes : (names : List (List ℕ)) (ty : Ty) (c : Const) (parts given : List Const) → c ≡ Many parts → given ≡ parts → HasBytes names c ty (bytes_of (many_at (out-Ty ty) (map (constant_parts names) given)))
many_bytes names ty c parts given is same =
    ap bytes_of (ap (λ d. constant_parts names d ty) is ∙ constant-Many names parts ty)
    ∙ ap (λ xs. bytes_of (many_at (out-Ty ty) (map (constant_parts names) xs))) (sym same)

pub text_written : (names : List (List ℕ)) (ty : Ty) (c : Const) (bytes given : List ℕ) (out a b : List ℕ) → c ≡ Text bytes → given ≡ bytes → a ≡ out ++ codes "c" → b ≡ a ++ quoted given → b ≡ out ++ bytes_of (constant_parts names c ty)
text_written names ty c bytes given out a b is same one two =
    two ∙ ap (λ x. x ++ quoted given) one ∙ append_assoc out (codes "c") (quoted given)
    ∙ ap (λ x. out ++ 99 ∷ quoted x) same
    ∙ ap (λ x. out ++ x) (sym (text_bytes names ty c bytes is))

-- ---- addresses

pub symbol_written : (names : List (List ℕ)) (place : ℕ) (out a b name : List ℕ) → name ≡ name_at names place → a ≡ out ++ codes "@" → b ≡ a ++ name_text name → b ≡ out ++ bytes_of (symbol names place ∷ [])
symbol_written names place out a b name is one two =
    two ∙ ap (λ x. x ++ name_text name) one ∙ append_assoc out (codes "@") (name_text name)
    ∙ ap (λ n. out ++ 64 ∷ name_text n) is
    ∙ ap (λ x. out ++ x) (sym (append-nil (64 ∷ name_text (name_at names place))))

far_bytes : List (List ℕ) → ℕ → ℤ → List ℕ
far_bytes names place offset = codes "getelementptr (i8, ptr " ++ (bytes_of (symbol names place ∷ []) ++ (codes ", i64 " ++ (signed_decimal offset ++ codes ")")))

far : (names : List (List ℕ)) (place : ℕ) (offset : ℤ) → offset ≢ pos 0 → bytes_of (address names place offset) ≡ far_bytes names place offset
unfolding far_bytes
far names place (pos zero) away = absurd (away refl)
far names place (pos (suc n)) away = ap (λ x. codes "getelementptr (i8, ptr " ++ (x ++ (codes ", i64 " ++ (signed_decimal (pos (suc n)) ++ codes ")")))) (sym (append-nil (64 ∷ name_text (name_at names place))))
far names place (negsuc n) away = ap (λ x. codes "getelementptr (i8, ptr " ++ (x ++ (codes ", i64 " ++ (signed_decimal (negsuc n) ++ codes ")")))) (sym (append-nil (64 ∷ name_text (name_at names place))))

pub address_written : (names : List (List ℕ)) (place : ℕ) (offset : ℤ) (out a b c d e : List ℕ) → offset ≢ pos 0 →
    a ≡ out ++ codes "getelementptr (i8, ptr " → b ≡ a ++ bytes_of (symbol names place ∷ []) → c ≡ b ++ codes ", i64 " → d ≡ c ++ signed_decimal offset → e ≡ d ++ codes ")" → e ≡ out ++ bytes_of (address names place offset)
unfolding far_bytes
address_written names place offset out a b c d e away one two three four five =
    five
    ∙ ap (λ x. x ++ codes ")") (four ∙ ap (λ x. x ++ signed_decimal offset) (three ∙ ap (λ x. x ++ codes ", i64 ") (two ∙ ap (λ x. x ++ bytes_of (symbol names place ∷ [])) one)))
    ∙ regroup (bytes_of (symbol names place ∷ [])) (signed_decimal offset)
    ∙ ap (λ x. out ++ x) (sym (far names place offset away))
  where
    regroup : (name number : List ℕ) → ((((out ++ codes "getelementptr (i8, ptr ") ++ name) ++ codes ", i64 ") ++ number) ++ codes ")" ≡ out ++ (codes "getelementptr (i8, ptr " ++ (name ++ (codes ", i64 " ++ (number ++ codes ")"))))
    regroup name number = simp append_assoc

-- ---- parts

pub typed_written : (part : Ty → Parts) (ty : Ty) (out a b c : List ℕ) → a ≡ out ++ bytes_of (type_parts ty) → b ≡ a ++ codes " " → c ≡ b ++ bytes_of (part ty) → c ≡ out ++ bytes_of (typed_part part ty)
typed_written part ty out a b c one two three =
    three
    ∙ ap (λ x. x ++ bytes_of (part ty)) (two ∙ ap (λ x. x ++ codes " ") one)
    ∙ regroup (bytes_of (type_parts ty)) (bytes_of (part ty))
    ∙ ap (λ x. out ++ x) (sym (bytes_append (type_parts ty) _))
  where
    regroup : (type constant : List ℕ) → ((out ++ type) ++ codes " ") ++ constant ≡ out ++ (type ++ (codes " " ++ constant))
    regroup type constant = simp append_assoc

at_each : (names : List (List ℕ)) (element : Ty) (parts : List Const) → map (λ part. typed_part part element) (map (constant_parts names) parts) ≡ map (λ constant. typed_part (constant_parts names constant) element) parts
at_each names element [] = refl
at_each names element (part ∷ parts) = ap (λ lists. typed_part (constant_parts names part) element ∷ lists) (at_each names element parts)

pub elements_written : (names : List (List ℕ)) (ty element : Ty) (count : ℕ) (parts : List Const) (out a b c : List ℕ) → out-Ty ty ≡ Ty-F.Array count element →
    a ≡ out ++ codes "[" → b ≡ a ++ bytes_of (listed (map (λ constant. typed_part (constant_parts names constant) element) parts)) → c ≡ b ++ codes "]" → c ≡ out ++ bytes_of (many_at (out-Ty ty) (map (constant_parts names) parts))
elements_written names ty element count parts out a b c is one two three =
    three
    ∙ ap (λ x. x ++ codes "]") (two ∙ ap (λ x. x ++ bytes_of lists) one)
    ∙ regroup (bytes_of lists)
    ∙ ap (λ x. out ++ 91 ∷ x) (sym (bytes_append lists _))
    ∙ ap (λ xs. out ++ 91 ∷ bytes_of (listed xs ++ close_square ∷ [])) (sym (at_each names element parts))
    ∙ ap (λ x. out ++ bytes_of (many_at x (map (constant_parts names) parts))) (sym is)
  where
    lists : Parts
    lists = listed (map (λ constant. typed_part (constant_parts names constant) element) parts)

    regroup : (inner : List ℕ) → ((out ++ codes "[") ++ inner) ++ codes "]" ≡ out ++ (codes "[" ++ (inner ++ codes "]"))
    regroup inner = simp append_assoc

-- ---- fields

no_fields : (parts : List (Ty → Parts)) → typed_fields parts [] ≡ []
no_fields [] = refl
no_fields (part ∷ parts) = refl

left_none : (k : ℕ) → left_from k [] ≡ []
left_none zero = refl
left_none (suc k) = refl

-- the step of a loop that writes fields
pub field_step : (parts_of : Const → Ty → Parts) (parts : List Const) (types : List Ty) (k next : ℕ) (part : Const) (ty : Ty) (out mid new whole : List ℕ) →
    k < length parts → part ≡ get_or parts k part → k < length types → ty ≡ get_or types k ty → next ≡ suc k →
    mid ≡ out ++ (if k == 0 then [] else codes ", ") → new ≡ mid ++ bytes_of (typed_part (parts_of part) ty) →
    out ++ bytes_of (left_from k (typed_fields (map parts_of (drop k parts)) (drop k types))) ≡ whole →
    new ++ bytes_of (left_from next (typed_fields (map parts_of (drop (k + 1) parts)) (drop (k + 1) types))) ≡ whole
field_step parts_of parts types k next part ty out mid new whole in_parts part_is in_types ty_is e m n h =
    part_written k next (typed_part (parts_of part) ty) (typed_fields (map parts_of (drop (k + 1) parts)) (drop (k + 1) types)) out mid new e m n
    ∙ ap (λ xs. out ++ bytes_of (left_from k (typed_fields (map parts_of xs) (ty ∷ drop (k + 1) types)))) (sym (drop_here parts k part in_parts part_is))
    ∙ ap (λ xs. out ++ bytes_of (left_from k (typed_fields (map parts_of (drop k parts)) xs))) (sym (drop_here types k ty in_types ty_is))
    ∙ h

-- no type is left
pub fields_over : (parts_of : Const → Ty → Parts) (parts : List Const) (types : List Ty) (k : ℕ) (out whole : List ℕ) → length types ≤ k →
    out ++ bytes_of (left_from k (typed_fields (map parts_of (drop k parts)) (drop k types))) ≡ whole → out ≡ whole
fields_over parts_of parts types k out whole past h =
    sym (append-nil out)
    ∙ ap (λ xs. out ++ bytes_of xs) (sym (left_none k) ∙ ap (left_from k) (sym (no_fields (map parts_of (drop k parts))) ∙ ap (typed_fields (map parts_of (drop k parts))) (sym (drop_all k types past))))
    ∙ h

-- there are no fields where there are no types or no parts
pub fields_none : (parts_of : Const → Ty → Parts) (parts : List Const) (types : List Ty) → (length types ≡ 0) ⊎ (length parts ≡ 0) → typed_fields (map parts_of parts) types ≡ []
fields_none parts_of [] types none = refl
fields_none parts_of (part ∷ parts) [] none = refl
fields_none parts_of (part ∷ parts) (ty ∷ types) (inl none) = absurd (omega (arith, none))
fields_none parts_of (part ∷ parts) (ty ∷ types) (inr none) = absurd (omega (arith, none))

pub fields_some : (parts_of : Const → Ty → Parts) (parts : List Const) (types : List Ty) → 0 < length types → 0 < length parts → 0 < length (typed_fields (map parts_of parts) types)
fields_some parts_of [] types one other = absurd (omega (arith, other))
fields_some parts_of (part ∷ parts) [] one other = absurd (omega (arith, one))
fields_some parts_of (part ∷ parts) (ty ∷ types) one other = omega arith
