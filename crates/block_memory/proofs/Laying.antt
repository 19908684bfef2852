-- Constants without parts, as they are laid out.
use Rattle.std.proofs.Common.{◌≡◌, ℕ, ◌+◌, ◌*◌, ◌&&◌, ◌==◌, nat_lt, Bool, true, false, IsTrue, ℤ, List, length, map, replicate, Option, Some, None, option_map, refl, ap, sym, ◌∙◌, arith}
use Rattle.std.proofs.lemmas.List.{length-map, length-replicate}
use Rattle.std.proofs.lemmas.Bool.{eqb-true}
use Rattle.ir_types.specs.declared.scalar.Scalar.{Scalar}
use Rattle.ir_types.specs.declared.scalar.Scalar.TheVariants.{I1, I8, I16, I32, I64, Ptr}
use Rattle.ir_types.specs.declared.shape.Ty.{Ty, out-Ty}
use Rattle.ir_types.specs.declared.shape.Ty.TheOpen.{Ty-F}
use Rattle.ir_types.specs.declared.shape.Ty.TheBlock.{One}
use Rattle.ir_types.specs.declared.shape.Ty.TheVariants.{outs-One}
use Rattle.ir_types.specs.Layout.{size, scalar_size}
use Rattle.ir_types.proofs.Extents.{extent-One, extent_out}
use Rattle.ir_syntax.specs.declared.constant.Const.{Const}
use Rattle.ir_syntax.specs.declared.constant.Const.TheBlock as constant
use Rattle.ir_syntax.specs.declared.symbol.Sym.{Sym}
use Rattle.ir_syntax.specs.InitialBytes.{little_endian, address_bytes, initial_parts}
use Rattle.ir_syntax.specs.Programs.{ProgramData}
use Rattle.ir_syntax.specs.Suits.{Suits, suits, is_byte, is_number_of, is_pointer, takes_number, takes_address, takes_text}
use Rattle.ir_syntax.proofs.SuitLemmas.{suits-Int, suits-Null, suits-Addr, suits-Text}
use Rattle.block_memory.specs.declared.value.Name.{Name}
use Rattle.block_memory.specs.declared.value.Val.{Val}
use Rattle.block_memory.specs.declared.value.Val.TheVariants as val
use Rattle.block_memory.specs.declared.value.Part.{Part}
use Rattle.block_memory.specs.declared.value.Part.TheVariants as part
use Rattle.block_memory.specs.Parts.{is_value_of, parts_of}
use Rattle.block_memory.specs.Starts.{name_of, named_parts}
use Rattle.block_memory.specs.Mirrors.Laying.{IsLaid, is_scalar, address_at}
use Rattle.block_memory.specs.Mirrors.Writing.{set_from}
use Rattle.block_memory.proofs.Naming.{named-Int, named-Null, named-Addr, named-Undef, named-Poison, named-Zero, named-Text}
use Rattle.block_memory.proofs.Places.{length-little_endian}
use Rattle.block_memory.proofs.Writing.{num, byte_of}

-- ---- sizes

pub size_scalar : (ty : Ty) (s : Scalar) → ty ≡ One s → size ty ≡ scalar_size s
size_scalar ty s is = ap (λ t. size t) is ∙ ap (λ e. e.size) (extent-One s)

pointer_size : (s : Scalar) → IsTrue (is_pointer s) → scalar_size s ≡ 8
pointer_size I1 is = absurd (cc)
pointer_size I8 is = absurd (cc)
pointer_size I16 is = absurd (cc)
pointer_size I32 is = absurd (cc)
pointer_size I64 is = absurd (cc)
pointer_size Ptr is = refl

byte_size : (ty : Ty) (x : Ty-F Ty) → out-Ty ty ≡ x → is_byte x ≡ true → size ty ≡ 1
byte_size ty (Ty-F.One I1) out is = absurd (cc)
byte_size ty (Ty-F.One I8) out is = ap (λ e. e.size) (extent_out ty (Ty-F.One I8) out)
byte_size ty (Ty-F.One I16) out is = absurd (cc)
byte_size ty (Ty-F.One I32) out is = absurd (cc)
byte_size ty (Ty-F.One I64) out is = absurd (cc)
byte_size ty (Ty-F.One Ptr) out is = absurd (cc)
byte_size ty (Ty-F.Array count element) out is = absurd (cc)
byte_size ty (Ty-F.Struct fields) out is = absurd (cc)

pub both : (a b : Bool) → (a && b) ≡ true → (a ≡ true) × (b ≡ true)
both true true is = (refl, refl)
both true false is = absurd (cc)
both false b is = absurd (cc)

text_takes : (ty : Ty) (x : Ty-F Ty) (n : ℕ) → out-Ty ty ≡ x → takes_text x n ≡ true → size ty ≡ n
text_takes ty (Ty-F.One s) n out is = absurd (cc)
text_takes ty (Ty-F.Array count element) n out is =
    let facts : (is_byte (out-Ty element) ≡ true) × ((count == n) ≡ true) = both (is_byte (out-Ty element)) (count == n) is in
    let each : size element ≡ 1 = byte_size element (out-Ty element) refl facts.0 in
    let whole : size ty ≡ count * size element = ap (λ e. e.size) (extent_out ty (Ty-F.Array count element) out) in
    let all : count * size element ≡ count * 1 = ap (λ k. count * k) each in
    omega (arith, whole, all, eqb-true count n facts.1)
text_takes ty (Ty-F.Struct fields) n out is = absurd (cc)

pub text_size : (items : ℕ) (bytes : List ℕ) (ty : Ty) (c : Const) → c ≡ constant.Text bytes → Suits items ty c → size ty ≡ length bytes
text_size items bytes ty c is suited = text_takes ty (out-Ty ty) (length bytes) refl (sym (ap (λ k. suits items k ty) is ∙ suits-Text items bytes ty) ∙ suited)

-- ---- what suits a scalar

number_scalar : (x : Ty-F Ty) (n : ℕ) → takes_number x n ≡ true → is_scalar x ≡ true
number_scalar (Ty-F.One s) n is = refl
number_scalar (Ty-F.Array count element) n is = absurd (cc)
number_scalar (Ty-F.Struct fields) n is = absurd (cc)

address_scalar : (x : Ty-F Ty) → takes_address x ≡ true → is_scalar x ≡ true
address_scalar (Ty-F.One s) is = refl
address_scalar (Ty-F.Array count element) is = absurd (cc)
address_scalar (Ty-F.Struct fields) is = absurd (cc)

takes_int : (items n : ℕ) (ty : Ty) (c : Const) → c ≡ constant.Int n → Suits items ty c → takes_number (out-Ty ty) n ≡ true
takes_int items n ty c is suited = sym (ap (λ k. suits items k ty) is ∙ suits-Int items n ty) ∙ suited

takes_null : (items : ℕ) (ty : Ty) (c : Const) → c ≡ constant.Null → Suits items ty c → takes_address (out-Ty ty) ≡ true
takes_null items ty c is suited = sym (ap (λ k. suits items k ty) is ∙ suits-Null items ty) ∙ suited

takes_item : (items item : ℕ) (offset : ℤ) (ty : Ty) (c : Const) → c ≡ constant.Addr item offset → Suits items ty c → (takes_address (out-Ty ty) ≡ true) × (nat_lt item items ≡ true)
takes_item items item offset ty c is suited = both (takes_address (out-Ty ty)) (nat_lt item items) (sym (ap (λ k. suits items k ty) is ∙ suits-Addr items item offset ty) ∙ suited)

pub int_scalar : (items n : ℕ) (ty : Ty) (c : Const) → c ≡ constant.Int n → Suits items ty c → is_scalar (out-Ty ty) ≡ true
int_scalar items n ty c is suited = number_scalar (out-Ty ty) n (takes_int items n ty c is suited)

pub null_scalar : (items : ℕ) (ty : Ty) (c : Const) → c ≡ constant.Null → Suits items ty c → is_scalar (out-Ty ty) ≡ true
null_scalar items ty c is suited = address_scalar (out-Ty ty) (takes_null items ty c is suited)

pub item_scalar : (items item : ℕ) (offset : ℤ) (ty : Ty) (c : Const) → c ≡ constant.Addr item offset → Suits items ty c → is_scalar (out-Ty ty) ≡ true
item_scalar items item offset ty c is suited = address_scalar (out-Ty ty) (takes_item items item offset ty c is suited).0

pub item_there : (items item : ℕ) (offset : ℤ) (ty : Ty) (c : Const) → c ≡ constant.Addr item offset → Suits items ty c → nat_lt item items ≡ true
item_there items item offset ty c is suited = (takes_item items item offset ty c is suited).1

pub int_fits : (items n : ℕ) (ty : Ty) (c : Const) (s : Scalar) → c ≡ constant.Int n → ty ≡ One s → Suits items ty c → IsTrue (is_number_of s n)
int_fits items n ty c s is scalar suited =
    sym (ap (λ t. takes_number (out-Ty t) n) scalar ∙ ap (λ x. takes_number x n) (outs-One s)) ∙ takes_int items n ty c is suited

pub null_fits : (items : ℕ) (ty : Ty) (c : Const) (s : Scalar) → c ≡ constant.Null → ty ≡ One s → Suits items ty c → IsTrue (is_pointer s)
null_fits items ty c s is scalar suited = sym (ap (λ t. takes_address (out-Ty t)) scalar ∙ ap takes_address (outs-One s)) ∙ takes_null items ty c is suited

pub item_fits : (items item : ℕ) (offset : ℤ) (ty : Ty) (c : Const) (s : Scalar) → c ≡ constant.Addr item offset → ty ≡ One s → Suits items ty c → IsTrue (is_pointer s)
item_fits items item offset ty c s is scalar suited =
    sym (ap (λ t. takes_address (out-Ty t)) scalar ∙ ap takes_address (outs-One s)) ∙ (takes_item items item offset ty c is suited).0

pub record IsAddressOf (found : Option (Name Sym)) (offset : ℤ) (result : Val Sym) : Type 0 where
  pub of : Name Sym
  pub named : found ≡ Some of
  pub is : result ≡ val.At of offset

pub address_from : (found : Option (Name Sym)) (offset : ℤ) (result : Val Sym) → option_map (address_at offset) found ≡ Some result → IsAddressOf found offset result
address_from None offset result is = absurd (cc)
address_from (Some of) offset result is = record { of = of; named = refl; is = cc }

pub address_fits : (found : Option (Name Sym)) (offset : ℤ) (result : Val Sym) (s : Scalar) → option_map (address_at offset) found ≡ Some result → IsTrue (is_pointer s) → IsTrue (is_value_of s result)
address_fits found offset result s is pointer =
    let address : IsAddressOf found offset result = address_from found offset result is in
    ap (is_value_of s) address.is ∙ pointer

-- ---- laid out

named_as : (p : ProgramData) (home : ℕ) (ty : Ty) (c k : Const) → c ≡ k → named_parts p home (initial_parts c ty) ≡ named_parts p home (initial_parts k ty)
named_as p home ty c k is = ap (λ x. named_parts p home (initial_parts x ty)) is

pub laid_Int :
    (p : ProgramData) (home n : ℕ) (ty : Ty) (c : Const) (s : Scalar) (at : ℕ) (old new : List (Part Sym)) → c ≡ constant.Int n → ty ≡ One s →
    new ≡ set_from old at (parts_of s (val.Num n)) → IsLaid p home (initial_parts c ty) at (at + size ty) old new
laid_Int p home n ty c s at old new is scalar made = record {
  bytes = map num (little_endian (size ty) n);
  named = named_as p home ty c (constant.Int n) is ∙ named-Int p home n ty;
  ends = ap (λ count. at + count) (length-map (little_endian (size ty) n) num ∙ length-little_endian (size ty) n);
  written = made ∙ ap (λ count. set_from old at (map num (little_endian count n))) (sym (size_scalar ty s scalar));
}

pub laid_Null :
    (p : ProgramData) (home : ℕ) (ty : Ty) (c : Const) (s : Scalar) (at : ℕ) (old new : List (Part Sym)) → c ≡ constant.Null → ty ≡ One s →
    new ≡ set_from old at (parts_of s val.Null) → IsLaid p home (initial_parts c ty) at (at + size ty) old new
laid_Null p home ty c s at old new is scalar made = record {
  bytes = replicate (size ty) (part.Num 0);
  named = named_as p home ty c constant.Null is ∙ named-Null p home ty;
  ends = ap (λ count. at + count) (length-replicate (size ty) (part.Num 0));
  written = made ∙ ap (λ count. set_from old at (replicate count (part.Num 0))) (sym (size_scalar ty s scalar));
}

pub laid_Addr :
    (p : ProgramData) (home item : ℕ) (offset : ℤ) (ty : Ty) (c : Const) (s : Scalar) (value : Val Sym) (at : ℕ) (old new : List (Part Sym)) → c ≡ constant.Addr item offset → ty ≡ One s →
    IsTrue (is_pointer s) → option_map (address_at offset) (name_of p (record { «module» = home; item = item })) ≡ Some value → new ≡ set_from old at (parts_of s value) →
    IsLaid p home (initial_parts c ty) at (at + size ty) old new
laid_Addr p home item offset ty c s value at old new is scalar pointer found made =
    let address : IsAddressOf (name_of p (record { «module» = home; item = item })) offset value = address_from (name_of p (record { «module» = home; item = item })) offset value found in
    record {
      bytes = map (byte_of address.of offset) address_bytes;
      named = named_as p home ty c (constant.Addr item offset) is ∙ named-Addr p home item offset address.of ty address.named;
      ends = ap (λ count. at + count) (sym (size_scalar ty s scalar ∙ pointer_size s pointer));
      written = made ∙ ap (λ v. set_from old at (parts_of s v)) address.is;
    }

pub laid_Undef :
    (p : ProgramData) (home : ℕ) (ty : Ty) (c : Const) (at count : ℕ) (old new : List (Part Sym)) → c ≡ constant.Undef → count ≡ size ty → new ≡ set_from old at (replicate count part.Poison) →
    IsLaid p home (initial_parts c ty) at (at + size ty) old new
laid_Undef p home ty c at count old new is all made = record {
  bytes = replicate (size ty) part.Poison;
  named = named_as p home ty c constant.Undef is ∙ named-Undef p home ty;
  ends = ap (λ count. at + count) (length-replicate (size ty) part.Poison);
  written = made ∙ ap (λ n. set_from old at (replicate n part.Poison)) all;
}

pub laid_Poison :
    (p : ProgramData) (home : ℕ) (ty : Ty) (c : Const) (at count : ℕ) (old new : List (Part Sym)) → c ≡ constant.Poison → count ≡ size ty → new ≡ set_from old at (replicate count part.Poison) →
    IsLaid p home (initial_parts c ty) at (at + size ty) old new
laid_Poison p home ty c at count old new is all made = record {
  bytes = replicate (size ty) part.Poison;
  named = named_as p home ty c constant.Poison is ∙ named-Poison p home ty;
  ends = ap (λ count. at + count) (length-replicate (size ty) part.Poison);
  written = made ∙ ap (λ n. set_from old at (replicate n part.Poison)) all;
}

pub laid_Zero :
    (p : ProgramData) (home : ℕ) (ty : Ty) (c : Const) (at count : ℕ) (old new : List (Part Sym)) → c ≡ constant.Zero → count ≡ size ty → new ≡ set_from old at (replicate count (part.Num 0)) →
    IsLaid p home (initial_parts c ty) at (at + size ty) old new
laid_Zero p home ty c at count old new is all made = record {
  bytes = replicate (size ty) (part.Num 0);
  named = named_as p home ty c constant.Zero is ∙ named-Zero p home ty;
  ends = ap (λ count. at + count) (length-replicate (size ty) (part.Num 0));
  written = made ∙ ap (λ n. set_from old at (replicate n (part.Num 0))) all;
}

pub laid_Text :
    (p : ProgramData) (home items : ℕ) (bytes : List ℕ) (ty : Ty) (c : Const) (at : ℕ) (old new : List (Part Sym)) → c ≡ constant.Text bytes → Suits items ty c →
    new ≡ set_from old at (map num bytes) → IsLaid p home (initial_parts c ty) at (at + size ty) old new
laid_Text p home items bytes ty c at old new is suited made = record {
  bytes = map num bytes;
  named = named_as p home ty c (constant.Text bytes) is ∙ named-Text p home bytes ty;
  ends = ap (λ count. at + count) (length-map bytes num ∙ sym (text_size items bytes ty c is suited));
  written = made;
}
