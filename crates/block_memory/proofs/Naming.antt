-- Initial bytes by the names of the program: of each constant without parts, and of bytes one behind the other.
use Rattle.std.proofs.Common.{◌≡◌, ℕ, zero, suc, ◌+◌, ℤ, List, [], ◌∷◌, ◌++◌, length, map, replicate, slice_set, Option, Some, None, option_map, option_and_then, refl, ap, ◌∙◌, arith}
use Rattle.ir_types.specs.declared.shape.Ty.{Ty}
use Rattle.ir_types.specs.Layout.{size}
use Rattle.ir_syntax.specs.declared.constant.Const.TheBlock as constant
use Rattle.ir_syntax.specs.declared.symbol.Sym.{Sym}
use Rattle.ir_syntax.specs.InitialBytes.{InitialPart, Poison, Num, Of, little_endian, address_bytes, initial_parts}
use Rattle.ir_syntax.specs.Programs.{ProgramData}
use Rattle.block_memory.proofs.InitialParts.{initial-Int, initial-Null, initial-Addr, initial-Undef, initial-Poison, initial-Zero, initial-Text}
use Rattle.block_memory.specs.declared.value.Name.{Name}
use Rattle.block_memory.specs.declared.value.Part.{Part}
use Rattle.block_memory.specs.declared.value.Part.TheVariants as part
use Rattle.block_memory.specs.Starts.{name_of, named_part, named_parts}
use Rattle.block_memory.specs.Mirrors.Writing.{set_from}
use Rattle.block_memory.proofs.Writing.{num, byte_of}

-- ---- one behind the other

next_named : Option (Part Sym) → Option (List (Part Sym)) → Option (List (Part Sym))
next_named one others = option_and_then (λ first. option_map (λ rest. first ∷ rest) others) one

named_behind :
    (p : ProgramData) (home : ℕ) (first : Option (Part Sym)) (rest more : List InitialPart) (all new : List (Part Sym)) →
    ((named : List (Part Sym)) → named_parts p home rest ≡ Some named → named_parts p home (rest ++ more) ≡ Some (named ++ new)) →
    next_named first (named_parts p home rest) ≡ Some all → next_named first (named_parts p home (rest ++ more)) ≡ Some (all ++ new)
unfolding next_named
named_behind p home None rest more all new so is = absurd (cc)
named_behind p home (Some first) rest more all new so is = by (named_parts p home rest) refl is where
  by : (found : Option (List (Part Sym))) → named_parts p home rest ≡ found → option_map (λ others. first ∷ others) found ≡ Some all → option_map (λ others. first ∷ others) (named_parts p home (rest ++ more)) ≡ Some (all ++ new)
  by None found is = absurd (cc)
  by (Some named) found is =
      let same : first ∷ named ≡ all = cc (is) in
      ap (option_map (λ others. first ∷ others)) (so named found) ∙ ap (λ parts. Some (parts ++ new)) same

pub named-append :
    (p : ProgramData) (home : ℕ) (front more : List InitialPart) (named new : List (Part Sym)) → named_parts p home front ≡ Some named → named_parts p home more ≡ Some new →
    named_parts p home (front ++ more) ≡ Some (named ++ new)
unfolding next_named
named-append p home [] more named new front_is more_is =
    let none : [] ≡ named = cc (front_is) in
    more_is ∙ ap (λ parts. Some (parts ++ new)) none
named-append p home (first ∷ rest) more named new front_is more_is =
    named_behind p home (named_part p home first) rest more named new (λ others others_is. named-append p home rest more others new others_is more_is) front_is

pub set_from-append :
    (parts : List (Part Sym)) (at : ℕ) (front more : List (Part Sym)) → set_from parts at (front ++ more) ≡ set_from (set_from parts at front) (at + length front) more
set_from-append parts at [] more =
    let here : at ≡ at + 0 = omega arith in
    ap (λ place. set_from parts place more) here
set_from-append parts at (first ∷ front) more =
    let further : at + 1 + length front ≡ at + suc (length front) = omega arith in
    set_from-append (slice_set parts at first) (at + 1) front more ∙ ap (λ place. set_from (set_from (slice_set parts at first) (at + 1) front) place more) further

-- ---- constants without parts

named-numbers : (p : ProgramData) (home : ℕ) (bytes : List ℕ) → named_parts p home (map Num bytes) ≡ Some (map num bytes)
named-numbers p home [] = refl
named-numbers p home (byte ∷ bytes) = ap (option_map (λ rest. num byte ∷ rest)) (named-numbers p home bytes)

pub named-zeros : (p : ProgramData) (home count : ℕ) → named_parts p home (replicate count (Num 0)) ≡ Some (replicate count (part.Num 0))
named-zeros p home zero = refl
named-zeros p home (suc count) = ap (option_map (λ rest. part.Num 0 ∷ rest)) (named-zeros p home count)

named-poison : (p : ProgramData) (home count : ℕ) → named_parts p home (replicate count Poison) ≡ Some (replicate count part.Poison)
named-poison p home zero = refl
named-poison p home (suc count) = ap (option_map (λ rest. part.Poison ∷ rest)) (named-poison p home count)

named-bytes :
    (p : ProgramData) (home item : ℕ) (offset : ℤ) (of : Name Sym) (ks : List ℕ) → name_of p (record { «module» = home; item = item }) ≡ Some of →
    named_parts p home (map (Of item offset) ks) ≡ Some (map (byte_of of offset) ks)
named-bytes p home item offset of [] is = refl
named-bytes p home item offset of (k ∷ ks) is =
    ap (λ found. option_and_then (λ one. option_map (λ rest. one ∷ rest) (named_parts p home (map (Of item offset) ks))) (option_map (λ n. part.Of n offset k) found)) is
    ∙ ap (option_map (λ rest. byte_of of offset k ∷ rest)) (named-bytes p home item offset of ks is)

pub named-Int : (p : ProgramData) (home n : ℕ) (ty : Ty) → named_parts p home (initial_parts (constant.Int n) ty) ≡ Some (map num (little_endian (size ty) n))
named-Int p home n ty = ap (named_parts p home) (initial-Int n ty) ∙ named-numbers p home (little_endian (size ty) n)

pub named-Null : (p : ProgramData) (home : ℕ) (ty : Ty) → named_parts p home (initial_parts constant.Null ty) ≡ Some (replicate (size ty) (part.Num 0))
named-Null p home ty = ap (named_parts p home) (initial-Null ty) ∙ named-zeros p home (size ty)

pub named-Zero : (p : ProgramData) (home : ℕ) (ty : Ty) → named_parts p home (initial_parts constant.Zero ty) ≡ Some (replicate (size ty) (part.Num 0))
named-Zero p home ty = ap (named_parts p home) (initial-Zero ty) ∙ named-zeros p home (size ty)

pub named-Undef : (p : ProgramData) (home : ℕ) (ty : Ty) → named_parts p home (initial_parts constant.Undef ty) ≡ Some (replicate (size ty) part.Poison)
named-Undef p home ty = ap (named_parts p home) (initial-Undef ty) ∙ named-poison p home (size ty)

pub named-Poison : (p : ProgramData) (home : ℕ) (ty : Ty) → named_parts p home (initial_parts constant.Poison ty) ≡ Some (replicate (size ty) part.Poison)
named-Poison p home ty = ap (named_parts p home) (initial-Poison ty) ∙ named-poison p home (size ty)

pub named-Text : (p : ProgramData) (home : ℕ) (bytes : List ℕ) (ty : Ty) → named_parts p home (initial_parts (constant.Text bytes) ty) ≡ Some (map num bytes)
named-Text p home bytes ty = ap (named_parts p home) (initial-Text bytes ty) ∙ named-numbers p home bytes

pub named-Addr :
    (p : ProgramData) (home item : ℕ) (offset : ℤ) (of : Name Sym) (ty : Ty) → name_of p (record { «module» = home; item = item }) ≡ Some of →
    named_parts p home (initial_parts (constant.Addr item offset) ty) ≡ Some (map (byte_of of offset) address_bytes)
named-Addr p home item offset of ty is = ap (named_parts p home) (initial-Addr item offset ty) ∙ named-bytes p home item offset of address_bytes is
