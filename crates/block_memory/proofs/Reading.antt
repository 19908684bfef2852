-- Numbers and addresses in bytes, read by halves and byte by byte.
use Rattle.std.proofs.Common.{◌≡◌, ℕ, zero, suc, ◌+◌, ◌-◌, ◌*◌, ◌<◌, ◌≤◌, ◌&&◌, ℤ, List, [], ◌∷◌, ◌++◌, length, take, drop, get_or, Option, Some, None, option_map, refl, ap, sym, ◌∙◌, mul_assoc, if◌then◌else◌, arith}
use Rattle.std.proofs.lemmas.List.{drop_more, length-drop, length-take, drop-drop}
use Rattle.std.proofs.Math.Seq.{take-add}
use Rattle.ir_syntax.specs.declared.symbol.Sym.{Sym}
use Rattle.ir_syntax.specs.InitialBytes.{address_bytes}
use Rattle.block_memory.specs.declared.value.Name.{Name}
use Rattle.block_memory.specs.declared.value.Val.TheVariants as val
use Rattle.block_memory.specs.declared.value.Part.{Part}
use Rattle.block_memory.specs.declared.value.Part.TheVariants as part
use Rattle.block_memory.specs.Parts.{number_in, is_byte_of, are_bytes_of, address_in, null_in, pointer_in}

-- the part at a place, and those behind it
pub take_next :
    (count at : ℕ) (parts : List (Part Sym)) → at < length parts →
    take (suc count) (drop at parts) ≡ get_or parts at part.Poison ∷ take count (drop (at + 1) parts)
take_next count at parts within = ap (take (suc count)) (drop_more parts at part.Poison within)

-- two numbers, the one behind the other
abbrev pub joined : ℕ → Option ℕ → Option ℕ → Option ℕ
joined scale None high = None
joined scale (Some low) None = None
joined scale (Some low) (Some high) = Some (low + scale * high)

-- what so many bytes count
abbrev pub scale : ℕ → ℕ
scale zero = 1
scale (suc count) = 256 * scale count

joined_behind :
    (byte counts : ℕ) (low high : Option ℕ) →
    option_map (λ n. byte + 256 * n) (joined counts low high) ≡ joined (256 * counts) (option_map (λ n. byte + 256 * n) low) high
joined_behind byte counts None high = refl
joined_behind byte counts (Some low) None = refl
joined_behind byte counts (Some low) (Some high) = ap Some (omega (arith, mul_assoc 256 counts high))

number_in-append : (low high : List (Part Sym)) → number_in (low ++ high) ≡ joined (scale (length low)) (number_in low) (number_in high)
number_in-append [] high = joined_nothing (number_in high) where
  joined_nothing : (n : Option ℕ) → n ≡ joined 1 (Some 0) n
  joined_nothing None = refl
  joined_nothing (Some n) = ap Some (omega arith)
number_in-append (part.Poison ∷ low) high = refl
number_in-append (part.Num byte ∷ low) high = ap (option_map (λ n. byte + 256 * n)) (number_in-append low high) ∙ joined_behind byte (scale (length low)) (number_in low) (number_in high)
number_in-append (part.Of of offset k ∷ low) high = refl

number_in_pair :
    (n m at : ℕ) (parts : List (Part Sym)) → at + n ≤ length parts →
    number_in (take (n + m) (drop at parts)) ≡ joined (scale n) (number_in (take n (drop at parts))) (number_in (take m (drop (at + n) parts)))
number_in_pair n m at parts within =
    let front : List (Part Sym) = take n (drop at parts) in
    let long : length front ≡ n = length-take n (drop at parts) ∙ simp (length-drop) (omega arith) in
    ap number_in (take-add n m (drop at parts))
    ∙ number_in-append front (take m (drop n (drop at parts)))
    ∙ ap (λ count. joined (scale count) (number_in front) (number_in (take m (drop n (drop at parts))))) long
    ∙ ap (λ rest. joined (scale n) (number_in front) (number_in (take m rest))) (drop-drop n at parts)

pub number_in_1 : (at : ℕ) (parts : List (Part Sym)) → at + 1 ≤ length parts → take 1 (drop at parts) ≡ get_or parts at part.Poison ∷ []
number_in_1 at parts within = take_next 0 at parts (omega arith)

pub number_in_2 :
    (at : ℕ) (parts : List (Part Sym)) → at + 2 ≤ length parts →
    number_in (take 2 (drop at parts)) ≡ joined 256 (number_in (take 1 (drop at parts))) (number_in (take 1 (drop (at + 1) parts)))
number_in_2 at parts within = number_in_pair 1 1 at parts (omega arith)

pub number_in_4 :
    (at : ℕ) (parts : List (Part Sym)) → at + 4 ≤ length parts →
    number_in (take 4 (drop at parts)) ≡ joined 65536 (number_in (take 2 (drop at parts))) (number_in (take 2 (drop (at + 2) parts)))
number_in_4 at parts within = number_in_pair 2 2 at parts (omega arith)

pub number_in_8 :
    (at : ℕ) (parts : List (Part Sym)) → at + 8 ≤ length parts →
    number_in (take 8 (drop at parts)) ≡ joined 4294967296 (number_in (take 4 (drop at parts))) (number_in (take 4 (drop (at + 4) parts)))
number_in_8 at parts within = number_in_pair 4 4 at parts (omega arith)

-- ---- addresses

pub bytes_next : (k : ℕ) → k < 8 → drop k address_bytes ≡ k ∷ drop (k + 1) address_bytes
bytes_next zero below = refl
bytes_next (suc zero) below = refl
bytes_next (suc (suc zero)) below = refl
bytes_next (suc (suc (suc zero))) below = refl
bytes_next (suc (suc (suc (suc zero)))) below = refl
bytes_next (suc (suc (suc (suc (suc zero))))) below = refl
bytes_next (suc (suc (suc (suc (suc (suc zero)))))) below = refl
bytes_next (suc (suc (suc (suc (suc (suc (suc zero))))))) below = refl
bytes_next (suc (suc (suc (suc (suc (suc (suc (suc k)))))))) below = absurd (omega arith)

-- the bytes of an address from the k-th on: the k-th, and those behind it
pub bytes_of_next :
    (of : Name Sym) (offset : ℤ) (k at : ℕ) (parts : List (Part Sym)) → k < 8 → at + 8 ≤ length parts →
    are_bytes_of of offset (drop k address_bytes) (take (8 - k) (drop (at + k) parts))
    ≡ is_byte_of of offset k (get_or parts (at + k) part.Poison) && are_bytes_of of offset (drop (k + 1) address_bytes) (take (8 - (k + 1)) (drop (at + (k + 1)) parts))
bytes_of_next of offset k at parts below within =
    let left : 8 - k ≡ suc (8 - (k + 1)) = omega arith in
    let next : at + k + 1 ≡ at + (k + 1) = omega arith in
    ap (λ ks. are_bytes_of of offset ks (take (8 - k) (drop (at + k) parts))) (bytes_next k below)
    ∙ ap (λ count. are_bytes_of of offset (k ∷ drop (k + 1) address_bytes) (take count (drop (at + k) parts))) left
    ∙ ap (are_bytes_of of offset (k ∷ drop (k + 1) address_bytes)) (take_next (8 - (k + 1)) (at + k) parts (omega arith))
    ∙ ap (λ from. is_byte_of of offset k (get_or parts (at + k) part.Poison) && are_bytes_of of offset (drop (k + 1) address_bytes) (take (8 - (k + 1)) (drop from parts))) next

-- ---- from the first byte

pub pointer_of_poison :
    (parts : List (Part Sym)) (at : ℕ) → at + 8 ≤ length parts → get_or parts at part.Poison ≡ part.Poison → pointer_in (take 8 (drop at parts)) ≡ val.Poison
pointer_of_poison parts at within first = ap pointer_in (take_next 7 at parts (omega arith)) ∙ ap (λ x. pointer_in (x ∷ take 7 (drop (at + 1) parts))) first

pub pointer_of_number :
    (parts : List (Part Sym)) (at byte : ℕ) → at + 8 ≤ length parts → get_or parts at part.Poison ≡ part.Num byte →
    pointer_in (take 8 (drop at parts)) ≡ null_in (number_in (take 8 (drop at parts)))
pointer_of_number parts at byte within first =
    let bytes : take 8 (drop at parts) ≡ part.Num byte ∷ take 7 (drop (at + 1) parts) = take_next 7 at parts (omega arith) ∙ ap (λ x. x ∷ take 7 (drop (at + 1) parts)) first in
    ap pointer_in bytes ∙ sym (ap (λ xs. null_in (number_in xs)) bytes)

pub pointer_of_address :
    (parts : List (Part Sym)) (at : ℕ) (of : Name Sym) (offset : ℤ) (k : ℕ) → at + 8 ≤ length parts → get_or parts at part.Poison ≡ part.Of of offset k →
    pointer_in (take 8 (drop at parts)) ≡ (if are_bytes_of of offset address_bytes (take 8 (drop at parts)) then address_in (get_or parts at part.Poison) else val.Poison)
pointer_of_address parts at of offset k within first =
    let bytes : take 8 (drop at parts) ≡ part.Of of offset k ∷ take 7 (drop (at + 1) parts) = take_next 7 at parts (omega arith) ∙ ap (λ x. x ∷ take 7 (drop (at + 1) parts)) first in
    ap pointer_in bytes
    ∙ sym (ap (λ xs. if are_bytes_of of offset address_bytes xs then address_in (part.Of of offset k) else val.Poison) bytes)
    ∙ ap (λ x. if are_bytes_of of offset address_bytes (take 8 (drop at parts)) then address_in x else val.Poison) (sym first)
