-- Writes part by part.
use Rattle.std.proofs.Common.{◌≡◌, ℕ, suc, ◌+◌, ◌-◌, ◌/◌, ◌%◌, ◌<◌, ◌≤◌, ℤ, List, [], ◌∷◌, ◌++◌, length, map, set, take, drop, get_or, replicate, refl, ap, sym, ◌∙◌, arith}
use Rattle.std.proofs.lemmas.List.{take_more, length-take, length-drop, drop-set-lt, drop-set-add, take-set-le, set_comm, get_or-drop}
use Rattle.std.proofs.lemmas.List.Edits.{sets, sets-eq}
use Rattle.ir_syntax.specs.declared.symbol.Sym.{Sym}
use Rattle.ir_syntax.specs.InitialBytes.{little_endian, address_bytes}
use Rattle.block_memory.specs.declared.value.Name.{Name}
use Rattle.block_memory.specs.declared.value.Part.{Part}
use Rattle.block_memory.specs.declared.value.Part.TheVariants as part
use Rattle.block_memory.specs.Accesses.{replaced}
use Rattle.block_memory.specs.Mirrors.Writing.{set_from}
use Rattle.block_memory.proofs.Reading.{take_next, bytes_next}

-- Once the next part is written, what is left to be written makes the same.
pub written_on :
    (parts whole : List (Part Sym)) (at k : ℕ) (next : Part Sym) (left rest : List (Part Sym)) → left ≡ next ∷ rest → set_from parts (at + k) left ≡ whole →
    set_from (set parts (at + k) next) (at + (k + 1)) rest ≡ whole
written_on parts whole at k next left rest is makes =
    let further : at + (k + 1) ≡ at + k + 1 = omega arith in
    ap (λ from. set_from (set parts (at + k) next) from rest) further ∙ sym (ap (set_from parts (at + k)) is) ∙ makes

-- ---- what is left

abbrev pub num : ℕ → Part Sym
num byte = part.Num byte

pub number_next :
    (count k n : ℕ) → k < count →
    map num (little_endian (count - k) n) ≡ num (n % 256) ∷ map num (little_endian (count - (k + 1)) (n / 256))
number_next count k n below =
    let more : count - k ≡ suc (count - (k + 1)) = omega arith in
    ap (λ left. map num (little_endian left n)) more

abbrev pub byte_of : Name Sym → ℤ → ℕ → Part Sym
byte_of of offset k = part.Of of offset k

pub address_next :
    (of : Name Sym) (offset : ℤ) (k : ℕ) → k < 8 → map (byte_of of offset) (drop k address_bytes) ≡ byte_of of offset k ∷ map (byte_of of offset) (drop (k + 1) address_bytes)
address_next of offset k below = ap (map (byte_of of offset)) (bytes_next k below)

pub copies_next : (count k : ℕ) (each : Part Sym) → k < count → replicate (count - k) each ≡ each ∷ replicate (count - (k + 1)) each
copies_next count k each below =
    let more : count - k ≡ suc (count - (k + 1)) = omega arith in
    ap (λ left. replicate left each) more

pub bytes_left_next :
    (parts : List (Part Sym)) (from count k : ℕ) → k < count → from + count ≤ length parts →
    take (count - k) (drop (from + k) parts) ≡ get_or parts (from + k) part.Poison ∷ take (count - (k + 1)) (drop (from + (k + 1)) parts)
bytes_left_next parts from count k below within =
    let more : count - k ≡ suc (count - (k + 1)) = omega arith in
    let further : from + k + 1 ≡ from + (k + 1) = omega arith in
    ap (λ left. take left (drop (from + k) parts)) more
    ∙ take_next (count - (k + 1)) (from + k) parts (omega arith)
    ∙ ap (λ place. get_or parts (from + k) part.Poison ∷ take (count - (k + 1)) (drop place parts)) further

-- a part moved back leaves what is left as it was
pub left_unmoved :
    (parts : List (Part Sym)) (from to count k : ℕ) (next : Part Sym) → to ≤ from →
    take (count - (k + 1)) (drop (from + (k + 1)) (set parts (to + k) next)) ≡ take (count - (k + 1)) (drop (from + (k + 1)) parts)
left_unmoved parts from to count k next back = ap (take (count - (k + 1))) (drop-set-lt (from + (k + 1)) parts (to + k) next (omega arith))

-- ---- whole

set_from-sets : (parts : List (Part Sym)) (at : ℕ) (new : List (Part Sym)) → set_from parts at new ≡ sets parts at new
set_from-sets parts at [] = refl
set_from-sets parts at (first ∷ rest) =
    let next : at + 1 ≡ suc at = omega arith in
    ap (λ from. set_from (set parts at first) from rest) next ∙ set_from-sets (set parts at first) (suc at) rest

-- A write that fits leaves what stands before and behind.
pub set_from-replaced : (parts : List (Part Sym)) (at : ℕ) (new : List (Part Sym)) → at + length new ≤ length parts → set_from parts at new ≡ replaced parts at new
set_from-replaced parts at new fits = set_from-sets parts at new ∙ sets-eq new parts at fits

-- ---- a move from the last part on

set_past_end :
    (parts new : List (Part Sym)) (at : ℕ) (last : Part Sym) → set_from (set parts (at + length new) last) at new ≡ set_from parts at (new ++ last ∷ [])
set_past_end parts [] at last =
    let here : at + 0 ≡ at = omega arith in
    ap (λ place. set parts place last) here
set_past_end parts (first ∷ new) at last =
    let further : at + suc (length new) ≡ at + 1 + length new = omega arith in
    let apart : at + suc (length new) ≡ at → ⊥ = λ same. omega arith in
    ap (λ ps. set_from ps (at + 1) new) (set_comm parts (at + suc (length new)) at last first apart)
    ∙ ap (λ place. set_from (set (set parts at first) place last) (at + 1) new) further
    ∙ set_past_end (set parts at first) new (at + 1) last

-- Once the last part that is left is moved, what is left makes the same.
pub moved_on :
    (parts whole : List (Part Sym)) (from to left : ℕ) → from ≤ to → from + left < length parts →
    set_from parts to (take (left + 1) (drop from parts)) ≡ whole →
    set_from (set parts (to + left) (get_or parts (from + left) part.Poison)) to (take left (drop from (set parts (to + left) (get_or parts (from + left) part.Poison)))) ≡ whole
moved_on parts whole from to left on within makes =
    let last : Part Sym = get_or parts (from + left) part.Poison in
    let there : left < length (drop from parts) = simp (length-drop) (omega arith) in
    let long : length (take left (drop from parts)) ≡ left = length-take left (drop from parts) ∙ omega arith in
    ap (set_from (set parts (to + left) last) to) (unmoved parts last)
    ∙ ap (λ place. set_from (set parts place last) to (take left (drop from parts))) (ap (λ n. to + n) (sym long))
    ∙ set_past_end parts (take left (drop from parts)) to last
    ∙ ap (λ x. set_from parts to (take left (drop from parts) ++ x ∷ [])) (sym (get_or-drop from parts left part.Poison))
    ∙ ap (set_from parts to) (sym (take_more (drop from parts) left part.Poison there))
    ∙ makes where
      unmoved : (ps : List (Part Sym)) (last : Part Sym) → take left (drop from (set ps (to + left) last)) ≡ take left (drop from ps)
      unmoved ps last =
          let place : from + (to + left - from) ≡ to + left = omega arith in
          ap (λ at. take left (drop from (set ps at last))) (sym place)
          ∙ ap (take left) (drop-set-add from ps (to + left - from) last)
          ∙ take-set-le left (drop from ps) (to + left - from) last (omega arith)
