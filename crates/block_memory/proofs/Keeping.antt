-- Bytes as the code keeps them: what is at a place, and what a change makes of it.
use Rattle.std.proofs.Common.{◌≡◌, ℕ, zero, suc, ◌+◌, ◌-◌, ◌<◌, ◌≤◌, List, [], ◌∷◌, ◌++◌, length, get_or, set, replicate, slice_get, length-append, Some, None, refl, ap, ◌∙◌, arith}
use Rattle.std.proofs.lemmas.List.{length-replicate, replicate_more, append_assoc}
use Rattle.block_memory.specs.declared.value.Part.TheVariants as part
use Rattle.block_memory.specs.declared.mark.Mark.{Mark}
use Rattle.block_memory.specs.declared.mark.Mark.TheVariants as mark
use Rattle.block_memory.specs.declared.mark.Address.{Address}
use Rattle.block_memory.specs.declared.mark.Address.TheVariants as address
use Rattle.block_memory.specs.Mirrors.Keeping.{byte_of_address, marked, parts_kept}

pub length_kept : (marks : List Mark) (addresses : List Address) → length (parts_kept marks addresses) ≡ length marks
length_kept [] addresses = refl
length_kept (first ∷ marks) [] = ap suc (length_kept marks [])
length_kept (first ∷ marks) (kept ∷ addresses) = ap suc (length_kept marks addresses)

-- the part at a place
pub kept_at :
    (marks : List Mark) (addresses : List Address) (at : ℕ) → at < length marks →
    get_or (parts_kept marks addresses) at part.Poison ≡ marked (get_or marks at mark.Poison) (slice_get addresses at)
kept_at [] addresses at within = absurd (omega arith)
kept_at (first ∷ marks) [] zero within = refl
kept_at (first ∷ marks) [] (suc at) within = kept_at marks [] at (omega arith)
kept_at (first ∷ marks) (kept ∷ addresses) zero within = refl
kept_at (first ∷ marks) (kept ∷ addresses) (suc at) within = kept_at marks addresses at (omega arith)

-- a mark at a place
pub kept_set :
    (marks : List Mark) (addresses : List Address) (at : ℕ) (new : Mark) →
    parts_kept (set marks at new) addresses ≡ set (parts_kept marks addresses) at (marked new (slice_get addresses at))
kept_set [] addresses at new = refl
kept_set (first ∷ marks) [] zero new = refl
kept_set (first ∷ marks) [] (suc at) new = ap (λ rest. marked first None ∷ rest) (kept_set marks [] at new)
kept_set (first ∷ marks) (kept ∷ addresses) zero new = refl
kept_set (first ∷ marks) (kept ∷ addresses) (suc at) new = ap (λ rest. marked first (Some kept) ∷ rest) (kept_set marks addresses at new)

-- An address that is unused is none.
marked_unused : (m : Mark) → marked m (Some address.Unused) ≡ marked m None
marked_unused mark.Poison = refl
marked_unused (mark.Num byte) = refl
marked_unused (mark.Address k) = refl

kept_unused : (marks : List Mark) (count : ℕ) → parts_kept marks (replicate count address.Unused) ≡ parts_kept marks []
kept_unused [] count = refl
kept_unused (first ∷ marks) zero = refl
kept_unused (first ∷ marks) (suc count) = ap (λ m. m ∷ parts_kept marks (replicate count address.Unused)) (marked_unused first) ∙ ap (λ rest. marked first None ∷ rest) (kept_unused marks count)

pub kept_more : (marks : List Mark) (addresses : List Address) (count : ℕ) → parts_kept marks (addresses ++ replicate count address.Unused) ≡ parts_kept marks addresses
kept_more [] addresses count = refl
kept_more (first ∷ marks) [] count = kept_unused (first ∷ marks) count
kept_more (first ∷ marks) (kept ∷ addresses) count = ap (λ rest. marked first (Some kept) ∷ rest) (kept_more marks addresses count)

-- a byte of an address, with the address
pub kept_set_address :
    (marks : List Mark) (addresses : List Address) (at k : ℕ) (new : Address) → at < length addresses →
    parts_kept (set marks at (mark.Address k)) (set addresses at new) ≡ set (parts_kept marks addresses) at (byte_of_address new k)
kept_set_address [] addresses at k new within = refl
kept_set_address (first ∷ marks) [] at k new within = absurd (omega arith)
kept_set_address (first ∷ marks) (kept ∷ addresses) zero k new within = refl
kept_set_address (first ∷ marks) (kept ∷ addresses) (suc at) k new within = ap (λ rest. marked first (Some kept) ∷ rest) (kept_set_address marks addresses at k new (omega arith))

pub kept_replicate : (count : ℕ) (m : Mark) → parts_kept (replicate count m) [] ≡ replicate count (marked m None)
kept_replicate zero m = refl
kept_replicate (suc count) m = ap (λ rest. marked m None ∷ rest) (kept_replicate count m)

-- the same where addresses are made up to the place
pub kept_put :
    (marks : List Mark) (addresses : List Address) (at k : ℕ) (new : Address) →
    parts_kept (set marks at (mark.Address k)) (set (addresses ++ replicate (at + 1 - length addresses) address.Unused) at new)
    ≡ set (parts_kept marks addresses) at (byte_of_address new k)
kept_put marks addresses at k new =
    let count : ℕ = at + 1 - length addresses in
    let within : at < length (addresses ++ replicate count address.Unused) = simp (length-append, length-replicate) (omega arith) in
    kept_set_address marks (addresses ++ replicate count address.Unused) at k new within ∙ ap (λ parts. set parts at (byte_of_address new k)) (kept_more marks addresses count)

-- one more that is unused
pub more_unused :
    (addresses : List Address) (place : ℕ) → length addresses ≤ place →
    (addresses ++ replicate (place - length addresses) address.Unused) ++ address.Unused ∷ [] ≡ addresses ++ replicate (place + 1 - length addresses) address.Unused
more_unused addresses place from =
    let count : ℕ = place - length addresses in
    let more : count + 1 ≡ place + 1 - length addresses = omega arith in
    append_assoc addresses (replicate count address.Unused) (address.Unused ∷ [])
    ∙ ap (λ rest. addresses ++ rest) (replicate_more count address.Unused)
    ∙ ap (λ n. addresses ++ replicate n address.Unused) more
