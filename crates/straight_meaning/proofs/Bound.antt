-- How many steps a run makes for each that stays: what is left of a block is paid for by the last step that stayed.
use Rattle.std.proofs.Common.{◌≡◌, ◌∙◌, ℕ, zero, suc, ◌+◌, ◌*◌, ◌<◌, ◌≤◌, Bool, true, false, List, [], ◌∷◌, length, Some, slice_get, ap, arith}
use Rattle.std.specs.Prelude.{◌/◌, if◌then◌else◌}
use Rattle.std.proofs.Math.Nat.{mul-suc, mul_comm, div-zero}
use Rattle.std.proofs.lemmas.Nat.{div_below}
use Rattle.ir_syntax.specs.declared.constant.Operand.{Operand}
use Rattle.ir_syntax.specs.declared.body.Inst.{Inst}
use Rattle.ir_syntax.specs.declared.item.Func.{Func}
use Rattle.ir_syntax.specs.declared.item.Item.{Item}
use Rattle.ir_syntax.specs.declared.item.Item.TheVariants as item
use Rattle.ir_syntax.specs.declared.item.Module.{Module}
use Rattle.ir_syntax.specs.Straight.{straight_body}
use Rattle.straight_meaning.specs.State.{Frame}
use Rattle.straight_meaning.specs.Kept.{longest_of_item, longest_of_body, longest_among, longest_block}

-- what is left of each call's block, with the terminator, is no longer than the longest block
abbrev pub AllShort : ℕ → List Frame → Type 0
AllShort longest [] = Unit {0}
AllShort longest (f ∷ fs) = (suc (length f.rest) ≤ longest) × AllShort longest fs

-- the steps that are left of the innermost call's block
abbrev pub top : List Frame → ℕ
top [] = 0
top (f ∷ fs) = suc (length f.rest)

-- as many as a block may have, where a call runs
abbrev pub room : ℕ → List Frame → ℕ
room longest [] = 0
room longest (f ∷ fs) = longest

abbrev pub Fits : ℕ → ℕ → ℕ → List Frame → Type 0
Fits longest begun kept frames = AllShort longest frames × (begun + top frames ≤ longest * kept + room longest frames)

-- ---- the longest block

longest_at : (items : List Item) (k : ℕ) (i : Item) → slice_get items k ≡ Some i → longest_of_item i ≤ longest_among items
longest_at [] k i e = cc
longest_at (x ∷ xs) zero i e =
    let same : x ≡ i = cc in
    let one : longest_of_item x ≡ longest_of_item i = ap longest_of_item same in
    omega (arith, one)
longest_at (x ∷ xs) (suc k) i e = omega (arith, longest_at xs k i e)

pub head_short : (m : Module) (place : ℕ) (func : Func) (insts : List Inst) (v : Operand) → slice_get m.items place ≡ Some (item.Func func) → func.body ≡ Some (straight_body insts v)
    → suc (length insts) ≤ longest_block m
head_short m place func insts v at body =
    let one : longest_of_body func.body ≡ longest_of_body (Some (straight_body insts v)) = ap longest_of_body body in
    omega (arith, longest_at m.items place (item.Func func) at, one)

-- ---- steps

one_more : (longest kept : ℕ) → longest * (kept + 1) ≡ longest * kept + longest
one_more longest kept = let next : kept + 1 ≡ suc kept = omega arith in ap (λ k. longest * k) next ∙ mul-suc longest kept

none_more : (longest kept : ℕ) → longest * (kept + 0) ≡ longest * kept
none_more longest kept = let next : kept + 0 ≡ kept = omega arith in ap (λ k. longest * k) next

-- a step within a root's call
pub moved_fits : (longest begun kept : ℕ) (stay : Bool) (f : Frame) (fs : List Frame) (g : Frame) (gs : List Frame)
    → AllShort longest (g ∷ gs) × (top (g ∷ gs) + 1 ≤ top (f ∷ fs) + (if stay then longest else 0)) → Fits longest begun kept (f ∷ fs)
    → Fits longest (begun + 1) (kept + (if stay then 1 else 0)) (g ∷ gs)
moved_fits longest begun kept true f fs g gs s h =
    let spent = s.1 in
    let fit = h.1 in
    (s.0, omega (arith, one_more longest kept, spent, fit))
moved_fits longest begun kept false f fs g gs s h =
    let spent = s.1 in
    let fit = h.1 in
    (s.0, omega (arith, none_more longest kept, spent, fit))

-- the return of a root's call
pub left_fits : (longest begun kept : ℕ) (f : Frame) (fs gs : List Frame) → AllShort longest gs → top gs ≤ room longest gs → top (f ∷ fs) ≡ 1 → Fits longest begun kept (f ∷ fs)
    → Fits longest (begun + 1) (kept + 1) gs
left_fits longest begun kept f fs gs s r e h =
    let fit = h.1 in
    (s, omega (arith, one_more longest kept, r, e, fit))

pub stopped_fits : (longest begun kept : ℕ) (fs : List Frame) → Fits longest begun kept fs → Fits longest (begun + 0) (kept + 0) fs
stopped_fits longest begun kept fs h =
    let fit = h.1 in
    (h.0, omega (arith, none_more longest kept, fit))

-- ---- the bound

below_more : (longest begun kept : ℕ) → 0 < longest → begun < longest * kept + longest → begun / longest ≤ kept
below_more longest begun kept l h =
    let less : begun < suc kept * longest = omega (arith, h, mul-suc longest kept, mul_comm longest (suc kept)) in
    let few : begun / longest < suc kept = div_below begun longest (suc kept) l less in
    omega (arith, few)

below_whole : (longest begun kept : ℕ) → begun ≤ longest * kept → begun / longest ≤ kept
below_whole zero begun kept h = let none : begun / 0 ≡ 0 = div-zero begun in omega (arith, none)
below_whole (suc longest) begun kept h = below_more (suc longest) begun kept (omega arith) (omega (arith, h))

pub fits_bound : (longest begun kept : ℕ) (fs : List Frame) → Fits longest begun kept fs → begun / longest ≤ kept
fits_bound longest begun kept [] h = let fit = h.1 in below_whole longest begun kept (omega (arith, fit))
fits_bound longest begun kept (f ∷ fs) h =
    let short = h.0.0 in
    let fit = h.1 in
    below_more longest begun kept (omega (arith, short)) (omega (arith, fit))
