-- A frame still fits once its instruction is done, or once more blocks were made, and so do those that wait.
use Rattle.std.proofs.Common.{◌≡◌, ◌≢◌, ◌∙◌, inl, inr, ℕ, suc, ◌+◌, ◌<◌, ◌≤◌, false, nat_lt, List, [], ◌∷◌, ◌++◌, length, set, slice_get, Option, Some, None, append_assoc, refl, sym, ap, subst, arith}
use Rattle.std.specs.List.{filter_map, cons_option}
use Rattle.std.proofs.lemmas.Bool.Decides.{nat_tests}
use Rattle.std.proofs.lemmas.List.{length-set}
use Rattle.ir_types.specs.declared.scalar.Scalar.{Scalar}
use Rattle.ir_types.proofs.ListSteps.{slice_get-within}
use Rattle.ir_syntax.specs.declared.symbol.Sym.{Sym}
use Rattle.ir_syntax.specs.declared.body.Inst.{Inst}
use Rattle.ir_syntax.specs.Definite.{first_result}
use Rattle.ir_syntax.specs.Programs.{ProgramData}
use Rattle.ir_syntax.specs.Results.{result_type, results}
use Rattle.block_memory.specs.declared.value.Val.{Val}
use Rattle.block_memory.specs.Answers.{Gives, Stuck}
use Rattle.block_memory.specs.Blocks.{MemoryData}
use Rattle.ir_steps.specs.States.{Frame, slot, Point}
use Rattle.ir_steps.specs.Results.{Next, went, with_result, behind_with, goes_on}
use Rattle.ir_steps.proofs.Fits.{IsValue, MemoryFits, IsPassed, IsHeld, FrameFits, returns_at, Wait, StateFits}
use Rattle.ir_steps.proofs.Values.{value_later, zip_weaker, IsResult}
use Rattle.ir_steps.proofs.Copied.{GoesOn}
use Rattle.ir_steps.proofs.Frames.{AtHead}
use Rattle.ir_steps.proofs.NumberingLists.{is_or_not, slot_set_same, slot_set_other}
use Rattle.ir_steps.proofs.Numbering.{results_after}
use Rattle.ir_steps.proofs.Safely.{Safe, safe_then, safe_when}

-- ---- a slot is set

-- what a slot holds, once another one or it itself is set
pub held_set : (p : ProgramData) (made : ℕ) (types : List Scalar) (rs : List (Option (Val Sym))) (k r : ℕ) (ty : Scalar) (v : Val Sym) → slice_get types k ≡ Some ty → IsValue p made ty v
    → ((r ≢ k) → IsHeld p made (slice_get types r) (slot rs r)) → k < length rs → IsHeld p made (slice_get types r) (slot (set rs k (Some v)) r)
held_set p made types rs k r ty v e h other within = elim (is_or_not r k) [
  | inl same ↦ subst (λ j. IsHeld p made (slice_get types j) (slot (set rs k (Some v)) j)) (sym same) (rw e (rw (slot_set_same rs k v within) h))
  | inr n ↦ rw (slot_set_other rs k r v n) (other n)
]

pub slot_within : (types : List Scalar) (rs : List (Option (Val Sym))) (k : ℕ) (ty : Scalar) → length rs ≡ length types → slice_get types k ≡ Some ty → k < length rs
slot_within types rs k ty count e = omega (arith, slice_get-within types k ty e)

-- ---- an instruction is done

-- A frame that fits, at an instruction, with a slot for its result.
pub record HasSlot (p : ProgramData) (made : ℕ) (f : Frame) (i : Inst) (behind : List Inst) : Type 0 where
  pub fits : FrameFits p made f
  pub rest : f.rest ≡ i ∷ behind
  pub result : (ty : Scalar) → result_type i ≡ Some ty → slice_get (results fits.body) f.next ≡ Some ty

pub has_slot : (p : ProgramData) (made : ℕ) (f : Frame) (i : Inst) (behind : List Inst) → AtHead p made f i behind → HasSlot p made f i behind
has_slot p made f i behind h = record { fits = h.fits; rest = h.rest; result = h.result }

one_more : (done : List Inst) (i : Inst) (n m : ℕ) → length (filter_map result_type (i ∷ [])) ≡ m → n ≡ length (filter_map result_type done) + m → n ≡ length (filter_map result_type (done ++ i ∷ []))
one_more done i n m e h = omega (arith, e, h, results_after done (i ∷ []))

-- the frame behind an instruction without a result
without_fits : (p : ProgramData) (made : ℕ) (f : Frame) (i : Inst) (behind : List Inst) → HasSlot p made f i behind → result_type i ≡ None → FrameFits p made (record f { rest = behind })
without_fits p made f i behind h t =
    let fits = h.fits in
    let done = fits.place.done in
    let b = fits.place.block in
    let counted : length (filter_map result_type (i ∷ [])) ≡ 0 = ap (λ o. length (cons_option o (filter_map result_type []))) t in
    let n : length (filter_map result_type done) ≡ length (filter_map result_type (done ++ i ∷ [])) = one_more done i (length (filter_map result_type done)) 0 counted (omega arith) in
    record {
      func = fits.func;
      body = fits.body;
      is = fits.is;
      has_body = fits.has_body;
      place = record {
        block = b;
        at = fits.place.at;
        done = done ++ i ∷ [];
        split = fits.place.split ∙ ap (λ r. done ++ r) h.rest ∙ sym (append_assoc done (i ∷ []) behind);
        last = fits.place.last;
        next = fits.place.next ∙ ap (λ m. first_result fits.body.blocks f.block + (length b.phis + m)) n;
      };
      visited = fits.visited;
      path = fits.path;
      set = fits.set;
      slots = fits.slots;
      args = fits.args;
    }

-- and behind one with a result
with_fits : (p : ProgramData) (made : ℕ) (f : Frame) (i : Inst) (behind : List Inst) (ty : Scalar) (v : Val Sym) → HasSlot p made f i behind → result_type i ≡ Some ty → IsValue p made ty v → FrameFits p made (with_result f behind v)
with_fits p made f i behind ty v h t value =
    let fits = h.fits in
    let done = fits.place.done in
    let b = fits.place.block in
    let blocks = fits.body.blocks in
    let types = results fits.body in
    let at = h.result ty t in
    let within = slot_within types f.results f.next ty fits.slots at in
    let counted : length (filter_map result_type (i ∷ [])) ≡ 1 = ap (λ o. length (cons_option o (filter_map result_type []))) t in
    let n : suc (length (filter_map result_type done)) ≡ length (filter_map result_type (done ++ i ∷ [])) = one_more done i (suc (length (filter_map result_type done))) 1 counted (omega arith) in
    let next : suc f.next ≡ first_result blocks f.block + (length b.phis + length (filter_map result_type (done ++ i ∷ []))) = omega (arith, fits.place.next, n) in
    record {
      func = fits.func;
      body = fits.body;
      is = fits.is;
      has_body = fits.has_body;
      place = record {
        block = b;
        at = fits.place.at;
        done = done ++ i ∷ [];
        split = fits.place.split ∙ ap (λ r. done ++ r) h.rest ∙ sym (append_assoc done (i ∷ []) behind);
        last = fits.place.last;
        next = next;
      };
      visited = fits.visited;
      path = fits.path;
      set = λ r passed. held_set p made types f.results f.next r ty v at value (λ apart. fits.set r (elim passed as (λ x. IsPassed blocks fits.visited f.block f.next r) [
        | inl before ↦ inl before
        | inr here ↦ inr (here.0, (let upper = here.1 in omega arith))
      ])) within;
      slots = length-set f.results f.next (Some v) ∙ fits.slots;
      args = fits.args;
    }

-- a frame that fits, of the same call
pub record SameCall (p : ProgramData) (made : ℕ) (f g : Frame) : Type 0 where
  pub fits : FrameFits p made g
  pub func : g.func ≡ f.func

not_less : (a b : ℕ) → a < b → nat_lt a b ≡ false → ⊥
not_less a b l e = grind (arith, nat_tests, e)

pub behind_safe : (p : ProgramData) (made : ℕ) (f : Frame) (i : Inst) (behind : List Inst) (t : Option Scalar) (o : Option (Val Sym)) → HasSlot p made f i behind → result_type i ≡ t → IsResult p made t o
    → Safe (SameCall p made f) (behind_with f behind o)
behind_safe p made f i behind None (Some v) h t r = absurd r
behind_safe p made f i behind (Some ty) None h t r = absurd r
behind_safe p made f i behind None None h t r = record { fits = without_fits p made f i behind h t; func = refl }
behind_safe p made f i behind (Some ty) (Some v) h t r =
    safe_when (SameCall p made f) (nat_lt f.next (length f.results)) (Gives (with_result f behind v)) Stuck
    (λ yes. record { fits = with_fits p made f i behind ty v h t r; func = refl })
    (λ fails. not_less f.next (length f.results) (slot_within (results h.fits.body) f.results f.next ty h.fits.slots (h.result ty t)) fails)

-- ---- more blocks

pub held_later : (p : ProgramData) (made more : ℕ) (t : Option Scalar) (o : Option (Val Sym)) → made ≤ more → IsHeld p made t o → IsHeld p more t o
held_later p made more None o l h = h
held_later p made more (Some ty) None l h = h
held_later p made more (Some ty) (Some v) l h = value_later p made more ty v l h

abbrev pub frame_later : (p : ProgramData) (made more : ℕ) (f : Frame) → made ≤ more → FrameFits p made f → FrameFits p more f
frame_later p made more f l h = record {
  func = h.func;
  body = h.body;
  is = h.is;
  has_body = h.has_body;
  place = h.place;
  visited = h.visited;
  path = h.path;
  set = λ r passed. held_later p made more (slice_get (results h.body) r) (slot f.results r) l (h.set r passed);
  slots = h.slots;
  args = zip_weaker (λ param v. IsValue p made param.ty v) (λ param v. IsValue p more param.ty v) h.func.params f.args (λ param v k. value_later p made more param.ty v l k) h.args;
}

pub wait_later : (p : ProgramData) (made more : ℕ) (returns : Option Scalar) (fs : List Frame) → made ≤ more → Wait p made returns fs → Wait p more returns fs
wait_later p made more returns [] l h = tt
wait_later p made more returns (f ∷ fs) l h = (frame_later p made more f l h.0, h.1, wait_later p made more (returns_at p f.func) fs l h.2)

pub slot_later : (p : ProgramData) (made more : ℕ) (f : Frame) (i : Inst) (behind : List Inst) → made ≤ more → HasSlot p made f i behind → HasSlot p more f i behind
slot_later p made more f i behind l h = record { fits = frame_later p made more f l h.fits; rest = h.rest; result = h.result }

-- ---- a call at an instruction

-- the state after a step fits
abbrev pub NextFits : ProgramData → Next → Type 0
NextFits p next = StateFits p next.1

-- A call at an instruction, with a slot for its result, over the frames that wait for it.
pub record AtPoint (p : ProgramData) (at : Point) (i : Inst) : Type 0 where
  pub memory : MemoryFits p at.memory
  pub slot : HasSlot p (length at.memory.made) at.frame i at.behind
  pub waits : Wait p (length at.memory.made) (returns_at p at.frame.func) at.below

-- the same over another memory, with no fewer blocks
pub later_at : (p : ProgramData) (at : Point) (i : Inst) (mem : MemoryData) → MemoryFits p mem → length at.memory.made ≤ length mem.made → AtPoint p at i → AtPoint p (record at { memory = mem }) i
later_at p at i mem fits l h =
    let made = length at.memory.made in
    record {
      memory = fits;
      slot = slot_later p made (length mem.made) at.frame i at.behind l h.slot;
      waits = wait_later p made (length mem.made) (returns_at p at.frame.func) at.below l h.waits;
    }

-- The step is done.
pub goes_on_safe : (p : ProgramData) (at : Point) (i : Inst) (t : Option Scalar) (o : Option (Val Sym)) → AtPoint p at i → result_type i ≡ t → IsResult p (length at.memory.made) t o → Safe (NextFits p) (goes_on at o)
goes_on_safe p at i t o h e r =
    let made = length at.memory.made in
    safe_then (SameCall p made at.frame) (NextFits p) (λ f. Gives (went (f ∷ at.below) at.memory)) (behind_with at.frame at.behind o) (behind_safe p made at.frame i at.behind t o h.slot e r)
    (λ f same. record { memory = h.memory; frames = (same.fits, subst (λ symbol. Wait p made (returns_at p symbol) at.below) (sym same.func) h.waits) })

pub goes_on_later : (p : ProgramData) (at : Point) (i : Inst) (t : Option Scalar) → AtPoint p at i → result_type i ≡ t → GoesOn p (NextFits p) at t
goes_on_later p at i t h e mem result fits l is = goes_on_safe p (record at { memory = mem }) i t result (later_at p at i mem fits l h) e is
