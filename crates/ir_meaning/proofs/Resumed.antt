-- A call at its instruction, and one that goes on behind a call that has returned.
use Rattle.std.proofs.Common.{◌≡◌, ◌∙◌, ℕ, zero, suc, ◌<◌, List, [], ◌∷◌, length, drop, Option, Some, None, refl, sym, ap, subst, slice_get, option_and_then, IsSome}
use Rattle.ir_types.specs.declared.scalar.Scalar.{Scalar}
use Rattle.ir_syntax.specs.declared.symbol.Sym.{Sym}
use Rattle.ir_syntax.specs.declared.body.Inst.{Inst}
use Rattle.ir_syntax.specs.declared.body.Inst.TheVariants.{Bin, Icmp, Select, Cast, Alloca, Load, Store, Gep, Call}
use Rattle.ir_syntax.specs.declared.body.Block.{Block}
use Rattle.ir_syntax.specs.Programs.{ProgramData}
use Rattle.block_memory.specs.declared.value.Val.{Val}
use Rattle.block_memory.specs.Answers.{Answer, Gives, Undefined, Stuck, IsMeant, and_then}
use Rattle.block_memory.specs.Blocks.{MemoryData}
use Rattle.ir_steps.specs.States.{Frame, Point}
use Rattle.ir_steps.specs.Results.{Next, went, with_result, goes_on, gives_result}
use Rattle.ir_steps.specs.Returns.{resumed, resume}
use Rattle.ir_meaning.specs.Models.{FrameData, block_in, rest_of, frame_of}
use Rattle.ir_meaning.specs.Mirrors.Passing.{passed, passed_with}
use Rattle.ir_meaning.proofs.Passing.{slot_is_there, result_is_set}

drop_some : (xs : List Inst) (at : ℕ) (i : Inst) → slice_get xs at ≡ Some i → drop at xs ≡ i ∷ drop (suc at) xs
drop_some [] at i e = absurd (cc (e))
drop_some (x ∷ xs) zero i e = let same : x ≡ i = cc (e) in ap (λ y. y ∷ xs) same
drop_some (x ∷ xs) (suc at) i e = drop_some xs at i e

drop_none : (xs : List Inst) (at : ℕ) → slice_get xs at ≡ None → drop at xs ≡ []
drop_none [] zero e = refl
drop_none [] (suc at) e = refl
drop_none (x ∷ xs) zero e = absurd (cc (e))
drop_none (x ∷ xs) (suc at) e = drop_none xs at e

-- what is left of the block begins with the instruction at the place
pub head_is : (p : ProgramData) (f : FrameData) (block : Block) (i : Inst) → block_in p f.func f.block ≡ Some block → slice_get block.insts f.place ≡ Some i → rest_of f.place (block_in p f.func f.block) ≡ i ∷ rest_of (suc f.place) (block_in p f.func f.block)
head_is p f block i is at = ap (rest_of f.place) is ∙ drop_some block.insts f.place i at ∙ ap (λ o. i ∷ rest_of (suc f.place) o) (sym is)

pub end_is : (p : ProgramData) (f : FrameData) (block : Block) → block_in p f.func f.block ≡ Some block → slice_get block.insts f.place ≡ None → rest_of f.place (block_in p f.func f.block) ≡ []
end_is p f block is at = ap (rest_of f.place) is ∙ drop_none block.insts f.place at

-- ---- calls that wait

waits_in : (f : Frame) (mem : MemoryData) (r : Option (Val Sym)) (place : ℕ) (o : Option Block) → IsMeant (resume f [] mem r (rest_of place o)) → IsSome o
waits_in f mem r place None meant = absurd meant
waits_in f mem r place (Some block) meant = refl

no_memory : MemoryData
no_memory = record { vars = []; made = [] }

abbrev pub Resumes : ProgramData → FrameData → Option (Val Sym) → Type 0
Resumes p f r = (below : List Frame) (mem : MemoryData) → IsMeant (resume (frame_of p f) below mem r (frame_of p f).rest)

pub waits_in_block : (p : ProgramData) (f : FrameData) (r : Option (Val Sym)) → Resumes p f r → IsSome (block_in p f.func f.block)
waits_in_block p f r meant = waits_in (frame_of p f) no_memory r f.place (block_in p f.func f.block) (meant [] no_memory)

pub waits_at_inst : (p : ProgramData) (f : FrameData) (r : Option (Val Sym)) (block : Block) → Resumes p f r → block_in p f.func f.block ≡ Some block → slice_get block.insts f.place ≡ None → ⊥
waits_at_inst p f r block meant is at = subst (λ insts. IsMeant (resume (frame_of p f) [] no_memory r insts)) (end_is p f block is at) (meant [] no_memory)

with_value : (f : Frame) (below : List Frame) (mem : MemoryData) (x : Val Sym) (i : Inst) (behind : List Inst) → IsMeant (resume f below mem (Some x) (i ∷ behind)) → resume f below mem (Some x) (i ∷ behind) ≡ gives_result (record { frame = f; behind = behind; below = below; memory = mem }) x
with_value f below mem x (Bin op flags ty a b) behind meant = absurd meant
with_value f below mem x (Icmp pred ty a b) behind meant = absurd meant
with_value f below mem x (Select ty cond a b) behind meant = absurd meant
with_value f below mem x (Cast op nneg from to a) behind meant = absurd meant
with_value f below mem x (Alloca ty count align) behind meant = absurd meant
with_value f below mem x (Load ty at align) behind meant = absurd meant
with_value f below mem x (Store ty a at align) behind meant = absurd meant
with_value f below mem x (Gep inbounds ty base indices) behind meant = absurd meant
with_value f below mem x (Call fn_ty ret_ext callee args) behind meant = of_type fn_ty.returns meant where
  of_type : (ty : Option Scalar) → IsMeant (resumed (record { frame = f; behind = behind; below = below; memory = mem }) ty (Some x)) → resumed (record { frame = f; behind = behind; below = below; memory = mem }) ty (Some x) ≡ gives_result (record { frame = f; behind = behind; below = below; memory = mem }) x
  of_type None meant = absurd meant
  of_type (Some ty) meant = refl

without_value : (f : Frame) (below : List Frame) (mem : MemoryData) (i : Inst) (behind : List Inst) → IsMeant (resume f below mem None (i ∷ behind)) → resume f below mem None (i ∷ behind) ≡ goes_on (record { frame = f; behind = behind; below = below; memory = mem }) None
without_value f below mem (Bin op flags ty a b) behind meant = absurd meant
without_value f below mem (Icmp pred ty a b) behind meant = absurd meant
without_value f below mem (Select ty cond a b) behind meant = absurd meant
without_value f below mem (Cast op nneg from to a) behind meant = absurd meant
without_value f below mem (Alloca ty count align) behind meant = absurd meant
without_value f below mem (Load ty at align) behind meant = absurd meant
without_value f below mem (Store ty a at align) behind meant = absurd meant
without_value f below mem (Gep inbounds ty base indices) behind meant = absurd meant
without_value f below mem (Call fn_ty ret_ext callee args) behind meant = of_type fn_ty.returns meant where
  of_type : (ty : Option Scalar) → IsMeant (resumed (record { frame = f; behind = behind; below = below; memory = mem }) ty None) → resumed (record { frame = f; behind = behind; below = below; memory = mem }) ty None ≡ goes_on (record { frame = f; behind = behind; below = below; memory = mem }) None
  of_type None meant = refl
  of_type (Some ty) meant = absurd meant

pub waits_with_slot : (p : ProgramData) (f : FrameData) (x : Val Sym) (block : Block) (i : Inst) → Resumes p f (Some x) → block_in p f.func f.block ≡ Some block → slice_get block.insts f.place ≡ Some i → f.next < length f.results
waits_with_slot p f x block i meant is at =
    let behind = rest_of (suc f.place) (block_in p f.func f.block) in
    let here = subst (λ insts. IsMeant (resume (frame_of p f) [] no_memory (Some x) insts)) (head_is p f block i is at) (meant [] no_memory) in
    slot_is_there (record { frame = frame_of p f; behind = behind; below = []; memory = no_memory }) x (subst IsMeant (with_value (frame_of p f) [] no_memory x i behind here) here)

pub resumed_with : (p : ProgramData) (f : FrameData) (x : Val Sym) (block : Block) (i : Inst) → Resumes p f (Some x) → block_in p f.func f.block ≡ Some block → slice_get block.insts f.place ≡ Some i
    → (below : List Frame) (mem : MemoryData) → resume (frame_of p f) below mem (Some x) (frame_of p f).rest ≡ Gives (went (frame_of p (passed_with f x) ∷ below) mem)
resumed_with p f x block i meant is at below mem =
    let behind = rest_of (suc f.place) (block_in p f.func f.block) in
    let here = subst (λ insts. IsMeant (resume (frame_of p f) below mem (Some x) insts)) (head_is p f block i is at) (meant below mem) in
    ap (resume (frame_of p f) below mem (Some x)) (head_is p f block i is at)
    ∙ with_value (frame_of p f) below mem x i behind here
    ∙ result_is_set (record { frame = frame_of p f; behind = behind; below = below; memory = mem }) x (waits_with_slot p f x block i meant is at)

pub resumed_without : (p : ProgramData) (f : FrameData) (block : Block) (i : Inst) → Resumes p f None → block_in p f.func f.block ≡ Some block → slice_get block.insts f.place ≡ Some i
    → (below : List Frame) (mem : MemoryData) → resume (frame_of p f) below mem None (frame_of p f).rest ≡ Gives (went (frame_of p (passed f) ∷ below) mem)
resumed_without p f block i meant is at below mem =
    let behind = rest_of (suc f.place) (block_in p f.func f.block) in
    let here = subst (λ insts. IsMeant (resume (frame_of p f) below mem None insts)) (head_is p f block i is at) (meant below mem) in
    ap (resume (frame_of p f) below mem None) (head_is p f block i is at)
    ∙ without_value (frame_of p f) below mem i behind here
