-- Calls that are entered and left, and instructions by their class.
use Rattle.std.proofs.Common.{◌≡◌, ◌∙◌, ℕ, zero, suc, drop, slice_get, List, [], ◌∷◌, ◌++◌, map, Option, Some, None, refl, sym, ap, subst}
use Rattle.std.specs.Prelude.{reverse}
use Rattle.std.proofs.lemmas.List.{reverse-append}
use Rattle.ir_types.specs.declared.scalar.Scalar.{Scalar}
use Rattle.ir_syntax.specs.declared.symbol.Sym.{Sym}
use Rattle.ir_syntax.specs.declared.body.Inst.{Inst}
use Rattle.ir_syntax.specs.declared.body.Inst.TheVariants.{Bin, Icmp, Select, Cast, Alloca, Load, Store, Gep, Call}
use Rattle.ir_syntax.specs.declared.body.Block.{Block}
use Rattle.ir_syntax.specs.Programs.{ProgramData}
use Rattle.block_memory.specs.declared.value.Val.{Val}
use Rattle.block_memory.specs.Answers.{Answer, Gives, Undefined, Stuck, IsMeant, and_then, or_stuck}
use Rattle.block_memory.specs.Blocks.{MemoryData}
use Rattle.ir_steps.specs.declared.session.Reply.{Reply}
use Rattle.ir_steps.specs.declared.session.Stepped.TheVariants as stepped
use Rattle.ir_steps.specs.States.{Frame, Point}
use Rattle.ir_steps.specs.Results.{Next, state, went, behind_with, goes_on, gives_result}
use Rattle.ir_steps.specs.Reading.{evaluated}
use Rattle.ir_steps.specs.Returns.{end_all, resumed, resume, root_returns, returns_to, returns}
use Rattle.ir_steps.specs.Showing.{shown_value}
use Rattle.ir_steps.specs.Steps.{inst_step, term_step, rest_step, frames_step}
use Rattle.ir_meaning.specs.declared.stack.Stack.{Stack}
use Rattle.ir_meaning.specs.Models.{FrameData, block_in, rest_of, last_of, frame_of}
use Rattle.ir_meaning.specs.Mirrors.Stacks.{below_of, stack_of, point_of}
use Rattle.ir_meaning.proofs.Resumed.{head_is, end_is}

-- the last of the calls below is the innermost of them
pub below_is : (p : ProgramData) (ys xs : List FrameData) (c : FrameData) → ys ≡ xs ++ c ∷ [] → map (frame_of p) (reverse ys) ≡ frame_of p c ∷ map (frame_of p) (reverse xs)
below_is p ys xs c e = ap (λ l. map (frame_of p) (reverse l)) e ∙ ap (map (frame_of p)) (reverse-append xs (c ∷ []))

meant_then : {A B : Type 0} (F G : A → B) (a : Answer A) → IsMeant (and_then (λ x. Gives (F x)) a) → IsMeant (and_then (λ x. Gives (G x)) a)
meant_then F G (Gives x) meant = tt
meant_then F G (Undefined cause) meant = tt
meant_then F G Stuck meant = meant

-- Whether a call that waits goes on doesn't depend on the calls below it, nor on memory.
pub resumes_anywhere : (f : Frame) (below others : List Frame) (mem other : MemoryData) (r : Option (Val Sym)) (rest : List Inst) → IsMeant (resume f below mem r rest) → IsMeant (resume f others other r rest)
resumes_anywhere f below others mem other r [] meant = meant
resumes_anywhere f below others mem other r (Bin op flags ty a b ∷ more) meant = meant
resumes_anywhere f below others mem other r (Icmp pred ty a b ∷ more) meant = meant
resumes_anywhere f below others mem other r (Select ty cond a b ∷ more) meant = meant
resumes_anywhere f below others mem other r (Cast op nneg from to a ∷ more) meant = meant
resumes_anywhere f below others mem other r (Alloca ty count align ∷ more) meant = meant
resumes_anywhere f below others mem other r (Load ty at align ∷ more) meant = meant
resumes_anywhere f below others mem other r (Store ty a at align ∷ more) meant = meant
resumes_anywhere f below others mem other r (Gep inbounds ty base indices ∷ more) meant = meant
resumes_anywhere f below others mem other r (Call fn_ty ret_ext callee args ∷ more) meant = by fn_ty.returns r meant where
  by : (ty : Option Scalar) (r : Option (Val Sym)) → IsMeant (resumed (record { frame = f; behind = more; below = below; memory = mem }) ty r) → IsMeant (resumed (record { frame = f; behind = more; below = others; memory = other }) ty r)
  by None None meant = tt
  by None (Some x) meant = meant
  by (Some ty) None meant = meant
  by (Some ty) (Some x) meant = meant_then (λ (g : Frame). went (g ∷ below) mem) (λ (g : Frame). went (g ∷ others) other) (behind_with f more (Some x)) meant

pub root_anywhere : (p : ProgramData) (mem other : MemoryData) (r : Option (Val Sym)) → IsMeant (root_returns p mem r) → IsMeant (root_returns p other r)
root_anywhere p mem other None meant = tt
root_anywhere p mem other (Some x) meant = meant_then (λ named. (stepped.Returned (Some named), state [] mem)) (λ named. (stepped.Returned (Some named), state [] other)) (or_stuck (shown_value p x)) meant

-- the root returns
pub root_left : (p : ProgramData) (s : Stack) (mem : MemoryData) (r : Option (Val Sym)) → s.below.items ≡ [] → returns p (point_of p s mem) r ≡ root_returns p (end_all s.top.allocas mem) r
root_left p s mem r e = ap (λ l. returns_to p (end_all s.top.allocas mem) r (map (frame_of p) (reverse l))) e

-- another call returns to the one that waits for it
pub caller_left : (p : ProgramData) (s : Stack) (mem : MemoryData) (r : Option (Val Sym)) (c : FrameData) (xs : List FrameData) → s.below.items ≡ xs ++ c ∷ []
    → returns p (point_of p s mem) r ≡ resume (frame_of p c) (map (frame_of p) (reverse xs)) (end_all s.top.allocas mem) r (frame_of p c).rest
caller_left p s mem r c xs e = ap (returns_to p (end_all s.top.allocas mem) r) (below_is p s.below.items xs c e)

-- ---- instructions that only read

abbrev pub IsReading : Inst → Type 0
IsReading (Bin op flags ty a b) = Unit {0}
IsReading (Icmp pred ty a b) = Unit {0}
IsReading (Select ty cond a b) = Unit {0}
IsReading (Cast op nneg from to a) = Unit {0}
IsReading (Alloca ty count align) = ⊥
IsReading (Load ty at align) = Unit {0}
IsReading (Store ty a at align) = ⊥
IsReading (Gep inbounds ty base indices) = Unit {0}
IsReading (Call fn_ty ret_ext callee args) = ⊥

pub reads : (p : ProgramData) (at : Point) (given : Option Reply) (i : Inst) → IsReading i → inst_step p at given i ≡ and_then (gives_result at) (evaluated p at.frame at.memory i)
reads p at given (Bin op flags ty a b) is = refl
reads p at given (Icmp pred ty a b) is = refl
reads p at given (Select ty cond a b) is = refl
reads p at given (Cast op nneg from to a) is = refl
reads p at given (Alloca ty count align) is = absurd is
reads p at given (Load ty from align) is = refl
reads p at given (Store ty a to align) is = absurd is
reads p at given (Gep inbounds ty base indices) is = refl
reads p at given (Call fn_ty ret_ext callee args) is = absurd is

-- ---- the step at hand

drop_past : (xs : List Inst) (at : ℕ) → slice_get xs at ≡ None → drop (suc at) xs ≡ []
drop_past [] at e = refl
drop_past (x ∷ xs) zero e = absurd (cc (e))
drop_past (x ∷ xs) (suc at) e = drop_past xs at e

-- an instruction
pub head_step : (p : ProgramData) (s : Stack) (mem : MemoryData) (given : Option Reply) (block : Block) (i : Inst) → block_in p s.top.func s.top.block ≡ Some block → slice_get block.insts s.top.place ≡ Some i
    → frames_step p mem given (stack_of p s) ≡ inst_step p (point_of p s mem) given i
head_step p s mem given block i is at = ap (rest_step p (frame_of p s.top) (below_of p s) mem given) (head_is p s.top block i is at)

-- the terminator
pub end_step : (p : ProgramData) (s : Stack) (mem : MemoryData) (given : Option Reply) (block : Block) → block_in p s.top.func s.top.block ≡ Some block → slice_get block.insts s.top.place ≡ None
    → frames_step p mem given (stack_of p s) ≡ term_step p (point_of p s mem) block.term
end_step p s mem given block is at =
    let past : rest_of (suc s.top.place) (block_in p s.top.func s.top.block) ≡ [] = ap (rest_of (suc s.top.place)) is ∙ drop_past block.insts s.top.place at in
    ap (rest_step p (frame_of p s.top) (below_of p s) mem given) (end_is p s.top block is at)
    ∙ ap (λ t. term_step p (record { frame = frame_of p s.top; behind = []; below = below_of p s; memory = mem }) t) (ap last_of is)
    ∙ ap (λ b. term_step p (record { frame = frame_of p s.top; behind = b; below = below_of p s; memory = mem }) block.term) (sym past)
