-- What a step answers, and the states that it leads to.
use Rattle.std.proofs.Common.{◌≡◌, ◌≢◌, ◌∙◌, ◌⊎◌, inl, inr, ℕ, List, [], ◌∷◌, map, Option, Some, None, refl, sym, ap, subst, slice_get, IsSome, is_some, length, true, false, reverse, option_and_then}
use Rattle.ir_syntax.specs.declared.symbol.Sym.{Sym}
use Rattle.ir_syntax.specs.declared.body.Block.{Block}
use Rattle.ir_syntax.specs.declared.body.Body.{Body}
use Rattle.ir_syntax.specs.declared.body.Inst.{Inst}
use Rattle.ir_syntax.specs.declared.body.Inst.TheVariants.{Bin, Icmp, Select, Cast, Alloca, Load, Store, Gep, Call}
use Rattle.ir_syntax.specs.declared.item.Func.{Func}
use Rattle.ir_syntax.specs.declared.item.Item.{Item}
use Rattle.ir_syntax.specs.declared.item.Item.TheVariants as item
use Rattle.ir_syntax.specs.Programs.{ProgramData, IsProgram}
use Rattle.ir_syntax.specs.Symbols.{item_at}
use Rattle.ir_syntax.specs.Typed.{Types, TypedInst}
use Rattle.block_memory.specs.declared.value.Val.TheVariants as val
use Rattle.block_memory.specs.Answers.{Answer, Gives, Undefined, Stuck, IsMeant, and_then, or_stuck}
use Rattle.block_memory.specs.Blocks.{MemoryData}
use Rattle.ir_steps.specs.declared.session.Reply.{Reply}
use Rattle.ir_steps.specs.declared.session.Stepped.{Stepped}
use Rattle.ir_steps.specs.declared.session.Stepped.TheVariants as stepped
use Rattle.ir_steps.specs.States.{Frame, StateData}
use Rattle.ir_steps.specs.Results.{Next, state}
use Rattle.ir_steps.specs.Calls.{func_of, function_at, body_of, begins}
use Rattle.ir_steps.specs.Steps.{start, enter, frames_step, step}
use Rattle.ir_steps.specs.Reached.{Move, Enter, Go, Reaches, Leads, IsRoot}
use Rattle.ir_steps.proofs.Fits.{FrameFits, FramesFit}
use Rattle.ir_steps.proofs.Frames.{at_head}
use Rattle.ir_steps.proofs.Stepping.{reached_fits, never_stuck, root_is_entered}
use Rattle.ir_meaning.specs.Kept.{IsReached, IsStateOf, IsStepOf}
use Rattle.ir_meaning.specs.declared.stack.Stack.{Stack}
use Rattle.ir_meaning.specs.Models.{FrameData, StackData, StateModel, block_in, frame_of, frames_of, state_of}
use Rattle.ir_meaning.specs.Mirrors.Outcomes.{IsGiven, left_by}
use Rattle.ir_meaning.specs.Mirrors.Typing.{IsNarrowInst, Stands}
use Rattle.ir_meaning.specs.Mirrors.Stacks.{kept, stack_of}

pub given_is_step : (a : Stepped) (frames : List Frame) (mem before : MemoryData) (answer : Answer Next) → IsGiven a frames mem answer → IsStepOf answer a (left_by a frames mem) before
given_is_step stepped.Went frames mem before answer given = given
given_is_step (stepped.Wants wanted) frames mem before answer given = given
given_is_step (stepped.Returned value) frames mem before answer given = given
given_is_step (stepped.Exited code) frames mem before answer given = given
given_is_step stepped.Aborted frames mem before answer given = given
given_is_step (stepped.Undefined cause) frames mem before answer given = absurd given

meant : {A : Type 0} (a : Answer A) → (a ≡ Stuck → ⊥) → IsMeant a
meant (Gives x) deny = tt
meant (Undefined cause) deny = tt
meant Stuck deny = deny refl

-- ---- a step has a meaning where a call is running

pub step_is_meant : (p : ProgramData) (s : StateModel) (k : StackData) (given : Option Reply) → IsProgram p → IsReached p s → s.stack ≡ Some k → IsMeant (step p (state_of p s) given)
step_is_meant p s k given program reached is =
    meant (step p (state_of p s) given) (never_stuck p reached.moves (state_of p s) given program reached.reaches some)
  where
    some : frames_of p s.stack ≡ [] → ⊥
    some none = let e : frames_of p (Some k) ≡ [] = ap (frames_of p) (sym is) ∙ none in cc

-- ---- the innermost call stands in a block

narrow : (types : Types) (i : Inst) → TypedInst types i → IsNarrowInst i
narrow types (Bin op flags ty a b) typed = tt
narrow types (Icmp pred ty a b) typed = tt
narrow types (Select ty cond a b) typed = tt
narrow types (Cast op nneg from to a) typed = tt
narrow types (Alloca ty count align) typed = typed
narrow types (Load ty at align) typed = tt
narrow types (Store ty a at align) typed = tt
narrow types (Gep inbounds ty base indices) typed = typed.0
narrow types (Call fn_ty ret_ext callee args) typed = tt

body_is : (p : ProgramData) (symbol : Sym) (func : Func) (body : Body) → item_at p.modules symbol ≡ Some (item.Func func) → func.body ≡ Some body → body_of p symbol ≡ Some body
body_is p symbol func body is has = ap (λ (o : Option Item). option_and_then (λ func. func.body) (option_and_then func_of o)) is ∙ has

pub top_stands : (p : ProgramData) (s : StateModel) (k : StackData) → IsProgram p → IsReached p s → s.stack ≡ Some k → Stands p k.top
top_stands p s k program reached is =
    let fits = reached_fits p program reached.moves (state_of p s) reached.reaches in
    let frames : FramesFit p (length s.memory.made) (frames_of p (Some k)) = subst (λ o. FramesFit p (length s.memory.made) (frames_of p o)) is fits.frames in
    let top : FrameFits p (length s.memory.made) (frame_of p k.top) = frames.0 in
    let in_body = body_is p k.top.func top.func top.body top.is top.has_body in
    let there : block_in p k.top.func k.top.block ≡ Some top.place.block = ap (option_and_then (λ (body : Body). slice_get body.blocks k.top.block)) in_body ∙ top.place.at in
    record {
      within = ap is_some there;
      narrow = λ i behind e. let head = at_head p program (length s.memory.made) (frame_of p k.top) top i behind e in narrow head.types i head.typed;
    }

-- ---- the states that a step leads to

pub step_leads : (p : ProgramData) (s new : StateModel) (given : Option Reply) (a : Stepped) → IsReached p s → new.firsts ≡ s.firsts → IsStepOf (step p (state_of p s) given) a (state_of p new) s.memory → IsReached p new
step_leads p s new given a reached same of = record { numbers = same ∙ reached.numbers; moves = Go given ∷ reached.moves; reaches = (state_of p s, reached.reaches, leads a of) } where
  leads : (a : Stepped) → IsStepOf (step p (state_of p s) given) a (state_of p new) s.memory → Leads p (state_of p s) given (state_of p new)
  leads stepped.Went of = inl (stepped.Went, of)
  leads (stepped.Wants wanted) of = inl (stepped.Wants wanted, of)
  leads (stepped.Returned value) of = inl (stepped.Returned value, of)
  leads (stepped.Exited code) of = inl (stepped.Exited code, of)
  leads stepped.Aborted of = inl (stepped.Aborted, of)
  leads (stepped.Undefined cause) of = inr (cause, of.0, of.1)

-- ---- roots

pub root_is_meant : (p : ProgramData) (s : StateModel) (symbol : Sym) (args : List ℕ) → IsProgram p → IsReached p s → IsRoot p symbol args → IsMeant (and_then (λ body. begins symbol body (map (λ n. val.Num n) args)) (or_stuck (body_of p symbol)))
root_is_meant p s symbol args program reached root =
    of (and_then (λ body. begins symbol body (map (λ n. val.Num n) args)) (or_stuck (body_of p symbol))) (root_is_entered p reached.moves (state_of p s) symbol args program reached.reaches root)
  where
    of : (a : Answer Frame) → (and_then (λ f. Gives (state (f ∷ []) s.memory)) a ≡ Stuck → ⊥) → IsMeant a
    of (Gives f) deny = tt
    of (Undefined cause) deny = tt
    of Stuck deny = deny refl

pub enter_leads : (p : ProgramData) (s new : StateModel) (symbol : Sym) (args : List ℕ) → IsReached p s → s.stack ≡ None → IsRoot p symbol args → new.firsts ≡ s.firsts → enter p (state_of p s) symbol args ≡ Gives (state_of p new) → IsReached p new
enter_leads p s new symbol args reached none root same of =
    record { numbers = same ∙ reached.numbers; moves = Enter symbol args ∷ reached.moves; reaches = (state_of p s, reached.reaches, ap (frames_of p) none, root, of) }

-- ---- as a state is kept

pub reached_of : (p : ProgramData) (s : StateModel) → IsStateOf p s → s.failed ≡ false → IsReached p s
reached_of p s started fine = by started where
  by : IsStateOf p s → IsReached p s
  by (inl failed) = absurd (cc (failed, fine))
  by (inr reached) = reached

pub stack_stands : (p : ProgramData) (s : StateModel) (stack : Stack) → IsProgram p → IsStateOf p s → s.failed ≡ false → s.stack ≡ kept (Some stack) → Stands p stack.top
stack_stands p s stack program started fine is = top_stands p s (record { top = stack.top; below = reverse stack.below.items }) program (reached_of p s started fine) is

pub stack_is_meant : (p : ProgramData) (s : StateModel) (stack : Stack) (given : Option Reply) → IsProgram p → IsStateOf p s → s.failed ≡ false → s.stack ≡ kept (Some stack) → IsMeant (frames_step p s.memory given (stack_of p stack))
stack_is_meant p s stack given program started fine is =
    subst (λ o. IsMeant {A = Next} (frames_step p s.memory given (frames_of p o))) is (step_is_meant p s (record { top = stack.top; below = reverse stack.below.items }) given program (reached_of p s started fine) is)

pub step_still : (p : ProgramData) (s new : StateModel) (stack : Stack) (given : Option Reply) (a : Stepped) → IsStateOf p s → s.failed ≡ false → s.stack ≡ kept (Some stack) → new.firsts ≡ s.firsts
    → IsStepOf (frames_step p s.memory given (stack_of p stack)) a (state_of p new) s.memory → IsStateOf p new
step_still p s new stack given a started fine is same of =
    inr (step_leads p s new given a (reached_of p s started fine) same (subst (λ o. IsStepOf (frames_step p s.memory given (frames_of p o)) a (state_of p new) s.memory) (sym is) of))
