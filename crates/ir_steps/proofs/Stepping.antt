-- A step of a state that fits is safe, and leaves one that fits. So each state that is reached fits, and none is stuck.
use Rattle.std.proofs.Common.{◌≡◌, ◌≢◌, ◌∙◌, ◌⊎◌, inl, inr, ℕ, ◌*◌, ◌<◌, false, IsTrue, List, [], ◌∷◌, ◌++◌, length, map, Option, Some, None, option_and_then, refl, sym, ap, subst, arith}
use Rattle.std.specs.List.{AllZip}
use Rattle.ir_types.specs.declared.scalar.Scalar.{Scalar}
use Rattle.ir_types.specs.declared.scalar.Scalar.TheVariants.{I1, Ptr}
use Rattle.ir_types.specs.Layout.{size}
use Rattle.ir_types.specs.Scalars.{is_number_of}
use Rattle.ir_syntax.specs.declared.symbol.Sym.{Sym}
use Rattle.ir_syntax.specs.declared.body.Inst.{Inst}
use Rattle.ir_syntax.specs.declared.body.Inst.TheVariants.{Bin, Icmp, Select, Cast, Alloca, Load, Store, Gep, Call}
use Rattle.ir_syntax.specs.declared.body.Term.{Term}
use Rattle.ir_syntax.specs.declared.body.Term.TheVariants.{RetVoid, Ret, Br, CondBr, Switch, Unreachable}
use Rattle.ir_syntax.specs.declared.item.Param.{Param}
use Rattle.ir_syntax.specs.FormedBody.{places_of, FormedTerm}
use Rattle.ir_syntax.specs.Programs.{ProgramData, IsProgram}
use Rattle.ir_syntax.specs.Results.{result_type}
use Rattle.ir_syntax.specs.Typed.{TypedTerm}
use Rattle.block_memory.specs.declared.value.Val.TheVariants as val
use Rattle.block_memory.specs.Answers.{Answer, Gives, Stuck, and_then, or_stuck}
use Rattle.block_memory.specs.Blocks.{MemoryData}
use Rattle.block_memory.specs.Making.{alloc}
use Rattle.block_memory.specs.Stores.{store}
use Rattle.ir_steps.specs.declared.session.Reply.{Reply}
use Rattle.ir_steps.specs.States.{Frame, StateData, Point}
use Rattle.ir_steps.specs.Operands.{value_in, value}
use Rattle.ir_steps.specs.Results.{Next, state, gives_result, with_memory}
use Rattle.ir_steps.specs.Reading.{evaluated, align_of}
use Rattle.ir_steps.specs.Builtins.{next_made}
use Rattle.ir_steps.specs.Calls.{func_of, begins, body_of}
use Rattle.ir_steps.specs.Returns.{returns}
use Rattle.ir_steps.specs.Steps.{allocates, inst_step, term_step, rest_step, frames_step, step, start, enter}
use Rattle.ir_steps.specs.Reached.{IsRoot, Move, Enter, Go, Leads, Reaches}
use Rattle.ir_steps.proofs.Fits.{IsValue, MemoryFits, FrameFits, returns_at, Wait, FramesFit, StateFits}
use Rattle.ir_steps.proofs.Starting.{start_fits}
use Rattle.ir_steps.proofs.Values.{AreValues}
use Rattle.ir_steps.proofs.AccessingMade.{alloc_makes, alloc_fits}
use Rattle.ir_steps.proofs.AccessingValues.{store_keeps}
use Rattle.ir_steps.proofs.EvaluatingInsts.{OnlyReads, evaluated_fits}
use Rattle.ir_steps.proofs.Copied.{memory_goes_on}
use Rattle.ir_steps.proofs.FramesSound.{types_of, sound}
use Rattle.ir_steps.proofs.Frames.{IsTermRead, AtHead, at_head, at_end}
use Rattle.ir_steps.proofs.FramesKept.{HasSlot, has_slot, NextFits, AtPoint, later_at, goes_on_safe, goes_on_later}
use Rattle.ir_steps.proofs.Entering.{Begun, begins_safe}
use Rattle.ir_steps.proofs.Branching.{AtTerm, one_safe, two_safe, many_safe}
use Rattle.ir_steps.proofs.Returning.{returns_safe}
use Rattle.ir_steps.proofs.Calling.{call_safe}
use Rattle.ir_steps.proofs.Safely.{Safe, safe_then, safe_read, safe_gives, not_stuck}

-- ---- instructions

-- An instruction that only reads: its value is its result.
reads_safe : (p : ProgramData) (at : Point) (i : Inst) (ty : Scalar) → AtPoint p at i → AtHead p (length at.memory.made) at.frame i at.behind → OnlyReads i → result_type i ≡ Some ty
    → Safe (NextFits p) (and_then (gives_result at) (evaluated p at.frame at.memory i))
reads_safe p at i ty h head only e =
    let made = length at.memory.made in
    safe_then (IsValue p made ty) (NextFits p) (gives_result at) (evaluated p at.frame at.memory i) (evaluated_fits p at.frame at.memory i head.types head.places ty h.memory only head.typed head.formed head.reads e)
    (λ v hv. goes_on_safe p at i (Some ty) (Some v) h e hv)

-- A frame that keeps the number of a block that it made.
with_alloca : (p : ProgramData) (made : ℕ) (f : Frame) (i : Inst) (behind : List Inst) (allocas : List ℕ) → HasSlot p made f i behind → HasSlot p made (record f { allocas = allocas }) i behind
with_alloca p made f i behind allocas h =
    let fits = h.fits in
    record {
      fits = record {
        func = fits.func;
        body = fits.body;
        is = fits.is;
        has_body = fits.has_body;
        place = record { block = fits.place.block; at = fits.place.at; done = fits.place.done; split = fits.place.split; last = fits.place.last; next = fits.place.next };
        visited = fits.visited;
        path = fits.path;
        set = fits.set;
        slots = fits.slots;
        args = fits.args;
      };
      rest = h.rest;
      result = h.result;
    }

allocates_safe : (p : ProgramData) (at : Point) (i : Inst) (bytes : ℕ) → AtPoint p at i → result_type i ≡ Some Ptr → Safe (NextFits p) (allocates at bytes)
allocates_safe p at i bytes h e =
    let mem = at.memory in
    let new = alloc mem bytes false false in
    let f = at.frame in
    let allocas = f.allocas ++ length mem.made ∷ [] in
    let more = alloc_makes mem bytes false false in
    let less : length mem.made < length new.made = omega (arith, more) in
    let later = later_at p at i new (alloc_fits p mem bytes false false h.memory) (omega (arith, more)) h in
    let there : AtPoint p (record at { frame = record f { allocas = allocas }; memory = new }) i = record { memory = later.memory; slot = with_alloca p (length new.made) f i at.behind allocas later.slot; waits = later.waits } in
    goes_on_safe p (record at { frame = record f { allocas = allocas }; memory = new }) i (Some Ptr) (Some (next_made mem)) there e (refl, less)

inst_safe : (p : ProgramData) → IsProgram p → (at : Point) (given : Option Reply) (i : Inst) → AtPoint p at i → AtHead p (length at.memory.made) at.frame i at.behind → Safe (NextFits p) (inst_step p at given i)
inst_safe p program at given (Bin op flags ty a b) h head = reads_safe p at (Bin op flags ty a b) ty h head tt refl
inst_safe p program at given (Icmp pred ty a b) h head = reads_safe p at (Icmp pred ty a b) I1 h head tt refl
inst_safe p program at given (Select ty cond a b) h head = reads_safe p at (Select ty cond a b) ty h head tt refl
inst_safe p program at given (Cast op nneg from to a) h head = reads_safe p at (Cast op nneg from to a) to h head tt refl
inst_safe p program at given (Alloca ty count align) h head = allocates_safe p at (Alloca ty count align) (size ty * count) h refl
inst_safe p program at given (Load ty from align) h head = reads_safe p at (Load ty from align) ty h head tt refl
inst_safe p program at given (Store ty a to align) h head =
    let made = length at.memory.made in
    let N = NextFits p in
    safe_read (IsValue p made ty) N (λ x. and_then (λ place. and_then (with_memory at) (store at.memory ty (align_of ty align) x place)) (value p at.frame to)) (value_in p at.frame a) head.reads.0
    (λ x hx. safe_read (IsValue p made Ptr) N (λ place. and_then (with_memory at) (store at.memory ty (align_of ty align) x place)) (value_in p at.frame to) head.reads.1
    (λ place hp. memory_goes_on p N at (store at.memory ty (align_of ty align) x place) (goes_on_later p at (Store ty a to align) None h refl) (store_keeps p at.memory ty (align_of ty align) x place h.memory hx hp)))
inst_safe p program at given (Gep inbounds ty base indices) h head = reads_safe p at (Gep inbounds ty base indices) Ptr h head tt refl
inst_safe p program at given (Call fn_ty ret_ext callee args) h head =
    call_safe p program at (Call fn_ty ret_ext callee args) head.types fn_ty callee args given h refl refl head.typed head.reads.0 head.reads.1

-- ---- terminators

term_safe : (p : ProgramData) → IsProgram p → (at : Point) (t : Term) (h : AtTerm p at) → at.frame.last ≡ t → TypedTerm (types_of h.end.sound.home.items h.end.fits.func h.end.fits.body) h.end.fits.func.returns t
    → FormedTerm (places_of h.end.sound.home.items (length h.end.fits.func.params) h.end.fits.body) t → IsTermRead p (length at.memory.made) at.frame t → Safe (NextFits p) (term_step p at t)
term_safe p program at RetVoid h e typed formed reads = returns_safe p program at None None h typed tt
term_safe p program at (Ret ty a) h e typed formed reads =
    safe_read (IsValue p (length at.memory.made) ty) (NextFits p) (λ x. returns p at (Some x)) (value_in p at.frame a) reads (λ x hx. returns_safe p program at (Some ty) (Some x) h typed.0 hx)
term_safe p program at (Br to) h e typed formed reads = one_safe p program at to h e formed
term_safe p program at (CondBr cond one other) h e typed formed reads = two_safe p program at cond one other h e formed.1 formed.2 reads
term_safe p program at (Switch ty a default cases) h e typed formed reads = many_safe p program at ty a default cases h e typed.0 formed.1 formed.2 reads
term_safe p program at Unreachable h e typed formed reads = tt

-- ---- steps

rest_safe : (p : ProgramData) → IsProgram p → (f : Frame) (below : List Frame) (mem : MemoryData) (given : Option Reply) (rest : List Inst) → f.rest ≡ rest → MemoryFits p mem → FrameFits p (length mem.made) f
    → Wait p (length mem.made) (returns_at p f.func) below → Safe (NextFits p) (rest_step p f below mem given rest)
rest_safe p program f below mem given [] e m fits w =
    let at : Point = record { frame = f; behind = []; below = below; memory = mem } in
    let h : AtTerm p at = record { memory = m; end = at_end p program (length mem.made) f fits e; waits = w } in
    term_safe p program at f.last h refl h.end.typed h.end.formed h.end.reads
rest_safe p program f below mem given (i ∷ behind) e m fits w =
    let at : Point = record { frame = f; behind = behind; below = below; memory = mem } in
    let head = at_head p program (length mem.made) f fits i behind e in
    inst_safe p program at given i (record { memory = m; slot = has_slot p (length mem.made) f i behind head; waits = w }) head

frames_safe : (p : ProgramData) → IsProgram p → (mem : MemoryData) (given : Option Reply) (fs : List Frame) → MemoryFits p mem → FramesFit p (length mem.made) fs → fs ≢ [] → Safe (NextFits p) (frames_step p mem given fs)
frames_safe p program mem given [] m h some = absurd (some refl)
frames_safe p program mem given (f ∷ below) m h some = rest_safe p program f below mem given f.rest refl m h.0 h.1

-- A step where a call is running is safe, and leaves a state that fits.
pub step_keeps : (p : ProgramData) → IsProgram p → (s : StateData) (given : Option Reply) → StateFits p s → s.frames ≢ [] → Safe (NextFits p) (step p s given)
step_keeps p program s given fits some = frames_safe p program s.memory given s.frames fits.memory fits.frames some

-- ---- roots

numbers_are : (p : ProgramData) (made : ℕ) (params : List Param) (ns : List ℕ) → AllZip (λ param n. IsTrue (is_number_of param.ty n)) params ns → AreValues p made (map (λ param. param.ty) params) (map (λ n. val.Num n) ns)
numbers_are p made [] [] h = tt
numbers_are p made [] (n ∷ ns) h = absurd h
numbers_are p made (param ∷ params) [] h = absurd h
numbers_are p made (param ∷ params) (n ∷ ns) h = (h.0, numbers_are p made params ns h.1)

-- A root that is entered leaves a state that fits.
pub enter_keeps : (p : ProgramData) → IsProgram p → (s : StateData) (symbol : Sym) (args : List ℕ) → StateFits p s → IsRoot p symbol args → Safe (StateFits p) (enter p s symbol args)
enter_keeps p program s symbol args fits root =
    let made = length s.memory.made in
    let vs = map (λ (n : ℕ). val.Num n) args in
    let body_at : body_of p symbol ≡ Some root.body = ap (λ o. option_and_then (λ func. func.body) (option_and_then func_of o)) root.is ∙ root.has_body in
    safe_then (Begun p made symbol) (StateFits p) (λ f. Gives (state (f ∷ []) s.memory)) (and_then (λ body. begins symbol body vs) (or_stuck (body_of p symbol)))
    (subst (λ o. Safe (Begun p made symbol) (and_then (λ body. begins symbol body vs) (or_stuck o))) (sym body_at)
    (begins_safe p made symbol root.func root.body vs root.is root.has_body (sound p symbol root.func root.body program root.is root.has_body) (numbers_are p made root.func.params args root.suits)))
    (λ f begun. record { memory = fits.memory; frames = (begun.fits, tt) })

-- ---- states that are reached

frames_or : (fs : List Frame) → (fs ≡ []) ⊎ (fs ≢ [])
frames_or [] = inl refl
frames_or (f ∷ fs) = inr (λ e. cc)

-- A state without a call has no step.
no_step : (p : ProgramData) (s : StateData) (given : Option Reply) (answer : Answer Next) → s.frames ≡ [] → step p s given ≡ answer → answer ≡ Stuck
no_step p s given answer none e = sym e ∙ ap (frames_step p s.memory given) none

led : (p : ProgramData) → IsProgram p → (s t : StateData) (given : Option Reply) → StateFits p s → Leads p s given t → StateFits p t
led p program s t given fits (inr undefined) = subst (StateFits p) (sym undefined.2) (record { memory = fits.memory; frames = tt })
led p program s t given fits (inl gives) = elim (frames_or s.frames) [
  | inl none ↦ let stuck : ◌≡◌ {A = Answer Next} (Gives (gives.0, t)) Stuck = no_step p s given (Gives (gives.0, t)) none gives.1 in cc
  | inr some ↦ safe_gives (NextFits p) (step p s given) (gives.0, t) (step_keeps p program s given fits some) gives.1
]

pub reached_fits : (p : ProgramData) → IsProgram p → (moves : List Move) (s : StateData) → Reaches p moves s → StateFits p s
reached_fits p program [] s e = safe_gives (StateFits p) (start p) s (start_fits p program) e
reached_fits p program (Enter symbol args ∷ more) s (t, before, none, root, e) = safe_gives (StateFits p) (enter p t symbol args) s (enter_keeps p program t symbol args (reached_fits p program more t before) root) e
reached_fits p program (Go given ∷ more) s (t, before, leads) = led p program t s given (reached_fits p program more t before) leads

-- ---- the laws

-- A step of a call that runs in a linked program is never stuck.
pub never_stuck : (p : ProgramData) (moves : List Move) (s : StateData) (given : Option Reply) → IsProgram p → Reaches p moves s → s.frames ≢ [] → step p s given ≡ Stuck → ⊥
never_stuck p moves s given program reaches some e = not_stuck (NextFits p) (step p s given) (step_keeps p program s given (reached_fits p program moves s reaches) some) e

-- A linked program starts.
pub program_starts : (p : ProgramData) → IsProgram p → start p ≡ Stuck → ⊥
program_starts p program e = not_stuck (StateFits p) (start p) (start_fits p program) e

-- Its roots are entered.
pub root_is_entered : (p : ProgramData) (moves : List Move) (s : StateData) (symbol : Sym) (args : List ℕ) → IsProgram p → Reaches p moves s → IsRoot p symbol args → enter p s symbol args ≡ Stuck → ⊥
root_is_entered p moves s symbol args program reaches root e = not_stuck (StateFits p) (enter p s symbol args) (enter_keeps p program s symbol args (reached_fits p program moves s reaches) root) e
