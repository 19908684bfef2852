-- Each step keeps calls as they are read.
use Rattle.std.proofs.Common.{◌≡◌, ◌∙◌, ℕ, ◌*◌, Bool, false, List, [], ◌∷◌, ◌++◌, length, All, Option, Some, None, refl, sym, ap, subst, arith}
use Rattle.std.specs.List.{AllZip}
use Rattle.ir_types.specs.declared.scalar.Scalar.{Scalar}
use Rattle.ir_types.specs.declared.scalar.Scalar.TheVariants.{I1, Ptr}
use Rattle.ir_types.specs.declared.shape.Ty.{Ty}
use Rattle.ir_types.specs.Layout.{size}
use Rattle.ir_syntax.specs.declared.symbol.Sym.{Sym}
use Rattle.ir_syntax.specs.declared.constant.Operand.{Operand}
use Rattle.ir_syntax.specs.declared.body.Inst.{Inst}
use Rattle.ir_syntax.specs.declared.body.Inst.TheVariants.{Bin, Icmp, Select, Cast, Alloca, Load, Store, Gep, Call}
use Rattle.ir_syntax.specs.Programs.{ProgramData, IsProgram}
use Rattle.ir_syntax.specs.Results.{result_type}
use Rattle.block_memory.specs.declared.value.Val.{Val}
use Rattle.block_memory.specs.Answers.{Gives, and_then}
use Rattle.block_memory.specs.Blocks.{MemoryData}
use Rattle.block_memory.specs.Making.{alloc}
use Rattle.block_memory.specs.Stores.{store}
use Rattle.ir_steps.specs.declared.session.Reply.{Reply}
use Rattle.ir_steps.specs.declared.session.Stepped.{Stepped}
use Rattle.ir_steps.specs.declared.session.Stepped.TheVariants as stepped
use Rattle.ir_steps.specs.States.{Frame, StateData, Point}
use Rattle.ir_steps.specs.Operands.{value}
use Rattle.ir_steps.specs.Results.{Next, went, gives_result, with_memory}
use Rattle.ir_steps.specs.Reading.{evaluated, align_of}
use Rattle.ir_steps.specs.Builtins.{next_made}
use Rattle.ir_steps.specs.Steps.{inst_step, rest_step, frames_step, step}
use Rattle.session_runs.specs.Following.{kinds_by}
use Rattle.known_values.specs.Readings.{Reading, IsReading}
use Rattle.known_values.specs.Frames.{IsFrameOf, IsFrameAs}
use Rattle.known_values.specs.Views.{view}
use Rattle.known_values.proofs.Giving.{IfGives, gives_any, gives_of, gives_is}
use Rattle.known_values.proofs.Behind.{SuitsIn, allocas_as}
use Rattle.known_values.proofs.Evaluated.{evaluated_suits}
use Rattle.known_values.proofs.Depths.{AreFramesAs, IsAfter, as_many, unchanged, one_fewer, none_left, one_more}
use Rattle.known_values.proofs.GoingOn.{IsLed, IsAt, result_on, call_goes_on, call_suits, memory_on}
use Rattle.known_values.proofs.Outside.{Stays, Ends}
use Rattle.known_values.proofs.Calling.{call_leads}
use Rattle.known_values.proofs.Terminating.{IsBack, returns_lead, term_leads}

-- ---- instructions

evaluated_as : (p : ProgramData) (kind : Option Reading) (f : Frame) (mem : MemoryData) (inst : Inst) (v : Val Sym) → IsFrameAs p kind f → evaluated p f mem inst ≡ Gives v → SuitsIn kind inst v
evaluated_as p None f mem inst v h e = tt
evaluated_as p (Some r) f mem inst v h e = evaluated_suits p r f mem inst v h.1 e

-- An instruction that only reads: its value is its result.
reads_lead : (p : ProgramData) (Q : Next → Type 0) (kind : Option Reading) (at : Point) (inst : Inst) (ty : Scalar) → IsAt p kind at inst → result_type inst ≡ Some ty → IsLed p Q kind at.below
    → IfGives Q (and_then (gives_result at) (evaluated p at.frame at.memory inst))
reads_lead p Q kind at inst ty here e led =
    gives_of Q (gives_result at) (evaluated p at.frame at.memory inst) (λ v g. result_on p Q kind at inst ty v here e (evaluated_as p kind at.frame at.memory inst v here.frame g) led)

alloca_suits : (kind : Option Reading) (ty : Ty) (count : ℕ) (align : Option ℕ) (v : Val Sym) → SuitsIn kind (Alloca ty count align) v
alloca_suits None ty count align v = tt
alloca_suits (Some r) ty count align v = tt

store_suits : (kind : Option Reading) (ty : Scalar) (a to : Operand) (align : Option ℕ) (v : Val Sym) → SuitsIn kind (Store ty a to align) v
store_suits None ty a to align v = tt
store_suits (Some r) ty a to align v = tt

-- What holds of each call that an instruction at hand begins.
abbrev IsBegun : ProgramData → List (List Bool) → List Reading → (Next → Type 0) → Option Reading → Point → Inst → Type 0
IsBegun p cycles readings Q kind at inst = (g : Frame) → IsFrameAs p ((view p cycles readings).of_call kind inst g.func) g → Q (went (g ∷ at.frame ∷ at.below) at.memory)

inst_leads : (p : ProgramData) → IsProgram p → (cycles : List (List Bool)) (readings : List Reading) → All (IsReading p) readings → (Q : Next → Type 0) (kind : Option Reading) (at : Point) (given : Option Reply) (inst : Inst)
    → IsAt p kind at inst → IsLed p Q kind at.below → Stays Q at → Ends Q → IsBegun p cycles readings Q kind at inst → IfGives Q (inst_step p at given inst)
inst_leads p program cycles readings all Q kind at given (Bin op flags ty a b) here led stays ends begun = reads_lead p Q kind at (Bin op flags ty a b) ty here refl led
inst_leads p program cycles readings all Q kind at given (Icmp pred ty a b) here led stays ends begun = reads_lead p Q kind at (Icmp pred ty a b) I1 here refl led
inst_leads p program cycles readings all Q kind at given (Select ty cond a b) here led stays ends begun = reads_lead p Q kind at (Select ty cond a b) ty here refl led
inst_leads p program cycles readings all Q kind at given (Cast op nneg from to a) here led stays ends begun = reads_lead p Q kind at (Cast op nneg from to a) to here refl led
inst_leads p program cycles readings all Q kind at given (Alloca ty count align) here led stays ends begun =
    let allocas = at.frame.allocas ++ length at.memory.made ∷ [] in
    let there : Point = record at { frame = record at.frame { allocas = allocas }; memory = alloc at.memory (size ty * count) false false } in
    result_on p Q kind there (Alloca ty count align) Ptr (next_made at.memory) (record { frame = allocas_as p kind at.frame allocas here.frame; rest = here.rest }) refl (alloca_suits kind ty count align (next_made at.memory)) led
inst_leads p program cycles readings all Q kind at given (Load ty from align) here led stays ends begun = reads_lead p Q kind at (Load ty from align) ty here refl led
inst_leads p program cycles readings all Q kind at given (Store ty a to align) here led stays ends begun =
    gives_any Q (λ x. and_then (λ place. and_then (with_memory at) (store at.memory ty (align_of ty align) x place)) (value p at.frame to)) (value p at.frame a)
    (λ x. gives_any Q (λ place. and_then (with_memory at) (store at.memory ty (align_of ty align) x place)) (value p at.frame to)
    (λ place. memory_on Q at (store at.memory ty (align_of ty align) x place) (call_goes_on p Q kind at (Store ty a to align) here (store_suits kind ty a to align) led)))
inst_leads p program cycles readings all Q kind at given (Gep inbounds ty base indices) here led stays ends begun = reads_lead p Q kind at (Gep inbounds ty base indices) Ptr here refl led
inst_leads p program cycles readings all Q kind at given (Call fn_ty ret_ext callee args) here led stays ends begun =
    call_leads p cycles readings Q kind at fn_ty ret_ext callee args given (record {
      program = program;
      all = all;
      here = here;
      goes = call_goes_on p Q kind at (Call fn_ty ret_ext callee args) here (call_suits kind fn_ty ret_ext callee args) led;
      stays = stays;
      ends = ends;
      deeper = begun;
    })

-- ---- steps

callers_back : (p : ProgramData) (cycles : List (List Bool)) (readings : List Reading) (kind : Option Reading) (kinds : List (Option Reading)) (f : Frame) (below : List Frame) → AreFramesAs p kinds below
    → IsBack p (IsAfter p (view p cycles readings) (kind ∷ kinds) (f ∷ below)) kinds below
callers_back p cycles readings kind [] f below h = tt
callers_back p cycles readings kind (k ∷ kinds) f [] h = tt
callers_back p cycles readings kind (k ∷ kinds) f (c ∷ below) h = λ d mem is. one_fewer p (view p cycles readings) kind (k ∷ kinds) f c d below (is, h.1)

rest_as : (p : ProgramData) → IsProgram p → (cycles : List (List Bool)) (readings : List Reading) → All (IsReading p) readings → (kind : Option Reading) (kinds : List (Option Reading)) (f : Frame) (below : List Frame) (mem : MemoryData)
    (given : Option Reply) (rest : List Inst) → f.rest ≡ rest → IsFrameAs p kind f → AreFramesAs p kinds below → IfGives (IsAfter p (view p cycles readings) (kind ∷ kinds) (f ∷ below)) (rest_step p f below mem given rest)
rest_as p program cycles readings all kind kinds f below mem given [] e h others =
    let v = view p cycles readings in
    let Q = IsAfter p v (kind ∷ kinds) (f ∷ below) in
    term_leads p Q kind (record { frame = f; behind = []; below = below; memory = mem }) f.last h refl (λ g m is. as_many p v kind kinds f g below is others)
    (λ m o. returns_lead p Q kinds below m o others (callers_back p cycles readings kind kinds f below others) (λ a n. none_left p v (kind ∷ kinds) (f ∷ below) (h, others)))
rest_as p program cycles readings all kind kinds f below mem given (i ∷ behind) e h others =
    let v = view p cycles readings in
    let Q = IsAfter p v (kind ∷ kinds) (f ∷ below) in
    inst_leads p program cycles readings all Q kind (record { frame = f; behind = behind; below = below; memory = mem }) given i (record { frame = h; rest = e }) (λ g m is. as_many p v kind kinds f g below is others)
    (λ a. unchanged p v (kind ∷ kinds) (f ∷ below) (h, others)) (λ a n. none_left p v (kind ∷ kinds) (f ∷ below) (h, others)) (λ g new. one_more p v kind kinds f g below i behind e new h others)

frames_as : (p : ProgramData) → IsProgram p → (cycles : List (List Bool)) (readings : List Reading) → All (IsReading p) readings → (kinds : List (Option Reading)) (frames : List Frame) (mem : MemoryData) (given : Option Reply)
    → AreFramesAs p kinds frames → IfGives (IsAfter p (view p cycles readings) kinds frames) (frames_step p mem given frames)
frames_as p program cycles readings all kinds [] mem given h = tt
frames_as p program cycles readings all [] (f ∷ below) mem given h = absurd h
frames_as p program cycles readings all (kind ∷ kinds) (f ∷ below) mem given h = rest_as p program cycles readings all kind kinds f below mem given f.rest refl h.0 h.1

pub step_as : (p : ProgramData) → IsProgram p → (cycles : List (List Bool)) (readings : List Reading) → All (IsReading p) readings → (kinds : List (Option Reading)) (s : StateData) (given : Option Reply)
    → AreFramesAs p kinds s.frames → IfGives (IsAfter p (view p cycles readings) kinds s.frames) (step p s given)
step_as p program cycles readings all kinds s given h = frames_as p program cycles readings all kinds s.frames s.memory given h

pub steps_as : (p : ProgramData) (cycles : List (List Bool)) (readings : List Reading) (kinds : List (Option Reading)) (s next : StateData) (given : Option Reply) (a : Stepped) → IsProgram p → All (IsReading p) readings
    → AllZip (IsFrameAs p) kinds s.frames → step p s given ≡ Gives (a, next) → AllZip (IsFrameAs p) (kinds_by (view p cycles readings) kinds s.frames next.frames) next.frames
steps_as p cycles readings kinds s next given a program all h e =
    gives_is (IsAfter p (view p cycles readings) kinds s.frames) (step p s given) (a, next) e (step_as p program cycles readings all kinds s given h)

-- ---- another block

-- Where nothing is said of calls
unread : List Frame → List (Option Reading)
unread [] = []
unread (f ∷ below) = None ∷ unread below

unread_as : (p : ProgramData) (below : List Frame) → AllZip (IsFrameAs p) (unread below) below
unfolding unread
unread_as p [] = tt
unread_as p (f ∷ below) = (tt, unread_as p below)

-- Fewer calls aren't as many.
abbrev IsNewBlock : Reading → Frame → List Frame → Next → Type 0
IsNewBlock r g below next = next.1.frames ≡ g ∷ below → IsFrameOf r g

none_back : (p : ProgramData) (r : Reading) (g : Frame) (below : List Frame) → IsBack p (IsNewBlock r g below) (unread below) below
unfolding unread
none_back p r g [] = tt
none_back p r g (c ∷ below) = λ d mem is e. absurd (longer below (ap length e))
  where
    longer : (frames : List Frame) → length (c ∷ frames) ≡ length (g ∷ c ∷ frames) → ⊥
    longer frames e = omega arith

pub blocks_as : (p : ProgramData) (r : Reading) (f g : Frame) (below : List Frame) (mem : MemoryData) (next : StateData) → IsProgram p → IsReading p r → IsFrameOf r f → f.rest ≡ []
    → step p (record { frames = f ∷ below; memory = mem }) None ≡ Gives (stepped.Went, next) → next.frames ≡ g ∷ below → IsFrameOf r g
blocks_as p r f g below mem next program reading h e stepped_is same =
    gives_is (IsNewBlock r g below) (rest_step p f below mem None []) (stepped.Went, next) (ap (rest_step p f below mem None) (sym e) ∙ stepped_is)
    (term_leads p (IsNewBlock r g below) (Some r) (record { frame = f; behind = []; below = below; memory = mem }) f.last (reading, h) refl (λ d m is same_frames. first_is d is same_frames)
    (λ m o. returns_lead p (IsNewBlock r g below) (unread below) below m o (unread_as p below) (none_back p r g below) (λ a n none. absurd (no_frames none)))) same
  where
    first_is : (d : Frame) → IsFrameAs p (Some r) d → ◌≡◌ {A = List Frame} (d ∷ below) (g ∷ below) → IsFrameOf r g
    first_is d is same_frames = let one : d ≡ g = cc in subst (IsFrameOf r) one is.1

    no_frames : ◌≡◌ {A = List Frame} [] (g ∷ below) → ⊥
    no_frames none = cc
