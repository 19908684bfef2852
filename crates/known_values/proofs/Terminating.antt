-- Terminators: the call goes to another block as is read, or its caller goes on behind its instruction.
use Rattle.std.proofs.Common.{◌≡◌, ℕ, ◌==◌, List, [], ◌∷◌, map, Option, Some, None, refl, sym, ap, subst, if◌then◌else◌}
use Rattle.std.specs.List.{AllZip}
use Rattle.ir_types.specs.declared.scalar.Scalar.{Scalar}
use Rattle.ir_syntax.specs.declared.symbol.Sym.{Sym}
use Rattle.ir_syntax.specs.declared.symbol.SymName.{SymName}
use Rattle.ir_syntax.specs.declared.constant.Operand.{Operand}
use Rattle.ir_syntax.specs.declared.body.Inst.{Inst}
use Rattle.ir_syntax.specs.declared.body.Inst.TheVariants.{Call}
use Rattle.ir_syntax.specs.declared.body.Term.{Term}
use Rattle.ir_syntax.specs.declared.body.Term.TheVariants.{RetVoid, Ret, Br, CondBr, Switch, Unreachable}
use Rattle.ir_syntax.specs.declared.body.Body.{Body}
use Rattle.ir_syntax.specs.Edges.{successors}
use Rattle.ir_syntax.specs.Programs.{ProgramData}
use Rattle.block_memory.specs.declared.value.Val.{Val}
use Rattle.block_memory.specs.declared.value.Val.TheVariants as val
use Rattle.block_memory.specs.Answers.{Gives, and_then, or_stuck}
use Rattle.block_memory.specs.Blocks.{MemoryData}
use Rattle.ir_steps.specs.declared.session.Stepped.TheVariants as stepped
use Rattle.ir_steps.specs.States.{Frame, Point}
use Rattle.ir_steps.specs.Operands.{value_in, value}
use Rattle.ir_steps.specs.Results.{Next, state, went}
use Rattle.ir_steps.specs.Showing.{shown_value}
use Rattle.ir_steps.specs.Branches.{enters_block, branch, chosen, switched, case_for}
use Rattle.ir_steps.specs.Calls.{body_of}
use Rattle.ir_steps.specs.Returns.{end_all, resumed, resume, root_returns, returns_to, returns}
use Rattle.ir_steps.specs.Steps.{term_step}
use Rattle.fold_facts.specs.declared.fact.Fact.{Fact}
use Rattle.fold_facts.specs.Operands.{operand_fact}
use Rattle.fold_facts.specs.Places.{blocks_in}
use Rattle.fold_facts.specs.Terminators.{edges_by, branch_edge, switch_edge, term_edges}
use Rattle.known_values.specs.Suits.{Suits}
use Rattle.known_values.specs.Readings.{Reading, setting_of}
use Rattle.known_values.specs.Frames.{IsFrameOf, IsFrameAs}
use Rattle.known_values.proofs.Giving.{IfGives, gives_any, gives_of, gives_then, gives_read, gives_weaker, gives_all, same_given, then_read}
use Rattle.known_values.proofs.Facts.{operand_suits}
use Rattle.known_values.proofs.Edges.{IsAsked, branch_asked, switch_asked, edge_reached}
use Rattle.known_values.proofs.Entered.{enters_of}
use Rattle.known_values.proofs.Beginning.{body_is}
use Rattle.known_values.proofs.GoingOn.{IsLed, GoesOn, call_goes_on, call_suits}
use Rattle.known_values.proofs.Outside.{Ends}

-- ---- branches

-- A branch to a block that the terminator at hand asks for.
enters_as : (p : ProgramData) (kind : Option Reading) (f : Frame) (t : Term) (to : ℕ) (body : Body) → IsFrameAs p kind f → f.last ≡ t → body_of p f.func ≡ Some body
    → ((r : Reading) → IsFrameOf r f → IsAsked (term_edges (setting_of r) r.assigned.facts t) (successors t) to) → IfGives (IsFrameAs p kind) (enters_block p f to body)
enters_as p None f t to body h e has asked = gives_all (IsFrameAs p None) (enters_block p f to body) (λ g. tt)
enters_as p (Some r) f t to body h e has asked =
    let edge = edge_reached p r f t to h.0 h.1 e (asked r h.1) in
    let blocks = ap blocks_in (body_is p r f.func body h.0 (sym h.1.func) has) in
    gives_weaker (IsFrameOf r) (IsFrameAs p (Some r)) (enters_block p f to body) (enters_of p r f to edge.0 body h.0 h.1 edge.1 blocks) (λ g is. (h.0, is))

pub branch_leads : (p : ProgramData) (Q : Next → Type 0) (kind : Option Reading) (at : Point) (t : Term) (to : ℕ) → IsFrameAs p kind at.frame → at.frame.last ≡ t
    → ((r : Reading) → IsFrameOf r at.frame → IsAsked (term_edges (setting_of r) r.assigned.facts t) (successors t) to) → IsLed p Q kind at.below → IfGives Q (branch p at to)
branch_leads p Q kind at t to h e asked led =
    gives_then (IsFrameAs p kind) Q (λ f. Gives (went (f ∷ at.below) at.memory)) (and_then (enters_block p at.frame to) (or_stuck (body_of p at.frame.func)))
    (gives_read (IsFrameAs p kind) (enters_block p at.frame to) (body_of p at.frame.func) (λ body has. enters_as p kind at.frame t to body h e has asked))
    (λ g is. led g at.memory is)

two_asked : (x : Fact) (one other to : ℕ) (v : Val Sym) → chosen one other v ≡ Gives to → Suits x v → IsAsked (edges_by branch_edge x) (one ∷ other ∷ []) to
two_asked x one other to (val.Num n) e s = subst (IsAsked (edges_by branch_edge x) (one ∷ other ∷ [])) (same_given (if n == 0 then other else one) to e) (branch_asked x n one other s)
two_asked x one other to val.Null e s = cc
two_asked x one other to (val.At of offset) e s = cc
two_asked x one other to val.Poison e s = cc

many_asked : (x : Fact) (default : ℕ) (cases : List (ℕ × ℕ)) (to : ℕ) (v : Val Sym) → switched default cases v ≡ Gives to → Suits x v → IsAsked (edges_by (switch_edge cases) x) (default ∷ map (λ case. case.1) cases) to
many_asked x default cases to (val.Num n) e s =
    subst (IsAsked (edges_by (switch_edge cases) x) (default ∷ map (λ case. case.1) cases)) (same_given (case_for n cases default) to e) (switch_asked x n default cases s)
many_asked x default cases to val.Null e s = cc
many_asked x default cases to (val.At of offset) e s = cc
many_asked x default cases to val.Poison e s = cc

two_leads : (p : ProgramData) (Q : Next → Type 0) (kind : Option Reading) (at : Point) (cond : Operand) (one other : ℕ) → IsFrameAs p kind at.frame → at.frame.last ≡ CondBr cond one other → IsLed p Q kind at.below
    → IfGives Q (and_then (branch p at) (and_then (chosen one other) (value p at.frame cond)))
two_leads p Q kind at cond one other h e led =
    gives_of Q (branch p at) (and_then (chosen one other) (value p at.frame cond)) (λ to g.
    let read = then_read (chosen one other) (value_in p at.frame cond) to g in
    branch_leads p Q kind at (CondBr cond one other) to h e
    (λ r is. two_asked (operand_fact (setting_of r) r.assigned.facts cond) one other to read.0 read.2 (operand_suits p r at.frame cond read.0 is read.1)) led)

many_leads : (p : ProgramData) (Q : Next → Type 0) (kind : Option Reading) (at : Point) (ty : Scalar) (a : Operand) (default : ℕ) (cases : List (ℕ × ℕ)) → IsFrameAs p kind at.frame → at.frame.last ≡ Switch ty a default cases
    → IsLed p Q kind at.below → IfGives Q (and_then (branch p at) (and_then (switched default cases) (value p at.frame a)))
many_leads p Q kind at ty a default cases h e led =
    gives_of Q (branch p at) (and_then (switched default cases) (value p at.frame a)) (λ to g.
    let read = then_read (switched default cases) (value_in p at.frame a) to g in
    branch_leads p Q kind at (Switch ty a default cases) to h e
    (λ r is. many_asked (operand_fact (setting_of r) r.assigned.facts a) default cases to read.0 read.2 (operand_suits p r at.frame a read.0 is read.1)) led)

-- ---- returns

-- What holds of each caller that goes on.
abbrev pub IsBack : ProgramData → (Next → Type 0) → List (Option Reading) → List Frame → Type 0
IsBack p Q [] below = Unit {0}
IsBack p Q (kind ∷ kinds) [] = Unit {0}
IsBack p Q (kind ∷ kinds) (f ∷ below) = IsLed p Q kind below

resumed_leads : (p : ProgramData) (Q : Next → Type 0) (at : Point) (returns : Option Scalar) (o : Option (Val Sym)) → GoesOn Q at returns → IfGives Q (resumed at returns o)
resumed_leads p Q at None None goes = goes at.memory None tt
resumed_leads p Q at None (Some v) goes = tt
resumed_leads p Q at (Some ty) None goes = tt
resumed_leads p Q at (Some ty) (Some v) goes = goes at.memory (Some v) tt

resume_leads : (p : ProgramData) (Q : Next → Type 0) (kind : Option Reading) (f : Frame) (below : List Frame) (mem : MemoryData) (o : Option (Val Sym)) (rest : List Inst) → f.rest ≡ rest → IsFrameAs p kind f → IsLed p Q kind below
    → IfGives Q (resume f below mem o rest)
resume_leads p Q kind f below mem o (Call fn_ty ret_ext callee args ∷ behind) e h led =
    let at : Point = record { frame = f; behind = behind; below = below; memory = mem } in
    let inst = Call fn_ty ret_ext callee args in
    resumed_leads p Q at fn_ty.returns o (call_goes_on p Q kind at inst (record { frame = h; rest = e }) (call_suits kind fn_ty ret_ext callee args) led)
resume_leads p Q kind f below mem o rest e h led = tt

root_leads : (p : ProgramData) (Q : Next → Type 0) (mem : MemoryData) (o : Option (Val Sym)) → Ends Q → IfGives Q (root_returns p mem o)
root_leads p Q mem None ends = ends (stepped.Returned None) mem
root_leads p Q mem (Some x) ends =
    gives_any Q (λ (named : Val SymName). Gives (stepped.Returned (Some named), state [] mem)) (or_stuck (shown_value p x)) (λ named. ends (stepped.Returned (Some named)) mem)

pub returns_lead : (p : ProgramData) (Q : Next → Type 0) (kinds : List (Option Reading)) (below : List Frame) (mem : MemoryData) (o : Option (Val Sym)) → AllZip (IsFrameAs p) kinds below → IsBack p Q kinds below → Ends Q
    → IfGives Q (returns_to p mem o below)
returns_lead p Q kinds [] mem o h back ends = root_leads p Q mem o ends
returns_lead p Q [] (f ∷ below) mem o h back ends = absurd h
returns_lead p Q (kind ∷ kinds) (f ∷ below) mem o h back ends = resume_leads p Q kind f below mem o f.rest refl h.0 back

-- ---- terminators

pub term_leads : (p : ProgramData) (Q : Next → Type 0) (kind : Option Reading) (at : Point) (t : Term) → IsFrameAs p kind at.frame → at.frame.last ≡ t → IsLed p Q kind at.below
    → ((mem : MemoryData) (o : Option (Val Sym)) → IfGives Q (returns_to p mem o at.below)) → IfGives Q (term_step p at t)
term_leads p Q kind at RetVoid h e led back = back (end_all at.frame.allocas at.memory) None
term_leads p Q kind at (Ret ty a) h e led back = gives_any Q (λ x. returns p at (Some x)) (value p at.frame a) (λ x. back (end_all at.frame.allocas at.memory) (Some x))
term_leads p Q kind at (Br to) h e led back = branch_leads p Q kind at (Br to) to h e (λ r is. (0, refl, refl)) led
term_leads p Q kind at (CondBr cond one other) h e led back = two_leads p Q kind at cond one other h e led
term_leads p Q kind at (Switch ty a default cases) h e led back = many_leads p Q kind at ty a default cases h e led
term_leads p Q kind at Unreachable h e led back = tt
