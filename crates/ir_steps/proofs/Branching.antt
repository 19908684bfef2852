-- A branch is safe, and the call goes on in a block that its terminator names.
use Rattle.std.proofs.Common.{◌≡◌, ◌∙◌, inl, inr, ℕ, ◌<◌, ◌==◌, Bool, true, false, IsTrue, List, [], ◌∷◌, length, map, All, Contains, Some, option_and_then, sym, ap, subst}
use Rattle.std.specs.Prelude.{if◌then◌else◌}
use Rattle.std.proofs.lemmas.List.Elements.{All-head, All-tail}
use Rattle.ir_types.specs.declared.scalar.Scalar.{Scalar}
use Rattle.ir_types.specs.declared.scalar.Scalar.TheVariants.{I1, Ptr}
use Rattle.ir_types.specs.Scalars.{is_number_of, IsInteger}
use Rattle.ir_syntax.specs.declared.symbol.Sym.{Sym}
use Rattle.ir_syntax.specs.declared.constant.Operand.{Operand}
use Rattle.ir_syntax.specs.declared.body.Term.{Term}
use Rattle.ir_syntax.specs.declared.body.Term.TheVariants.{Br, CondBr, Switch}
use Rattle.ir_syntax.specs.declared.body.Block.{Block}
use Rattle.ir_syntax.specs.Edges.{successors, successors_of, Leads}
use Rattle.ir_syntax.specs.Programs.{ProgramData, IsProgram}
use Rattle.block_memory.specs.declared.value.Val.{Val}
use Rattle.block_memory.specs.declared.value.Val.TheVariants as val
use Rattle.block_memory.specs.Answers.{Gives, and_then, or_stuck}
use Rattle.ir_steps.specs.States.{Frame, Point}
use Rattle.ir_steps.specs.Operands.{value_in, value}
use Rattle.ir_steps.specs.Results.{went}
use Rattle.ir_steps.specs.Calls.{func_of, body_of}
use Rattle.ir_steps.specs.Branches.{enters_block, branch, chosen, case_for, switched}
use Rattle.ir_steps.proofs.Fits.{IsValue, MemoryFits, FrameFits, returns_at, Wait}
use Rattle.ir_steps.proofs.Evaluating.{IsRead}
use Rattle.ir_steps.proofs.Frames.{AtEnd}
use Rattle.ir_steps.proofs.FramesKept.{SameCall, NextFits}
use Rattle.ir_steps.proofs.Entering.{Leaves, enters_block_safe}
use Rattle.ir_steps.proofs.NumberingLists.{contains_here, contains_there, contains_cases}
use Rattle.ir_steps.proofs.Safely.{Safe, safe_then, safe_read}

-- A call at the end of its block, over the frames that wait for it.
pub record AtTerm (p : ProgramData) (at : Point) : Type 0 where
  pub memory : MemoryFits p at.memory
  pub end : AtEnd p (length at.memory.made) at.frame
  pub waits : Wait p (length at.memory.made) (returns_at p at.frame.func) at.below

pub body_is : (p : ProgramData) (made : ℕ) (f : Frame) → (fits : FrameFits p made f) → body_of p f.func ≡ Some fits.body
body_is p made f fits = ap (λ o. option_and_then (λ func. func.body) (option_and_then func_of o)) fits.is ∙ fits.has_body

-- a block of the body that the terminator names
abbrev pub IsTarget : List Block → Term → ℕ → Type 0
IsTarget blocks last to = Contains (successors last) to × (to < length blocks)

pub branch_safe : (p : ProgramData) → IsProgram p → (at : Point) (to : ℕ) (h : AtTerm p at) → IsTarget h.end.fits.body.blocks at.frame.last to → Safe (NextFits p) (branch p at to)
branch_safe p program at to h target =
    let made = length at.memory.made in
    let f = at.frame in
    let fits = h.end.fits in
    let blocks = fits.body.blocks in
    let S = SameCall p made f in
    let leads : Leads blocks f.block to = subst (λ o. Contains (successors_of o) to) (sym fits.place.at) (subst (λ t. Contains (successors t) to) fits.place.last target.0) in
    let leaves : Leaves p made f to = record { fits = fits; sound = h.end.sound; next = h.end.next; leads = leads; within = target.1 } in
    safe_then S (NextFits p) (λ g. Gives (went (g ∷ at.below) at.memory)) (and_then (enters_block p f to) (or_stuck (body_of p f.func)))
    (subst (λ o. Safe S (and_then (enters_block p f to) (or_stuck o))) (sym (body_is p made f fits)) (enters_block_safe p program made f to leaves))
    (λ g same. record { memory = h.memory; frames = (same.fits, subst (λ symbol. Wait p made (returns_at p symbol) at.below) (sym same.func) h.waits) })

-- ---- which block

one_of : (T : ℕ → Type 0) (b : Bool) (one other : ℕ) → T one → T other → T (if b then other else one)
one_of T true one other h k = k
one_of T false one other h k = h

chosen_safe : (p : ProgramData) (made : ℕ) (T : ℕ → Type 0) (v : Val Sym) (one other : ℕ) → IsValue p made I1 v → T one → T other → Safe T (chosen one other v)
chosen_safe p made T (val.Num n) one other h a b = one_of T (n == 0) one other a b
chosen_safe p made T val.Null one other h a b = let wrong : ◌≡◌ {A = Scalar} I1 Ptr = h in cc
chosen_safe p made T (val.At of offset) one other h a b = let wrong : ◌≡◌ {A = Scalar} I1 Ptr = h.0 in cc
chosen_safe p made T val.Poison one other h a b = tt

switched_safe : (p : ProgramData) (made : ℕ) (T : ℕ → Type 0) (ty : Scalar) (v : Val Sym) (default : ℕ) (cases : List (ℕ × ℕ)) → IsInteger ty → IsValue p made ty v → ((n : ℕ) → T (case_for n cases default)) → Safe T (switched default cases v)
switched_safe p made T ty (val.Num n) default cases integer h t = t n
switched_safe p made T ty val.Null default cases integer h t = absurd (integer h)
switched_safe p made T ty (val.At of offset) default cases integer h t = absurd (integer h.0)
switched_safe p made T ty val.Poison default cases integer h t = tt

case_when : (T : ℕ → Type 0) (b : Bool) (x y : ℕ) → T x → T y → T (if b then x else y)
case_when T true x y h k = h
case_when T false x y h k = k

abbrev places_of_cases : List (ℕ × ℕ) → List ℕ
places_of_cases cases = map (λ (c : ℕ × ℕ). c.1) cases

-- one successor more behind the first
more_successors : (default to x : ℕ) (others : List ℕ) → Contains (default ∷ others) x → Contains (default ∷ to ∷ others) x
more_successors default to x others h = elim (contains_cases default x others h) [
  | inl e ↦ subst (λ d. Contains (d ∷ to ∷ others) x) (sym e) (contains_here x (to ∷ others))
  | inr there ↦ contains_there default x (to ∷ others) (contains_there to x others there)
]

case_named : (n default : ℕ) (cases : List (ℕ × ℕ)) → Contains (default ∷ places_of_cases cases) (case_for n cases default)
case_named n default [] = contains_here default []
case_named n default (c ∷ cs) =
    case_when (λ x. Contains (default ∷ c.1 ∷ places_of_cases cs) x) (c.0 == n) c.1 (case_for n cs default)
    (contains_there default c.1 (c.1 ∷ places_of_cases cs) (contains_here c.1 (places_of_cases cs)))
    (more_successors default c.1 (case_for n cs default) (places_of_cases cs) (case_named n default cs))

case_within : (ty : Scalar) (blocks n default : ℕ) (cases : List (ℕ × ℕ)) → default < blocks → All (λ (c : ℕ × ℕ). IsTrue (is_number_of ty c.0) × (c.1 < blocks)) cases → case_for n cases default < blocks
case_within ty blocks n default [] h t = h
case_within ty blocks n default (c ∷ cs) h t =
    let T = λ (c : ℕ × ℕ). IsTrue (is_number_of ty c.0) × (c.1 < blocks) in
    let head = All-head T c cs t in
    case_when (λ x. x < blocks) (c.0 == n) c.1 (case_for n cs default) head.1 (case_within ty blocks n default cs h (All-tail T c cs t))

-- ---- the terminators that branch

pub one_safe : (p : ProgramData) → IsProgram p → (at : Point) (to : ℕ) (h : AtTerm p at) → at.frame.last ≡ Br to → to < length h.end.fits.body.blocks → Safe (NextFits p) (branch p at to)
one_safe p program at to h e within = branch_safe p program at to h (subst (λ t. Contains (successors t) to) (sym e) (contains_here to []), within)

pub two_safe : (p : ProgramData) → IsProgram p → (at : Point) (cond : Operand) (one other : ℕ) (h : AtTerm p at) → at.frame.last ≡ CondBr cond one other → one < length h.end.fits.body.blocks → other < length h.end.fits.body.blocks
    → IsRead p (length at.memory.made) at.frame I1 cond → Safe (NextFits p) (and_then (branch p at) (and_then (chosen one other) (value p at.frame cond)))
two_safe p program at cond one other h e within_one within_other read =
    let made = length at.memory.made in
    let T = IsTarget h.end.fits.body.blocks at.frame.last in
    let first : T one = (subst (λ t. Contains (successors t) one) (sym e) (contains_here one (other ∷ [])), within_one) in
    let second : T other = (subst (λ t. Contains (successors t) other) (sym e) (contains_there one other (other ∷ []) (contains_here other [])), within_other) in
    safe_then T (NextFits p) (branch p at) (and_then (chosen one other) (value p at.frame cond))
    (safe_read (IsValue p made I1) T (chosen one other) (value_in p at.frame cond) read (λ x hx. chosen_safe p made T x one other hx first second))
    (λ to target. branch_safe p program at to h target)

pub many_safe : (p : ProgramData) → IsProgram p → (at : Point) (ty : Scalar) (a : Operand) (default : ℕ) (cases : List (ℕ × ℕ)) (h : AtTerm p at) → at.frame.last ≡ Switch ty a default cases → IsInteger ty
    → default < length h.end.fits.body.blocks → All (λ (c : ℕ × ℕ). IsTrue (is_number_of ty c.0) × (c.1 < length h.end.fits.body.blocks)) cases
    → IsRead p (length at.memory.made) at.frame ty a → Safe (NextFits p) (and_then (branch p at) (and_then (switched default cases) (value p at.frame a)))
many_safe p program at ty a default cases h e integer within_default within read =
    let made = length at.memory.made in
    let blocks = h.end.fits.body.blocks in
    let T = IsTarget blocks at.frame.last in
    let target : (n : ℕ) → T (case_for n cases default) = λ n.
    (subst (λ t. Contains (successors t) (case_for n cases default)) (sym e) (case_named n default cases), case_within ty (length blocks) n default cases within_default within) in
    safe_then T (NextFits p) (branch p at) (and_then (switched default cases) (value p at.frame a))
    (safe_read (IsValue p made ty) T (switched default cases) (value_in p at.frame a) read (λ x hx. switched_safe p made T ty x default cases integer hx target))
    (λ to aim. branch_safe p program at to h aim)
