-- Roots that conform to the deployment begin as is read of them.
use Rattle.std.proofs.Common.{◌≡◌, ◌∙◌, ℕ, Bool, true, false, IsTrue, List, [], ◌∷◌, map, All, slice_get, Some, refl, sym, ap, subst, if◌then◌else◌}
use Rattle.std.specs.Prelude.{◌&&◌, not}
use Rattle.std.specs.List.{AllZip}
use Rattle.std.proofs.lemmas.Bool.{and_parts}
use Rattle.std.proofs.lemmas.List.{length-map}
use Rattle.ir_types.specs.Scalars.{is_number_of}
use Rattle.ir_types.specs.declared.scalar.Known.{Known}
use Rattle.ir_types.specs.declared.scalar.Known.TheVariants.{Unknown, Num, Null}
use Rattle.ir_syntax.specs.declared.symbol.Sym.{Sym}
use Rattle.ir_syntax.specs.declared.body.Block.{Block}
use Rattle.ir_syntax.specs.declared.body.Body.{Body}
use Rattle.ir_syntax.specs.declared.item.Func.{Func}
use Rattle.ir_syntax.specs.declared.item.Item.{Item}
use Rattle.ir_syntax.specs.declared.item.Item.TheVariants as item
use Rattle.ir_syntax.specs.Programs.{ProgramData}
use Rattle.ir_syntax.specs.Symbols.{item_at}
use Rattle.block_memory.specs.declared.value.Val.{Val}
use Rattle.block_memory.specs.declared.value.Val.TheVariants as val
use Rattle.block_memory.specs.Answers.{Gives, and_then, or_stuck}
use Rattle.ir_steps.specs.States.{Frame, StateData}
use Rattle.ir_steps.specs.Results.{state}
use Rattle.ir_steps.specs.Calls.{begins_at, begins, body_of}
use Rattle.ir_steps.specs.Steps.{enter}
use Rattle.session_runs.specs.declared.session.Root.{Root}
use Rattle.session_runs.specs.Conforming.{IsAsKnown, IsConformingRoot}
use Rattle.fold_facts.proofs.Lists.{some_is, zip_length}
use Rattle.demands.specs.declared.demand.Demand.TheVariants.{Func as function}
use Rattle.interface.specs.Asked.{is_specialised, all_unknown, pattern_for}
use Rattle.interface.specs.Roots.{is_symbol, is_export, is_named, is_only_entered, root_pattern, by_root}
use Rattle.known_values.specs.Suits.{AllSuit}
use Rattle.known_values.specs.Readings.{Reading, IsReading, demand_of}
use Rattle.known_values.specs.Frames.{IsFrameAs}
use Rattle.known_values.specs.Views.{root_demand, view}
use Rattle.known_values.proofs.Giving.{IfGives, gives_then, gives_read}
use Rattle.known_values.proofs.Depths.{AreFramesAs}
use Rattle.known_values.proofs.Found.{symbol_is, read_as, asked_for}
use Rattle.known_values.proofs.Beginning.{unknown_suit, begun_of}
use Rattle.known_values.proofs.Callees.{IsCalled}

-- ---- arguments

abbrev pub numbers : List ℕ → List (Val Sym)
numbers args = map (λ n. val.Num n) args

-- Numbers that are as is known suit it.
known_numbers : (known : List Known) (args : List ℕ) → AllZip IsAsKnown known args → AllSuit known (numbers args)
known_numbers [] [] h = tt
known_numbers [] (n ∷ ns) h = absurd h
known_numbers (k ∷ ks) [] h = absurd h
known_numbers (Unknown ∷ ks) (n ∷ ns) h = (tt, known_numbers ks ns h.1)
known_numbers (Num m ∷ ks) (n ∷ ns) h = (ap val.Num h.0, known_numbers ks ns h.1)
known_numbers (Null ∷ ks) (n ∷ ns) h = absurd h.0

-- The arguments suit what the deployment asks for.
root_suits : (p : ProgramData) (cycles : List (List Bool)) (symbol : Sym) (func : Func) (args : List ℕ) → (symbol ≡ p.entry → AllZip IsAsKnown p.entry_args args) → AllSuit (all_unknown func) (numbers args)
    → AllSuit (root_pattern p cycles symbol func) (numbers args)
root_suits p cycles symbol func args known any = of (is_only_entered p symbol) refl
  where
    by : (b : Bool) → AllSuit p.entry_args (numbers args) → AllSuit (if b then p.entry_args else all_unknown func) (numbers args)
    by true h = h
    by false h = any

    of : (b : Bool) → is_only_entered p symbol ≡ b → AllSuit (if b then pattern_for cycles symbol func p.entry_args else all_unknown func) (numbers args)
    of true e =
        let entry = symbol_is p.entry symbol (and_parts (is_symbol p.entry symbol) (not (is_export p symbol) && not (is_named p symbol)) e).0 in
        by (is_specialised cycles symbol func) (known_numbers p.entry_args args (known (sym entry)))
    of false e = any

-- ---- what is asked of a root

root_parts : (a b : Sym) (x y : List Known) → function a x ≡ function b y → (a ≡ b) × (x ≡ y)
root_parts a b x y e = (cc, cc)

root_called : (p : ProgramData) (cycles : List (List Bool)) (root : Root) (to : Reading) (found : Item) → IsConformingRoot p root → IsReading p to → item_at p.modules root.func ≡ Some found
    → by_root p cycles root.func found ≡ demand_of to → IsCalled root.func (numbers root.args) to
root_called p cycles root to (item.Var var) conforms into stands e = cc
root_called p cycles root to (item.Func func) conforms into stands e =
    let parts = root_parts root.func to.symbol (root_pattern p cycles root.func func) to.pattern e in
    let one : func ≡ conforms.takes.func = same_function (some_is (sym stands ∙ conforms.takes.is)) in
    let long = length-map root.args (λ n. val.Num n) ∙ zip_length (λ param n. IsTrue (is_number_of param.ty n)) conforms.takes.func.params root.args conforms.takes.suits in
    let any = subst (λ g. AllSuit (all_unknown g) (numbers root.args)) (sym one) (unknown_suit conforms.takes.func.params (numbers root.args) long) in
    record { symbol = sym parts.0; suit = subst (λ pattern. AllSuit pattern (numbers root.args)) parts.1 (root_suits p cycles root.func func root.args conforms.known any) }
  where
    same_function : item.Func func ≡ item.Func conforms.takes.func → func ≡ conforms.takes.func
    same_function h = cc

root_as : (p : ProgramData) (cycles : List (List Bool)) (readings : List Reading) → All (IsReading p) readings → (root : Root) (body : Body) (first : Block) → IsConformingRoot p root → body_of p root.func ≡ Some body → slice_get body.blocks 0 ≡ Some first
    → IsFrameAs p ((view p cycles readings).of_root root) (begins_at root.func body (numbers root.args) first)
root_as p cycles readings all root body first conforms has at =
    read_as p readings (root_demand p cycles root.func) (begins_at root.func body (numbers root.args) first) all (λ to into is.
    let asked = asked_for (by_root p cycles) p (Some root.func) (demand_of to) is in
    let same : root.func ≡ asked.symbol = some_is asked.is in
    let called = root_called p cycles root to asked.item conforms into (ap (item_at p.modules) same ∙ asked.stands) (ap (λ s. by_root p cycles s asked.item) same ∙ asked.asked) in
    begun_of p to root.func body (numbers root.args) first into called.symbol has at called.suit)

-- A root that is entered is as is read.
pub root_entered : (p : ProgramData) (cycles : List (List Bool)) (readings : List Reading) → All (IsReading p) readings → (s : StateData) (root : Root) → IsConformingRoot p root
    → IfGives (λ t. AreFramesAs p ((view p cycles readings).of_root root ∷ []) t.frames) (enter p s root.func root.args)
root_entered p cycles readings all s root conforms =
    let kind = (view p cycles readings).of_root root in
    gives_then (IsFrameAs p kind) (λ (t : StateData). AreFramesAs p (kind ∷ []) t.frames) (λ (f : Frame). Gives (state (f ∷ []) s.memory)) (and_then (λ body. begins root.func body (numbers root.args)) (or_stuck (body_of p root.func)))
    (gives_read (IsFrameAs p kind) (λ body. begins root.func body (numbers root.args)) (body_of p root.func)
    (λ body has. gives_read (IsFrameAs p kind) (λ first. Gives (begins_at root.func body (numbers root.args) first)) (slice_get body.blocks 0) (λ first at. root_as p cycles readings all root body first conforms has at)))
    (λ f is. (is, tt))
