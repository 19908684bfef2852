-- A body is spelled in one way, and one that is resolved is the body of its lexemes.
use Rattle.std.proofs.Common.{◌≡◌, ◌∙◌, ℕ, Bool, true, false, cond, List, Option, Some, None, Result, Ok, Err, IfOk, if◌then◌else◌, option_and_then, refl, sym, ap}
use Rattle.ir_types.specs.declared.memory.OutOfMemory.{OutOfMemory}
use Rattle.ir_syntax.specs.declared.body.Body.{Body}
use Rattle.ir_grammar.specs.declared.grammar.Name.{Name}
use Rattle.ir_grammar.specs.declared.grammar.Name.TheVariants as the
use Rattle.ir_grammar.specs.Tokens.{Kept, Piece}
use Rattle.ir_grammar.specs.Derives.{IsDerived}
use Rattle.ir_scope.specs.Scopes.{Env}
use Rattle.ir_locals.specs.Locals.{Local, locals_of, are_locals}
use Rattle.ir_operands.specs.Operands.{Names}
use Rattle.ir_body.specs.Bodies.{SpellsBody, IsBodyOf, behind_brace, body_with, body_at}
use Rattle.ir_body.specs.Mirrors.Building.{lined_body_at}

-- A nonterminal derives one number of the first tokens at most, and one list of lexemes is kept.
abbrev pub OneDerivation : Type 0
OneDerivation = (start : Name) (pieces : List Piece) (kept others : List Kept) (taken left : ℕ) → IsDerived start pieces kept taken → IsDerived start pieces others left → (kept ≡ others) × (taken ≡ left)

one : {X : Type 0} (x y : X) → Some x ≡ Some y → x ≡ y
one x y e = cc

pub one_body : OneDerivation → (env : Env) (params : List (List ℕ)) (pieces : List Piece) (b c : Body) (n m : ℕ) → SpellsBody env params pieces b n → SpellsBody env params pieces c m → (b ≡ c) × (n ≡ m)
one_body once env params pieces b c n m s t =
    let e = once the.Body pieces s.kept t.kept n m s.spelled t.spelled in
    (one b c (sym s.resolved ∙ ap (body_at env params) e.0 ∙ t.resolved), e.1)

-- ---- resolving

well : {X : Type 0} (t : Bool) (x y : X) → Some x ≡ cond t (Some y) None → t ≡ true
well true x y e = refl
well false x y e = cc

same : {X : Type 0} (t : Bool) (x y : X) → Some x ≡ cond t (Some y) None → x ≡ y
same true x y e = cc
same false x y e = cc

body_is : (env : Env) (params : List (List ℕ)) (ks lines : List Kept) (locals : List (List ℕ × Local)) → lines ≡ behind_brace ks →
    Some locals ≡ (if are_locals (locals_of params lines) then Some (locals_of params lines) else None) → lined_body_at (record { env = env; locals = locals }) lines ≡ body_at env params ks
body_is env params ks lines locals r e =
    ap (λ ls. lined_body_at (record { env = env; locals = ls }) lines) (same (are_locals (locals_of params lines)) locals (locals_of params lines) e)
    ∙ ap (λ t. cond t (lined_body_at (record { env = env; locals = locals_of params lines }) lines) None) (sym (well (are_locals (locals_of params lines)) locals (locals_of params lines) e))
    ∙ ap (λ ls. body_with env (locals_of params ls) ls) r

pub resolved : (env : Env) (params : List (List ℕ)) (ks lines : List Kept) (locals : List (List ℕ × Local)) (r : Result (Option Body) OutOfMemory) → lines ≡ behind_brace ks →
    Some locals ≡ (if are_locals (locals_of params lines) then Some (locals_of params lines) else None) → IfOk r (λ o. o ≡ lined_body_at (record { env = env; locals = locals }) lines) →
    IfOk r (λ o. o ≡ body_at env params ks)
resolved env params ks lines locals (Ok o) r e h = h ∙ body_is env params ks lines locals r e
resolved env params ks lines locals (Err f) r e h = tt

-- ---- reading

pub spells : (env : Env) (params : List (List ℕ)) (pieces : List Piece) (kept given : List Kept) (n : ℕ) (body : Body) → IsBodyOf pieces kept n → given ≡ kept →
    Some body ≡ body_at env params given → SpellsBody env params pieces body n
spells env params pieces kept given n body s g e = record { kept = kept; spelled = s; resolved = ap (body_at env params) (sym g) ∙ sym e }

pub spells_none : OneDerivation → (env : Env) (params : List (List ℕ)) (pieces : List Piece) (kept given : List Kept) (n : ℕ) → IsBodyOf pieces kept n → given ≡ kept →
    None ≡ body_at env params given → (body : Body) (taken : ℕ) → SpellsBody env params pieces body taken → ⊥
spells_none once env params pieces kept given n s g e body taken t =
    let f = once the.Body pieces kept t.kept n taken s t.spelled in
    never body (e ∙ ap (body_at env params) (g ∙ f.0) ∙ t.resolved)
  where
    never : (body : Body) → None ≡ Some body → ⊥
    never body e = cc
