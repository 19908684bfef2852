-- Bodies: which body kept lexemes stand for, and which body tokens spell.
use Rattle.std.specs.Prelude.{◌≡◌, ℕ, ◌+◌, Bool, not, ◌&&◌, nat_eq, nat_lt, nat_le, List, [], ◌∷◌, ◌++◌, length, drop, count_by, Option, Some, None, option_map, option_and_then, if◌then◌else◌}
use Rattle.ir_lexer.specs.declared.token.Token.{Token}
use Rattle.ir_lexer.specs.Tokens.{texts_of}
use Rattle.ir_syntax.specs.declared.body.Body.{Body}
use Rattle.ir_syntax.specs.declared.body.Block.{Block}
use Rattle.ir_syntax.specs.declared.body.Inst.{Inst}
use Rattle.ir_syntax.specs.declared.body.Phi.{Phi}
use Rattle.ir_syntax.specs.Results.{count, results}
use Rattle.ir_grammar.specs.declared.grammar.Name.TheVariants as the
use Rattle.ir_grammar.specs.Tokens.{Kept, Piece}
use Rattle.ir_grammar.specs.Derives.{IsDerived, IsNotDerived}
use Rattle.ir_scope.specs.Runs.{Reading, runs, closed_by}
use Rattle.ir_scope.specs.Scopes.{Env}
use Rattle.ir_scope.specs.Types.{is_close_brace}
use Rattle.ir_locals.specs.Locals.{Local, has_result, is_label, begins_labelled, locals_of, are_locals}
use Rattle.ir_operands.specs.Operands.{Names}
use Rattle.ir_body.specs.Lines.{Line, Labelled, OfPhi, OfInst, Dropped, Ends, line_at}

-- The blocks of lines: each ends with its terminator. What stands before it was gathered.
abbrev pub blocks_from : List Phi → List Inst → List Line → List Block
blocks_from phis insts [] = []
blocks_from phis insts (Labelled ∷ lines) = blocks_from phis insts lines
blocks_from phis insts (OfPhi phi ∷ lines) = blocks_from (phis ++ phi ∷ []) insts lines
blocks_from phis insts (OfInst i ∷ lines) = blocks_from phis (insts ++ i ∷ []) lines
blocks_from phis insts (Dropped ∷ lines) = blocks_from phis insts lines
blocks_from phis insts (Ends t ∷ lines) = record { phis = phis; insts = insts; term = t } ∷ blocks_from [] [] lines

abbrev pub body_of : List Line → Body
body_of lines = record { blocks = blocks_from [] [] lines }

-- how many results kept lexemes of blocks have
abbrev pub results_in : List Kept → ℕ
results_in ks = count_by (λ (k : Kept). has_result k.0) ks

-- and how many blocks they begin: the first may have no label
abbrev pub blocks_in : List Kept → ℕ
blocks_in ks = count_by (λ (k : Kept). is_label k.0) ks + (if begins_labelled ks then 0 else 1)

-- The body has as many results and blocks as the lexemes.
abbrev pub is_counted : List Kept → Body → Bool
is_counted ks body = nat_eq (results_in ks) (length (results body)) && nat_eq (blocks_in ks) (length body.blocks)

-- A body has 1 to 65,535 blocks, and at most 1,048,576 phis, instructions and terminators.
abbrev pub is_body : Body → Bool
is_body body = nat_lt 0 (length body.blocks) && nat_le (length body.blocks) 65535 && nat_le (count body) 1048576

abbrev pub bounded : List Kept → Body → Option Body
bounded ks body = if is_body body && is_counted ks body then Some body else None

-- the lines, with the closing brace
abbrev pub lines_at : Names → Reading (List Line)
lines_at names ks = closed_by is_close_brace ks (runs (λ shape. not (is_close_brace shape)) (line_at names) ks)

-- what stands behind the opening brace
abbrev pub behind_brace : List Kept → List Kept
behind_brace [] = []
behind_brace (k ∷ ks) = ks

abbrev pub body_with : Env → List (List ℕ × Local) → List Kept → Option Body
body_with env locals ks =
    if are_locals locals then option_and_then (λ f. bounded ks (body_of f.0)) (lines_at (record { env = env; locals = locals }) ks) else None

-- The body that kept lexemes stand for, from the opening brace on, in a function whose parameters have these names.
abbrev pub body_at : Env → List (List ℕ) → List Kept → Option Body
body_at env params ks = body_with env (locals_of params (behind_brace ks)) (behind_brace ks)

-- So many of the first tokens are a body by the grammar, and this is kept of them.
abbrev pub IsBodyOf : List Piece → List Kept → ℕ → Type 0
IsBodyOf pieces kept taken = IsDerived the.Body pieces kept taken

-- The first tokens are no body by the grammar.
abbrev pub IsNoBody : List Piece → Type 0
IsNoBody pieces = IsNotDerived the.Body pieces

-- So many of the tokens spell the body.
pub record SpellsBody (env : Env) (params : List (List ℕ)) (pieces : List Piece) (body : Body) (taken : ℕ) : Type 0 where
  pub kept : List Kept
  pub spelled : IsBodyOf pieces kept taken
  pub resolved : body_at env params kept ≡ Some body
