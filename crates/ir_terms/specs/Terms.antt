-- Phis and terminators, behind their words.
use Rattle.std.specs.Prelude.{ℕ, Bool, true, false, not, nat_lt, List, [], ◌∷◌, length, Option, Some, None, option_map, option_and_then, if◌then◌else◌}
use Rattle.ir_types.specs.declared.scalar.Scalar.{Scalar}
use Rattle.ir_types.specs.declared.scalar.Scalar.TheVariants.{I1}
use Rattle.ir_syntax.specs.declared.constant.Operand.{Operand}
use Rattle.ir_syntax.specs.declared.body.Term.{Term}
use Rattle.ir_syntax.specs.declared.body.Term.TheVariants as term
use Rattle.ir_syntax.specs.declared.body.Phi.{Phi}
use Rattle.ir_grammar.specs.declared.shape.Shape.{Shape}
use Rattle.ir_grammar.specs.declared.shape.Shape.TheVariants as is
use Rattle.ir_grammar.specs.Tokens.{Kept}
use Rattle.ir_scope.specs.Runs.{Reading, behind, runs, closed_by}
use Rattle.ir_scope.specs.Integers.{number}
use Rattle.ir_constants.specs.Constants.{is_close_square}
use Rattle.ir_operands.specs.Operands.{Names, operand_at, block_at, then_at, typed}

-- ---- phis

abbrev pub is_open_square : Shape → Bool
is_open_square is.OpenSquare = true
is_open_square _ = false

-- [ a, %l ]
abbrev pub entry_at : Names → Scalar → Reading (Operand × ℕ)
entry_at names ty ((is.OpenSquare, text) ∷ ks) = behind 1 (then_at (λ a l. (a, l)) ks (block_at names) (operand_at names ty ks))
entry_at names ty _ = None

-- A phi has an entry at least.
abbrev pub made_phi : Scalar → List (Operand × ℕ) × ℕ → Option (Phi × ℕ)
made_phi ty f = if nat_lt 0 (length f.0) then Some (record { ty = ty; entries = f.0 }, f.1) else None

-- T [ a, %l ], [ b, %m ]
abbrev pub phi_at : Names → Reading Phi
phi_at names ((is.Scalar ty, text) ∷ ks) = behind 1 (option_and_then (made_phi ty) (runs is_open_square (entry_at names ty) ks))
phi_at names _ = None

-- ---- terminators, behind their words

-- void, or T a
abbrev pub ret_at : Names → Reading Term
ret_at names ((is.Void, text) ∷ ks) = Some (term.RetVoid, 1)
ret_at names ks = option_map (λ f. (term.Ret f.0.0 f.0.1, f.1)) (typed (operand_at names) ks)

abbrev pub made_branch : Operand × ℕ → ℕ → Term
made_branch f other = term.CondBr f.0 f.1 other

-- label %l, or i1 c, label %l, label %m
abbrev pub br_at : Names → Reading Term
br_at names ((is.Scalar I1, text) ∷ ks) =
    behind 1 (then_at made_branch ks (block_at names) (then_at (λ cond one. (cond, one)) ks (block_at names) (operand_at names I1 ks)))
br_at names ks = option_map (λ f. (term.Br f.0, f.1)) (block_at names ks)

-- c, label %l
abbrev pub case_at : Names → Scalar → Reading (ℕ × ℕ)
case_at names ty (k ∷ ks) = option_and_then (λ n. behind 1 (option_map (λ f. ((n, f.0), f.1)) (block_at names ks))) (number ty k)
case_at names ty [] = None

-- the cases, with the closing bracket
abbrev pub cases_at : Names → Scalar → Reading (List (ℕ × ℕ))
cases_at names ty ks = closed_by is_close_square ks (runs (λ shape. not (is_close_square shape)) (case_at names ty) ks)

abbrev pub made_switch : Scalar → Operand × ℕ → List (ℕ × ℕ) → Term
made_switch ty f cases = term.Switch ty f.0 f.1 cases

-- T v, label %d [ cases ]
abbrev pub switch_at : Names → Reading Term
switch_at names ((is.Scalar ty, text) ∷ ks) =
    behind 1 (then_at (made_switch ty) ks (cases_at names ty) (then_at (λ value default. (value, default)) ks (block_at names) (operand_at names ty ks)))
switch_at names _ = None
