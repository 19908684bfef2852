-- Parts of lines.
use Rattle.std.specs.Prelude.{ℕ, Bool, not, List, [], ◌∷◌, Option, Some, None, option_map}
use Rattle.ir_syntax.specs.declared.body.Phi.{Phi}
use Rattle.ir_syntax.specs.declared.body.Inst.{Inst}
use Rattle.ir_grammar.specs.declared.shape.Shape.{Shape}
use Rattle.ir_grammar.specs.declared.shape.Shape.TheVariants as is
use Rattle.ir_grammar.specs.Tokens.{Kept}
use Rattle.ir_scope.specs.Runs.{Reading, behind}
use Rattle.ir_scope.specs.Types.{is_close_brace}
use Rattle.ir_operands.specs.Operands.{Names}
use Rattle.ir_body.specs.Lines.{Line, Labelled, OfPhi, dropped_or, verb_at}

abbrev pub begins_line : Shape → Bool
begins_line shape = not (is_close_brace shape)

abbrev pub call_line : Option (Option Inst × ℕ) → Option (Line × ℕ)
call_line found = option_map (λ f. (dropped_or f.0, f.1)) found

abbrev pub phi_line : Option (Phi × ℕ) → Option (Line × ℕ)
phi_line found = option_map (λ f. (OfPhi f.0, f.1)) found

-- a line behind the name of its result, which counts too
abbrev pub named_line_at : Names → Reading Line
named_line_at names [] = None
named_line_at names (k ∷ ks) = behind 2 (verb_at names k.0 ks)

-- a line without a name, behind its word, which counts too
abbrev pub plain_line_at : Names → Shape → Reading Line
plain_line_at names word ks = behind 1 (verb_at names word ks)

-- behind the first lexeme, which counts too
abbrev pub shaped_line_at : Names → Shape → Reading Line
shaped_line_at names is.Label ks = Some (Labelled, 1)
shaped_line_at names is.Result ks = named_line_at names ks
shaped_line_at names first ks = plain_line_at names first ks

abbrev pub first_shape : List Kept → Option Shape
first_shape [] = None
first_shape (k ∷ ks) = Some k.0
