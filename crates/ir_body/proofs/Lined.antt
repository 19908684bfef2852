-- A line by the shape of its first lexeme.
use Rattle.std.proofs.Common.{◌≡◌, ◌∙◌, ℕ, ◌+◌, ◌≤◌, IfSome, arith, List, [], ◌∷◌, drop, Option, Some, None, Result, Ok, Err, IfOk, refl, sym, ap}
use Rattle.ir_types.specs.declared.memory.OutOfMemory.{OutOfMemory}
use Rattle.ir_grammar.specs.declared.shape.Shape.{Shape}
use Rattle.ir_grammar.specs.declared.shape.Shape.TheVariants as is
use Rattle.ir_grammar.specs.Tokens.{Kept}
use Rattle.ir_body.specs.declared.lines.Line.{Line as SeenLine}
use Rattle.ir_body.specs.Mirrors.Naming.{lines_seen}
use Rattle.ir_operands.specs.Operands.{Names}
use Rattle.ir_body.specs.Lines.{Line, line_at}
use Rattle.ir_body.specs.Mirrors.Shaped.{plain_line_at, shaped_line_at, named_line_at, first_shape}

pub same_lines : (r : Result (Option (SeenLine × ℕ)) OutOfMemory) (a b : Option (Line × ℕ)) → a ≡ b → IfOk r (λ found. lines_seen found ≡ a) → IfOk r (λ found. lines_seen found ≡ b)
same_lines (Ok found) a b e h = h ∙ e
same_lines (Err fault) a b e h = tt

pub plain_is : (names : Names) (s : Shape) (ks : List Kept) → (s ≡ is.Label → ⊥) → (s ≡ is.Result → ⊥) → plain_line_at names s ks ≡ shaped_line_at names s ks
plain_is names is.Label ks a b = absurd (a refl)
plain_is names is.Result ks a b = absurd (b refl)
plain_is names _ ks a b = refl

shaped_is : (names : Names) (s : Shape) (text : List ℕ) (ks : List Kept) → shaped_line_at names s ks ≡ line_at names ((s, text) ∷ ks)
shaped_is names is.Result text [] = refl
shaped_is names is.Result text (k ∷ ks) = refl
shaped_is names _ text ks = refl

pub line_is : (names : Names) (ks rest : List Kept) (s : Shape) → Some s ≡ first_shape ks → rest ≡ drop 1 ks → shaped_line_at names s rest ≡ line_at names ks
line_is names [] rest s e r = cc
line_is names (k ∷ ks) rest s e r = ap (λ rest. shaped_line_at names s rest) r ∙ ap (λ s. shaped_line_at names s ks) (here s k.0 e) ∙ shaped_is names k.0 k.1 ks
  where
    here : (s t : Shape) → Some s ≡ Some t → s ≡ t
    here s t e = cc

pub within_more : (r : Result (Option (SeenLine × ℕ)) OutOfMemory) (left all : ℕ) → left + 1 ≡ all → IfOk r (λ found. IfSome found (λ f. (1 ≤ f.1) × (f.1 ≤ 1 + left))) →
    IfOk r (λ found. IfSome found (λ f. (1 ≤ f.1) × (f.1 ≤ all)))
within_more (Ok None) left all e h = tt
within_more (Ok (Some f)) left all e h = (h.0, omega (arith, h.1))
within_more (Err fault) left all e h = tt
