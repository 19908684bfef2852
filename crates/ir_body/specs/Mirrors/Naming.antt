-- What contracts see of lines.
use Rattle.std.specs.Prelude.{ℕ, List, count_by, Option, option_map}
use Rattle.ir_grammar.specs.Tokens.{Kept}
use Rattle.ir_locals.specs.Locals.{is_label}
use Rattle.ir_body.specs.declared.lines.Line.{Line as SeenLine}
use Rattle.ir_body.specs.declared.lines.Line.TheVariants as seen_as
use Rattle.ir_body.specs.Lines.{Line, Labelled, OfPhi, OfInst, Dropped, Ends}

abbrev pub line_of : SeenLine → Line
line_of seen_as.Labelled = Labelled
line_of (seen_as.OfPhi phi) = OfPhi phi
line_of (seen_as.OfInst i) = OfInst i
line_of seen_as.Dropped = Dropped
line_of (seen_as.Ends t) = Ends t

abbrev pub lines_seen : Option (SeenLine × ℕ) → Option (Line × ℕ)
lines_seen found = option_map (λ f. (line_of f.0, f.1)) found

-- how many labels stand among kept lexemes
abbrev pub labels_in : List Kept → ℕ
labels_in ks = count_by (λ (k : Kept). is_label k.0) ks
