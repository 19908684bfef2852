-- A body that is read from lexemes of bytes is in range.
use Rattle.std.proofs.Common.{ℕ, Bool, true, false, not, cond, ◌&&◌, List, [], ◌∷◌, ◌++◌, Option, Some, None, option_and_then}
use Rattle.std.specs.Prelude.{All, IfSome}
use Rattle.std.proofs.lemmas.List.Elements.{All-nil, All-cons, All-head, All-tail, All-push}
use Rattle.std.proofs.lemmas.List.Sums.{list_all-from_AllPass}
use Rattle.ir_syntax.specs.declared.body.Body.{Body}
use Rattle.ir_syntax.specs.declared.body.Inst.{Inst}
use Rattle.ir_syntax.specs.declared.body.Phi.{Phi}
use Rattle.ir_grammar.specs.Tokens.{Kept}
use Rattle.ir_scope.specs.Scopes.{Env}
use Rattle.ir_scope.specs.Types.{is_close_brace}
use Rattle.ir_locals.specs.Locals.{Local, locals_of, are_locals}
use Rattle.ir_operands.specs.Operands.{Names}
use Rattle.ir_body.specs.Lines.{Line, Labelled, OfPhi, OfInst, Dropped, Ends, line_at}
use Rattle.ir_body.specs.Bodies.{blocks_from, body_of, is_counted, is_body, bounded, lines_at, behind_brace, body_with, body_at}
use Rattle.ir_operands.proofs.FormingReadings.{IsRead, read-closed}
use Rattle.ir_writer.specs.Ranges.{is_inst_in_range, is_phi_in_range, BlockInRange}
use Rattle.round_trip.proofs.Ranges.Texts.{LexemesAreBytes, lexemes_behind}
use Rattle.round_trip.proofs.Ranges.Types.{AreTypesIn}
use Rattle.round_trip.proofs.Ranges.Constants.{run_in}
use Rattle.round_trip.proofs.Ranges.Lines.{IsPhiIn, IsInstIn, IsLineIn, line-in}

-- ---- blocks

blocks-in : (phis : List Phi) (insts : List Inst) (lines : List Line) → All IsPhiIn phis → All IsInstIn insts → All IsLineIn lines → All BlockInRange (blocks_from phis insts lines)
blocks-in phis insts [] p i h = All-nil BlockInRange
blocks-in phis insts (Labelled ∷ lines) p i h = blocks-in phis insts lines p i (All-tail IsLineIn Labelled lines h)
blocks-in phis insts (OfPhi phi ∷ lines) p i h = blocks-in (phis ++ phi ∷ []) insts lines (All-push IsPhiIn phis phi p (All-head IsLineIn (OfPhi phi) lines h)) i (All-tail IsLineIn (OfPhi phi) lines h)
blocks-in phis insts (OfInst x ∷ lines) p i h = blocks-in phis (insts ++ x ∷ []) lines p (All-push IsInstIn insts x i (All-head IsLineIn (OfInst x) lines h)) (All-tail IsLineIn (OfInst x) lines h)
blocks-in phis insts (Dropped ∷ lines) p i h = blocks-in phis insts lines p i (All-tail IsLineIn Dropped lines h)
blocks-in phis insts (Ends t ∷ lines) p i h =
    All-cons BlockInRange (record { phis = phis; insts = insts; term = t }) (blocks_from [] [] lines)
    (record { phis = list_all-from_AllPass is_phi_in_range phis p; insts = list_all-from_AllPass is_inst_in_range insts i; term = All-head IsLineIn (Ends t) lines h })
    (blocks-in [] [] lines (All-nil IsPhiIn) (All-nil IsInstIn) (All-tail IsLineIn (Ends t) lines h))

-- ---- bodies

abbrev pub IsBodyIn : Body → Type 0
IsBodyIn body = All BlockInRange body.blocks

behind-bytes : (ks : List Kept) → LexemesAreBytes ks → LexemesAreBytes (behind_brace ks)
behind-bytes [] are = are
behind-bytes (k ∷ ks) are = lexemes_behind k ks are

module _ (env : Env) (looks : AreTypesIn env.types) where
  with-in : (locals : List (List ℕ × Local)) (ks : List Kept) → LexemesAreBytes ks → IfSome (body_with env locals ks) IsBodyIn
  with-in locals ks are = cases (are_locals locals)
    where
      names : Names
      names = record { env = env; locals = locals }

      lines : IsRead (All IsLineIn) (lines_at names ks)
      lines = read-closed (All IsLineIn) is_close_brace ks _ (run_in IsLineIn (λ shape. not (is_close_brace shape)) (line_at names) (line-in names looks) 0 ks are)

      within : (body : Body) (b : Bool) → IsBodyIn body → IfSome (cond b (Some body) None) IsBodyIn
      within body true h = h
      within body false h = tt

      found : (o : Option (List Line × ℕ)) → IsRead (All IsLineIn) o → IfSome (option_and_then (λ f. bounded ks (body_of f.0)) o) IsBodyIn
      found None h = tt
      found (Some f) h = within (body_of f.0) (is_body (body_of f.0) && is_counted ks (body_of f.0)) (blocks-in [] [] f.0 (All-nil IsPhiIn) (All-nil IsInstIn) h)

      cases : (b : Bool) → IfSome (cond b (option_and_then (λ f. bounded ks (body_of f.0)) (lines_at names ks)) None) IsBodyIn
      cases true = found (lines_at names ks) lines
      cases false = tt

  -- A body of lexemes of bytes is in range.
  pub body-in : (params : List (List ℕ)) (ks : List Kept) → LexemesAreBytes ks → IfSome (body_at env params ks) IsBodyIn
  body-in params ks are = with-in (locals_of params (behind_brace ks)) (behind_brace ks) (behind-bytes ks are)
