-- A body that is read is one that a text can write.
use Rattle.std.proofs.Common.{◌≡◌, ◌≢◌, ℕ, Bool, true, false, not, cond, ◌&&◌, nat_eq, nat_le, nat_lt, List, [], ◌∷◌, ◌++◌, length, map, Option, Some, None, option_and_then, refl, subst}
use Rattle.std.specs.Prelude.{All, AllPairs, IfSome}
use Rattle.std.proofs.lemmas.Bool.{and_parts, ltb-true, leb-true, eqb-true}
use Rattle.std.proofs.lemmas.List.Elements.{All-nil, All-cons, All-head, All-tail, All-push}
use Rattle.ir_syntax.specs.declared.body.Body.{Body}
use Rattle.ir_syntax.specs.declared.body.Inst.{Inst}
use Rattle.ir_syntax.specs.declared.body.Phi.{Phi}
use Rattle.ir_syntax.specs.declared.item.Item.{Item}
use Rattle.ir_syntax.specs.Results.{results, count}
use Rattle.ir_syntax.specs.FormedBody.{Places, FormedPhi, FormedInst, FormedBlock, FormedBody, item_name}
use Rattle.ir_grammar.specs.Tokens.{Kept}
use Rattle.ir_scope.specs.Scopes.{Env}
use Rattle.ir_scope.specs.Types.{is_close_brace}
use Rattle.ir_locals.specs.Locals.{locals_of, are_locals}
use Rattle.ir_operands.specs.Operands.{Names}
use Rattle.ir_body.specs.Lines.{Line, Labelled, OfPhi, OfInst, Dropped, Ends, line_at}
use Rattle.ir_body.specs.Bodies.{blocks_from, body_of, results_in, blocks_in, is_counted, is_body, bounded, lines_at, behind_brace, body_with, body_at}
use Rattle.ir_operands.proofs.FormingReadings.{IsRead, read-run, read-closed}
use Rattle.ir_body.proofs.FormingNames.{names_in, places_in, names-resolve}
use Rattle.ir_body.proofs.FormingLines.{IsLine, line-read}

-- ---- blocks

blocks-formed : (places : Places) (phis : List Phi) (insts : List Inst) (lines : List Line) → All (FormedPhi places) phis → All (FormedInst places) insts → All (IsLine places) lines →
    All (FormedBlock places) (blocks_from phis insts lines)
blocks-formed places phis insts [] p i h = All-nil (FormedBlock places)
blocks-formed places phis insts (Labelled ∷ lines) p i h = blocks-formed places phis insts lines p i (All-tail (IsLine places) Labelled lines h)
blocks-formed places phis insts (OfPhi phi ∷ lines) p i h =
    blocks-formed places (phis ++ phi ∷ []) insts lines (All-push (FormedPhi places) phis phi p (All-head (IsLine places) (OfPhi phi) lines h)) i (All-tail (IsLine places) (OfPhi phi) lines h)
blocks-formed places phis insts (OfInst x ∷ lines) p i h =
    blocks-formed places phis (insts ++ x ∷ []) lines p (All-push (FormedInst places) insts x i (All-head (IsLine places) (OfInst x) lines h)) (All-tail (IsLine places) (OfInst x) lines h)
blocks-formed places phis insts (Dropped ∷ lines) p i h = blocks-formed places phis insts lines p i (All-tail (IsLine places) Dropped lines h)
blocks-formed places phis insts (Ends t ∷ lines) p i h =
    All-cons (FormedBlock places) (record { phis = phis; insts = insts; term = t }) (blocks_from [] [] lines)
    (record { phis = p; insts = i; term = All-head (IsLine places) (Ends t) lines h })
    (blocks-formed places [] [] lines (All-nil (FormedPhi places)) (All-nil (FormedInst places)) (All-tail (IsLine places) (Ends t) lines h))

-- ---- bodies

abbrev at_most : List Item → ℕ → ℕ → ℕ → Places
at_most items params results blocks = record { items = items; params = params; results = results; blocks = blocks }

body-formed : (items : List Item) (params : ℕ) (ks : List Kept) (body : Body) → is_body body && is_counted ks body ≡ true → All (FormedBlock (at_most items params (results_in ks) (blocks_in ks))) body.blocks → FormedBody items params body
body-formed items params ks body is formed =
    let a = and_parts (is_body body) (is_counted ks body) is in
    let b = and_parts (nat_lt 0 (length body.blocks) && nat_le (length body.blocks) 65535) (nat_le (count body) 1048576) a.0 in
    let c = and_parts (nat_lt 0 (length body.blocks)) (nat_le (length body.blocks) 65535) b.0 in
    let d = and_parts (nat_eq (results_in ks) (length (results body))) (nat_eq (blocks_in ks) (length body.blocks)) a.1 in
    record {
      has_block = ltb-true 0 (length body.blocks) c.0;
      few_blocks = leb-true (length body.blocks) 65535 c.1;
      few_insts = leb-true (count body) 1048576 b.1;
      has_blocks =
          subst (λ n. All (FormedBlock (at_most items params n (length body.blocks))) body.blocks) (eqb-true (results_in ks) (length (results body)) d.0)
          (subst (λ n. All (FormedBlock (at_most items params (results_in ks) n)) body.blocks) (eqb-true (blocks_in ks) (length body.blocks) d.1) formed);
    }

module _ (env : Env) (items : List Item) (same : env.symbols ≡ map item_name items) (distinct : AllPairs (λ a b. a ≢ b) env.symbols) where
  behind-formed : (params : List (List ℕ)) (ks : List Kept) → IfSome (body_with env (locals_of params ks) ks) (FormedBody items (length params))
  behind-formed params ks = cases (are_locals (locals_of params ks))
    where
      names : Names
      names = names_in env items params ks

      places : Places
      places = places_in env items params ks

      lines : IsRead (All (IsLine places)) (lines_at names ks)
      lines =
          read-closed (All (IsLine places)) is_close_brace ks _
          (read-run (IsLine places) (λ shape. not (is_close_brace shape)) (line_at names) 0 ks (λ k rest begins. line-read names places (names-resolve env items params ks same distinct) (k ∷ rest)))

      within : (body : Body) (b : Bool) → is_body body && is_counted ks body ≡ b → All (FormedBlock places) body.blocks → IfSome (cond b (Some body) None) (FormedBody items (length params))
      within body true e formed = body-formed items (length params) ks body e formed
      within body false e formed = tt

      found : (o : Option (List Line × ℕ)) → IsRead (All (IsLine places)) o → IfSome (option_and_then (λ f. bounded ks (body_of f.0)) o) (FormedBody items (length params))
      found None h = tt
      found (Some f) h =
          within (body_of f.0) (is_body (body_of f.0) && is_counted ks (body_of f.0)) refl
          (blocks-formed places [] [] f.0 (All-nil (FormedPhi places)) (All-nil (FormedInst places)) h)

      cases : (b : Bool) → IfSome (cond b (option_and_then (λ f. bounded ks (body_of f.0)) (lines_at names ks)) None) (FormedBody items (length params))
      cases true = found (lines_at names ks) lines
      cases false = tt

  pub body-read : (params : List (List ℕ)) (kept : List Kept) (body : Body) → body_at env params kept ≡ Some body → FormedBody items (length params) body
  body-read params kept body e = subst (λ o. IfSome o (FormedBody items (length params))) e (behind-formed params (behind_brace kept))
