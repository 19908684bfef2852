-- Where one more name isn't well, the whole list isn't.
use Rattle.std.proofs.Common.{◌≡◌, ◌∙◌, ℕ, ◌<◌, suc, true, false, cond, List, [], ◌∷◌, ◌++◌, length, map, drop, get_or, Option, Some, None, refl, sym, ap, append_assoc, drop-cons}
use Rattle.std.specs.List.{filter}
use Rattle.std.specs.Fmt.{decimal}
use Rattle.ir_grammar.specs.declared.lexeme.Lexeme.{Lexeme}
use Rattle.ir_grammar.specs.Tokens.{Kept, seen}
use Rattle.ir_locals.specs.declared.local.Local.TheVariants.{Param, Block}
use Rattle.ir_locals.specs.Locals.{Local, label_name, has_result, result_name, results_from, is_label, label_names, decimals, begins_labelled, result_names, block_names, numbered, named, locals_of, are_locals}
use Rattle.ir_locals.proofs.Adding.{front_well, fails}

-- where a step fails, the whole does
pub stops : (old step rest whole : List (List ℕ × Local)) → are_locals (old ++ step) ≡ false → old ++ (step ++ rest) ≡ whole → are_locals whole ≡ false
stops old step rest whole f e =
    ap are_locals (sym e ∙ sym (append_assoc old step rest)) ∙ fails (are_locals ((old ++ step) ++ rest)) (are_locals (old ++ step)) (front_well (old ++ step) rest) f

pub stops_at_name : (stands : ℕ → Local) (k : ℕ) (names : List (List ℕ)) (i : ℕ) (name : List ℕ) (old whole : List (List ℕ × Local)) → i < length names → name ≡ get_or names i name →
    are_locals (old ++ (name, stands k) ∷ []) ≡ false → old ++ numbered stands k (drop i names) ≡ whole → are_locals whole ≡ false
stops_at_name stands k names i name old whole within here f e =
    stops old ((name, stands k) ∷ []) (numbered stands (suc k) (drop (suc i) names)) whole f
    (ap (λ ns. old ++ numbered stands k ns) (sym (drop-cons names i name within ∙ ap (λ n. n ∷ drop (suc i) names) (sym here))) ∙ e)

one_more : (k : ℕ) (p : Option (List ℕ)) (ps : List (Option (List ℕ))) → named k (p ∷ []) ++ named (suc k) ps ≡ named k (p ∷ ps)
one_more k None ps = refl
one_more k (Some name) ps = refl

module _ (kept : List Lexeme) (i : ℕ) (d : Lexeme) (k : ℕ) (old whole : List (List ℕ × Local)) (within : i < length kept) where
  -- the token here, and those behind it
  abbrev here : Lexeme
  here = get_or kept i d

  abbrev more : List Kept
  more = seen (drop (suc i) kept)

  lexeme_next : seen (drop i kept) ≡ (here.shape, here.text.now) ∷ more
  lexeme_next = ap seen (drop-cons kept i d within)

  pub stops_at_result : (p : Option (List ℕ)) → has_result (get_or kept i d).shape ≡ true → are_locals (old ++ named k (p ∷ [])) ≡ false →
      old ++ named k (results_from p (seen (drop i kept))) ≡ whole → are_locals whole ≡ false
  stops_at_result p has f e =
      stops old (named k (p ∷ [])) (named (suc k) (results_from None more)) whole f
      (ap (λ ls. old ++ ls)
      (one_more k p (results_from None more)
      ∙ sym (ap (λ ks. named k (results_from p ks)) lexeme_next
      ∙ ap (λ b. named k (cond b (p ∷ results_from None more) (results_from (result_name here.shape here.text.now p) more))) has))
      ∙ e)

  pub stops_at_label : is_label (get_or kept i d).shape ≡ true → are_locals (old ++ (label_name (get_or kept i d).text.now, Block k) ∷ []) ≡ false →
      old ++ numbered Block k (label_names (seen (drop i kept))) ≡ whole → are_locals whole ≡ false
  stops_at_label is f e =
      stops old ((label_name here.text.now, Block k) ∷ []) (numbered Block (suc k) (label_names more)) whole f
      (ap (λ ls. old ++ ls)
      (sym (ap (λ ks. numbered Block k (label_names ks)) lexeme_next
      ∙ ap (λ b. numbered Block k (map (λ (t : Kept). label_name t.1) (cond b ((here.shape, here.text.now) ∷ filter (λ (t : Kept). is_label t.0) more) (filter (λ (t : Kept). is_label t.0) more)))) is))
      ∙ e)

pub stops_at_first : (old : List (List ℕ × Local)) (params : List (List ℕ)) (ks : List Kept) (name : List ℕ) → begins_labelled ks ≡ false → name ≡ decimal (decimals params) →
    are_locals (old ++ (name, Block 0) ∷ []) ≡ false → are_locals (old ++ numbered Block 0 (block_names params ks)) ≡ false
stops_at_first old params ks name unlabelled n f =
    stops old ((name, Block 0) ∷ []) (numbered Block 1 (label_names ks)) (old ++ numbered Block 0 (block_names params ks)) f
    (ap (λ d. old ++ ((d, Block 0) ∷ numbered Block 1 (label_names ks))) n
    ∙ ap (λ b. old ++ numbered Block 0 (cond b (label_names ks) (decimal (decimals params) ∷ label_names ks))) (sym unlabelled))

-- ---- all names of a function

none_then : (locals : List (List ℕ × Local)) → are_locals locals ≡ false → None ≡ cond (are_locals locals) (Some locals) None
none_then locals f = ap (λ b. cond b (Some locals) None) (sym f)

pub stops_at_params : (none : List (List ℕ × Local)) (params : List (List ℕ)) (ks : List Kept) → none ≡ [] → are_locals (none ++ numbered Param 0 params) ≡ false →
    None ≡ cond (are_locals (locals_of params ks)) (Some (locals_of params ks)) None
stops_at_params none params ks n f =
    none_then (locals_of params ks)
    (stops none (numbered Param 0 params) (named 0 (result_names ks) ++ numbered Block 0 (block_names params ks)) (locals_of params ks) f (ap (λ ls. ls ++ locals_of params ks) n))

pub stops_at_results : (none with_params : List (List ℕ × Local)) (params : List (List ℕ)) (ks : List Kept) → none ≡ [] → with_params ≡ none ++ numbered Param 0 params →
    are_locals (with_params ++ named 0 (result_names ks)) ≡ false → None ≡ cond (are_locals (locals_of params ks)) (Some (locals_of params ks)) None
stops_at_results none with_params params ks n p f =
    none_then (locals_of params ks)
    (stops with_params (named 0 (result_names ks)) (numbered Block 0 (block_names params ks)) (locals_of params ks) f
    (ap (λ ls. ls ++ (named 0 (result_names ks) ++ numbered Block 0 (block_names params ks))) (p ∙ ap (λ ls. ls ++ numbered Param 0 params) n)))
