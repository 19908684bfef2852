-- Steps of building blocks from lines.
use Rattle.std.proofs.Common.{◌≡◌, ◌∙◌, ℕ, ◌+◌, ◌<◌, Bool, true, false, List, [], ◌∷◌, ◌++◌, drop, Option, Some, None, option_map, refl, sym, ap, arith, append_assoc}
use Rattle.std.proofs.lemmas.List.{drop-drop, append-nil}
use Rattle.ir_syntax.specs.declared.body.Block.{Block}
use Rattle.ir_syntax.specs.declared.body.Phi.{Phi}
use Rattle.ir_syntax.specs.declared.body.Inst.{Inst}
use Rattle.ir_syntax.specs.declared.body.Term.{Term}
use Rattle.ir_grammar.specs.declared.shape.Shape.{Shape}
use Rattle.ir_grammar.specs.Tokens.{Kept}
use Rattle.ir_scope.specs.Runs.{Reading, runs, begins_with}
use Rattle.ir_body.specs.declared.blocks.Builder.{Builder}
use Rattle.ir_body.specs.Lines.{Line}
use Rattle.ir_body.specs.Bodies.{blocks_from}
use Rattle.ir_body.specs.Mirrors.Building.{built, as_blocks}
use Rattle.ir_operands.proofs.Runs.{run_step, run_stop, run_bad}

-- what is built, and then the lines that are left
abbrev pub finished : Builder → ℕ → Option (List Line × ℕ) → Option (List Block × ℕ)
finished builder at found = option_map (λ f. (built builder f.0, at + f.1)) found

-- What was built up to a place, and the lines that are left, make the blocks of the whole.
pub record Builds (begins : Shape → Bool) (part : Reading Line) (ks : List Kept) (builder : Builder) (at : ℕ) : Type 0 where
  pub makes : finished builder at (runs begins part (drop at ks)) ≡ as_blocks (runs begins part ks)

none : (o : Option (List Line × ℕ)) → finished (record { blocks = []; phis = []; insts = [] }) 0 o ≡ as_blocks o
none None = refl
none (Some f) = let e : 0 + f.1 ≡ f.1 = omega arith in ap (λ n. Some (blocks_from [] [] f.0, n)) e

pub builds_none : (begins : Shape → Bool) (part : Reading Line) (ks : List Kept) → Builds begins part ks (record { blocks = []; phis = []; insts = [] }) 0
builds_none begins part ks = record { makes = none (runs begins part ks) }

one_more : (old new : Builder) (line : Line) (at n : ℕ) (o : Option (List Line × ℕ)) → ((lines : List Line) → built new lines ≡ built old (line ∷ lines)) →
    finished new (at + n) o ≡ finished old at (option_map (λ rest. (line ∷ rest.0, n + rest.1)) o)
one_more old new line at n None put = refl
one_more old new line at n (Some f) put =
    let e : at + n + f.1 ≡ at + (n + f.1) = omega arith in
    ap (λ bs. Some (bs, at + n + f.1)) (put f.0) ∙ ap (λ m. Some (built old (line ∷ f.0), m)) e

pub builds_more : (begins : Shape → Bool) (part : Reading Line) (ks rest : List Kept) (old new : Builder) (at : ℕ) (line : Line) (n : ℕ) → Builds begins part ks old at →
    rest ≡ drop at ks → true ≡ begins_with begins rest → Some (line, n) ≡ part rest → 0 < n → ((lines : List Line) → built new lines ≡ built old (line ∷ lines)) →
    Builds begins part ks new (at + n)
builds_more begins part ks rest old new at line n g r b e above put = record {
  makes =
      ap (λ ls. finished new (at + n) (runs begins part ls)) (sym (drop-drop n at ks))
      ∙ one_more old new line at n (runs begins part (drop n (drop at ks))) put
      ∙ ap (finished old at) (sym (run_step begins part (drop at ks) line n (sym (b ∙ ap (begins_with begins) r)) (e ∙ ap part r) above))
      ∙ g.makes;
}

pub builds_end : (begins : Shape → Bool) (part : Reading Line) (ks rest : List Kept) (builder : Builder) (at : ℕ) → Builds begins part ks builder at →
    rest ≡ drop at ks → false ≡ begins_with begins rest → Some (builder.blocks, at) ≡ as_blocks (runs begins part ks)
builds_end begins part ks rest builder at g r b =
    sym same ∙ sym (ap (finished builder at) (run_stop begins part (drop at ks) (sym (b ∙ ap (begins_with begins) r)))) ∙ g.makes
  where
    same : finished builder at (Some ([], 0)) ≡ Some (builder.blocks, at)
    same = let e : at + 0 ≡ at = omega arith in ap (λ bs. Some (bs, at + 0)) (append-nil builder.blocks) ∙ ap (λ n. Some (builder.blocks, n)) e

pub builds_bad : (begins : Shape → Bool) (part : Reading Line) (ks rest : List Kept) (builder : Builder) (at : ℕ) → Builds begins part ks builder at →
    rest ≡ drop at ks → true ≡ begins_with begins rest → None ≡ part rest → None ≡ as_blocks (runs begins part ks)
builds_bad begins part ks rest builder at g r b e =
    sym (ap (finished builder at) (run_bad begins part (drop at ks) (sym (b ∙ ap (begins_with begins) r)) (e ∙ ap part r))) ∙ g.makes

-- ---- what a line adds

pub adds_term : (old : Builder) (t : Term) (lines : List Line) →
    (old.blocks ++ record { phis = old.phis; insts = old.insts; term = t } ∷ []) ++ blocks_from [] [] lines ≡ old.blocks ++ record { phis = old.phis; insts = old.insts; term = t } ∷ blocks_from [] [] lines
adds_term old t lines = append_assoc old.blocks (record { phis = old.phis; insts = old.insts; term = t } ∷ []) (blocks_from [] [] lines)
