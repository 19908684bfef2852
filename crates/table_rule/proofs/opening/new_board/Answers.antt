use Rattle.std.proofs.Common.{◌≡◌, ℕ, ◌+◌, ◌*◌, ◌∙◌, ◌∷◌, [], List, replicate, sym, subst, arith}
use Rattle.table_rule.specs.Rule.{Rule}
use Rattle.table_rule.specs.Views.{all_of}
use Rattle.table_rule.proofs.Blank.{opens}
use Rattle.table_rule.proofs.opening.new_board.Goals as goal

pub of_words-requires : goal.of_words-requires
of_words-requires c =
    let items : c.as_slice.result.now ≡ replicate (37 * (65536 + c.args.workers) + 131073) 0 = c.as_slice.ensures.value ∙ c.in_ok-words.ensures.items_if_clones_equal (λ y h. h) in
    subst (λ (l : List ℕ). Rule c.args.workers l (all_of c.args.workers ∷ [])) (sym items) (opens c.args.workers (37 * (65536 + c.args.workers) + 131073) c.requires.few.0 c.requires.few.1 (omega arith))
