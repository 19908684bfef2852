use Rattle.std.proofs.Common.{◌≡◌, ◌∙◌, true, false, [], ◌∷◌, ap, sym, subst, rules}
use Rattle.std.specs.Prelude.{option_to_list, is_some}
use Rattle.std.proofs.lemmas.List.Elements.{All-nil, All-cons}
use Rattle.name_table.specs.Places.{is_among, place_among}
use Rattle.reach_prune.specs.Mirrors.Taken.{AreNew}
use Rattle.reach_prune.proofs.Clashing.{among_placed, among_unplaced}
use Rattle.reach_prune.proofs.clashes.check_member.Goals as goal

pub returns-then-is_some-clause-taken : goal.returns-then-is_some-clause-taken
returns-then-is_some-clause-taken c =
    let placed : is_some (place_among c.in-Some.symbol c.args.taken.now) ≡ true = search rules in
    (sym c.in-Ok.ensures ∙ ap option_to_list c.in-Some.is, among_placed c.in-Some.symbol c.args.taken.now placed)

pub returns-else-is_some-clause-free : goal.returns-else-is_some-clause-free
returns-else-is_some-clause-free c =
    let placed : is_some (place_among c.in-Some.symbol c.args.taken.now) ≡ false = search rules in
    subst (AreNew c.args.taken.now) (sym (sym c.in-Ok.ensures ∙ ap option_to_list c.in-Some.is))
    (All-cons (λ name. is_among name c.args.taken.now ≡ false) c.in-Some.symbol [] (among_unplaced c.in-Some.symbol c.args.taken.now placed) (All-nil (λ name. is_among name c.args.taken.now ≡ false)))
