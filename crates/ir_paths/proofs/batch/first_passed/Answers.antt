use Rattle.std.proofs.Common.{◌≡◌, ◌∙◌, length, subst, List, ℕ, arith, take, true, false, refl}
use Rattle.std.proofs.lemmas.List.Elements.{All-take}
use Rattle.ir_paths.specs.Bypass.{IsPassed, IsWithin, AreBypassed}
use Rattle.ir_paths.proofs.Passing.{bypassed_one, none_bypassed, written_back, any_seen}
use Rattle.ir_paths.proofs.batch.first_passed.Goals as goal

pub returns-then-any_bypassed-clause-passed : goal.returns-then-any_bypassed-clause-passed
returns-then-any_bypassed-clause-passed c =
    let own = c.share_bits-taken.new.own in
    let n = c.share_bits-taken.result in
    let same : c.as_slice.result.now ≡ own = c.as_slice.ensures.value ∙ written_back _ own c.in_ok-own.own.items (omega (arith, c.share_bits-taken.auto.own, c.deref_mut.ensures.len)) in
    let again : c.as_slice-2.result.now ≡ own = c.as_slice-2.ensures.value ∙ written_back _ own c.in_ok-own.own.items (omega (arith, c.share_bits-taken.auto.own, c.deref_mut.ensures.len)) in
    λ passed. bypassed_one c.args.blocks.now own c.in_ok-words.words.items (take n c.args.far.now)
    (subst (λ (o : List ℕ). AreBypassed c.args.blocks.now o c.in_ok-words.words.items) same c.in_ok-words.ensures)
    c.share_bits-taken.ensures.small
    (All-take (IsWithin (length c.args.blocks.now)) n c.args.far.now c.requires.within)
    (any_seen own c.as_slice-2.result.now c.in_ok-words.words.items c.as_slice-3.result.now (take n c.args.far.now) true true again c.as_slice-3.ensures.value c.if-any_bypassed.ensures refl)
    (All-take (IsPassed c.args.blocks.now) n c.args.far.now passed)

pub returns-clause-passed : goal.returns-clause-passed
returns-clause-passed c =
    let own = c.share_bits-taken.new.own in
    let n = c.share_bits-taken.result in
    let same : c.as_slice.result.now ≡ own = c.as_slice.ensures.value ∙ written_back _ own c.in_ok-own.own.items (omega (arith, c.share_bits-taken.auto.own, c.deref_mut.ensures.len)) in
    let again : c.as_slice-2.result.now ≡ own = c.as_slice-2.ensures.value ∙ written_back _ own c.in_ok-own.own.items (omega (arith, c.share_bits-taken.auto.own, c.deref_mut.ensures.len)) in
    none_bypassed c.args.blocks.now own c.in_ok-words.words.items (take n c.args.far.now)
    (subst (λ (o : List ℕ). AreBypassed c.args.blocks.now o c.in_ok-words.words.items) same c.in_ok-words.ensures)
    c.share_bits-taken.ensures.single
    c.share_bits-taken.ensures.small
    (All-take (IsWithin (length c.args.blocks.now)) n c.args.far.now c.requires.within)
    c.share_bits-taken.ensures.owned
    (any_seen own c.as_slice-2.result.now c.in_ok-words.words.items c.as_slice-3.result.now (take n c.args.far.now) false false again c.as_slice-3.ensures.value c.if-any_bypassed.ensures refl)
