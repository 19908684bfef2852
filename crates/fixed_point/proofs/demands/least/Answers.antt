use Rattle.std.proofs.Common.{◌≡◌, ◌+◌, ◌-◌, ◌<◌, ◌≤◌, ◌^◌, List, ℕ, min, length, get_or, map, is_ok, true≢false, ap, subst, ◌∙◌, arith, lit<}
use Rattle.std.proofs.lemmas.List.{length-map}
use Rattle.std.proofs.lemmas.Option.{get_or_from_slice_get}
use Rattle.fixed_point.specs.declared.TheConstants.{MOST_CODE, MOST_DEMANDS}
use Rattle.fixed_point.specs.Found.{Adds}
use Rattle.fixed_point.proofs.Answered.{IsAnswer, answers, weighs_more, sum_by-map}
use Rattle.fixed_point.proofs.NeededRows.{not_more, not_heavier}
use Rattle.fixed_point.proofs.Searched.{begins, goes_on, ends, finds_more, weighs_none, weighs_one}
use Rattle.fixed_point.proofs.demands.least.Goals as goal

pub loop-at-init : goal.loop-at-init
loop-at-init g c = record {
  searched = begins (g.E.Expand.needs_of c.args.e.now) c.args.roots.now c.add_all.new.found.keys
      (subst (λ (old : List (List ℕ)). Adds old c.args.roots.now c.add_all.new.found.keys) c.new-found.ensures.empty c.in_ok-add_all.ensures);
  turns = omega arith;
  weighed = weighs_none (g.E.Expand.expands c.args.e.now) (g.E.Expand.size_of c.args.e.now) MOST_CODE c.add_all.new.found.keys
      c.new-kept.result.pairs.items c.new-kept.result.size c.new-kept.ensures.pairs c.new-kept.ensures.size;
}

pub loop-at-preserved : goal.loop-at-preserved
loop-at-preserved g c =
    let row = c.index.result.now in
    let found = c.loop-at.found.keys in
    let new = c.add_all-in-loop-at.new.found.keys in
    let at : get_or found c.loop-at.at row ≡ row = get_or_from_slice_get found c.loop-at.at row row c.index.ensures in
    let asked : c.needs.result.now ≡ g.E.Expand.needs_of c.args.e.now row = c.needs.ensures ∙ c.in_ok-piece.ensures.needs in
    let adds : Adds found (g.E.Expand.needs_of c.args.e.now row) new = subst (λ (rows : List (List ℕ)). Adds found rows new) asked c.in_ok-add_all-2.ensures in
    let more : c.loop-at.at < length found = omega arith in
    let weight : c.size-size.result ≡ g.E.Expand.size_of c.args.e.now row = c.size-size.ensures ∙ c.in_ok-piece.ensures.size in
    record {
      searched = goes_on (g.E.Expand.needs_of c.args.e.now) c.args.roots.now found new c.loop-at.at row c.loop-at.invariant.searched more at adds;
      turns = omega arith;
      weighed = weighs_one (g.E.Expand.expands c.args.e.now) (g.E.Expand.size_of c.args.e.now) MOST_CODE
          found (g.E.Expand.needs_of c.args.e.now row) new c.loop-at.at row c.in_ok-piece.piece
          c.loop-at.kept.pairs.items c.add.new.self.pairs.items c.loop-at.kept.size c.add.new.self.size
          more at adds c.loop-at.invariant.weighed c.in_ok-piece.ensures.piece
          (c.in_ok-add.ensures.size ∙ ap (λ (w : ℕ). min (c.loop-at.kept.size + w) (2 ^ 64 - 1)) weight) c.in_ok-add.ensures.kept;
    }

pub returns-then-len-gt-MOST_DEMANDS-clause-too_many : goal.returns-then-len-gt-MOST_DEMANDS-clause-too_many
returns-then-len-gt-MOST_DEMANDS-clause-too_many g c _ =
    finds_more (g.E.Expand.needs_of c.args.e.now) c.args.roots.now c.loop-at.found.keys c.loop-at.at MOST_DEMANDS c.loop-at.invariant.searched c.len.ensures.unique (omega arith)

pub returns-then-kept-gt-MOST_CODE-clause-too_much : goal.returns-then-kept-gt-MOST_CODE-clause-too_much
returns-then-kept-gt-MOST_CODE-clause-too_much g c _ =
    let end : length c.loop-at.found.keys ≤ c.loop-at.at = omega arith in
    record {
      rows = c.loop-at.found.keys;
      are = ends (g.E.Expand.needs_of c.args.e.now) c.args.roots.now c.loop-at.found.keys c.loop-at.at c.loop-at.invariant.searched end c.len.ensures.unique;
      more = weighs_more (g.E.Expand.needs_of c.args.e.now) (g.E.Expand.expands c.args.e.now) (g.E.Expand.size_of c.args.e.now) c.args.roots.now MOST_DEMANDS MOST_CODE
          c.loop-at.found.keys c.loop-at.at c.loop-at.kept.pairs.items c.loop-at.kept.size c.loop-at.invariant.searched end c.loop-at.invariant.weighed c.if-kept-gt-MOST_CODE.true;
    }

pub returns-then-kept-gt-MOST_CODE-clause-too_much_of_few : goal.returns-then-kept-gt-MOST_CODE-clause-too_much_of_few
returns-then-kept-gt-MOST_CODE-clause-too_much_of_few g c _ =
    let end : length c.loop-at.found.keys ≤ c.loop-at.at = omega arith in
    not_more (g.E.Expand.needs_of c.args.e.now) c.args.roots.now c.loop-at.found.keys MOST_DEMANDS
    (ends (g.E.Expand.needs_of c.args.e.now) c.args.roots.now c.loop-at.found.keys c.loop-at.at c.loop-at.invariant.searched end c.len.ensures.unique)
    (omega (arith, end, c.loop-at.invariant.turns))

pub returns : goal.returns
returns g c =
    let needs = g.E.Expand.needs_of c.args.e.now in
    let size = g.E.Expand.size_of c.args.e.now in
    let sorted = c.in_ok-in_row_order.field-0 in
    let end : length c.loop-at.found.keys ≤ c.loop-at.at = omega arith in
    let answer : IsAnswer needs (g.E.Expand.expands c.args.e.now) size c.args.roots.now MOST_DEMANDS MOST_CODE sorted =
    answers needs (g.E.Expand.expands c.args.e.now) size c.args.roots.now MOST_DEMANDS MOST_CODE
    c.loop-at.found.keys c.loop-at.at c.loop-at.kept.pairs.items sorted c.loop-at.kept.size
    c.loop-at.invariant.searched end c.len.ensures.unique c.loop-at.invariant.turns c.loop-at.invariant.weighed
    c.if-kept-gt-MOST_CODE.false (lit< tt) c.in_ok-in_row_order.ensures.same c.in_ok-in_row_order.ensures.order in
    let rows = map (λ pair. pair.0) sorted in
    record {
      order = answer.order;
      rows = answer.rows;
      pieces = answer.pieces;
      few = answer.few;
      small = answer.small;
      finite = record { rows = rows; complete = answer.rows.complete };
      too_many = λ clash. absurd (true≢false (ap is_ok clash));
      too_much = λ clash. absurd (true≢false (ap is_ok clash));
      too_much_of_few = λ clash. absurd (true≢false (ap is_ok clash));
      not_too_many = not_more needs c.args.roots.now rows MOST_DEMANDS answer.rows (omega (arith, answer.few, length-map sorted (λ pair. pair.0)));
      not_too_much = not_heavier needs c.args.roots.now size rows MOST_CODE answer.rows (omega (arith, answer.small, sum_by-map (λ pair. pair.0) size sorted));
    }
