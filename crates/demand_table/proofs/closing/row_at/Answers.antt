use Rattle.std.proofs.Common.{arith, sym, refl, subst, ◌≤◌, ◌%◌, ℕ}
use Rattle.std.proofs.lemmas.List.{length-take-le}
use Rattle.std.specs.Slots.{slots_items}
use Rattle.table_rule.proofs.Lists.{read_at}
use Rattle.demand_table.proofs.Counting.{copied_more, row_copied}
use Rattle.demand_table.proofs.closing.row_at.Goals as goal

pub word-requires-in-loop-i : goal.word-requires-in-loop-i
word-requires-in-loop-i c =
    let e = read_at (slots_items c.args.words.now.words) c.args.at c.word.result c.word.ensures in
    let s = c.requires.short in
    let short : c.word.result % 64 ≤ 34 = subst (λ (z : ℕ). z % 64 ≤ 34) e s in
    let lt = c.loop-i-test.true in
    let low = c.requires.low.1 in
    (omega (arith, lt, low, short), c.requires.full)

pub bounds-kept-i : goal.bounds-kept-i
bounds-kept-i c =
    let e = read_at (slots_items c.args.words.now.words) c.args.at c.word.result c.word.ensures in
    let short : c.word.result % 64 ≤ 34 = subst (λ (z : ℕ). z % 64 ≤ 34) e c.requires.short in
    let lt = c.loop-i-test.true in
    omega (arith, lt, short)

pub loop-i-preserved : goal.loop-i-preserved
loop-i-preserved c =
    let e = read_at (slots_items c.args.words.now.words) c.args.at c.word.result c.word.ensures in
    let short : c.word.result % 64 ≤ 34 = subst (λ (z : ℕ). z % 64 ≤ 34) e c.requires.short in
    let lt = c.loop-i-test.true in
    copied_more c.loop-i.i c.args.at c.word-in-loop-i.result (slots_items c.args.words.now.words) c.loop-i.kept c.loop-i.invariant (omega (arith, lt, short)) c.word-in-loop-i.ensures

pub slice_bounds-kept-end : goal.slice_bounds-kept-end
slice_bounds-kept-end c =
    let e = read_at (slots_items c.args.words.now.words) c.args.at c.word.result c.word.ensures in
    let short : c.word.result % 64 ≤ 34 = subst (λ (z : ℕ). z % 64 ≤ 34) e c.requires.short in
    let wide = c.loop-i.invariant.0 in
    omega (arith, short, wide)

pub slice_bounds-of-end : goal.slice_bounds-of-end
slice_bounds-of-end c =
    let e = read_at (slots_items c.args.words.now.words) c.args.at c.word.result c.word.ensures in
    let short : c.word.result % 64 ≤ 34 = subst (λ (z : ℕ). z % 64 ≤ 34) e c.requires.short in
    let wide = c.loop-i.invariant.0 in
    sym (length-take-le (c.word.result % 64) c.loop-i.kept (omega (arith, short, wide)))

pub returns : goal.returns
returns c =
    let e = read_at (slots_items c.args.words.now.words) c.args.at c.word.result c.word.ensures in
    let short : c.word.result % 64 ≤ 34 = subst (λ (z : ℕ). z % 64 ≤ 34) e c.requires.short in
    let le = c.loop-i-test.false in
    let up = c.loop-i.auto.i-end in
    row_copied c.loop-i.i (c.word.result % 64) c.args.at c.word.result (slots_items c.args.words.now.words) c.loop-i.kept c.in-Some.row c.loop-i.invariant c.word.ensures refl (omega (arith, le, up)) short c.in-Some.ensures.1
