use Rattle.std.proofs.Common.{arith, ap, subst, ◌∙◌, ◌≡◌, ◌+◌, ◌-◌, ℕ}
use Rattle.demand_table.specs.Passes.{fresh_pass, fresh_passes}
use Rattle.demand_table.proofs.Fresh.{passes_push, keeps_next}
use Rattle.demand_table.proofs.opening.new_table.Goals as goal

pub loop-worker-preserved : goal.loop-worker-preserved
loop-worker-preserved c =
    let lt = c.loop-worker-test.true in
    let i = c.loop-worker.invariant in (
      omega (arith, lt),
      c.split-own.ensures.same.0 ∙ i.1,
      keeps_next c.loop-worker.worker c.args.workers (65536 + c.args.workers) _ _ (omega (arith, lt)) i.2 c.split-own.ensures.left,
      passes_push _ _ c.args.workers c.loop-worker.worker _ _ _ i.3 c.in_ok-push.ensures.items c.in_ok-pass_of.ensures (c.split-own.ensures.same.1 ∙ i.1),
    )

pub returns-clause-passes : goal.returns-clause-passes
returns-clause-passes c =
    let le = c.loop-worker-test.false in
    let i = c.loop-worker.invariant in
    let lt = i.0 in
    let last : c.args.workers - 1 ≡ c.loop-worker.worker = omega (arith, lt, le) in
    let all : c.loop-worker.worker + 1 ≡ c.args.workers = omega (arith, lt, le) in
    c.from_vec.ensures ∙ subst (λ (n : ℕ). c.push-2.new.self.items ≡ fresh_passes c.in_ok-board.board.shared.table_id c.args.workers 0 n) all
    (passes_push _ _ c.args.workers c.loop-worker.worker _ _ _ i.3 c.in_ok-push-2.ensures.items (c.in_ok-pass_of-2.ensures ∙ ap (λ (n : ℕ). fresh_pass c.loop-worker.seat.table_id c.args.workers n) last) i.1)
