use Rattle.std.proofs.Common.{◌≡◌, ◌∙◌, subst, arith}
use Rattle.session_runs.specs.Mirrors.Progressing.{Begins, Wants}
use Rattle.session_runs.proofs.Going.{phase_same, steps_same, wants_same, replies_same, waits_when, takes_first}
use Rattle.session_runs.proofs.running.go.Goals as goal

pub reply-requires-clause-running : goal.reply-requires-clause-running
reply-requires-clause-running c =
    phase_same c.args.p.now c.args.progress.now c.begin.new.self c.in-Some.call (subst (λ x. Begins c.args.p.now c.args.progress.now x c.begin.new.self) c.in-Some.is c.in_ok-begin.ensures.begun)
    ∙ c.requires.running

pub reply-requires-clause-room : goal.reply-requires-clause-room
reply-requires-clause-room c =
    let same : c.begin.new.self.steps ≡ c.args.progress.now.steps =
    steps_same c.args.p.now c.args.progress.now c.begin.new.self c.in-Some.call (subst (λ x. Begins c.args.p.now c.args.progress.now x c.begin.new.self) c.in-Some.is c.in_ok-begin.ensures.begun) in
    omega (arith, same, c.requires.room)

pub reply-requires-clause-wanted : goal.reply-requires-clause-wanted
reply-requires-clause-wanted c =
    wants_same c.args.p.now c.args.progress.now c.begin.new.self c.in-Some.call (subst (λ x. Begins c.args.p.now c.args.progress.now x c.begin.new.self) c.in-Some.is c.in_ok-begin.ensures.begun)
    (subst (λ x. Wants c.args.p.now c.args.progress.now x) c.in-Some.is c.in_ok-begin.ensures.wanted)

pub returns-in_err-reply-in-Some-split_first-2-clause-steps : goal.returns-in_err-reply-in-Some-split_first-2-clause-steps
returns-in_err-reply-in-Some-split_first-2-clause-steps c =
    let same : c.begin.new.self.steps ≡ c.args.progress.now.steps =
    steps_same c.args.p.now c.args.progress.now c.begin.new.self c.in-Some.call (subst (λ x. Begins c.args.p.now c.args.progress.now x c.begin.new.self) c.in-Some.is c.in_ok-begin.ensures.begun) in
    omega (arith, same, c.reply.ensures.steps)

pub returns-in-None-split_first-clause-begun : goal.returns-in-None-split_first-clause-begun
returns-in-None-split_first-clause-begun c =
    waits_when c.args.p.now c.args.progress.now c.begin.new.self c.wait.new.self c.in-Some.call c.args.replies.now c.in-None-split_first.ensures.cases
    (subst (λ x. Begins c.args.p.now c.args.progress.now x c.begin.new.self) c.in-Some.is c.in_ok-begin.ensures.begun)
    (subst (λ x. Wants c.args.p.now c.args.progress.now x) c.in-Some.is c.in_ok-begin.ensures.wanted) (c.wait.ensures.waits c.args.p.now)

pub returns-in_ok-reply-in-Some-split_first-2-clause-begun : goal.returns-in_ok-reply-in-Some-split_first-2-clause-begun
returns-in_ok-reply-in-Some-split_first-2-clause-begun c =
    takes_first c.args.p.now c.args.progress.now c.reply.new.self c.in_ok-reply-in-Some-split_first.reply c.in-Some-split_first.reply.now c.in-Some-split_first.left.now c.args.replies.now
    c.in_ok-reply-in-Some-split_first.ensures c.in-Some-split_first.ensures.cases.0
    (replies_same c.args.p.now c.args.progress.now c.begin.new.self c.reply.new.self c.in-Some.call c.in_ok-reply-in-Some-split_first.reply
    (subst (λ x. Begins c.args.p.now c.args.progress.now x c.begin.new.self) c.in-Some.is c.in_ok-begin.ensures.begun) c.in_ok-reply-in-Some-split_first-2.ensures.replied)

pub returns-in_ok-reply-in-Some-split_first-2-clause-steps : goal.returns-in_ok-reply-in-Some-split_first-2-clause-steps
returns-in_ok-reply-in-Some-split_first-2-clause-steps c =
    let same : c.begin.new.self.steps ≡ c.args.progress.now.steps =
    steps_same c.args.p.now c.args.progress.now c.begin.new.self c.in-Some.call (subst (λ x. Begins c.args.p.now c.args.progress.now x c.begin.new.self) c.in-Some.is c.in_ok-begin.ensures.begun) in
    omega (arith, same, c.reply.ensures.steps)
