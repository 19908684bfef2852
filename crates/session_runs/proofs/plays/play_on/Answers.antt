use Rattle.std.proofs.Common.{◌≡◌, ◌∙◌, refl, inl, inr, subst, arith}
use Rattle.session_runs.specs.Mirrors.Progressing.{Wants, Begins}
use Rattle.session_runs.proofs.Going.{phase_same, steps_same, wants_same, replies_same, waits_same}
use Rattle.session_runs.proofs.PlayedSoFar.{fails_at}
use Rattle.session_runs.proofs.plays.play_on.Goals as goal

pub returns-in-None-clause-goes : goal.returns-in-None-clause-goes
returns-in-None-clause-goes g c = inl (record {
  wants = subst (λ x. Wants c.args.p.now c.args.progress.now x) c.in-None.is c.in-Ok.ensures.wanted;
  begins = subst (λ x. Begins c.args.p.now c.args.progress.now x c.begin.new.self) c.in-None.is c.in-Ok.ensures.begun;
  replies_are = refl;
  world_is = refl;
})

pub returns-in-Err-answer-clause-fails : goal.returns-in-Err-answer-clause-fails
returns-in-Err-answer-clause-fails g c =
    fails_at g.W.World.answers g.W.World.breaks c.args.p.now c.args.progress.now c.args.world.now c.answer.new.self c.in-Err-answer.fault (record {
      call = c.in-Some.call;
      wants = subst (λ x. Wants c.args.p.now c.args.progress.now x) c.in-Some.is c.in-Ok.ensures.wanted;
      broke = c.in-Err-answer.ensures.breaks;
    })

pub take-requires-clause-running : goal.take-requires-clause-running
take-requires-clause-running g c =
    phase_same c.args.p.now c.args.progress.now c.begin.new.self c.in-Some.call (subst (λ x. Begins c.args.p.now c.args.progress.now x c.begin.new.self) c.in-Some.is c.in-Ok.ensures.begun)
    ∙ c.requires.running

pub take-requires-clause-room : goal.take-requires-clause-room
take-requires-clause-room g c =
    let same : c.begin.new.self.steps ≡ c.args.progress.now.steps =
    steps_same c.args.p.now c.args.progress.now c.begin.new.self c.in-Some.call (subst (λ x. Begins c.args.p.now c.args.progress.now x c.begin.new.self) c.in-Some.is c.in-Ok.ensures.begun) in
    omega (arith, same, c.requires.room)

pub take-requires-clause-wanted : goal.take-requires-clause-wanted
take-requires-clause-wanted g c =
    wants_same c.args.p.now c.args.progress.now c.begin.new.self c.in-Some.call (subst (λ x. Begins c.args.p.now c.args.progress.now x c.begin.new.self) c.in-Some.is c.in-Ok.ensures.begun)
    (subst (λ x. Wants c.args.p.now c.args.progress.now x) c.in-Some.is c.in-Ok.ensures.wanted)

pub returns-in-None-answer-clause-goes : goal.returns-in-None-answer-clause-goes
returns-in-None-answer-clause-goes g c = inr (inl (record {
  call = c.in-Some.call;
  wants = subst (λ x. Wants c.args.p.now c.args.progress.now x) c.in-Some.is c.in-Ok.ensures.wanted;
  answered = subst (λ a. g.W.World.answers c.args.world.now c.in-Some.call a c.answer.new.self) c.in-None-answer.is c.in-Ok-answer.ensures.answers;
  waits = waits_same c.args.p.now c.args.progress.now c.begin.new.self c.wait.new.self c.in-Some.call
      (subst (λ x. Begins c.args.p.now c.args.progress.now x c.begin.new.self) c.in-Some.is c.in-Ok.ensures.begun) (c.wait.ensures.waits c.args.p.now);
  replies_are = refl;
}))

pub returns-in-Ok-take-clause-goes : goal.returns-in-Ok-take-clause-goes
returns-in-Ok-take-clause-goes g c = inr (inr (record {
  call = c.in-Some.call;
  reply = c.in-Some-answer.reply;
  wants = subst (λ x. Wants c.args.p.now c.args.progress.now x) c.in-Some.is c.in-Ok.ensures.wanted;
  answered = subst (λ a. g.W.World.answers c.args.world.now c.in-Some.call a c.answer.new.self) c.in-Some-answer.is c.in-Ok-answer.ensures.answers;
  replied = replies_same c.args.p.now c.args.progress.now c.begin.new.self c.take.new.progress c.in-Some.call c.in-Some-answer.reply
      (subst (λ x. Begins c.args.p.now c.args.progress.now x c.begin.new.self) c.in-Some.is c.in-Ok.ensures.begun) c.in-Ok-take.ensures.replied;
  replies_are = c.in-Ok-take.ensures.replies;
}))

pub returns-in-Ok-take-clause-steps : goal.returns-in-Ok-take-clause-steps
returns-in-Ok-take-clause-steps g c =
    let same : c.begin.new.self.steps ≡ c.args.progress.now.steps =
    steps_same c.args.p.now c.args.progress.now c.begin.new.self c.in-Some.call (subst (λ x. Begins c.args.p.now c.args.progress.now x c.begin.new.self) c.in-Some.is c.in-Ok.ensures.begun) in
    omega (arith, same, c.take.ensures.steps)

pub returns-in-Err-take-clause-fails : goal.returns-in-Err-take-clause-fails
returns-in-Err-take-clause-fails g c = inr (inr (record {
  call = c.in-Some.call;
  reply = c.in-Some-answer.reply;
  wants = subst (λ x. Wants c.args.p.now c.args.progress.now x) c.in-Some.is c.in-Ok.ensures.wanted;
  answered = subst (λ a. g.W.World.answers c.args.world.now c.in-Some.call a c.answer.new.self) c.in-Some-answer.is c.in-Ok-answer.ensures.answers;
}))
