use Rattle.ir_meaning.specs.Models.{state_of}
use Rattle.session_runs.proofs.Going.{is_behind_reply, replies_now, call_runs, runs}
use Rattle.session_runs.proofs.progress.Progress.reply.Goals as goal

pub step-requires-clause-running : goal.step-requires-clause-running
step-requires-clause-running c = call_runs c.args.p.now c.args.self.now.state (c.requires.going.calls (runs c.args.self.now.phase c.requires.running))

pub complete-requires-clause-behind : goal.complete-requires-clause-behind
complete-requires-clause-behind c =
    is_behind_reply c.args.p.now (state_of c.args.p.now c.args.self.now.state) c.args.reply c.in_ok-stepped.stepped (state_of c.args.p.now c.step.new.s) c.in_ok-stepped.ensures.answer

pub returns-clause-replied : goal.returns-clause-replied
returns-clause-replied c =
    replies_now c.args.p.now c.args.self.now c.complete.new.self c.args.call c.args.reply c.push.new.self c.in_ok-stepped.stepped c.step.new.s c.requires.wanted c.in_ok-stepped.ensures.answer
    c.in_ok-push.ensures.ok c.in_ok-complete.ensures.completes
