use Rattle.std.proofs.Common.{◌∙◌}
use Rattle.winnowed_form.specs.Names.{uses}
use Rattle.reach_prune.specs.Mirrors.Shown.{shown}
use Rattle.reach_prune.proofs.Noting.{members_next}
use Rattle.reach_prune.proofs.notes.Notes.note_members.Goals as goal

pub loop-member-preserved : goal.loop-member-preserved
loop-member-preserved c = (
  c.in_ok-note_all.ensures.noting,
  c.in_ok-note_all.ensures.defined ∙ c.loop-member.invariant.1,
  members_next (uses (shown c.args.g.now) c.args.home) c.args.self.now.defined c.args.members.now c.loop-member.member-index c.member-item.result c.loop-member.self.declared c.note_all.new.self.declared c.as_slice.result.now c.loop-member.self.defined _ c.loop-member-test.true
      c.member-item.is c.loop-member.invariant.2 c.loop-member.invariant.1 c.in_ok-note_all.ensures.declared (c.as_slice.ensures ∙ c.in_ok-names.ensures),
)
