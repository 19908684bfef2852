use Rattle.std.proofs.Common.{◌∙◌, ap, sym}
use Rattle.std.specs.Prelude.{is_some}
use Rattle.reach_prune.proofs.Noting.{noted_new}
use Rattle.reach_prune.proofs.notes.Notes.note.Goals as goal

pub returns-in_ok-push-in-None : goal.returns-in_ok-push-in-None
returns-in_ok-push-in-None c =
    noted_new c.args.self.now c.args.named.now c.in_ok-copy-in-None.field-0 c.put.new.self c.push.new.self c.requires.noting (ap is_some (sym c.place_of.ensures ∙ c.in-None.is)) c.in_ok-put-in-None.ensures c.in_ok-copy-in-None.ensures c.in_ok-push-in-None.ensures.ok
