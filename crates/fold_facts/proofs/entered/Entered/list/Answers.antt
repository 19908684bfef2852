use Rattle.fold_facts.proofs.entered.Entered.list.Goals as goal

pub returns : goal.returns
returns c f t = c.in_ok-insert.ensures.updates.0 (f, t)
