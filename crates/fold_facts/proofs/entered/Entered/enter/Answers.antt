use Rattle.fold_facts.proofs.entered.Entered.enter.Goals as goal

pub returns : goal.returns
returns c f t = c.in-Ok.ensures.updates.0 (f, t)
