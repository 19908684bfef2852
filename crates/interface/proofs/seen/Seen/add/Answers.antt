use Rattle.std.proofs.Common.{◌∙◌}
use Rattle.interface.specs.Roots.{is_symbol}
use Rattle.interface.specs.Mirrors.Seen.{has}
use Rattle.interface.proofs.Once.{or_cond}
use Rattle.interface.proofs.seen.Seen.add.Goals as goal

pub returns-clause-adds : goal.returns-clause-adds
returns-clause-adds c t = c.in_ok-insert.ensures.updates.0 (t.module, t.item) ∙ or_cond (is_symbol c.args.symbol t) (has c.args.self.now t)
