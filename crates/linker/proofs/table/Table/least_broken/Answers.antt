use Rattle.std.proofs.Common.{◌∙◌, sym, subst, List, ℕ}
use Rattle.ir_syntax.specs.Refusals.{Breaks, IsLeast}
use Rattle.linker.specs.Mirrors.Slots.{rule_of}
use Rattle.linker.proofs.Tables.{none_least, some_least}
use Rattle.linker.proofs.table.Table.least_broken.Goals as goal

pub returns-in_ok-from_slice-in-Some : goal.returns-in_ok-from_slice-in-Some
returns-in_ok-from_slice-in-Some c = λ d table. subst (λ (n : List ℕ). IsLeast (Breaks c.args.modules.now d (rule_of c.args.rule)) n) (sym (c.in_ok-from_slice-in-Some.ensures ∙ c.name_at.ensures)) (some_least c.args.modules.now d c.args.self.now.names c.args.self.now.slots c.args.rule c.in-Some.symbol table c.in-Some.ensures)

pub returns-in-None : goal.returns-in-None
returns-in-None c = λ d table. none_least c.args.modules.now d c.args.self.now.names c.args.self.now.slots c.args.rule table c.in-None.ensures
