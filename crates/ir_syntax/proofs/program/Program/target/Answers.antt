use Rattle.std.proofs.Common.{List, IsSome, sym, subst}
use Rattle.ir_syntax.specs.declared.symbol.Target.{Target}
use Rattle.ir_syntax.specs.Symbols.{item_at}
use Rattle.ir_syntax.specs.Targets.{entry_at, IsTarget}
use Rattle.ir_syntax.specs.Programs.{ProgramData}
use Rattle.ir_syntax.proofs.ProgramLemmas.{entry-there}
use Rattle.ir_syntax.proofs.program.Program.target.Goals as goal

pub entry_at-requires : goal.entry_at-requires
entry_at-requires c =
    let there : IsSome (item_at c.self.inside.linked c.args.sym) = subst (λ (p : ProgramData). IsSome (item_at p.modules c.args.sym)) (sym c.self.view_is) c.requires.item in
    record { there = subst (λ (entries : List (List Target)). IsSome (entry_at entries c.args.sym)) (sym c.as_slice.ensures) (entry-there c.self.inside.linked c.self.inside.stands_for c.args.sym (IsTarget c.self.inside.linked c.self.invariant.outside) c.self.invariant.linked.targets there) }
