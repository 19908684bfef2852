use Rattle.std.proofs.Common.{◌<◌, length, set, ap, sym, subst}
use Rattle.ir_syntax.specs.declared.symbol.Sym.{Sym}
use Rattle.reach_prune.proofs.Splitting.{split_put}
use Rattle.reach_prune.proofs.assembling.put_member.Goals as goal

pub returns : goal.returns
returns c = λ members split.
    split_put members c.args.member c.args.lists.now.items _ c.index_mut.result.now c.symbol_of-home.result.module (ap (λ (s : Sym). s.module) c.symbol_of-home.ensures)
    (subst (λ (s : Sym). s.module < length c.args.lists.now.items) (sym c.symbol_of-home.ensures) c.requires.within) c.index_mut.ensures.value (ap (set c.args.lists.now.items c.symbol_of-home.result.module) c.in_ok-push.ensures.ok) split
