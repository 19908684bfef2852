use Rattle.std.proofs.Common.{◌≡◌, ◌<◌, ◌++◌, ◌∷◌, [], arith, sym, subst}
use Rattle.std.proofs.lemmas.Grind.{common_steps}
use Rattle.std.proofs.lemmas.List.Elements.{All-rest}
use Rattle.demands.specs.Order.{symbol_of}
use Rattle.winnowed_form.specs.declared.member.Member.{Member}
use Rattle.reach_prune.specs.Mirrors.Split.{AreSplit}
use Rattle.reach_prune.proofs.assembling.by_module.Goals as goal

pub loop-member-preserved : goal.loop-member-preserved
loop-member-preserved c =
    let e : c.loop-member.member-iterator.rest.items ≡ c.in-Some.member ∷ c.next.new.self.rest.items = grind (arith, common_steps) in (
      subst (λ n. AreSplit n (c.loop-member.yielded ++ c.in-Some.member ∷ []) c.put_member.new.lists.items) c.loop-member.invariant.0.long
          (c.in_ok-put_member.ensures c.loop-member.yielded (subst (λ n. AreSplit n c.loop-member.yielded c.loop-member.lists.items) (sym c.loop-member.invariant.0.long) c.loop-member.invariant.0)),
      All-rest (λ (member : Member). (symbol_of member.demand).«module» < c.args.modules) c.in-Some.member c.next.new.self.rest.items c.loop-member.member-iterator.rest.items e c.loop-member.invariant.1,
    )
