use Rattle.std.proofs.Common.{sym, subst, ap, refl, ◌∙◌, ◌+◌, ◌++◌, ◌∷◌, []}
use Rattle.fold_sparse.proofs.Grouping.{IsGrouped, grouped_none, grouped_more, grouped_next}
use Rattle.fold_sparse.proofs.groups.Groups.of.Goals as goal

pub loop-key-init : goal.loop-key-init
loop-key-init c = subst (λ gs. IsGrouped gs 0 c.args.pairs.now 0) (sym c.new-lists.ensures.items) (grouped_none c.args.pairs.now)

pub loop-key-preserved : goal.loop-key-preserved
loop-key-preserved c =
    subst (λ gs. IsGrouped gs (c.loop-key._key + 1) c.args.pairs.now 0) (sym (c.in_ok-push.ensures.items ∙ ap (λ l. c.loop-key.lists.items ++ l ∷ []) c.new.ensures))
    (grouped_more c.loop-key.lists.items c.loop-key._key c.args.pairs.now c.loop-key.invariant)

pub loop-key-2-preserved : goal.loop-key-2-preserved
loop-key-2-preserved c =
    grouped_next c.loop-key-2.lists.items c.put.new.lists.items c.args.count c.args.pairs.now c.loop-key-2.key-index _ _ c.loop-key-2.invariant c.loop-key-2-test.true refl c.in_ok-put.ensures
