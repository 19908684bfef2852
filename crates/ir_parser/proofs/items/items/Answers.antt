use Rattle.std.proofs.Common.{◌∙◌, ◌+◌, ◌++◌, ◌∷◌, [], false, ap, sym, subst}
use Rattle.std.specs.List.{slice_get}
use Rattle.std.specs.Option.{unwrap_or}
use Rattle.ir_scope.specs.Scopes.{env_of}
use Rattle.ir_parser.proofs.Resolving.{here_is, AreRead, read_type_too, read_item_too, read_nothing_too, read_until}
use Rattle.ir_parser.proofs.items.items.Goals as goal
use Rattle.ir_parser.proofs.items.items.Goals.{in-Type, in-Item+in_ok-push-in-Item, in-Nothing}

pub returns-in-Unresolved-clause-refused : goal.returns-in-Unresolved-clause-refused
returns-in-Unresolved-clause-refused c =
    let here = here_is (env_of c.args.expanded.now.scope) c.args.entities.now c.args.expanded.now.entities.items c.loop-at.at c.loop-at.types c.len.result c.index-entities-at.result _ c.stands_at-stands.result c.loop-at.items c.in_ok-resolve.field-0 c.requires c.loop-at-test.true c.index-entities-at.is c.loop-at.invariant.types
    (c.stands_at-stands.ensures ∙ ap (λ fs. unwrap_or (slice_get fs c.loop-at.types) false) c.as_slice.ensures.value) c.len.ensures c.kept.ensures c.in_ok-resolve.ensures in
    read_until (env_of c.args.expanded.now.scope) c.args.entities.now c.loop-at.at c.loop-at.types c.index-entities-at.result c.stands_at-stands.result c.loop-at.items c.in_ok-resolve.field-0
    (record { read = c.loop-at.invariant.read; types = c.loop-at.invariant.types; few = c.loop-at.invariant.few }) here c.in-Unresolved.is

pub loop-at-preserved : goal.loop-at-preserved
loop-at-preserved c =
    let env = env_of c.args.expanded.now.scope in
    let entities = c.args.entities.now in
    let so_far : AreRead env entities c.loop-at.at c.loop-at.items c.loop-at.types = record { read = c.loop-at.invariant.read; types = c.loop-at.invariant.types; few = c.loop-at.invariant.few } in
    let here = here_is env entities c.args.expanded.now.entities.items c.loop-at.at c.loop-at.types c.len.result c.index-entities-at.result _ c.stands_at-stands.result c.loop-at.items c.in_ok-resolve.field-0 c.requires c.loop-at-test.true c.index-entities-at.is c.loop-at.invariant.types
    (c.stands_at-stands.ensures ∙ ap (λ fs. unwrap_or (slice_get fs c.loop-at.types) false) c.as_slice.ensures.value) c.len.ensures c.kept.ensures c.in_ok-resolve.ensures in
    let after : AreRead env entities (c.loop-at.at + 1) c.match-branch-2.items c.match-branch-2.types = elim c.match-branch-2.branch [
      | in-Type w ↦ subst (λ is. AreRead env entities (c.loop-at.at + 1) is c.match-branch-2.types) (sym w.items-is)
          (subst (λ n. AreRead env entities (c.loop-at.at + 1) c.loop-at.items n) (sym w.types-is)
          (read_type_too env entities c.loop-at.at c.loop-at.types c.index-entities-at.result c.stands_at-stands.result c.loop-at.items c.in_ok-resolve.field-0 so_far here w.in-Type.is))
      | in-Item+in_ok-push-in-Item w ↦ subst (λ is. AreRead env entities (c.loop-at.at + 1) is c.match-branch-2.types) (sym (w.items-is ∙ w.in_ok-push-in-Item.ensures.ok))
          (subst (λ n. AreRead env entities (c.loop-at.at + 1) (c.loop-at.items ++ w.in-Item.item ∷ []) n) (sym w.types-is)
          (read_item_too env entities c.loop-at.at c.loop-at.types c.index-entities-at.result c.stands_at-stands.result c.loop-at.items c.in_ok-resolve.field-0 w.in-Item.item so_far here w.in-Item.is))
      | in-Nothing w ↦ subst (λ is. AreRead env entities (c.loop-at.at + 1) is c.match-branch-2.types) (sym w.items-is)
          (subst (λ n. AreRead env entities (c.loop-at.at + 1) c.loop-at.items n) (sym w.types-is)
          (read_nothing_too env entities c.loop-at.at c.loop-at.types c.index-entities-at.result c.stands_at-stands.result c.loop-at.items c.in_ok-resolve.field-0 so_far here w.in-Nothing.is))
    ] in
    record { read = after.read; types = after.types; few = after.few }
