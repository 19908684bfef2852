use Rattle.std.proofs.Common.{◌≡◌, List, All, subst, sym, ap}
use Rattle.std.proofs.lemmas.List.Elements.{All-get_or}
use Rattle.ir_types.proofs.ListSteps.{All-at}
use Rattle.ir_syntax.specs.declared.item.Item.{Item}
use Rattle.ir_syntax.specs.FormedItem.{FormedItem}
use Rattle.ir_syntax.specs.Typed.{TypedItem}
use Rattle.ir_syntax.specs.Programs.{IsSoundModule}
use Rattle.block_memory.specs.Mirrors.Laying.{items_of, items_in}
use Rattle.block_memory.proofs.starts.module_blocks.Goals as goal

pub item_block-requires-clause-formed : goal.item_block-requires-clause-formed
item_block-requires-clause-formed c =
    let sound : IsSoundModule c.args.m.now = All-at IsSoundModule c.args.p.now.modules c.args.home c.args.m.now c.requires.program.sound.sound c.requires.home in
    let here : c.args.m.now.items ≡ items_in c.args.p.now c.args.home = sym (ap items_of c.requires.home) in
    let formed : All (FormedItem c.args.m.now.items) c.as_slice-item-items.result.now =
    subst (λ (items : List Item). All (FormedItem c.args.m.now.items) items) (sym c.as_slice-item-items.ensures) sound.formed.has_items in
    subst (λ (items : List Item). FormedItem items c.item-item.result) here
    (subst (λ (item : Item). FormedItem c.args.m.now.items item) (sym c.item-item.is)
    (All-get_or (FormedItem c.args.m.now.items) c.as_slice-item-items.result.now c.loop-item.item-index c.item-item.result c.loop-item-test.true formed))

pub item_block-requires-clause-typed : goal.item_block-requires-clause-typed
item_block-requires-clause-typed c =
    let sound : IsSoundModule c.args.m.now = All-at IsSoundModule c.args.p.now.modules c.args.home c.args.m.now c.requires.program.sound.sound c.requires.home in
    let here : c.args.m.now.items ≡ items_in c.args.p.now c.args.home = sym (ap items_of c.requires.home) in
    let typed : All (TypedItem c.args.m.now.items) c.as_slice-item-items.result.now =
    subst (λ (items : List Item). All (TypedItem c.args.m.now.items) items) (sym c.as_slice-item-items.ensures) sound.typed in
    subst (λ (items : List Item). TypedItem items c.item-item.result) here
    (subst (λ (item : Item). TypedItem c.args.m.now.items item) (sym c.item-item.is)
    (All-get_or (TypedItem c.args.m.now.items) c.as_slice-item-items.result.now c.loop-item.item-index c.item-item.result c.loop-item-test.true typed))
