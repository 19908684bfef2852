use Rattle.std.proofs.Common.{◌≡◌, ℕ, ◌-◌, ◌≤◌, List, ◌++◌, length, get_or, take, drop, ap, ◌∙◌, append_assoc}
use Rattle.std.proofs.lemmas.Result.{on_ok_weaker}
use Rattle.ir_types.specs.declared.scalar.Known.{Known}
use Rattle.ir_types.specs.declared.scalar.Known.TheVariants.{Unknown}
use Rattle.demands.specs.Names.{item_text, items_text}
use Rattle.demands.proofs.Texts.{more_text, items_text-split}
use Rattle.demands.proofs.names.write_items.Goals as goal

written : (before between after : List ℕ) (items : List Known) → 1 ≤ length items → between ≡ before ++ item_text (get_or items 0 Unknown) → after ≡ between ++ more_text (take (length items - 1) (drop 1 items)) → after ≡ before ++ items_text items
written before between after items h e f =
    f ∙ ap (λ (b : List ℕ). b ++ more_text (take (length items - 1) (drop 1 items))) e ∙ append_assoc before (item_text (get_or items 0 Unknown)) (more_text (take (length items - 1) (drop 1 items))) ∙ ap (λ (rest : List ℕ). before ++ rest) (items_text-split items h)

pub returns-in_ok-write_item-in-len1-up : goal.returns-in_ok-write_item-in-len1-up
returns-in_ok-write_item-in-len1-up c =
    on_ok_weaker c.write_more.result (written c.args.out.now c.write_item.new.out c.write_more.new.out c.args.items.now c.in-len1-up.len_at_least c.in_ok-write_item-in-len1-up.ensures) c.write_more.ensures
