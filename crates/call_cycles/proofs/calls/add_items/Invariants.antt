use Rattle.std.proofs.Common.{◌≡◌, ◌++◌, length, drop}
use Rattle.call_cycles.specs.Mirrors.Numbering.{in_items, body_row, starts_of, ends_of}
use Rattle.call_cycles.proofs.calls.add_items.Given as goal

abbrev pub invariant-loop-item : goal.invariant-loop-item
invariant-loop-item l = (l.starts ++ starts_of (length l.ends) (in_items (body_row l.leads) l.item-index (drop l.item-index l.items)) ≡ l.fn.starts ++ starts_of (length l.fn.ends) (in_items (body_row l.leads) 0 l.items))
    × (l.ends ++ ends_of (in_items (body_row l.leads) l.item-index (drop l.item-index l.items)) ≡ l.fn.ends ++ ends_of (in_items (body_row l.leads) 0 l.items))
