use Rattle.std.proofs.Common.{◌≡◌, ◌+◌, ◌≤◌, ◌++◌, drop}
use Rattle.call_cycles.specs.Mirrors.Numbering.{item_numbers, next_number}
use Rattle.call_cycles.proofs.functions.number_items.Given as goal

abbrev pub invariant-loop-item : goal.invariant-loop-item
invariant-loop-item l = (l.numbers ++ item_numbers l.next (drop l.item-index l.items) ≡ item_numbers l.fn.next l.items) × (next_number l.next (drop l.item-index l.items) ≡ next_number l.fn.next l.items) × (l.next ≤ l.fn.next + l.item-index)
