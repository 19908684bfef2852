-- the text so far, and then that of the items that are left, is the text of all
use Rattle.std.proofs.Common.{◌≡◌, ◌++◌, map, flat_map, drop}
use Rattle.ir_lexer.specs.Written.{bytes_of}
use Rattle.ir_syntax.specs.FormedBody.{item_name}
use Rattle.ir_writer.specs.Modules.{item_parts}
use Rattle.ir_writer.proofs.items.write_items.Given as goal

abbrev pub invariant-loop-item : goal.invariant-loop-item
invariant-loop-item l = l.out ++ bytes_of (flat_map (item_parts (map item_name l.items)) (drop l.item-index l.items)) ≡ l.initial.out ++ bytes_of (flat_map (item_parts (map item_name l.items)) l.items)
