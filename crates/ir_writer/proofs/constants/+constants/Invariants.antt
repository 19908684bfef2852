-- the text so far, and then that of the parts that are left, is the text of all
use Rattle.std.proofs.Common.{◌≡◌, ◌++◌, map, drop}
use Rattle.ir_lexer.specs.Written.{bytes_of}
use Rattle.ir_syntax.specs.FormedBody.{item_name}
use Rattle.ir_writer.specs.Words.{listed}
use Rattle.ir_writer.specs.Constants.{typed_part, typed_fields, constant_parts}
use Rattle.ir_writer.proofs.TypeTexts.{left_from}
use Rattle.ir_writer.proofs.constants.+constants.Given as goal

abbrev pub invariant-write_elements-loop-place : goal.invariant-write_elements-loop-place
invariant-write_elements-loop-place l =
    l.out ++ bytes_of (left_from l.place (map (λ constant. typed_part (constant_parts (map item_name l.items) constant) l.element) (drop l.place l.parts)))
    ≡ l.initial.out ++ bytes_of (listed (map (λ constant. typed_part (constant_parts (map item_name l.items) constant) l.element) l.parts))

abbrev pub invariant-write_typed_fields-loop-place : goal.invariant-write_typed_fields-loop-place
invariant-write_typed_fields-loop-place l =
    l.out ++ bytes_of (left_from l.place (typed_fields (map (constant_parts (map item_name l.items)) (drop l.place l.parts)) (drop l.place l.types)))
    ≡ l.initial.out ++ bytes_of (listed (typed_fields (map (constant_parts (map item_name l.items)) l.parts) l.types))
