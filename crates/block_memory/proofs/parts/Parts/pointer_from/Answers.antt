use Rattle.std.proofs.Common.{get_or, if◌then◌else◌, ap, sym, ◌∙◌}
use Rattle.block_memory.specs.declared.value.Val.TheVariants as val
use Rattle.block_memory.specs.declared.value.Part.TheVariants as part
use Rattle.block_memory.specs.Parts.{address_in}
use Rattle.block_memory.proofs.Reading.{pointer_of_poison, pointer_of_number, pointer_of_address}
use Rattle.block_memory.proofs.parts.Parts.pointer_from.Goals as goal

pub returns-in-Poison : goal.returns-in-Poison
returns-in-Poison c = sym (pointer_of_poison c.args.self.now c.args.at c.requires.room (c.requires.first ∙ c.in-Poison.is))

pub returns-in-Num : goal.returns-in-Num
returns-in-Num c = c.null.ensures ∙ sym (pointer_of_number c.args.self.now c.args.at c.in-Num.field-0 c.requires.room (c.requires.first ∙ c.in-Num.is))

pub returns-then-are_bytes_of : goal.returns-then-are_bytes_of
returns-then-are_bytes_of c =
    c.address_in.ensures
    ∙ sym (ap address_in c.requires.first)
    ∙ sym (pointer_of_address c.args.self.now c.args.at c.in-Of.of c.in-Of.offset c.in-Of.field-2 c.requires.room (c.requires.first ∙ c.in-Of.is)
    ∙ ap (λ b. if b then address_in (get_or c.args.self.now c.args.at part.Poison) else val.Poison) (sym c.are_bytes_of.ensures ∙ c.if-are_bytes_of.true))

pub returns-else-are_bytes_of : goal.returns-else-are_bytes_of
returns-else-are_bytes_of c =
    sym (pointer_of_address c.args.self.now c.args.at c.in-Of.of c.in-Of.offset c.in-Of.field-2 c.requires.room (c.requires.first ∙ c.in-Of.is)
    ∙ ap (λ b. if b then address_in (get_or c.args.self.now c.args.at part.Poison) else val.Poison) (sym c.are_bytes_of.ensures ∙ c.if-are_bytes_of.false))
