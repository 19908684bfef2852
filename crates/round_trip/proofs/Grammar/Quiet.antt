-- What is left out at a quiet shape.
use Rattle.std.proofs.Common.{◌≡◌, ◌∙◌, true, ◌∷◌, refl}
use Rattle.std.proofs.lemmas.Bool.{false≢true}
use Rattle.ir_grammar.specs.declared.shape.Shape.{Shape}
use Rattle.ir_grammar.specs.declared.shape.Shape.TheVariants as is
use Rattle.ir_grammar.specs.declared.grammar.Item.{Item}
use Rattle.ir_grammar.specs.declared.grammar.Item.TheVariants as item
use Rattle.ir_grammar.specs.declared.grammar.Name.TheVariants as the
use Rattle.ir_grammar.specs.Mirrors.Walk.{settle}
use Rattle.round_trip.proofs.Grammar.Walking.{Items, is_quiet, Quietly}

-- The item is left out at a quiet shape, before any others.
abbrev LeftOut : Item → Items → Type 0
LeftOut first others = (at : Shape) → is_quiet at ≡ true → settle at (first ∷ others) ≡ settle at others

attachments_left_out : (others : Items) → LeftOut (item.Many the.CommaAttachment) others
attachments_left_out others is.Comma quiet = absurd (false≢true quiet)
attachments_left_out others _ quiet = refl

alignment_left_out : (others : Items) → LeftOut (item.May the.AlignPart) others
alignment_left_out others is.Comma quiet = absurd (false≢true quiet)
alignment_left_out others _ quiet = refl

alloca_part_left_out : (others : Items) → LeftOut (item.May the.AllocaPart) others
alloca_part_left_out others is.Comma quiet = absurd (false≢true quiet)
alloca_part_left_out others _ quiet = refl

indices_left_out : (others : Items) → LeftOut (item.May the.IndexPart) others
indices_left_out others is.Comma quiet = absurd (false≢true quiet)
indices_left_out others _ quiet = refl

entries_left_out : (others : Items) → LeftOut (item.May the.EntryPart) others
entries_left_out others is.Comma quiet = absurd (false≢true quiet)
entries_left_out others _ quiet = refl

call_attributes_left_out : (others : Items) → LeftOut (item.Many the.CallAttribute) others
call_attributes_left_out others (is.Free free) quiet = absurd (false≢true quiet)
call_attributes_left_out others is.Str quiet = absurd (false≢true quiet)
call_attributes_left_out others is.Hash quiet = absurd (false≢true quiet)
call_attributes_left_out others is.Align quiet = absurd (false≢true quiet)
call_attributes_left_out others _ quiet = refl

attributes_left_out : (others : Items) → LeftOut (item.Many the.Attribute) others
attributes_left_out others (is.Free free) quiet = absurd (false≢true quiet)
attributes_left_out others is.Str quiet = absurd (false≢true quiet)
attributes_left_out others is.Hash quiet = absurd (false≢true quiet)
attributes_left_out others is.Record quiet = absurd (false≢true quiet)
attributes_left_out others is.Align quiet = absurd (false≢true quiet)
attributes_left_out others _ quiet = refl

variable_parts_left_out : (others : Items) → LeftOut (item.Many the.VariablePart) others
variable_parts_left_out others is.Comma quiet = absurd (false≢true quiet)
variable_parts_left_out others _ quiet = refl

pub past_attachments : (others : Items) → Quietly (item.Many the.CommaAttachment ∷ others) others
past_attachments others = record { settles = attachments_left_out others; ends = refl }

pub past_alignment : (others : Items) → Quietly (item.May the.AlignPart ∷ others) others
past_alignment others = record { settles = alignment_left_out others; ends = refl }

pub past_alloca_part : (others : Items) → Quietly (item.May the.AllocaPart ∷ others) others
past_alloca_part others = record { settles = alloca_part_left_out others; ends = refl }

pub past_indices : (others : Items) → Quietly (item.May the.IndexPart ∷ others) others
past_indices others = record { settles = indices_left_out others; ends = refl }

pub past_entries : (others : Items) → Quietly (item.May the.EntryPart ∷ others) others
past_entries others = record { settles = entries_left_out others; ends = refl }

pub past_call : (others : Items) → Quietly (item.Many the.CallAttribute ∷ item.Many the.CommaAttachment ∷ others) others
past_call others = record {
  settles = λ at quiet. call_attributes_left_out (item.Many the.CommaAttachment ∷ others) at quiet ∙ attachments_left_out others at quiet;
  ends = refl;
}

pub past_attributes : (others : Items) → Quietly (item.Many the.Attribute ∷ others) others
past_attributes others = record { settles = attributes_left_out others; ends = refl }

pub past_variable_parts : (others : Items) → Quietly (item.Many the.VariablePart ∷ others) others
past_variable_parts others = record { settles = variable_parts_left_out others; ends = refl }
