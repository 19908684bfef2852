use Rattle.std.proofs.Common.{◌∙◌, ap, sym, rules}
use Rattle.ir_syntax.specs.declared.constant.Const.TheBlock.{Addr, Text}
use Rattle.winnowed_form.specs.Bodies.{moved}
use Rattle.reach_prune.specs.Mirrors.Places.{place_in}
use Rattle.reach_prune.proofs.Moving.{moved_parts, moved-Int, moved-Null, moved-Addr, moved-Undef, moved-Poison, moved-Zero, moved-Text}
use Rattle.reach_prune.proofs.constants.+moved.Goals as goal

pub returns-in-Int : goal.returns-in-Int
returns-in-Int t c = sym (ap (moved (place_in c.args.places.now)) c.in-Int.is ∙ moved-Int (place_in c.args.places.now) _)

pub returns-in-Null : goal.returns-in-Null
returns-in-Null t c = sym (ap (moved (place_in c.args.places.now)) c.in-Null.is ∙ moved-Null (place_in c.args.places.now))

pub returns-in-Undef : goal.returns-in-Undef
returns-in-Undef t c = sym (ap (moved (place_in c.args.places.now)) c.in-Undef.is ∙ moved-Undef (place_in c.args.places.now))

pub returns-in-Poison : goal.returns-in-Poison
returns-in-Poison t c = sym (ap (moved (place_in c.args.places.now)) c.in-Poison.is ∙ moved-Poison (place_in c.args.places.now))

pub returns-in-Zero : goal.returns-in-Zero
returns-in-Zero t c = sym (ap (moved (place_in c.args.places.now)) c.in-Zero.is ∙ moved-Zero (place_in c.args.places.now))

pub returns-in-Addr : goal.returns-in-Addr
returns-in-Addr t c = rw (ap (moved (place_in c.args.places.now)) c.in-Addr.is ∙ moved-Addr (place_in c.args.places.now) c.in-Addr.k c.in-Addr.offset) (search rules)

pub returns-in_ok-copy-in-Text : goal.returns-in_ok-copy-in-Text
returns-in_ok-copy-in-Text t c = ap Text c.in_ok-copy-in-Text.ensures ∙ sym (ap (moved (place_in c.args.places.now)) c.in-Text.is ∙ moved-Text (place_in c.args.places.now) _)

pub returns-after-loop-part : goal.returns-after-loop-part
returns-after-loop-part t c =
    moved_parts (place_in c.args.places.now) c.args.constant.now _ _ c.loop-part.made c.loop-part.part-index c.in-Many.is c.as_slice-part-items.ensures c.loop-part-test.false c.loop-part.invariant
