use Rattle.std.proofs.Common.{ap, ◌∙◌}
use Rattle.ir_syntax.specs.Named.{names}
use Rattle.ir_syntax.specs.Typed.{NamesNoIntrinsic}
use Rattle.ir_check.proofs.Loops.{all_stops, all_goes, all_ends}
use Rattle.ir_check.proofs.NameLemmas.{names_none, names_one, names_parts, names-Int, names-Null, names-Addr, names-Undef, names-Poison, names-Zero, names-Text}
use Rattle.ir_check.proofs.names.+names_no_intrinsic.Goals as goal

pub returns-then-not-names_no_intrinsic : goal.returns-then-not-names_no_intrinsic
returns-then-not-names_no_intrinsic t c =
    names_parts c.args.items.now c.args.constant.now _ _ _ c.in-Many.is c.as_slice-part-items.ensures
    (all_stops (NamesNoIntrinsic c.args.items.now) _ c.loop-part.part-index c.part-item.result c.loop-part-test.true c.part-item.is (λ plain. absurd (cc (c.names_no_intrinsic.ensures.1 plain))))

pub loop-part-preserved : goal.loop-part-preserved
loop-part-preserved t c =
    all_goes (NamesNoIntrinsic c.args.items.now) _ c.loop-part.part-index c.part-item.result c.loop-part-test.true c.part-item.is c.loop-part.invariant (c.names_no_intrinsic.ensures.0 c.if-not-names_no_intrinsic.false)

pub returns-in-Int : goal.returns-in-Int
returns-in-Int t c = names_none c.args.items.now c.args.constant.now (ap names c.in-Int.is ∙ names-Int _)

pub returns-in-Null : goal.returns-in-Null
returns-in-Null t c = names_none c.args.items.now c.args.constant.now (ap names c.in-Null.is ∙ names-Null)

pub returns-in-Addr : goal.returns-in-Addr
returns-in-Addr t c = names_one c.args.items.now c.args.constant.now _ _ (ap names c.in-Addr.is ∙ names-Addr _ _) c.is_intrinsic_at.ensures

pub returns-in-Undef : goal.returns-in-Undef
returns-in-Undef t c = names_none c.args.items.now c.args.constant.now (ap names c.in-Undef.is ∙ names-Undef)

pub returns-in-Poison : goal.returns-in-Poison
returns-in-Poison t c = names_none c.args.items.now c.args.constant.now (ap names c.in-Poison.is ∙ names-Poison)

pub returns-in-Zero : goal.returns-in-Zero
returns-in-Zero t c = names_none c.args.items.now c.args.constant.now (ap names c.in-Zero.is ∙ names-Zero)

pub returns-in-Text : goal.returns-in-Text
returns-in-Text t c = names_none c.args.items.now c.args.constant.now (ap names c.in-Text.is ∙ names-Text _)

pub returns-after-loop-part : goal.returns-after-loop-part
returns-after-loop-part t c =
    names_parts c.args.items.now c.args.constant.now _ _ _ c.in-Many.is c.as_slice-part-items.ensures
    (all_ends (NamesNoIntrinsic c.args.items.now) _ c.loop-part.part-index c.loop-part-test.false c.loop-part.invariant)
