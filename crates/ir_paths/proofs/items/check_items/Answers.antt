use Rattle.std.proofs.Common.{◌≡◌, subst}
use Rattle.ir_syntax.specs.Definite.{DefiniteItem}
use Rattle.ir_paths.specs.FirstIndefinite.{IsFirstIndefinite}
use Rattle.ir_paths.proofs.Answering.{first_found, says_no, says_yes, formed_at, one_more, all_seen}
use Rattle.ir_paths.proofs.items.check_items.Goals as goal

pub returns-then-not-branch-clause-not_definite : goal.returns-then-not-branch-clause-not_definite
returns-then-not-branch-clause-not_definite c = λ place e formed.
    let items = c.args.items.now in
    let here = formed_at items c.loop-place.place c.index-items-place.result c.loop-place-test.true c.index-items-place.is formed in
    let refused = says_no c.in_ok-is_definite_item.field-0 (DefiniteItem c.index-items-place.result) c.if-not-branch.true (c.in_ok-is_definite_item.ensures items here) in
    let same : c.loop-place.place ≡ place = cc in
    subst (IsFirstIndefinite items) same (first_found items c.loop-place.place c.index-items-place.result c.loop-place-test.true c.index-items-place.is (c.loop-place.invariant formed) refused)

pub loop-place-preserved : goal.loop-place-preserved
loop-place-preserved c = λ formed.
    let items = c.args.items.now in
    let here = formed_at items c.loop-place.place c.index-items-place.result c.loop-place-test.true c.index-items-place.is formed in
    one_more items c.loop-place.place c.index-items-place.result c.loop-place-test.true c.index-items-place.is (c.loop-place.invariant formed)
    (says_yes c.in_ok-is_definite_item.field-0 (DefiniteItem c.index-items-place.result) c.if-not-branch.false (c.in_ok-is_definite_item.ensures items here))

pub returns-clause-definite : goal.returns-clause-definite
returns-clause-definite c = λ formed. all_seen c.args.items.now c.loop-place.place c.loop-place-test.false (c.loop-place.invariant formed)
