use Rattle.std.proofs.Common.{◌≡◌, ◌∙◌, ◌+◌, ◌++◌, Option, Some, ap, sym, drop, slice_get}
use Rattle.ir_syntax.specs.declared.item.Item.{Item}
use Rattle.ir_syntax.specs.declared.item.Item.TheVariants as item
use Rattle.straight_plan.specs.declared.cut.Cut.{Cut}
use Rattle.straight_plan.specs.Left.{is_entry}
use Rattle.straight_leave.specs.Places.{place_in}
use Rattle.straight_leave.specs.Rewritten.{new_item, new_func, new_items}
use Rattle.straight_leave.proofs.Blocks.{filtered_none, filtered_some}
use Rattle.straight_leave.proofs.functions.left_items.Goals as goal
use Rattle.straight_leave.proofs.functions.left_items.Goals.{in-Some-Func+in_ok-func-in-Some-Func+in_ok-push-in-Some-Func, in-Some-Var, in-None}

pub loop-cut-preserved : goal.loop-cut-preserved
loop-cut-preserved c =
    let find = place_in c.args.rows.now.keys in
    let items = c.args.items.now in
    let cut = c.cut-item.result in
    let k = c.loop-cut.cut-index in
    let give = λ (x : Cut). new_item items find (is_entry c.args.start.now x.ask) x (slice_get items x.ask.place) in
    let of = λ (o : Option Item). new_item items find (is_entry c.args.start.now cut.ask) cut o in
    let rest = new_items items find c.args.start.now (drop (k + 1) c.args.plan.now) in
    elim c.match-at.branch [
      | in-Some-Func+in_ok-func-in-Some-Func+in_ok-push-in-Some-Func w ↦
          let func = w.in-Some-Func.func in
          let found : slice_get items cut.ask.place ≡ Some (item.Func func) = sym w.in-Some-Func.ensures ∙ ap (λ i. Some i) w.in-Some-Func.field-0-is in
          let made : w.in_ok-func-in-Some-Func.func ≡ new_func items find (is_entry c.args.start.now cut.ask) cut func =
          w.in_ok-func-in-Some-Func.ensures ∙ ap (λ whole. new_func items find whole cut func) c.is_entry-whole.ensures in
          ap (λ ys. ys ++ rest) w.left-is
          ∙ filtered_some give c.args.plan.now k cut (item.Func w.in_ok-func-in-Some-Func.func) c.loop-cut.left w.push.new.self c.loop-cut-test.true c.cut-item.is
          (ap of found ∙ ap (λ f. Some (item.Func f)) (sym made)) w.in_ok-push-in-Some-Func.ensures.ok c.loop-cut.invariant
      | in-Some-Var w ↦
          let found : slice_get items cut.ask.place ≡ Some (item.Var w.in-Some-Var.field-0-0) = sym w.in-Some-Var.ensures ∙ ap (λ i. Some i) w.in-Some-Var.field-0-is in
          ap (λ ys. ys ++ rest) w.left-is ∙ filtered_none give c.args.plan.now k cut c.loop-cut.left c.loop-cut-test.true c.cut-item.is (ap of found) c.loop-cut.invariant
      | in-None w ↦ ap (λ ys. ys ++ rest) w.left-is ∙ filtered_none give c.args.plan.now k cut c.loop-cut.left c.loop-cut-test.true c.cut-item.is (ap of (sym w.in-None.ensures)) c.loop-cut.invariant
    ]
