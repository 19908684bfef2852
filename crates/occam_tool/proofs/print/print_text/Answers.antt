use Rattle.std.proofs.Common.{◌<◌, ◌∙◌, arith}
use Rattle.std.proofs.lemmas.List.{take_rest}
use Rattle.occam_tool.proofs.Printed.{told_more}
use Rattle.occam_tool.proofs.print.print_text.Goals as goal

pub loop-rest-preserved : goal.loop-rest-preserved
loop-rest-preserved g c =
    let some : 0 < c.in-Ok.count = grind (arith, c.in-Ok.count-test) in
    record {
      so_far = rw take_rest (told_more _ _ _ _ _ c.in-Ok.count c.loop-rest.invariant.so_far c.in-Ok.ensures.within c.in-Ok.ensures.gives);
      faults = c.in-Ok.ensures.some_taken some ∙ c.loop-rest.invariant.faults;
    }
