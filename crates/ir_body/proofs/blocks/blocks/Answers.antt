use Rattle.std.proofs.Common.{sym, ◌∙◌, arith}
use Rattle.ir_body.specs.Mirrors.Naming.{line_of, lines_seen}
use Rattle.ir_body.proofs.Built.{builds_more}
use Rattle.ir_body.proofs.blocks.blocks.Goals as goal

pub reading-preserved : goal.reading-preserved
reading-preserved c =
    let enough = rw c.in-Some.is at c.in_ok-line.ensures.within in
    record {
      within = omega (arith, enough, c.after-rest.ensures.left);
      builds = builds_more _ _ _ _ _ _ _ (line_of c.in-Some.line) c.in-Some.count c.reading.invariant.builds c.after-rest.ensures.rest
          (sym c.if-not-begins_line.false ∙ c.begins_line.ensures) (rw c.in-Some.is at c.in_ok-line.ensures.exact) (omega (arith, enough)) c.in_ok-put-in-Some.ensures;
    }
