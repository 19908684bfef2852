use Rattle.std.proofs.Common.{◌∙◌, refl, None, slice_index_or}
use Rattle.occam_tool.proofs.KnownArguments.{words_more, known_more}
use Rattle.occam_tool.proofs.arguments.known_arguments.Goals as goal

pub loop-arg-preserved : goal.loop-arg-preserved
loop-arg-preserved c =
    let arg = slice_index_or c.args.args.now c.loop-arg.arg-index None in
    record {
      words = words_more c.args.args.now c.loop-arg.arg-index None arg c.loop-arg-test.true refl c.loop-arg.invariant.words c.in-Some.ensures.0;
      known_so_far = c.in_ok-push-in-Some.ensures.ok ∙ known_more c.args.args.now c.loop-arg.known c.loop-arg.arg-index None arg c.in-Some.value c.loop-arg-test.true refl c.loop-arg.invariant.known_so_far c.in-Some.ensures.1;
    }
