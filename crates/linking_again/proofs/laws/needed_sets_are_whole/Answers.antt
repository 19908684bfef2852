use Rattle.linking_again.proofs.Needs.{pieces_whole}
use Rattle.linking_again.proofs.laws.needed_sets_are_whole.Goals as goal

pub returns : goal.returns
returns c = pieces_whole
