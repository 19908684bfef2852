use Rattle.round_trip.proofs.Modules.Whole.{written_again}
use Rattle.round_trip.proofs.laws.what_is_written_is_read_again.Goals as goal

pub returns : goal.returns
returns c = written_again c.walk_takes_what_is_derived.ensures.sound
