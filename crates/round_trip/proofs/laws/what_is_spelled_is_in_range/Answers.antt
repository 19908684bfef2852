use Rattle.round_trip.proofs.Ranges.Whole.{spelled_in_range}
use Rattle.round_trip.proofs.laws.what_is_spelled_is_in_range.Goals as goal

pub returns : goal.returns
returns c = spelled_in_range
