use Rattle.round_trip.proofs.Modules.Whole.{one_text}
use Rattle.round_trip.proofs.laws.modules_of_one_text_are_one.Goals as goal

pub returns : goal.returns
returns c = one_text c.a_text_spells_one_module.ensures c.what_is_written_is_read_again.ensures
