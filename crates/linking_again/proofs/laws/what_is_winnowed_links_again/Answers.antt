use Rattle.linking_again.proofs.Needs.{needed_sound, needed_linkable, needed_kept, needed_linked, needed_not_refused}
use Rattle.linking_again.proofs.laws.what_is_winnowed_links_again.Goals as goal

pub returns-clause-sound : goal.returns-clause-sound
returns-clause-sound c = needed_sound

pub returns-clause-linkable : goal.returns-clause-linkable
returns-clause-linkable c = needed_linkable

pub returns-clause-kept : goal.returns-clause-kept
returns-clause-kept c = needed_kept

pub returns-clause-linked : goal.returns-clause-linked
returns-clause-linked c = needed_linked

pub returns-clause-not_refused : goal.returns-clause-not_refused
returns-clause-not_refused c = needed_not_refused
