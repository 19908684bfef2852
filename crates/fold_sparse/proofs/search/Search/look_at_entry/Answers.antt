use Rattle.std.proofs.Common.{sym}
use Rattle.fold_facts.specs.Places.{blocks_of}
use Rattle.fold_facts.proofs.Visits.{facts_long}
use Rattle.fold_sparse.proofs.Raising.{entry_there, entry_number, entry_done}
use Rattle.fold_sparse.proofs.search.Search.look_at_entry.Goals as goal

pub transfer_entry-said-requires : goal.transfer_entry-said-requires
transfer_entry-said-requires g c = entry_there (blocks_of c.args.f.now) c.args.l c.args.at c.args.from c.args.phi c.args.entry c.args.number c.requires.looking.there

pub raise-requires : goal.raise-requires
raise-requires g c = entry_number (blocks_of c.args.f.now) c.args.self.now.a c.args.l c.args.at c.args.from c.args.phi c.args.entry c.args.number c.requires.looking.solving.fits c.requires.looking.there

pub returns-clause-looked : goal.returns-clause-looked
returns-clause-looked g c =
    let done = entry_done (record { known = c.args.known.now }) (blocks_of c.args.f.now) c.args.self.now.a c.raise.new.self.a c.args.self.now.standing c.raise.new.self.standing c.args.self.now.queue c.raise.new.self.queue
    c.args.l c.args.at c.args.from c.args.phi c.args.entry c.args.number c.transfer_entry-said.result c.requires.sound.few c.requires.sound.typed c.requires.looking.solving c.requires.looking.there c.requires.looking.active
    c.transfer_entry-said.ensures.said (c.in_ok-raise.ensures (blocks_of c.args.f.now) c.requires.plan (sym (facts_long (blocks_of c.args.f.now) c.args.self.now.a c.requires.looking.solving.fits))) in
    record { solving = done.0; left = done.1 }
