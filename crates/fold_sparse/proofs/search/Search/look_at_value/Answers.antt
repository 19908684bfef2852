use Rattle.std.proofs.Common.{sym}
use Rattle.fold_facts.specs.Instructions.{inst_fact}
use Rattle.fold_facts.specs.Places.{blocks_of, inst_at}
use Rattle.fold_facts.proofs.Visits.{facts_long}
use Rattle.fold_sparse.proofs.Raising.{value_there, value_number, value_done, fact_says}
use Rattle.fold_sparse.proofs.search.Search.look_at_value.Goals as goal

pub transfer-requires : goal.transfer-requires
transfer-requires g c = value_there (blocks_of c.args.f.now) c.args.l c.args.at c.args.k c.args.number c.requires.looking.there

pub raise-requires : goal.raise-requires
raise-requires g c = value_number (blocks_of c.args.f.now) c.args.self.now.a c.args.l c.args.at c.args.k c.args.number c.requires.looking.solving.fits c.requires.looking.there

pub returns-clause-looked : goal.returns-clause-looked
returns-clause-looked g c =
    let done = value_done (record { known = c.args.known.now }) (blocks_of c.args.f.now) c.args.self.now.a c.raise.new.self.a c.args.self.now.standing c.raise.new.self.standing c.args.self.now.queue c.raise.new.self.queue
    c.args.l c.args.at c.args.k c.args.number c.in-Fact.said c.requires.sound.few c.requires.sound.typed c.requires.looking.solving c.requires.looking.there c.requires.looking.active
    (fact_says (inst_fact (record { known = c.args.known.now }) c.args.self.now.a.facts) (inst_at (blocks_of c.args.f.now) c.args.at c.args.k) c.in-Fact.said c.in-Fact.ensures.said)
    (c.in_ok-raise-in-Fact.ensures (blocks_of c.args.f.now) c.requires.plan (sym (facts_long (blocks_of c.args.f.now) c.args.self.now.a c.requires.looking.solving.fits))) in
    record { solving = done.0; left = done.1 }
