use Rattle.std.proofs.Common.{◌≡◌, ◌∙◌, ◌<◌, ap, sym, subst, length}
use Rattle.std.specs.Prelude.{slice_get, IfSome, option_map, is_some}
use Rattle.ir_syntax.specs.Edges.{successors}
use Rattle.fold_facts.specs.declared.said.Said.TheVariants as said
use Rattle.fold_facts.specs.Terminators.{term_edges}
use Rattle.fold_facts.specs.Places.{blocks_of}
use Rattle.fold_facts.proofs.Lists.{within}
use Rattle.ir_types.proofs.ListSteps.{All-at}
use Rattle.fold_sparse.specs.Solving.{HasTargets, ReachesAll, Opens}
use Rattle.fold_sparse.specs.Looking.{IsLooked}
use Rattle.fold_sparse.proofs.Raising.{term_there, edges_say}
use Rattle.fold_sparse.proofs.Visiting.{term_done}
use Rattle.fold_sparse.proofs.search.Search.look_at_term.Goals as goal

pub transfer-requires : goal.transfer-requires
transfer-requires g c = let block = term_there (blocks_of c.args.f.now) c.args.l c.args.at c.requires.looking.there in ap is_some block.1

pub term_of-term-requires : goal.term_of-term-requires
term_of-term-requires g c =
    let block = term_there (blocks_of c.args.f.now) c.args.l c.args.at c.requires.looking.there in
    subst (λ bs. c.args.at < length bs) (sym c.blocks_of-blocks.ensures) (within (blocks_of c.args.f.now) c.args.at block.0 block.1)

pub reach_edges-requires-clause-at : goal.reach_edges-requires-clause-at
reach_edges-requires-clause-at g c =
    let block = term_there (blocks_of c.args.f.now) c.args.l c.args.at c.requires.looking.there in
    subst (λ bs. c.args.at < length bs) (sym c.blocks_of-blocks.ensures) (within (blocks_of c.args.f.now) c.args.at block.0 block.1)

pub reach_edges-requires-clause-targets : goal.reach_edges-requires-clause-targets
reach_edges-requires-clause-targets g c =
    let block = term_there (blocks_of c.args.f.now) c.args.l c.args.at c.requires.looking.there in
    let term : block.0.term ≡ c.term_of-term.result.now = subst (λ o. IfSome o (λ b. b.term ≡ c.term_of-term.result.now)) (ap (λ bs. slice_get bs c.args.at) c.blocks_of-blocks.ensures ∙ block.1) c.term_of-term.ensures in
    subst (λ bs. HasTargets bs c.term_of-term.result.now) (sym c.blocks_of-blocks.ensures) (subst (HasTargets (blocks_of c.args.f.now)) term
    (All-at (λ b. HasTargets (blocks_of c.args.f.now) b.term) (blocks_of c.args.f.now) c.args.at block.0 c.requires.sound.targets block.1))

pub returns-clause-looked : goal.returns-clause-looked
returns-clause-looked g c =
    let bs = blocks_of c.args.f.now in
    let block = term_there bs c.args.l c.args.at c.requires.looking.there in
    let term : block.0.term ≡ c.term_of-term.result.now = subst (λ o. IfSome o (λ b. b.term ≡ c.term_of-term.result.now)) (ap (λ l. slice_get l c.args.at) c.blocks_of-blocks.ensures ∙ block.1) c.term_of-term.ensures in
    let reaches = subst (λ t. ReachesAll bs c.args.self.now.a c.reach_edges.new.self.a c.args.self.now.standing c.reach_edges.new.self.standing c.args.self.now.queue c.reach_edges.new.self.queue c.args.at (successors t) c.in-Edges.asked (length (successors t))) (sym term)
    (subst (λ l. ReachesAll l c.args.self.now.a c.reach_edges.new.self.a c.args.self.now.standing c.reach_edges.new.self.standing c.args.self.now.queue c.reach_edges.new.self.queue c.args.at (successors c.term_of-term.result.now) c.in-Edges.asked (length (successors c.term_of-term.result.now))) c.blocks_of-blocks.ensures
    c.in_ok-reach_edges-in-Edges.ensures) in
    let opens = subst (λ l. Opens l c.reach_edges.new.self.a c.reach_edges.new.self.standing c.open_all.new.self.standing c.reach_edges.new.self.queue c.open_all.new.self.queue c.group.result.now) c.blocks_of-blocks.ensures c.in_ok-open_all-in-Edges.ensures.opens in
    subst (λ a. IsLooked (record { known = c.args.known.now }) bs c.args.self.now.a a c.args.self.now.standing c.open_all.new.self.standing c.args.self.now.queue c.open_all.new.self.queue) (sym c.in_ok-open_all-in-Edges.ensures.a)
    (term_done (record { known = c.args.known.now }) bs c.args.self.now.a c.reach_edges.new.self.a c.args.self.now.standing c.reach_edges.new.self.standing c.open_all.new.self.standing
    c.args.self.now.queue c.reach_edges.new.self.queue c.open_all.new.self.queue c.group.result.now c.args.l c.args.at block.0 c.in-Edges.asked c.requires.looking block.1
    (edges_say (λ b. term_edges (record { known = c.args.known.now }) c.args.self.now.a.facts b.term) block.0 c.in-Edges.asked (c.in-Edges.ensures.said ∙ ap (option_map (λ b. said.Edges (term_edges (record { known = c.args.known.now }) c.args.self.now.a.facts b.term))) block.1))
    reaches (c.group.ensures ∙ c.requires.plan.sources c.args.at (within bs c.args.at block.0 block.1)) opens)
