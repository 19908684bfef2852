use Rattle.fold_facts.proofs.Raised.{raises_three}
use Rattle.fold_facts.proofs.Visits.{visit_goes}
use Rattle.fold_facts.proofs.raising.raise_block.Goals as goal

pub raise_insts-insts-requires : goal.raise_insts-insts-requires
raise_insts-insts-requires c =
    visit_goes (record { known = c.args.known.now }) c.args.blocks.now c.args.a.now c.raise_phis-phis.new.a c.args.place c.args.first c.args.block.now c.raise_phis-phis.result c.requires c.raise_phis-phis.ensures.raises

pub reach_edges-edges-requires : goal.reach_edges-edges-requires
reach_edges-edges-requires c =
    visit_goes (record { known = c.args.known.now }) c.args.blocks.now c.raise_phis-phis.new.a c.raise_insts-insts.new.a c.args.place c.args.first c.args.block.now c.raise_insts-insts.result
    (visit_goes (record { known = c.args.known.now }) c.args.blocks.now c.args.a.now c.raise_phis-phis.new.a c.args.place c.args.first c.args.block.now c.raise_phis-phis.result c.requires c.raise_phis-phis.ensures.raises)
    c.raise_insts-insts.ensures.raises

pub returns-clause-raises : goal.returns-clause-raises
returns-clause-raises c =
    raises_three (record { known = c.args.known.now }) c.args.blocks.now c.args.a.now c.raise_phis-phis.new.a c.raise_insts-insts.new.a c.reach_edges-edges.new.a c.raise_phis-phis.result c.raise_insts-insts.result c.reach_edges-edges.result
    c.either-results.result c.either.result c.either-results.ensures c.either.ensures c.raise_phis-phis.ensures.raises c.raise_insts-insts.ensures.raises c.reach_edges-edges.ensures.raises
