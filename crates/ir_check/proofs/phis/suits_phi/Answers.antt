use Rattle.std.proofs.Common.{ℕ, ◌<◌, length, subst, sym, refl}
use Rattle.std.specs.Prelude.{All}
use Rattle.ir_check.specs.Scopes.{types_of}
use Rattle.ir_check.proofs.Counting.{entries_there}
use Rattle.ir_check.proofs.Suiting.{phi_without_edges, phi_without_agreement, phi_with_types}
use Rattle.ir_check.proofs.phis.suits_phi.Goals as goal

pub returns-then-not-has_edges-clause-suits : goal.returns-then-not-has_edges-clause-suits
returns-then-not-has_edges-clause-suits c = phi_without_edges (types_of c.args.scope.now) c.args.blocks.now c.args.phi.now c.as_slice-entries.result.now c.as_slice-entries.ensures c.if-not-has_edges.ensures.edges

pub agree-requires : goal.agree-requires
agree-requires c =
    entries_there c.args.blocks.now c.as_slice-entries.result.now (length c.args.firsts.now) (c.if-not-has_edges.ensures.edges.0 refl)
    (subst (λ (n : ℕ). All (λ block. block < n) c.args.blocks.now) (sym c.requires.as_many) c.requires.there)

pub returns-then-agree-clause-suits : goal.returns-then-agree-clause-suits
returns-then-agree-clause-suits c = phi_with_types (types_of c.args.scope.now) c.args.blocks.now c.args.phi.now c.as_slice-entries.result.now c.have_type.result c.as_slice-entries.ensures (c.if-not-has_edges.ensures.edges.0 refl) (c.if-agree.ensures.0 refl) c.have_type.ensures

pub returns-else-agree-clause-suits : goal.returns-else-agree-clause-suits
returns-else-agree-clause-suits c = phi_without_agreement (types_of c.args.scope.now) c.args.blocks.now c.args.phi.now c.as_slice-entries.result.now c.agree.result c.if-agree.false c.as_slice-entries.ensures c.agree.ensures
