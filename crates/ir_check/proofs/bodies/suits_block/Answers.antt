use Rattle.std.proofs.Common.{refl}
use Rattle.ir_check.specs.Scopes.{types_of}
use Rattle.ir_check.proofs.Suiting.{block_without_phis, block_with_insts}
use Rattle.ir_check.proofs.bodies.suits_block.Goals as goal

pub returns-then-not-suit_phis-clause-suits : goal.returns-then-not-suit_phis-clause-suits
returns-then-not-suit_phis-clause-suits c =
    block_without_phis (types_of c.args.scope.now) c.args.returns c.args.from.now c.args.block.now c.as_slice.result.now c.as_slice.ensures c.if-not-suit_phis.ensures.suit

pub returns-then-typed-clause-suits : goal.returns-then-typed-clause-suits
returns-then-typed-clause-suits c =
    block_with_insts (types_of c.args.scope.now) c.args.returns c.args.from.now c.args.block.now c.as_slice.result.now c.as_slice-then-typed.result.now c.are_typed_insts.result c.as_slice.ensures c.as_slice-then-typed.ensures (c.if-not-suit_phis.ensures.suit.0 refl) (c.in_ok-typed.ensures.0 c.if-typed.true) c.are_typed_insts.ensures
