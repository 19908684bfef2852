use Rattle.std.proofs.lemmas.Result.{IfOk-weaker}
use Rattle.specialise.specs.Pieces.{IsPieceBy, HasLeastPiece}
use Rattle.specialise.proofs.expansion.expand_function.Goals as goal

pub returns : goal.returns
returns c =
    IfOk-weaker c.piece_by.result (IsPieceBy c.args.p.now c.args.cycles.now c.args.home c.args.known.now c.args.func.now c.in_ok-a.a) (HasLeastPiece c.args.p.now c.args.cycles.now c.args.home c.args.known.now c.args.func.now)
    (λ piece is. record { facts = c.in_ok-a.a; of = c.in_ok-a.ensures.of; least = c.in_ok-a.ensures.least; is = is }) c.piece_by.ensures
