-- The pieces of a program's rows.
use Rattle.std.proofs.Common.{◌≡◌, ℕ, List, [], Option, None, Some, IfOk, Result, ap, sym, subst, ◌∙◌}
use Rattle.std.proofs.lemmas.Result.{IfOk-weaker}
use Rattle.ir_types.specs.declared.scalar.Known.{Known}
use Rattle.ir_syntax.specs.declared.symbol.Sym.{Sym}
use Rattle.ir_syntax.specs.declared.item.Item.{Item}
use Rattle.ir_syntax.specs.declared.item.Module.{Module}
use Rattle.ir_syntax.specs.Straight.{IsStraight}
use Rattle.demands.specs.declared.demand.Demand.{Demand}
use Rattle.demands.specs.declared.demand.Demand.TheVariants.{Func}
use Rattle.demands.specs.declared.reading.RowFault.{RowFault}
use Rattle.demands.specs.declared.reading.RowFault.TheVariants.{NoDemand}
use Rattle.demands.specs.Faults.{IsNoneOrNoMemory}
use Rattle.demands.specs.Reading.{read_row}
use Rattle.straight_plan.specs.Asked.{program_items}
use Rattle.straight_fold.specs.declared.piece.Piece.{Piece}
use Rattle.straight_fold.specs.Items.{AreStraightItems}
use Rattle.straight_fold.specs.Expansion.{IsPieceAt, IsPieceOf}

pub straight-items : (m : Module) → IsStraight m → AreStraightItems m.items
straight-items m s = record { each = s.each; few = s.few }

pub piece-found : (modules : List Module) (items : List Item) (row : List ℕ) (symbol : Sym) (pattern : List Known) (d : Demand) {E : Type 0} (r : Result Piece E)
    → read_row modules row ≡ Some d → d ≡ Func symbol pattern → items ≡ program_items modules
    → IfOk r (IsPieceAt items (Some (Func symbol pattern))) → IfOk r (IsPieceOf modules row)
piece-found modules items row symbol pattern d r found is same =
    let read : read_row modules row ≡ Some (Func symbol pattern) = found ∙ ap Some is in
    IfOk-weaker r (IsPieceAt items (Some (Func symbol pattern))) (IsPieceOf modules row)
    (λ piece at. subst (λ (o : Option Demand). IsPieceAt (program_items modules) o piece) (sym read) (subst (λ (is : List Item). IsPieceAt is (Some (Func symbol pattern)) piece) same at))

pub piece-missed : (modules : List Module) (row : List ℕ) (fault : RowFault) (piece : Piece) → fault ≡ NoDemand → IsNoneOrNoMemory (read_row modules row) fault
    → piece.found ≡ None → piece.needs ≡ [] → piece.size ≡ 0 → IsPieceOf modules row piece
piece-missed modules row fault piece is missed found needs size =
    let read : read_row modules row ≡ None = subst (IsNoneOrNoMemory (read_row modules row)) is missed in
    subst (λ (o : Option Demand). IsPieceAt (program_items modules) o piece) (sym read) (record { found = found; needs = needs; size = size })
