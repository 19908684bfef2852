-- What a demand expands into needs what its row needs, and has its size.
use Rattle.std.proofs.Common.{◌≡◌, ◌∙◌, ℕ, Bool, List, [], ◌∷◌, Option, None, Some, map, refl, sym, ap, subst}
use Rattle.std.specs.List.{AllZip}
use Rattle.ir_types.specs.declared.scalar.Known.{Known}
use Rattle.ir_types.specs.declared.scalar.Known.TheVariants.{Unknown, Num, Null}
use Rattle.ir_syntax.specs.declared.symbol.Sym.{Sym}
use Rattle.ir_syntax.specs.declared.item.Func.{Func}
use Rattle.ir_syntax.specs.declared.item.Item.{Item}
use Rattle.ir_syntax.specs.declared.item.Item.TheVariants as item
use Rattle.ir_syntax.specs.declared.item.Param.{Param}
use Rattle.ir_syntax.specs.Results.{count}
use Rattle.ir_syntax.specs.Symbols.{item_at, IsKnownOf, IsFunctionFor}
use Rattle.ir_syntax.specs.Programs.{ProgramData, IsProgram}
use Rattle.ir_syntax.specs.SoundFunctions.{IsSoundFunction}
use Rattle.fold_facts.specs.OfFunction.{AreKnownOf, IsFactOf}
use Rattle.fold_facts.specs.Operands.{known_fact}
use Rattle.fold_facts.specs.Places.{blocks_of}
use Rattle.demands.specs.declared.demand.Demand.{Demand}
use Rattle.demands.specs.declared.demand.Demand.TheVariants.{Func as function, Var as variable}
use Rattle.demands.specs.Demands.{IsDemand, IsDefinition}
use Rattle.demands.specs.Order.{symbol_of}
use Rattle.demands.specs.Reading.{read_row}
use Rattle.demands.specs.Rows.{words_of}
use Rattle.interface.proofs.Listed.{sound_in}
use Rattle.specialise.specs.declared.piece.Piece.{Piece}
use Rattle.specialise.specs.Residual.{residual}
use Rattle.specialise.specs.Needs.{body_asks, init_asks, AreRowsOf}
use Rattle.specialise.specs.Pieces.{HasLeastPiece, IsExpansion, IsExpansionAt, IsExpansionBy, IsNothing}
use Rattle.specialise.specs.Mirrors.Expander.{Expands}
use Rattle.specialise.specs.Mirrors.Expanding.{needs_at, needs_by, size_at, size_by}
use Rattle.specialise.specs.Mirrors.Ordered.{ordered}
use Rattle.specialise.specs.Mirrors.Solving.{least_of}
use Rattle.specialise.proofs.Ordered.{ordered_is, order_is_one}
use Rattle.specialise.proofs.Solving.{least_is}
use Rattle.specialise.proofs.Unique.{least_is_one}

-- the piece's assignment is the one that the row has
the_least : (p : ProgramData) (cycles : List (List Bool)) (home : ℕ) (known : List Known) (func : Func) (piece : Piece) → AreKnownOf func known → IsSoundFunction func → (h : HasLeastPiece p cycles home known func piece)
    → h.facts ≡ least_of (record { known = known }) (blocks_of func)
the_least p cycles home known func piece are sound h = least_is_one func known h.facts (least_of (record { known = known }) (blocks_of func)) (record { of = h.of; least = h.least }) (least_is func known are sound)

pub function_needs : (p : ProgramData) (cycles : List (List Bool)) (home : ℕ) (known : List Known) (func : Func) (piece : Piece) → AreKnownOf func known → IsSoundFunction func → HasLeastPiece p cycles home known func piece
    → piece.calls ≡ ordered (map words_of (body_asks p cycles home (residual known func (least_of (record { known = known }) (blocks_of func))).blocks))
function_needs p cycles home known func piece are sound h =
    let at : AreRowsOf (body_asks p cycles home (residual known func (least_of (record { known = known }) (blocks_of func))).blocks) piece.calls =
    subst (λ a. AreRowsOf (body_asks p cycles home (residual known func a).blocks) piece.calls) (the_least p cycles home known func piece are sound h) h.is.calls in
    order_is_one (map words_of (body_asks p cycles home (residual known func (least_of (record { known = known }) (blocks_of func))).blocks)) piece.calls
    (ordered (map words_of (body_asks p cycles home (residual known func (least_of (record { known = known }) (blocks_of func))).blocks))) at
    (ordered_is (map words_of (body_asks p cycles home (residual known func (least_of (record { known = known }) (blocks_of func))).blocks)))

pub function_size : (p : ProgramData) (cycles : List (List Bool)) (home : ℕ) (known : List Known) (func : Func) (piece : Piece) → AreKnownOf func known → IsSoundFunction func → HasLeastPiece p cycles home known func piece
    → piece.size ≡ count (residual known func (least_of (record { known = known }) (blocks_of func)))
function_size p cycles home known func piece are sound h = h.is.size ∙ ap (λ a. count (residual known func a)) (the_least p cycles home known func piece are sound h)

-- ---- demands

-- what may be known of the parameters, as folding has it
pub known_fits : (params : List Param) (known : List Known) → AllZip IsKnownOf params known → AllZip (λ param item. IsFactOf param.ty (known_fact item)) params known
known_fits [] [] all = all
known_fits [] (k ∷ ks) all = absurd all
known_fits (x ∷ xs) [] all = absurd all
known_fits (x ∷ xs) (k ∷ ks) all = (by k all.0, known_fits xs ks all.1)
  where
    by : (item : Known) → IsKnownOf x item → IsFactOf x.ty (known_fact item)
    by Unknown is = is
    by (Num n) is = is
    by Null is = is

-- what a demand of a function has in its pattern is known of the function's parameters
pub known_of_demand : (p : ProgramData) (d : Demand) (symbol : Sym) (pattern known : List Known) (func : Func) → IsDemand p.modules d → d ≡ function symbol pattern → item_at p.modules symbol ≡ Some (item.Func func) → known ≡ pattern
    → AreKnownOf func known
known_of_demand p d symbol pattern known func demand is stands same =
    let found : IsDefinition (function symbol pattern) (item_at p.modules symbol) = subst (λ e. IsDefinition e (item_at p.modules (symbol_of e))) is demand.defined in
    let suits : IsFunctionFor pattern (Some (item.Func func)) = subst (IsFunctionFor pattern) stands found in
    subst (AreKnownOf func) (sym same) (known_fits func.params pattern suits.1)

demand_needs : (p : ProgramData) (cycles : List (List Bool)) (d : Demand) (o : Option Item) (piece : Piece) → IsProgram p → item_at p.modules (symbol_of d) ≡ o → IsDefinition d o → IsExpansionAt p cycles d o piece
    → (piece.calls ≡ needs_at p cycles d o) × (piece.size ≡ size_at d o)
demand_needs p cycles (variable symbol) None piece is stands defined h = absurd h
demand_needs p cycles (function symbol pattern) None piece is stands defined h = absurd h
demand_needs p cycles (variable symbol) (Some (item.Var var)) piece is stands defined h =
    let rows : List (List ℕ) = map words_of (init_asks p symbol.module var.init) in
    (order_is_one rows piece.calls (ordered rows) h.calls (ordered_is rows), h.size)
demand_needs p cycles (variable symbol) (Some (item.Func func)) piece is stands defined h = absurd h
demand_needs p cycles (function symbol pattern) (Some (item.Var var)) piece is stands defined h = absurd h
demand_needs p cycles (function symbol pattern) (Some (item.Func func)) piece is stands defined h =
    let are : AreKnownOf func pattern = known_fits func.params pattern defined.1 in
    let sound : IsSoundFunction func = sound_in p symbol func is stands in
    (function_needs p cycles symbol.module pattern func piece are sound h, function_size p cycles symbol.module pattern func piece are sound h)

-- A demand's row expands into what the demand does,
pub row_expands : (p : ProgramData) (cycles : List (List Bool)) (row : List ℕ) (d : Demand) (piece : Piece) → IsProgram p → read_row p.modules row ≡ Some d → IsDemand p.modules d → IsExpansion p cycles d piece → Expands p cycles row piece
row_expands p cycles row d piece is read demand h =
    let both = demand_needs p cycles d (item_at p.modules (symbol_of d)) piece is refl demand.defined h in
    record {
      is = subst (λ o. IsExpansionBy p cycles o piece) (sym read) h;
      needs = both.0 ∙ sym (ap (needs_by p cycles) read);
      size = both.1 ∙ sym (ap (size_by p) read);
    }

-- and every other row into nothing.
pub nothing_expands : (p : ProgramData) (cycles : List (List Bool)) (row : List ℕ) (piece : Piece) → read_row p.modules row ≡ None → IsNothing piece → Expands p cycles row piece
nothing_expands p cycles row piece none h = record {
  is = subst (λ o. IsExpansionBy p cycles o piece) (sym none) h;
  needs = h.calls ∙ sym (ap (needs_by p cycles) none);
  size = h.size ∙ sym (ap (size_by p) none);
}
