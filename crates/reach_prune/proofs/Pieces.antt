-- The pieces of needed rows, and those of any set of demands, can be written.
use Rattle.std.proofs.Common.{◌≡◌, ◌∙◌, ℕ, suc, ◌+◌, ◌≤◌, Bool, true, false, List, [], ◌∷◌, Option, None, Some, IsSome, All, length, map, get_or, refl, sym, ap, subst, arith}
use Rattle.std.specs.Prelude.{option_map}
use Rattle.std.specs.List.{AllZip, filter_map, cons_option}
use Rattle.std.specs.Option.{IfSome}
use Rattle.std.proofs.lemmas.List.{length-map}
use Rattle.std.proofs.lemmas.List.Elements.{All-nil, All-cons, All-head, All-tail, All-weaker}
use Rattle.std.proofs.lemmas.List.Sorted.{All-permutation}
use Rattle.ir_types.specs.declared.scalar.Known.{Known}
use Rattle.ir_syntax.specs.declared.symbol.Sym.{Sym}
use Rattle.ir_syntax.specs.declared.body.Body.{Body}
use Rattle.ir_syntax.specs.declared.item.Var.{Var}
use Rattle.ir_syntax.specs.declared.item.Func.{Func}
use Rattle.ir_syntax.specs.declared.item.Param.{Param}
use Rattle.ir_syntax.specs.declared.item.Item.{Item}
use Rattle.ir_syntax.specs.declared.item.Item.TheVariants as item
use Rattle.ir_syntax.specs.Programs.{ProgramData, IsProgram}
use Rattle.ir_syntax.specs.Symbols.{item_at, IsKnownOf, IsFunctionFor}
use Rattle.fold_facts.specs.Assigned.{Assigned}
use Rattle.demands.specs.declared.demand.Demand.{Demand}
use Rattle.demands.specs.declared.demand.Demand.TheVariants.{Func as function, Var as variable}
use Rattle.demands.specs.Demands.{IsDemand, IsDefinition}
use Rattle.demands.specs.Order.{symbol_of, pattern_of, number_of}
use Rattle.demands.specs.Reading.{read_row}
use Rattle.demands.specs.Rows.{words_of, IsShortSymbol}
use Rattle.demands.proofs.DemandReading.{row-sound, one-demand}
use Rattle.interface.proofs.Listed.{IsIn, is_in, sound_in, few_params}
use Rattle.specialise.specs.declared.piece.Piece.{Piece}
use Rattle.specialise.specs.Pieces.{IsPieceBy, IsPieceAt, IsResidual, IsExpansion, IsExpansionAt, IsExpansionBy, IsRowExpansion, HasLeastPiece}
use Rattle.specialise.specs.Residual.{residual}
use Rattle.specialise.proofs.Bodies.{residual_few}
use Rattle.winnowed_form.specs.declared.member.Member.{Member}
use Rattle.winnowed_form.specs.Basis.{Basis}
use Rattle.winnowed_form.specs.Conditions.{AreNeededPieces, AreDemandPieces, IsDemandPiece, IsPieceOf, IsLeft}
use Rattle.winnowed_form.specs.Members.{AreMembers, member_of}
use Rattle.winnowed_form.specs.Names.{item_uses, body_uses, uses}
use Rattle.reach_prune.specs.Mirrors.Members.{HasFewIn, HasFewBody, HasBodyBy, IsThere, IsWritable, IsSoundPair}
use Rattle.reach_prune.proofs.There.{formed_item, body_there, var_there}
use Rattle.reach_prune.proofs.Within.{residual_within}

-- ---- members

-- a function with a residual body
function_writable : (b : Basis) (symbol : Sym) (pattern : List Known) (func : Func) (a : Assigned) (body : Option Body) → IsProgram b.program → IsDemand b.program.modules (function symbol pattern) → item_at b.program.modules symbol ≡ Some (item.Func func)
    → body ≡ Some (residual pattern func a) → IsWritable b symbol.module (record { demand = function symbol pattern; body = body })
function_writable b symbol pattern func a body program demand stands is =
    let within = is_in b.program.modules symbol (item.Func func) stands in
    let few = residual_few pattern func a (sound_in b.program symbol func program stands) in
    record {
      demand = demand;
      few = subst (λ o. IfSome o (λ x. All HasFewIn x.blocks)) (sym is) few;
      has_body = subst IsSome (sym is) refl;
      there = subst (λ o. All (IsThere b symbol.module) (body_uses b symbol.module o)) (sym is)
          (body_there b symbol (item.Func func) (residual pattern func a) within program (residual_within within.home.items pattern func a (formed_item b.program symbol (item.Func func) program within)) few);
    }

-- a variable
variable_writable : (b : Basis) (symbol : Sym) (var : Var) (body : Option Body) → IsProgram b.program → IsDemand b.program.modules (variable symbol) → item_at b.program.modules symbol ≡ Some (item.Var var) → body ≡ None
    → IsWritable b symbol.module (record { demand = variable symbol; body = body })
variable_writable b symbol var body program demand stands is = record {
  demand = demand;
  few = subst (λ o. IfSome o (λ x. All HasFewIn x.blocks)) (sym is) tt;
  has_body = tt;
  there = subst (λ o. All (IsThere b symbol.module) (item_uses o)) (sym stands) (var_there b symbol var (is_in b.program.modules symbol (item.Var var) stands) program);
}

-- ---- what demands expand into

expansion_writable : (b : Basis) (cycles : List (List Bool)) (d : Demand) (piece : Piece) (o : Option Item) → IsProgram b.program → IsDemand b.program.modules d → item_at b.program.modules (symbol_of d) ≡ o → IsExpansionAt b.program cycles d o piece
    → IsWritable b (symbol_of d).module (record { demand = d; body = piece.body })
expansion_writable b cycles (variable symbol) piece None program demand stands is = absurd is
expansion_writable b cycles (function symbol pattern) piece None program demand stands is = absurd is
expansion_writable b cycles (variable symbol) piece (Some (item.Var var)) program demand stands is = variable_writable b symbol var piece.body program demand stands is.body
expansion_writable b cycles (variable symbol) piece (Some (item.Func func)) program demand stands is = absurd is
expansion_writable b cycles (function symbol pattern) piece (Some (item.Var var)) program demand stands is = absurd is
expansion_writable b cycles (function symbol pattern) piece (Some (item.Func func)) program demand stands is = function_writable b symbol pattern func is.facts piece.body program demand stands is.is.body

residual_writable : (b : Basis) (cycles : List (List Bool)) (symbol : Sym) (pattern : List Known) (a : Assigned) (piece : Piece) (o : Option Item) → IsProgram b.program → IsDemand b.program.modules (function symbol pattern) → item_at b.program.modules symbol ≡ o
    → IsPieceAt b.program cycles symbol.module pattern a o piece → IsWritable b symbol.module (record { demand = function symbol pattern; body = piece.body })
residual_writable b cycles symbol pattern a piece None program demand stands is = absurd is
residual_writable b cycles symbol pattern a piece (Some (item.Var var)) program demand stands is = absurd is
residual_writable b cycles symbol pattern a piece (Some (item.Func func)) program demand stands is = function_writable b symbol pattern func a piece.body program demand stands is.body

piece_writable : (b : Basis) (cycles : List (List Bool)) (d : Demand) (piece : Piece) → IsProgram b.program → IsDemand b.program.modules d → IsPieceOf b.program cycles d piece → IsWritable b (symbol_of d).module (record { demand = d; body = piece.body })
piece_writable b cycles (variable symbol) piece program demand is = expansion_writable b cycles (variable symbol) piece (item_at b.program.modules symbol) program demand refl is
piece_writable b cycles (function symbol pattern) piece program demand is = residual_writable b cycles symbol pattern is.assigned piece (item_at b.program.modules symbol) program demand refl is.is

-- ---- pairs

-- a needed row with its expansion
row_writable : (b : Basis) (cycles : List (List Bool)) (row : List ℕ) (d : Demand) (piece : Piece) → IsProgram b.program → read_row b.program.modules row ≡ Some d → IsRowExpansion b.program cycles row piece
    → IsWritable b (symbol_of d).module (record { demand = d; body = piece.body })
row_writable b cycles row d piece program read is =
    expansion_writable b cycles d piece (item_at b.program.modules (symbol_of d)) program (row-sound b.program.modules row d read).0 refl (subst (λ o. IsExpansionBy b.program cycles o piece) read is)

pub needed_sound : (p : ProgramData) (pieces : List (List ℕ × Piece)) → AreNeededPieces p pieces → All (IsSoundPair p) pieces
needed_sound p pieces are =
    All-weaker (λ (pair : List ℕ × Piece). IsRowExpansion p are.cycles pair.0 pair.1) (IsSoundPair p) (λ pair is. record {
      writable = λ b d program same read.
          row_writable b are.cycles pair.0 d pair.1 (subst IsProgram (sym same) program) (subst (λ q. read_row q.modules pair.0 ≡ Some d) (sym same) read) (subst (λ q. IsRowExpansion q are.cycles pair.0 pair.1) (sym same) is);
    }) pieces are.expanded

-- a demand has at most 34 words
zip_long : (params : List Param) (known : List Known) → AllZip IsKnownOf params known → length known ≡ length params
zip_long [] [] all = refl
zip_long [] (k ∷ ks) all = absurd all
zip_long (x ∷ xs) [] all = absurd all
zip_long (x ∷ xs) (k ∷ ks) all = ap suc (zip_long xs ks all.1)

row_short : (p : ProgramData) (d : Demand) → IsProgram p → IsDemand p.modules d → length (words_of d) ≤ 34
row_short p (variable symbol) program demand = omega arith
row_short p (function symbol pattern) program demand = by (item_at p.modules symbol) refl demand.defined
  where
    by : (o : Option Item) → item_at p.modules symbol ≡ o → IsFunctionFor pattern o → length (words_of (function symbol pattern)) ≤ 34
    by None stands is = absurd is
    by (Some (item.Var var)) stands is = absurd is
    by (Some (item.Func func)) stands is = omega (arith, zip_long func.params pattern is.1, few_params p symbol func program stands, length-map pattern number_of)

-- a demand's row with a piece of the demand
demand_writable : (b : Basis) (cycles : List (List Bool)) (row : List ℕ) (d : Demand) (piece : Piece) → IsProgram b.program → read_row b.program.modules row ≡ Some d → IsDemandPiece b.program cycles row piece
    → IsWritable b (symbol_of d).module (record { demand = d; body = piece.body })
demand_writable b cycles row d piece program read is =
    let sound = row-sound b.program.modules row d read in
    let same : is.demand ≡ d = one-demand b.program.modules row is.demand d (subst (λ l. length l ≤ 34) is.has_row (row_short b.program is.demand program is.is_demand)) is.is_demand sound.0 is.has_row sound.1 in
    piece_writable b cycles d piece program sound.0 (subst (λ e. IsPieceOf b.program cycles e piece) same is.is)

pub demands_sound : (p : ProgramData) (pieces : List (List ℕ × Piece)) → AreDemandPieces p pieces → All (IsSoundPair p) pieces
demands_sound p pieces are =
    All-weaker (λ (pair : List ℕ × Piece). IsDemandPiece p are.cycles pair.0 pair.1) (IsSoundPair p) (λ pair is. record {
      writable = λ b d program same read.
          demand_writable b are.cycles pair.0 d pair.1 (subst IsProgram (sym same) program) (subst (λ q. read_row q.modules pair.0 ≡ Some d) (sym same) read) (subst (λ q. IsDemandPiece q are.cycles pair.0 pair.1) (sym same) is);
    }) pieces are.demands

-- ---- members of pieces

-- what each member has whose row is read
members_have : (p : ProgramData) (P : Member → Type 0) (pieces : List (List ℕ × Piece)) → All (λ pair. (d : Demand) → read_row p.modules pair.0 ≡ Some d → P (record { demand = d; body = pair.1.body })) pieces
    → All P (filter_map (member_of p) pieces)
members_have p P [] all = All-nil P
members_have p P (pair ∷ more) all =
    by (read_row p.modules pair.0) (All-head Each pair more all) (members_have p P more (All-tail Each pair more all))
  where
    Each : List ℕ × Piece → Type 0
    Each one = (d : Demand) → read_row p.modules one.0 ≡ Some d → P (record { demand = d; body = one.1.body })

    by : (o : Option Demand) → ((d : Demand) → o ≡ Some d → P (record { demand = d; body = pair.1.body })) → All P (filter_map (member_of p) more)
        → All P (cons_option (option_map (λ d. record { demand = d; body = pair.1.body }) o) (filter_map (member_of p) more))
    by None here rest = rest
    by (Some d) here rest = All-cons P (record { demand = d; body = pair.1.body }) (filter_map (member_of p) more) (here d refl) rest

pub members_short : (p : ProgramData) (pieces : List (List ℕ × Piece)) (members : List Member) → AreMembers p pieces members → All (λ member. IsShortSymbol (symbol_of member.demand)) members
members_short p pieces members are =
    All-permutation (λ (member : Member). IsShortSymbol (symbol_of member.demand)) (filter_map (member_of p) pieces) members are.are
    (members_have p (λ member. IsShortSymbol (symbol_of member.demand)) pieces (all pieces))
  where
    all : (pairs : List (List ℕ × Piece)) → All (λ (pair : List ℕ × Piece). (d : Demand) → read_row p.modules pair.0 ≡ Some d → IsShortSymbol (symbol_of d)) pairs
    all pairs k e within d read = (row-sound p.modules (get_or pairs k e).0 d read).0.short

pub members_writable : (b : Basis) (p : ProgramData) (pieces : List (List ℕ × Piece)) (members : List Member) → b.program ≡ p → IsProgram p → All (IsSoundPair p) pieces → AreMembers p pieces members
    → All (λ member. IsWritable b (symbol_of member.demand).module member) members
members_writable b p pieces members same program sound are =
    All-permutation (λ (member : Member). IsWritable b (symbol_of member.demand).module member) (filter_map (member_of p) pieces) members are.are
    (members_have p (λ member. IsWritable b (symbol_of member.demand).module member) pieces
    (All-weaker (IsSoundPair p) (λ (pair : List ℕ × Piece). (d : Demand) → read_row p.modules pair.0 ≡ Some d → IsWritable b (symbol_of d).module (record { demand = d; body = pair.1.body })) (λ pair is d read. is.writable b d program same read) pieces sound))
