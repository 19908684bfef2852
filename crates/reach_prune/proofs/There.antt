-- What members name is there.
use Rattle.std.proofs.Common.{◌≡◌, ◌∙◌, ℕ, zero, suc, ◌≤◌, ◌<◌, Bool, true, false, List, [], ◌∷◌, ◌++◌, Option, None, Some, IsSome, All, length, map, refl, sym, ap, subst, arith}
use Rattle.std.specs.Prelude.{slice_get, flat_map, option_map, option_and_then, if◌then◌else◌}
use Rattle.std.specs.List.{filter_map, cons_option}
use Rattle.std.specs.Option.{IfSome}
use Rattle.std.proofs.lemmas.Bool.{false≢true}
use Rattle.std.proofs.lemmas.List.{length-map}
use Rattle.std.proofs.lemmas.List.Elements.{All-nil, All-cons, All-head, All-tail, All-append, All-map, All-weaker}
use Rattle.ir_types.specs.declared.scalar.Known.{Known}
use Rattle.ir_types.specs.declared.scalar.Known.TheVariants.{Unknown}
use Rattle.ir_types.proofs.ListSteps.{All-at}
use Rattle.ir_syntax.specs.declared.symbol.Sym.{Sym}
use Rattle.ir_syntax.specs.declared.constant.Const.{Const}
use Rattle.ir_syntax.specs.declared.constant.Operand.{Operand}
use Rattle.ir_types.specs.declared.shape.Ty.{Ty}
use Rattle.ir_syntax.specs.declared.body.Inst.{Inst}
use Rattle.ir_syntax.specs.declared.body.Block.{Block}
use Rattle.ir_syntax.specs.declared.body.Body.{Body}
use Rattle.ir_syntax.specs.declared.item.Var.{Var}
use Rattle.ir_syntax.specs.declared.item.Func.{Func}
use Rattle.ir_syntax.specs.declared.item.Item.{Item}
use Rattle.ir_syntax.specs.declared.item.Item.TheVariants as item
use Rattle.ir_syntax.specs.declared.item.Module.{Module}
use Rattle.ir_syntax.specs.Callees.{inst_callee}
use Rattle.ir_syntax.specs.FormedItem.{FormedItem, FormedVar, FormedFunc}
use Rattle.ir_syntax.specs.Named.{names, init_names}
use Rattle.ir_syntax.specs.Programs.{ProgramData, IsProgram, IsSoundModule}
use Rattle.ir_syntax.specs.Suits.{Suits, suits}
use Rattle.ir_syntax.specs.Symbols.{item_at}
use Rattle.demands.specs.declared.demand.Demand.{Demand}
use Rattle.demands.specs.declared.demand.Demand.TheVariants.{Func as function, Var as variable}
use Rattle.demands.specs.Order.{symbol_of, pattern_of}
use Rattle.demands.specs.Rows.{FitsRow, IsShortSymbol}
use Rattle.interface.specs.Asked.{is_specialised, all_unknown, pattern_for, definition_of, by_call, asked_by, called}
use Rattle.interface.specs.Names.{inst_uses, call_of, block_others, HasFewArgs}
use Rattle.interface.specs.Summaries.{known_of}
use Rattle.interface.proofs.Listed.{IsIn, is_in, short_symbol, few_params}
use Rattle.winnowed_form.specs.declared.named.Named.{Named}
use Rattle.winnowed_form.specs.declared.named.Named.TheVariants.{Own, CopyOf}
use Rattle.winnowed_form.specs.declared.member.Member.{Member}
use Rattle.winnowed_form.specs.Basis.{Basis}
use Rattle.winnowed_form.specs.Copies.{is_copy}
use Rattle.winnowed_form.specs.Names.{written_as, call_name, inst_name, block_uses, body_uses, item_uses, uses}
use Rattle.reach_prune.specs.Mirrors.Members.{HasFewIn, IsFunction, IsThere}
use Rattle.reach_prune.specs.Mirrors.Places.{HasRow}
use Rattle.reach_prune.proofs.Within.{Within, BlockWithin, InstWithin, called_within, block_within, names_within, is_true}

-- ---- names

-- A name that is there has a row.
pub there_row : (b : Basis) (home : ℕ) (named : Named) → IsThere b home named → HasRow named
there_row b home (Own k) there = tt
there_row b home (CopyOf d) there = there.0

pub there_rows : (b : Basis) (home : ℕ) (names : List Named) → All (IsThere b home) names → All HasRow names
there_rows b home = All-weaker (IsThere b home) HasRow (there_row b home)

-- the items of a module
pub record AreItems (p : ProgramData) (home : ℕ) (items : List Item) : Type 0 where
  pub home_module : Module
  pub there : slice_get p.modules home ≡ Some home_module
  pub are : home_module.items ≡ items

own_there : (b : Basis) (home : ℕ) (items : List Item) (k : ℕ) → AreItems b.program home items → k < length items → IsThere b home (Own k)
own_there b home items k are less =
    subst (λ o. IsSome (option_and_then (λ (m : Module). slice_get m.items k) o)) (sym are.there) (within are.home_module.items k (subst (λ l. k < length l) (sym are.are) less))
  where
    within : (xs : List Item) (n : ℕ) → n < length xs → IsSome (slice_get xs n)
    within [] n less = absurd (omega (arith, less))
    within (x ∷ xs) zero less = refl
    within (x ∷ xs) (suc n) less = within xs n (omega (arith, less))

-- ---- calls

few_known : (cycles : List (List Bool)) (symbol : Sym) (func : Func) (known : List Known) → length known ≤ 32 → length func.params ≤ 32 → length (pattern_for cycles symbol func known) ≤ 32
few_known cycles symbol func known few params = by (is_specialised cycles symbol func)
  where
    by : (b : Bool) → length (if b then known else all_unknown func) ≤ 32
    by true = few
    by false = omega (arith, length-map func.params (λ param. Unknown), params)

called_there : (b : Basis) (home k : ℕ) (known : List Known) → IsProgram b.program → length known ≤ 32 → IsThere b home (Own k) → IsThere b home (call_name b home (k, known))
called_there b home k known is few own = by_definition (definition_of b.program home k)
  where
    by_item : (symbol : Sym) (o : Option Item) → item_at b.program.modules symbol ≡ o → IsThere b home (written_as b k (option_map (by_call b.cycles known symbol) o))
    by_item symbol None stands = own
    by_item symbol (Some (item.Var var)) stands = own
    by_item symbol (Some (item.Func func)) stands = by_copy (is_copy b (function symbol (pattern_for b.cycles symbol func known)))
      where
        by_copy : (c : Bool) → IsThere b home (if c then CopyOf (function symbol (pattern_for b.cycles symbol func known)) else Own k)
        by_copy false = own
        by_copy true = (
          record {
            symbol = short_symbol b.program symbol (item.Func func) is stands;
            items = few_known b.cycles symbol func known few (few_params b.program symbol func is stands);
          },
          subst IsFunction (sym stands) tt,
        )

    by_definition : (o : Option Sym) → IsThere b home (written_as b k (asked_by (by_call b.cycles known) b.program o))
    by_definition None = own
    by_definition (Some symbol) = by_item symbol (item_at b.program.modules symbol) refl

inst_there : (b : Basis) (home : ℕ) (items : List Item) (i : Inst) → IsProgram b.program → AreItems b.program home items → InstWithin (length items) i → HasFewArgs i → IfSome (inst_name b home i) (IsThere b home)
inst_there b home items i is are within few = by (inst_callee i) refl
  where
    by : (o : Option ℕ) → inst_callee i ≡ o → IfSome (option_map (call_name b home) (option_map (λ place. (place, map (known_of (record { known = [] }) []) (inst_uses i))) o)) (IsThere b home)
    by None e = tt
    by (Some k) e =
        called_there b home k (map (known_of (record { known = [] }) []) (inst_uses i)) is
        (omega (arith, length-map (inst_uses i) (known_of (record { known = [] }) []), few (subst IsSome (sym e) refl)))
        (own_there b home items k are (called_within (length items) i k within e))

insts_there : (b : Basis) (home : ℕ) (items : List Item) (insts : List Inst) → IsProgram b.program → AreItems b.program home items → All (InstWithin (length items)) insts → All HasFewArgs insts
    → All (IsThere b home) (filter_map (inst_name b home) insts)
insts_there b home items [] is are within few = All-nil (IsThere b home)
insts_there b home items (i ∷ more) is are within few =
    by (inst_name b home i) (inst_there b home items i is are (All-head (InstWithin (length items)) i more within) (All-head HasFewArgs i more few))
    (insts_there b home items more is are (All-tail (InstWithin (length items)) i more within) (All-tail HasFewArgs i more few))
  where
    by : (o : Option Named) → IfSome o (IsThere b home) → All (IsThere b home) (filter_map (inst_name b home) more) → All (IsThere b home) (cons_option o (filter_map (inst_name b home) more))
    by None here rest = rest
    by (Some named) here rest = All-cons (IsThere b home) named (filter_map (inst_name b home) more) here rest

-- ---- bodies

owns_there : (b : Basis) (home : ℕ) (items : List Item) (places : List ℕ) → AreItems b.program home items → All (Within (length items)) places → All (IsThere b home) (map Own places)
owns_there b home items places are within = All-map (IsThere b home) Own places (All-weaker (Within (length items)) (λ k. IsThere b home (Own k)) (λ k less. own_there b home items k are less) places within)

blocks_there : (b : Basis) (home : ℕ) (items : List Item) (blocks : List Block) → IsProgram b.program → AreItems b.program home items → All (BlockWithin (length items)) blocks → All HasFewIn blocks
    → All (IsThere b home) (flat_map (block_uses b home) blocks)
blocks_there b home items [] is are within few = All-nil (IsThere b home)
blocks_there b home items (block ∷ more) is are within few =
    let here = All-head (BlockWithin (length items)) block more within in
    All-append (IsThere b home) (block_uses b home block) (flat_map (block_uses b home) more)
    (
    All-append (IsThere b home) (filter_map (inst_name b home) block.insts) (map Own (block_others block))
    (insts_there b home items block.insts is are here.insts (All-head HasFewIn block more few))
    (owns_there b home items (block_others block) are (block_within (length items) block here))
    )
    (blocks_there b home items more is are (All-tail (BlockWithin (length items)) block more within) (All-tail HasFewIn block more few))

-- ---- items

pub items_of : (p : ProgramData) (symbol : Sym) (found : Item) (is : IsIn p.modules symbol found) → AreItems p symbol.module is.home.items
items_of p symbol found is = record { home_module = is.home; there = is.there; are = refl }

pub formed_item : (p : ProgramData) (symbol : Sym) (found : Item) → IsProgram p → (is : IsIn p.modules symbol found) → FormedItem is.home.items found
formed_item p symbol found program is =
    All-at (FormedItem is.home.items) is.home.items symbol.item found (All-at IsSoundModule p.modules symbol.module is.home program.sound.sound is.there).formed.has_items is.stands

-- What a body names that names what is in range is there.
pub body_there : (b : Basis) (symbol : Sym) (found : Item) (body : Body) (is : IsIn b.program.modules symbol found) → IsProgram b.program → All (BlockWithin (length is.home.items)) body.blocks → All HasFewIn body.blocks
    → All (IsThere b symbol.module) (body_uses b symbol.module (Some body))
body_there b symbol found body is program within few = blocks_there b symbol.module is.home.items body.blocks program (items_of b.program symbol found is) within few

-- What a variable names is there.
pub var_there : (b : Basis) (symbol : Sym) (var : Var) (is : IsIn b.program.modules symbol (item.Var var)) → IsProgram b.program → All (IsThere b symbol.module) (map Own (init_names var.init))
var_there b symbol var is program = by var.init (formed_item b.program symbol (item.Var var) program is).suits
  where
    by : (o : Option Const) → IfSome o (λ init. Suits (length is.home.items) var.ty init) → All (IsThere b symbol.module) (map Own (init_names o))
    by None suit = All-nil (IsThere b symbol.module)
    by (Some constant) suit =
        owns_there b symbol.module is.home.items (names constant) (items_of b.program symbol (item.Var var) is) (names_within (length is.home.items) constant var.ty (is_true (suits (length is.home.items) constant var.ty) suit))
