-- What the uses of members ask for.
use Rattle.std.proofs.Common.{◌≡◌, ◌∙◌, ℕ, Bool, true, false, not, ◌&&◌, List, [], ◌∷◌, ◌++◌, Option, None, Some, map, refl, ap, sym, subst}
use Rattle.std.specs.Prelude.{flat_map, option_map, option_and_then, IfSome, if◌then◌else◌}
use Rattle.std.specs.List.{filter_map}
use Rattle.std.proofs.lemmas.Option.{none-some}
use Rattle.ir_types.specs.declared.scalar.Known.{Known}
use Rattle.ir_types.specs.declared.scalar.Known.TheVariants.{Unknown}
use Rattle.ir_syntax.specs.declared.constant.Operand.{Operand}
use Rattle.ir_syntax.specs.declared.constant.Operand.TheVariants as operand
use Rattle.ir_syntax.specs.declared.symbol.Sym.{Sym}
use Rattle.ir_syntax.specs.declared.body.Inst.{Inst}
use Rattle.ir_syntax.specs.declared.body.Inst.TheVariants.{Bin, Icmp, Select, Cast, Alloca, Load, Store, Gep, Call}
use Rattle.ir_syntax.specs.declared.body.Block.{Block}
use Rattle.ir_syntax.specs.declared.body.Body.{Body}
use Rattle.ir_syntax.specs.declared.item.Param.{Param}
use Rattle.ir_syntax.specs.declared.item.Item.{Item}
use Rattle.ir_syntax.specs.declared.item.Item.TheVariants as item
use Rattle.ir_syntax.specs.Callees.{written_callee, inst_callee}
use Rattle.ir_syntax.specs.Named.{operand_names, inst_names, phi_names, term_names, block_names, body_names, init_names, item_names}
use Rattle.ir_syntax.specs.Operands.{operands}
use Rattle.ir_syntax.specs.Symbols.{item_at}
use Rattle.ir_syntax.specs.Programs.{ProgramData}
use Rattle.fold_facts.proofs.Lists.{some_is}
use Rattle.demands.specs.declared.demand.Demand.{Demand}
use Rattle.demands.specs.declared.demand.Demand.TheVariants.{Func as function, Var as variable}
use Rattle.demands.specs.Names.{are_unknown}
use Rattle.demands.specs.Order.{symbol_of}
use Rattle.demands.specs.Rows.{words_of}
use Rattle.interface.specs.Asked.{all_unknown, definition_of, asked_by, by_call, by_name, called, named}
use Rattle.interface.specs.Names.{uses_beside, inst_uses, inst_others, block_others}
use Rattle.interface.specs.Summaries.{known_of}
use Rattle.specialise.specs.Needs.{inst_asks, block_asks, body_asks}
use Rattle.residual_laws.proofs.Every.{Every, every_to, every_first, every_rest, every_append, every_flat, flat_every, every_map}
use Rattle.winnowed_form.specs.declared.named.Named.{Named}
use Rattle.winnowed_form.specs.declared.named.Named.TheVariants.{Own, CopyOf}
use Rattle.winnowed_form.specs.Basis.{Basis, basis, is_row}
use Rattle.winnowed_form.specs.Copies.{is_copy}
use Rattle.winnowed_form.specs.Names.{written_as, call_name, inst_name, block_uses, body_uses, item_uses, uses_by}
use Rattle.linking_again.specs.Whole.{item_asks, left_asks, asks_by}
use Rattle.linking_again.proofs.Moved.{place_names}
use Rattle.linking_again.proofs.Parts.{both, every_some}

pub some_every : {A B : Type 0} (P : B → Type 0) (g : A → Option B) (xs : List A) → Every (λ x. IfSome (g x) P) xs → Every P (filter_map g xs)
some_every P g [] h = tt
some_every {A} {B} P g (x ∷ xs) h = by (g x) refl h.0 (some_every P g xs h.1)
  where
    none : g x ≡ None → filter_map g (x ∷ xs) ≡ filter_map g xs
    none is = rw is

    some : (y : B) → g x ≡ Some y → filter_map g (x ∷ xs) ≡ y ∷ filter_map g xs
    some y is = rw is

    by : (o : Option B) → g x ≡ o → IfSome o P → Every P (filter_map g xs) → Every P (filter_map g (x ∷ xs))
    by None e k rest = subst (Every P) (sym (none e)) rest
    by (Some y) e k rest = subst (Every P) (sym (some y e)) (k, rest)

-- ---- what is no copy

pub unknown_all : (params : List Param) → are_unknown (map (λ (param : Param). Unknown) params) ≡ true
unknown_all [] = refl
unknown_all (param ∷ more) = unknown_all more

pub plain_is_none : (b : Basis) (symbol : Sym) (pattern : List Known) → are_unknown pattern ≡ true → is_copy b (function symbol pattern) ≡ false
plain_is_none b symbol pattern all = ap (λ c. not c && not (is_row b.entry (words_of (function symbol pattern)))) all

pub named_is_none : (b : Basis) (symbol : Sym) (found : Item) → is_copy b (by_name symbol found) ≡ false
named_is_none b symbol (item.Var var) = refl
named_is_none b symbol (item.Func func) = plain_is_none b symbol (all_unknown func) (unknown_all func.params)

pub named_symbol : (symbol : Sym) (found : Item) → symbol_of (by_name symbol found) ≡ symbol
named_symbol symbol (item.Var var) = refl
named_symbol symbol (item.Func func) = refl

pub called_symbol : (cycles : List (List Bool)) (known : List Known) (symbol : Sym) (found : Item) → symbol_of (by_call cycles known symbol found) ≡ symbol
called_symbol cycles known symbol (item.Var var) = refl
called_symbol cycles known symbol (item.Func func) = refl

pub asked_is : (ask : Sym → Item → Demand) (p : ProgramData) (o : Option Sym) (symbol : Sym) (found : Item) → o ≡ Some symbol → item_at p.modules symbol ≡ Some found → asked_by ask p o ≡ Some (ask symbol found)
asked_is ask p o symbol found e is = ap (asked_by ask p) e ∙ ap (option_map (ask symbol)) is

-- what is asked for is asked of a definition
pub record AskedOf (ask : Sym → Item → Demand) (p : ProgramData) (o : Option Sym) (d : Demand) : Type 0 where
  pub symbol : Sym
  pub resolved : o ≡ Some symbol
  pub found : Item
  pub stands : item_at p.modules symbol ≡ Some found
  pub is : ask symbol found ≡ d

pub asked_of : (ask : Sym → Item → Demand) (p : ProgramData) (o : Option Sym) (d : Demand) → asked_by ask p o ≡ Some d → AskedOf ask p o d
asked_of ask p None d e = absurd (none-some d e)
asked_of ask p (Some symbol) d e = by (item_at p.modules symbol) refl e
  where
    by : (o : Option Item) → item_at p.modules symbol ≡ o → option_map (ask symbol) o ≡ Some d → AskedOf ask p (Some symbol) d
    by None is h = absurd (none-some d h)
    by (Some found) is h = record { symbol = symbol; resolved = refl; found = found; stands = is; is = some_is h }

-- ---- uses

-- The definition is asked for, under its own name.
pub record AskedPlain (p : ProgramData) (cycles : List (List Bool)) (D : Demand → Type 0) (symbol : Sym) : Type 0 where
  pub demand : Demand
  pub asked : D demand
  pub of : symbol_of demand ≡ symbol
  pub plain : is_copy (basis p cycles) demand ≡ false

-- A call of the item at a place asks for the copy.
pub record CopyUsed (p : ProgramData) (cycles : List (List Bool)) (home : ℕ) (P : ℕ → Type 0) (D : Demand → Type 0) (d : Demand) : Type 0 where
  pub place : ℕ
  pub used : P place
  pub asked : D d
  pub copy : is_copy (basis p cycles) d ≡ true
  pub known : List Known
  pub is : called p cycles home (place, known) ≡ Some d

module _ (p : ProgramData) (cycles : List (List Bool)) (home : ℕ) (P : ℕ → Type 0) (D : Demand → Type 0) where
  b : Basis
  b = basis p cycles

  -- What is used, where P holds of each place that is named, and D of each demand that is asked for.
  abbrev pub UseOf : Named → Type 0
  UseOf (Own k) = P k × ((symbol : Sym) (found : Item) → definition_of p home k ≡ Some symbol → item_at p.modules symbol ≡ Some found → AskedPlain p cycles D symbol)
  UseOf (CopyOf d) = CopyUsed p cycles home P D d

  call_use : (k : ℕ) (known : List Known) (o : Option Demand) → called p cycles home (k, known) ≡ o → P k → IfSome o D → UseOf (written_as (basis p cycles) k o)
  call_use k known None e here asked = (here, λ symbol found resolved stands. absurd (none-some (by_call cycles known symbol found) (sym e ∙ asked_is (by_call cycles known) p (definition_of p home k) symbol found resolved stands)))
  call_use k known (Some d) e here asked = by (is_copy (basis p cycles) d) refl
    where
      by : (c : Bool) → is_copy (basis p cycles) d ≡ c → UseOf (if c then CopyOf d else Own k)
      by true c = record { place = k; used = here; asked = asked; copy = c; known = known; is = e }
      by false c = (
        here,
        λ symbol found resolved stands.
            let same : by_call cycles known symbol found ≡ d = some_is (sym (asked_is (by_call cycles known) p (definition_of p home k) symbol found resolved stands) ∙ e) in
            record { demand = d; asked = asked; of = sym (ap symbol_of same) ∙ called_symbol cycles known symbol found; plain = c },
      )

  name_use : (k : ℕ) → P k → IfSome (named p home k) D → UseOf (Own k)
  name_use k here asked = (
    here,
    λ symbol found resolved stands. record {
      demand = by_name symbol found;
      asked = subst (λ (o : Option Demand). IfSome o D) (asked_is by_name p (definition_of p home k) symbol found resolved stands) asked;
      of = named_symbol symbol found;
      plain = named_is_none (basis p cycles) symbol found;
    },
  )

  names_use : (ks : List ℕ) → Every P ks → Every D (filter_map (named p home) ks) → Every UseOf (map Own ks)
  names_use ks here asked = every_map UseOf Own ks (both P (λ k. IfSome (named p home k) D) (λ k. UseOf (Own k)) ks name_use here (every_some D (named p home) ks asked))

  -- ---- instructions

  beside : (c : Option ℕ) (os : List Operand) → Every (λ o. Every P (operand_names o)) os → Every (λ o. Every P (operand_names o)) (uses_beside c os)
  beside None os h = h
  beside (Some k) [] h = tt
  beside (Some k) (o ∷ os) h = h.1

  pub others_named : (inst : Inst) → Every P (inst_names inst) → Every P (inst_others inst)
  others_named inst h = flat_every P operand_names (inst_uses inst) (beside (inst_callee inst) (operands inst) (every_flat P operand_names (operands inst) h))

  pub callee_named : (inst : Inst) → Every P (inst_names inst) → IfSome (inst_callee inst) P
  callee_named (Bin op flags ty a c) h = tt
  callee_named (Icmp pred ty a c) h = tt
  callee_named (Select ty c a d) h = tt
  callee_named (Cast op nneg from to a) h = tt
  callee_named (Alloca ty count align) h = tt
  callee_named (Load ty at align) h = tt
  callee_named (Store ty value at align) h = tt
  callee_named (Gep inbounds ty base indices) h = tt
  callee_named (Call fn_ty ret_ext callee args) h = by callee (every_first P (operand_names callee) (flat_map operand_names (map (λ arg. arg.value) args)) h)
    where
      by : (o : Operand) → Every P (operand_names o) → IfSome (written_callee o) P
      by (operand.Param k) g = tt
      by (operand.Reg k) g = tt
      by (operand.Const c) g = to (written_callee (operand.Const c)) refl
        where
          to : (o : Option ℕ) → written_callee (operand.Const c) ≡ o → IfSome o P
          to None e = tt
          to (Some k) e = (subst (Every P) (place_names c k e) g).0

  inst_use : (o : Option ℕ) (args : List Known) → IfSome o P → IfSome (option_and_then (called p cycles home) (option_map (λ place. (place, args)) o)) D → IfSome (option_map (call_name (basis p cycles) home) (option_map (λ place. (place, args)) o)) UseOf
  inst_use None args h asked = tt
  inst_use (Some k) args h asked = call_use k args (called p cycles home (k, args)) refl h asked

  block_use : (block : Block) → Every P (block_names block) → Every D (block_asks p cycles home block) → Every UseOf (block_uses (basis p cycles) home block)
  block_use block h asked =
      let front = every_first P (flat_map phi_names block.phis ++ flat_map inst_names block.insts) (term_names block.term) h in
      let phis = every_first P (flat_map phi_names block.phis) (flat_map inst_names block.insts) front in
      let insts = every_flat P inst_names block.insts (every_rest P (flat_map phi_names block.phis) (flat_map inst_names block.insts) front) in
      let term = every_rest P (flat_map phi_names block.phis ++ flat_map inst_names block.insts) (term_names block.term) h in
      let others : Every P (block_others block) = every_append P (flat_map phi_names block.phis ++ flat_map inst_others block.insts) (term_names block.term)
      (every_append P (flat_map phi_names block.phis) (flat_map inst_others block.insts) phis (flat_every P inst_others block.insts (every_to (λ inst. Every P (inst_names inst)) (λ inst. Every P (inst_others inst)) block.insts others_named insts))) term in
      let calls = every_some D (inst_asks p cycles home) block.insts (every_first D (filter_map (inst_asks p cycles home) block.insts) (filter_map (named p home) (block_others block)) asked) in
      every_append UseOf (filter_map (inst_name (basis p cycles) home) block.insts) (map Own (block_others block))
      (some_every UseOf (inst_name (basis p cycles) home) block.insts (both (λ inst. Every P (inst_names inst)) (λ inst. IfSome (inst_asks p cycles home inst) D) (λ inst. IfSome (inst_name (basis p cycles) home inst) UseOf) block.insts
      (λ inst g a. inst_use (inst_callee inst) (map (known_of (record { known = [] }) []) (inst_uses inst)) (callee_named inst g) a) insts calls))
      (names_use (block_others block) others (every_rest D (filter_map (inst_asks p cycles home) block.insts) (filter_map (named p home) (block_others block)) asked))

  body_use : (body : Body) → Every P (body_names body) → Every D (body_asks p cycles home body.blocks) → Every UseOf (flat_map (block_uses (basis p cycles) home) body.blocks)
  body_use body h asked = flat_every UseOf (block_uses (basis p cycles) home) body.blocks (both (λ block. Every P (block_names block)) (λ block. Every D (block_asks p cycles home block)) (λ block. Every UseOf (block_uses (basis p cycles) home block)) body.blocks block_use
      (every_flat P block_names body.blocks h) (every_flat D (block_asks p cycles home) body.blocks asked))

  -- ---- members

  abbrev pub ItemNamed : Option Item → Type 0
  ItemNamed None = Unit {0}
  ItemNamed (Some found) = Every P (item_names found)

  abbrev pub BodyNamed : Option Body → Type 0
  BodyNamed None = Unit {0}
  BodyNamed (Some body) = Every P (body_names body)

  abbrev pub MemberNamed : Demand → Option Body → Type 0
  MemberNamed (variable symbol) body = ItemNamed (item_at p.modules symbol)
  MemberNamed (function symbol pattern) body = BodyNamed body

  item_use : (o : Option Item) → ItemNamed o → Every D (item_asks p home o) → Every UseOf (item_uses o)
  item_use None h asked = tt
  item_use (Some (item.Var var)) h asked = names_use (init_names var.init) h asked
  item_use (Some (item.Func func)) h asked = tt

  left_use : (o : Option Body) → BodyNamed o → Every D (left_asks p cycles home o) → Every UseOf (body_uses (basis p cycles) home o)
  left_use None h asked = tt
  left_use (Some body) h asked = body_use body h asked

  -- Each use of a member of the module.
  pub member_use : (d : Demand) (body : Option Body) → (symbol_of d).module ≡ home → MemberNamed d body → Every D (asks_by p cycles d body) → Every UseOf (uses_by (basis p cycles) home d body)
  member_use (variable symbol) body here h asked = item_use (item_at p.modules symbol) h (subst (λ n. Every D (item_asks p n (item_at p.modules symbol))) here asked)
  member_use (function symbol pattern) body here h asked = left_use body h (subst (λ n. Every D (left_asks p cycles n body)) here asked)
