-- What members ask for: demands of the program, of definitions that their module names.
use Rattle.std.proofs.Common.{◌≡◌, ◌∙◌, ◌⊎◌, inl, inr, ℕ, zero, suc, Bool, true, false, List, [], ◌∷◌, ◌++◌, Option, None, Some, All, length, map, take, refl, ap, sym, subst, arith}
use Rattle.std.specs.Prelude.{slice_get, flat_map, option_map, option_and_then, IsTrue, IsSome, IfSome, OnSome, if◌then◌else◌}
use Rattle.std.specs.List.{AllZip, filter_map}
use Rattle.std.proofs.lemmas.Bool.{false≢true}
use Rattle.ir_types.specs.declared.scalar.Scalar.{Scalar}
use Rattle.ir_types.specs.declared.scalar.Known.{Known}
use Rattle.ir_types.specs.declared.scalar.Known.TheVariants.{Unknown}
use Rattle.ir_types.specs.declared.scalar.FnType.{FnType}
use Rattle.ir_types.specs.declared.shape.Ty.TheBlock.{One}
use Rattle.ir_types.specs.declared.shape.Ty.TheVariants.{outs-One}
use Rattle.ir_types.specs.Scalars.{is_number_of}
use Rattle.ir_types.proofs.ListSteps.{All-at}
use Rattle.ir_syntax.specs.declared.constant.Const.TheVariants as const
use Rattle.ir_syntax.specs.declared.constant.Operand.{Operand}
use Rattle.ir_syntax.specs.declared.constant.Operand.TheVariants as operand
use Rattle.ir_syntax.specs.declared.symbol.Sym.{Sym}
use Rattle.ir_syntax.specs.declared.body.Arg.{Arg}
use Rattle.ir_syntax.specs.declared.body.Inst.{Inst}
use Rattle.ir_syntax.specs.declared.body.Inst.TheVariants.{Bin, Icmp, Select, Cast, Alloca, Load, Store, Gep, Call}
use Rattle.ir_syntax.specs.declared.body.Block.{Block}
use Rattle.ir_syntax.specs.declared.body.Body.{Body}
use Rattle.ir_syntax.specs.declared.item.Func.{Func}
use Rattle.ir_syntax.specs.declared.item.Param.{Param}
use Rattle.ir_syntax.specs.declared.item.Item.{Item}
use Rattle.ir_syntax.specs.declared.item.Item.TheVariants as item
use Rattle.ir_syntax.specs.declared.item.Module.{Module}
use Rattle.ir_syntax.specs.Callees.{written_callee}
use Rattle.ir_syntax.specs.FormedBody.{Places, IsOperand, FormedCall, FormedInst, FormedBlock, FormedBody, places_of}
use Rattle.ir_syntax.specs.FunctionTypes.{type_of, function_type}
use Rattle.ir_syntax.specs.Named.{inst_names, phi_names, term_names, block_names, body_names, init_names, item_names}
use Rattle.ir_syntax.specs.Suits.{is_pointer, takes_number, takes_address}
use Rattle.ir_syntax.specs.Symbols.{item_at, is_defined, IsKnownOf}
use Rattle.ir_syntax.specs.Typed.{Types, CalleeSuits, TypedCall, TypedInst, TypedBlock, TypedBody}
use Rattle.ir_syntax.specs.Programs.{ProgramData, IsProgram}
use Rattle.ir_syntax.proofs.SuitLemmas.{suits-Int, suits-Null}
use Rattle.fold_facts.proofs.Lists.{some_is}
use Rattle.fold_facts.proofs.Arriving.{place_in, in_place}
use Rattle.demands.specs.declared.demand.Demand.{Demand}
use Rattle.demands.specs.declared.demand.Demand.TheVariants.{Func as function, Var as variable}
use Rattle.demands.specs.Demands.{IsDemand, IsDefinition}
use Rattle.demands.specs.Order.{symbol_of}
use Rattle.interface.specs.Asked.{is_specialised, all_unknown, pattern_for, definition_of, by_call, by_name, called, named}
use Rattle.interface.specs.Names.{uses_beside, inst_others, block_others}
use Rattle.interface.specs.Summaries.{known_of}
use Rattle.interface.proofs.Listed.{short_symbol}
use Rattle.specialise.specs.Residual.{residual}
use Rattle.specialise.specs.Needs.{inst_asks, block_asks, body_asks}
use Rattle.residual_laws.proofs.Every.{Every, every_of_all, every_at, every_by, every_to, every_first, every_rest, every_append, every_flat, flat_every}
use Rattle.residual_laws.proofs.Formed.{left_formed}
use Rattle.residual_laws.proofs.Typed.{left_typed}
use Rattle.residual_laws.proofs.Used.{names_no_more}
use Rattle.linking_again.specs.Whole.{IsFunctionLeft, IsLeftOf, item_asks, left_asks, asks_by}
use Rattle.linking_again.proofs.Asking as at_asking
use Rattle.linking_again.proofs.Asking.{AskedOf, asked_of, some_every}
use Rattle.linking_again.proofs.Facts.{resolved, formed_at}
use Rattle.linking_again.proofs.Home.{NamedHere, names_of_item, function_at}
use Rattle.linking_again.proofs.Kept.{types_in}
use Rattle.linking_again.proofs.Places.{stands_in, item_is}
use Rattle.linking_again.proofs.Suiting.{resolved_type}

-- ---- what is known of arguments

-- what is known of an argument may be known of a parameter of its type
known_arg : (places : Places) (param : Param) (ty : Scalar) (o : Operand) → param.ty ≡ ty → IsOperand places ty o → IsKnownOf param (known_of (record { known = [] }) [] o)
known_arg places param ty (operand.Param k) e h = tt
known_arg places param ty (operand.Reg k) e h = tt
known_arg places param ty (operand.Const (const.Int n)) e h = ap (λ t. is_number_of t n) e ∙ sym (suits-Int (length places.items) n (One ty) ∙ ap (λ x. takes_number x n) (outs-One ty)) ∙ h
known_arg places param ty (operand.Const const.Null) e h = ap is_pointer e ∙ sym (suits-Null (length places.items) (One ty) ∙ ap takes_address (outs-One ty)) ∙ h
known_arg places param ty (operand.Const (const.Addr place offset)) e h = tt
known_arg places param ty (operand.Const const.Undef) e h = tt
known_arg places param ty (operand.Const const.Poison) e h = tt
known_arg places param ty (operand.Const const.Zero) e h = tt
known_arg places param ty (operand.Const (const.Text bytes)) e h = tt
known_arg places param ty (operand.Const (const.Many' shape parts)) e h = tt

known_fit : (places : Places) (params : List Param) (args : List Arg) → map (λ (param : Param). param.ty) params ≡ map (λ (arg : Arg). arg.ty) args → Every (λ (arg : Arg). IsOperand places arg.ty arg.value) args
    → AllZip IsKnownOf params (map (known_of (record { known = [] }) []) (map (λ (arg : Arg). arg.value) args))
known_fit places [] [] e h = tt
known_fit places [] (arg ∷ args) e h = cc
known_fit places (param ∷ params) [] e h = cc
known_fit places (param ∷ params) (arg ∷ args) e h = (known_arg places param arg.ty arg.value (head_is e) h.0, known_fit places params args (tail_is e) h.1)
  where
    head_is : (param.ty ∷ map (λ (x : Param). x.ty) params) ≡ (arg.ty ∷ map (λ (x : Arg). x.ty) args) → param.ty ≡ arg.ty
    head_is g = cc

    tail_is : (param.ty ∷ map (λ (x : Param). x.ty) params) ≡ (arg.ty ∷ map (λ (x : Arg). x.ty) args) → map (λ (x : Param). x.ty) params ≡ map (λ (x : Arg). x.ty) args
    tail_is g = cc

pub unknown_fit : (params : List Param) → AllZip IsKnownOf params (map (λ (param : Param). Unknown) params)
unknown_fit [] = tt
unknown_fit (param ∷ more) = (tt, unknown_fit more)

take_all : {X : Type 0} (xs : List X) (n : ℕ) → length xs ≡ n → take n xs ≡ xs
take_all [] zero e = refl
take_all [] (suc n) e = refl
take_all (x ∷ xs) zero e = absurd (omega (arith, e))
take_all (x ∷ xs) (suc n) e = ap (λ l. x ∷ l) (take_all xs n (omega (arith, e)))

-- ---- what is asked for

-- It is a demand of the program, of a definition that an item of the module stands for which is named there.
pub record Ask (p : ProgramData) (cycles : List (List Bool)) (home : ℕ) (d : Demand) : Type 0 where
  pub place : ℕ
  pub named : NamedHere p home place
  pub symbol : Sym
  pub resolves : definition_of p home place ≡ Some symbol
  pub found : Item
  pub stands : item_at p.modules symbol ≡ Some found
  pub is_demand : IsDemand p.modules d
  pub is : (by_name symbol found ≡ d) ⊎ ((known : List Known) × (by_call cycles known symbol found ≡ d))

-- a definition is a demand's, with what may be known of its parameters
demand_of : (p : ProgramData) (home place : ℕ) (named : NamedHere p home place) (symbol : Sym) (found : Item) → IsProgram p → definition_of p home place ≡ Some symbol → item_at p.modules symbol ≡ Some found → IsTrue (is_defined found)
demand_of p home place named symbol found program resolves stands =
    let r = resolved p home place named.found symbol program named.found_at resolves in
    subst (λ x. IsTrue (is_defined x)) (some_is (sym r.stands ∙ stands)) r.defined

variable_demand : (p : ProgramData) (symbol : Sym) (found : Item) (d : Demand) → IsProgram p → item_at p.modules symbol ≡ Some found → IsDefinition (variable symbol) (Some found) → IsDemand p.modules (variable symbol)
variable_demand p symbol found d program stands h = record { short = short_symbol p symbol found program stands; defined = subst (IsDefinition (variable symbol)) (sym stands) h }

function_demand : (p : ProgramData) (symbol : Sym) (func : Func) (pattern : List Known) → IsProgram p → item_at p.modules symbol ≡ Some (item.Func func) → IsSome func.body → AllZip IsKnownOf func.params pattern → IsDemand p.modules (function symbol pattern)
function_demand p symbol func pattern program stands body fits = record { short = short_symbol p symbol (item.Func func) program stands; defined = subst (IsDefinition (function symbol pattern)) (sym stands) (body, fits) }

named_demand : (p : ProgramData) (symbol : Sym) (found : Item) → IsProgram p → item_at p.modules symbol ≡ Some found → IsTrue (is_defined found) → IsDemand p.modules (by_name symbol found)
named_demand p symbol (item.Var var) program stands defined = variable_demand p symbol (item.Var var) (variable symbol) program stands defined
named_demand p symbol (item.Func func) program stands defined = function_demand p symbol func (all_unknown func) program stands defined (unknown_fit func.params)

-- ---- calls

specialised_or : (cycles : List (List Bool)) (symbol : Sym) (func : Func) (known : List Known) → AllZip IsKnownOf func.params known → AllZip IsKnownOf func.params (pattern_for cycles symbol func known)
specialised_or cycles symbol func known h = by (is_specialised cycles symbol func)
  where
    by : (c : Bool) → AllZip IsKnownOf func.params (if c then known else all_unknown func)
    by true = h
    by false = unknown_fit func.params

fixed_of : (p : ProgramData) (symbol : Sym) (func : Func) → IsProgram p → item_at p.modules symbol ≡ Some (item.Func func) → IsSome func.body → func.variadic ≡ false
fixed_of p symbol func program stands body = by func.body body (formed_at p symbol (item.Func func) program stands).2.fixed
  where
    by : (o : Option Body) → IsSome o → OnSome o (func.variadic ≡ false) → func.variadic ≡ false
    by None s g = absurd (false≢true s)
    by (Some x) s g = g

module _ (p : ProgramData) (cycles : List (List Bool)) (home : ℕ) (m : Module) (program : IsProgram p) (stands_home : slice_get p.modules home ≡ Some m) where
  abbrev P : ℕ → Type 0
  P = NamedHere p home

  abbrev Asked : Demand → Type 0
  Asked = Ask p cycles home

  call_demand : (places : Places) (types : Types) (fn_ty : FnType) (callee : Operand) (args : List Arg) (k : ℕ) (symbol : Sym) (found : Item) → types.items ≡ m.items → FormedCall places fn_ty callee args → TypedCall types fn_ty callee args → written_callee callee ≡ Some k
      → P k → definition_of p home k ≡ Some symbol → item_at p.modules symbol ≡ Some found → IsDemand p.modules (by_call cycles (map (known_of (record { known = [] }) []) (map (λ (arg : Arg). arg.value) args)) symbol found)
  call_demand places types fn_ty callee args k symbol (item.Var var) items formed is_typed is named resolves stands = variable_demand p symbol (item.Var var) (variable symbol) program stands (demand_of p home k named symbol (item.Var var) program resolves stands)
  call_demand places types fn_ty callee args k symbol (item.Func func) items formed is_typed is named resolves stands =
      let known = map (known_of (record { known = [] }) []) (map (λ (arg : Arg). arg.value) args) in
      let body : IsSome func.body = demand_of p home k named symbol (item.Func func) program resolves stands in
      let r = resolved p home k named.found symbol program named.found_at resolves in
      let at : slice_get m.items k ≡ Some named.found = sym (item_is p.modules (record { «module» = home; item = k }) m stands_home) ∙ named.found_at in
      let of_k : function_type (slice_get m.items k) ≡ Some fn_ty = subst (λ l. function_type (slice_get l k) ≡ Some fn_ty) items (subst (CalleeSuits types fn_ty callee) is is_typed.has_callee) in
      let of_def : Some (type_of func) ≡ Some fn_ty = ap function_type (sym stands ∙ r.stands) ∙ sym (resolved_type p (record { «module» = home; item = k }) named.found symbol program named.found_at r) ∙ ap function_type (sym at) ∙ of_k in
      let same : type_of func ≡ fn_ty = some_is of_def in
      let plain : fn_ty.variadic ≡ false = ap (λ (t : FnType). t.variadic) (sym same) ∙ fixed_of p symbol func program stands body in
      let count : length args ≡ length fn_ty.params = is_typed.no_more plain in
      let tys : map (λ (arg : Arg). arg.ty) args ≡ fn_ty.params = sym (ap (map (λ (arg : Arg). arg.ty)) (take_all args (length fn_ty.params) count)) ∙ is_typed.fixed in
      let params : map (λ (param : Param). param.ty) func.params ≡ map (λ (arg : Arg). arg.ty) args = ap (λ (t : FnType). t.params) same ∙ sym tys in
      function_demand p symbol func (pattern_for cycles symbol func known) program stands body (specialised_or cycles symbol func known (known_fit places func.params args params (every_of_all (λ (arg : Arg). IsOperand places arg.ty arg.value) args formed.has_args)))

  call_asks : (places : Places) (types : Types) (fn_ty : FnType) (callee : Operand) (args : List Arg) (o : Option ℕ) → types.items ≡ m.items → FormedCall places fn_ty callee args → TypedCall types fn_ty callee args → written_callee callee ≡ o → IfSome o P
      → IfSome (option_and_then (called p cycles home) (option_map (λ place. (place, map (known_of (record { known = [] }) []) (uses_beside o (callee ∷ map (λ (arg : Arg). arg.value) args)))) o)) Asked
  call_asks places types fn_ty callee args None items formed is_typed is named = tt
  call_asks places types fn_ty callee args (Some k) items formed is_typed is named = by (called p cycles home (k, known)) refl
    where
      known : List Known
      known = map (known_of (record { known = [] }) []) (map (λ (arg : Arg). arg.value) args)

      by : (x : Option Demand) → called p cycles home (k, map (known_of (record { known = [] }) []) (map (λ (arg : Arg). arg.value) args)) ≡ x → IfSome x Asked
      by None e = tt
      by (Some d) e =
          let asked = asked_of (by_call cycles (map (known_of (record { known = [] }) []) (map (λ (arg : Arg). arg.value) args))) p (definition_of p home k) d e in
          record {
            place = k;
            named = named;
            symbol = asked.symbol;
            resolves = asked.resolved;
            found = asked.found;
            stands = asked.stands;
            is_demand = subst (IsDemand p.modules) asked.is (call_demand places types fn_ty callee args k asked.symbol asked.found items formed is_typed is named asked.resolved asked.stands);
            is = inr (map (known_of (record { known = [] }) []) (map (λ (arg : Arg). arg.value) args), asked.is);
          }

  inst_asked : (places : Places) (types : Types) (inst : Inst) → types.items ≡ m.items → FormedInst places inst → TypedInst types inst → Every P (inst_names inst) → IfSome (inst_asks p cycles home inst) Asked
  inst_asked places types (Bin op flags ty a c) items formed is_typed names = tt
  inst_asked places types (Icmp pred ty a c) items formed is_typed names = tt
  inst_asked places types (Select ty c a d) items formed is_typed names = tt
  inst_asked places types (Cast op nneg from to a) items formed is_typed names = tt
  inst_asked places types (Alloca ty count align) items formed is_typed names = tt
  inst_asked places types (Load ty at align) items formed is_typed names = tt
  inst_asked places types (Store ty value at align) items formed is_typed names = tt
  inst_asked places types (Gep inbounds ty base indices) items formed is_typed names = tt
  inst_asked places types (Call fn_ty ret_ext callee args) items formed is_typed names =
      call_asks places types fn_ty callee args (written_callee callee) items formed is_typed refl (at_asking.callee_named p cycles home P (λ d. Unit {0}) (Call fn_ty ret_ext callee args) names)

  -- ---- names

  name_asked : (k : ℕ) → P k → IfSome (named p home k) Asked
  name_asked k here = by (named p home k) refl
    where
      by : (x : Option Demand) → named p home k ≡ x → IfSome x Asked
      by None e = tt
      by (Some d) e =
          let asked = asked_of by_name p (definition_of p home k) d e in
          record {
            place = k;
            named = here;
            symbol = asked.symbol;
            resolves = asked.resolved;
            found = asked.found;
            stands = asked.stands;
            is_demand = subst (IsDemand p.modules) asked.is (named_demand p asked.symbol asked.found program asked.stands (demand_of p home k here asked.symbol asked.found program asked.resolved asked.stands));
            is = inl asked.is;
          }

  names_asked : (ks : List ℕ) → Every P ks → Every Asked (filter_map (named p home) ks)
  names_asked ks h = some_every Asked (named p home) ks (every_to P (λ k. IfSome (named p home k) Asked) ks name_asked h)

  -- ---- bodies

  block_asked : (places : Places) (types : Types) (block : Block) → types.items ≡ m.items → FormedBlock places block → All (TypedInst types) block.insts → Every P (block_names block) → Every Asked (block_asks p cycles home block)
  block_asked places types block items formed is_typed names =
      let front = every_first P (flat_map phi_names block.phis ++ flat_map inst_names block.insts) (term_names block.term) names in
      let phis = every_first P (flat_map phi_names block.phis) (flat_map inst_names block.insts) front in
      let insts = every_flat P inst_names block.insts (every_rest P (flat_map phi_names block.phis) (flat_map inst_names block.insts) front) in
      let term = every_rest P (flat_map phi_names block.phis ++ flat_map inst_names block.insts) (term_names block.term) names in
      let others : Every P (block_others block) = every_append P (flat_map phi_names block.phis ++ flat_map inst_others block.insts) (term_names block.term)
      (every_append P (flat_map phi_names block.phis) (flat_map inst_others block.insts) phis (flat_every P inst_others block.insts (every_to (λ inst. Every P (inst_names inst)) (λ inst. Every P (inst_others inst)) block.insts (at_asking.others_named p cycles home P (λ d. Unit {0})) insts))) term in
      every_append Asked (filter_map (inst_asks p cycles home) block.insts) (filter_map (named p home) (block_others block))
      (some_every Asked (inst_asks p cycles home) block.insts (every_by (λ inst. IfSome (inst_asks p cycles home inst) Asked) block.insts (λ j inst is.
      inst_asked places types inst items (All-at (FormedInst places) block.insts j inst formed.insts is) (All-at (TypedInst types) block.insts j inst is_typed is) (every_at (λ inst. Every P (inst_names inst)) block.insts j inst insts is))))
      (names_asked (block_others block) others)

  body_asked : (params : List Param) (returns : Option Scalar) (body : Body) → FormedBody m.items (length params) body → TypedBody (types_in m.items params body) returns body.blocks → Every P (body_names body) → Every Asked (body_asks p cycles home body.blocks)
  body_asked params returns body formed is_typed names = flat_every Asked (block_asks p cycles home) body.blocks (every_by (λ block. Every Asked (block_asks p cycles home block)) body.blocks (λ j block is.
      block_asked (places_of m.items (length params) body) (types_in m.items params body) block refl (All-at (FormedBlock (places_of m.items (length params) body)) body.blocks j block formed.has_blocks is)
      (subst (λ (o : Option Block). IfSome o (TypedBlock (types_in m.items params body) returns body.blocks j)) is (is_typed.each j)).insts (every_at (λ block. Every P (block_names block)) body.blocks j block (every_flat P block_names body.blocks names) is)))

-- ---- members

item_asked : (p : ProgramData) (cycles : List (List Bool)) (symbol : Sym) (m : Module) (program : IsProgram p) → slice_get p.modules symbol.module ≡ Some m → (o : Option Item) → item_at p.modules symbol ≡ o → Every (Ask p cycles symbol.module) (item_asks p symbol.module o)
item_asked p cycles symbol m program at None e = tt
item_asked p cycles symbol m program at (Some (item.Var var)) e = names_asked p cycles symbol.module m program at (init_names var.init) (names_of_item p symbol.module symbol (item.Var var) program refl e)
item_asked p cycles symbol m program at (Some (item.Func func)) e = tt

-- what is left of a function asks for demands
pub left_asked : (p : ProgramData) (cycles : List (List Bool)) (symbol : Sym) (pattern : List Known) (body : Option Body) → IsProgram p → IsFunctionLeft p symbol pattern body → Every (Ask p cycles symbol.module) (left_asks p cycles symbol.module body)
left_asked p cycles symbol pattern body program left = subst (λ (o : Option Body). Every (Ask p cycles symbol.module) (left_asks p cycles symbol.module o)) (sym left.is)
    (body_asked p cycles symbol.module left.home program left.stands left.func.params left.func.returns (residual pattern left.func left.assigned) (left_formed left.home.items pattern left.func left.assigned left.left) (left_typed left.home.items pattern left.func left.assigned left.left left.asked)
    (every_by (NamedHere p symbol.module) (body_names (residual pattern left.func left.assigned)) (λ j k is.
    let was = place_in (item_names (item.Func left.func)) k (names_no_more pattern left.func left.assigned k (in_place (body_names (residual pattern left.func left.assigned)) j k is)) in
    every_at (NamedHere p symbol.module) (item_names (item.Func left.func)) was.0 k (names_of_item p symbol.module symbol (item.Func left.func) program refl (function_at p symbol pattern body left)) was.1)))

pub all_asked : (p : ProgramData) (cycles : List (List Bool)) (d : Demand) (body : Option Body) → IsProgram p → IsLeftOf p d body → Every (Ask p cycles (symbol_of d).module) (asks_by p cycles d body)
all_asked p cycles (variable symbol) body program left =
    let at = stands_in p.modules symbol (item.Var left.var) left.is_variable in
    item_asked p cycles symbol at.home program at.stands (item_at p.modules symbol) refl
all_asked p cycles (function symbol pattern) body program left = left_asked p cycles symbol pattern body program left
