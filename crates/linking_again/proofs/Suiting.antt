-- The items of a written module suit the names that its bodies and initialisers are written with.
use Rattle.std.proofs.Common.{◌≡◌, ◌∙◌, ◌⊎◌, inl, inr, ℕ, Bool, true, false, cond, not, List, ◌++◌, Option, None, Some, map, refl, ap, sym, subst}
use Rattle.std.specs.Prelude.{slice_get, codes, OnSome, IsSome, if◌then◌else◌}
use Rattle.std.proofs.lemmas.Bool.{false≢true, and_parts, not-true}
use Rattle.std.proofs.lemmas.Option.{none-some}
use Rattle.ir_types.specs.declared.scalar.Known.{Known}
use Rattle.ir_types.specs.declared.scalar.FnType.{FnType}
use Rattle.ir_syntax.specs.declared.symbol.Sym.{Sym}
use Rattle.ir_syntax.specs.declared.item.Linkage.TheVariants.{External}
use Rattle.ir_syntax.specs.declared.body.Body.{Body}
use Rattle.ir_syntax.specs.declared.item.Func.{Func}
use Rattle.ir_syntax.specs.declared.item.Item.{Item}
use Rattle.ir_syntax.specs.declared.item.Item.TheVariants as item
use Rattle.ir_syntax.specs.declared.item.Module.{Module}
use Rattle.ir_syntax.specs.FormedBody.{item_name, is_intrinsic, is_intrinsic_item}
use Rattle.ir_syntax.specs.FunctionTypes.{type_of, function_type}
use Rattle.ir_syntax.specs.Symbols.{item_at, linkage_of}
use Rattle.ir_syntax.specs.Programs.{ProgramData, IsProgram}
use Rattle.fold_facts.proofs.Lists.{some_is, within}
use Rattle.demands.specs.declared.demand.Demand.{Demand}
use Rattle.demands.specs.declared.demand.Demand.TheVariants.{Func as function}
use Rattle.demands.specs.Names.{is_unknown, are_unknown, items_text, copy_name}
use Rattle.demands.specs.Order.{symbol_of, pattern_of}
use Rattle.demands.specs.Rows.{words_of}
use Rattle.interface.specs.Asked.{definition_of, by_call, called}
use Rattle.interface.specs.Masks.{chosen}
use Rattle.winnowed_form.specs.declared.named.Named.{Named}
use Rattle.winnowed_form.specs.declared.named.Named.TheVariants.{Own, CopyOf}
use Rattle.winnowed_form.specs.declared.member.Member.{Member}
use Rattle.winnowed_form.specs.Basis.{Basis, basis, is_row}
use Rattle.winnowed_form.specs.Copies.{is_copy}
use Rattle.winnowed_form.specs.Names.{written_as, call_name}
use Rattle.linking_again.proofs.Asking.{AskedOf, asked_of}
use Rattle.linking_again.proofs.Facts.{Resolved, resolved}
use Rattle.linking_again.proofs.Home as home_of
use Rattle.linking_again.proofs.Home.{Frame, CopyKnown, function_at, OwnItem, CopyItem, all_names, item_of}
use Rattle.linking_again.proofs.Kept.{Has, Suit}
use Rattle.linking_again.proofs.Places.{item_is}
use Rattle.linking_again.proofs.Types.{types_are_one}

-- ---- names of copies

-- something is known of a copy's parameters
pub copy_pattern : (b : Basis) (symbol : Sym) (pattern : List Known) → is_copy b (function symbol pattern) ≡ true → are_unknown pattern ≡ false
copy_pattern b symbol pattern copy = not-true (are_unknown pattern) (and_parts (not (are_unknown pattern)) (not (is_row b.entry (words_of (function symbol pattern)))) copy).0

pub copy_text : (pattern : List Known) (name : List ℕ) → are_unknown pattern ≡ false → copy_name pattern name ≡ codes "(" ++ items_text pattern ++ codes ")" ++ name
copy_text pattern name e = ap (λ c. cond c name (codes "(" ++ items_text pattern ++ codes ")" ++ name)) e

pub copy_not_intrinsic : (pattern : List Known) (name : List ℕ) → are_unknown pattern ≡ false → is_intrinsic (copy_name pattern name) ≡ false
copy_not_intrinsic pattern name e = ap is_intrinsic (copy_text pattern name e) ∙ refl

-- ---- types

-- an item that has a function's type is a function
pub function_is : (found : Item) (ty : FnType) → function_type (Some found) ≡ Some ty → (func : Func) × (found ≡ item.Func func)
function_is (item.Var var) ty e = absurd (none-some ty e)
function_is (item.Func func) ty e = (func, refl)

-- Two items of one external name have one type.
pub one_type : (p : ProgramData) (s t : Sym) (found other : Item) → IsProgram p → item_at p.modules s ≡ Some found → item_at p.modules t ≡ Some other → linkage_of found ≡ External → linkage_of other ≡ External → item_name other ≡ item_name found
    → function_type (Some found) ≡ function_type (Some other)
one_type p s t found other program is at external outer same = types_are_one (function_type (Some found)) (function_type (Some other)) (λ apart. program.linked.no_clash (item_name found) (inl (record {
  one = s;
  other = t;
  one_found = found;
  other_found = other;
  one_of = record { stands = is; external = external; named = refl };
  other_of = record { stands = at; external = outer; named = same };
  differ = apart;
})))

-- An item has the type of the definition that it stands for.
pub resolved_type : (p : ProgramData) (at : Sym) (found : Item) (symbol : Sym) → IsProgram p → item_at p.modules at ≡ Some found → (r : Resolved p at found symbol) → function_type (Some found) ≡ function_type (Some r.definition)
resolved_type p at found symbol program is r = by r.other
  where
    by : (symbol ≡ at) ⊎ (linkage_of found ≡ External) → function_type (Some found) ≡ function_type (Some r.definition)
    by (inl e) = ap function_type (sym is ∙ ap (item_at p.modules) (sym e) ∙ r.stands)
    by (inr external) = one_type p at symbol found r.definition program is r.stands external (r.linkage ∙ external) r.name

-- ---- calls of copies

pub copy_call : (b : Basis) (k : ℕ) (o : Option Demand) (d : Demand) → written_as b k o ≡ CopyOf d → (o ≡ Some d) × (is_copy b d ≡ true)
copy_call b k None d e = absurd (own_copy e)
  where
    own_copy : Own k ≡ CopyOf d → ⊥
    own_copy h = cc
copy_call b k (Some x) d e = by (is_copy b x) refl e
  where
    by : (c : Bool) → is_copy b x ≡ c → (if c then CopyOf x else Own k) ≡ CopyOf d → (Some x ≡ Some d) × (is_copy b d ≡ true)
    by true is h = let same : x ≡ d = copy_is h in (ap Some same, subst (λ y. is_copy b y ≡ true) same is)
      where
        copy_is : CopyOf x ≡ CopyOf d → x ≡ d
        copy_is g = cc
    by false is h = absurd (own_copy h)
      where
        own_copy : Own k ≡ CopyOf d → ⊥
        own_copy g = cc

-- a call of a copy asks for a function that the item at the place stands for
pub record CallsCopy (p : ProgramData) (home k : ℕ) (d : Demand) : Type 0 where
  pub symbol : Sym
  pub pattern : List Known
  pub func : Func
  pub resolves : definition_of p home k ≡ Some symbol
  pub stands : item_at p.modules symbol ≡ Some (item.Func func)
  pub is : d ≡ function symbol pattern

pub calls_copy : (p : ProgramData) (cycles : List (List Bool)) (home k : ℕ) (known : List Known) (d : Demand) → called p cycles home (k, known) ≡ Some d → is_copy (basis p cycles) d ≡ true → CallsCopy p home k d
calls_copy p cycles home k known d e copy = by asked.found asked.stands asked.is
  where
    asked : AskedOf (by_call cycles known) p (definition_of p home k) d
    asked = asked_of (by_call cycles known) p (definition_of p home k) d e

    by : (found : Item) → item_at p.modules asked.symbol ≡ Some found → by_call cycles known asked.symbol found ≡ d → CallsCopy p home k d
    by (item.Var var) at is = absurd (false≢true (ap (is_copy (basis p cycles)) is ∙ copy))
    by (item.Func func) at is = record { symbol = asked.symbol; pattern = _; func = func; resolves = asked.resolved; stands = at; is = sym is }

-- ---- written items suit

module _ (p : ProgramData) (cycles : List (List Bool)) (members : List Member) (home : ℕ) (m w : Module) (f : Frame p cycles members home m w) where
  abbrev named : List Named
  named = all_names p cycles members home m w f

  abbrev place : Named → ℕ
  place = f.winnowed.place

  of_name : (one : Named) → Has named one → (found : Item) × (slice_get w.items (place one) ≡ Some found) × home_of.IsItemFor p cycles m one found
  of_name = item_of p cycles members home m w f

  pub copy_plain : (d : Demand) (found : Item) → CopyItem p cycles d found → is_intrinsic (item_name found) ≡ false
  copy_plain d found c =
      let unknown : are_unknown (pattern_of d) ≡ false = ap (λ x. are_unknown (pattern_of x)) c.known.is ∙ copy_pattern (basis p cycles) c.known.symbol c.known.pattern (ap (is_copy (basis p cycles)) (sym c.known.is) ∙ c.known.copy) in
      ap (λ x. is_intrinsic (item_name x)) c.is ∙ ap is_intrinsic c.name ∙ copy_not_intrinsic (pattern_of d) c.known.left.func.name unknown

  pub suit : Suit m.items w.items place named
  suit = record {
    own_there = λ k has. let one = of_name (Own k) has in within w.items (place (Own k)) one.0 one.1;
    own_intrinsic = λ k has.
        let one = of_name (Own k) has in
        ap is_intrinsic_item one.1 ∙ ap is_intrinsic one.2.name ∙ sym (ap is_intrinsic_item one.2.at);
    own_type = λ k has.
        let one = of_name (Own k) has in
        ap function_type one.1 ∙ one.2.type ∙ sym (ap function_type one.2.at);
    copy_there = λ d has. let one = of_name (CopyOf d) has in within w.items (place (CopyOf d)) one.0 one.1;
    copy_plain = λ d has. let one = of_name (CopyOf d) has in ap is_intrinsic_item one.1 ∙ copy_plain d one.0 one.2;
  }

  fixed : (func : Func) → IsSome func.body → OnSome func.body (func.variadic ≡ false) → func.variadic ≡ false
  fixed func some h = by func.body some h
    where
      by : (o : Option Body) → IsSome o → OnSome o (func.variadic ≡ false) → func.variadic ≡ false
      by None s g = absurd (false≢true s)
      by (Some x) s g = g

  -- Copies have the types that calls of them are written with.
  pub copies_suit : (k : ℕ) (known : List Known) (d : Demand) → call_name (basis p cycles) home (k, known) ≡ CopyOf d → Has named (CopyOf d) → (fn_ty : FnType) → function_type (slice_get m.items k) ≡ Some fn_ty
      → (fn_ty.variadic ≡ false) × (function_type (slice_get w.items (place (CopyOf d))) ≡ Some (record fn_ty { params = chosen (map is_unknown (pattern_of d)) fn_ty.params }))
  copies_suit k known d e has fn_ty is = by (slice_get m.items k) refl is
    where
      at : Sym
      at = record { «module» = home; item = k }

      call : (called p cycles home (k, known) ≡ Some d) × (is_copy (basis p cycles) d ≡ true)
      call = copy_call (basis p cycles) k (called p cycles home (k, known)) d e

      calls : CallsCopy p home k d
      calls = calls_copy p cycles home k known d call.0 call.1

      one : (found : Item) × (slice_get w.items (place (CopyOf d)) ≡ Some found) × CopyItem p cycles d found
      one = of_name (CopyOf d) has

      symbol_is : d ≡ function calls.symbol calls.pattern → d ≡ function one.2.known.symbol one.2.known.pattern → one.2.known.symbol ≡ calls.symbol
      symbol_is x y = ap symbol_of (sym y ∙ x)

      by : (o : Option Item) → slice_get m.items k ≡ o → function_type o ≡ Some fn_ty
          → (fn_ty.variadic ≡ false) × (function_type (slice_get w.items (place (CopyOf d))) ≡ Some (record fn_ty { params = chosen (map is_unknown (pattern_of d)) fn_ty.params }))
      by None here ty = absurd (none-some fn_ty ty)
      by (Some found) here ty =
          let stands : item_at p.modules at ≡ Some found = item_is p.modules at m f.stands ∙ here in
          let r = resolved p home k found calls.symbol f.program stands calls.resolves in
          let left = one.2.known.left in
          let same : item_at p.modules calls.symbol ≡ Some (item.Func left.func) = ap (item_at p.modules) (sym (symbol_is calls.is one.2.known.is)) ∙ function_at p one.2.known.symbol one.2.known.pattern one.2.known.body left in
          let of_def : Some (type_of left.func) ≡ Some fn_ty = ap function_type (sym same) ∙ ap function_type r.stands ∙ sym (resolved_type p at found calls.symbol f.program stands r) ∙ ty in
          let type_is : type_of left.func ≡ fn_ty = some_is of_def in
          let plain : left.func.variadic ≡ false = fixed left.func left.left.defined left.left.sound.formed.fixed in (
            ap (λ (t : FnType). t.variadic) (sym type_is) ∙ plain,
            ap function_type one.1 ∙ ap function_type (ap Some one.2.is) ∙ ap Some one.2.type ∙ ap (λ (t : FnType). Some (record t { params = chosen (map is_unknown (pattern_of d)) t.params })) type_is,
          )
