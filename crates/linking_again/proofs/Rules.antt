-- The written modules keep the rules on the entry and the exports, and so all rules.
use Rattle.std.proofs.Common.{◌≡◌, ◌≢◌, ◌∙◌, ℕ, suc, ◌<◌, Bool, true, false, List, Some, All, Contains, length, refl, ap, sym, subst}
use Rattle.std.specs.Prelude.{slice_get}
use Rattle.std.specs.List.{AllZip}
use Rattle.ir_types.specs.declared.scalar.Scalar.TheVariants.{Ptr}
use Rattle.ir_types.proofs.ListSteps.{All-at}
use Rattle.ir_syntax.specs.declared.symbol.Sym.{Sym}
use Rattle.ir_syntax.specs.declared.item.Func.{Func}
use Rattle.ir_syntax.specs.declared.item.Param.{Param}
use Rattle.ir_syntax.specs.declared.item.Item.{Item}
use Rattle.ir_syntax.specs.declared.item.Item.TheVariants as item
use Rattle.ir_syntax.specs.declared.item.Module.{Module}
use Rattle.ir_syntax.specs.FormedBody.{item_name}
use Rattle.ir_syntax.specs.FunctionTypes.{type_of, function_type}
use Rattle.ir_syntax.specs.Refusals.{Deployment, HasPlainShape, IsArgumentOf, FitsEntry, HasOtherShape, LacksFunction, Rule, Breaks, IsKept, IsRefused, all_rules}
use Rattle.ir_syntax.specs.Refusals as rule
use Rattle.ir_syntax.specs.Symbols.{item_at, linkage_of, is_defined, IsFunctionOf}
use Rattle.ir_syntax.specs.Programs.{ProgramData, IsProgram, IsNamedFunction, Linked}
use Rattle.fold_facts.proofs.Lists.{some_is, there, within, zip_at, zip_length}
use Rattle.fold_facts.proofs.Arriving.{place_in}
use Rattle.demands.specs.declared.demand.Demand.{Demand}
use Rattle.demands.specs.Order.{symbol_of}
use Rattle.interface.specs.Roots.{by_root, roots}
use Rattle.residual_laws.proofs.Every.{all_of_every}
use Rattle.winnowed_form.specs.declared.member.Member.{Member}
use Rattle.winnowed_form.specs.Basis.{Basis, basis}
use Rattle.winnowed_form.specs.Clashes.{copy_names, AreFree}
use Rattle.winnowed_form.specs.Copies.{is_copy}
use Rattle.winnowed_form.specs.Winnowed.{AreWinnowedModules}
use Rattle.linking_again.specs.Whole.{demands_of, IsWhole}
use Rattle.linking_again.proofs.Home as at_home
use Rattle.linking_again.proofs.Home.{IsItemFor, OwnItem, member_name}
use Rattle.linking_again.proofs.Linking.{one_definition, none_missing, no_clash}
use Rattle.linking_again.proofs.Made as at_made
use Rattle.linking_again.proofs.Made.{WrittenFunc, written_function}
use Rattle.linking_again.proofs.Places.{item_is}
use Rattle.linking_again.proofs.Suiting.{function_is}
use Rattle.linking_again.proofs.Rooted.{root_in, entry_plain, export_plain}

-- What is asked of a function is asked of its parameters and its result alone.
abbrev pub IsOfShape : (Func → Type 0) → Type 0
IsOfShape Fits = (f g : Func) → f.params ≡ g.params → f.returns ≡ g.returns → Fits g → Fits f

plain_of_shape : IsOfShape HasPlainShape
plain_of_shape f g params returns h = record { params = subst (All (λ (param : Param). param.ty ≢ Ptr)) (sym params) h.params; returns = subst (λ r. r ≢ Some Ptr) (sym returns) h.returns }

module _ (p : ProgramData) (cycles : List (List Bool)) (members : List Member) (made : List Module) (program : IsProgram p) (whole : IsWhole p cycles members) (free : AreFree p.modules (copy_names (basis p cycles) members))
    (are : AreWinnowedModules (basis p cycles) members made) where
  abbrev b : Basis
  b = basis p cycles

  abbrev D : Demand → Type 0
  D = Contains (demands_of members)

  -- ---- functions stay

  pub record HasFunction (name : List ℕ) : Type 0 where
    pub symbol : Sym
    pub func : Func
    pub is : IsFunctionOf made name symbol func

  -- a function that is demanded under its own name is there
  function_stays : (name : List ℕ) (d : Demand) (func : Func) → D d → is_copy b d ≡ false → IsFunctionOf p.modules name (symbol_of d) func → HasFunction name
  function_stays name d func c plain of =
      let h = at_made.has_definition p cycles members made program whole free are d c in
      let plain_then : is_copy b h.by.defined.member.demand ≡ false = ap (is_copy b) h.of ∙ plain in
      let original : h.by.written_as.original ≡ item.Func func = some_is (sym h.by.written_as.stands ∙ ap (λ e. item_at p.modules (symbol_of e)) h.of ∙ of.is_of.stands) in
      let own = subst (λ n. IsItemFor p cycles h.by.at.m n h.found) ((member_name p cycles h.by.defined.member.demand).plain plain_then) (at_home.defined_item p cycles members h.symbol.module h.by.at.m h.by.w h.by.at.frame h.symbol.item h.found h.by.defined) in
      let original_at : item_at p.modules (symbol_of h.by.defined.member.demand) ≡ Some own.original = item_is p.modules (symbol_of h.by.defined.member.demand) h.by.at.m (ap (slice_get p.modules) h.by.here ∙ h.by.at.frame.stands) ∙ own.at in
      let same : own.original ≡ item.Func func = some_is (sym original_at ∙ ap (λ e. item_at p.modules (symbol_of e)) h.of ∙ of.is_of.stands) in
      let f = function_is h.found (type_of func) (own.type ∙ ap (λ x. function_type (Some x)) same) in
      record {
        symbol = h.symbol;
        func = f.0;
        is = record {
          is_of = record {
            stands = h.stands ∙ ap Some f.1;
            external = ap linkage_of (sym f.1) ∙ h.by.written_as.linkage ∙ ap linkage_of original ∙ of.is_of.external;
            named = ap item_name (sym f.1) ∙ h.by.written_as.name plain_then ∙ ap item_name original ∙ of.is_of.named;
          };
          has_body = ap is_defined (sym f.1) ∙ h.by.written_as.still;
        };
      }

  -- a function of the written modules with the name of an item is the program's
  shape_back : (Fits : Func → Type 0) (name : List ℕ) (at : Sym) (original : Item) → IsOfShape Fits → item_at p.modules at ≡ Some original → item_name original ≡ name → HasOtherShape made Fits name → HasOtherShape p.modules Fits name
  shape_back Fits name at original of_shape stands named other = by (is_copy b d.defined.member.demand) refl
    where
      found : Item
      found = item.Func other.func

      d : at_made.DefinedBy p cycles members made program whole free are other.symbol (item.Func other.func)
      d = at_made.definition_by p cycles members made program whole free are other.symbol (item.Func other.func) other.is_function.is_of.stands other.is_function.has_body

      by : (c : Bool) → is_copy b d.defined.member.demand ≡ c → HasOtherShape p.modules Fits name
      by true c = absurd (at_made.copy_or_item p cycles members made program whole free are other.symbol (item.Func other.func) at original d c stands (other.is_function.is_of.named ∙ sym named))
      by false c =
          let w = written_function p cycles other.symbol.module d.at.frame.winnowed.place d.defined.member.demand d.defined.member.body other.func d.left d.defined.is c in
          let same : d.written_as.original ≡ item.Func w.original = some_is (sym d.written_as.stands ∙ w.stands) in
          record {
            symbol = symbol_of d.defined.member.demand;
            func = w.original;
            is_function = record {
              is_of = record {
                stands = w.stands;
                external = ap linkage_of (sym same) ∙ sym d.written_as.linkage ∙ other.is_function.is_of.external;
                named = ap item_name (sym same) ∙ sym (d.written_as.name c) ∙ other.is_function.is_of.named;
              };
              has_body = w.body;
            };
            misfits = λ fits. other.misfits (of_shape other.func w.original w.params w.returns fits);
          }

  -- ---- entry and exports

  module _ (d : Deployment) (linked : Linked p.modules d p) where
    kept : (k : ℕ) (r : Rule) → slice_get all_rules k ≡ Some r → IsKept p.modules d r
    kept k r is = All-at (IsKept p.modules d) all_rules k r linked.kept is

    entry_of_shape : IsOfShape (FitsEntry d.args)
    entry_of_shape f g params returns h = record { plain = plain_of_shape f g params returns h.plain; args_fit = subst (λ l. AllZip IsArgumentOf l d.args) (sym params) h.args_fit }

    root_demanded : (e : Demand) → Contains (roots p cycles) e → D e
    root_demanded e c = let at = place_in (roots p cycles) e c in All-at D (roots p cycles) at.0 e whole.rooted at.1

    entry_there : HasFunction d.entry
    entry_there =
        let e = linked.entry in
        function_stays d.entry (by_root p cycles p.entry (item.Func e.func)) e.func (root_demanded (by_root p cycles p.entry (item.Func e.func)) (root_in p cycles 0 p.entry (item.Func e.func) refl e.is_function.is_of.stands))
        (entry_plain p cycles e.func e.is_function.is_of.stands) e.is_function

    -- an export's function in the program
    export_of : (name : List ℕ) → Contains d.exports name → (k : ℕ) × (symbol : Sym) × (slice_get p.exports k ≡ Some symbol) × IsNamedFunction p.modules name symbol
    export_of name c =
        let at = place_in d.exports name c in
        let less : at.0 < length p.exports = subst (λ n. at.0 < n) (sym (zip_length (IsNamedFunction p.modules) d.exports p.exports linked.exports)) (within d.exports at.0 name at.1) in
        let one = there p.exports at.0 less in
        (at.0, one.0, one.1, zip_at (IsNamedFunction p.modules) d.exports p.exports at.0 name one.0 linked.exports at.1 one.1)

    export_there : (name : List ℕ) → Contains d.exports name → HasFunction name
    export_there name c =
        let e = export_of name c in
        let func = e.3.func in
        function_stays name (by_root p cycles e.1 (item.Func func)) func (root_demanded (by_root p cycles e.1 (item.Func func)) (root_in p cycles (suc e.0) e.1 (item.Func func) e.2 e.3.is_function.is_of.stands))
        (export_plain p cycles e.0 e.1 func e.2) e.3.is_function

    -- ---- all rules

    no_entry : IsKept made d rule.NoEntry
    no_entry name h = let f = entry_there in h.1 f.symbol f.func (subst (λ n. IsFunctionOf made n f.symbol f.func) (sym h.0) f.is)

    entry_shape : IsKept made d rule.EntryShape
    entry_shape name h = kept 4 rule.EntryShape refl name (h.0, shape_back (FitsEntry d.args) name p.entry (item.Func linked.entry.func) entry_of_shape linked.entry.is_function.is_of.stands (linked.entry.is_function.is_of.named ∙ sym h.0) h.1)

    no_export : IsKept made d rule.NoExport
    no_export name h = let f = export_there name h.0 in h.1 f.symbol f.func f.is

    export_shape : IsKept made d rule.ExportShape
    export_shape name h =
        let e = export_of name h.0 in
        kept 6 rule.ExportShape refl name (h.0, shape_back HasPlainShape name e.1 (item.Func e.3.func) plain_of_shape e.3.is_function.is_of.stands e.3.is_function.is_of.named h.1)

    pub rules_kept : All (IsKept made d) all_rules
    rules_kept = all_of_every (IsKept made d) all_rules (
      (λ name. one_definition p cycles members made program whole free are name),
      (
        (λ name. none_missing p cycles members made program whole free are d.outside (kept 1 rule.NoDefinition refl) name),
        ((λ name. no_clash p cycles members made program whole free are name), (no_entry, (entry_shape, (no_export, (export_shape, tt))))),
      ),
    )

    -- no name is refused
    broken : (r : Rule) (name : List ℕ) → IsRefused made d r name → Breaks made d r name
    broken rule.TwoDefinitions name h = h.chosen.broken
    broken rule.NoDefinition name h = h.chosen.broken
    broken rule.TypeClash name h = h.chosen.broken
    broken rule.NoEntry name h = h.chosen.broken
    broken rule.EntryShape name h = h.chosen.broken
    broken rule.NoExport name h = h.chosen.broken
    broken rule.ExportShape name h = h.chosen.broken

    each_kept : (r : Rule) → IsKept made d r
    each_kept rule.TwoDefinitions = λ name. one_definition p cycles members made program whole free are name
    each_kept rule.NoDefinition = λ name. none_missing p cycles members made program whole free are d.outside (kept 1 rule.NoDefinition refl) name
    each_kept rule.TypeClash = λ name. no_clash p cycles members made program whole free are name
    each_kept rule.NoEntry = no_entry
    each_kept rule.EntryShape = entry_shape
    each_kept rule.NoExport = no_export
    each_kept rule.ExportShape = export_shape

    pub none_refused : (r : Rule) (name : List ℕ) → IsRefused made d r name → ⊥
    none_refused r name h = each_kept r name (broken r name h)
