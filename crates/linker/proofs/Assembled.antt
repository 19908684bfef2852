-- The program that is put together.
use Rattle.std.proofs.Common.{◌≡◌, ◌∙◌, ℕ, List, [], ◌∷◌, refl, sym, ap, subst}
use Rattle.std.specs.List.{All, AllZip}
use Rattle.std.proofs.lemmas.List.Elements.{All-head, All-tail}
use Rattle.ir_types.specs.declared.scalar.Known.{Known}
use Rattle.ir_syntax.specs.declared.symbol.Sym.{Sym}
use Rattle.ir_syntax.specs.declared.symbol.Target.{Target}
use Rattle.ir_syntax.specs.declared.item.Module.{Module}
use Rattle.ir_syntax.specs.Symbols.{item_at, IsFunctionFor}
use Rattle.ir_syntax.specs.Refusals.{Deployment, Rule, all_rules, IsKept}
use Rattle.ir_syntax.specs.Programs.{ProgramData, AreSoundModules, IsProgram, Linked, IsEntryWith, IsNamedFunction}
use Rattle.linker.specs.declared.slot.Slot.{Slot}
use Rattle.linker.specs.Mirrors.Slots.{IsTable}
use Rattle.linker.specs.Mirrors.Rows.{rows_from, target_in, canonical_in}
use Rattle.linker.proofs.Entries.{targets_are, canonical_are}
use Rattle.linker.proofs.Deployed.{defined_all}

-- what linking found out
pub record IsFound (modules : List Module) (d : Deployment) (names : List (List ℕ)) (slots : List Slot) (entry : Sym) (args : List Known) (exports : List Sym) : Type 0 where
  pub sound : AreSoundModules modules
  pub table : IsTable modules d.outside names slots
  pub entry_is : IsEntryWith modules d entry args
  pub known : IsFunctionFor args (item_at modules entry)
  pub exports_are : AllZip (IsNamedFunction modules) d.exports exports
  pub kept : All (IsKept modules d) all_rules

abbrev pub assembled : List Module → List (List ℕ) → List Slot → Sym → List Known → List Sym → ProgramData
assembled modules names slots entry args exports = record {
  modules = modules;
  targets = rows_from (target_in names slots) 0 modules;
  canonical = rows_from (canonical_in names slots) 0 modules;
  entry = entry;
  entry_args = args;
  exports = exports;
}

pub is_linked : (modules : List Module) (d : Deployment) (names : List (List ℕ)) (slots : List Slot) (entry : Sym) (args : List Known) (exports : List Sym) → IsFound modules d names slots entry args exports → Linked modules d (assembled modules names slots entry args exports)
is_linked modules d names slots entry args exports h = record {
  modules_are = refl;
  kept = h.kept;
  targets = targets_are modules d.outside names slots h.table;
  canonical = canonical_are modules d.outside names slots h.table;
  entry = h.entry_is;
  exports = h.exports_are;
}

pub is_program : (modules : List Module) (d : Deployment) (names : List (List ℕ)) (slots : List Slot) (entry : Sym) (args : List Known) (exports : List Sym) → IsFound modules d names slots entry args exports → IsProgram (assembled modules names slots entry args exports)
is_program modules d names slots entry args exports h = record {
  sound = h.sound;
  canonical = canonical_are modules d.outside names slots h.table;
  outside = d.outside;
  linked = record {
    targets = targets_are modules d.outside names slots h.table;
    one_definition = All-head (IsKept modules d) Rule.TwoDefinitions (Rule.NoDefinition ∷ Rule.TypeClash ∷ Rule.NoEntry ∷ Rule.EntryShape ∷ Rule.NoExport ∷ Rule.ExportShape ∷ []) h.kept;
    none_missing = All-head (IsKept modules d) Rule.NoDefinition (Rule.TypeClash ∷ Rule.NoEntry ∷ Rule.EntryShape ∷ Rule.NoExport ∷ Rule.ExportShape ∷ []) second;
    no_clash = All-head (IsKept modules d) Rule.TypeClash (Rule.NoEntry ∷ Rule.EntryShape ∷ Rule.NoExport ∷ Rule.ExportShape ∷ []) (All-tail (IsKept modules d) Rule.NoDefinition (Rule.TypeClash ∷ Rule.NoEntry ∷ Rule.EntryShape ∷ Rule.NoExport ∷ Rule.ExportShape ∷ []) second);
  };
  entry = h.known;
  exports = defined_all modules d.exports exports h.exports_are;
}
  where
    second : All (IsKept modules d) (Rule.NoDefinition ∷ Rule.TypeClash ∷ Rule.NoEntry ∷ Rule.EntryShape ∷ Rule.NoExport ∷ Rule.ExportShape ∷ [])
    second = All-tail (IsKept modules d) Rule.TwoDefinitions (Rule.NoDefinition ∷ Rule.TypeClash ∷ Rule.NoEntry ∷ Rule.EntryShape ∷ Rule.NoExport ∷ Rule.ExportShape ∷ []) h.kept

-- the parts as they are found one by one, each of modules that are these
pub record AreFound (modules at_table at_entry at_exports : List Module) (d : Deployment) (names : List (List ℕ)) (slots : List Slot) (entry : Sym) (args : List Known) (exports : List Sym) : Type 0 where
  pub sound : AreSoundModules modules
  pub table_is : at_table ≡ modules
  pub entry_are : at_entry ≡ modules
  pub exports_same : at_exports ≡ modules
  pub table : IsTable at_table d.outside names slots
  pub entry_is : IsEntryWith at_entry d entry args
  pub known : IsFunctionFor args (item_at at_entry entry)
  pub exports_are : AllZip (IsNamedFunction at_exports) d.exports exports
  pub kept : All (IsKept at_exports d) all_rules

all_found : (modules at_table at_entry at_exports : List Module) (d : Deployment) (names : List (List ℕ)) (slots : List Slot) (entry : Sym) (args : List Known) (exports : List Sym) → AreFound modules at_table at_entry at_exports d names slots entry args exports → IsFound modules d names slots entry args exports
all_found modules at_table at_entry at_exports d names slots entry args exports h = record {
  sound = h.sound;
  table = subst (λ ms. IsTable ms d.outside names slots) h.table_is h.table;
  entry_is = subst (λ ms. IsEntryWith ms d entry args) h.entry_are h.entry_is;
  known = subst (λ ms. IsFunctionFor args (item_at ms entry)) h.entry_are h.known;
  exports_are = subst (λ ms. AllZip (IsNamedFunction ms) d.exports exports) h.exports_same h.exports_are;
  kept = subst (λ ms. All (IsKept ms d) all_rules) h.exports_same h.kept;
}

abbrev pub made : List Module → List (List Target) → List (List Sym) → Sym → List Known → List Sym → ProgramData
made modules targets canonical entry args exports = record { modules = modules; targets = targets; canonical = canonical; entry = entry; entry_args = args; exports = exports }

is_assembled : (modules at_targets at_canonical : List Module) (names : List (List ℕ)) (slots : List Slot) (entry : Sym) (args : List Known) (exports : List Sym) (targets : List (List Target)) (canonical : List (List Sym)) → at_targets ≡ modules → at_canonical ≡ modules
    → targets ≡ rows_from (target_in names slots) 0 at_targets → canonical ≡ rows_from (canonical_in names slots) 0 at_canonical → made modules targets canonical entry args exports ≡ assembled modules names slots entry args exports
is_assembled modules at_targets at_canonical names slots entry args exports targets canonical same_targets same_canonical t k =
    ap (λ ts. made modules ts canonical entry args exports) (t ∙ ap (rows_from (target_in names slots) 0) same_targets)
    ∙ ap (λ ks. made modules (rows_from (target_in names slots) 0 modules) ks entry args exports) (k ∙ ap (rows_from (canonical_in names slots) 0) same_canonical)

pub made_is_program : (modules at_table at_entry at_exports at_targets at_canonical : List Module) (d : Deployment) (names : List (List ℕ)) (slots : List Slot) (entry : Sym) (args : List Known) (exports : List Sym) (targets : List (List Target)) (canonical : List (List Sym))
    → AreFound modules at_table at_entry at_exports d names slots entry args exports → at_targets ≡ modules → at_canonical ≡ modules → targets ≡ rows_from (target_in names slots) 0 at_targets → canonical ≡ rows_from (canonical_in names slots) 0 at_canonical
    → IsProgram (made modules targets canonical entry args exports)
made_is_program modules at_table at_entry at_exports at_targets at_canonical d names slots entry args exports targets canonical h same_targets same_canonical t k =
    subst IsProgram (sym (is_assembled modules at_targets at_canonical names slots entry args exports targets canonical same_targets same_canonical t k))
    (is_program modules d names slots entry args exports (all_found modules at_table at_entry at_exports d names slots entry args exports h))

pub made_is_linked : (modules at_table at_entry at_exports at_targets at_canonical : List Module) (d : Deployment) (names : List (List ℕ)) (slots : List Slot) (entry : Sym) (args : List Known) (exports : List Sym) (targets : List (List Target)) (canonical : List (List Sym)) (program : ProgramData)
    → AreFound modules at_table at_entry at_exports d names slots entry args exports → at_targets ≡ modules → at_canonical ≡ modules → targets ≡ rows_from (target_in names slots) 0 at_targets → canonical ≡ rows_from (canonical_in names slots) 0 at_canonical
    → program ≡ made modules targets canonical entry args exports → Linked modules d program
made_is_linked modules at_table at_entry at_exports at_targets at_canonical d names slots entry args exports targets canonical program h same_targets same_canonical t k is =
    subst (Linked modules d) (sym (is ∙ is_assembled modules at_targets at_canonical names slots entry args exports targets canonical same_targets same_canonical t k))
    (is_linked modules d names slots entry args exports (all_found modules at_table at_entry at_exports d names slots entry args exports h))
