use Rattle.std.proofs.Common.{◌∙◌, length, ap, sym, subst, refl, List, ℕ, ℤ, Option}
use Rattle.std.proofs.lemmas.Bool.{false≢true}
use Rattle.ir_syntax.specs.declared.item.Param.{Param}
use Rattle.ir_syntax.specs.Refusals.{Rule, IsRefused, IsArgumentOf, FitsEntry}
use Rattle.ir_syntax.specs.Programs.{arguments_of}
use Rattle.linker.specs.Linking.{deployment_of}
use Rattle.linker.specs.Mirrors.Slots.{slot_of, function_in}
use Rattle.linker.proofs.Steps.{zip_long}
use Rattle.linker.proofs.Tables.{function_found, function_lacks}
use Rattle.linker.proofs.Deployed.{single_at_entry, no_entry, entry_misfits, entry_kept, entry_with, function_for}
use Rattle.linker.proofs.functions.Entry.of.Goals as goal

pub returns-then-not-fits_entry-clause-refused : goal.returns-then-not-fits_entry-clause-refused
returns-then-not-fits_entry-clause-refused c =
    subst (λ (n : List ℕ). IsRefused c.args.modules.now (deployment_of c.args.manifest.now) Rule.EntryShape n) (sym c.in_ok-symbol-in-Some.ensures)
    (entry_misfits c.args.modules.now (deployment_of c.args.manifest.now) c.in-Some.symbol c.function_at-func.result.now c.requires.kept (function_found c.args.modules.now c.args.manifest.now.outside c.args.table.now.names c.args.table.now.slots c.args.manifest.now.entry c.in-Some.symbol c.requires.table (ap (λ (n : List ℕ). function_in c.args.modules.now (slot_of c.args.table.now.names c.args.table.now.slots n)) (sym c.as_slice.ensures) ∙ sym c.in-Some.ensures)) c.function_at-func.ensures
    (λ fits. false≢true (c.if-not-fits_entry.ensures.1 (subst (λ (gs : List (Option ℤ)). FitsEntry gs c.function_at-func.result.now) (sym c.as_slice-args.ensures) fits))))

pub arguments_of-requires-clause-long : goal.arguments_of-requires-clause-long
arguments_of-requires-clause-long c = ap length c.as_slice-in-Some.ensures ∙ zip_long IsArgumentOf c.function_at-func.result.now.params c.as_slice-args.result.now (c.if-not-fits_entry.ensures.0 refl).args_fit

pub returns-in_ok-args-in-Some-clause-entry : goal.returns-in_ok-args-in-Some-clause-entry
returns-in_ok-args-in-Some-clause-entry c = entry_with c.args.modules.now (deployment_of c.args.manifest.now) c.in-Some.symbol c.function_at-func.result.now c.in_ok-args-in-Some.args (function_found c.args.modules.now c.args.manifest.now.outside c.args.table.now.names c.args.table.now.slots c.args.manifest.now.entry c.in-Some.symbol c.requires.table (ap (λ (n : List ℕ). function_in c.args.modules.now (slot_of c.args.table.now.names c.args.table.now.slots n)) (sym c.as_slice.ensures) ∙ sym c.in-Some.ensures)) c.function_at-func.ensures (c.in_ok-args-in-Some.ensures ∙ ap (λ (ps : List Param). arguments_of ps c.as_slice-args.result.now) c.as_slice-in-Some.ensures ∙ ap (λ (gs : List (Option ℤ)). arguments_of c.function_at-func.result.now.params gs) c.as_slice-args.ensures)

pub returns-in_ok-args-in-Some-clause-known : goal.returns-in_ok-args-in-Some-clause-known
returns-in_ok-args-in-Some-clause-known c = function_for c.args.modules.now (deployment_of c.args.manifest.now) c.in-Some.symbol c.function_at-func.result.now c.in_ok-args-in-Some.args (function_found c.args.modules.now c.args.manifest.now.outside c.args.table.now.names c.args.table.now.slots c.args.manifest.now.entry c.in-Some.symbol c.requires.table (ap (λ (n : List ℕ). function_in c.args.modules.now (slot_of c.args.table.now.names c.args.table.now.slots n)) (sym c.as_slice.ensures) ∙ sym c.in-Some.ensures)) c.function_at-func.ensures (subst (λ (gs : List (Option ℤ)). FitsEntry gs c.function_at-func.result.now) c.as_slice-args.ensures (c.if-not-fits_entry.ensures.0 refl)) (c.in_ok-args-in-Some.ensures ∙ ap (λ (ps : List Param). arguments_of ps c.as_slice-args.result.now) c.as_slice-in-Some.ensures ∙ ap (λ (gs : List (Option ℤ)). arguments_of c.function_at-func.result.now.params gs) c.as_slice-args.ensures)

pub returns-in_ok-args-in-Some-clause-kept : goal.returns-in_ok-args-in-Some-clause-kept
returns-in_ok-args-in-Some-clause-kept c = entry_kept c.args.modules.now (deployment_of c.args.manifest.now) c.in-Some.symbol c.function_at-func.result.now c.requires.kept (function_found c.args.modules.now c.args.manifest.now.outside c.args.table.now.names c.args.table.now.slots c.args.manifest.now.entry c.in-Some.symbol c.requires.table (ap (λ (n : List ℕ). function_in c.args.modules.now (slot_of c.args.table.now.names c.args.table.now.slots n)) (sym c.as_slice.ensures) ∙ sym c.in-Some.ensures)) c.function_at-func.ensures (subst (λ (gs : List (Option ℤ)). FitsEntry gs c.function_at-func.result.now) c.as_slice-args.ensures (c.if-not-fits_entry.ensures.0 refl))

pub returns-in_ok-symbol-in-None-clause-refused : goal.returns-in_ok-symbol-in-None-clause-refused
returns-in_ok-symbol-in-None-clause-refused c =
    subst (λ (n : List ℕ). IsRefused c.args.modules.now (deployment_of c.args.manifest.now) Rule.NoEntry n) (sym c.in_ok-symbol-in-None.ensures)
    (no_entry c.args.modules.now (deployment_of c.args.manifest.now) c.requires.kept (function_lacks c.args.modules.now c.args.manifest.now.outside c.args.table.now.names c.args.table.now.slots c.args.manifest.now.entry c.requires.table (single_at_entry c.args.modules.now (deployment_of c.args.manifest.now) c.requires.kept c.args.manifest.now.entry) (ap (λ (n : List ℕ). function_in c.args.modules.now (slot_of c.args.table.now.names c.args.table.now.slots n)) (sym c.as_slice.ensures) ∙ sym c.in-None.ensures)))
