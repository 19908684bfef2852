use Rattle.std.proofs.Common.{List, ℕ, Option, subst}
use Rattle.ir_syntax.specs.Refusals.{Rule}
use Rattle.linker.specs.Linking.{deployment_of}
use Rattle.linker.specs.Mirrors.Slots.{IsTable, IsLeastName}
use Rattle.linker.proofs.Deployed.{two_refused, missing_refused, clash_refused, names_kept}
use Rattle.linker.proofs.names.table_of.Goals as goal

pub returns-in-Some-clause-refused : goal.returns-in-Some-clause-refused
returns-in-Some-clause-refused c = two_refused c.args.modules.now (deployment_of c.args.manifest.now) c.in-Some.symbol (subst (λ (o : Option (List ℕ)). IsLeastName c.args.modules.now (deployment_of c.args.manifest.now) Rule.TwoDefinitions o) c.in-Some.is (c.in_ok-symbol.ensures (deployment_of c.args.manifest.now) (subst (λ (o : List (List ℕ)). IsTable c.args.modules.now o c.in_ok-table.table.names c.in_ok-table.table.slots) c.as_slice.ensures c.in_ok-table.ensures)))

pub returns-in-Some-2-clause-refused : goal.returns-in-Some-2-clause-refused
returns-in-Some-2-clause-refused c = missing_refused c.args.modules.now (deployment_of c.args.manifest.now) c.in-Some-2.symbol (subst (λ (o : Option (List ℕ)). IsLeastName c.args.modules.now (deployment_of c.args.manifest.now) Rule.TwoDefinitions o) c.in-None.is (c.in_ok-symbol.ensures (deployment_of c.args.manifest.now) (subst (λ (o : List (List ℕ)). IsTable c.args.modules.now o c.in_ok-table.table.names c.in_ok-table.table.slots) c.as_slice.ensures c.in_ok-table.ensures))) (subst (λ (o : Option (List ℕ)). IsLeastName c.args.modules.now (deployment_of c.args.manifest.now) Rule.NoDefinition o) c.in-Some-2.is (c.in_ok-symbol-2.ensures (deployment_of c.args.manifest.now) (subst (λ (o : List (List ℕ)). IsTable c.args.modules.now o c.in_ok-table.table.names c.in_ok-table.table.slots) c.as_slice.ensures c.in_ok-table.ensures)))

pub returns-in-Some-3-clause-refused : goal.returns-in-Some-3-clause-refused
returns-in-Some-3-clause-refused c = clash_refused c.args.modules.now (deployment_of c.args.manifest.now) c.in-Some-3.symbol (subst (λ (o : Option (List ℕ)). IsLeastName c.args.modules.now (deployment_of c.args.manifest.now) Rule.TwoDefinitions o) c.in-None.is (c.in_ok-symbol.ensures (deployment_of c.args.manifest.now) (subst (λ (o : List (List ℕ)). IsTable c.args.modules.now o c.in_ok-table.table.names c.in_ok-table.table.slots) c.as_slice.ensures c.in_ok-table.ensures))) (subst (λ (o : Option (List ℕ)). IsLeastName c.args.modules.now (deployment_of c.args.manifest.now) Rule.NoDefinition o) c.in-None-2.is (c.in_ok-symbol-2.ensures (deployment_of c.args.manifest.now) (subst (λ (o : List (List ℕ)). IsTable c.args.modules.now o c.in_ok-table.table.names c.in_ok-table.table.slots) c.as_slice.ensures c.in_ok-table.ensures))) (subst (λ (o : Option (List ℕ)). IsLeastName c.args.modules.now (deployment_of c.args.manifest.now) Rule.TypeClash o) c.in-Some-3.is (c.in_ok-symbol-3.ensures (deployment_of c.args.manifest.now) (subst (λ (o : List (List ℕ)). IsTable c.args.modules.now o c.in_ok-table.table.names c.in_ok-table.table.slots) c.as_slice.ensures c.in_ok-table.ensures)))

pub returns-clause-kept : goal.returns-clause-kept
returns-clause-kept c = names_kept c.args.modules.now (deployment_of c.args.manifest.now) (subst (λ (o : Option (List ℕ)). IsLeastName c.args.modules.now (deployment_of c.args.manifest.now) Rule.TwoDefinitions o) c.in-None.is (c.in_ok-symbol.ensures (deployment_of c.args.manifest.now) (subst (λ (o : List (List ℕ)). IsTable c.args.modules.now o c.in_ok-table.table.names c.in_ok-table.table.slots) c.as_slice.ensures c.in_ok-table.ensures))) (subst (λ (o : Option (List ℕ)). IsLeastName c.args.modules.now (deployment_of c.args.manifest.now) Rule.NoDefinition o) c.in-None-2.is (c.in_ok-symbol-2.ensures (deployment_of c.args.manifest.now) (subst (λ (o : List (List ℕ)). IsTable c.args.modules.now o c.in_ok-table.table.names c.in_ok-table.table.slots) c.as_slice.ensures c.in_ok-table.ensures))) (subst (λ (o : Option (List ℕ)). IsLeastName c.args.modules.now (deployment_of c.args.manifest.now) Rule.TypeClash o) c.in-None-3.is (c.in_ok-symbol-3.ensures (deployment_of c.args.manifest.now) (subst (λ (o : List (List ℕ)). IsTable c.args.modules.now o c.in_ok-table.table.names c.in_ok-table.table.slots) c.as_slice.ensures c.in_ok-table.ensures)))
