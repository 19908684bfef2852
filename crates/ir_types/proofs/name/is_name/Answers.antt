use Rattle.std.proofs.Common.{◌≡◌, ◌∙◌, sym, rules}
use Rattle.ir_types.specs.Names.{is_name}
use Rattle.ir_types.proofs.Naming.{name-is, is-name}
use Rattle.ir_types.proofs.name.is_name.Goals as goal

pub returns-then-bytes-le-LONGEST-clause-names : goal.returns-then-bytes-le-LONGEST-clause-names
returns-then-bytes-le-LONGEST-clause-names c =
    let is : c.has_no_zero.result ≡ is_name c.args.bytes.now = search rules in
    (λ e. name-is c.args.bytes.now (sym is ∙ e), λ n. is ∙ is-name c.args.bytes.now n)
