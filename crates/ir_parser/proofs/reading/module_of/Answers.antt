use Rattle.std.proofs.Common.{◌∙◌, Ok, None, ap, sym}
use Rattle.std.proofs.lemmas.Result.{err_from_is_err_and}
use Rattle.ir_scope.specs.Scopes.{env_of}
use Rattle.type_names.specs.Written.{named}
use Rattle.ir_parser.specs.Modules.{triple_from}
use Rattle.ir_parser.proofs.Resolving.{env_same, module_read, module_cause}
use Rattle.ir_parser.proofs.reading.module_of.Goals as goal

pub returns-clause-read : goal.returns-clause-read
returns-clause-read c =
    let same = env_same c.in_ok-expanded.expanded.scope c.args.entities.now (named c.as_slice.result.now) c.in_ok-symbols.symbols c.in_ok-expanded.ensures.types (ap named c.as_slice.ensures ∙ c.in_ok-types.ensures) c.in_ok-expanded.ensures.symbols c.in_ok-symbols.ensures in
    module_read (env_of c.in_ok-expanded.expanded.scope) c.args.entities.now c.in_ok-items.items same c.in_ok-items.ensures.read
    ∙ ap (λ l. Ok (record { layout = l; triple = triple_from None c.args.entities.now; items = c.in_ok-items.items })) (sym c.in_ok-layout.ensures)
    ∙ ap (λ t. Ok (record { layout = c.in_ok-layout.field-0; triple = t; items = c.in_ok-items.items })) (sym c.in_ok-triple.ensures)

pub returns-in_err-items-clause-refused : goal.returns-in_err-items-clause-refused
returns-in_err-items-clause-refused c =
    let same = env_same c.in_ok-expanded.expanded.scope c.args.entities.now (named c.as_slice.result.now) c.in_ok-symbols.symbols c.in_ok-expanded.ensures.types (ap named c.as_slice.ensures ∙ c.in_ok-types.ensures) c.in_ok-expanded.ensures.symbols c.in_ok-symbols.ensures in
    let p = err_from_is_err_and c.from_residual-in_err-items.result c.from_residual-in_err-items.ensures.1 in
    rw (p.1, p.2) (module_cause (env_of c.in_ok-expanded.expanded.scope) c.args.entities.now c.in_err-items.field-0.0 same c.in_err-items.ensures.refused)
