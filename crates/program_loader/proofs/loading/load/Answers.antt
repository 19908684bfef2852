use Rattle.std.proofs.Common.{◌≤◌, List, length, sym, subst, IsUtf8}
use Rattle.std.specs.List.{All}
use Rattle.program_loader.proofs.Loads.{no_deployment, modules_refused, link_refused, loaded}
use Rattle.ir_syntax.specs.declared.item.Module.{Module}
use Rattle.program_loader.proofs.loading.load.Goals as goal

pub returns-in-Err-clause-gives : goal.returns-in-Err-clause-gives
returns-in-Err-clause-gives g c = no_deployment (g.S.Shelf.files c.args.shelf.now) c.args.manifest.now c.in-Err.refusal c.in-Err.ensures.gives

pub read_modules-requires-clause-names : goal.read_modules-requires-clause-names
read_modules-requires-clause-names g c = subst (All IsUtf8) (sym c.as_slice.ensures) c.in-Ok.ensures.names

pub returns-in-Err-read_modules-clause-gives : goal.returns-in-Err-read_modules-clause-gives
returns-in-Err-read_modules-clause-gives g c =
    modules_refused (g.S.Shelf.files c.args.shelf.now) (g.S.Shelf.files c.read_deployment.new.shelf) c.args.manifest.now c.in-Ok.deployed c.as_slice.result.now c.in-Err-read_modules.refusal
    c.in-Ok.ensures.alone.files c.as_slice.ensures c.in-Ok.ensures.gives c.in-Err-read_modules.ensures.gives

pub returns-in-Ok-link_modules-clause-gives : goal.returns-in-Ok-link_modules-clause-gives
returns-in-Ok-link_modules-clause-gives g c =
    loaded (g.S.Shelf.files c.args.shelf.now) (g.S.Shelf.files c.read_deployment.new.shelf) c.args.manifest.now c.in-Ok.deployed c.as_slice.result.now c.in-Ok-read_modules.modules c.in-Ok-link_modules.program
    c.in-Ok.ensures.alone.files c.as_slice.ensures c.in-Ok.ensures.gives c.in-Ok-read_modules.ensures.gives c.in-Ok-link_modules.ensures.linked

pub returns-in-Err-link_modules-clause-gives : goal.returns-in-Err-link_modules-clause-gives
returns-in-Err-link_modules-clause-gives g c =
    link_refused (g.S.Shelf.files c.args.shelf.now) (g.S.Shelf.files c.read_deployment.new.shelf) c.args.manifest.now c.in-Ok.deployed c.as_slice.result.now c.in-Ok-read_modules.modules c.in-Err-link_modules.refusal
    c.in-Ok.ensures.alone.files c.as_slice.ensures c.in-Ok.ensures.gives c.in-Ok-read_modules.ensures.gives c.in-Err-link_modules.ensures.refused

pub returns-in-Ok-link_modules-clause-small : goal.returns-in-Ok-link_modules-clause-small
returns-in-Ok-link_modules-clause-small g c =
    subst (λ (ms : List Module). All (λ m. length m.items ≤ 16777216) ms) (sym c.in-Ok-link_modules.ensures.linked.modules_are) c.in-Ok-read_modules.ensures.small
