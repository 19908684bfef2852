use Rattle.std.proofs.Common.{◌≡◌, ◌<◌, ◌^◌, ◌≤◌, List, length, sum_by, sym, subst, arith}
use Rattle.ir_syntax.specs.declared.item.Module.{Module}
use Rattle.occam_tool.specs.Counts.{function_count, variable_count, instruction_count, module_count, counts_of}
use Rattle.occam_tool.proofs.LoadedChecks.{refused_checks, loaded_checks, checks_unread}
use Rattle.occam_tool.proofs.Counted.{functions_small, variables_small, instructions_small}
use Rattle.occam_tool.proofs.checking.check.Goals as goal

pub returns-in-Err-clause-answer : goal.returns-in-Err-clause-answer
returns-in-Err-clause-answer g c = λ f.
    refused_checks (g.S.Shelf.files c.args.shelf.now) c.as_slice.result.now c.args.manifest.now c.in-Err.refusal c.as_slice.ensures c.in-Err.ensures.gives f

pub returns-in-Err-clause-unread : goal.returns-in-Err-clause-unread
returns-in-Err-clause-unread g c = λ e.
    checks_unread (g.S.Shelf.files c.args.shelf.now) c.as_slice.result.now c.args.manifest.now c.in-Err.refusal c.as_slice.ensures c.in-Err.ensures.gives e

pub counts_of-requires-clause-functions : goal.counts_of-requires-clause-functions
counts_of-requires-clause-functions g c =
    let few : length c.in-Ok.loaded.program.modules ≤ 256 = omega (arith, c.in-Ok.ensures.modules, c.in-Ok.ensures.few) in
    let small : sum_by (module_count function_count) c.in-Ok.loaded.program.modules < 2 ^ 63 = functions_small c.in-Ok.loaded.program.modules c.modules.ensures.program.sound.sound c.in-Ok.ensures.small few in
    subst (λ (ms : List Module). sum_by (module_count function_count) ms < 2 ^ 63) (sym c.modules.ensures.modules) small

pub counts_of-requires-clause-variables : goal.counts_of-requires-clause-variables
counts_of-requires-clause-variables g c =
    let few : length c.in-Ok.loaded.program.modules ≤ 256 = omega (arith, c.in-Ok.ensures.modules, c.in-Ok.ensures.few) in
    let small : sum_by (module_count variable_count) c.in-Ok.loaded.program.modules < 2 ^ 63 = variables_small c.in-Ok.loaded.program.modules c.modules.ensures.program.sound.sound c.in-Ok.ensures.small few in
    subst (λ (ms : List Module). sum_by (module_count variable_count) ms < 2 ^ 63) (sym c.modules.ensures.modules) small

pub counts_of-requires-clause-instructions : goal.counts_of-requires-clause-instructions
counts_of-requires-clause-instructions g c =
    let few : length c.in-Ok.loaded.program.modules ≤ 256 = omega (arith, c.in-Ok.ensures.modules, c.in-Ok.ensures.few) in
    let small : sum_by (module_count instruction_count) c.in-Ok.loaded.program.modules < 2 ^ 63 = instructions_small c.in-Ok.loaded.program.modules c.modules.ensures.program.sound.sound c.in-Ok.ensures.small few in
    subst (λ (ms : List Module). sum_by (module_count instruction_count) ms < 2 ^ 63) (sym c.modules.ensures.modules) small

pub returns-in-Ok-clause-answer : goal.returns-in-Ok-clause-answer
returns-in-Ok-clause-answer g c = λ f.
    loaded_checks (g.S.Shelf.files c.args.shelf.now) c.as_slice.result.now c.args.manifest.now c.in-Ok.loaded c.counts_of.result c.as_slice.ensures c.in-Ok.ensures.gives
    (subst (λ (ms : List Module). c.counts_of.result ≡ counts_of ms) c.modules.ensures.modules c.counts_of.ensures)
