use Rattle.std.proofs.Common.{map, length, All, IfSome, sym, subst}
use Rattle.std.proofs.lemmas.Result.{on_ok_weaker}
use Rattle.ir_syntax.specs.FormedBody.{item_name, places_of, FormedBlock, FormedBody}
use Rattle.ir_writer.proofs.ItemTexts.{definition_written, declaration_written}
use Rattle.ir_writer.proofs.items.write_func.Goals as goal

pub write_blocks-requires-clause-formed : goal.write_blocks-requires-clause-formed
write_blocks-requires-clause-formed c =
    let body : FormedBody c.args.items.now (length c.args.func.now.params) c.in-Some.body = subst (λ o. IfSome o (FormedBody c.args.items.now (length c.args.func.now.params))) c.in-Some.is c.requires.has_body in
    let places = places_of c.args.items.now (length c.args.func.now.params) c.in-Some.body in
    (places, subst (λ blocks. All (FormedBlock places) blocks) (sym c.as_slice-in-Some.ensures) body.has_blocks)

pub returns-in_ok-write_blocks-in-Some : goal.returns-in_ok-write_blocks-in-Some
returns-in_ok-write_blocks-in-Some c =
    on_ok_weaker c.append-in-Some-2.result
    (λ e. definition_written (map item_name c.args.items.now) c.args.func.now c.in-Some.body c.as_slice.result.now c.as_slice-in-Some.result.now _ _ _ _ _ _ _ _
    c.in-Some.is c.as_slice.ensures c.as_slice-in-Some.ensures c.in_ok-append-in-Some.ensures.ok c.in_ok-write_linkage-in-Some.ensures c.in_ok-write_start-in-Some.ensures c.in_ok-write_defined_params-in-Some.ensures
    c.in_ok-append-in-Some-2.ensures.ok c.in_ok-write_blocks-in-Some.ensures e)
    c.append-in-Some-2.ensures.ok

pub returns-in_ok-write_dots-in-None : goal.returns-in_ok-write_dots-in-None
returns-in_ok-write_dots-in-None c =
    on_ok_weaker c.append-in-None-2.result
    (λ e. declaration_written (map item_name c.args.items.now) c.args.func.now c.as_slice-in-None.result.now c.len.result _ _ _ _ _ _
    c.in-None.is c.as_slice-in-None.ensures c.len.ensures c.in_ok-append-in-None.ensures.ok c.in_ok-write_start-in-None.ensures c.in_ok-write_declared_params-in-None.ensures c.in_ok-write_dots-in-None.ensures e)
    c.append-in-None-2.ensures.ok
