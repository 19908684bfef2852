use Rattle.std.proofs.Common.{◌∙◌, ◌++◌, map, ap, of_z, w64}
use Rattle.std.specs.Fmt.{signed_decimal}
use Rattle.std.proofs.lemmas.Int.{to_z-of_z}
use Rattle.std.proofs.lemmas.Result.{on_ok_weaker}
use Rattle.ir_syntax.specs.FormedBody.{item_name}
use Rattle.ir_writer.proofs.ConstantTexts.{address_written}
use Rattle.ir_writer.proofs.constants.write_address.Goals as goal

pub returns : goal.returns
returns c =
    on_ok_weaker c.append-3.result
    (λ e. address_written (map item_name c.args.items.now) c.args.place c.args.offset _ _ _ _ _ _ (λ here. c.if-offset-eq0.false (ap (of_z w64) here))
    c.in_ok-append.ensures.ok c.in_ok-write_symbol.ensures c.in_ok-append-2.ensures.ok (c.in_ok-write_signed_decimal.ensures ∙ ap (λ z. c.append-2.new.self ++ signed_decimal z) (to_z-of_z w64 c.args.offset c.ranges.offset)) e)
    c.append-3.ensures.ok
