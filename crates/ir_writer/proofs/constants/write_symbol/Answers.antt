use Rattle.std.proofs.Common.{map}
use Rattle.std.proofs.lemmas.Result.{on_ok_weaker}
use Rattle.ir_syntax.specs.FormedBody.{item_name}
use Rattle.ir_writer.proofs.ConstantTexts.{symbol_written}
use Rattle.ir_writer.proofs.constants.write_symbol.Goals as goal

pub returns : goal.returns
returns c =
    on_ok_weaker c.write_name.result
    (λ e. symbol_written (map item_name c.args.items.now) c.args.place _ _ _ _ c.name_at.ensures c.in_ok-append.ensures.ok e)
    c.write_name.ensures
