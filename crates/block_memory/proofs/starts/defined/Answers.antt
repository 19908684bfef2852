use Rattle.std.proofs.Common.{◌≡◌, ◌+◌, Some, length, option_map, true, false, not, ap, sym, ◌∙◌, arith}
use Rattle.std.proofs.lemmas.List.{length-replicate}
use Rattle.ir_types.specs.Layout.{size}
use Rattle.ir_syntax.specs.InitialBytes.{initial_parts}
use Rattle.block_memory.specs.Making.{first_byte}
use Rattle.block_memory.specs.Starts.{variable_block, named_parts}
use Rattle.block_memory.specs.Mirrors.Laying.{IsLaid}
use Rattle.block_memory.proofs.Starting.{on_ok, set_whole}
use Rattle.block_memory.proofs.starts.defined.Goals as goal

pub returns : goal.returns
returns c =
    let laid : IsLaid c.args.p.now c.args.home (initial_parts c.args.init.now c.args.var.now.ty) 0 (0 + size c.args.var.now.ty) c.in_ok-parts.parts c.lay.new.parts = c.lay.ensures in
    let room : length c.in_ok-parts.parts ≡ size c.args.var.now.ty =
    ap length c.in_ok-parts.ensures ∙ length-replicate c.bytes_in.result (first_byte true) ∙ c.bytes_in.ensures in
    let whole : c.lay.new.parts ≡ laid.bytes = laid.written ∙ set_whole c.in_ok-parts.parts laid.bytes (omega (arith, laid.ends, room)) in
    on_ok c.new-2.result (λ block. block ≡ record { parts = c.lay.new.parts; writable = not c.args.var.now.constant; heap = false })
    (λ block. option_map (variable_block c.args.var.now) (named_parts c.args.p.now c.args.home (initial_parts c.args.init.now c.args.var.now.ty)) ≡ Some block)
    (λ block made. ap (option_map (variable_block c.args.var.now)) laid.named ∙ ap (λ parts. Some (variable_block c.args.var.now parts)) (sym whole) ∙ ap Some (sym made)) c.new-2.ensures
