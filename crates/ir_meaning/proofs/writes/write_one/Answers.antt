use Rattle.std.proofs.Common.{◌≡◌, sym}
use Rattle.block_memory.specs.declared.value.Val.TheVariants as val
use Rattle.ir_meaning.proofs.Opened.{is_write, has_byte, byte_written, found_at, same_name}
use Rattle.ir_meaning.proofs.writes.write_one.Goals as goal

pub write_byte-requires : goal.write_byte-requires
write_byte-requires c =
    let mem = c.args.memory.now in
    let args = c.args.args.now in
    let w = c.args.write.now in
    let h = is_write mem args w c.requires in
    let names = sym (same_name h.of c.in-At.of h.offset c.in-At.field-1 (found_at args w.0 (val.At h.of h.offset) (val.At c.in-At.of c.in-At.field-1) (val.Num 0) h.at c.in-At.is)) in
    record { room = has_byte mem args w h c.in-At.of names }

pub unreachable-requires-in-Poison : goal.unreachable-requires-in-Poison
unreachable-requires-in-Poison c =
    let mem = c.args.memory.now in
    let args = c.args.args.now in
    let w = c.args.write.now in
    let h = is_write mem args w c.requires in
    let e : val.At h.of h.offset ≡ val.Poison = found_at args w.0 (val.At h.of h.offset) val.Poison (val.Num 0) h.at c.in-Poison.is in
    cc (e)

pub returns : goal.returns
returns c =
    let mem = c.args.memory.now in
    let args = c.args.args.now in
    let w = c.args.write.now in
    let h = is_write mem args w c.requires in
    let names = sym (same_name h.of c.in-At.of h.offset c.in-At.field-1 (found_at args w.0 (val.At h.of h.offset) (val.At c.in-At.of c.in-At.field-1) (val.Num 0) h.at c.in-At.is)) in
    byte_written mem args w h c.in-At.of c.write_byte.new.self names c.write_byte.ensures
