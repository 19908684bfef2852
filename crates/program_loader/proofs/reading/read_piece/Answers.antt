use Rattle.std.proofs.Common.{subst, length}
use Rattle.occam_base.specs.Files.{ReadOf}
use Rattle.occam_base.specs.declared.shelf.Read.{Read}
use Rattle.occam_base.specs.declared.shelf.Read.TheVariants.{Got}
use Rattle.program_loader.proofs.WholeFiles.{piece_got}
use Rattle.program_loader.proofs.reading.read_piece.Goals as goal

pub returns-in-Ok-clause-gives : goal.returns-in-Ok-clause-gives
returns-in-Ok-clause-gives g c =
    let files = g.S.Shelf.files c.args.shelf.now in
    let read : ReadOf files c.args.name.now (length c.args.text.now) c.args.room.now c.read_at.new.buf (Got c.in-Ok-Got.count) =
    subst (λ n. ReadOf files c.args.name.now n c.args.room.now c.read_at.new.buf (Got c.in-Ok-Got.count)) c.len.ensures
    (subst (λ (r : Read). ReadOf files c.args.name.now c.len.result c.args.room.now c.read_at.new.buf r) c.in-Ok-Got.field-0-is c.in-Ok-Got.ensures.gives) in
    piece_got files c.args.name.now c.args.text.now c.append.new.self c.args.room.now c.read_at.new.buf c.in-Ok-Got.count
    read c.requires (c.in-Ok-Got.ensures.within c.in-Ok-Got.count c.in-Ok-Got.field-0-is) c.in-Ok.ensures.ok
