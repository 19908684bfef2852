use Rattle.occam_base.proofs.FileMaps.{gives_absent, gives_got}
use Rattle.occam_base.proofs.mem_shelf.MemShelfShelf.read_at.Goals as goal

pub returns-in-None-clause-gives : goal.returns-in-None-clause-gives
returns-in-None-clause-gives c =
    gives_absent c.args.name.now c.as_bytes-2.result.now c.args.self.now.files c.as_slice-files.result.now c.args.at c.args.buf.now c.args.buf.now
    c.as_bytes-2.ensures.value c.as_slice-files.ensures c.in-None.ensures.place

pub returns-in-Some-clause-gives : goal.returns-in-Some-clause-gives
returns-in-Some-clause-gives c =
    gives_got c.args.name.now c.as_bytes-2.result.now c.args.self.now.files c.as_slice-files.result.now c.in-Some.place c.index-files-place.result c.args.at
    c.args.buf.now c.fill-count.new.buf c.as_slice.result.now c.fill-count.result
    c.as_bytes-2.ensures.value c.as_slice-files.ensures c.in-Some.ensures.place c.as_slice.ensures c.fill-count.ensures.fills
