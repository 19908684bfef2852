use Rattle.std.proofs.Common.{◌≡◌, take}
use Rattle.program_loader.proofs.Walks.{IsWalked}
use Rattle.program_loader.proofs.walking.read_modules.Given as goal

abbrev pub invariant-loop-name : goal.invariant-loop-name
invariant-loop-name g l = record {
  walked : IsWalked (g.S.Shelf.files l.fn.shelf) (take l.name-index l.names) l.walk;
  files : g.S.Shelf.files l.shelf ≡ g.S.Shelf.files l.fn.shelf;
  reads : g.S.Shelf.read_faults l.shelf ≡ g.S.Shelf.read_faults l.fn.shelf;
  puts : g.S.Shelf.put_faults l.shelf ≡ g.S.Shelf.put_faults l.fn.shelf;
}
