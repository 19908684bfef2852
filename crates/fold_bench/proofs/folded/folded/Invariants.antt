use Rattle.fold_bench.proofs.folded.folded.Given as goal

abbrev pub ghosts-transfers_of : goal.ghosts-transfers_of
ghosts-transfers_of a = record { name = a.blank.name; parts = a.blank.parts }
