use Rattle.fold_rows.proofs.said_of.Given as goal

abbrev pub ghosts-first_said : goal.ghosts-first_said
ghosts-first_said a = record { name = a.blank.name; parts = a.blank.parts }
