use Rattle.ca_rows.proofs.space.Space.reuse_row.Given as goal

abbrev pub ghosts-reuse_as : goal.ghosts-reuse_as
ghosts-reuse_as g a = record { about = a._row }
