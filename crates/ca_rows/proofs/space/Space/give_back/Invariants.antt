use Rattle.ca_rows.proofs.space.Space.give_back.Given as goal

abbrev pub ghosts-regain_as : goal.ghosts-regain_as
ghosts-regain_as g a = record { about = a._row }
