use Rattle.qn_value.proofs.plain.times.Given as goal

abbrev pub ghosts-multiply : goal.ghosts-multiply
ghosts-multiply a = record { name = a.blank.name; parts = a.blank.parts }
