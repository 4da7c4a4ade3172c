use Rattle.session_tests.proofs.claims.busy_takes_few_steps.Given as goal

abbrev pub ghosts-is_busy_in_none : goal.ghosts-is_busy_in_none
ghosts-is_busy_in_none g a = record { name = a.blank.name; parts = a.blank.parts }

abbrev pub ghosts-is_busy_in_ten : goal.ghosts-is_busy_in_ten
ghosts-is_busy_in_ten g a = record { name = a.blank.name; parts = a.blank.parts }
