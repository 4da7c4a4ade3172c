use Rattle.claim_table.proofs.table.ClaimTable.close_region.Given as goal

abbrev pub ghosts-is_busy : goal.ghosts-is_busy
ghosts-is_busy a = record { name = a.blank.name; parts = a.blank.parts }
