-- When two pieces conflict.
use Rattle.std.specs.Prelude.{Bool, ◌&&◌, ◌||◌}
use Rattle.claim_table.specs.Extents.{overlaps}
use Rattle.claim_table.specs.declared.claim.Claim.{Claim}

-- whether the pieces are of one volume, share a sector, and one of them writes
abbrev pub clash : Claim → Claim → Bool
clash c d = (c.piece.write || d.piece.write) && overlaps c.piece d.piece
