-- That started pieces share no sector of which one is written.
use Rattle.claim_table.specs.Claims.{IsApart}
use Rattle.piece_table.specs.Pieces.{AreClaimed, AreWaiting}
use Rattle.world_acts.specs.declared.state.Core.{Core}

-- the claims are those of the pieces, nothing of a deferred piece was submitted, and started pieces conflict with none
pub record AreApart (c : Core) : Type 0 where
  pub claimed : AreClaimed c.pieces.claims c.pieces.lives
  pub waiting : AreWaiting c.pieces.claims.deferred c.pieces.lives
  pub apart : IsApart c.pieces.claims
