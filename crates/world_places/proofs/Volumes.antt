-- Tracked places give the part of histories that makes moments consistent.
use Rattle.std.proofs.Common.{ℕ, List, [], ◌∷◌}
use Rattle.line_table.specs.Machine.{PlainVolume}
use Rattle.volume_history.specs.Candidates.{place_at}
use Rattle.volume_history.specs.Parts.{Primaries}
use Rattle.volume_history.specs.Placed.{PlacedVolume}
use Rattle.world_places.proofs.Beginning.{place_of_tracked}
use Rattle.world_places.specs.Tracked.{AreLive, Scene}
use Rattle.world_places.specs.Volumes.{AllTracked}

pub primaries_of_tracked : (g : Scene) (vs : List PlacedVolume) (ps : List PlainVolume) → ((key x : ℕ) → AreLive g key x)
    → AllTracked g vs ps → Primaries g.origin g.entries vs ps
primaries_of_tracked g [] [] lives h = tt
primaries_of_tracked g (v ∷ vs) (p ∷ ps) lives h = (
  h.0,
  h.1,
  λ x lt. place_of_tracked g p.key x (place_at v.places x) (lives p.key x) (h.2 x lt),
  primaries_of_tracked g vs ps lives h.3,
)
primaries_of_tracked g [] (p ∷ ps) lives h = absurd h
primaries_of_tracked g (v ∷ vs) [] lives h = absurd h
