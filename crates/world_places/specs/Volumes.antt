-- All sectors of volumes are tracked at their primary places.
use Rattle.std.specs.Prelude.{◌≡◌, ◌<◌, ℕ, List, [], ◌∷◌, length}
use Rattle.line_table.specs.Machine.{PlainVolume}
use Rattle.volume_history.specs.Candidates.{place_at}
use Rattle.volume_history.specs.Placed.{PlacedVolume}
use Rattle.world_places.specs.Tracked.{Scene, Tracked}

-- the volumes have the machine's names and lengths, and each sector is tracked at its place
abbrev pub AllTracked : Scene → List PlacedVolume → List PlainVolume → Type 0
AllTracked g [] [] = Unit {0}
AllTracked g (v ∷ vs) (p ∷ ps) =
    (v.name ≡ p.name) × (length v.places ≡ length p.sectors)
    × ((x : ℕ) → x < length v.places → Tracked g p.key x (place_at v.places x)) × AllTracked g vs ps
AllTracked g _ _ = ⊥
