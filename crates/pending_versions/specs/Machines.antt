-- Machines of plain volumes that belong to a version of the group.
use Rattle.std.specs.Prelude.{◌≡◌, ◌≤◌, ℕ, ◌+◌, List, [], ◌∷◌, length, Option}
use Rattle.sector_base.specs.declared.places.Piece.{Piece}
use Rattle.disk_model.specs.Steps.{Image}
use Rattle.line_table.specs.Machine.{PlainState, PlainVolume, sectors_of}
use Rattle.vg_scan.specs.Versions.{Version}
use Rattle.volume_history.specs.Chronicles.{ChronicleEntry, Origin, in_force}
use Rattle.volume_history.specs.Placed.{PlacedVolume, group_name, values_on, volumes_of}
use Rattle.volume_history.specs.Replay.{plain_state}

-- the keys of the volumes ascend, from this one on to below the next one
abbrev pub AreKeyed : ℕ → ℕ → List PlainVolume → Type 0
AreKeyed from next [] = from ≤ next
AreKeyed from next (p ∷ ps) = (from ≤ p.key) × AreKeyed (p.key + 1) next ps

-- the machine's volumes are those of the version, one by one, by their names and lengths
abbrev pub AreOf : List PlacedVolume → List PlainVolume → Type 0
AreOf [] [] = Unit {0}
AreOf (v ∷ vs) (p ∷ ps) = (v.name ≡ p.name) × (length v.places ≡ length p.sectors) × AreOf vs ps
AreOf _ _ = ⊥

-- the machine has the group's name and the volumes of the version
pub record IsMachineOf (version : Option Version) (state : PlainState) : Type 0 where
  pub group : group_name version ≡ state.group
  pub volumes : AreOf (volumes_of version) state.volumes
  pub keys : AreKeyed 0 state.next_key state.volumes

-- the machine of a history is one of the version in force
abbrev pub IsInForce : Origin → List ChronicleEntry → Type 0
IsInForce o es = IsMachineOf (in_force o es) (plain_state o es)

-- the machine's volumes hold what the image shows at their places, one by one
abbrev pub HoldShown : Image → List PlacedVolume → List PlainVolume → Type 0
HoldShown image [] [] = Unit {0}
HoldShown image (v ∷ vs) (p ∷ ps) = (p.sectors ≡ values_on image v.places) × HoldShown image vs ps
HoldShown image _ _ = ⊥

-- the machine is what the image shows of the version
pub record IsShown (version : Option Version) (image : Image) (state : PlainState) : Type 0 where
  pub machine : IsMachineOf version state
  pub holds : HoldShown image (volumes_of version) state.volumes

-- the piece lies within its volume
abbrev pub LiesWithin : List PlainVolume → Piece → Type 0
LiesWithin volumes piece = piece.first + piece.count ≤ length (sectors_of volumes piece.volume)
