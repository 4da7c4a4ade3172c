-- Where each sector of a version comes from that a command makes of another: it is born, or it stays where it stood.
use Rattle.std.specs.Prelude.{◌≡◌, ◌<◌, ◌⊎◌, ℕ, true, false, Contains, List, [], ◌∷◌, length, Option, slice_index_or}
use Rattle.command_table.specs.Commands.{CommandKind}
use Rattle.disk_model.specs.Steps.{Image}
use Rattle.line_table.specs.Machine.{PlainState, PlainStep, PlainVolume, plain_after}
use Rattle.vg_scan.specs.Versions.{Version}
use Rattle.volume_history.specs.Candidates.{is_born, is_zeroed, no_image, place_at}
use Rattle.volume_history.specs.Placed.{Place, PlacedVolume, volumes_of}
use Rattle.volume_history.specs.Replay.{kind_step}
use Rattle.volume_history.specs.Reshaping.{born_value}
use Rattle.pending_versions.specs.Births.{born_places, zero_places}
use Rattle.pending_versions.specs.Machines.{IsMachineOf}

-- the volume of the machine with this key has its sector at this place, and holds this there
pub record HasSector (v : PlacedVolume) (p : PlainVolume) (key x : ℕ) (place : Place) (value : List ℕ) : Type 0 where
  pub keyed : p.key ≡ key
  pub inside : x < length v.places
  pub there : place_at v.places x ≡ place
  pub value_is : slice_index_or p.sectors x [] ≡ value

-- one of the volumes does
abbrev pub StandsAt : List PlacedVolume → List PlainVolume → ℕ → ℕ → Place → List ℕ → Type 0
StandsAt (v ∷ vs) (p ∷ ps) key x place value = HasSector v p key x place value ⊎ StandsAt vs ps key x place value
StandsAt _ _ key x place value = ⊥

-- the step of a kind of command that makes one version of another, where what is born is open
abbrev pub open_step : CommandKind → Option Version → Option Version → PlainState → PlainStep
open_step kind before after state = kind_step kind before after state no_image

-- the sector is born at the place, and holds a zero, where it is to be one, or what the image shows there
pub record IsBornAt (kind : CommandKind) (before after : Option Version) (state : PlainState) (image : Image) (key x : ℕ) (place : Place)
    (value : List ℕ) : Type 0 where
  pub born : is_born (open_step kind before after state) state key x ≡ true
  pub new : Contains (born_places kind before after) place
  pub zero : is_zeroed (open_step kind before after state) x ≡ true → Contains (zero_places kind after) place
  pub value_is : value ≡ born_value (open_step kind before after state) image x place

-- the sector stood at the place, and holds what it held
pub record StaysAt (kind : CommandKind) (before after : Option Version) (state : PlainState) (key x : ℕ) (place : Place)
    (value : List ℕ) : Type 0 where
  pub unborn : is_born (open_step kind before after state) state key x ≡ false
  pub stood : StandsAt (volumes_of before) state.volumes key x place value

-- the volume has the machine's name and length, and each of its sectors comes from somewhere
abbrev pub Comes : CommandKind → Option Version → Option Version → PlainState → Image → PlacedVolume → PlainVolume → Type 0
Comes kind before after state image v p =
    (v.name ≡ p.name) × (length v.places ≡ length p.sectors)
    × ((x : ℕ) → x < length v.places
    → IsBornAt kind before after state image p.key x (place_at v.places x) (slice_index_or p.sectors x [])
    ⊎ StaysAt kind before after state p.key x (place_at v.places x) (slice_index_or p.sectors x []))

-- so it is of all volumes, one by one
abbrev pub EachComes : CommandKind → Option Version → Option Version → PlainState → Image → List PlacedVolume → List PlainVolume → Type 0
EachComes kind before after state image [] [] = Unit {0}
EachComes kind before after state image (v ∷ vs) (p ∷ ps) =
    Comes kind before after state image v p × EachComes kind before after state image vs ps
EachComes kind before after state image _ _ = ⊥

-- the machine after the step, with what the image shows
abbrev pub made_of : CommandKind → Option Version → Option Version → PlainState → Image → PlainState
made_of kind before after state image = plain_after state (kind_step kind before after state image)

-- a kind of command makes one version of another, where the machine is in this state, and the image shows so much
pub record Remakes (kind : CommandKind) (before after : Option Version) (state : PlainState) (image : Image) : Type 0 where
  pub machine : IsMachineOf after (made_of kind before after state image)
  pub volumes : EachComes kind before after state image (volumes_of after) (made_of kind before after state image).volumes
