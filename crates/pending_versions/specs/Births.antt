-- Where the sectors lie that a command creates.
use Rattle.std.specs.Prelude.{◌≡◌, ℕ, Bool, true, false, List, [], length, take, drop, Option, Some, None}
use Rattle.command_table.specs.Commands.{CommandKind, NextVersion, Restore, VolumeAdded, VolumeLonger, kind_of}
use Rattle.lvm_script.specs.declared.line.Line.{Line}
use Rattle.vg_scan.specs.Versions.{Version}
use Rattle.volume_history.specs.Changing.{ChangesVolumes}
use Rattle.volume_history.specs.Placed.{Place, volumes_of}
use Rattle.volume_history.specs.Replay.{places_named}

-- whether a kind of command takes the group back from a backup, which may place any sector anew
abbrev pub restores : CommandKind → Bool
restores Restore = true
restores _ = false

-- the places of the sectors that a kind of command creates, but one that restores: all of a new volume, and those of a longer one
-- behind its old end
abbrev pub born_places : CommandKind → Option Version → Option Version → List Place
born_places (VolumeAdded lv) before after = places_named (volumes_of after) lv
born_places (NextVersion (VolumeLonger lv)) before after =
    drop (length (places_named (volumes_of before) lv)) (places_named (volumes_of after) lv)
born_places _ before after = []

-- of these the ones that become zeros: the first eight of a new volume
abbrev pub zero_places : CommandKind → Option Version → List Place
zero_places (VolumeAdded lv) after = take 8 (places_named (volumes_of after) lv)
zero_places _ after = []

-- ---- of a line that was begun

-- its command makes one version of another, and restores none
abbrev pub LineChanges : Option (Line × Option ℕ) → Option Version → Option Version → Type 0
LineChanges None before after = ⊥
LineChanges (Some l) before after = ChangesVolumes l.0.command before after × (restores (kind_of l.0.command) ≡ false)

-- the places of what it creates
abbrev pub line_births : Option (Line × Option ℕ) → Option Version → Option Version → List Place
line_births None before after = []
line_births (Some l) before after = born_places (kind_of l.0.command) before after

-- those of its zeros
abbrev pub line_zeros : Option (Line × Option ℕ) → Option Version → List Place
line_zeros None after = []
line_zeros (Some l) after = zero_places (kind_of l.0.command) after
