-- Histories that leave the volumes as they are.
use Rattle.std.specs.Prelude.{◌≡◌, ℕ, Bool, true, false, not, ◌&&◌, List, [], ◌∷◌, Option, Some, None}
use Rattle.command_table.specs.declared.command.Command.{Command}
use Rattle.command_table.specs.Commands.{CommandKind, GroupNamed, NextVersion, Removal, Restore, VolumeAdded, kind_of}
use Rattle.data_lines.specs.DataLines.{is_data}
use Rattle.disk_model.specs.CrashValues.{MayLeave}
use Rattle.disk_model.specs.Steps.{Image, Record}
use Rattle.line_table.specs.Machine.{plain_after}
use Rattle.vg_scan.specs.Versions.{Version}
use Rattle.volume_history.specs.Placed.{Place, PlacedVolume, group_name, volumes_of}
use Rattle.volume_history.specs.Chronicles.{ChronicleEntry, Begun, Origin, Chronicle, chronicle_at, in_force, now_at, pending}
use Rattle.volume_history.specs.Replay.{plain_state}
use Rattle.volume_history.specs.Candidates.{pending_step}
use Rattle.volume_history.specs.Parts.{ScansPart}

-- whether a kind of command leaves the volumes as they are
abbrev pub is_quiet_kind : CommandKind → Bool
is_quiet_kind (NextVersion (GroupNamed new)) = true
is_quiet_kind (NextVersion difference) = false
is_quiet_kind (VolumeAdded lv) = false
is_quiet_kind Removal = false
is_quiet_kind Restore = false
is_quiet_kind _ = true

-- whether the command leaves the volumes and what they hold as they are: it reads and writes no sectors of them either
abbrev pub is_quiet : Command → Bool
is_quiet command = is_quiet_kind (kind_of command) && not (is_data command)

-- each line that was begun does
abbrev pub AreQuiet : List ChronicleEntry → Type 0
AreQuiet [] = Unit {0}
AreQuiet (Begun moment n line key ∷ es) = (is_quiet line.command ≡ true) × AreQuiet es
AreQuiet (_ ∷ es) = AreQuiet es

-- the pending version has the same volumes, and the name that the machine has after it
abbrev pub IsQuietNext : Origin → List ChronicleEntry → Option (ℕ × Option Version) → Type 0
IsQuietNext o es None = Unit {0}
IsQuietNext o es (Some p) =
    (volumes_of p.1 ≡ volumes_of o.version) × (group_name p.1 ≡ (plain_after (plain_state o es) (pending_step o es p.0 p.1)).group)

-- the history leaves the volumes as they were at the start
pub record IsQuiet (o : Origin) (es : List ChronicleEntry) : Type 0 where
  pub lines : AreQuiet es
  pub volumes : volumes_of (in_force o es) ≡ volumes_of o.version
  pub name : group_name (in_force o es) ≡ (plain_state o es).group
  pub next : IsQuietNext o es (pending es)

-- at these places a crash may leave nothing but what this image shows
abbrev pub AreUntouched : Image → List Place → Record → Type 0
AreUntouched image [] told = Unit {0}
AreUntouched image (p ∷ ps) told =
    ((write : Option ℕ) (value : List ℕ) → MayLeave told.opened told.steps p.disk p.sector write value → value ≡ image p.disk p.sector)
    × AreUntouched image ps told

-- the same of all places of the volumes
abbrev pub AllUntouched : Image → List PlacedVolume → Record → Type 0
AllUntouched image [] told = Unit {0}
AllUntouched image (v ∷ vs) told = AreUntouched image v.places told × AllUntouched image vs told

-- what makes a moment of a quiet history consistent
pub record IsQuietMoment (c : Chronicle) (moment : ℕ) : Type 0 where
  pub quiet : IsQuiet (chronicle_at moment c).origin (chronicle_at moment c).entries
  pub scans : ScansPart (chronicle_at moment c).origin (chronicle_at moment c).entries
  pub untouched : AllUntouched (now_at c.origin c.origin.first) (volumes_of c.origin.version) (chronicle_at moment c).origin.told
