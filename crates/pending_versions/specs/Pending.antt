-- What holds of the command that is pending while lines read and write beside it.
use Rattle.std.specs.Prelude.{◌≡◌, ℕ, All, Bool, true, false, List, [], Option, Some, None}
use Rattle.disk_model.specs.Durability.{OnlyLeaves}
use Rattle.vg_scan.specs.Versions.{Version}
use Rattle.volume_history.specs.Chronicles.{Begun, Changed, ChronicleEntry, Failed, GivenUp, Opened, Origin, Took, begun_in, in_force}
use Rattle.volume_history.specs.Parts.{IsZeroAt}
use Rattle.volume_history.specs.Placed.{Place}
use Rattle.volume_history.specs.Replay.{plain_state}
use Rattle.pending_versions.specs.Births.{LineChanges, line_births, line_zeros}
use Rattle.pending_versions.specs.Machines.{LiesWithin}

-- ---- what is kept

-- From where its commit starts until that is made or given up, and for good where it fences the group: the line makes the pending
-- version of the one in force, and only zeros may be left where what it creates is zero.
pub record PendingHolds (o : Origin) (es : List ChronicleEntry) (number : ℕ) (after : Option Version) : Type 0 where
  pub makes : LineChanges (begun_in es number) (in_force o es) after
  pub zero : All (IsZeroAt o) (line_zeros (begun_in es number) after)

-- the same of the command that is pending, if one is
abbrev pub PendingPart : Origin → List ChronicleEntry → Option (ℕ × Option Version) → Type 0
PendingPart o es None = Unit {0}
PendingPart o es (Some p) = PendingHolds o es p.0 p.1

-- the places of what it creates
abbrev pub pending_births : Origin → List ChronicleEntry → Option (ℕ × Option Version) → List Place
pending_births o es None = []
pending_births o es (Some p) = line_births (begun_in es p.0) (in_force o es) p.1

-- one value may be left at the place
pub record HasOneValue (o : Origin) (place : Place) : Type 0 where
  pub value : List ℕ
  pub only : OnlyLeaves o.told place.disk place.sector (λ v. v ≡ value)

-- from where it is published on: so it is at each of these places
abbrev pub AreSettled : Origin → List Place → Type 0
AreSettled o places = All (HasOneValue o) places

-- ---- what entries owe

-- to the pending command: a line is begun under a new number, and a commit that starts is one of which this holds
abbrev pub OwesPending : Origin → List ChronicleEntry → ChronicleEntry → Type 0
OwesPending o es (Begun moment n line key) = begun_in es n ≡ None
OwesPending o es (Opened moment n version) = PendingHolds o es n version
OwesPending o es _ = Unit {0}

-- to the machine: a piece lies within its volume, and a commit has made the version that its line makes
abbrev pub OwesMachine : Origin → List ChronicleEntry → ChronicleEntry → Type 0
OwesMachine o es (Took moment n piece) = LiesWithin (plain_state o es).volumes piece
OwesMachine o es (Failed moment n piece) = LiesWithin (plain_state o es).volumes piece
OwesMachine o es (Changed moment n version) = LineChanges (begun_in es n) (in_force o es) version
OwesMachine o es _ = Unit {0}

-- whether an entry starts or ends a commit
abbrev pub is_of_commit : ChronicleEntry → Bool
is_of_commit (Opened moment n version) = true
is_of_commit (Changed moment n version) = true
is_of_commit (GivenUp moment n) = true
is_of_commit _ = false
