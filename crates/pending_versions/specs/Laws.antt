-- The laws of versions that commands make beside lines which read and write.
use Rattle.std.specs.Prelude.{◌≡◌, ◌≤◌, ℕ, All, false, List, ◌∷◌, length, Option}
use Rattle.command_table.specs.Commands.{CommandKind}
use Rattle.disk_model.specs.Brought.{brings}
use Rattle.disk_model.specs.Steps.{Image, Step, now_after}
use Rattle.line_table.specs.Machine.{PlainState}
use Rattle.vg_scan.specs.Versions.{Version}
use Rattle.volume_history.specs.Candidates.{IsConsistentNow}
use Rattle.volume_history.specs.Changing.{KindChanges}
use Rattle.volume_history.specs.Chronicles.{AreUpto, Changed, ChronicleEntry, Origin, in_force, origin_on, pending}
use Rattle.volume_history.specs.Parts.{NextPart, Primaries, ScansPart}
use Rattle.volume_history.specs.Placed.{Place, volumes_of}
use Rattle.volume_history.specs.Replay.{plain_state}
use Rattle.volume_history.specs.Reshaping.{state_before}
use Rattle.world_places.specs.Changes.{behind}
use Rattle.world_places.specs.Tracked.{AreLive, Scene}
use Rattle.world_places.specs.Volumes.{AllTracked}
use Rattle.pending_versions.specs.Beside.{AreApart, LiesBeside}
use Rattle.pending_versions.specs.Births.{born_places, restores}
use Rattle.pending_versions.specs.Coming.{Remakes}
use Rattle.pending_versions.specs.Machines.{IsInForce, IsMachineOf, IsShown}
use Rattle.pending_versions.specs.Pending.{AreSettled, OwesMachine, OwesPending, PendingPart, is_of_commit, pending_births}
use Rattle.pending_versions.specs.Taking.{LieWithin, TakesPlace}

-- ---- versions and machines

-- what a command makes of the volumes by its own rule is what the machine makes, whatever machine of the version it is
abbrev pub ChangesRemake : Type 0
ChangesRemake =
    (kind : CommandKind) (before after : Option Version) → restores kind ≡ false → KindChanges kind before after → (state : PlainState)
    → IsMachineOf before state
    → (image : Image) → Remakes kind before after state image

-- the machine at the opening is what the disks show of the version
abbrev pub OpeningIsShown : Type 0
OpeningIsShown = (version : Option Version) (image : Image) → IsShown version image (state_before version image)

-- an entry that pays what it owes leaves the machine one of the version in force
abbrev pub MachinesStay : Type 0
MachinesStay = (o : Origin) (es : List ChronicleEntry) (e : ChronicleEntry) → OwesMachine o es e → IsInForce o es → IsInForce o (e ∷ es)

-- and so does each step
abbrev pub StepsKeepMachines : Type 0
StepsKeepMachines =
    (step : Step) (o : Origin) (es : List ChronicleEntry) → o.first ≤ length o.told.steps → AreUpto (length o.told.steps) es
    → IsInForce o es → IsInForce (origin_on step o) es

-- what a command creates lies at no place of the version in force, where no two sectors of the new one have one place
abbrev pub BirthsLieBeside : Type 0
BirthsLieBeside =
    (kind : CommandKind) (before after : Option Version) → KindChanges kind before after → AreApart (volumes_of after)
    → All (LiesBeside (volumes_of before)) (born_places kind before after)

-- ---- while a command is pending

-- an entry that pays what it owes keeps the part on the pending command
abbrev pub EntriesKeepPending : Type 0
EntriesKeepPending =
    (o : Origin) (es : List ChronicleEntry) (e : ChronicleEntry) → OwesPending o es e → PendingPart o es (pending es)
    → PendingPart o (e ∷ es) (pending (e ∷ es))

-- one that neither starts nor ends a commit leaves the places of what is created as they were
abbrev pub EntriesKeepBirths : Type 0
EntriesKeepBirths =
    (o : Origin) (es : List ChronicleEntry) (e : ChronicleEntry) → is_of_commit e ≡ false → OwesPending o es e
    → PendingPart o es (pending es)
    → pending_births o (e ∷ es) (pending (e ∷ es)) ≡ pending_births o es (pending es)

-- the step brings nothing to these places
abbrev pub BringsNone : Step → List Place → Type 0
BringsNone step places = All (λ (p : Place). brings step p.disk p.sector ≡ false) places

-- a step that brings nothing to the places of what is created keeps the part on the pending command
abbrev pub StepsKeepPending : Type 0
StepsKeepPending =
    (step : Step) (o : Origin) (es : List ChronicleEntry) → BringsNone step (pending_births o es (pending es))
    → PendingPart o es (pending es) → PendingPart (origin_on step o) es (pending es)

-- and one that brings nothing to places that are settled keeps them so
abbrev pub StepsKeepSettled : Type 0
StepsKeepSettled =
    (step : Step) (o : Origin) (places : List Place) → BringsNone step places → AreSettled o places → AreSettled (origin_on step o) places

-- the places of the version in force give those of the pending one
abbrev pub PendingShowsNext : Type 0
PendingShowsNext =
    (o : Origin) (es : List ChronicleEntry) → IsInForce o es → Primaries o es (volumes_of (in_force o es)) (plain_state o es).volumes
    → PendingPart o es (pending es)
    → NextPart o es (pending es)

-- so now is consistent, where each image shows one of the two, and each sector of the one in force is tracked at its place
abbrev pub TrackedIsConsistent : Type 0
TrackedIsConsistent =
    (g : Scene) → ScansPart g.origin g.entries → ((key x : ℕ) → AreLive g key x) → IsInForce g.origin g.entries
    → AllTracked g (volumes_of (in_force g.origin g.entries)) (plain_state g.origin g.entries).volumes
    → PendingPart g.origin g.entries (pending g.entries)
    → IsConsistentNow (record { origin = g.origin; entries = g.entries })

-- ---- where it makes its version

-- each sector of the new version is tracked at its place, where each of the old one was
abbrev pub TakingTracks : Type 0
TakingTracks =
    (g : Scene) (moment number : ℕ) (version : Option Version) → TakesPlace g moment number version
    → LieWithin (plain_state g.origin g.entries).volumes g.lives
    → AllTracked g (volumes_of (in_force g.origin g.entries)) (plain_state g.origin g.entries).volumes
    → AllTracked (behind g (Changed moment number version) g.lives g.written) (volumes_of version)
    (plain_state g.origin (Changed moment number version ∷ g.entries)).volumes

-- the machine is what a read gives of the new version, where it was what it gives of the old one
abbrev pub TakingShows : Type 0
TakingShows =
    (g : Scene) (moment number : ℕ) (version : Option Version) → TakesPlace g moment number version
    → IsShown (in_force g.origin g.entries) (now_after g.origin.told.opened g.origin.told.steps) (plain_state g.origin g.entries)
    → IsShown version (now_after g.origin.told.opened g.origin.told.steps)
    (plain_state g.origin (Changed moment number version ∷ g.entries))
