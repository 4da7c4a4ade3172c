-- A run that takes no disk which is in use, unless it is told to.
use Rattle.std.specs.Prelude.{◌≡◌, ◌<◌, ◌⊎◌, ℕ, List, length, All, Contains, Some}
use Rattle.command_table.specs.declared.request.Request.{Request}
use Rattle.command_table.specs.declared.request.Request.TheVariants.{One, Session, Demo}
use Rattle.command_table.specs.Options.{Word}
use Rattle.lvm_words.specs.declared.command_line.CommandLine.{CommandLine}
use Rattle.lvm_words.specs.CommandLines.{command_line_of}
use Rattle.disk_model.specs.Faults.{HasSameFaults}
use Rattle.disk_model.specs.State.{State}
use Rattle.disk_model.specs.Steps.{Image, Record, now_after}
use Rattle.vg_scan.specs.Scans.{HoldsNow}
use Rattle.disk_use.specs.declared.in_use.InUse.{InUse as UsedDisk}
use Rattle.disk_use.specs.Faults.{IsUseFault}
use Rattle.disk_use.specs.LookedAt.{LooksOnly}
use Rattle.disk_use.specs.Taken.{is_new, taken_by}
use Rattle.disk_use.specs.Uses.{IsFree, IsUsedBy}
use Rattle.lvm_run.specs.InUse.{IsLeft}
use Rattle.lvm_run.specs.declared.not_run.NotRun.{NotRun}
use Rattle.lvm_run.specs.declared.not_run.NotRun.TheVariants.{InUse, Untold}

-- ---- what is in use

-- the words ask for this, on disks of these names
pub record Asks (words : List Word) (names : List Word) (request : Request) : Type 0 where
  pub line : CommandLine
  pub is_line : command_line_of words ≡ Some line
  pub is_names : names ≡ line.names
  pub is_request : line.request ≡ request

-- the request takes the disk with this number: a session takes each
abbrev pub Takes : List Word → Request → ℕ → Type 0
Takes names (One command) pv = Contains (taken_by names (One command)) pv
Takes names (Session session) pv = pv < length names
Takes names (Demo seed lines workers) pv = Contains (taken_by names (Demo seed lines workers)) pv

-- what the words ask for takes the disk, and would lose what is in use there
pub record TakesUsed (words : List Word) (image : Image) (sizes : List ℕ) (pv : ℕ) : Type 0 where
  pub names : List Word
  pub request : Request
  pub asks : Asks words names request
  pub taken : Takes names request pv
  pub used : ¬ IsFree (is_new request) image sizes pv

-- none was to such a disk, where the disks tell their record
abbrev pub LeavesUsed : List Word → State → State → Type 0
LeavesUsed words old new =
    (pv : ℕ) (before : Record) → old.told ≡ Some before → TakesUsed words (now_after before.opened before.steps) old.sizes pv
    → (after : Record) × (new.told ≡ Some after) × IsLeft pv before after

-- nothing that is in use is lost where what the words ask for takes its disks
abbrev pub AreFree : List Word → State → Type 0
AreFree words state =
    (names : List Word) (request : Request) → Asks words names request
    → HoldsNow state.told (λ image. All (IsFree (is_new request) image state.sizes) (taken_by names request))

-- nothing was done, or nothing but reads
abbrev pub LooksAtMost : State → State → Type 0
LooksAtMost old new = (new ≡ old) ⊎ LooksOnly old new

-- ---- why nothing ran

-- the disk, which what the words ask for takes, is in use
pub record IsInUse (words : List Word) (old : State) (used : UsedDisk) (new : State) : Type 0 where
  pub names : List Word
  pub request : Request
  pub asks : Asks words names request
  pub taken : Contains (taken_by names request) used.pv
  pub by : HoldsNow old.told (λ image. IsUsedBy (is_new request) image old.sizes used.pv used.by)
  pub faults : HasSameFaults old new

-- a disk is in use, or it isn't known whether one is
abbrev pub IsWhyNotRun : List Word → State → NotRun → State → Type 0
IsWhyNotRun words old (InUse used) new = IsInUse words old used new
IsWhyNotRun words old (Untold refusal) new = IsUseFault old new refusal

-- a disk that is in use is one of so many
abbrev pub NamesOne : ℕ → NotRun → Type 0
NamesOne count (InUse used) = used.pv < count
NamesOne count (Untold refusal) = Unit {0}
