-- What a line does, by all that is said of its command.
use Rattle.std.specs.Prelude.{◌≡◌, ◌<◌, ℕ, Bool, true, false, IsTrue, if◌then◌else◌, List, [], ◌++◌, length, Option, Some, None}
use Rattle.std.specs.Bool.{MatchBool}
use Rattle.std.specs.FinSet as set
use Rattle.std.specs.Ordering.{nat_cmp}
use Rattle.sector_base.specs.declared.spans.Span.{Span}
use Rattle.line_answers.specs.declared.op_refusal.OpRefusal.{OpRefusal}
use Rattle.line_answers.specs.declared.answer.Answer.TheVariants.{Fine, Refused, PvFailed}
use Rattle.line_answers.specs.declared.answer.Answer.TheVariants as answer
use Rattle.disk_model.specs.Durability.{IsBase}
use Rattle.disk_model.specs.Faults.{HasSameFaults, IsLastFault}
use Rattle.disk_model.specs.Idle.{IsIdleAgain}
use Rattle.disk_model.specs.Moments.{EveryImageSince}
use Rattle.disk_model.specs.Since.{BetweenRecords, OnlyReads}
use Rattle.disk_model.specs.State.{State}
use Rattle.disk_model.specs.Steps.{Image, Reading, Flushing, Record, now_after}
use Rattle.disk_batch.specs.InTurn.{Put, WritesInTurn}
use Rattle.vg_found.specs.declared.found.Found.{Found}
use Rattle.vg_scan.specs.Scans.{FailedOn, HoldsNow}
use Rattle.lvm_run.specs.declared.ending.Ending.TheVariants.{WordsRefused, NoMemory, SourceFailed, ScriptTooLong, ScriptRefused}
use Rattle.lvm_run.specs.declared.ending.Ending.TheVariants.{OpenFailed, ScanReadFailed, ScanRefused, DiskInUse, RepairFailed}
use Rattle.lvm_run.specs.declared.ending.Ending.TheVariants.{RepairRefused}
use Rattle.lvm_run.specs.declared.outcome.Outcome.{Outcome}
use Rattle.lvm_run.specs.declared.outcome.Outcome.TheVariants.{Ended, Answered, Reported}
use Rattle.lvm_run.specs.CommandSpec.{CommandSpec, Context, Inputs, LooksAt, AtNothing, AtDisks, Scanned, Finds, Refuses, Lacks, no_inputs}
use Rattle.lvm_run.specs.Scan.{IsUnreadBy, OpensDisks}

-- ---- causes

-- the look at the disks came to this, where these were unread
abbrev pub IsScanned : CommandSpec → Context → set.FinSet nat_cmp → State → Scanned → Type 0
IsScanned spec context unread old scanned = HoldsNow old.told (λ image. spec.scan context image unread scanned)

-- all disks were read, and this was found, with this stale area that can't take the group's text, or none
pub record IsTaken (spec : CommandSpec) (context : Context) (old : State) (found : Option Found) (stuck : Option (ℕ × ℕ × ℕ)) : Type 0 where
  pub scanned : IsScanned spec context set.empty old (Finds found)
  pub stuck_is : spec.stuck found ≡ stuck

-- what was found can be repaired, and judged by that and by what it takes, which is this, the line has this refusal or none
abbrev pub IsJudged : CommandSpec → Context → Inputs → State → Option OpRefusal → Type 0
IsJudged spec context given old refusal =
    (found : Option Found) × IsTaken spec context old found None × spec.takes context found given
    × (spec.refusal context found given ≡ refusal)

-- no refusal comes before a read, where the command reads for itself
abbrev pub IsJudgedFirst : CommandSpec → Context → Type 0
IsJudgedFirst spec context = spec.looks ≡ AtNothing → spec.refusal context None no_inputs ≡ None

-- a read of the disk failed: in a scan that isn't taken without it, and any other read that fails is the last step
abbrev pub IsReadFault : CommandSpec → Context → LooksAt → State → State → ℕ → Type 0
IsReadFault spec context AtDisks old new pv =
    (unread : set.FinSet nat_cmp) × FailedOn unread old new × IsScanned spec context unread old (Lacks pv)
IsReadFault spec context _ old new pv = (span : Span) × IsLastFault old new pv (Reading span)

-- where memory was wanting no operation had failed; of a command that scans it isn't said which had
abbrev pub FailedForWant : LooksAt → State → State → Type 0
FailedForWant AtDisks old new = Unit {0}
FailedForWant _ old new = HasSameFaults old new

-- the cause of each outcome of line 1
abbrev pub IsCause : CommandSpec → Context → Inputs → State → State → Outcome → Type 0
IsCause spec context given old new (Ended WordsRefused) = ⊥
IsCause spec context given old new (Ended NoMemory) = FailedForWant spec.looks old new
IsCause spec context given old new (Ended SourceFailed) = ⊥
IsCause spec context given old new (Ended ScriptTooLong) = ⊥
IsCause spec context given old new (Ended (ScriptRefused line fault place)) = ⊥
IsCause spec context given old new (Ended (OpenFailed pv)) = IsTrue spec.flushes × IsLastFault old new pv (Flushing pv)
IsCause spec context given old new (Ended (ScanReadFailed pv)) = IsJudgedFirst spec context × IsReadFault spec context spec.looks old new pv
IsCause spec context given old new (Ended (ScanRefused refusal whole)) =
    (unread : set.FinSet nat_cmp) × IsUnreadBy whole unread old new × IsScanned spec context unread old (Refuses refusal)
IsCause spec context given old new (Ended (DiskInUse pv)) = ⊥
IsCause spec context given old new (Ended (RepairFailed pv)) =
    IsTrue spec.flushes × (found : Option Found) × IsTaken spec context old found None × (old.faults pv < new.faults pv)
IsCause spec context given old new (Ended (RepairRefused pv need room)) =
    IsTrue spec.flushes × HasSameFaults old new × (found : Option Found) × IsTaken spec context old found (Some (pv, need, room))
IsCause spec context given old new (Answered line Fine) =
    (line ≡ 1) × IsTrue spec.flushes × HasSameFaults old new × IsJudged spec context given old None
IsCause spec context given old new (Answered line (Refused refusal)) =
    (line ≡ 1) × HasSameFaults old new × IsJudged spec context given old (Some refusal)
IsCause spec context given old new (Answered line (PvFailed pv)) =
    (line ≡ 1) × IsTrue spec.flushes × IsJudged spec context given old None × (old.faults pv < new.faults pv)
IsCause spec context given old new (Answered line answer.NoMemory) = (line ≡ 1) × FailedForWant spec.looks old new
IsCause spec context given old new (Answered line _) = ⊥
IsCause spec context given old new (Reported text whole) =
    (spec.flushes ≡ false)
    × ((unread : set.FinSet nat_cmp) × (found : Option Found) × IsUnreadBy whole unread old new
    × IsScanned spec context unread old (Finds found)
    × (spec.refusal context found no_inputs ≡ None) × HoldsNow old.told (λ image. spec.reports context found image text))

-- ---- how far a command that changes something comes

-- what is found was taken
abbrev pub is_taken : Outcome → Bool
is_taken (Ended (RepairFailed pv)) = true
is_taken (Ended (RepairRefused pv need room)) = true
is_taken (Answered line answer) = true
is_taken _ = false

-- its repair was begun
abbrev pub repair_begun : Outcome → Bool
repair_begun (Ended (RepairFailed pv)) = true
repair_begun (Answered line answer) = true
repair_begun _ = false

-- all was repaired, and the line was judged
abbrev pub is_repaired : Outcome → Bool
is_repaired (Answered line answer) = true
is_repaired _ = false

-- the line's own writes were begun
abbrev pub line_begun : Outcome → Bool
line_begun (Answered line Fine) = true
line_begun (Answered line (PvFailed pv)) = true
line_begun _ = false

-- the line was done
abbrev pub is_done : Outcome → Bool
is_done (Answered line Fine) = true
is_done _ = false

-- these batches where they were begun, and none else
abbrev pub batches_if : Bool → List (List Put) → List (List Put)
batches_if begun batches = if begun then batches else []

-- ---- what is done to the disks, where they tell their record

-- A command that changes something: each disk is flushed and then read a little, and where all that passes, the repair's
-- batches are written, then its zeros, its other batches, and those that clear disks, by what it takes; each part as far as it
-- came, and nothing else. Batches are written in turn: at every moment a crash leaves the first so many of them whole, of the
-- next one each sector old or new, and each other sector as it was; once all went well it leaves all of them.
pub record ChangesDisks (spec : CommandSpec) (context : Context) (given : Inputs) (outcome : Outcome) (old new : Record) : Type 0 where
  pub found : Option Found
  pub scanned : IsTrue (is_taken outcome) → spec.scan context (now_after old.opened old.steps) set.empty (Finds found)
  pub opened : Record
  pub opening : OpensDisks context.sizes old (is_taken outcome) opened
  pub start : Record
  pub repair : WritesInTurn opened (batches_if (repair_begun outcome) (spec.repairs found)) (is_repaired outcome) start
  pub takes : IsTrue (line_begun outcome) → spec.takes context found given
  -- its zeros are written, and ready says whether all of them were
  pub zeroed : Record
  pub ready : Bool
  pub zeros : WritesInTurn start (batches_if (line_begun outcome) (spec.zeros context found given)) ready zeroed
  pub begun : IsTrue ready → IsTrue (line_begun outcome)
  -- the other batches are begun where all zeros were written, and written says whether all of them were
  pub made : Record
  pub written : Bool
  pub line : WritesInTurn zeroed (batches_if ready (spec.batches context found given)) written made
  pub ready_then : IsTrue written → IsTrue ready
  -- what every image from the zeros on keeps of what the disks held then, and what a reader finds afterwards
  pub keeps : IsTrue ready → (base : Image) → IsBase zeroed base
      → EveryImageSince (length zeroed.steps) made (spec.keeps context found given base)
  pub found_after : IsTrue written → spec.finds context found given (now_after made.opened made.steps)
  -- disks are cleared where all of these were written
  pub clears : WritesInTurn made (batches_if written (spec.clears context found given)) (is_done outcome) new
  pub all : IsTrue (is_done outcome) → IsTrue written
  -- the same of these
  pub clearing : IsTrue written → (base : Image) → IsBase made base
      → EveryImageSince (length made.steps) new (spec.clearing context found given base)
  pub cleared_after : IsTrue (is_done outcome) → spec.cleared context found given (now_after new.opened new.steps)

-- A command that changes nothing submits reads alone, of its spans, as far as it came.
pub record ReadsDisks (spec : CommandSpec) (context : Context) (old new : Record) : Type 0 where
  pub read : List Span
  pub reads : OnlyReads old read new
  pub unread : List Span
  pub spans : spec.reads context (now_after old.opened old.steps) (read ++ unread)

-- the one or the other
abbrev pub DoesToDisks : CommandSpec → Context → Inputs → Outcome → Record → Record → Type 0
DoesToDisks spec context given outcome old new =
    MatchBool spec.flushes (ChangesDisks spec context given outcome old new) (ReadsDisks spec context old new)

-- a line of this command, judged against this context and by what it takes, came to this outcome
pub record Meets (spec : CommandSpec) (context : Context) (old : State) (outcome : Outcome) (new : State) : Type 0 where
  pub given : Inputs
  pub cause : IsCause spec context given old new outcome
  pub told : BetweenRecords (DoesToDisks spec context given outcome) old.told new.told
  pub again : IsIdleAgain old new
