-- What is promised of a line that is carried out.
use Rattle.std.specs.Prelude.{◌≡◌, ◌≤◌, ◌<◌, ◌⊎◌, ℕ, Bool, true, false, is_some, List, length, take, All, None, Some, Result, Ok, Err}
use Rattle.std.specs.Prelude.{MatchResult}
use Rattle.lvm_script.specs.declared.line.Line.{Line}
use Rattle.disk_model.specs.Faults.{HasSameFaults}
use Rattle.disk_model.specs.Since.{BetweenRecords}
use Rattle.disk_model.specs.State.{IsLawful, State}
use Rattle.disk_model.specs.Steps.{Image, Record}
use Rattle.meta_model.specs.declared.group.Group.{Group}
use Rattle.extent_alloc.specs.declared.part.Part.{Part}
use Rattle.disk_batch.specs.InTurn.{HasFirstBatches, Put, WritesInTurn, with_batches}
use Rattle.vg_commit.specs.SectorReading.{ShowsBy, old_reading}
use Rattle.group_plan.specs.declared.refusal.PlanRefusal.{PlanRefusal}
use Rattle.group_plan.specs.declared.refusal.PlanRefusal.TheVariants as plan
use Rattle.group_plan.specs.declared.state.GroupState.{GroupState}
use Rattle.lv_plans.specs.Allocating.{Takes}
use Rattle.group_ops.specs.Planning.{asks_of, change_of, refusal_of}
use Rattle.change_batches.specs.Laws.{ClearsImages, ShowsEntries, text_in}
use Rattle.vg_change.specs.declared.fault.ChangeFault.{ChangeFault}
use Rattle.vg_change.specs.declared.fault.ChangeFault.TheVariants.{NoMemory, Refused, Failed, Uncleared}
use Rattle.vg_change.specs.LineBatches.{batches_of, clears_of, zeros_of}
use Rattle.vg_change.specs.LineLaws.{AreasAreKept, IsFoundAfter}

-- a refusal of the plan, as it is answered
abbrev pub fault_of : PlanRefusal → ChangeFault
fault_of plan.NoMemory = NoMemory
fault_of (plan.Refused refusal) = Refused refusal

-- why it wasn't done: the first refusal that holds; or an operation failed on the disk, where none holds
abbrev pub IsFault : GroupState → Line → ℕ → List Part → State → State → ChangeFault → Type 0
IsFault state line now given old new NoMemory = HasSameFaults old new
IsFault state line now given old new (Refused refusal) = HasSameFaults old new × (refusal_of state line now given ≡ Some refusal)
IsFault state line now given old new (Failed pv) = (refusal_of state line now given ≡ None) × (old.faults pv < new.faults pv)
IsFault state line now given old new (Uncleared pv made) = (refusal_of state line now given ≡ None) × (old.faults pv < new.faults pv)

-- In every image on the way areas and labels keep what the base holds, and until the last batch of a commit is begun each
-- area shows what it showed. Once all is written what the line makes is found. The base shows the entries of the areas. While
-- disks are cleared behind that, in every image their labels and areas are the old ones or cleared, and all else stays.
pub record KeepsImages (state : GroupState) (line : Line) (now : ℕ) (given : List Part) : Type 0 where
  pub kept : (base image : Image) → ShowsEntries state.areas base → HasFirstBatches (batches_of state line now given) base image
      → AreasAreKept state line now given base image
  pub unpublished : (base image : Image) (n : ℕ) (group : Group) → ShowsEntries state.areas base
      → (change_of state line now given).group ≡ Some group → n < length (batches_of state line now given)
      → HasFirstBatches (take n (batches_of state line now given)) base image → All (ShowsBy (old_reading (text_in base)) image) state.areas
  pub found : (base : Image) → ShowsEntries state.areas base
      → IsFoundAfter state line now given (with_batches (batches_of state line now given) base)
  pub clears : ClearsImages (change_of state line now given).cleared state.disks state.areas

-- its writes were begun
abbrev pub HasBegun : Result ℕ ChangeFault → Type 0
HasBegun (Ok made) = Unit {0}
HasBegun (Err (Failed pv)) = Unit {0}
HasBegun (Err (Uncleared pv made)) = Unit {0}
HasBegun (Err _) = ⊥

-- all zeros were written, and then the batches, as far as these came
pub record WritesBehind (zeros batches : List (List Put)) (well : Bool) (old new : Record) : Type 0 where
  pub zeroed : Record
  pub first : WritesInTurn old zeros true zeroed
  pub behind : WritesInTurn zeroed batches well new

-- the zeros were carried out, and then the batches; where an operation failed, a front of them
abbrev pub WritesBoth : List (List Put) → List (List Put) → Bool → Record → Record → Type 0
WritesBoth zeros batches true old new = WritesBehind zeros batches true old new
WritesBoth zeros batches false old new = WritesInTurn old zeros false new ⊎ WritesBehind zeros batches false old new

-- zeros and batches were carried out, until the shelf was in this state, after so many steps; and then disks were cleared, as far
-- as that came
pub record ClearsBehind (zeros batches clears : List (List Put)) (well : Bool) (old new : State) : Type 0 where
  pub made : State
  pub lawful : IsLawful made
  pub later : old.steps ≤ made.steps
  pub sooner : made.steps ≤ new.steps
  pub first : BetweenRecords (WritesBoth zeros batches true) old.told made.told
  pub behind : BetweenRecords (λ before after. WritesInTurn before clears well after) made.told new.told

-- the moment at which the change was made: where a group is committed that at which it was, and else once disks are cleared
abbrev pub made_at : Bool → ℕ → ℕ → ℕ
made_at true committed ended = committed
made_at false committed ended = ended

-- why disks weren't cleared: where a group is committed, the change was made by then
abbrev pub clear_fault : Bool → ℕ → ℕ → ChangeFault
clear_fault true pv committed = Uncleared pv committed
clear_fault false pv committed = Failed pv

-- they were cleared, and the change was made at this moment
abbrev pub IsMade : Bool → State → State → ℕ → Type 0
IsMade commits old new moment = HasSameFaults old new × (moment ≡ made_at commits old.steps new.steps)

-- they weren't, since an operation failed on a disk
abbrev pub IsUnclearedBy : Bool → State → State → ChangeFault → Type 0
IsUnclearedBy commits old new fault = (pv : ℕ) × (old.faults pv < new.faults pv) × (fault ≡ clear_fault commits pv old.steps)

-- all were carried out, as far as they came, and this is when the change was made; where the line is refused or memory was wanting
-- none was, and no operation was submitted
abbrev pub Carries : Bool → List (List Put) → List (List Put) → List (List Put) → Result ℕ ChangeFault → State → State → Type 0
Carries commits zeros batches clears (Ok moment) old new =
    (w : ClearsBehind zeros batches clears true old new) × (moment ≡ made_at commits w.made.steps new.steps)
Carries commits zeros batches clears (Err (Failed pv)) old new =
    BetweenRecords (WritesBoth zeros batches false) old.told new.told
    ⊎ ((commits ≡ false) × ClearsBehind zeros batches clears false old new)
Carries commits zeros batches clears (Err (Uncleared pv moment)) old new =
    (w : ClearsBehind zeros batches clears false old new) × (moment ≡ w.made.steps) × (commits ≡ true)
Carries commits zeros batches clears (Err _) old new = BetweenRecords (λ before after. after ≡ before) old.told new.told

-- memory sufficed to judge the line
abbrev pub HasJudged : Result ℕ ChangeFault → Type 0
HasJudged (Err NoMemory) = ⊥
HasJudged _ = Unit {0}

-- the line was carried out with some parts that it takes, as far as it came, and this is its result
pub record IsCarried (state : GroupState) (line : Line) (now : ℕ) (old : State) (result : Result ℕ ChangeFault) (new : State) : Type 0 where
  pub given : List Part
  pub takes : HasJudged result → Takes (asks_of state line) given
  pub cause : MatchResult result (λ _. HasSameFaults old new × (refusal_of state line now given ≡ None))
      (IsFault state line now given old new)
  pub images : HasBegun result → KeepsImages state line now given
  pub told : Carries (is_some (change_of state line now given).group) (zeros_of state line now given) (batches_of state line now given)
      (clears_of state line now given) result old new
