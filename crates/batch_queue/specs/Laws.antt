-- The laws of a queue: what its calls, and what goes on elsewhere, leave of what it has made sure of.
use Rattle.std.specs.Prelude.{◌≡◌, ℕ, Bool, false, None, IsTrue, IfSome, List, [], ◌∷◌, ◌++◌, All}
use Rattle.disk_model.specs.Calls.{Completes}
use Rattle.disk_model.specs.CrashValues.{IsImage}
use Rattle.disk_model.specs.Durability.{AllLeave}
use Rattle.disk_model.specs.InFlight.{IsAmong}
use Rattle.disk_model.specs.Record.{IsRecord, Operation}
use Rattle.disk_model.specs.State.{IsLawful, State, tags_of}
use Rattle.disk_model.specs.Steps.{Image, Record, now_after}
use Rattle.disk_model.specs.Submitting.{submitted_on, works_of, writes_at}
use Rattle.disk_model.specs.declared.ops.Done.{Done}
use Rattle.disk_batch.specs.Along.{GoesElsewhere}
use Rattle.disk_batch.specs.Batches.{Starts}
use Rattle.disk_batch.specs.InTurn.{Put, ShareNoSector}
use Rattle.disk_batch.specs.Rounds.{AreStill}
use Rattle.disk_batch.specs.Views.{View}
use Rattle.batch_queue.specs.Queues.{TurnView, Turns, turn_view}
use Rattle.batch_queue.specs.Lasting.{AreOwn, Between, Came, IsOnWay, IsOnWayOver, Lot, Rests, covered_by, in_order}
use Rattle.batch_queue.specs.Settling.{IsOf, IsSettling, WroteWell}
use Rattle.batch_queue.specs.declared.queue.TurnStep.{TurnStep}
use Rattle.batch_queue.specs.declared.queue.TurnStep.TheVariants.{Going, Through, Lost}

-- a queue that is made where no write to its sectors is in flight rests
abbrev pub Made : Type 0
Made = (mine : ℕ → ℕ → Bool) (told : Record) → AreStill mine told → Rests (record { mine = mine; start = told }) [] told

-- its next batch starts
abbrev pub Started : Type 0
Started =
    (lot : Lot) (through : List (List Put)) (old new : State) (puts : List Put) (disks : List ℕ) (view : View)
    → Starts old puts disks view new → IfSome old.told (Rests lot through) → IfSome new.told (IsOnWay lot through puts view)

-- it takes a completion of its own, well or not, where the disk of each write is flushed
abbrev pub Turned : Type 0
Turned =
    (lot : Lot) (through : List (List Put)) (before mid new : State) (puts : List Put) (view : TurnView) (done : Done) (step : TurnStep)
    → IsLawful mid → ((pv sector : ℕ) → IsTrue (covered_by puts pv sector) → IsAmong view.batch.flush pv)
    → Completes before done mid → Turns mid view done step new → IfSome before.told (IsOnWay lot through puts view.batch)
    → Came lot through puts step new

-- others go on that write none of its sectors, while it rests and while a batch is on its way
abbrev pub RestsBeside : Type 0
RestsBeside =
    (lot : Lot) (through : List (List Put)) (tags : List ℕ) (old new : State) → GoesElsewhere lot.mine tags old new
    → IfSome old.told (Rests lot through) → IfSome new.told (Rests lot through)

abbrev pub GoesBeside : Type 0
GoesBeside =
    (lot : Lot) (through : List (List Put)) (puts : List Put) (view : View) (old new : State) → GoesElsewhere lot.mine view.tags old new
    → IfSome old.told (IsOnWay lot through puts view) → IfSome new.told (IsOnWay lot through puts view)

-- each image is on the way of its batches, over a base of its own
abbrev pub ImagesOver : Type 0
ImagesOver =
    (lot : Lot) → IsRecord lot.start.steps → (through : List (List Put)) (puts : List Put) (rest : List (List Put))
    → AreOwn lot (in_order through ++ puts ∷ []) → All ShareNoSector through → ShareNoSector puts
    → (told : Record) → AllLeave lot.mine (Between lot through puts) told → (image : Image) → IsImage told image
    → IsOnWayOver lot (in_order through ++ puts ∷ rest) image

-- ---- sectors that are settled by a batch's flushes

-- of sectors of which no write is in flight and each ended well, a batch that starts and writes none of them will leave what a read
-- gives
abbrev pub SettlingStarts : Type 0
SettlingStarts =
    (free : ℕ → ℕ → Bool) (os : List Operation) (flush : List ℕ) (rest : List Put) (told : Record) → IsRecord told.steps
    → ((pv sector : ℕ) → IsTrue (free pv sector) → WroteWell told.steps pv sector) → AreStill free told
    → ((pv sector : ℕ) → IsTrue (free pv sector) → writes_at (works_of os) pv sector ≡ false)
    → ((pv sector : ℕ) → IsTrue (free pv sector) → covered_by rest pv sector ≡ false)
    → IsSettling free (now_after told.opened told.steps)
    (record { tags = tags_of os; flush = flush; flushing = false; lost = None; rest = rest }) (submitted_on os told)

-- what it came to: once it is through, each of them has that value alone, where it flushes their disks
abbrev pub SettlingCame : (ℕ → ℕ → Bool) → Image → TurnStep → State → Type 0
SettlingCame free image (Going turning) state = IfSome state.told (IsSettling free image (turn_view turning).batch)
SettlingCame free image (Through queue) state = IfSome state.told (AllLeave free (IsOf image))
SettlingCame free image (Lost pv) state = Unit {0}

abbrev pub SettlingTurns : Type 0
SettlingTurns =
    (free : ℕ → ℕ → Bool) (image : Image) (before mid new : State) (view : TurnView) (done : Done) (step : TurnStep) → IsLawful mid
    → ((pv sector : ℕ) → IsTrue (free pv sector) → IsAmong view.batch.flush pv)
    → Completes before done mid → Turns mid view done step new → IfSome before.told (IsSettling free image view.batch)
    → SettlingCame free image step new

-- others go on that write none of them, while it is on its way, and once it is through
abbrev pub SettlingBeside : Type 0
SettlingBeside =
    (free : ℕ → ℕ → Bool) (image : Image) (view : View) (old new : State) → GoesElsewhere free view.tags old new
    → (IfSome old.told (IsSettling free image view) → IfSome new.told (IsSettling free image view))
    × (IfSome old.told (AllLeave free (IsOf image)) → IfSome new.told (AllLeave free (IsOf image)))
