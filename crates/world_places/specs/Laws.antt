-- The laws of tracked places.
use Rattle.std.specs.Prelude.{◌≡◌, ◌≤◌, ◌<◌, ◌⊎◌, ℕ, ◌+◌, Bool, true, false, Contains, IsTrue, List, [], ◌∷◌, length, Option, None}
use Rattle.sector_base.specs.Spans.{covers}
use Rattle.sector_base.specs.declared.places.Piece.{Piece}
use Rattle.sector_base.specs.declared.spans.Span.{Span}
use Rattle.line_answers.specs.declared.answer.Answer.{Answer}
use Rattle.line_answers.specs.declared.answer.Answer.TheVariants as answer
use Rattle.lvm_script.specs.declared.line.Line.{Line}
use Rattle.disk_model.specs.Brought.{brings, writes}
use Rattle.disk_model.specs.Durability.{OnlyLeaves, OnlyLeavesOrCompleted}
use Rattle.disk_model.specs.Record.{Operation}
use Rattle.disk_model.specs.Steps.{Completed, Flushing, Step, Submitted, Work, Writing, value_at}
use Rattle.flush_plan.specs.Plans.{IsOrderly, Plan, flush_of, is_in_flight}
use Rattle.flush_plan.specs.Steps.{after_flushed, after_forgot, after_lost, after_submitted, after_wrote}
use Rattle.line_table.specs.Machine.{PlainVolume, sector_of}
use Rattle.vg_scan.specs.Versions.{Version}
use Rattle.volume_history.specs.Candidates.{bears, is_write}
use Rattle.volume_history.specs.Chronicles.{Answered, Begun, Changed, ChronicleEntry, Failed, GivenUp, Opened, Took, begun_in, is_answered}
use Rattle.volume_history.specs.Commands.{is_fine}
use Rattle.volume_history.specs.Cuts.{AreNumbered}
use Rattle.volume_history.specs.Parts.{PlaceHolds, Primaries}
use Rattle.volume_history.specs.Placed.{Place, PlacedVolume}
use Rattle.volume_history.specs.Replay.{plain_state}
use Rattle.world_places.specs.Changes.{AreIdle, EndsStay, IsIdle, IsTold, LegsFrom, NoneWrites, NotesStay, RealStays, behind}
use Rattle.world_places.specs.Changes.{ends_elsewhere, stepped, submitting}
use Rattle.world_places.specs.Lives.{Bad, Flying, IsNotedAt, IsWriting, Leg, Live, Well, Written, runs_at, value_in}
use Rattle.world_places.specs.Nows.{NowHolds, has_ended, now_of}
use Rattle.world_places.specs.Steady.{AreSteady}
use Rattle.world_places.specs.Tracked.{AreLive, IsLiveOf, IsNoteOf, Scene, Tracked}
use Rattle.world_places.specs.Volumes.{AllTracked}
use Rattle.world_places.specs.Waiting.{WaitsForNone}

-- ---- steps

-- a step that brings nothing there: a read, a write elsewhere, whatever completes
abbrev pub StepsKeep : Type 0
StepsKeep =
    (g : Scene) (key x : ℕ) (place : Place) (step : Step) → IsTold g → brings step place.disk place.sector ≡ false
    → Tracked g key x place → Tracked (stepped g step g.lives g.plan) key x place

-- several submissions, none of which writes there
abbrev pub SubmissionsKeep : Type 0
SubmissionsKeep =
    (g : Scene) (key x : ℕ) (place : Place) (os : List Operation) → IsTold g → NoneWrites os place
    → Tracked g key x place → Tracked (submitting os g) key x place

-- a flush is submitted
abbrev pub FlushesKeep : Type 0
FlushesKeep =
    (g : Scene) (key x : ℕ) (place : Place) (tag disk : ℕ) → IsTold g → Tracked g key x place
    → Tracked (stepped g (Submitted tag (Flushing disk)) g.lives (after_submitted g.plan disk tag)) key x place

-- it completes well
abbrev pub FlushesDoneKeep : Type 0
FlushesDoneKeep =
    (g : Scene) (key x : ℕ) (place : Place) (tag disk : ℕ) (fresh : List Bool) → IsTold g → IsTrue (is_in_flight g.plan tag)
    → (flush_of g.plan tag).pv ≡ disk → disk < length g.plan.marks → Tracked g key x place
    → Tracked (stepped g (Completed tag (Flushing disk) true fresh) g.lives (after_flushed g.plan tag)) key x place

-- it fails
abbrev pub FailedFlushesKeep : Type 0
FailedFlushesKeep =
    (g : Scene) (key x : ℕ) (place : Place) (tag disk : ℕ) (fresh : List Bool) → IsTold g → IsTrue (is_in_flight g.plan tag)
    → Tracked g key x place
    → Tracked (stepped g (Completed tag (Flushing disk) false fresh) g.lives (after_lost g.plan tag)) key x place

-- ---- writes of pieces

-- the write of a started piece is submitted there, where no other write of the sector is in flight, nor one of another value
abbrev pub WritesKeep : Type 0
WritesKeep =
    (g : Scene) (key x : ℕ) (place : Place) (lives : List Live) (l0 : Live) (tag : ℕ) (span : Span) (sectors : List (List ℕ)) → IsTold g
    → IsLiveOf g.entries l0 key x → runs_at lives l0.line key x ≡ true → value_at span sectors place.sector ≡ value_in l0 x
    → OnlyLeavesOrCompleted g.origin.told place.disk place.sector (λ v. v ≡ value_in l0 x)
    → RealStays g.entries g.lives g.entries lives key x
    → ((l : Live) (leg : Leg) → IsWriting lives key x place l leg
    → ((leg.state ≡ Flying tag) × (value_in l x ≡ value_in l0 x)) ⊎ IsIdle l leg)
    → Tracked g key x place → Tracked (stepped g (Submitted tag (Writing span sectors)) lives g.plan) key x place

-- it completes well, and is noted as the plan's next write
abbrev pub WritesDoneKeep : Type 0
WritesDoneKeep =
    (g : Scene) (key x : ℕ) (place : Place) (lives : List Live) (l0 : Live) (leg0 : Leg) (tag number : ℕ) (work : Work) (fresh : List Bool)
    → IsTold g → IsOrderly g.plan → IsTrue (writes work place.disk place.sector) → IsWriting g.lives key x place l0 leg0
    → leg0.state ≡ Flying tag → RealStays g.entries g.lives g.entries lives key x
    → LegsFrom (λ l leg. (leg.state ≡ Well (g.plan.held + 1)) × (value_in l x ≡ value_in l0 x)) g.lives lives key x place
    → Tracked g key x place
    → Tracked (stepped g (Completed tag work true fresh) lives (after_wrote g.plan number place.disk)) key x place

-- it completes badly
abbrev pub BadWritesKeep : Type 0
BadWritesKeep =
    (g : Scene) (key x : ℕ) (place : Place) (lives : List Live) (tag : ℕ) (work : Work) (fresh : List Bool) → IsTold g
    → RealStays g.entries g.lives g.entries lives key x → LegsFrom IsIdle g.lives lives key x place
    → Tracked g key x place → Tracked (stepped g (Completed tag work false fresh) lives g.plan) key x place

-- a write completes well elsewhere, and is noted
abbrev pub OtherWritesKeep : Type 0
OtherWritesKeep =
    (g : Scene) (key x : ℕ) (place : Place) (lives : List Live) (tag number disk : ℕ) (work : Work) (fresh : List Bool) → IsTold g
    → RealStays g.entries g.lives g.entries lives key x → LegsFrom IsIdle g.lives lives key x place
    → Tracked g key x place → Tracked (stepped g (Completed tag work true fresh) lives (after_wrote g.plan number disk)) key x place

-- ---- pieces and notes

-- pieces enter, start and leave, and notes of writes that last are dropped
abbrev pub LivesKeep : Type 0
LivesKeep =
    (g : Scene) (key x : ℕ) (place : Place) (lives : List Live) (written : List Written) → IsTold g
    → RealStays g.entries g.lives g.entries lives key x → LegsFrom IsIdle g.lives lives key x place
    → NotesStay g.written written g.plan x place
    → Tracked g key x place → Tracked (record g { lives = lives; written = written }) key x place

-- the plan forgets writes
abbrev pub ForgettingKeeps : Type 0
ForgettingKeeps =
    (g : Scene) (key x : ℕ) (place : Place) (number disk : ℕ) → IsTold g
    → Tracked g key x place → Tracked (record g { plan = after_forgot g.plan number disk }) key x place

-- ---- entries

-- a line is begun, under a new number
abbrev pub BeginningsKeep : Type 0
BeginningsKeep =
    (g : Scene) (key x : ℕ) (place : Place) (m n : ℕ) (line : Line) (k : Option ℕ) → begun_in g.entries n ≡ None
    → is_answered g.entries n ≡ false → Tracked g key x place → Tracked (behind g (Begun m n line k) g.lives g.written) key x place

-- a commit starts
abbrev pub OpeningsKeep : Type 0
OpeningsKeep =
    (g : Scene) (key x : ℕ) (place : Place) (m n : ℕ) (version : Option Version)
    → Tracked g key x place → Tracked (behind g (Opened m n version) g.lives g.written) key x place

-- it is given up
abbrev pub GivingUpKeeps : Type 0
GivingUpKeeps =
    (g : Scene) (key x : ℕ) (place : Place) (m n : ℕ)
    → Tracked g key x place → Tracked (behind g (GivenUp m n) g.lives g.written) key x place

-- it has made a version in which the sector isn't born
abbrev pub ChangesKeep : Type 0
ChangesKeep =
    (g : Scene) (key x : ℕ) (place : Place) (m n : ℕ) (version : Option Version)
    → bears g.origin key x (Changed m n version) g.entries ≡ false
    → Tracked g key x place → Tracked (behind g (Changed m n version) g.lives g.written) key x place

-- a piece fails, and leaves
abbrev pub FailuresKeep : Type 0
FailuresKeep =
    (g : Scene) (key x : ℕ) (place : Place) (m n : ℕ) (piece : Piece) (lives : List Live)
    → RealStays g.entries g.lives (Failed m n piece ∷ g.entries) lives key x → LegsFrom IsIdle g.lives lives key x place
    → Tracked g key x place → Tracked (behind g (Failed m n piece) lives g.written) key x place

-- a piece takes place that doesn't write the sector, or a line without pieces
abbrev pub OtherTakesKeep : Type 0
OtherTakesKeep =
    (g : Scene) (key x : ℕ) (place : Place) (m n : ℕ) (piece : Piece) (lives : List Live) (written : List Written)
    → is_answered g.entries n ≡ false → is_write key x (Took m n piece) g.entries ≡ false
    → RealStays g.entries g.lives (Took m n piece ∷ g.entries) lives key x → LegsFrom IsIdle g.lives lives key x place
    → NotesStay g.written written g.plan x place
    → Tracked g key x place → Tracked (behind g (Took m n piece) lives written) key x place

-- a piece takes place that writes the sector: its write has completed well there, and is noted
abbrev pub TakesKeep : Type 0
TakesKeep =
    (g : Scene) (key x : ℕ) (place : Place) (m n : ℕ) (piece : Piece) (lives : List Live) (written : List Written) (l0 : Live) (leg0 : Leg)
    (k : ℕ) (note : Written) → is_answered g.entries n ≡ false → IsWriting g.lives key x place l0 leg0 → leg0.state ≡ Well k
    → sector_of (plain_state g.origin (Took m n piece ∷ g.entries)) key x ≡ value_in l0 x
    → Contains written note → IsNoteOf note (Took m n piece) g.entries → IsNotedAt note x place → k ≤ note.place
    → RealStays g.entries g.lives (Took m n piece ∷ g.entries) lives key x → LegsFrom IsIdle g.lives lives key x place
    → NotesStay g.written written g.plan x place
    → Tracked g key x place → Tracked (behind g (Took m n piece) lives written) key x place

-- ---- answers

-- a line is answered, and not ok
abbrev pub AnswersKeep : Type 0
AnswersKeep =
    (g : Scene) (key x : ℕ) (place : Place) (m n : ℕ) (said : Answer) → is_answered g.entries n ≡ false → is_fine said ≡ false
    → Tracked g key x place → Tracked (behind g (Answered m n said) g.lives g.written) key x place

-- any line is answered ok, where it waits for no write: a cached one, one that is through, one that flushes, a command
abbrev pub OksKeep : Type 0
OksKeep =
    (g : Scene) (key x : ℕ) (place : Place) (m n : ℕ) → AreNumbered g.entries g.entries → WaitsForNone g n
    → Tracked g key x place → Tracked (behind g (Answered m n answer.Fine) g.lives g.written) key x place

-- ---- where places begin

-- at the opening, where the disks have only what the machine begins with
abbrev pub OpeningTracks : Type 0
OpeningTracks =
    (g : Scene) (key x : ℕ) (place : Place) → g.entries ≡ [] → AreIdle g.lives key x place
    → OnlyLeaves g.origin.told place.disk place.sector (λ v. v ≡ sector_of (plain_state g.origin []) key x) → Tracked g key x place

-- at the sector's birth
abbrev pub BirthsTrack : Type 0
BirthsTrack =
    (g : Scene) (key x : ℕ) (place : Place) (e : ChronicleEntry) (es : List ChronicleEntry) → g.entries ≡ e ∷ es
    → bears g.origin key x e es ≡ true → AreIdle g.lives key x place
    → OnlyLeaves g.origin.told place.disk place.sector (λ v. v ≡ sector_of (plain_state g.origin (e ∷ es)) key x)
    → Tracked g key x place

-- where only what the machine has is left there, as behind a copy, and its values came from lines that were settled
abbrev pub ValuesTrack : Type 0
ValuesTrack =
    (g : Scene) (key x : ℕ) (place : Place) → AreSteady g.origin g.entries key x g.entries → AreIdle g.lives key x place
    → OnlyLeaves g.origin.told place.disk place.sector (λ v. v ≡ sector_of (plain_state g.origin g.entries) key x)
    → Tracked g key x place

-- ---- what follows

-- a tracked place holds the sector
abbrev pub PlacesHold : Type 0
PlacesHold =
    (g : Scene) (key x : ℕ) (place : Place) → AreLive g key x → Tracked g key x place → PlaceHolds g.origin g.entries key x place

-- so the primary places of volumes do
abbrev pub VolumesHold : Type 0
VolumesHold =
    (g : Scene) (placed : List PlacedVolume) (plain : List PlainVolume) → ((key x : ℕ) → AreLive g key x)
    → AllTracked g placed plain → Primaries g.origin g.entries placed plain

-- ---- what a read gives

-- a step that completes no write there
abbrev pub OtherReadsHold : Type 0
OtherReadsHold =
    (g : Scene) (key x : ℕ) (place : Place) (step : Step) (lives : List Live) (plan : Plan) → IsTold g
    → ends_elsewhere step place.disk place.sector ≡ true → EndsStay g.lives lives key x place
    → NowHolds g key x place → NowHolds (stepped g step lives plan) key x place

-- the write of a started piece completes well there, and each other leg whose write has ended there has its value
abbrev pub NewReadsHold : Type 0
NewReadsHold =
    (g : Scene) (key x : ℕ) (place : Place) (tag : ℕ) (span : Span) (sectors : List (List ℕ)) (fresh : List Bool) (lives : List Live)
    (plan : Plan) (l0 : Live) (leg0 : Leg) → IsTrue (covers span place.disk place.sector)
    → value_at span sectors place.sector ≡ value_in l0 x → IsWriting lives key x place l0 leg0 → has_ended leg0.state ≡ true
    → ((l : Live) (leg : Leg) → IsWriting lives key x place l leg → has_ended leg.state ≡ true → value_in l x ≡ value_in l0 x)
    → NowHolds (stepped g (Completed tag (Writing span sectors) true fresh) lives plan) key x place

-- it completes badly, where a read gave what the machine has
abbrev pub BadReadsHold : Type 0
BadReadsHold =
    (g : Scene) (key x : ℕ) (place : Place) (tag : ℕ) (span : Span) (sectors : List (List ℕ)) (fresh : List Bool) (lives : List Live)
    (plan : Plan) (l0 : Live) (leg0 : Leg) → IsTold g → value_at span sectors place.sector ≡ value_in l0 x
    → IsWriting lives key x place l0 leg0 → leg0.state ≡ Bad
    → ((l : Live) (leg : Leg) (k : ℕ) → IsWriting lives key x place l leg → leg.state ≡ Well k → ⊥)
    → now_of g place ≡ sector_of (plain_state g.origin g.entries) key x
    → NowHolds (stepped g (Completed tag (Writing span sectors) false fresh) lives plan) key x place

-- the machine has what a read gives, and no started piece has written there
abbrev pub SettledReadsHold : Type 0
SettledReadsHold =
    (g : Scene) (key x : ℕ) (place : Place) → now_of g place ≡ sector_of (plain_state g.origin g.entries) key x
    → ((l : Live) (leg : Leg) → IsWriting g.lives key x place l leg → has_ended leg.state ≡ false) → NowHolds g key x place
