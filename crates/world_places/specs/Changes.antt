-- What an act leaves of the scene around a place: of pieces and their legs, of notes, of the plan, and of what is told.
use Rattle.std.specs.Prelude.{◌≡◌, ◌≤◌, ◌⊎◌, ℕ, ◌||◌, Bool, true, false, if◌then◌else◌, Contains, List, [], ◌∷◌, length}
use Rattle.sector_base.specs.Spans.{covers}
use Rattle.disk_model.specs.Brought.{writes}
use Rattle.disk_model.specs.Record.{Operation}
use Rattle.disk_model.specs.Steps.{Completed, Flushing, Reading, Step, Submitted, Writing}
use Rattle.disk_model.specs.Submitting.{submitted_on}
use Rattle.flush_plan.specs.Plans.{Plan, marks_of}
use Rattle.volume_history.specs.Chronicles.{AreUpto, ChronicleEntry, origin_on, settled_at}
use Rattle.volume_history.specs.Placed.{Place}
use Rattle.world_places.specs.Lives.{Bad, IsNotedAt, IsWriting, Leg, Live, Waiting, Written, runs_at, value_in}
use Rattle.world_places.specs.Nows.{has_ended}
use Rattle.world_places.specs.Tracked.{Scene}

-- ---- scenes

-- one step more is told, and these are the pieces and the plan then
abbrev pub stepped : Scene → Step → List Live → Plan → Scene
stepped g step lives plan = record g { origin = origin_on step g.origin; lives = lives; plan = plan }

-- one entry more, and these are the pieces and the notes then
abbrev pub behind : Scene → ChronicleEntry → List Live → List Written → Scene
behind g e lives written = record g { entries = e ∷ g.entries; lives = lives; written = written }

-- these operations are submitted
abbrev pub submitting : List Operation → Scene → Scene
submitting os g = record g { origin = record g.origin { told = submitted_on os g.origin.told } }

-- none of them writes at the place
abbrev pub NoneWrites : List Operation → Place → Type 0
NoneWrites [] place = Unit {0}
NoneWrites (op ∷ os) place = (writes op.work place.disk place.sector ≡ false) × NoneWrites os place

-- the history is within what was told
pub record IsTold (g : Scene) : Type 0 where
  pub first : g.origin.first ≤ length g.origin.told.steps
  pub upto : AreUpto (length g.origin.told.steps) g.entries

-- ---- pieces, legs and notes

-- a line that is settled at the sector, or has a started piece there, still is or has
abbrev pub RealStays : List ChronicleEntry → List Live → List ChronicleEntry → List Live → ℕ → ℕ → Type 0
RealStays es lives es' lives' key x =
    (n : ℕ) → (settled_at es n key x || runs_at lives n key x) ≡ true → (settled_at es' n key x || runs_at lives' n key x) ≡ true

-- a leg stood there among these pieces, in its state and with its value
pub record Stood (lives : List Live) (key x : ℕ) (place : Place) (l : Live) (leg : Leg) : Type 0 where
  pub live : Live
  pub own : Leg
  pub writing : IsWriting lives key x place live own
  pub state : own.state ≡ leg.state
  pub value : value_in live x ≡ value_in l x

-- each leg there stood, or is such a new one
abbrev pub LegsFrom : (Live → Leg → Type 0) → List Live → List Live → ℕ → ℕ → Place → Type 0
LegsFrom New lives lives' key x place =
    (l : Live) (leg : Leg) → IsWriting lives' key x place l leg → Stood lives key x place l leg ⊎ New l leg

-- its write hasn't come: it is still to be submitted, or it completed badly
abbrev pub IsIdle : Live → Leg → Type 0
IsIdle l leg = (leg.state ≡ Waiting) ⊎ (leg.state ≡ Bad)

-- each leg there is so
abbrev pub AreIdle : List Live → ℕ → ℕ → Place → Type 0
AreIdle lives key x place = (l : Live) (leg : Leg) → IsWriting lives key x place l leg → IsIdle l leg

-- notes of the place stay, but those of writes that last
abbrev pub NotesStay : List Written → List Written → Plan → ℕ → Place → Type 0
NotesStay written written' plan x place =
    (w : Written) → Contains written w → IsNotedAt w x place
    → Contains written' w ⊎ (w.place ≤ (marks_of plan place.disk).stable)

-- ---- what a read gives

-- whether the step completes no write of the sector
abbrev pub ends_elsewhere : Step → ℕ → ℕ → Bool
ends_elsewhere (Submitted tag work) pv sector = true
ends_elsewhere (Completed tag (Writing span sectors) well fresh) pv sector = if covers span pv sector then false else true
ends_elsewhere (Completed tag (Reading span) well fresh) pv sector = true
ends_elsewhere (Completed tag (Flushing disk) well fresh) pv sector = true

-- legs whose write has ended stay, and no others end
pub record EndsStay (lives lives' : List Live) (key x : ℕ) (place : Place) : Type 0 where
  pub kept :
      (l : Live) (leg : Leg) → IsWriting lives key x place l leg → has_ended leg.state ≡ true → Stood lives' key x place l leg
  pub none : (l : Live) (leg : Leg) → IsWriting lives' key x place l leg → has_ended leg.state ≡ true → Stood lives key x place l leg
