-- What holds of a sector's place: each value that may be left there has a source, and how far the writes that no answer has made
-- last, and those under way, have come.
use Rattle.std.specs.Prelude.{◌≡◌, ◌≤◌, ◌⊎◌, ℕ, ◌||◌, true, false, Contains, List, ◌∷◌, Some}
use Rattle.lvm_script.specs.declared.line.Line.{Line}
use Rattle.data_lines.specs.DataLines.{covers_sector, value_for, writes}
use Rattle.disk_model.specs.Durability.{OnlyLeaves, OnlyLeavesOrCompleted}
use Rattle.disk_model.specs.Steps.{Record}
use Rattle.flush_plan.specs.Plans.{Plan, marks_of}
use Rattle.volume_history.specs.Candidates.{base}
use Rattle.volume_history.specs.Chronicles.{ChronicleEntry, Origin, Took, begun_in, count_begun, is_answered, settled_at}
use Rattle.volume_history.specs.Cuts.{EachCut}
use Rattle.volume_history.specs.Placed.{Place}
use Rattle.volume_history.specs.Sources.{Base, ByLine, Source, value_from}
use Rattle.world_places.specs.Comings.{Comes}
use Rattle.world_places.specs.Lives.{Bad, Flying, IsNotedAt, IsWriting, Leg, LegState, Live, Waiting, Well, Written, runs_at, value_in}
use Rattle.world_places.specs.Lives.{writes_now}

-- what a place is held against: the history so far, and what the world keeps of pieces, writes and flushes
pub record Scene : Type 0 where
  pub origin : Origin
  pub entries : List ChronicleEntry
  pub lives : List Live
  pub written : List Written
  pub plan : Plan

-- a line that writes the sector, was begun, wasn't settled before the base, and is settled now or has a started piece there
pub record Stands (g : Scene) (based : List ChronicleEntry) (key x n : ℕ) (line : Line) : Type 0 where
  pub begun : begun_in g.entries n ≡ Some (line, Some key)
  pub writing : writes line.command ≡ true
  pub covers : covers_sector line.command x ≡ true
  pub unsettled : settled_at based n key x ≡ false
  pub real : (settled_at g.entries n key x || runs_at g.lives n key x) ≡ true

-- the source is real and no older than the base
abbrev pub IsStanding : Scene → List ChronicleEntry → ℕ → ℕ → Source → Type 0
IsStanding g based key x Base = Unit {0}
IsStanding g based key x (ByLine n line) = Stands g based key x n line

-- the value has a source that is no older than this base
abbrev pub Sourced : Scene → List ChronicleEntry → ℕ → ℕ → List ℕ → Type 0
Sourced g based key x value = (s : Source) × IsStanding g based key x s × (value_from g.origin based key x s ≡ value)

-- how far a write under way has come at a place
abbrev pub LegAt : Plan → Record → Place → List ℕ → LegState → Type 0
LegAt plan told place value Waiting = Unit {0}
LegAt plan told place value (Flying tag) = OnlyLeavesOrCompleted told place.disk place.sector (λ v. v ≡ value)
LegAt plan told place value (Well k) = Comes plan told place.disk place.sector k (λ v. v ≡ value)
LegAt plan told place value Bad = Unit {0}

-- the note of a write that took place
abbrev pub IsNoteOf : Written → ChronicleEntry → List ChronicleEntry → Type 0
IsNoteOf w (Took m n piece) older = (w.line ≡ n) × (w.piece ≡ piece) × (w.begun ≡ count_begun older)
IsNoteOf w _ older = ⊥

-- the write is noted as the k-th or a later one, so a line that it concerns waits
pub record IsAwaited (g : Scene) (place : Place) (x k : ℕ) (e : ChronicleEntry) (older : List ChronicleEntry) : Type 0 where
  pub note : Written
  pub kept : Contains g.written note
  pub its : IsNoteOf note e older
  pub noted : IsNotedAt note x place
  pub late : k ≤ note.place

-- a write of the sector that took place: how far the values that are no older than it have come; until they last the write is noted
pub record CutAt (g : Scene) (place : Place) (key x : ℕ) (e : ChronicleEntry) (older : List ChronicleEntry) : Type 0 where
  pub mark : ℕ
  pub comes : Comes g.plan g.origin.told place.disk place.sector mark (Sourced g (e ∷ older) key x)
  pub waits : (mark ≤ (marks_of g.plan place.disk).stable) ⊎ IsAwaited g place x mark e older

-- the place is tracked for the sector
pub record Tracked (g : Scene) (key x : ℕ) (place : Place) : Type 0 where
  pub holds : OnlyLeaves g.origin.told place.disk place.sector (Sourced g (base g.origin g.entries key x) key x)
  pub cuts : EachCut (CutAt g place key x) g.origin key x g.entries
  pub runs : (l : Live) (leg : Leg) → IsWriting g.lives key x place l leg → LegAt g.plan g.origin.told place (value_in l x) leg.state

-- a started piece that writes is one of a line that was begun and isn't answered, has its values, and isn't settled
pub record IsLiveOf (es : List ChronicleEntry) (l : Live) (key x : ℕ) : Type 0 where
  pub line : Line
  pub begun : begun_in es l.line ≡ Some (line, Some key)
  pub writing : writes line.command ≡ true
  pub unanswered : is_answered es l.line ≡ false
  pub covers : covers_sector line.command x ≡ true
  pub value : value_in l x ≡ value_for line.command x
  pub unsettled : settled_at es l.line key x ≡ false

-- each started piece that writes the sector is one
abbrev pub AreLive : Scene → ℕ → ℕ → Type 0
AreLive g key x = (l : Live) → Contains g.lives l → writes_now l key x ≡ true → IsLiveOf g.entries l key x
