-- The laws of histories.
use Rattle.std.specs.Prelude.{◌≡◌, ◌≤◌, ℕ, suc, ◌+◌, Bool, true, false, List, [], ◌∷◌, length, map, Option, Some}
use Rattle.line_answers.specs.declared.answer.Answer.{Answer}
use Rattle.line_answers.specs.declared.answer.Answer.TheVariants as answer
use Rattle.lvm_script.specs.declared.line.Line.{Line}
use Rattle.data_lines.specs.DataLines.{is_command}
use Rattle.disk_model.specs.Steps.{Image, Step}
use Rattle.volume_rules.specs.Rules.{IsAccepted}
use Rattle.volume_view.specs.View.{view}
use Rattle.vg_scan.specs.Versions.{FindsVersion, Version}
use Rattle.volume_history.specs.Placed.{Place, PlacedVolume, group_name, values_on, volumes_of}
use Rattle.volume_history.specs.Commands.{commits, is_good, may_say, removes}
use Rattle.volume_history.specs.Chronicles.{AreUpto, ChronicleEntry, Answered, Origin, Chronicle, moment_of, chronicle_at, in_force}
use Rattle.volume_history.specs.Chronicles.{origin_at, origin_on, pending, with_step, with_entry}
use Rattle.volume_history.specs.Replay.{plain_state}
use Rattle.volume_history.specs.Legal.{AllOrdered, IsFaithful, IsLegalHistory, IsOrdered}
use Rattle.volume_history.specs.Candidates.{base, candidates, IsConsistentMoment, IsConsistentNow, IsIn}
use Rattle.volume_history.specs.Cuts.{IsMadeLast}
use Rattle.volume_history.specs.Parts.{NextPart, PlaceHolds, Primaries, ScansPart}
use Rattle.volume_history.specs.Quiet.{IsQuietMoment}
use Rattle.volume_history.specs.Runs.{HasHistory, Run, journal_of, lines_of}
use Rattle.volume_history.specs.Single.{CommitLaw, CreateLaw, CreatedLaw, DoneLaw, GivenUpLaw, LeavesAll, LeavesDisk, MadeLaw, MayEnd}
use Rattle.volume_history.specs.Single.{StaysLaw, taken_entries, done_entries, end_of, fenced_entries, given_up_entries, made_entries}
use Rattle.volume_history.specs.Single.{answered_entries}
use Rattle.volume_history.specs.Sources.{HoldsFrom, IsSource, MovesNone, Source, value_of}

-- an earlier moment stays what it was, whatever is told or entered later
abbrev pub PastStays : Type 0
PastStays =
    (c : Chronicle) (moment : ℕ) (step : Step) (e : ChronicleEntry)
    → (moment ≤ length c.origin.told.steps → chronicle_at moment (with_step step c) ≡ chronicle_at moment c)
    × (suc moment ≤ moment_of e → chronicle_at moment (with_entry e c) ≡ chronicle_at moment c)

-- the machine depends on what was told by the moments of its entries
abbrev pub ReplayStays : Type 0
ReplayStays =
    (step : Step) (o : Origin) (es : List ChronicleEntry) → o.first ≤ length o.told.steps → AreUpto (length o.told.steps) es
    → plain_state (origin_on step o) es ≡ plain_state o es

-- one lawful entry more keeps a history legal, and so does one step more that is told
abbrev pub HistoriesGrow : Type 0
HistoriesGrow =
    (c : Chronicle) (e : ChronicleEntry) (step : Step) → IsLegalHistory c
    → (IsOrdered c.origin.start c.entries e → IsFaithful (origin_at (moment_of e) c.origin) c.entries e
    → moment_of e ≤ length c.origin.told.steps → IsLegalHistory (with_entry e c))
    × IsLegalHistory (with_step step c)

-- only an answer ok or a birth moves a base
abbrev pub BasesStay : Type 0
BasesStay =
    (o : Origin) (es : List ChronicleEntry) (key x : ℕ) (e : ChronicleEntry) → MovesNone o es key x e
    → base o (e ∷ es) key x ≡ base o es key x

-- an answer ok leaves a base, or makes it a write that it makes last: one of its own line, if that is through, or one of the
-- volume that its line flushes, if it took place before that was begun
abbrev pub OksMoveBases : Type 0
OksMoveBases =
    (o : Origin) (es : List ChronicleEntry) (m n key x : ℕ) → AllOrdered o.start es
    → IsMadeLast es n key x (base o es key x) (base o (Answered m n answer.Fine ∷ es) key x)

-- what has a source is a candidate
abbrev pub SourcesAreCandidates : Type 0
SourcesAreCandidates =
    (o : Origin) (es : List ChronicleEntry) (key x : ℕ) (s : Source) → IsSource o es key x s
    → IsIn (candidates o es key x) (value_of o es key x s)

-- an answer ok keeps a sector at its place where the place holds from the new base on
abbrev pub AnswersKeep : Type 0
AnswersKeep =
    (o : Origin) (es : List ChronicleEntry) (key x : ℕ) (place : Place) (m n : ℕ)
    → HoldsFrom o es (base o (Answered m n answer.Fine ∷ es) key x) key x place → PlaceHolds o (Answered m n answer.Fine ∷ es) key x place

-- now is consistent where scans of every image find the version in force or the pending one, and these have the machine's
-- names and lengths, and each sector its place
abbrev pub PartsMakeConsistent : Type 0
PartsMakeConsistent =
    (c : Chronicle) → ScansPart c.origin c.entries
    → Primaries c.origin c.entries (volumes_of (in_force c.origin c.entries)) (plain_state c.origin c.entries).volumes
    → group_name (in_force c.origin c.entries) ≡ (plain_state c.origin c.entries).group → NextPart c.origin c.entries (pending c.entries)
    → IsConsistentNow c

-- a moment of a quiet history is consistent
abbrev pub QuietIsConsistent : Type 0
QuietIsConsistent =
    (c : Chronicle) (moment : ℕ) → c.origin.first ≤ moment → moment ≤ length c.origin.told.steps → IsQuietMoment c moment
    → IsConsistentMoment c moment

-- a scan of an image that leaves the same disks out finds one version at most
abbrev pub ScansAreOne : Type 0
ScansAreOne =
    (sizes : List ℕ) (image : Image) (out : ℕ → Bool) (version other : Option Version) → FindsVersion sizes image out version
    → FindsVersion sizes image out other
    → version ≡ other

-- the values at the places of the volumes of an accepted version, with the volumes' names, are the view of its group
abbrev pub VolumesAreViewed : Type 0
VolumesAreViewed =
    (image : Image) (version : Version) → IsAccepted version.group
    → map (λ (v : PlacedVolume). (v.name, values_on image v.places)) (volumes_of (Some version)) ≡ view image version.group version.disk_of

-- ---- single commands

-- the run that an origin tells of
abbrev pub run_of : Origin → Run
run_of o = record { told = o.told; first = o.first; sizes = o.sizes; names = o.names; clock = o.clock }

-- its history has these entries
pub record Tells (o : Origin) (es : List ChronicleEntry) : Type 0 where
  pub history : HasHistory (run_of o) (journal_of es) (lines_of es es)
  pub entries_is : history.chronicle.entries ≡ es

-- a run that ended before its line
abbrev pub NoLine : Type 0
NoLine = (o : Origin) → StaysLaw o → Tells o []

-- the line of a command that wasn't done, and wrote nothing: it was refused, or a read failed
abbrev pub UndoneLine : Type 0
UndoneLine =
    (o : Origin) (line : Line) (answer : Answer) → StaysLaw o → is_command line.command ≡ true → LeavesDisk o line → LeavesAll o line
    → is_good answer ≡ false
    → may_say line.command answer ≡ true → Tells o (answered_entries o line answer)

-- one that was done, and commits and writes nothing: a report
abbrev pub DoneLine : Type 0
DoneLine =
    (o : Origin) (line : Line) → StaysLaw o → is_command line.command ≡ true → LeavesDisk o line → commits line.command ≡ false
    → may_say line.command answer.Fine ≡ true → Tells o (taken_entries o line)

-- a commit that was done
abbrev pub DoneCommit : Type 0
DoneCommit =
    (o : Origin) (line : Line) (opened : ℕ) (version : Option Version) → CommitLaw o line opened version → DoneLaw o version
    → Tells o (done_entries o line opened version)

-- one that was made at a moment, and then answered ok, or failed on what came behind it
abbrev pub MadeCommit : Type 0
MadeCommit =
    (o : Origin) (line : Line) (opened made : ℕ) (version : Option Version) (said : Answer) → CommitLaw o line opened version
    → MadeLaw o opened made version → MayEnd said
    → Tells o (made_entries o line opened made version said)

-- one that was given up; a removal isn't
abbrev pub GivenUpCommit : Type 0
GivenUpCommit =
    (o : Origin) (line : Line) (opened : ℕ) (version : Option Version) (pv : ℕ) → CommitLaw o line opened version → GivenUpLaw o
    → removes line.command ≡ false → Tells o (given_up_entries o line opened version pv)

-- one that fences the group
abbrev pub FencedCommit : Type 0
FencedCommit =
    (o : Origin) (line : Line) (opened : ℕ) (version : Option Version) (pv : ℕ) → CommitLaw o line opened version
    → Tells o (fenced_entries o line opened version pv)

-- a pvcreate that was done
abbrev pub DoneCreate : Type 0
DoneCreate = (o : Origin) (line : Line) (disk : ℕ) → CreateLaw o line disk (end_of o) → CreatedLaw o → Tells o (taken_entries o line)

-- one that failed
abbrev pub FailedCreate : Type 0
FailedCreate =
    (o : Origin) (line : Line) (disk pv : ℕ) → CreateLaw o line disk (end_of o + 1) → Tells o (answered_entries o line (answer.PvFailed pv))
