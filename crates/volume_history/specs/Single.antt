-- The histories of a single command, by how it ends.
use Rattle.std.specs.Prelude.{◌≡◌, ◌≤◌, ◌<◌, ◌⊎◌, ℕ, ◌-◌, ◌==◌, ◌&&◌, Bool, true, false, List, [], ◌∷◌, length, take, Option, Some, None}
use Rattle.command_table.specs.declared.command.Command.{Command}
use Rattle.line_answers.specs.declared.answer.Answer.{Answer}
use Rattle.line_answers.specs.declared.answer.Answer.TheVariants as answer
use Rattle.lvm_script.specs.declared.line.Line.{Line}
use Rattle.disk_model.specs.CrashValues.{IsImage}
use Rattle.disk_model.specs.Moments.{at_moment}
use Rattle.disk_model.specs.Order.{WritesNothing}
use Rattle.disk_model.specs.Steps.{Image, Record}
use Rattle.line_table.specs.Machine.{plain_after}
use Rattle.vg_scan.specs.Versions.{FindsVersion, Version}
use Rattle.volume_history.specs.Placed.{volumes_of}
use Rattle.volume_history.specs.Commands.{commits, created_disk, is_created_at, removes}
use Rattle.volume_history.specs.Chronicles.{ChronicleEntry, Begun, Opened, Took, Changed, GivenUp, Answered, Origin, has_written, now_at}
use Rattle.volume_history.specs.Chronicles.{origin_at, steps_upto}
use Rattle.volume_history.specs.Legal.{FindsNow, Makes}
use Rattle.volume_history.specs.Quiet.{AllUntouched}
use Rattle.volume_history.specs.Replay.{command_step, opening_state}
use Rattle.volume_history.specs.Reshaping.{AllZeroed, MakesVersion}
use Rattle.volume_history.specs.Runs.{zero_piece}

-- ---- entries, the newest first

-- the last moment that is told
abbrev pub end_of : Origin → ℕ
end_of o = length o.told.steps

-- the line is begun at the start
abbrev pub begun_entries : Origin → Line → List ChronicleEntry
begun_entries o line = Begun o.start 0 line None ∷ []

-- it is answered so at the end
abbrev pub answered_entries : Origin → Line → Answer → List ChronicleEntry
answered_entries o line answer = Answered (end_of o) 0 answer ∷ begun_entries o line

-- its commit of this version starts at a moment
abbrev pub open_entries : Origin → Line → ℕ → Option Version → List ChronicleEntry
open_entries o line opened version = Opened opened 0 version ∷ begun_entries o line

-- it was made at a moment, and the line answered so at the end
abbrev pub made_entries : Origin → Line → ℕ → ℕ → Option Version → Answer → List ChronicleEntry
made_entries o line opened made version said = Answered (end_of o) 0 said ∷ Changed made 0 version ∷ open_entries o line opened version

-- it was made, and the line answered
abbrev pub done_entries : Origin → Line → ℕ → Option Version → List ChronicleEntry
done_entries o line opened version = made_entries o line opened (end_of o) version answer.Fine

-- it was given up, since an operation on this disk failed before it was published
abbrev pub given_up_entries : Origin → Line → ℕ → Option Version → ℕ → List ChronicleEntry
given_up_entries o line opened version pv =
    Answered (end_of o) 0 (answer.PvFailed pv) ∷ GivenUp (end_of o) 0 ∷ open_entries o line opened version

-- it fences the group, since an operation on this disk failed while it was published
abbrev pub fenced_entries : Origin → Line → ℕ → Option Version → ℕ → List ChronicleEntry
fenced_entries o line opened version pv = Answered (end_of o) 0 (answer.PvFailed pv) ∷ open_entries o line opened version

-- a command that commits nothing was done
abbrev pub taken_entries : Origin → Line → List ChronicleEntry
taken_entries o line = Answered (end_of o) 0 answer.Fine ∷ Took (end_of o) 0 (zero_piece 0) ∷ begun_entries o line

-- ---- what the layers below give

-- in every image a scan that leaves these disks out finds this version
abbrev pub AllFind : List ℕ → (ℕ → Bool) → Option Version → Record → Type 0
AllFind sizes out version told = (image : Image) → IsImage told image → FindsVersion sizes image out version

-- no disk
abbrev pub none_out : ℕ → Bool
none_out pv = false

-- in every image a scan of all disks finds one of these two
abbrev pub AllFindEither : List ℕ → Option Version → Option Version → Record → Type 0
AllFindEither sizes version next told =
    (image : Image) → IsImage told image → FindsVersion sizes image none_out version ⊎ FindsVersion sizes image none_out next

-- up to the start every image shows the version in force, and so does a scan then; no place of its volumes is touched at any
-- moment
pub record IsStill (o : Origin) : Type 0 where
  pub from : o.first ≤ o.start
  pub until : o.start ≤ end_of o
  pub before : (m : ℕ) → o.first ≤ m → m ≤ o.start → AllFind o.sizes none_out o.version (at_moment m o.told)
  pub untouched : (m : ℕ) → o.first ≤ m → m ≤ end_of o → AllUntouched (now_at o o.first) (volumes_of o.version) (at_moment m o.told)
  pub found : FindsNow (origin_at o.start o) [] o.start o.version

-- every moment from the start on shows it too
pub record StaysLaw (o : Origin) : Type 0 where
  pub still : IsStill o
  pub after : (m : ℕ) → o.start ≤ m → m ≤ end_of o → AllFind o.sizes none_out o.version (at_moment m o.told)

-- the line has submitted no write of the physical volume that it is to create, if it is
abbrev pub LeavesDisk : Origin → Line → Type 0
LeavesDisk o line =
    (disk : ℕ) → created_disk o.names line.command ≡ Some disk
    → has_written (is_created_at o.sizes line.command disk) (take (end_of o - o.start) o.told.steps) ≡ false

-- nor any write, where it is to remove the group
abbrev pub LeavesAll : Origin → Line → Type 0
LeavesAll o line = removes line.command ≡ true → WritesNothing (take (end_of o - o.start) o.told.steps)

-- only zeros may be left at the places of the sectors that are born as zeros in the version
abbrev pub ZeroesStand : Origin → Command → Option Version → Type 0
ZeroesStand o c version =
    (image : Image)
    → AllZeroed o (command_step c o.version version (opening_state o) image) (opening_state o) (volumes_of version)
    (plain_after (opening_state o) (command_step c o.version version (opening_state o) image)).volumes

-- a commit that starts at a moment: until then every image shows the version in force, and then that or the next one
pub record CommitLaw (o : Origin) (line : Line) (opened : ℕ) (version : Option Version) : Type 0 where
  pub still : IsStill o
  pub from : o.start ≤ opened
  pub until : opened ≤ end_of o
  pub commits_is : commits line.command ≡ true
  pub keeps : MakesVersion line.command o.version version
  pub zeroed : (m : ℕ) → opened ≤ m → m ≤ end_of o → ZeroesStand (origin_at m o) line.command version
  pub before : (m : ℕ) → o.start ≤ m → m < opened → AllFind o.sizes none_out o.version (at_moment m o.told)
  pub makes : Makes (origin_at opened o) (begun_entries o line) opened line version
  pub between : (m : ℕ) → opened ≤ m → m ≤ end_of o → AllFindEither o.sizes o.version version (at_moment m o.told)

-- it was done: at the end every image shows the next version, and so does a scan; and each place of its volumes has one value
pub record DoneLaw (o : Origin) (version : Option Version) : Type 0 where
  pub after : AllFind o.sizes none_out version o.told
  pub found : FindsNow o [] (end_of o) version
  pub untouched : AllUntouched (now_at o (end_of o)) (volumes_of version) o.told

-- it was made at a moment: from then on every image shows the next version, and so did a scan then; and each place of its volumes
-- has one value
pub record MadeLaw (o : Origin) (opened made : ℕ) (version : Option Version) : Type 0 where
  pub from : opened ≤ made
  pub until : made ≤ end_of o
  pub after : (m : ℕ) → made ≤ m → m ≤ end_of o → AllFind o.sizes none_out version (at_moment m o.told)
  pub found : FindsNow o [] made version
  pub untouched : (m : ℕ) → made ≤ m → m ≤ end_of o → AllUntouched (now_at o made) (volumes_of version) (at_moment m o.told)

-- what may be answered once it was made: ok, or that an operation failed behind it
abbrev pub MayEnd : Answer → Type 0
MayEnd answer.Fine = Unit {0}
MayEnd (answer.PvFailed pv) = Unit {0}
MayEnd _ = ⊥

-- it was given up: at the end every image shows the version in force
pub record GivenUpLaw (o : Origin) : Type 0 where
  pub after : AllFind o.sizes none_out o.version o.told

-- whether it is this disk, and a write of what the line creates there was submitted since the start
abbrev pub is_half_made : Origin → Line → ℕ → ℕ → ℕ → Bool
is_half_made o line disk m pv = (disk == pv) && has_written (is_created_at o.sizes line.command pv) (take (m - o.start) (steps_upto o m))

-- a pvcreate of this disk that was begun at the start: at each moment before this one every image shows the version in
-- force, where the disk is left out once a write of it was submitted
pub record CreateLaw (o : Origin) (line : Line) (disk before : ℕ) : Type 0 where
  pub still : IsStill o
  pub names : created_disk o.names line.command ≡ Some disk
  pub between : (m : ℕ) → o.start ≤ m → m < before → AllFind o.sizes (is_half_made o line disk m) o.version (at_moment m o.told)

-- it was done: at the end no disk is left out
pub record CreatedLaw (o : Origin) : Type 0 where
  pub after : AllFind o.sizes none_out o.version o.told
