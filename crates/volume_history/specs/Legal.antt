-- Legal histories: what each entry needs of those before it.
use Rattle.std.specs.Prelude.{◌≡◌, ◌≤◌, ◌<◌, ◌⊎◌, ℕ, ◌+◌, ◌-◌, nat_lt, Bool, true, false, not, ◌==◌, ◌&&◌, ◌||◌, IsTrue, if◌then◌else◌}
use Rattle.std.specs.Prelude.{List, [], ◌∷◌, length, map, take, Option, Some, None, slice_index_or, is_some}
use Rattle.std.specs.List.{range_with_len}
use Rattle.std.specs.Option.{option_and_then, option_map_or}
use Rattle.std.specs.Str.{bytes_eq}
use Rattle.sector_base.specs.declared.places.Piece.{Piece}
use Rattle.command_table.specs.declared.command.Command.{Command}
use Rattle.command_table.specs.declared.command.Path.{Path}
use Rattle.line_answers.specs.declared.answer.Answer.{Answer}
use Rattle.line_answers.specs.declared.answer.Answer.TheVariants as answer
use Rattle.lvm_script.specs.declared.line.Line.{Line}
use Rattle.data_lines.specs.DataLines.{is_data, is_flush, is_through, writes, covers_sector, range_of, value_for, volume_named}
use Rattle.disk_model.specs.Order.{WritesNothing}
use Rattle.disk_model.specs.Steps.{Step}
use Rattle.meta_model.specs.declared.group.Group.{Group}
use Rattle.extent_alloc.specs.declared.part.Part.{Part}
use Rattle.line_table.specs.Machine.{PlainState, key_of, list_of, sector_of}
use Rattle.group_plan.specs.declared.backup.Backup.{Backup}
use Rattle.group_plan.specs.declared.state.Change.{Change}
use Rattle.lv_plans.specs.Allocating.{Takes}
use Rattle.group_ops.specs.Laws.{state_in}
use Rattle.group_ops.specs.Planning.{IsBackupOf, IsPlanned, asks_of, change_of, refusal_of}
use Rattle.vg_scan.specs.Versions.{FindsVersion, Version}
use Rattle.volume_history.specs.Commands.{is_wait, is_move, is_tended, failed_pv, is_good, is_judged_again}
use Rattle.volume_history.specs.Commands.{is_refused, may_say, commits, removes}
use Rattle.volume_history.specs.Chronicles.{ChronicleEntry, Begun, Opened, Took, Changed, GivenUp, Failed, Answered, Origin, Chronicle}
use Rattle.volume_history.specs.Chronicles.{origin_at, moment_of, now_at, begun_in, count_begun, is_number, is_open, open_among, every}
use Rattle.volume_history.specs.Chronicles.{pending, in_force, may_begin, piece_covers, steps_upto, took_at, settled_at, has_took, left_out}
use Rattle.volume_history.specs.Replay.{plain_state, shown_at}

-- ---- the order of entries, which needs no content

-- whether each of these sectors passes the test
abbrev pub all_in : (ℕ → Bool) → List ℕ → Bool
all_in test [] = true
all_in test (x ∷ xs) = test x && all_in test xs

-- the sectors of a range
abbrev pub sectors_in : Option (ℕ × ℕ) → List ℕ
sectors_in None = []
sectors_in (Some r) = range_with_len r.0 r.1

-- whether both are true, or both false
abbrev pub same : Bool → Bool → Bool
same true b = b
same false b = not b

-- whether the piece is of the line's volume, writes as the line does, and has sectors, which are of the line's range, and of which
-- no piece of the line has one
abbrev pub is_new_piece : List ChronicleEntry → ℕ → Line → Option ℕ → Piece → Bool
is_new_piece es number line key piece =
    is_number key piece.volume && same piece.write (writes line.command) && nat_lt 0 piece.count
    && all_in (λ x. covers_sector line.command x && not (settled_at es number piece.volume x)) (range_with_len piece.first piece.count)

-- whether it is a piece without sectors, of the volume with this key
abbrev pub is_zero_piece : ℕ → Piece → Bool
is_zero_piece key piece = (piece.volume == key) && (piece.first == 0) && (piece.count == 0) && not piece.write

-- whether it is that of a line which takes place at once: of its volume, where it flushes one, and of key 0, where it is a command
-- that commits nothing
abbrev pub is_line_piece : Line → Option ℕ → Piece → Bool
is_line_piece line key piece =
    if is_flush line.command then is_number key piece.volume && is_zero_piece piece.volume piece
    else (not (commits line.command) && is_zero_piece 0 piece)

-- whether a piece of a line may take place: a new one of a line that reads or writes, or the one of another line
abbrev pub may_take : List ChronicleEntry → ℕ → Option (Line × Option ℕ) → Piece → Bool
may_take es number None piece = false
may_take es number (Some l) piece =
    if is_data l.0.command then is_new_piece es number l.0 l.1 piece
    else (is_line_piece l.0 l.1 piece && not (has_took es number))

-- whether a piece of a line may fail
abbrev pub may_fail : List ChronicleEntry → ℕ → Option (Line × Option ℕ) → Piece → Bool
may_fail es number None piece = false
may_fail es number (Some l) piece = is_data l.0.command && is_new_piece es number l.0 l.1 piece

-- whether each sector of the line passes the test, of the volume with its key; none does where that isn't there
abbrev pub each_sector : (ℕ → ℕ → Bool) → Line → Option ℕ → Bool
each_sector test line None = false
each_sector test line (Some key) = all_in (test key) (sectors_in (range_of line.command))

-- whether a commit has made a version since the line's newest piece took place, and since it was begun
abbrev pub is_overtaken : List ChronicleEntry → ℕ → Bool
is_overtaken [] number = false
is_overtaken (Begun moment n line key ∷ es) number = not (n == number) && is_overtaken es number
is_overtaken (Took moment n piece ∷ es) number = not (n == number) && is_overtaken es number
is_overtaken (Changed moment n version ∷ es) number = true
is_overtaken (_ ∷ es) number = is_overtaken es number

-- whether a line that reads or writes may be refused so: before its pieces, or, where it is judged again, behind a commit
abbrev pub may_refuse : List ChronicleEntry → ℕ → Answer → Bool
may_refuse es number answer = not (has_took es number) || (is_judged_again answer && is_overtaken es number)

-- whether the answer of a line that reads or writes tells whether each of its sectors took place: it says that the line is done
-- exactly where they did, but a line that is through may fail behind them
abbrev pub tells_taken : Command → Answer → Bool → Bool
tells_taken command answer taken = if is_through command then not (is_good answer) || taken else same (is_good answer) taken

-- whether a line that reads or writes may be answered so, and, unless it is refused, once each sector took place or failed
abbrev pub may_answer_data : List ChronicleEntry → ℕ → Line → Option ℕ → Answer → Bool
may_answer_data es number line key answer =
    tells_taken line.command answer (each_sector (took_at es number) line key)
    && (if is_refused answer then may_refuse es number answer else each_sector (settled_at es number) line key)

-- whether no other line is open
abbrev pub is_alone : List (ℕ × Line) → ℕ → Bool
is_alone os number = every (λ o. o.0 == number) os

-- whether a line that flushes a volume, or a command, may be answered so: as done only after a Took, as refused only without one,
-- but for a move; a wait once every other line is answered
abbrev pub may_answer_command : List ChronicleEntry → ℕ → Line → Answer → Bool
may_answer_command es number line answer =
    (not (is_good answer) || has_took es number) && (not (is_refused answer) || is_move line.command || not (has_took es number))
    && (not (is_wait line.command) || is_alone (open_among es es) number)

-- whether a line that flushes a volume which isn't there is answered as refused
abbrev pub may_answer_flush : Command → Option ℕ → Answer → Bool
may_answer_flush command key answer = not (is_flush command) || (is_some key || is_refused answer)

-- whether a commit of the line is open
abbrev pub is_pending : Option (ℕ × Option Version) → ℕ → Bool
is_pending None number = false
is_pending (Some p) number = p.0 == number

-- whether a line may be answered so, by an answer that its command may have; a command whose commit is open only where that fences
-- the group
abbrev pub may_answer : List ChronicleEntry → ℕ → Option (Line × Option ℕ) → Answer → Bool
may_answer es number None answer = false
may_answer es number (Some l) answer =
    may_say l.0.command answer
    && (if is_data l.0.command
    then may_answer_data es number l.0 l.1 answer
    else (may_answer_command es number l.0 answer && may_answer_flush l.0.command l.1 answer
    && (not (is_pending (pending es) number) || is_some (failed_pv answer))))

-- whether a commit of the line may start: none is open, and it has made none, unless it is a move's
abbrev pub may_open : List ChronicleEntry → ℕ → Option (Line × Option ℕ) → Option (ℕ × Option Version) → Bool
may_open es number (Some l) None = commits l.0.command && (is_tended l.0.command || not (has_took es number))
may_open es number _ _ = false

-- whether the commit of the line may be given up: what clears the disks of a group that is removed isn't
abbrev pub may_give_up : Option (Line × Option ℕ) → Bool
may_give_up None = false
may_give_up (Some l) = not (removes l.0.command)

-- whether the entry may come behind the others
abbrev pub is_in_order : List ChronicleEntry → ChronicleEntry → Bool
is_in_order es (Begun moment n line key) = (n == count_begun es) && may_begin es line
is_in_order es (Opened moment n version) =
    is_open es n && may_open es n (begun_in es n) (pending es)
    && every (λ o. (o.0 == n) || not (commits o.1.command) || is_tended o.1.command) (open_among es es)
is_in_order es (Took moment n piece) = is_open es n && may_take es n (begun_in es n) piece
is_in_order es (Changed moment n version) = is_open es n && is_pending (pending es) n
is_in_order es (GivenUp moment n) = is_open es n && is_pending (pending es) n && may_give_up (begun_in es n)
is_in_order es (Failed moment n piece) = is_open es n && may_fail es n (begun_in es n) piece
is_in_order es (Answered moment n answer) = is_open es n && may_answer es n (begun_in es n) answer

-- the moment of the newest entry, or of the start
abbrev pub last_moment : ℕ → List ChronicleEntry → ℕ
last_moment start [] = start
last_moment start (e ∷ es) = moment_of e

-- what a commit makes is what it was opened for
abbrev pub MakesPending : List ChronicleEntry → ChronicleEntry → Type 0
MakesPending es (Changed moment n version) = pending es ≡ Some (n, version)
MakesPending es _ = Unit {0}

-- the entry may come behind the others: no earlier than the last of them
pub record IsOrdered (start : ℕ) (es : List ChronicleEntry) (e : ChronicleEntry) : Type 0 where
  pub moments : last_moment start es ≤ moment_of e
  pub order : IsTrue (is_in_order es e)
  pub makes : MakesPending es e

-- ---- what entries say of the machine and of the disks

-- what a read gave of a sector: what the machine had when the line's piece of it took place
abbrev pub read_sector : Origin → List ChronicleEntry → ℕ → ℕ → ℕ → List ℕ
read_sector o [] number key x = []
read_sector o (Took moment n piece ∷ es) number key x =
    if (n == number) && piece_covers piece key x then sector_of (plain_state o es) key x else read_sector o es number key x
read_sector o (_ ∷ es) number key x = read_sector o es number key x

-- the machine when the command took place
abbrev pub state_taken : Origin → List ChronicleEntry → ℕ → PlainState
state_taken o [] number = plain_state o []
state_taken o (Took moment n piece ∷ es) number = if n == number then plain_state o es else state_taken o es number
state_taken o (_ ∷ es) number = state_taken o es number

-- what a read gave of all its sectors
abbrev pub read_values : Origin → List ChronicleEntry → ℕ → Option (Line × Option ℕ) → List (List ℕ)
read_values o es number None = []
read_values o es number (Some l) =
    option_map_or (λ (key : ℕ). map (λ (x : ℕ). read_sector o es number key x) (sectors_in (range_of l.0.command))) l.1 []

-- an answer gives what the machine had
abbrev pub GivesMachine : Origin → List ChronicleEntry → ℕ → Answer → Type 0
GivesMachine o es number (answer.Read sectors) = sectors ≡ read_values o es number (begun_in es number)
GivesMachine o es number (answer.Listed volumes) = volumes ≡ list_of (state_taken o es number)
GivesMachine o es number _ = Unit {0}

-- a write piece that failed left each of its sectors old or written
abbrev pub LeavesOldOrNew : Origin → List ChronicleEntry → Option (Line × Option ℕ) → ℕ → Piece → Type 0
LeavesOldOrNew o es None moment piece = Unit {0}
LeavesOldOrNew o es (Some l) moment piece =
    (i : ℕ) → i < piece.count → IsTrue (writes l.0.command)
    → (slice_index_or (shown_at (in_force o es) (plain_state o es) (now_at o moment) piece) i []
    ≡ sector_of (plain_state o es) piece.volume (piece.first + i))
    ⊎ (slice_index_or (shown_at (in_force o es) (plain_state o es) (now_at o moment) piece) i [] ≡ value_for l.0.command (piece.first + i))

-- the key of the volume of this path, where the group has its name and such a volume
abbrev pub key_in : PlainState → Path → Option ℕ
key_in state path =
    if option_map_or (λ (name : List ℕ). bytes_eq name path.vg) state.group false then key_of state.volumes path.lv else None

-- the same of what the machine has after the entries
abbrev pub key_named : Origin → List ChronicleEntry → Option Path → Option ℕ
key_named o es path = option_and_then (key_in (plain_state o es)) path

-- a scan of what a read gave at the moment, without the disks that are left out, finds this version
abbrev pub FindsNow : Origin → List ChronicleEntry → ℕ → Option Version → Type 0
FindsNow o es moment version = FindsVersion o.sizes (now_at o moment) (left_out o es moment) version

-- the version that a change makes, where the group has no other physical volumes on these disks
abbrev pub version_made : Change → Option Version
version_made change = option_version change.group
  where
    option_version : Option Group → Option Version
    option_version None = None
    option_version (Some group) = Some (record { group = group; disk_of = change.disk_of })

-- the line makes one version of another: it is one that can be planned, a scan of what a read gives finds the one, by it, by
-- the time, by what its text gives, if it restores a group, and by some parts that the line takes no refusal of it holds, and its
-- change is the other
pub record Makes (o : Origin) (es : List ChronicleEntry) (moment : ℕ) (line : Line) (after : Option Version) : Type 0 where
  pub planned : IsPlanned line.id line.command
  pub before : FindsNow o es moment (in_force o es)
  pub given : List Part
  pub backup : Option Backup
  pub given_back : IsBackupOf line.command backup
  pub takes : Takes (asks_of (state_in before.found o.names backup) line) given
  pub accepted : refusal_of (state_in before.found o.names backup) line o.clock given ≡ None
  pub change : after ≡ version_made (change_of (state_in before.found o.names backup) line o.clock given)

-- the same of a line that was begun
abbrev pub MakesFrom : Origin → List ChronicleEntry → ℕ → Option (Line × Option ℕ) → Option Version → Type 0
MakesFrom o es moment None after = ⊥
MakesFrom o es moment (Some l) after = Makes o es moment l.0 after

-- the moment at which the line was begun
abbrev pub begun_at : List ChronicleEntry → ℕ → ℕ
begun_at [] number = 0
begun_at (Begun moment n line key ∷ es) number = if n == number then moment else begun_at es number
begun_at (_ ∷ es) number = begun_at es number

-- what was told since a line was begun, by a moment
abbrev pub steps_since : Origin → List ChronicleEntry → ℕ → ℕ → List Step
steps_since o es number moment = take (moment - begun_at es number) (steps_upto o moment)

-- whether the line is one that removes the group, and has neither done nor begun that
abbrev pub keeps_group : List ChronicleEntry → ℕ → Option (Line × Option ℕ) → Bool
keeps_group es number None = false
keeps_group es number (Some l) = removes l.0.command && not (has_took es number || is_pending (pending es) number)

-- nothing was written since such a line was begun
abbrev pub LeavesGroup : Origin → List ChronicleEntry → ℕ → ℕ → Type 0
LeavesGroup o es number moment = IsTrue (keeps_group es number (begun_in es number)) → WritesNothing (steps_since o es number moment)

-- the entry agrees with the machine and with what stands on the disks
abbrev pub IsFaithful : Origin → List ChronicleEntry → ChronicleEntry → Type 0
IsFaithful o es (Begun moment n line key) = key ≡ key_named o es (volume_named line.command)
IsFaithful o es (Opened moment n version) = MakesFrom o es moment (begun_in es n) version
IsFaithful o es (Took moment n piece) = Unit {0}
IsFaithful o es (Changed moment n version) = FindsNow o es moment version
IsFaithful o es (GivenUp moment n) = Unit {0}
IsFaithful o es (Failed moment n piece) = LeavesOldOrNew o es (begun_in es n) moment piece
IsFaithful o es (Answered moment n answer) = GivesMachine o es n answer × LeavesGroup o es n moment

-- each entry may come behind those before it
abbrev pub AllOrdered : ℕ → List ChronicleEntry → Type 0
AllOrdered start [] = Unit {0}
AllOrdered start (e ∷ es) = IsOrdered start es e × AllOrdered start es

-- each entry is faithful, of what was told by its moment
abbrev pub AllFaithful : Origin → List ChronicleEntry → Type 0
AllFaithful o [] = Unit {0}
AllFaithful o (e ∷ es) = IsFaithful (origin_at (moment_of e) o) es e × AllFaithful o es

-- a legal history: it starts no earlier than the disks were handed in, a scan at the start finds the version in force, and each entry
-- has its order and is faithful
pub record IsLegalHistory (c : Chronicle) : Type 0 where
  pub from : c.origin.first ≤ c.origin.start
  pub opening : FindsNow (origin_at c.origin.start c.origin) [] c.origin.start c.origin.version
  pub told : last_moment c.origin.start c.entries ≤ length c.origin.told.steps
  pub ordered : AllOrdered c.origin.start c.entries
  pub faithful : AllFaithful c.origin c.entries
