-- That the entries of a history say what a world has done so far, in their order, whatever the shelf tells.
use Rattle.std.specs.Prelude.{◌≡◌, ◌≤◌, ◌⊎◌, All, ℕ, ◌+◌, Bool, true, false, not, ◌==◌, ◌&&◌, ◌||◌, IfSome, List, [], ◌∷◌, ◌++◌, count_by}
use Rattle.std.specs.Prelude.{length, Option, None, Some, is_some, option_map, slice_get, slice_index_or, unwrap_or}
use Rattle.std.specs.Option.{option_map_or}
use Rattle.command_table.specs.declared.command.Command.{Command}
use Rattle.line_answers.specs.declared.answer.Answer.{Answer}
use Rattle.line_answers.specs.declared.answer.Answer.TheVariants.{Refused}
use Rattle.line_answers.specs.declared.op_refusal.OpRefusal.{OpRefusal}
use Rattle.lvm_script.specs.declared.line.Line.{Line}
use Rattle.data_lines.specs.DataLines.{covers_sector, in_range, is_data, is_flush, is_read, is_through, runs_beside, volume_named, writes}
use Rattle.line_table.specs.Steps.{no_line}
use Rattle.flush_waits.specs.Waits.{DiskWaits}
use Rattle.piece_table.specs.declared.live.LivePiece.{LivePiece}
use Rattle.volume_history.specs.Chronicles.{Begun, ChronicleEntry, answer_in, begun_in, count_begun, has_took, pending, settled_at, took_at}
use Rattle.volume_history.specs.Commands.{commits, is_good, is_refused, is_wait, may_say}
use Rattle.volume_history.specs.Legal.{AllOrdered, last_moment}
use Rattle.volume_history.specs.Runs.{journal_of}
use Rattle.world_acts.specs.declared.open_line.OpenLine.{OpenLine}
use Rattle.world_acts.specs.declared.open_line.Work.{Work}
use Rattle.world_acts.specs.declared.open_line.Work.TheVariants.{Read, Whole, Write}
use Rattle.world_acts.specs.Acts.{World}
use Rattle.world_acts.specs.Counts.{is_line, is_taken, waiting}
use Rattle.world_acts.specs.OpenLines.{is_whole, open_at}
use Rattle.world_acts.specs.Rooms.{one}

-- ---- what a line does

-- what a piece that failed, or a flush, makes its line answer
pub record IsLoss (command : Command) (why : Answer) : Type 0 where
  pub says : may_say command why ≡ true
  pub bad : is_good why ≡ false
  pub unrefused : is_refused why ≡ false

-- it is refused
pub record IsRefusedLine (command : Command) (failure : Option Answer) : Type 0 where
  pub why : OpRefusal
  pub is : failure ≡ Some (Refused why)
  pub names : is_some (volume_named command) ≡ true

-- it takes place as a whole: it flushes a volume, which may fail, lists the volumes, or waits
pub record IsWholeLine (command : Command) (key : Option ℕ) (answer : Answer) (failure : Option Answer) : Type 0 where
  pub other : is_data command ≡ false
  pub kept : commits command ≡ false
  pub says : may_say command answer ≡ true
  pub good : is_good answer ≡ true
  pub stands : is_flush command ≡ true → is_some key ≡ true
  pub none : is_flush command ≡ false → key ≡ None
  pub lost : IfSome failure (λ why. (is_flush command ≡ true) × IsLoss command why)

-- what is done of a line on the volume with this key is what its command asks for
abbrev pub IsWorkOf : Command → Option ℕ → Work → Option Answer → Type 0
IsWorkOf command key (Read start buffer) failure = (is_read command ≡ true) × (is_some key ≡ true) × IfSome failure (IsLoss command)
IsWorkOf command key Write failure = (writes command ≡ true) × (is_some key ≡ true) × IfSome failure (IsLoss command)
IsWorkOf command key (Whole answer) failure = IsRefusedLine command failure ⊎ IsWholeLine command key answer failure

-- it never waits for a flush
abbrev pub IsStill : Command → Option Answer → Type 0
IsStill command failure = (is_flush command ≡ false) ⊎ ((why : OpRefusal) × (failure ≡ Some (Refused why)))

-- ---- what is told of it

-- whether this is a piece of the line that hasn't taken place, and covers the sector
abbrev pub is_to_come : ℕ → ℕ → (ℕ × LivePiece) → Bool
is_to_come line x e = (e.1.line == line) && (not (is_taken e.1.stage) && in_range e.1.piece.first e.1.piece.count x)

-- how many there are
abbrev pub to_come : ℕ → ℕ → List (ℕ × LivePiece) → ℕ
to_come line x lives = count_by (is_to_come line x) lives

-- a sector that took place or failed, but didn't take place
pub record IsLost (es : List ChronicleEntry) (n key : ℕ) (command : Command) : Type 0 where
  pub sector : ℕ
  pub covered : covers_sector command sector ≡ true
  pub settled : settled_at es n key sector ≡ true
  pub not_taken : took_at es n key sector ≡ false

-- of an open line, which names the volume with this key, where so many pieces that are still to enter cover each sector: each of the
-- sectors that it reads or writes has taken place or failed, or has one piece that is to come
pub record IsLineTold (coming : ℕ → ℕ) (lives : List (ℕ × LivePiece)) (disks : List DiskWaits) (es : List ChronicleEntry) (n : ℕ)
    (line : Line) (key : Option ℕ) (own : ℕ) (work : Work) (failure : Option Answer) : Type 0 where
  pub keyed : own ≡ unwrap_or key 0
  pub does : IsWorkOf line.command key work failure
  pub some : is_data line.command ≡ true → (x : ℕ) × (covers_sector line.command x ≡ true)
  pub once :
      (x : ℕ)
      → one (settled_at es n own x) + (to_come n x lives + coming x) ≡ one (not (is_whole work) && covers_sector line.command x)
  pub took : failure ≡ None → (x : ℕ) → settled_at es n own x ≡ true → took_at es n own x ≡ true
  pub lost : is_some failure ≡ true → is_whole work ≡ false → is_through line.command ≡ false → IsLost es n own line.command
  pub none : is_whole work ≡ true → has_took es n ≡ false
  pub still : IsStill line.command failure → waiting (is_line n) disks ≡ 0

-- the same of the line with this number
abbrev pub LineTold : (ℕ → ℕ) → List (ℕ × LivePiece) → List DiskWaits → List ChronicleEntry → ℕ → OpenLine → Type 0
LineTold coming lives disks es n o =
    (l : Line × Option ℕ) × (begun_in es n ≡ Some l) × IsLineTold coming lives disks es n l.0 l.1 o.key o.work o.failure

-- a piece that has room to wait for its flush, or took place and waits for it, is of a line that is through
abbrev pub IsOfThrough : List Line → (ℕ × LivePiece) → Type 0
IsOfThrough begun e =
    (is_some e.1.ticket || is_taken e.1.stage) ≡ true
    → option_map_or (λ (l : Line). is_through l.command) (slice_get begun e.1.line) false ≡ true

-- no other line is open
abbrev pub IsOnly : World → ℕ → Type 0
IsOnly w n = (q : ℕ) → is_some (open_at w.core.opens q) ≡ true → q ≡ n

-- a wait that isn't the line that waits for all others is open alone
abbrev pub IsWaiting : World → ℕ → Line → Type 0
IsWaiting w n line = is_wait line.command ≡ true → (w.core.barrier ≡ Some n) ⊎ IsOnly w n

-- the answer of the line at a place
abbrev pub answer_at : List (ℕ × Option Answer) → ℕ → Option Answer
answer_at answers n = (slice_index_or answers n no_line).1

-- the lines that were begun, in order
abbrev pub begun_list : List ChronicleEntry → List Line
begun_list [] = []
begun_list (Begun moment n line key ∷ es) = begun_list es ++ line ∷ []
begun_list (_ ∷ es) = begun_list es

-- ---- all of it

-- where of each line so many pieces that are still to enter cover each sector
pub record IsTold (start : ℕ) (coming : ℕ → ℕ → ℕ) (w : World) (es : List ChronicleEntry) : Type 0 where
  pub journal : journal_of es ≡ w.core.lines.journal
  pub ordered : AllOrdered start es
  pub moment : last_moment start es ≤ w.shelf.steps
  pub committed : pending es ≡ None
  pub count : count_begun es ≡ length w.core.lines.begun
  pub begun : begun_list es ≡ w.core.lines.begun
  pub answers : (n : ℕ) → option_map (λ (a : ℕ × Answer). a.1) (answer_in es n) ≡ answer_at w.core.lines.answers n
  pub lines :
      (n : ℕ) (o : OpenLine) → open_at w.core.opens n ≡ Some o
      → LineTold (coming n) w.core.pieces.lives w.core.waits.disks es n o
  pub through : All (IsOfThrough w.core.lines.begun) w.core.pieces.lives
  pub waits :
      (n : ℕ) (o : OpenLine) (line : Line) → open_at w.core.opens n ≡ Some o → slice_get w.core.lines.begun n ≡ Some line
      → IsWaiting w n line

-- nothing is to enter
abbrev pub none_coming : ℕ → ℕ → ℕ
none_coming n x = 0

-- a line of a session's script: it runs beside others, and one that reads or writes has a sector
pub record IsSessionLine (line : Line) : Type 0 where
  pub beside : runs_beside line.command ≡ true
  pub some : is_data line.command ≡ true → (x : ℕ) × (covers_sector line.command x ≡ true)
