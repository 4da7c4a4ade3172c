-- The entries of a history that the acts of a world add.
use Rattle.std.specs.Prelude.{ℕ, ◌&&◌, is_none, if◌then◌else◌, List, [], ◌∷◌, ◌++◌, length, Option, option_map}
use Rattle.lvm_script.specs.declared.line.Line.{Line}
use Rattle.piece_table.specs.declared.live.LivePiece.{LivePiece}
use Rattle.piece_table.specs.Steps.{live_of}
use Rattle.volume_history.specs.Chronicles.{Answered, Begun, ChronicleEntry, Failed, Took}
use Rattle.volume_history.specs.Runs.{zero_piece}
use Rattle.line_plans.specs.Judging.{number_named}
use Rattle.line_plans.specs.Plans.{key_of}
use Rattle.world_acts.specs.declared.open_line.OpenLine.{OpenLine}
use Rattle.world_acts.specs.declared.volumes.Volumes.{Volumes}
use Rattle.world_acts.specs.Acts.{Act, Answers, Begins, Fails, Passes, Reads, World, Writes, after}
use Rattle.world_acts.specs.OpenLines.{answer_of, is_whole, open_of}

-- the key of the volume that a line names, where that is there
abbrev pub key_told : Volumes → Line → Option ℕ
key_told volumes line = option_map (key_of volumes) (number_named volumes.group line.command)

-- a line is answered; one that takes place as a whole, and didn't fail, does so just before
abbrev pub answered : ℕ → ℕ → OpenLine → List ChronicleEntry
answered moment line opened =
    Answered moment line (answer_of opened)
    ∷ (if is_whole opened.work && is_none opened.failure then Took moment line (zero_piece opened.key) ∷ [] else [])

-- a piece takes place, or fails
abbrev pub takes : ℕ → LivePiece → List ChronicleEntry
takes moment l = Took moment l.line l.piece ∷ []

abbrev pub fails : ℕ → LivePiece → List ChronicleEntry
fails moment l = Failed moment l.line l.piece ∷ []

-- what an act adds, the newest entry first
abbrev pub entries_of : World → Act → List ChronicleEntry
entries_of w (Begins line opened) = Begun w.shelf.steps (length w.core.lines.begun) line (key_told w.core.volumes line) ∷ []
entries_of w (Answers line) = answered w.shelf.steps line (open_of w.core.opens line)
entries_of w (Passes line) = answered w.shelf.steps line (open_of w.core.opens line)
entries_of w (Fails number why) = fails w.shelf.steps (live_of w.core.pieces number)
entries_of w (Writes number pv) = takes w.shelf.steps (live_of w.core.pieces number)
entries_of w (Reads number sectors) = takes w.shelf.steps (live_of w.core.pieces number)
entries_of w _ = []

-- what acts add that follow one another
abbrev pub entries_by : World → List Act → List ChronicleEntry → List ChronicleEntry
entries_by w [] es = es
entries_by w (a ∷ acts) es = entries_by (after w a) acts (entries_of w a ++ es)
