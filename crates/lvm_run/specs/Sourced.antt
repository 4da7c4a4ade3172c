-- What a run reads of its source.
use Rattle.std.specs.Prelude.{◌≡◌, ◌≤◌, ◌<◌, ℕ, Bool, true, false, List, [], length, Option, IfSome, Result, Ok, Err}
use Rattle.byte_streams.specs.Streams.{HasRisen}
use Rattle.command_table.specs.declared.command.Command.{Command}
use Rattle.command_table.specs.declared.command.Command.TheVariants.{Vgcfgrestore}
use Rattle.lvm_script.specs.Lines.{with_text}
use Rattle.lvm_script.specs.declared.line.Line.{Line}
use Rattle.lvm_run.specs.declared.ending.Ending.{Ending}
use Rattle.lvm_run.specs.declared.ending.Ending.TheVariants.{NoMemory, ScriptTooLong, SourceFailed}

-- a source: the bytes that are left, where they are told, and its count of faults
pub record SourceState : Type 0 where
  pub left : Option (List ℕ)
  pub faults : ℕ

-- the one with these
abbrev pub source : Option (List ℕ) → ℕ → SourceState
source left faults = record { left = left; faults = faults }

-- whether the command reads the source, to its end
abbrev pub reads_source : Command → Bool
reads_source (Vgcfgrestore vg text) = true
reads_source _ = false

-- the text is all that was left of a source that is read to its end, without a fault, and not too long; one that isn't read is left
-- as it was
abbrev pub GivesText : Bool → List ℕ → SourceState → SourceState → Type 0
GivesText true text from to =
    (length text ≤ 16777216) × IfSome from.left (λ bytes. text ≡ bytes) × IfSome to.left (λ rest. rest ≡ []) × (to.faults ≡ from.faults)
GivesText false text from to = to ≡ from

-- why a source that is read gave no text: a read failed, it gives more than may be read, or memory was wanting
abbrev pub IsUnread : Bool → SourceState → Ending → SourceState → Type 0
IsUnread true from SourceFailed to = HasRisen from.faults to.faults
IsUnread true from ScriptTooLong to = IfSome from.left (λ bytes. 16777216 < length bytes)
IsUnread true from NoMemory to = Unit {0}
IsUnread _ from _ to = ⊥

-- the line with the text that the source gave, or why it gave none
abbrev pub IsSourced : Line → SourceState → Result Line Ending → SourceState → Type 0
IsSourced line from (Ok sourced) to = (text : List ℕ) × GivesText (reads_source line.command) text from to × (sourced ≡ with_text text line)
IsSourced line from (Err ending) to = IsUnread (reads_source line.command) from ending to
