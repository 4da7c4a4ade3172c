-- What holds of a world whose shelf tells: its entries are those of a legal history, which gives what reads brought.
use Rattle.std.specs.Prelude.{◌≡◌, ◌≤◌, ℕ, ◌-◌, true, List, [], length, Option, Some, slice_index_or}
use Rattle.std.specs.Option.{option_and_then}
use Rattle.line_answers.specs.declared.answer.Answer.TheVariants as answer
use Rattle.lvm_script.specs.declared.line.Line.{Line}
use Rattle.data_lines.specs.DataLines.{range_of}
use Rattle.disk_model.specs.Steps.{Record}
use Rattle.volume_history.specs.Chronicles.{ChronicleEntry, Origin, begun_in, took_at}
use Rattle.volume_history.specs.Legal.{read_sector}
use Rattle.world_acts.specs.declared.open_line.OpenLine.{OpenLine}
use Rattle.world_acts.specs.declared.open_line.Work.{Work}
use Rattle.world_acts.specs.declared.open_line.Work.TheVariants.{Read, Whole}
use Rattle.world_acts.specs.declared.volumes.Volumes.{Volumes}
use Rattle.world_acts.specs.Acts.{World}
use Rattle.world_acts.specs.OpenLines.{open_at}
use Rattle.line_plans.specs.Plans.{listed_of}
use Rattle.world_history.specs.Alone.{AreAlone}
use Rattle.world_history.specs.Apart.{AreApart}
use Rattle.world_history.specs.Shown.{AreOfVersion, Shows}

-- the origin, of which this is told by now
abbrev pub origin_with : Origin → Record → Origin
origin_with o told = record o { told = told }

-- the buffer of a line that reads is as long as what it reads, and has of each sector that took place what the machine had then
pub record HasRead (o : Origin) (es : List ChronicleEntry) (n key start : ℕ) (buffer : List (List ℕ)) : Type 0 where
  pub range : option_and_then (λ (l : Line × Option ℕ). range_of l.0.command) (begun_in es n) ≡ Some (start, length buffer)
  pub each :
      (x : ℕ) → took_at es n key x ≡ true
      → (start ≤ x) × (slice_index_or buffer (x - start) [] ≡ read_sector o es n key x)

-- what a line on the volume with this key has so far: what it has read, or the volumes that it lists
abbrev pub HasBrought : Origin → List ChronicleEntry → Volumes → ℕ → ℕ → Work → Type 0
HasBrought o es volumes n key (Read start buffer) = HasRead o es n key start buffer
HasBrought o es volumes n key (Whole (answer.Listed listed)) = listed ≡ listed_of volumes
HasBrought o es volumes n key _ = Unit {0}

-- all that is open has it
abbrev pub AllBrought : Origin → List ChronicleEntry → World → Type 0
AllBrought o es w =
    (n : ℕ) (opened : OpenLine) → open_at w.core.opens n ≡ Some opened → HasBrought o es w.core.volumes n opened.key opened.work

-- over a shelf that has told this
pub record Holds (o : Origin) (told : Record) (w : World) (es : List ChronicleEntry) : Type 0 where
  pub shows : Shows (origin_with o told) es
  pub brought : AllBrought (origin_with o told) es w
  pub alone : AreAlone w.shelf told
  pub apart : AreApart w.core
  pub volumes : AreOfVersion w.core.volumes o.version

-- the shelf has told so
pub record HasContents (o : Origin) (w : World) (es : List ChronicleEntry) : Type 0 where
  pub told : Record
  pub is : w.shelf.told ≡ Some told
  pub holds : Holds o told w es
