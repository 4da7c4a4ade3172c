-- All that is said of a command.
use Rattle.std.specs.Prelude.{ℕ, Bool, if◌then◌else◌, List, [], Option, Some, None, is_none, slice_index_or, unwrap_or}
use Rattle.std.specs.FinSet as set
use Rattle.std.specs.Ordering.{nat_cmp}
use Rattle.sector_base.specs.declared.spans.Span.{Span}
use Rattle.command_table.specs.Options.{Word, number_named}
use Rattle.line_answers.specs.declared.op_refusal.OpRefusal.{OpRefusal}
use Rattle.line_answers.specs.declared.op_refusal.OpRefusal.TheVariants.{UnknownPv}
use Rattle.disk_model.specs.Steps.{Image}
use Rattle.meta_model.specs.declared.group.Group.{Group}
use Rattle.extent_alloc.specs.declared.part.Part.{Part}
use Rattle.disk_batch.specs.InTurn.{Put}
use Rattle.vg_found.specs.declared.found.Found.{Found}
use Rattle.group_plan.specs.declared.backup.Backup.{Backup}
use Rattle.lvm_run.specs.declared.disks_refusal.DisksRefusal.{DisksRefusal}

-- what a line is judged against, beside what a scan finds
pub record Context : Type 0 where
  -- the names of the disks, and how many sectors each of them has
  pub names : List Word
  pub sizes : List ℕ
  -- the id that the line drew
  pub id : Option (List ℕ)
  -- the time of the run, in seconds since 1970
  pub now : ℕ

-- what a look at the disks comes to: what a scan found, where there was one; why the disks aren't taken as they are; or the
-- disk that wasn't read, where nothing is taken without it
pub data Scanned : Type 0 where
  Finds : Option Found → Scanned
  Refuses : DisksRefusal → Scanned
  Lacks : ℕ → Scanned

-- what is looked at before a command is judged
pub data LooksAt : Type 0 where
  -- nothing: it reads for itself, once it was judged
  AtNothing : LooksAt
  -- all disks are scanned, and the scan goes on where a read fails
  AtDisks : LooksAt

-- what a line takes beside that: the extents for what it makes, and what its text gives, where it restores a group
pub record Inputs : Type 0 where
  pub given : List Part
  pub backup : Option Backup

-- nothing of these
abbrev pub no_inputs : Inputs
no_inputs = record { given = []; backup = None }

-- all that a reader has to believe of a command
pub record CommandSpec : Type 1 where
  -- it changes something: the disks are opened for that, and flushed before anything else is done
  pub flushes : Bool
  pub looks : LooksAt
  -- what the look comes to, by what stands on the disks and by which of them are unread
  pub scan : Context → Image → set.FinSet nat_cmp → Scanned → Type 0
  -- the extents that it may take, by what the scan finds once that is repaired, none, where it doesn't ask for any; and what its
  -- text gives
  pub takes : Context → Option Found → Inputs → Type 0
  -- its first refusal, where one holds, by what the scan finds and, where it changes something, once that is repaired, and by what
  -- it takes
  pub refusal : Context → Option Found → Inputs → Option OpRefusal
  -- where it changes something, the batches of writes that repair what the scan finds to be stale, old or a stray, and of the first
  -- stale area in which the group's text has no room its disk, how many sectors it needs and how many there are
  pub repairs : Option Found → List (List Put)
  pub stuck : Option Found → Option (ℕ × ℕ × ℕ)
  -- its zeros, behind those, where it isn't refused, its other batches, and those that clear the disks which the group lets go
  pub zeros : Context → Option Found → Inputs → List (List Put)
  pub batches : Context → Option Found → Inputs → List (List Put)
  pub clears : Context → Option Found → Inputs → List (List Put)
  -- what every image that a crash may leave while its batches are written keeps of what the disks held once the zeros were
  pub keeps : Context → Option Found → Inputs → Image → Image → Type 0
  -- the spans that it may read, in their order, by what stands on the disks
  pub reads : Context → Image → List Span → Type 0
  -- what a reader finds on the disks once its batches are written
  pub finds : Context → Option Found → Inputs → Image → Type 0
  -- what every image while disks are cleared keeps of what they held before, and what a reader finds there once it was answered as
  -- done
  pub clearing : Context → Option Found → Inputs → Image → Image → Type 0
  pub cleared : Context → Option Found → Inputs → Image → Type 0
  -- its report, by what the scan finds and by what stands on the disks
  pub reports : Context → Option Found → Image → List ℕ → Type 0

-- the group in force
abbrev pub group_in : Option Found → Option Group
group_in None = None
group_in (Some found) = found.group

-- the number of the disk of this name
abbrev pub number_in : Context → Word → ℕ
number_in context pv = unwrap_or (number_named context.names pv) 0

-- how many sectors it has
abbrev pub size_in : Context → Word → ℕ
size_in context pv = slice_index_or context.sizes (number_in context pv) 0

-- the id of what the line creates
abbrev pub id_in : Context → List ℕ
id_in context = unwrap_or context.id []

-- no disk has the name
abbrev pub unknown_pv : Context → Word → Option OpRefusal
unknown_pv context pv = if is_none (number_named context.names pv) then Some (UnknownPv pv) else None
