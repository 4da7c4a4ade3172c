-- What is judged of a line that reads, writes or flushes a volume, before it is begun.
use Rattle.std.specs.Prelude.{◌≡◌, ◌≤◌, ℕ, ◌+◌, ◌-◌, ◌^◌, nat_eq, nat_le, Bool, true, not, ◌&&◌, if◌then◌else◌, is_none, IfSome, List, [], ◌∷◌, find, min}
use Rattle.std.specs.Prelude.{Option, None, Some}
use Rattle.std.specs.Prelude.{option_map}
use Rattle.std.specs.Option.{option_and_then, option_map_or}
use Rattle.std.specs.Str.{bytes_eq}
use Rattle.command_table.specs.declared.command.Command.{Command}
use Rattle.command_table.specs.declared.command.Path.{Path}
use Rattle.line_answers.specs.declared.op_refusal.OpRefusal.{OpRefusal}
use Rattle.line_answers.specs.declared.op_refusal.OpRefusal.TheVariants.{PastEnd, ReadOnly, UnknownGroup, UnknownVolume}
use Rattle.data_lines.specs.DataLines.{range_of, volume_named, writes}
use Rattle.meta_model.specs.declared.group.Group.{Group}
use Rattle.meta_model.specs.declared.lv.Lv.{Lv}
use Rattle.seg_place.specs.Sectors.{sectors_of}
use Rattle.group_edits.specs.Visible.{visible_named}
use Rattle.group_plan.specs.Judging.{first_refusal, refused_if}
use Rattle.world_acts.specs.declared.volumes.VolumeRow.{VolumeRow}
use Rattle.world_acts.specs.declared.volumes.Volumes.{Volumes}

-- whether the group may be written, and the volume too, where it is there
abbrev pub may_write : Group → Option (ℕ × Lv) → Bool
may_write group volume = group.status.write && option_map_or (λ (v : ℕ × Lv). v.1.status.write) volume true

-- these sectors end behind the volume's end
abbrev pub past_end : Group → ℕ × ℕ → ℕ × Lv → Option OpRefusal
past_end group range volume =
    let length = sectors_of group volume.0 in
    refused_if (not (nat_le (range.0 + range.1) length)) (PastEnd (min (range.0 + range.1) (2 ^ 64 - 1)) length)

-- the refusals of a line on this path of a group, in the order in which they are tested
abbrev pub path_rows : Group → Path → Bool → Option (ℕ × ℕ) → List (Option OpRefusal)
path_rows group path writing range =
    refused_if (not (bytes_eq group.name path.vg)) (UnknownGroup path.vg)
    ∷ refused_if (writing && not (may_write group (visible_named group path.lv))) ReadOnly
    ∷ refused_if (is_none (visible_named group path.lv)) (UnknownVolume path.lv)
    ∷ option_and_then (λ (volume : ℕ × Lv). option_and_then (λ (r : ℕ × ℕ). past_end group r volume) range) (visible_named group path.lv)
    ∷ []

-- the same, where a group stands or none
abbrev pub rows_on : Option Group → Path → Bool → Option (ℕ × ℕ) → List (Option OpRefusal)
rows_on None path writing range = Some (UnknownGroup path.vg) ∷ []
rows_on (Some group) path writing range = path_rows group path writing range

-- the first refusal of a line that names a volume
abbrev pub refusal_of : Option Group → Command → Option OpRefusal
refusal_of group command =
    option_and_then (λ (path : Path). first_refusal (rows_on group path (writes command) (range_of command))) (volume_named command)

-- the number in the text of the visible volume on a path
abbrev pub number_on : Option Group → Path → Option ℕ
number_on group path =
    option_and_then (λ (g : Group).
    if bytes_eq g.name path.vg then option_map (λ (v : ℕ × Lv). v.0) (visible_named g path.lv) else None) group

-- the same of a command
abbrev pub number_named : Option Group → Command → Option ℕ
number_named group command = option_and_then (number_on group) (volume_named command)

-- the row is that of the volume on the path, which has these sectors
pub record IsFoundIn (volumes : Volumes) (path : Path) (range : Option (ℕ × ℕ)) (row : VolumeRow) : Type 0 where
  pub number : number_on volumes.group path ≡ Some row.lv
  pub listed : find (λ (r : VolumeRow). nat_eq r.lv row.lv) volumes.rows.items ≡ Some row
  pub within : IfSome range (λ (r : ℕ × ℕ). IfSome volumes.group (λ (g : Group). r.0 + r.1 ≤ sectors_of g row.lv))
