-- lvcreate(8): the rows of its refusals, and its change.
use Rattle.std.specs.Prelude.{◌≡◌, ◌≤◌, ◌<◌, ℕ, ◌+◌, ◌*◌, ◌^◌, ◌||◌, nat_lt, if◌then◌else◌, List, [], ◌∷◌, ◌++◌, length, Option, None, Some}
use Rattle.std.specs.Prelude.{option_map, slice_get, slice_index}
use Rattle.std.specs.FinSet as set
use Rattle.std.specs.Option.{option_and_then, option_map_or}
use Rattle.std.specs.Ordering.{nat_cmp}
use Rattle.sector_base.specs.declared.spans.Span.{Span}
use Rattle.lvm_name.specs.Names.{volume_name_refusal}
use Rattle.command_table.specs.declared.command.NewVolume.{NewVolume}
use Rattle.line_answers.specs.declared.op_refusal.OpRefusal.{OpRefusal}
use Rattle.line_answers.specs.declared.op_refusal.OpRefusal.TheVariants.{IdTaken}
use Rattle.meta_model.specs.declared.group.Group.{Group}
use Rattle.meta_model.specs.declared.pv.Pv.{Pv}
use Rattle.meta_model.specs.declared.segment.SegKind.{SegKind}
use Rattle.meta_model.specs.declared.segment.SegKind.TheVariants.{Mirror, Striped}
use Rattle.volume_rules.specs.Rules.{IsPowerOfTwo}
use Rattle.extent_alloc.specs.declared.part.Part.{Part}
use Rattle.extent_alloc.specs.declared.part.PartRun.{PartRun}
use Rattle.extent_alloc.specs.declared.request.Request.{Request}
use Rattle.group_edits.specs.NewVolume.{new_lv, with_volume}
use Rattle.group_edits.specs.ShortenedVolume.{parts_of}
use Rattle.group_plan.specs.Committing.{change_where_found, length_row, named_rows, no_area_row, rows_where_found, seqno_row}
use Rattle.group_plan.specs.Committing.{zeroing_change}
use Rattle.group_plan.specs.Ids.{has_any_id}
use Rattle.group_plan.specs.Judging.{many_row, refused_if, stands_on_disk, unknown_row}
use Rattle.group_plan.specs.Members.{outside_row, pvs_named}
use Rattle.group_plan.specs.Stripes.{stripe_row}
use Rattle.group_plan.specs.declared.state.Change.{Change}
use Rattle.group_plan.specs.declared.state.GroupState.{GroupState}
use Rattle.lv_plans.specs.Allocating.{Asking, segments_row, space_row}
use Rattle.lv_plans.specs.Sizes.{IsAmount, extents_for}
use Rattle.lv_plans.specs.Volumes.{taken_row}

-- a new volume as words have it: with a user's name, an amount, one to eight stripes or one and up to seven mirrors of it, and a
-- power of two from 8 sectors on as the size of a stripe's piece
pub record IsNewVolume (new : NewVolume) : Type 0 where
  pub named : volume_name_refusal new.lv ≡ None
  pub amount : IsAmount new.amount
  pub stripes : (1 ≤ new.stripes) × (new.stripes ≤ 8)
  pub mirrors : (new.mirrors ≤ 7) × (1 ≤ new.mirrors → new.stripes ≡ 1)
  pub stripe_size : IsPowerOfTwo new.stripe_size × (8 ≤ new.stripe_size) × (new.stripe_size < 2 ^ 48)

-- ---- what it asks for

-- how many legs it has: one and its mirrors, or its stripes
abbrev pub legs_for : NewVolume → ℕ
legs_for new = if nat_lt 0 new.mirrors then new.mirrors + 1 else new.stripes

-- how many extents each leg has: all of them in a mirror, else so many that all stripes together have at least as many
abbrev pub share_for : ℕ → NewVolume → ℕ
share_for extent_size new =
    if nat_lt 0 new.mirrors then extents_for extent_size new.amount else parts_of (extents_for extent_size new.amount) new.stripes

-- the kind of its segments: mirrors in regions of 1,024 sectors, or stripes, where a single leg has no stripe size
abbrev pub kind_for : NewVolume → SegKind
kind_for new = if nat_lt 0 new.mirrors then Mirror 1024 None [] else Striped (if nat_lt 1 new.stripes then new.stripe_size else 0) []

-- what it asks of these physical volumes, with extents of so many sectors
abbrev pub want_on : set.FinSet nat_cmp → ℕ → NewVolume → Request
want_on pvs extent_size new =
    record { extents = share_for extent_size new; legs = legs_for new; contiguous = new.contiguous; on = pvs; avoid = set.empty }

-- what it asks of those on the disks that it names
abbrev pub want_for : GroupState → Group → NewVolume → Request
want_for state group new = want_on (pvs_named state new.pvs) group.extent_size new

-- ---- rows

-- the drawn id stands in the group or on a disk
abbrev pub id_row : GroupState → Group → List ℕ → Option OpRefusal
id_row state group id = refused_if (has_any_id group id || stands_on_disk id state.disks) (IdTaken id)

-- the rows on the names in the line
abbrev pub name_rows : GroupState → NewVolume → Group → List (Option OpRefusal)
name_rows state new group = named_rows group new.vg ++ taken_row group new.lv ∷ unknown_row state new.pvs ∷ outside_row state new.pvs ∷ []

-- those on what the group takes, before the allocator's
abbrev pub limit_rows : GroupState → List ℕ → NewVolume → Group → List (Option OpRefusal)
limit_rows state id new group =
    no_area_row state
    ∷ stripe_row group.extent_size new.stripes new.stripe_size
    ∷ many_row 1024 group.max_lv (length group.lvs + 1)
    ∷ seqno_row group
    ∷ id_row state group id
    ∷ []

-- all up to the allocator's
abbrev pub new_lv_rows : GroupState → List ℕ → NewVolume → Group → List (Option OpRefusal)
new_lv_rows state id new group =
    name_rows state new group ++ limit_rows state id new group ++ space_row state group (want_for state group new) ∷ []

-- the group with the volume, of these parts
abbrev pub created_group : List ℕ → NewVolume → ℕ → List Part → Group → Group
created_group id new now given group = with_volume (new.lv, new_lv id (kind_for new) given now) group

-- those behind it, where the volume gets these parts
abbrev pub add_rows : GroupState → List ℕ → NewVolume → ℕ → Group → List Part → List (Option OpRefusal)
add_rows state id new now group given = segments_row group (length given) ∷ length_row state (created_group id new now given group) now ∷ []

-- the rows where this group was found
abbrev pub create_in_rows : GroupState → List ℕ → NewVolume → ℕ → Group → List Part → List (Option OpRefusal)
create_in_rows state id new now group given = new_lv_rows state id new group ++ add_rows state id new now group given

-- all rows
abbrev pub lvcreate_rows : GroupState → List ℕ → NewVolume → ℕ → List Part → List (Option OpRefusal)
lvcreate_rows state id new now given = rows_where_found state.group new.vg (λ group. create_in_rows state id new now group given)

-- ---- extents, and the change

-- what it asks of the allocator where this group was found
abbrev pub create_asks : GroupState → List ℕ → NewVolume → Group → Asking
create_asks state id new group = record { group = group; want = want_for state group new; rows = new_lv_rows state id new group }

-- so it does in the group that was found
abbrev pub lvcreate_asks : GroupState → List ℕ → NewVolume → Option Asking
lvcreate_asks state id new = option_map (create_asks state id new) state.group

-- where the first leg of the first of these parts begins
abbrev pub first_run : List Part → Option PartRun
first_run given = option_and_then (λ (part : Part). slice_get part.runs 0) (slice_get given 0)

-- eight sectors of this disk, from where a leg begins on its physical volume
abbrev pub eight_from : ℕ → ℕ → Pv → PartRun → Span
eight_from disk extent_size pv run = record { pv = disk; first = pv.pe_start + run.first * extent_size; count = 8 }

-- those of a leg on a physical volume of the group, on these disks
abbrev pub leg_zeroed : List ℕ → Group → PartRun → List Span
leg_zeroed disk_of group run =
    option_map_or (λ (row : List ℕ × Pv). eight_from (slice_index disk_of run.pv) group.extent_size row.1 run ∷ [])
    (slice_get group.pvs run.pv) []

-- the first eight sectors of a volume of these parts, at its first leg
abbrev pub zeroed_at : List ℕ → Group → List Part → List Span
zeroed_at disk_of group given = option_map_or (leg_zeroed disk_of group) (first_run given) []

-- the leg begins on a physical volume of the group, at a sector with a number of 64 bits
pub record Begins (group : Group) (run : PartRun) : Type 0 where
  pub row : List ℕ × Pv
  pub there : slice_get group.pvs run.pv ≡ Some row
  pub fits : row.1.pe_start + run.first * group.extent_size < 2 ^ 64

-- the group in force has one more volume, whose first eight sectors are to hold zeros before
abbrev pub create_change : GroupState → List ℕ → NewVolume → ℕ → Group → List Part → Change
create_change state id new now group given =
    zeroing_change state (zeroed_at state.disk_of group given) (created_group id new now given group)

-- it is that which was found
abbrev pub lvcreate_change : GroupState → List ℕ → NewVolume → ℕ → List Part → Change
lvcreate_change state id new now given = change_where_found state (λ group. create_change state id new now group given)
