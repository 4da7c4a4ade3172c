-- A group with one more logical volume (lvcreate(8)).
use Rattle.std.specs.Prelude.{◌≢◌, ◌≤◌, ◌<◌, ℕ, ◌+◌, ◌*◌, ◌^◌, true, false, List, [], ◌∷◌, ◌++◌, length, codes, All}
use Rattle.meta_model.specs.declared.group.Group.{Group}
use Rattle.meta_model.specs.declared.lv.Lv.{Lv}
use Rattle.meta_model.specs.declared.segment.SegKind.{SegKind}
use Rattle.extent_alloc.specs.declared.part.Part.{Part}
use Rattle.volume_rules.specs.Rules.{IsSmall, ids_of}
use Rattle.group_edits.specs.GivenSegments.{MayBeLaid, MayHaveLegs, extents_in, segments_in, segments_of}
use Rattle.group_edits.specs.NextVersion.{with_lvs}

-- the volume with this id, with segments of this kind of these parts, at this time: it may be read and written, and users see it
abbrev pub new_lv : List ℕ → SegKind → List Part → ℕ → Lv
new_lv id kind given now = record {
  id = id;
  status = record { read = true; write = true; visible = true; fixed_minor = false; pvmove = false; locked = false; notsynced = false };
  created = now;
  host = codes "localhost";
  segments = segments_of kind 0 given;
}

-- it stands behind the others
abbrev pub with_volume : List ℕ × Lv → Group → Group
with_volume row group = with_lvs group (group.lvs ++ row ∷ [])

-- The group may have one more volume, with this id, of these parts, at this time: the id stands nowhere in it, segments of this
-- kind can have as many legs as each part has, the volume has less than 2^48 sectors, the group has no more volumes and segments
-- than it may have, and the time is below 2^48.
pub record MayHave (group : Group) (id : List ℕ) (kind : SegKind) (given : List Part) (now : ℕ) : Type 0 where
  pub fresh : All (λ other. other ≢ id) (ids_of group)
  pub count : ℕ
  pub legs : MayHaveLegs group.extent_size count kind
  pub laid : MayBeLaid group count given
  pub some : 1 ≤ length given
  pub sectors : extents_in (segments_of kind 0 given) * group.extent_size < 2 ^ 48
  pub segments : segments_in group + length given ≤ 16384
  pub lvs : length group.lvs < 1024
  pub max_lv : group.max_lv ≢ 0 → length group.lvs < group.max_lv
  pub created : IsSmall now
