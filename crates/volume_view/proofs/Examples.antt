-- Small groups, and places of their sectors by computing. One has a visible volume, striped at first and then a mirror, of
-- which the first leg is being moved.
use Rattle.std.proofs.Common.{◌≡◌, ℕ, ◌+◌, ◌*◌, Bool, true, false, List, [], ◌∷◌, map, Some, None, refl}
use Rattle.std.specs.Prelude.{codes}
use Rattle.sector_base.specs.declared.places.At.{At}
use Rattle.meta_model.specs.declared.group.Group.{Group}
use Rattle.meta_model.specs.declared.pv.Pv.{Pv}
use Rattle.meta_model.specs.declared.lv.Lv.{Lv}
use Rattle.meta_model.specs.Status.{LvStatus}
use Rattle.meta_model.specs.declared.segment.Segment.{Segment}
use Rattle.meta_model.specs.declared.segment.SegKind.{SegKind}
use Rattle.meta_model.specs.declared.segment.SegKind.TheVariants.{Striped, Mirror}
use Rattle.meta_model.specs.declared.segment.Leg.{Leg}
use Rattle.meta_model.specs.declared.segment.On.TheVariants as on
use Rattle.volume_view.specs.InSegments.{leg_spot, met}
use Rattle.volume_view.specs.Places.{deciding, mark, places, primary, way}
use Rattle.volume_view.specs.SamePlaces.{places_by_id}
use Rattle.volume_view.specs.View.{Image, content, view}

-- a status by the words that places depend on
abbrev pub status : (visible pvmove locked : Bool) → LvStatus
status visible pvmove locked =
    record { read = true; write = true; visible = visible; fixed_minor = false; pvmove = pvmove; locked = locked; notsynced = false }

-- a physical volume of 15 extents from this sector on, with its name
abbrev pub pv : ℕ → ℕ → List ℕ × Pv
pv id start =
    (id ∷ [], record { id = id ∷ []; device = []; allocatable = true; missing = false; dev_size = 0; pe_start = start; pe_count = 15 })

-- a logical volume without its name
abbrev pub lv : ℕ → LvStatus → List Segment → Lv
lv id s segments = record { id = id ∷ []; status = s; created = 0; host = []; segments = segments }

-- a segment by its first extent and its number of extents
abbrev pub segment : ℕ → ℕ → SegKind → Segment
segment start count kind = record { start = start; count = count; kind = kind }

-- a leg on a physical volume
abbrev pub on_pv : ℕ → ℕ → Leg
on_pv number first = record { on = on.Pv number; first = first }

-- a leg on a logical volume
abbrev pub on_lv : ℕ → ℕ → Leg
on_lv number first = record { on = on.Lv number; first = first }

-- the physical volumes
abbrev pub pvs : List (List ℕ × Pv)
pvs = pv 1 2048 ∷ pv 2 4096 ∷ []

-- two stripes of 8 sectors, of one extent each
abbrev pub stripes : Segment
stripes = segment 0 2 (Striped 8 (on_pv 0 3 ∷ on_pv 1 5 ∷ []))

-- a mirror of one extent over the two hidden volumes
abbrev pub mirror : Segment
mirror = segment 2 1 (Mirror 1024 None (on_lv 1 0 ∷ on_lv 2 0 ∷ []))

-- the segment of the move from the first physical volume to the second, of which so many extents were moved
abbrev pub move : ℕ → Segment
move moved = segment 0 1 (Mirror 32 (Some moved) (on_pv 0 2 ∷ on_pv 1 9 ∷ []))

-- the visible volume
abbrev pub data_lv : Lv
data_lv = lv 3 (status true false true) (stripes ∷ mirror ∷ [])

-- the first leg of its mirror, which is being moved
abbrev pub first_lv : Lv
first_lv = lv 4 (status false false true) (segment 0 1 (Striped 0 (on_lv 3 0 ∷ [])) ∷ [])

-- the second leg of its mirror
abbrev pub second_lv : Lv
second_lv = lv 5 (status false false false) (segment 0 1 (Striped 0 (on_pv 1 7 ∷ [])) ∷ [])

-- the volume of the move
abbrev pub move_lv : ℕ → Lv
move_lv moved = lv 6 (status false true true) (move moved ∷ [])

-- the logical volumes
abbrev pub lvs : ℕ → List (List ℕ × Lv)
lvs moved = (3 ∷ [], data_lv) ∷ (4 ∷ [], first_lv) ∷ (5 ∷ [], second_lv) ∷ (codes "pvmove0", move_lv moved) ∷ []

-- a group of these logical volumes
abbrev pub group_of : List (List ℕ × Lv) → Group
group_of rows =
    record {
      name = 9 ∷ [];
      id = 9 ∷ [];
      seqno = 1;
      status = record { resizeable = true; read = true; write = true };
      extent_size = 64;
      max_lv = 0;
      max_pv = 0;
      copies = 0;
      pvs = pvs;
      lvs = rows;
    }

-- the group
abbrev pub example : ℕ → Group
example moved = group_of (lvs moved)

-- a group without a move: a mirror of two extents, over a linear volume and a striped one
abbrev pub mirrored : Group
mirrored =
    group_of
    ((3 ∷ [], lv 3 (status true false false) (segment 0 2 (Mirror 32 None (on_lv 1 0 ∷ on_lv 2 0 ∷ [])) ∷ []))
    ∷ (4 ∷ [], lv 4 (status false false false) (segment 0 2 (Striped 0 (on_pv 0 7 ∷ [])) ∷ []))
    ∷ (5 ∷ [], lv 5 (status false false false) (stripes ∷ [])) ∷ [])

-- a sector of a physical volume
abbrev pub at : ℕ → ℕ → At
at number sector = record { pv = number; sector = sector }

-- sector 29 stands in the second row of stripes on the second physical volume, 5 sectors into its stripe
row_stripe : places (example 0) 0 29 ≡ Some (record { primary = at 1 (4096 + 5 * 64 + 8 + 5); others = []; mirror = None })
unfolding places primary met leg_spot deciding
row_stripe = refl

-- sector 40 of the mirror is read where the move reads, and its other place is where the move goes
pub row_moving : places (example 0) 0 168
    ≡ Some (record {
      primary = at 0 (2048 + 2 * 64 + 40);
      others = at 1 (4096 + 9 * 64 + 40) ∷ [];
      mirror = Some (record { lv = 3; segment = 0; region = 1 });
    })
unfolding places primary met leg_spot deciding
row_moving = refl

-- when the segment is finished it is read where the move went, and has no other place
row_moved : places (example 1) 0 168 ≡ Some (record { primary = at 1 (4096 + 9 * 64 + 40); others = []; mirror = None })
unfolding places primary met leg_spot deciding
row_moved = refl

-- the other leg of a mirror is followed down as it is read
row_mirrored : places mirrored 0 45 ≡ Some
    (record {
      primary = at 0 (2048 + 7 * 64 + 45);
      others = at 1 (4096 + 5 * 64 + 16 + 5) ∷ [];
      mirror = Some (record { lv = 0; segment = 0; region = 1 });
    })
unfolding places primary met leg_spot deciding
row_mirrored = refl

-- the segments and regions on the way down of sector 40 of the mirror that moves
row_way : map mark (way (example 0) (on.Lv 0) 5 168) ≡ (0, 1, Some 0) ∷ (1, 0, None) ∷ (3, 0, Some 1) ∷ []
unfolding met leg_spot
row_way = refl

-- the same places by the ids of the physical volumes
row_by_id : places_by_id (example 0) 0 168 ≡ Some (Some (1 ∷ [], 2048 + 2 * 64 + 40), Some (2 ∷ [], 4096 + 9 * 64 + 40) ∷ [])
unfolding places primary met leg_spot deciding
row_by_id = refl

-- what the volume holds is read at the primary place, here with the physical volumes on disks 4 and 6
row_content : (image : Image) → content image (example 0) (4 ∷ 6 ∷ []) 0 168 ≡ image 4 (2048 + 2 * 64 + 40)
unfolding content primary met leg_spot
row_content image = refl

-- the view has the visible volume alone
row_view : (image : Image) → map (λ (v : List ℕ × List (List ℕ)). v.0) (view image (example 0) (4 ∷ 6 ∷ [])) ≡ (3 ∷ []) ∷ []
unfolding view
row_view image = refl
