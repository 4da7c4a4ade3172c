-- Volumes of given parts, judged by computing.
use Rattle.std.proofs.Common.{◌≡◌, ℕ, List, [], ◌∷◌, None, refl}
use Rattle.std.specs.Prelude.{true, false}
use Rattle.meta_model.specs.declared.group.Group.{Group}
use Rattle.meta_model.specs.declared.lv.Lv.{Lv}
use Rattle.meta_model.specs.declared.segment.Leg.{Leg}
use Rattle.meta_model.specs.declared.segment.On.TheVariants as on
use Rattle.meta_model.specs.declared.segment.SegKind.TheVariants.{Mirror, Striped}
use Rattle.meta_model.specs.declared.segment.Segment.{Segment}
use Rattle.extent_alloc.specs.declared.part.Part.{Part}
use Rattle.extent_alloc.specs.declared.part.PartRun.{PartRun}
use Rattle.group_edits.specs.LongerVolume.{longer_volume}
use Rattle.group_edits.specs.NewVolume.{new_lv, with_volume}

abbrev leg : ℕ → ℕ → Leg
leg pv first = record { on = on.Pv pv; first = first }

abbrev begin : ℕ → ℕ → PartRun
begin pv first = record { pv = pv; first = first }

-- a volume that users see, of these segments
abbrev row : ℕ → List Segment → List ℕ × Lv
row id segments = (
  id ∷ [],
  record {
    id = id ∷ [];
    status = record { read = true; write = true; visible = true; fixed_minor = false; pvmove = false; locked = false; notsynced = false };
    created = 5;
    host = 104 ∷ [];
    segments = segments;
  },
)

abbrev group : ℕ → List (List ℕ × Lv) → Group
group seqno lvs = record {
  name = 9 ∷ [];
  id = 9 ∷ [];
  seqno = seqno;
  status = record { resizeable = true; read = true; write = true };
  extent_size = 64;
  max_lv = 0;
  max_pv = 0;
  copies = 0;
  pvs = [];
  lvs = lvs;
}

-- six extents on two stripes
abbrev striped : Segment
striped = record { start = 0; count = 6; kind = Striped 8 (leg 0 0 ∷ leg 1 0 ∷ []) }

-- two parts: of 3 extents for each stripe, and of 1
abbrev given : List Part
given = (record { extents = 3; runs = begin 0 5 ∷ begin 1 7 ∷ [] }) ∷ (record { extents = 1; runs = begin 0 20 ∷ begin 1 3 ∷ [] }) ∷ []

-- the striped volume has 6 extents more, and then 2
grows : longer_volume (6 ∷ []) given (group 3 (row 5 (striped ∷ []) ∷ row 6 (striped ∷ []) ∷ row 7 [] ∷ []))
    ≡ group 4
    (row 5 (striped ∷ [])
    ∷ row 6
    (striped
    ∷ (record { start = 6; count = 6; kind = Striped 8 (leg 0 5 ∷ leg 1 7 ∷ []) })
    ∷ (record { start = 12; count = 2; kind = Striped 8 (leg 0 20 ∷ leg 1 3 ∷ []) })
    ∷ [])
    ∷ row 7 []
    ∷ [])
grows = refl

-- a mirror has as many extents as each of its legs, and lies behind the other volumes
is_new : with_volume (8 ∷ [], new_lv (8 ∷ []) (Mirror 1024 None []) given 77) (group 3 (row 5 (striped ∷ []) ∷ []))
    ≡ group 4
    (row 5 (striped ∷ [])
    ∷ (
      8 ∷ [],
      record {
        id = 8 ∷ [];
        status =
            record { read = true; write = true; visible = true; fixed_minor = false; pvmove = false; locked = false; notsynced = false };
        created = 77;
        host = 108 ∷ 111 ∷ 99 ∷ 97 ∷ 108 ∷ 104 ∷ 111 ∷ 115 ∷ 116 ∷ [];
        segments =
            (record { start = 0; count = 3; kind = Mirror 1024 None (leg 0 5 ∷ leg 1 7 ∷ []) })
            ∷ (record { start = 3; count = 1; kind = Mirror 1024 None (leg 0 20 ∷ leg 1 3 ∷ []) })
            ∷ [];
      },
    )
    ∷ [])
is_new = refl
