-- A group of nine logical volumes, and its next versions.
use Rattle.std.proofs.Common.{◌≡◌, ℕ, Bool, true, false, List, [], ◌∷◌, map, Some, None, refl}
use Rattle.std.specs.Prelude.{codes, option_map, slice_index_or}
use Rattle.meta_model.specs.declared.group.Group.{Group}
use Rattle.meta_model.specs.declared.lv.Lv.{Lv}
use Rattle.meta_model.specs.declared.pv.Pv.{Pv}
use Rattle.meta_model.specs.declared.segment.Leg.{Leg}
use Rattle.meta_model.specs.declared.segment.On.{On}
use Rattle.meta_model.specs.declared.segment.On.TheVariants as on
use Rattle.meta_model.specs.declared.segment.SegKind.TheVariants.{Mirror, Striped}
use Rattle.meta_model.specs.declared.segment.Segment.{Segment}
use Rattle.meta_model.specs.Runs.{legs_of}
use Rattle.meta_model.specs.Tables.{names_of}
use Rattle.group_edits.specs.NextVersion.{next_version}
use Rattle.group_edits.specs.ReducedGroup.{has_leg_on_pv, reduced_group}
use Rattle.group_edits.specs.Removing.{stays, without_volume}
use Rattle.group_edits.specs.RenamedGroup.{renamed_group}
use Rattle.group_edits.specs.RenamedVolume.{renamed_volume}
use Rattle.group_edits.specs.RestoredGroup.{restored_group}
use Rattle.group_edits.specs.Visible.{visible_named}

-- a table: what a function gives of each
abbrev Gives : {A B : Type 0} → (A → B) → List (A × B) → Type 0
Gives f rows = map (λ row. f row.0) rows ≡ map (λ row. row.1) rows

abbrev pv : ℕ → List ℕ → Pv
pv id device = record {
  id = id ∷ [];
  device = device;
  allocatable = true;
  missing = false;
  dev_size = 131072;
  pe_start = 2048;
  pe_count = 15;
}

abbrev leg : On → ℕ → Leg
leg on first = record { on = on; first = first }

abbrev plain : ℕ → ℕ → Leg → Segment
plain start count leg = record { start = start; count = count; kind = Striped 0 (leg ∷ []) }

abbrev mirror : ℕ → Leg → Leg → Segment
mirror count a b = record { start = 0; count = count; kind = Mirror 1024 None (a ∷ b ∷ []) }

-- a volume, which users see or not
abbrev lv : ℕ → Bool → List Segment → Lv
lv id visible segments = record {
  id = id ∷ [];
  status = record { read = true; write = true; visible = visible; fixed_minor = false; pvmove = false; locked = false; notsynced = false };
  created = 1700000000;
  host = [];
  segments = segments;
}

-- first is a mirror of first_a and first_b, that lies on deep and on the first half of shared; second is a mirror of second_a and
-- the second half of shared, and an extent behind it; lone is hidden, and no leg names it
abbrev nine : List (List ℕ × Lv)
nine =
    (codes "first", lv 10 true (mirror 4 (leg (on.Lv 2) 0) (leg (on.Lv 3) 0) ∷ []))
    ∷ (codes "lone", lv 11 false (plain 0 1 (leg (on.Pv 1) 14) ∷ []))
    ∷ (codes "first_a", lv 12 false (plain 0 4 (leg (on.Pv 0) 0) ∷ []))
    ∷ (codes "first_b", lv 13 false (plain 0 2 (leg (on.Lv 4) 0) ∷ plain 2 2 (leg (on.Lv 5) 0) ∷ []))
    ∷ (codes "deep", lv 14 false (plain 0 2 (leg (on.Pv 1) 0) ∷ []))
    ∷ (codes "shared", lv 15 false (plain 0 4 (leg (on.Pv 1) 2) ∷ []))
    ∷ (codes "second", lv 16 true (mirror 2 (leg (on.Lv 7) 0) (leg (on.Lv 5) 2) ∷ plain 2 1 (leg (on.Pv 0) 14) ∷ []))
    ∷ (codes "second_a", lv 17 false (plain 0 2 (leg (on.Pv 0) 4) ∷ []))
    ∷ (codes "fast", lv 18 true (record { start = 0; count = 4; kind = Striped 128 (leg (on.Pv 0) 6 ∷ leg (on.Pv 1) 6 ∷ []) } ∷ []))
    ∷ []

abbrev group_with : List (List ℕ × Lv) → Group
group_with lvs = record {
  name = codes "vg0";
  id = 9 ∷ [];
  seqno = 7;
  status = record { resizeable = true; read = true; write = true };
  extent_size = 8192;
  max_lv = 0;
  max_pv = 0;
  copies = 0;
  pvs = (codes "pv0", pv 1 (codes "a")) ∷ (codes "pv1", pv 2 (codes "b")) ∷ [];
  lvs = lvs;
}

abbrev group : Group
group = group_with nine

-- with one of them alone
abbrev one : Group
one = group_with ((codes "lone", lv 11 false (plain 0 1 (leg (on.Pv 1) 14) ∷ [])) ∷ [])

-- ---- finding

-- hidden volumes aren't found, nor is a front of a name
volumes_found : Gives (λ (name : List ℕ). option_map {U = ℕ} (λ found. found.0) (visible_named group name)) (
    (codes "first", Some 0)
    ∷ (codes "second", Some 6)
    ∷ (codes "fast", Some 8)
    ∷ (codes "shared", None)
    ∷ (codes "second_a", None)
    ∷ (codes "fas", None)
    ∷ (codes "faster", None)
    ∷ []
    )
unfolding visible_named
volumes_found = refl

legs_on_pvs : Gives (has_leg_on_pv group) ((0, true) ∷ (1, true) ∷ (2, false) ∷ [])
legs_on_pvs = refl

-- ---- next versions

next_seqno : (next_version group).seqno ≡ 8
next_seqno = refl

group_renamed : renamed_group group (codes "pv0") ≡ record group { name = codes "pv0"; seqno = 8 }
group_renamed = refl

volume_renamed : renamed_volume (codes "lone") (codes "first_c") one
    ≡ record one { seqno = 8; lvs = (codes "first_c", lv 11 false (plain 0 1 (leg (on.Pv 1) 14) ∷ [])) ∷ [] }
volume_renamed = refl

-- ---- without a volume

-- what it alone lies on goes along, and what another one lies on too stays
abbrev staying : ℕ → List ℕ
staying number = map (λ (row : List ℕ × Lv). slice_index_or row.1.id 0 0) (without_volume group number).lvs

volumes_stay : Gives staying (
    (0, 11 ∷ 15 ∷ 16 ∷ 17 ∷ 18 ∷ [])
    ∷ (6, 10 ∷ 11 ∷ 12 ∷ 13 ∷ 14 ∷ 15 ∷ 18 ∷ [])
    ∷ (8, 10 ∷ 11 ∷ 12 ∷ 13 ∷ 14 ∷ 15 ∷ 16 ∷ 17 ∷ [])
    ∷ []
    )
unfolding stays
volumes_stay = refl

-- with the last one that lies on it, what was shared goes too
last_user : names_of (without_volume (without_volume group 6) 0).lvs ≡ codes "lone" ∷ codes "fast" ∷ []
unfolding stays
last_user = refl

-- legs name volumes by their new numbers
abbrev legs_in : List ℕ × Lv → List (List Leg)
legs_in row = map (λ (segment : Segment). legs_of segment.kind) row.1.segments

legs_renumbered : map legs_in (without_volume group 0).lvs
    ≡ ((leg (on.Pv 1) 14 ∷ []) ∷ [])
    ∷ ((leg (on.Pv 1) 2 ∷ []) ∷ [])
    ∷ ((leg (on.Lv 3) 0 ∷ leg (on.Lv 1) 2 ∷ []) ∷ (leg (on.Pv 0) 14 ∷ []) ∷ [])
    ∷ ((leg (on.Pv 0) 4 ∷ []) ∷ [])
    ∷ ((leg (on.Pv 0) 6 ∷ leg (on.Pv 1) 6 ∷ []) ∷ [])
    ∷ []
unfolding stays
legs_renumbered = refl

-- ---- without a physical volume, and restored

-- the one that stays has another number then
pv_goes : reduced_group one 0
    ≡ record one {
      seqno = 8;
      pvs = (codes "pv1", pv 2 (codes "b")) ∷ [];
      lvs = (codes "lone", lv 11 false (plain 0 1 (leg (on.Pv 0) 14) ∷ [])) ∷ [];
    }
pv_goes = refl

abbrev lost : Group
lost = record one { pvs = (codes "pv0", record (pv 1 (codes "a")) { missing = true }) ∷ [] }

-- it is the text's, with the number behind the greater one, and what was MISSING is there
lost_is_restored : restored_group (record group { seqno = 9 }) lost
    ≡ record one { seqno = 10; pvs = (codes "pv0", pv 1 (codes "a")) ∷ [] }
lost_is_restored = refl
