-- The batches of a group with added physical volumes can be made, and lie on the disks.
use Rattle.std.proofs.Common.{◌≡◌, ◌≤◌, ◌<◌, ℕ, true, List, ◌++◌, length, slice_index_or, Option, None, sym, subst, arith}
use Rattle.std.specs.Prelude.{All, AllPairs, filter}
use Rattle.std.proofs.lemmas.List.{length-map}
use Rattle.std.proofs.lemmas.List.Elements.{All-append, All-filter, All-weaker, filter_passes}
use Rattle.std.proofs.lemmas.List.Kept.{AllPairs-filter}
use Rattle.std.proofs.lemmas.Option.{none-some, same_Some}
use Rattle.mda_header.specs.declared.header.Locn.{Locn}
use Rattle.mda_ring.specs.Areas.{CanTake, LieApart}
use Rattle.mda_ring.specs.declared.area.Area.{Area}
use Rattle.conf_text.specs.Printed.{printed}
use Rattle.meta_model.specs.declared.group.Group.{Group}
use Rattle.meta_print.specs.Layout.{tree_of}
use Rattle.vg_found.proofs.ShapedAreas.{areas_shaped}
use Rattle.vg_found.specs.declared.disk.Disk.{Disk}
use Rattle.vg_commit.specs.Preparing.{AreCommitted, AreWithin, IsOnDiskOf}
use Rattle.group_plan.proofs.Passed.{all_unused}
use Rattle.group_plan.proofs.StateFacts.{areas_take}
use Rattle.group_plan.specs.Added.{added_of, disks_added}
use Rattle.group_plan.specs.Judging.{area_row, lies_on, set_of, used_row}
use Rattle.group_plan.specs.NewGroup.{change_with, extended, text_row}
use Rattle.group_plan.specs.State.{IsState}
use Rattle.group_plan.specs.declared.state.GroupState.{GroupState}
use Rattle.change_batches.proofs.DiskSets.{of_disks}
use Rattle.change_batches.proofs.HeldInDisks.{areas_lie, sizes_below}
use Rattle.change_batches.specs.Building.{LiesIn}
use Rattle.change_batches.specs.Sound.{sizes_of, CanMake, CanTakeText, LiesOn}
use Rattle.vg_change.proofs.AddedLabels.{added_there, all_stand, can_label, labels_differ, labels_lie}
use Rattle.vg_change.proofs.TextRoom.{some_area, text_has_room}

-- ---- the areas on some of the disks

-- an area of one of the disks, where they are at most 64, which is among these
one_on : (disks : List Disk) (listed : List ℕ) (area : Area × Option Locn) → length disks ≤ 64 → LiesIn (sizes_of disks) area
    → lies_on (set_of listed) area ≡ true → IsOnDiskOf (set_of listed) area
one_on disks listed area few there on =
    let count : length (sizes_of disks) ≡ length disks = length-map disks (λ (disk : Disk). disk.sectors) in
    (omega (arith, there.disk, count, few), on)

all_on : (disks : List Disk) (listed : List ℕ) (areas : List (Area × Option Locn)) → length disks ≤ 64 → All (LiesIn (sizes_of disks)) areas
    → All (IsOnDiskOf (set_of listed)) (filter (lies_on (set_of listed)) areas)
all_on disks listed areas few lie k d within =
    one_on disks listed (slice_index_or (filter (lies_on (set_of listed)) areas) k d) few
    (All-filter (lies_on (set_of listed)) (LiesIn (sizes_of disks)) areas lie k d within)
    (filter_passes (lies_on (set_of listed)) areas k d within)

are_committed : (state : GroupState) → IsState state → (listed : List ℕ) → area_row state.areas listed ≡ None
    → AreCommitted (filter (lies_on (set_of listed)) state.areas) (set_of listed)
are_committed state is listed some = record {
  some = some_area state.areas listed some;
  take = All-filter (lies_on (set_of listed)) CanTake state.areas (areas_take state is);
  apart =
      AllPairs-filter LieApart (lies_on (set_of listed)) state.areas
      (subst (AllPairs LieApart) (sym is.areas) (areas_shaped state.disks is.disks).1);
  on_disks = all_on state.disks listed state.areas is.few (areas_lie state is);
}

are_within : (state : GroupState) → IsState state → (listed : List ℕ) → All (λ n. n < length state.disks) listed
    → AreWithin (sizes_of state.disks) (filter (lies_on (set_of listed)) state.areas) (set_of listed)
are_within state is listed there = record {
  areas_lie = All-filter (lies_on (set_of listed)) (LiesIn (sizes_of state.disks)) state.areas (areas_lie state is);
  disks_are = of_disks (λ n. n < length (sizes_of state.disks)) listed (sizes_below state.disks listed there);
}

-- ---- the change

module _ (state : GroupState) (is : IsState state) (base : Group) (listed : List ℕ) (names : List (List ℕ))
    (there : All (λ n. n < length state.disks) listed) (used : used_row listed (added_of state names) ≡ None) where
  all_there : All (λ n. n < length state.disks) (listed ++ disks_added (added_of state names))
  all_there =
      All-append (λ n. n < length state.disks) listed (disks_added (added_of state names)) there
      (added_there state.disks (added_of state names) (all_stand state is names))

  can_take_text : (now : ℕ) → area_row state.areas (listed ++ disks_added (added_of state names)) ≡ None
      → text_row state base listed (added_of state names) now ≡ None
      → CanTakeText (change_with base listed (added_of state names)) state.areas
      (printed (tree_of (extended base (added_of state names)) now))
  can_take_text now some room = record {
    listed =
        All-weaker (λ n. n < length state.disks) (λ n. n < 64) (λ n below. omega (arith, below, is.few))
        (listed ++ disks_added (added_of state names)) all_there;
    committed = are_committed state is (listed ++ disks_added (added_of state names)) some;
    room =
        text_has_room state.areas (listed ++ disks_added (added_of state names)) (extended base (added_of state names)) now
        (areas_take state is) room;
  }

  pub commit_can_make : (now : ℕ) → area_row state.areas (listed ++ disks_added (added_of state names)) ≡ None
      → text_row state base listed (added_of state names) now ≡ None
      → CanMake state.areas (change_with base listed (added_of state names)) now
  commit_can_make now some room = record {
    labels = can_label state.disks (added_of state names) (all_stand state is names) is.few;
    commit = λ group same.
        subst (λ (g : Group). CanTakeText (change_with base listed (added_of state names)) state.areas (printed (tree_of g now)))
        (same_Some (extended base (added_of state names)) group same) (can_take_text now some room);
  }

  pub commit_lies_on : LiesOn (sizes_of state.disks) state.areas (change_with base listed (added_of state names))
  commit_lies_on = record {
    labels = labels_lie state.disks (added_of state names) (all_stand state is names);
    differ = labels_differ (added_of state names) (all_unused listed (added_of state names) used).1;
    new_areas = λ no_group. absurd (none-some (extended base (added_of state names)) (sym no_group));
    commit = λ group same. are_within state is (listed ++ disks_added (added_of state names)) all_there;
  }
