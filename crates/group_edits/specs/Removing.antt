-- A group without a logical volume, and without those that go with it (lvremove(8)).
use Rattle.std.specs.Prelude.{ℕ, zero, suc, ◌+◌, ◌==◌, ◌||◌, ◌&&◌, Bool, not, if◌then◌else◌, List, [], ◌∷◌, length, map, filter}
use Rattle.std.specs.List.{list_all, list_any, range_with_len}
use Rattle.meta_model.specs.declared.group.Group.{Group}
use Rattle.meta_model.specs.declared.segment.On.{On}
use Rattle.meta_model.specs.declared.segment.On.TheVariants as on
use Rattle.volume_rules.specs.Moving.{named_by}
use Rattle.group_edits.specs.NextVersion.{with_lvs}
use Rattle.group_edits.specs.Renumbered.{renumbered_row}

-- the numbers of the logical volumes
abbrev pub lv_numbers : Group → List ℕ
lv_numbers group = range_with_len 0 (length group.lvs)

-- a leg of the upper volume lies on the other one
abbrev pub has_leg_on : Group → ℕ → ℕ → Bool
has_leg_on group lv upper = list_any (λ below. below == lv) (named_by group upper)

-- the volume goes with the removed one, so many steps down from it at most: it is that one, or a volume has a leg on it and each
-- that has one goes. So it is hidden, as each volume is that a leg names.
abbrev pub goes_with : Group → ℕ → ℕ → ℕ → Bool
goes_with group removed zero lv = lv == removed
goes_with group removed (suc steps) lv =
    lv == removed
    || (list_any (has_leg_on group lv) (lv_numbers group)
    && list_all (λ upper. not (has_leg_on group lv upper) || goes_with group removed steps upper) (lv_numbers group))

-- the volume stays where that one is removed; ways down have at most four volumes below it
unfoldable pub stays : Group → ℕ → ℕ → Bool
stays group removed lv = not (goes_with group removed 4 lv)

-- the items that stay, the first of them having this number
abbrev pub that_stay : {A : Type 0} → (ℕ → Bool) → ℕ → List A → List A
that_stay stays number [] = []
that_stay stays number (item ∷ items) =
    if stays number then item ∷ that_stay stays (number + 1) items else that_stay stays (number + 1) items

-- the new number of a volume: how many before it stay
abbrev pub number_after : (ℕ → Bool) → ℕ → ℕ
number_after stays lv = length (filter stays (range_with_len 0 lv))

-- the same volume by its new number
abbrev pub on_after : (ℕ → Bool) → On → On
on_after stays (on.Pv pv) = on.Pv pv
on_after stays (on.Lv lv) = on.Lv (number_after stays lv)

-- the next version, with the volumes that stay
abbrev pub with_staying : (ℕ → Bool) → Group → Group
with_staying stays group = with_lvs group (map (renumbered_row (on_after stays)) (that_stay stays 0 group.lvs))

-- the group without the volume with this number, and without those that go with it
abbrev pub without_volume : Group → ℕ → Group
without_volume group number = with_staying (stays group number) group
