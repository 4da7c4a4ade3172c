-- A text that no row refuses has room in each area that it is committed to.
use Rattle.std.proofs.Common.{◌≡◌, ◌≤◌, ◌<◌, ℕ, ◌+◌, ◌/◌, ◌^◌, Bool, true, false, ◌||◌, ◌&&◌, cond, ltb, min, List, [], ◌∷◌, length, Option}
use Rattle.std.proofs.Common.{Some, None, refl, ap, subst, ◌∙◌, arith}
use Rattle.std.specs.Prelude.{All, filter, find}
use Rattle.std.specs.List.{list_any}
use Rattle.std.specs.FinSet as set
use Rattle.std.specs.Ordering.{nat_cmp}
use Rattle.std.proofs.lemmas.Bool.{ltb-false}
use Rattle.std.proofs.lemmas.List.Elements.{All-head, All-tail}
use Rattle.line_answers.specs.declared.op_refusal.OpRefusal.TheVariants.{NoArea, TooLarge}
use Rattle.pv_header.proofs.Overlaps.{All-from_find}
use Rattle.mda_header.specs.declared.header.Locn.{Locn}
use Rattle.mda_ring.specs.Areas.{CanTake}
use Rattle.mda_ring.specs.Ring.{need, room}
use Rattle.mda_ring.specs.declared.area.Area.{Area}
use Rattle.conf_text.specs.Printed.{printed}
use Rattle.meta_model.specs.declared.group.Group.{Group}
use Rattle.meta_print.specs.Layout.{tree_of}
use Rattle.vg_commit.specs.TooLarge.{first_too_large}
use Rattle.group_plan.proofs.Passed.{no_map}
use Rattle.group_plan.specs.Judging.{area_row, is_full, large_row, lies_on, set_of, stored_size}
use Rattle.group_plan.proofs.Rows.{test_holds}

-- ---- one area

-- the ring of an area has no more sectors than fit into its size
room_most : (size : ℕ) (committed : Option Locn) → room size committed ≤ size / 512
room_most size None = omega arith
room_most size (Some locn) = omega arith

-- a size that is bounded by one past every area is the size itself, where it has room
has_room : (count : ℕ) (area : Area × Option Locn) → CanTake area → is_full (min count (2 ^ 62) + 1) area ≡ false
    → ltb (room area.0.size area.1) (need (count + 1)) ≡ false
has_room count area take fits =
    let enough : need (min count (2 ^ 62) + 1) ≤ room area.0.size area.1 =
    ltb-false (room area.0.size area.1) (need (min count (2 ^ 62) + 1)) fits in
    let most : room area.0.size area.1 ≤ area.0.size / 512 = room_most area.0.size area.1 in
    let ends : area.0.start + area.0.size ≤ 2 ^ 49 = take.0.ends in
    let same : min count (2 ^ 62) ≡ count = omega (arith, enough, most, ends) in
    subst (λ (n : ℕ). ltb (room area.0.size area.1) (need (n + 1)) ≡ false) same fits

-- ---- all of them

module _ (disks : set.FinSet nat_cmp) (text : List ℕ) where
  abbrev is_refused : Area × Option Locn → Bool
  is_refused area = lies_on disks area && is_full (min (length text) (2 ^ 62) + 1) area

  one_has : (area : Area × Option Locn) (areas : List (Area × Option Locn)) (b : Bool) → lies_on disks area ≡ b
      → (b && is_full (min (length text) (2 ^ 62) + 1) area) ≡ false → CanTake area
      → first_too_large text (filter (lies_on disks) areas) ≡ None
      → first_too_large text (cond b (area ∷ filter (lies_on disks) areas) (filter (lies_on disks) areas)) ≡ None
  one_has area areas false is fits take rest = rest
  one_has area areas true is fits take rest =
      ap (λ (b : Bool). cond b (Some (need (length text + 1), room area.0.size area.1))
      (first_too_large text (filter (lies_on disks) areas))) (has_room (length text) area take fits) ∙ rest

  all_have : (areas : List (Area × Option Locn)) → All (λ area. is_refused area ≡ false) areas → All CanTake areas
      → first_too_large text (filter (lies_on disks) areas) ≡ None
  all_have [] fit take = refl
  all_have (area ∷ areas) fit take =
      one_has area areas (lies_on disks area) refl (All-head (λ area. is_refused area ≡ false) area areas fit)
      (All-head CanTake area areas take)
      (all_have areas (All-tail (λ area. is_refused area ≡ false) area areas fit) (All-tail CanTake area areas take))

-- as the row has it
pub text_has_room : (areas : List (Area × Option Locn)) (disks : List ℕ) (group : Group) (now : ℕ) → All CanTake areas
    → large_row areas disks (stored_size group now) ≡ None
    → first_too_large (printed (tree_of group now)) (filter (lies_on (set_of disks)) areas) ≡ None
unfolding large_row stored_size
text_has_room areas disks group now take none =
    let text : List ℕ = printed (tree_of group now) in
    all_have (set_of disks) text areas
    (All-from_find (is_refused (set_of disks) text) areas
    (no_map (λ (area : Area × Option Locn). TooLarge (need (min (length text) (2 ^ 62) + 1)) (room area.0.size area.1))
    (find (is_refused (set_of disks) text) areas) none))
    take

-- ---- there is one

some_by : {X : Type 0} (p : X → Bool) (x : X) (xs : List X) (b : Bool) → (b || list_any p xs) ≡ true
    → (list_any p xs ≡ true → 0 < length (filter p xs)) → 0 < length (cond b (x ∷ filter p xs) (filter p xs))
some_by p x xs true any later = omega arith
some_by p x xs false any later = later any

some_kept : {X : Type 0} (p : X → Bool) (xs : List X) → list_any p xs ≡ true → 0 < length (filter p xs)
some_kept p [] any = absurd cc
some_kept p (x ∷ xs) any = some_by p x xs (p x) any (some_kept p xs)

pub some_area : (areas : List (Area × Option Locn)) (disks : List ℕ) → area_row areas disks ≡ None
    → 0 < length (filter (lies_on (set_of disks)) areas)
unfolding area_row
some_area areas disks none = some_kept (lies_on (set_of disks)) areas (test_holds (list_any (lies_on (set_of disks)) areas) NoArea none)
