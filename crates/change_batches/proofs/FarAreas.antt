-- Each metadata area begins behind the sectors of labels.
use Rattle.std.proofs.Common.{◌≡◌, ◌≤◌, ◌<◌, ℕ, suc, ◌+◌, ◌%◌, ◌==◌, not, ◌||◌, nat_lt, Bool, true, false, cond, List, [], ◌∷◌, map, Option}
use Rattle.std.proofs.Common.{Some, None, ⊎_elim, refl, sym, subst, ◌∙◌, arith}
use Rattle.std.specs.Prelude.{filter_map, find, slice_get, All}
use Rattle.std.proofs.lemmas.Bool.{cases_lt, lt-ltb, or_left, or_right, true≢false}
use Rattle.std.proofs.lemmas.List.Elements.{All-append, All-cons, All-nil}
use Rattle.std.proofs.lemmas.Option.{same_Some}
use Rattle.pv_header.specs.declared.extent_list.Extent.{Extent}
use Rattle.pv_header.specs.Areas.{is_misshapen}
use Rattle.mda_header.specs.declared.entry.HeaderEntry.{HeaderEntry}
use Rattle.mda_header.specs.declared.entry.HeaderEntry.TheVariants.{Ignored, Nothing, Text, Refused}
use Rattle.mda_header.specs.declared.header.Locn.{Locn}
use Rattle.mda_ring.specs.declared.area.Area.{Area}
use Rattle.disk_contents.specs.declared.contents.AreaFound.{AreaFound}
use Rattle.disk_contents.specs.declared.contents.PvFound.{PvFound}
use Rattle.disk_contents.specs.declared.contents.PvFound.TheVariants.{NoLabel, NoHeader, Whole}
use Rattle.disk_contents.specs.Standing.{area_on}
use Rattle.list_laws.proofs.KeptLists.{all_kept}
use Rattle.vg_found.specs.declared.disk.Disk.{Disk}
use Rattle.vg_found.specs.Disks.{areas_on, held_area, held_areas, held_by}
use Rattle.vg_found.specs.Shape.{ContentsCanStand, IsDisk}
use Rattle.group_plan.specs.State.{IsState}
use Rattle.group_plan.specs.declared.state.GroupState.{GroupState}

-- it begins at sector 4 or behind it
abbrev pub IsFar : Area × Option Locn → Type 0
IsFar area = 2048 ≤ area.0.start

-- an area that a header may list does
shaped_far : (area : Extent) → is_misshapen area ≡ false → 2048 ≤ area.offset
shaped_far area none =
    ⊎_elim
    (λ (near : area.offset < 2048).
    let odd : Bool = not (area.offset % 512 == 0) || not (area.size % 512 == 0) in
    absurd (true≢false (sym (or_left (odd || nat_lt area.offset 2048) (nat_lt area.size 1536)
    (or_right odd (nat_lt area.offset 2048) (lt-ltb area.offset 2048 near))) ∙ none)))
    (λ (far : 2048 ≤ area.offset). far)
    (cases_lt area.offset 2048)

abbrev IsFarFound : AreaFound → Type 0
IsFarFound found = 2048 ≤ found.area.offset

founds_far : (founds : List AreaFound) → find is_misshapen (map (λ (found : AreaFound). found.area) founds) ≡ None → All IsFarFound founds
founds_far [] none = All-nil IsFarFound
founds_far (found ∷ founds) none = step (λ later. founds_far founds later) (is_misshapen found.area) refl none
  where
    step : (find is_misshapen (map (λ (f : AreaFound). f.area) founds) ≡ None → All IsFarFound founds)
        → (b : Bool) → is_misshapen found.area ≡ b
        → cond b (Some found.area) (find is_misshapen (map (λ (f : AreaFound). f.area) founds)) ≡ None → All IsFarFound (found ∷ founds)
    step rest true is none' = cc
    step rest false is none' = All-cons IsFarFound found founds (shaped_far found.area is) (rest none')

far_kept : (area : Area) (entry : HeaderEntry) (kept : Area × Option Locn) → 2048 ≤ area.start → held_by area entry ≡ Some kept → IsFar kept
far_kept area Ignored kept far is = absurd cc
far_kept area Nothing kept far is = subst IsFar (same_Some (area, None) kept is) far
far_kept area (Text locn) kept far is = subst IsFar (same_Some (area, Some locn) kept is) far
far_kept area (Refused refusal) kept far is = subst IsFar (same_Some (area, None) kept is) far

far_on : (pv sectors : ℕ) (contents : Option PvFound) → ContentsCanStand pv sectors contents
    → All IsFar (filter_map (held_area pv) (areas_on contents))
far_on pv sectors None stands = All-nil IsFar
far_on pv sectors (Some (NoLabel refusal)) stands = All-nil IsFar
far_on pv sectors (Some (NoHeader label refusal)) stands = All-nil IsFar
far_on pv sectors (Some (Whole label header areas)) stands =
    all_kept IsFar IsFarFound (held_area pv) (λ found kept far is. far_kept (area_on pv found.area) found.entry kept far is) areas
    (founds_far areas (subst (λ (l : List Extent). find is_misshapen l ≡ None) (sym stands.2) stands.1.1.areas.well_shaped))

far_from : (pv : ℕ) (disks : List Disk) → ((k : ℕ) (disk : Disk) → slice_get disks k ≡ Some disk → IsDisk (pv + k) disk)
    → All IsFar (held_areas pv disks)
far_from pv [] each = All-nil IsFar
far_from pv (disk ∷ disks) each =
    let here : IsDisk pv disk = subst (λ (n : ℕ). IsDisk n disk) (omega arith) (each 0 disk refl) in
    All-append IsFar (filter_map (held_area pv) (areas_on disk.contents)) (held_areas (pv + 1) disks)
    (far_on pv disk.sectors disk.contents here.contents)
    (far_from (pv + 1) disks (λ k d is. subst (λ (n : ℕ). IsDisk n d) (omega arith) (each (suc k) d is)))

pub held_far : (disks : List Disk) → ((pv : ℕ) (disk : Disk) → slice_get disks pv ≡ Some disk → IsDisk pv disk)
    → All IsFar (held_areas 0 disks)
held_far disks each = far_from 0 disks (λ k disk there. subst (λ (n : ℕ). IsDisk n disk) (omega arith) (each k disk there))

pub areas_far : (state : GroupState) → IsState state → All IsFar state.areas
areas_far state is = subst (All IsFar) (sym is.areas) (held_far state.disks is.disks)
