-- How a line is judged: by refusals in their order, each of which holds or doesn't.
use Rattle.std.specs.Prelude.{◌≡◌, ℕ, ◌+◌, ◌-◌, ◌^◌, ◌&&◌, ◌==◌, Bool, not, nat_lt, if◌then◌else◌, List, [], ◌∷◌, length, min, find, Option}
use Rattle.std.specs.Prelude.{None, Some, is_none, option_map, Result, MatchResult}
use Rattle.std.specs.Option.{option_or}
use Rattle.std.specs.List.{list_any}
use Rattle.std.specs.FinSet as set
use Rattle.std.specs.Ordering.{nat_cmp}
use Rattle.line_answers.specs.declared.op_refusal.OpRefusal.{OpRefusal}
use Rattle.line_answers.specs.declared.op_refusal.OpRefusal.TheVariants.{NoArea, PvUsed, TooLarge, TooMany, TooSmall, UnknownPv}
use Rattle.mda_header.specs.declared.header.Locn.{Locn}
use Rattle.mda_ring.specs.declared.area.Area.{Area}
use Rattle.mda_ring.specs.Ring.{need, room}
use Rattle.conf_text.specs.Printed.{printed}
use Rattle.meta_model.specs.declared.group.Group.{Group}
use Rattle.meta_print.specs.Layout.{tree_of}
use Rattle.vg_found.specs.Disks.{has_header_id}
use Rattle.vg_found.specs.declared.disk.Disk.{Disk}
use Rattle.group_plan.specs.Added.{added_named, data_end, data_start}
use Rattle.group_plan.specs.declared.added.AddedPv.{AddedPv}
use Rattle.group_plan.specs.declared.refusal.PlanRefusal.{PlanRefusal}
use Rattle.group_plan.specs.declared.refusal.PlanRefusal.TheVariants.{NoMemory, Refused}
use Rattle.group_plan.specs.declared.state.GroupState.{GroupState}

-- the first refusal of these rows that holds
abbrev pub first_refusal : List (Option OpRefusal) → Option OpRefusal
first_refusal [] = None
first_refusal (row ∷ rows) = option_or row (first_refusal rows)

-- it is what the row says; want of memory says nothing
abbrev pub IsRefusedBy : Option OpRefusal → PlanRefusal → Type 0
IsRefusedBy row NoMemory = Unit {0}
IsRefusedBy row (Refused refusal) = row ≡ Some refusal

-- the row's refusal is answered exactly where it holds
abbrev pub Judges : {A : Type 0} → Result A PlanRefusal → Option OpRefusal → Type 0
Judges result row = MatchResult result (λ _. row ≡ None) (IsRefusedBy row)

-- the refusal, where the test holds
abbrev pub refused_if : Bool → OpRefusal → Option OpRefusal
refused_if holds refusal = if holds then Some refusal else None

-- the set with these numbers too
abbrev pub with_all : set.FinSet nat_cmp → List ℕ → set.FinSet nat_cmp
with_all taken [] = taken
with_all taken (number ∷ numbers) = with_all (set.insert taken number) numbers

-- the set of these numbers
abbrev pub set_of : List ℕ → set.FinSet nat_cmp
set_of numbers = with_all set.empty numbers

-- ---- names

-- no disk has the name, or it holds no physical volume
abbrev pub is_unknown : GroupState → List ℕ → Bool
is_unknown state name = is_none (added_named state name)

-- the first name of which that holds
unfoldable pub unknown_row : GroupState → List (List ℕ) → Option OpRefusal
unknown_row state names = option_map (λ name. UnknownPv name) (find (is_unknown state) names)

-- the first that is on one of these disks, or on one with an earlier one
abbrev pub first_used : set.FinSet nat_cmp → List AddedPv → Option AddedPv
first_used taken [] = None
first_used taken (added ∷ more) = if set.contains taken added.disk then Some added else first_used (set.insert taken added.disk) more

-- it is used, where these disks are listed
unfoldable pub used_row : List ℕ → List AddedPv → Option OpRefusal
used_row listed all = option_map (λ (added : AddedPv). PvUsed added.name) (first_used (set_of listed) all)

-- ---- areas and sizes

-- the area lies on one of these disks
abbrev pub lies_on : set.FinSet nat_cmp → Area × Option Locn → Bool
lies_on disks area = set.contains disks area.0.pv

-- none of the areas does
unfoldable pub area_row : List (Area × Option Locn) → List ℕ → Option OpRefusal
area_row areas disks = refused_if (not (list_any (lies_on (set_of disks)) areas)) NoArea

-- no extent fits between its data's start and its data's end
abbrev pub is_small : ℕ → AddedPv → Bool
is_small extent_size added = nat_lt (data_end added) (data_start added + extent_size)

-- how many sectors its disk needs for one extent
abbrev pub need_of : ℕ → AddedPv → ℕ
need_of extent_size added = data_start added + extent_size + (added.sectors - data_end added)

-- the first of which that holds
unfoldable pub small_row : ℕ → List AddedPv → Option OpRefusal
small_row extent_size all =
    option_map (λ (added : AddedPv). TooSmall added.sectors (need_of extent_size added)) (find (is_small extent_size) all)

-- so many volumes are more than any group may have, or than its own limit, where that isn't 0
unfoldable pub many_row : ℕ → ℕ → ℕ → Option OpRefusal
many_row most limit count =
    if nat_lt most count then Some (TooMany count most)
    else refused_if (not (limit == 0) && nat_lt limit count) (TooMany count limit)

-- ---- ids

-- the id stands in a disk's header
abbrev pub stands_on_disk : List ℕ → List Disk → Bool
stands_on_disk id disks = list_any (has_header_id id) disks

-- ---- the text

-- the stored size of the group's text at this time, with its final zero byte
unfoldable pub stored_size : Group → ℕ → ℕ
stored_size group now = min (length (printed (tree_of group now))) (2 ^ 62) + 1

-- a text of this size has no room beside the committed one
abbrev pub is_full : ℕ → Area × Option Locn → Bool
is_full size area = nat_lt (room area.0.size area.1) (need size)

-- the first of the areas on these disks of which that holds
unfoldable pub large_row : List (Area × Option Locn) → List ℕ → ℕ → Option OpRefusal
large_row areas disks size =
    option_map (λ (area : Area × Option Locn). TooLarge (need size) (room area.0.size area.1))
    (find (λ area. lies_on (set_of disks) area && is_full size area) areas)
