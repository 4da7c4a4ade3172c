-- Why a request is refused.
use Rattle.std.specs.Prelude.{◌≡◌, ℕ, Bool, not, ◌&&◌, nat_eq, nat_lt, if◌then◌else◌, List, length, filter, find, Option, None, Some}
use Rattle.std.specs.Prelude.{option_map}
use Rattle.std.specs.FinSet as set
use Rattle.std.specs.Option.{option_or}
use Rattle.meta_model.specs.declared.group.Group.{Group}
use Rattle.extent_alloc.specs.Few.{has_room}
use Rattle.extent_alloc.specs.Free.{free_on, longest, total}
use Rattle.extent_alloc.specs.Usable.{is_allocatable, pv_numbers, usable_pvs}
use Rattle.extent_alloc.specs.declared.part.PvRun.{PvRun}
use Rattle.extent_alloc.specs.declared.refusal.AllocRefusal.{AllocRefusal}
use Rattle.extent_alloc.specs.declared.refusal.AllocRefusal.TheVariants.{NoMemory, NoRun, NoSpace, NotAllocatable, TooFewPvs}
use Rattle.extent_alloc.specs.declared.request.Request.{Request}

-- whether the request names the volume, and it isn't ALLOCATABLE
abbrev pub is_barred : Group → Request → ℕ → Bool
is_barred group want pv = set.contains want.on pv && not (is_allocatable group pv)

-- the first volume that the request names and that isn't ALLOCATABLE
abbrev pub first_barred : Group → Request → Option ℕ
first_barred group want = find (is_barred group want) (pv_numbers group)

-- why one leg is refused, where these runs are free
abbrev pub one_leg_refusal : Request → List PvRun → Option AllocRefusal
one_leg_refusal want runs =
    if nat_lt (total runs) want.extents then Some (NoSpace want.extents (total runs))
    else if want.contiguous && nat_lt (longest runs) want.extents then Some (NoRun want.extents (longest runs))
    else None

-- why several legs are refused, where these volumes have room for one each
abbrev pub more_legs_refusal : Request → List ℕ → Option AllocRefusal
more_legs_refusal want fit = if nat_lt (length fit) want.legs then Some (TooFewPvs want.legs (length fit)) else None

-- why the request is refused, where these volumes may be used
abbrev pub room_refusal : Group → Request → List ℕ → Option AllocRefusal
room_refusal group want pvs =
    if nat_eq want.legs 1 then one_leg_refusal want (free_on group pvs) else more_legs_refusal want (filter (has_room group want) pvs)

-- the first reason for which the request is refused
abbrev pub refusal_of : Group → Request → Option AllocRefusal
refusal_of group want =
    option_or (option_map (λ pv. NotAllocatable pv) (first_barred group want)) (room_refusal group want (usable_pvs group want))

-- memory was wanting, or this is the reason
abbrev pub IsReason : Option AllocRefusal → AllocRefusal → Type 0
IsReason reason NoMemory = Unit {0}
IsReason reason refusal = reason ≡ Some refusal

-- why nothing is given
abbrev pub IsRefused : Group → Request → AllocRefusal → Type 0
IsRefused group want refusal = IsReason (refusal_of group want) refusal
