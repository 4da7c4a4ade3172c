-- Requests of small groups, judged by computing.
use Rattle.std.proofs.Common.{◌≡◌, ℕ, Bool, true, false, List, [], ◌∷◌, map, Some, None, refl}
use Rattle.std.specs.FinSet as set
use Rattle.std.specs.Ordering.{nat_cmp}
use Rattle.meta_model.specs.declared.group.Group.{Group}
use Rattle.meta_model.specs.declared.pv.Pv.{Pv}
use Rattle.meta_model.specs.declared.lv.Lv.{Lv}
use Rattle.meta_model.specs.declared.segment.Segment.{Segment}
use Rattle.meta_model.specs.declared.segment.SegKind.TheVariants.{Striped, Mirror}
use Rattle.meta_model.specs.declared.segment.Leg.{Leg}
use Rattle.meta_model.specs.declared.segment.On.TheVariants as on
use Rattle.extent_map.specs.declared.extent_run.ExtentRun.{ExtentRun}
use Rattle.extent_alloc.specs.Few.{first_fit, leg_ends, parts_on}
use Rattle.extent_alloc.specs.Free.{free_in, free_on}
use Rattle.extent_alloc.specs.Giving.{covered, extents_in}
use Rattle.extent_alloc.specs.Laying.{laid_on, whole_part}
use Rattle.extent_alloc.specs.Refusals.{room_refusal}
use Rattle.extent_alloc.specs.Usable.{is_missing, is_source, usable_pvs}
use Rattle.extent_alloc.specs.declared.part.Part.{Part}
use Rattle.extent_alloc.specs.declared.part.PartRun.{PartRun}
use Rattle.extent_alloc.specs.declared.part.PvRun.{PvRun}
use Rattle.extent_alloc.specs.declared.refusal.AllocRefusal.TheVariants.{NoRun, NoSpace, TooFewPvs}
use Rattle.extent_alloc.specs.declared.request.Request.{Request}

-- a physical volume of so many extents
abbrev pv : ℕ → ℕ → Bool → Bool → List ℕ × Pv
pv id extents allocatable missing = (
  id ∷ [],
  record {
    id = id ∷ [];
    device = [];
    allocatable = allocatable;
    missing = missing;
    dev_size = 0;
    pe_start = 2048;
    pe_count = extents;
  },
)

-- a logical volume of one segment
abbrev lv : ℕ → Bool → Segment → List ℕ × Lv
lv id pvmove segment = (
  id ∷ [],
  record {
    id = id ∷ [];
    status = record { read = true; write = true; visible = true; fixed_minor = false; pvmove = pvmove; locked = pvmove; notsynced = false };
    created = 0;
    host = [];
    segments = segment ∷ [];
  },
)

abbrev leg : ℕ → ℕ → Leg
leg number first = record { on = on.Pv number; first = first }

abbrev linear : ℕ → Leg → Segment
linear count at = record { start = 0; count = count; kind = Striped 0 (at ∷ []) }

-- Five volumes of ten extents: of the first two some are used, the third isn't ALLOCATABLE, the fourth is MISSING, and the
-- fifth is the source of a move to the second.
abbrev group : Group
group = record {
  name = 9 ∷ [];
  id = 9 ∷ [];
  seqno = 1;
  status = record { resizeable = true; read = true; write = true };
  extent_size = 64;
  max_lv = 0;
  max_pv = 0;
  copies = 0;
  pvs = pv 1 10 true false ∷ pv 2 10 true false ∷ pv 3 10 false false ∷ pv 4 10 true true ∷ pv 5 10 true false ∷ [];
  lvs =
      lv 6 false (linear 2 (leg 0 2)) ∷ lv 7 false (record { start = 0; count = 2; kind = Striped 8 (leg 0 9 ∷ leg 1 4 ∷ []) })
      ∷ lv 8 true (record { start = 0; count = 1; kind = Mirror 32 (Some 0) (leg 4 0 ∷ leg 1 9 ∷ []) }) ∷ [];
}

-- a request for so many extents on so many legs
abbrev want : ℕ → ℕ → Bool → Request
want extents legs contiguous = record { extents = extents; legs = legs; contiguous = contiguous; on = set.empty; avoid = set.empty }

abbrev run : ℕ → ℕ → ExtentRun
run first count = record { first = first; count = count }

abbrev pv_run : ℕ → ℕ → ℕ → PvRun
pv_run number first count = record { pv = number; first = first; count = count }

abbrev begin : ℕ → ℕ → PartRun
begin number first = record { pv = number; first = first }

abbrev part : ℕ → List PartRun → Part
part extents runs = record { extents = extents; runs = runs }

row_free : free_in group 1 ≡ run 0 4 ∷ run 5 4 ∷ []
row_free = refl

row_source : map (is_source group) (0 ∷ 1 ∷ 4 ∷ []) ≡ false ∷ false ∷ true ∷ []
row_source = refl

-- the fourth volume is MISSING, and the sets name none
row_missing : map (is_missing group) (0 ∷ 3 ∷ []) ≡ false ∷ true ∷ []
row_missing = refl

row_usable : usable_pvs group (want 1 1 false) ≡ 0 ∷ 1 ∷ []
row_usable = simp (set.len-empty nat_cmp, set.contains-empty nat_cmp) refl

row_runs : free_on group (0 ∷ 1 ∷ []) ≡ pv_run 0 0 2 ∷ pv_run 0 4 5 ∷ pv_run 1 0 4 ∷ pv_run 1 5 4 ∷ []
row_runs = refl

row_no_space : room_refusal group (want 16 1 true) (0 ∷ 1 ∷ []) ≡ Some (NoSpace 16 15)
row_no_space = refl

row_no_run : room_refusal group (want 6 1 true) (0 ∷ 1 ∷ []) ≡ Some (NoRun 6 5)
row_no_run = refl

row_enough : room_refusal group (want 15 1 false) (0 ∷ 1 ∷ []) ≡ None
row_enough = refl

-- seven extents are free on one volume and eight on the other
row_two_fit : room_refusal group (want 7 2 false) (0 ∷ 1 ∷ []) ≡ None
row_two_fit = refl

row_one_fits : room_refusal group (want 8 2 false) (0 ∷ 1 ∷ []) ≡ Some (TooFewPvs 2 1)
row_one_fits = refl

row_runs_fit : room_refusal group (want 5 2 true) (0 ∷ 1 ∷ []) ≡ Some (TooFewPvs 2 1)
row_runs_fit = refl

-- a leg of seven extents goes on at 5 on the first volume, and at 4 on the second: three parts
row_ends : leg_ends group (want 7 2 false) (0 ∷ 1 ∷ []) ≡ 5 ∷ 7 ∷ 4 ∷ 7 ∷ []
row_ends = refl

row_parts : parts_on group (want 7 2 false) (0 ∷ 1 ∷ []) ≡ 3
row_parts = refl

row_one_part : parts_on group (want 4 2 false) (0 ∷ 1 ∷ []) ≡ 1
row_one_part = refl

row_first_fit : first_fit group (want 5 2 false) (0 ∷ 3 ∷ 1 ∷ []) ≡ 0 ∷ 3 ∷ []
row_first_fit = refl

-- these parts, two legs on as many volumes
abbrev parts : List Part
parts = part 4 (begin 0 4 ∷ begin 1 0 ∷ []) ∷ part 1 (begin 0 8 ∷ begin 1 5 ∷ []) ∷ part 2 (begin 0 0 ∷ begin 1 6 ∷ []) ∷ []

row_covered : covered parts ≡ pv_run 0 4 4 ∷ pv_run 1 0 4 ∷ pv_run 0 8 1 ∷ pv_run 1 5 1 ∷ pv_run 0 0 2 ∷ pv_run 1 6 2 ∷ []
row_covered = refl

row_extents : extents_in parts ≡ 7
row_extents = refl

-- are what is cut where each leg takes the longest runs of its volume first
row_cut : laid_on (laid_on (whole_part 7) (pv_run 0 4 5 ∷ pv_run 0 0 2 ∷ [])) (pv_run 1 0 4 ∷ pv_run 1 5 4 ∷ []) ≡ parts
row_cut = refl
