-- The parts that a line is given, and how it is planned with them.
use Rattle.std.proofs.Common.{◌≡◌, ◌≤◌, ◌<◌, ℕ, ◌+◌, ◌^◌, List, [], ◌∷◌, ◌++◌, length, Option, Some, None, Result, Ok, Err, inl, inr, refl}
use Rattle.std.proofs.Common.{arith, sym, subst}
use Rattle.std.specs.Prelude.{All, IfOk}
use Rattle.std.proofs.lemmas.Bool.{cases_lt}
use Rattle.std.proofs.lemmas.List.Elements.{All-head, All-tail}
use Rattle.std.proofs.lemmas.List.Sums.{sum_by-cons}
use Rattle.line_answers.specs.declared.op_refusal.OpRefusal.{OpRefusal}
use Rattle.meta_model.specs.declared.group.Group.{Group}
use Rattle.meta_model.specs.declared.segment.SegKind.{SegKind}
use Rattle.meta_model.specs.declared.segment.SegKind.TheVariants.{Mirror, Striped}
use Rattle.meta_model.specs.declared.segment.Segment.{Segment}
use Rattle.volume_rules.specs.Rules.{IsAccepted}
use Rattle.extent_alloc.specs.Few.{AreFew}
use Rattle.extent_alloc.specs.Giving.{IsGiven, IsRequest}
use Rattle.extent_alloc.specs.declared.part.Part.{Part}
use Rattle.extent_alloc.specs.declared.request.Request.{Request}
use Rattle.vg_found.specs.declared.disk.Disk.{Disk}
use Rattle.group_edits.proofs.FewSectors.{LieOnDisks}
use Rattle.group_edits.proofs.GivenRules.{extents_least}
use Rattle.group_edits.proofs.GivenRuns.{given_may}
use Rattle.group_edits.proofs.LongerRules.{below_sectors}
use Rattle.group_edits.proofs.OnDisks.{new_sectors}
use Rattle.group_edits.specs.GivenSegments.{MayBeLaid, MayHaveLegs, extents_by, extents_in, kind_on, legs_in, segment_of, segments_of}
use Rattle.group_plan.proofs.Chained.{front_passes, plans_back, refused_front}
use Rattle.group_plan.specs.Judging.{IsRefusedBy, first_refusal}
use Rattle.group_plan.specs.Plans.{Plans}
use Rattle.group_plan.specs.declared.refusal.PlanRefusal.{PlanRefusal}
use Rattle.group_plan.specs.declared.refusal.PlanRefusal.TheVariants.{NoMemory, Refused}
use Rattle.group_plan.specs.declared.state.Change.{Change}
use Rattle.group_plan.specs.Zeroing.{AreWithin}
use Rattle.lv_plans.specs.Allocating.{Asking, PlansWith}

-- ---- how many they are

module _ (kind : SegKind) (count : ℕ) (some : 1 ≤ count) where
  abbrev IsGood : Part → Type 0
  IsGood part = (1 ≤ part.extents) × (length part.runs ≡ count)

  -- each part has an extent
  parts_least : (start : ℕ) (parts : List Part) → All IsGood parts → length parts ≤ extents_in (segments_of kind start parts)
  parts_least start [] good = omega arith
  parts_least start (part ∷ parts) good =
      let n : ℕ = extents_by part.extents (kind_on (legs_in part) kind) in
      let first = All-head IsGood part parts good in
      let extents = first.0 in
      let runs = first.1 in
      let least = extents_least kind part (omega (arith, runs, some)) in
      let later = parts_least (start + n) parts (All-tail IsGood part parts good) in
      let sum = sum_by-cons (λ (s : Segment). s.count) (segment_of kind start part) (segments_of kind (start + n) parts) in
      omega (arith, extents, least, later, sum)

few_by : (group : Group) (kind : SegKind) (count : ℕ) (given : List Part) → IsAccepted group → LieOnDisks group → 1 ≤ count
    → MayHaveLegs group.extent_size count kind → MayBeLaid group count given → length given < 2 ^ 48
few_by group kind count given accepted disks some legs laid =
    let least = parts_least kind count some 0 given laid.legs in
    let below =
    below_sectors group accepted (extents_in (segments_of kind 0 given))
    (new_sectors group kind count given accepted disks legs laid) in
    omega (arith, least, below)

-- parts that are given are few
pub few_parts : (group : Group) (want : Request) (given : List Part) → IsAccepted group → LieOnDisks group → IsRequest want
    → IsGiven group want given → length given < 2 ^ 48
few_parts group want given accepted disks request is =
    let least = request.legs.0 in
    let most = request.legs.1 in
    elim (cases_lt 1 want.legs) [
      | inl more ↦ few_by group (Mirror 8 None []) want.legs given accepted disks least
          (omega arith, omega (arith, more), most, (3, refl), omega arith) (given_may group want given is)
      | inr one ↦ few_by group (Striped 0 []) want.legs given accepted disks least
          (omega arith, least, most, λ more. absurd (omega (arith, one, more))) (given_may group want given is)
    ]

-- ---- how a line is planned with them

-- where a row up to the allocator's refuses
pub refused_with : (asking : Asking) (rows : List Part → List (Option OpRefusal)) (wanted : List Part → Change) (e : PlanRefusal)
    → IsRefusedBy (first_refusal asking.rows) e → IsRefusedBy (first_refusal (rows [])) e
    → PlansWith (Some asking) rows wanted (Err e)
refused_with asking rows wanted NoMemory early is = tt
refused_with asking rows wanted (Refused refusal) early is = ([], (λ none. absurd (other (first_refusal asking.rows) early none)), is)
  where
    other : (o : Option OpRefusal) → o ≡ Some refusal → o ≡ None → ⊥
    other None some none = absurd cc
    other (Some x) some none = absurd cc

-- so where extents may be asked for
pub refused_asking : (asking : Option Asking) (rows : List Part → List (Option OpRefusal)) (wanted : List Part → Change) (e : PlanRefusal)
    → ((a : Asking) → asking ≡ Some a → IsRefusedBy (first_refusal a.rows) e)
    → IsRefusedBy (first_refusal (rows [])) e → PlansWith asking rows wanted (Err e)
refused_asking None rows wanted e early is = is
refused_asking (Some asking) rows wanted e early is = refused_with asking rows wanted e (early asking refl) is

module _ (group : Group) (want : Request) (rows : List (Option OpRefusal)) (back : List Part → List (Option OpRefusal))
    (wanted : List Part → Change) where
  abbrev asks : List (Option OpRefusal) → Option Asking
  asks rows = Some (record { group = group; want = want; rows = rows })

  pub refused_early : (e : PlanRefusal) → IsRefusedBy (first_refusal rows) e
      → PlansWith (asks rows) (λ given. rows ++ back given) wanted (Err e)
  refused_early e is =
      refused_with (record { group = group; want = want; rows = rows }) (λ given. rows ++ back given) wanted e is
      (refused_front rows (back []) e is)

  -- where none does, with what is given
  pub planned_given : (given : List Part) → first_refusal rows ≡ None → IsGiven group want given → AreFew group want given
      → (result : Result Change PlanRefusal) → Plans (back given) (wanted given) result
      → PlansWith (asks rows) (λ given. rows ++ back given) wanted result
  planned_given given none is few (Ok change) plans =
      (given, (λ passes. (is, few)), plans_back rows (back given) (wanted given) (Ok change) none plans)
  planned_given given none is few (Err NoMemory) plans = tt
  planned_given given none is few (Err (Refused refusal)) plans =
      (given, (λ passes. (is, few)), plans_back rows (back given) (wanted given) (Err (Refused refusal)) none plans)

  -- behind rows that don't refuse
  pub planned_back : (front : List (Option OpRefusal)) → first_refusal front ≡ None → (result : Result Change PlanRefusal)
      → PlansWith (asks rows) (λ given. rows ++ back given) wanted result
      → PlansWith (asks (front ++ rows)) (λ given. front ++ (rows ++ back given)) wanted result
  planned_back front none (Ok change) plans = (
    plans.0,
    (λ passes. plans.1 (front_passes front rows passes)),
    plans_back front (rows ++ back plans.0) (wanted plans.0) (Ok change) none plans.2,
  )
  planned_back front none (Err NoMemory) plans = tt
  planned_back front none (Err (Refused refusal)) plans = (
    plans.0,
    (λ passes. plans.1 (front_passes front rows passes)),
    plans_back front (rows ++ back plans.0) (wanted plans.0) (Err (Refused refusal)) none plans.2,
  )

-- of a change whose zeros lie in the disks
pub plans_within : (disks : List Disk) (rows : List (Option OpRefusal)) (wanted : Change) (result : Result Change PlanRefusal)
    → Plans rows wanted result → AreWithin disks wanted.zero → IfOk result (λ change. AreWithin disks change.zero)
plans_within disks rows wanted (Ok change) plans within = subst (λ (c : Change). AreWithin disks c.zero) (sym plans.1) within
plans_within disks rows wanted (Err refusal) plans within = tt
