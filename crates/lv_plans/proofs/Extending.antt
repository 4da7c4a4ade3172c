-- What the rows of an lvextend say of its volume, and what it may be given.
use Rattle.std.proofs.Common.{◌≡◌, ◌≤◌, ◌<◌, ℕ, zero, suc, ◌+◌, ◌-◌, ◌*◌, false, List, [], ◌∷◌, ◌++◌, length, Option, Some, None}
use Rattle.std.proofs.Common.{Result, Err, inl, inr, refl, sym, ap, subst, ◌∙◌, arith}
use Rattle.std.specs.Prelude.{nat_le, nat_lt, option_map, slice_get, All, IsSomeAnd}
use Rattle.std.specs.FinSet as set
use Rattle.std.specs.Option.{option_map_or}
use Rattle.std.specs.Ordering.{nat_cmp}
use Rattle.std.proofs.lemmas.Bool.{cases_lt}
use Rattle.std.proofs.lemmas.Bool.Decides.{nat_tests}
use Rattle.std.proofs.lemmas.Grind.{div_ceil_times}
use Rattle.std.proofs.lemmas.List.Elements.{All-contains, All-head, All-tail}
use Rattle.std.proofs.lemmas.Option.{same_Some, slice_get_cases}
use Rattle.command_table.specs.declared.amount.Growth.{Growth}
use Rattle.command_table.specs.declared.amount.Growth.TheVariants.{By, To}
use Rattle.command_table.specs.declared.command.Path.{Path}
use Rattle.line_answers.specs.declared.op_refusal.OpRefusal.{OpRefusal}
use Rattle.line_answers.specs.declared.op_refusal.OpRefusal.TheVariants.{NotLonger, TooMany, UnknownVolume}
use Rattle.meta_model.specs.Standing.{HasTree}
use Rattle.meta_model.specs.declared.group.Group.{Group}
use Rattle.meta_model.specs.declared.lv.Lv.{Lv}
use Rattle.meta_model.specs.declared.segment.SegKind.{SegKind}
use Rattle.meta_model.specs.declared.segment.SegKind.TheVariants.{Mirror, Striped}
use Rattle.meta_model.specs.declared.segment.Segment.{Segment}
use Rattle.volume_rules.specs.Extents.{extents_of}
use Rattle.volume_rules.specs.Rules.{IsAccepted}
use Rattle.volume_rules.specs.declared.rule.Rule.TheVariants.{Numbers, Segments}
use Rattle.extent_alloc.specs.Few.{AreFew}
use Rattle.extent_alloc.specs.Giving.{IsGiven, IsRequest}
use Rattle.extent_alloc.specs.declared.part.Part.{Part}
use Rattle.extent_alloc.specs.declared.request.Request.{Request}
use Rattle.group_edits.proofs.GivenRuns.{given_may}
use Rattle.group_edits.proofs.OnDisks.{lie_on_pvs, may_grow}
use Rattle.group_edits.proofs.OneNamed.{IsVisibleAt, visible_at}
use Rattle.group_edits.proofs.Selections.{contains_at}
use Rattle.group_edits.specs.GivenSegments.{segments_in}
use Rattle.group_edits.specs.LongerVolume.{MayGrow, last_kind, longer_volume}
use Rattle.group_edits.specs.ShortenedVolume.{HasFewLegs, kept_of, parts_of}
use Rattle.group_edits.specs.Visible.{visible_named}
use Rattle.group_plan.proofs.Chained.{none_both, none_row, one_row, plans_back, refused_back, refused_front}
use Rattle.group_plan.proofs.PlacedGroup.{lie_on_disks}
use Rattle.group_plan.proofs.Rows.{test_fails}
use Rattle.group_plan.specs.Committing.{length_row, named_rows, version_change}
use Rattle.group_plan.specs.Judging.{IsRefusedBy, first_refusal}
use Rattle.group_plan.specs.Members.{pvs_named}
use Rattle.group_plan.specs.Plans.{Plans}
use Rattle.group_plan.specs.State.{IsState}
use Rattle.group_plan.specs.declared.refusal.PlanRefusal.{PlanRefusal}
use Rattle.group_plan.specs.declared.state.Change.{Change}
use Rattle.group_plan.specs.declared.state.GroupState.{GroupState}
use Rattle.lv_plans.proofs.GivenParts.{planned_back, planned_given, refused_asking, refused_early}
use Rattle.lv_plans.proofs.Reducing.{has_few_legs, keeps_no_more, not_layered, some_extents}
use Rattle.lv_plans.specs.Allocating.{Asking, segments_row, space_row, PlansWith}
use Rattle.lv_plans.specs.Lvextend.{extend_asks, extend_in_rows, extend_lv_rows, growth_rows, lengthen_rows, longer_row, more_for, more_on}
use Rattle.lv_plans.specs.Lvextend.{share_of, volume_asks}
use Rattle.lv_plans.specs.Sizes.{IsGrowth, extents_for, growth_for, kept_by}
use Rattle.lv_plans.specs.Volumes.{layered_row, rows_on}

-- ---- the rows

pub few_segments : (group : Group) (more : ℕ) → segments_row group more ≡ None → segments_in group + more ≤ 16384
unfolding segments_row
few_segments group more none =
    let fails : nat_lt 16384 (segments_in group + more) ≡ false =
    test_fails (nat_lt 16384 (segments_in group + more)) (TooMany (segments_in group + more) 16384) none in
    grind (arith, nat_tests, fails)

-- the volume grows by an extent or more, where it keeps no more than it has of what is no more
some_growth : (size : ℕ) (lv : Lv) (growth : Growth) → 1 ≤ size
    → ((said : ℕ) → said ≤ extents_of lv → kept_of lv.segments said ≤ extents_of lv) → IsGrowth growth → longer_row size lv growth ≡ None
    → 1 ≤ growth_for size (extents_of lv) growth
some_growth size lv (To amount) some within is none =
    more (extents_for size amount) (extents_of lv) (kept_by size amount lv) (within (extents_for size amount))
    (test_fails (nat_le (kept_by size amount lv) (extents_of lv)) (NotLonger (kept_by size amount lv) (extents_of lv)) none)
  where
    more : (said has kept : ℕ) → (said ≤ has → kept ≤ has) → nat_le kept has ≡ false → 1 ≤ said - has
    more said has kept within fails =
        elim (cases_lt has said) [
          | inl less ↦ omega (arith, less)
          | inr no_more ↦ let few : kept ≤ has =
              within no_more in let over : has < kept = grind (arith, nat_tests, fails) in absurd (omega (arith, few, over))
        ]
some_growth size lv (By amount) some within is none = some_extents size amount some is

some_share : (count : ℕ) (kind : SegKind) → 1 ≤ count → HasFewLegs kind → 1 ≤ share_of count kind
some_share count (Striped stripe legs) some few = by (parts_of count (length legs)) (div_ceil_times count (length legs) few.0).0 where
  by : (parts : ℕ) → count ≤ parts * length legs → 1 ≤ parts
  by zero bound = absurd (omega (arith, bound, some))
  by (suc parts) bound = omega arith
some_share count (Mirror region moved legs) some few = some

-- ---- its last segment

last_few : (segments : List Segment) → 1 ≤ length segments → All (λ (s : Segment). HasFewLegs s.kind) segments
    → HasFewLegs (last_kind segments)
last_few [] some all = absurd (omega (arith, some))
last_few (segment ∷ []) some all = All-head (λ (s : Segment). HasFewLegs s.kind) segment [] all
last_few (segment ∷ next ∷ segments) some all =
    last_few (next ∷ segments) (omega arith) (All-tail (λ (s : Segment). HasFewLegs s.kind) segment (next ∷ segments) all)

kind_at : (segments : List Segment) (k : ℕ) (last : Segment) → k + 1 ≡ length segments → slice_get segments k ≡ Some last
    → last_kind segments ≡ last.kind
kind_at [] k last is at = absurd cc
kind_at (s ∷ []) zero last is at = ap (λ (s : Segment). s.kind) (same_Some s last at)
kind_at (s ∷ []) (suc k) last is at = absurd cc
kind_at (s ∷ t ∷ segments) zero last is at = absurd (omega (arith, is))
kind_at (s ∷ t ∷ segments) (suc k) last is at = kind_at (t ∷ segments) k last (omega (arith, is)) at

-- it is the one that is found at the end
pub kind_found : (segments found : List Segment) (last : Segment) → 1 ≤ length segments → found ≡ segments
    → slice_get found (length found - 1) ≡ Some last → last_kind segments ≡ last.kind
kind_found segments found last some same at =
    kind_at segments (length segments - 1) last (omega (arith, some))
    (subst (λ (xs : List Segment). slice_get xs (length xs - 1) ≡ Some last) same at)

-- and one is found
pub none_found : (segments found : List Segment) → 1 ≤ length segments → found ≡ segments → slice_get found (length found - 1) ≡ None → ⊥
none_found segments found some same none =
    elim (slice_get_cases segments (length segments - 1)).1 [
      | inl one ↦ is_some one.0 (sym one.2 ∙ subst (λ (xs : List Segment). slice_get xs (length xs - 1) ≡ None) same none)
      | inr past ↦ let far = past.0 in omega (arith, some, far)
    ]
  where
    is_some : (x : Segment) → Some x ≡ None → ⊥
    is_some x is = absurd cc

-- ---- the volume

module _ (group : Group) (accepted : IsAccepted group) (name : List ℕ) (number : ℕ) (lv : Lv)
    (volume : visible_named group name ≡ Some (number, lv)) where
  pub has_segment : 1 ≤ length lv.segments
  has_segment =
      let at : IsVisibleAt 0 name group.lvs (number, lv) = visible_at group name (number, lv) volume in
      subst (λ (v : Lv). 1 ≤ length v.segments) at.volume
      (All-contains (λ (row : List ℕ × Lv). 1 ≤ length row.1.segments) group.lvs at.row (accepted Segments).some
      (contains_at group.lvs at.k at.row at.there))

  pub has_last_legs : HasFewLegs (last_kind lv.segments)
  has_last_legs = last_few lv.segments has_segment (has_few_legs group accepted name number lv volume)

  -- what it asks for, where the rows before the allocator's pass
  pub is_request : (state : GroupState) (growth : Growth) (pvs : List (List ℕ)) → IsGrowth growth
      → longer_row group.extent_size lv growth ≡ None → IsRequest (more_for state group growth pvs lv)
  is_request state growth pvs is none =
      let least = (accepted Numbers).extent_size.0 in
      record {
        extents =
            some_share (growth_for group.extent_size (extents_of lv) growth) (last_kind lv.segments)
            (some_growth group.extent_size lv growth (omega (arith, least)) (keeps_no_more group accepted name number lv volume) is
            none) has_last_legs;
        legs = has_last_legs;
      }

  -- it may grow by what it is given
  pub grows_by : (state : GroupState) → IsState state → state.group ≡ Some group → HasTree group
      → (growth : Growth) (pvs : List (List ℕ)) (given : List Part) → layered_row name lv ≡ None
      → IsGiven group (more_for state group growth pvs lv) given
      → segments_in group + length given ≤ 16384 → MayGrow group lv given
  grows_by state is found tree growth pvs given apart takes few =
      may_grow group name given (number, lv) accepted tree (lie_on_disks state is group found) volume
      (lie_on_pvs lv.segments (not_layered name lv apart)) (given_may group (more_for state group growth pvs lv) given takes) few

pub more_made : (on : set.FinSet nat_cmp) (want : Request) (count growth : ℕ) (own kind : SegKind) → want ≡ more_on on count own
    → count ≡ growth → kind ≡ own → want ≡ more_on on growth kind
more_made on want count growth own kind is counted same = is ∙ ap (λ (n : ℕ). more_on on n own) counted ∙ ap (more_on on growth) (sym same)

-- ---- what is asked for

pub more_is : (state : GroupState) (found group : Group) (growth : Growth) (pvs : List (List ℕ)) (lv : Lv) (on : set.FinSet nat_cmp)
    (want : Request) → found ≡ group → on ≡ pvs_named state pvs
    → want ≡ more_on on (growth_for found.extent_size (extents_of lv) growth) (last_kind lv.segments)
    → want ≡ more_for state group growth pvs lv
more_is state found group growth pvs lv on want same named is =
    is
    ∙ ap (λ (s : set.FinSet nat_cmp). more_on s (growth_for found.extent_size (extents_of lv) growth) (last_kind lv.segments)) named
    ∙ ap (λ (g : Group). more_for state g growth pvs lv) same

-- ---- its exits

-- how it is planned where this is the volume
abbrev pub PlansVolume : GroupState → List ℕ → Growth → List (List ℕ) → ℕ → Group → ℕ × Lv → Result Change PlanRefusal → Type 0
PlansVolume state name growth pvs now group v result =
    PlansWith (Some (volume_asks [] state name growth pvs group v))
    (λ given. extend_lv_rows state name growth pvs group v ++ lengthen_rows state name now group given)
    (λ given. version_change state (longer_volume name given group)) result

module _ (state : GroupState) (name : List ℕ) (growth : Growth) (pvs : List (List ℕ)) (now number : ℕ) (lv : Lv) (found group : Group)
    (same : found ≡ group) where
  abbrev rows : List (Option OpRefusal)
  rows = growth_rows state name growth pvs group (number, lv)

  abbrev row : Option OpRefusal
  row = space_row state group (more_for state group growth pvs lv)

  abbrev wanted : List Part → Change
  wanted given = version_change state (longer_volume name given group)

  abbrev PlansHere : Result Change PlanRefusal → Type 0
  PlansHere result = PlansVolume state name growth pvs now group (number, lv) result

  pub refused_growth : (e : PlanRefusal) → IsRefusedBy (first_refusal (growth_rows state name growth pvs found (number, lv))) e
      → PlansHere (Err e)
  refused_growth e is =
      refused_early group (more_for state group growth pvs lv) (rows ++ row ∷ []) (lengthen_rows state name now group) wanted e
      (refused_front rows (row ∷ []) e (subst (λ (g : Group). IsRefusedBy (first_refusal (growth_rows state name growth pvs g (number, lv)))
      e) same is))

  module _ (passes : first_refusal (growth_rows state name growth pvs found (number, lv)) ≡ None) (want : Request)
      (asked : want ≡ more_for state group growth pvs lv) where
    none : first_refusal rows ≡ None
    none = subst (λ (g : Group). first_refusal (growth_rows state name growth pvs g (number, lv)) ≡ None) same passes

    pub refused_space : (e : PlanRefusal) → IsRefusedBy (space_row state group want) e → PlansHere (Err e)
    refused_space e is =
        refused_early group (more_for state group growth pvs lv) (rows ++ row ∷ []) (lengthen_rows state name now group) wanted e
        (refused_back rows (row ∷ []) e none (one_row row e (subst (λ (w : Request). IsRefusedBy (space_row state group w) e) asked is)))

    pub planned_volume : (given : List Part) → IsGiven group want given → AreFew group want given → space_row state group want ≡ None
        → (result : Result Change PlanRefusal)
        → Plans (lengthen_rows state name now group given) (version_change state (longer_volume name given group)) result → PlansHere result
    planned_volume given is few room result plans =
        planned_given group (more_for state group growth pvs lv) (rows ++ row ∷ []) (lengthen_rows state name now group) wanted given
        (none_both rows (row ∷ []) none (none_row row (subst (λ (w : Request). space_row state group w ≡ None) asked room)))
        (subst (λ (w : Request). IsGiven group w given) asked is) (subst (λ (w : Request). AreFew group w given) asked few) result plans

-- what lengthening a volume of this name asks, where it may be given these parts
pub grows_if : (group : Group) (accepted : IsAccepted group) (name : List ℕ) (number : ℕ) (lv : Lv)
    → visible_named group name ≡ Some (number, lv) → (state : GroupState) → IsState state → state.group ≡ Some group → HasTree group
    → (growth : Growth) (pvs : List (List ℕ)) (want : Request) → want ≡ more_for state group growth pvs lv → (given : List Part)
    → layered_row name lv ≡ None → IsGiven group want given
    → IsSomeAnd (visible_named group name) (λ (volume : ℕ × Lv). segments_in group + length given ≤ 16384 → MayGrow group volume.1 given)
grows_if group accepted name number lv volume state is found tree growth pvs want asked given apart takes =
    subst (λ (o : Option (ℕ × Lv)). IsSomeAnd o (λ (v : ℕ × Lv). segments_in group + length given ≤ 16384 → MayGrow group v.1 given))
    (sym volume)
    (grows_by group accepted name number lv volume state is found tree growth pvs given apart
    (subst (λ (w : Request). IsGiven group w given) asked takes))

-- ---- in the group

-- the volume has this number
pub plans_named : (state : GroupState) (path : Path) (growth : Growth) (pvs : List (List ℕ)) (now : ℕ) (found group : Group) (v : ℕ × Lv)
    (result : Result Change PlanRefusal) → found ≡ group → first_refusal (named_rows found path.vg) ≡ None
    → visible_named group path.lv ≡ Some v → PlansVolume state path.lv growth pvs now group v result
    → PlansWith (extend_asks state path growth pvs group) (extend_in_rows state path growth pvs now group)
    (λ given. version_change state (longer_volume path.lv given group)) result
plans_named state path growth pvs now found group v result same named there plans =
    subst
    (λ (o : Option (ℕ × Lv)).
    PlansWith (option_map (volume_asks (named_rows group path.vg) state path.lv growth pvs group) o)
    (λ given. named_rows group path.vg ++ option_map_or
    (λ volume. extend_lv_rows state path.lv growth pvs group volume ++ lengthen_rows state path.lv now group given) o
    (Some (UnknownVolume path.lv) ∷ []))
    (λ given. version_change state (longer_volume path.lv given group)) result)
    (sym there)
    (planned_back group (more_for state group growth pvs v.1) (extend_lv_rows state path.lv growth pvs group v)
    (lengthen_rows state path.lv now group) (λ given. version_change state (longer_volume path.lv given group))
    (named_rows group path.vg)
    (subst (λ (g : Group). first_refusal (named_rows g path.vg) ≡ None) same named) result plans)

-- the group has another name, or may not be changed
pub refused_named : (state : GroupState) (path : Path) (growth : Growth) (pvs : List (List ℕ)) (now : ℕ) (found group : Group)
    (e : PlanRefusal) → found ≡ group → IsRefusedBy (first_refusal (named_rows found path.vg)) e
    → PlansWith (extend_asks state path growth pvs group) (extend_in_rows state path growth pvs now group)
    (λ given. version_change state (longer_volume path.lv given group)) (Err e)
refused_named state path growth pvs now found group e same is =
    refused_asking (extend_asks state path growth pvs group) (extend_in_rows state path growth pvs now group)
    (λ given. version_change state (longer_volume path.lv given group)) e (each (visible_named group path.lv))
    (refused_front (named_rows group path.vg)
    (rows_on group path.lv (λ volume. extend_lv_rows state path.lv growth pvs group volume ++ lengthen_rows state path.lv now group []))
    e own)
  where
    own : IsRefusedBy (first_refusal (named_rows group path.vg)) e
    own = subst (λ (g : Group). IsRefusedBy (first_refusal (named_rows g path.vg)) e) same is

    each : (o : Option (ℕ × Lv)) (a : Asking)
        → option_map (volume_asks (named_rows group path.vg) state path.lv growth pvs group) o ≡ Some a
        → IsRefusedBy (first_refusal a.rows) e
    each None a asks = absurd cc
    each (Some v) a asks =
        subst (λ (b : Asking). IsRefusedBy (first_refusal b.rows) e)
        (same_Some (volume_asks (named_rows group path.vg) state path.lv growth pvs group v) a asks)
        (refused_front (named_rows group path.vg) (extend_lv_rows state path.lv growth pvs group v) e own)

-- no visible volume has the name, or memory was wanting
pub refused_unknown : (state : GroupState) (path : Path) (growth : Growth) (pvs : List (List ℕ)) (now : ℕ) (found group : Group)
    (e : PlanRefusal) → found ≡ group → first_refusal (named_rows found path.vg) ≡ None
    → visible_named group path.lv ≡ None → IsRefusedBy (Some (UnknownVolume path.lv)) e
    → PlansWith (extend_asks state path growth pvs group) (extend_in_rows state path growth pvs now group)
    (λ given. version_change state (longer_volume path.lv given group)) (Err e)
refused_unknown state path growth pvs now found group e same named there is =
    subst
    (λ (o : Option (ℕ × Lv)).
    PlansWith (option_map (volume_asks (named_rows group path.vg) state path.lv growth pvs group) o)
    (λ given. named_rows group path.vg ++ option_map_or
    (λ volume. extend_lv_rows state path.lv growth pvs group volume ++ lengthen_rows state path.lv now group given) o
    (Some (UnknownVolume path.lv) ∷ []))
    (λ given. version_change state (longer_volume path.lv given group)) (Err e))
    (sym there)
    (refused_back (named_rows group path.vg) (Some (UnknownVolume path.lv) ∷ []) e
    (subst (λ (g : Group). first_refusal (named_rows g path.vg) ≡ None) same named) (one_row (Some (UnknownVolume path.lv)) e is))

-- no volume was found
pub none_named : (o : Option (ℕ × Lv)) → None ≡ option_map (λ (v : ℕ × Lv). v.0) o → o ≡ None
none_named None is = refl
none_named (Some v) is = absurd cc

-- ---- the segments that the group then has

pub grows_now : (group found : Group) (name : List ℕ) (given : List Part) (count : ℕ) → found ≡ group → count ≡ length given
    → segments_row found count ≡ None
    → IsSomeAnd (visible_named group name) (λ (volume : ℕ × Lv). segments_in group + length given ≤ 16384 → MayGrow group volume.1 given)
    → IsSomeAnd (visible_named group name) (λ (volume : ℕ × Lv). MayGrow group volume.1 given)
grows_now group found name given count same counted none grows = by (visible_named group name) grows where
  few : segments_in group + length given ≤ 16384
  few =
      few_segments group (length given) (subst (λ (g : Group). segments_row g (length given) ≡ None) same
      (subst (λ (n : ℕ). segments_row found n ≡ None) counted none))

  by : (o : Option (ℕ × Lv)) → IsSomeAnd o (λ (volume : ℕ × Lv). segments_in group + length given ≤ 16384 → MayGrow group volume.1 given)
      → IsSomeAnd o (λ (volume : ℕ × Lv). MayGrow group volume.1 given)
  by None grows = grows
  by (Some v) grows = grows few

-- the rows behind the allocator's, where that on the segments refuses
pub lengthen_refused : (state : GroupState) (name : List ℕ) (now : ℕ) (found group : Group) (given : List Part) (count : ℕ)
    (e : PlanRefusal) → found ≡ group → count ≡ length given → IsRefusedBy (segments_row found count) e
    → IsRefusedBy (first_refusal (lengthen_rows state name now group given)) e
lengthen_refused state name now found group given count e same counted is =
    refused_front (segments_row group (length given) ∷ []) (length_row state (longer_volume name given group) now ∷ []) e
    (one_row (segments_row group (length given)) e
    (subst (λ (g : Group). IsRefusedBy (segments_row g (length given)) e) same
    (subst (λ (n : ℕ). IsRefusedBy (segments_row found n) e) counted is)))

-- where it doesn't
pub lengthen_plans : (state : GroupState) (name : List ℕ) (now : ℕ) (found group next : Group) (given : List Part) (count : ℕ)
    (result : Result Change PlanRefusal) → found ≡ group → count ≡ length given → next ≡ longer_volume name given group
    → segments_row found count ≡ None → Plans (length_row state next now ∷ []) (version_change state next) result
    → Plans (lengthen_rows state name now group given) (version_change state (longer_volume name given group)) result
lengthen_plans state name now found group next given count result same counted is none plans =
    plans_back (segments_row group (length given) ∷ []) (length_row state (longer_volume name given group) now ∷ [])
    (version_change state (longer_volume name given group)) result
    (none_row (segments_row group (length given))
    (subst (λ (g : Group). segments_row g (length given) ≡ None) same (subst (λ (n : ℕ). segments_row found n ≡ None) counted none)))
    (subst (λ (g : Group). Plans (length_row state g now ∷ []) (version_change state g) result) is plans)
