-- What the rows of an lvcreate say of its volume, and how it is planned.
use Rattle.std.proofs.Common.{◌≡◌, ◌≢◌, ◌≤◌, ◌<◌, ℕ, ◌+◌, ◌%◌, ◌^◌, Bool, true, false, not, ◌&&◌, ◌||◌, ◌==◌, cond, List, [], ◌∷◌, ◌++◌}
use Rattle.std.proofs.Common.{length, map, Option, Some, None, Result, Err, refl, sym, ap, subst, ◌∙◌, arith}
use Rattle.std.specs.Prelude.{nat_lt, slice_get, slice_index, All, IfSome}
use Rattle.std.specs.FinSet as set
use Rattle.std.specs.Option.{option_and_then, option_map_or}
use Rattle.std.specs.Ordering.{nat_cmp}
use Rattle.std.proofs.lemmas.Bool.{eqb-true, ltb-false, ltb-true}
use Rattle.std.proofs.lemmas.List.Elements.{All-from_recursion}
use Rattle.std.specs.Str.{bytes_eq}
use Rattle.sector_base.specs.declared.spans.Span.{Span}
use Rattle.lvm_name.specs.Names.{is_among}
use Rattle.command_table.specs.declared.command.NewVolume.{NewVolume}
use Rattle.line_answers.specs.declared.op_refusal.OpRefusal.{OpRefusal}
use Rattle.line_answers.specs.declared.op_refusal.OpRefusal.TheVariants.{BadStripe, IdTaken}
use Rattle.meta_model.specs.Tables.{names_of}
use Rattle.meta_model.specs.declared.group.Group.{Group}
use Rattle.meta_model.specs.declared.lv.Lv.{Lv}
use Rattle.meta_model.specs.declared.pv.Pv.{Pv}
use Rattle.meta_model.specs.declared.segment.SegKind.{SegKind}
use Rattle.meta_model.specs.declared.segment.SegKind.TheVariants.{Mirror, Striped}
use Rattle.volume_rules.specs.Rules.{FitsDevice, IsAccepted, ids_of}
use Rattle.volume_rules.specs.declared.rule.Rule.TheVariants.{Extents, Numbers}
use Rattle.volume_view.proofs.MetSegments.{all_at}
use Rattle.extent_alloc.specs.Few.{AreFew}
use Rattle.extent_alloc.specs.Giving.{IsGiven, IsRequest}
use Rattle.extent_alloc.specs.declared.part.Part.{Part}
use Rattle.extent_alloc.specs.declared.part.PartRun.{PartRun}
use Rattle.extent_alloc.specs.declared.request.Request.{Request}
use Rattle.group_edits.proofs.FirstSectors.{Beginning, beginning, start_within}
use Rattle.group_edits.proofs.GivenRuns.{given_may, given_some}
use Rattle.list_laws.proofs.Inserted.{none_passes}
use Rattle.group_edits.proofs.OnDisks.{new_sectors}
use Rattle.group_edits.specs.GivenSegments.{MayHaveLegs, segments_in}
use Rattle.group_edits.specs.NewVolume.{MayHave}
use Rattle.group_edits.specs.ShortenedVolume.{parts_of}
use Rattle.group_plan.proofs.Passed.{each_both, ids_differ, not_same, both_false, few_enough}
use Rattle.group_plan.proofs.Chained.{none_both, none_row, one_row, plans_back, refused_back, refused_front}
use Rattle.group_plan.proofs.PlacedGroup.{lie_on_disks}
use Rattle.group_plan.proofs.Rows.{test_fails, seqno_left}
use Rattle.group_plan.specs.Committing.{length_row, zeroing_change}
use Rattle.group_plan.specs.Ids.{has_any_id, has_lv_id, has_other_id, has_pv_id}
use Rattle.group_plan.specs.Judging.{IsRefusedBy, first_refusal, stands_on_disk}
use Rattle.group_plan.specs.Stripes.{stripe_row}
use Rattle.group_plan.specs.Members.{pvs_named}
use Rattle.group_plan.specs.Plans.{Plans}
use Rattle.group_plan.specs.State.{IsState}
use Rattle.group_plan.specs.declared.refusal.PlanRefusal.{PlanRefusal}
use Rattle.group_plan.specs.declared.state.Change.{Change}
use Rattle.group_plan.specs.declared.state.GroupState.{GroupState}
use Rattle.lv_plans.proofs.Extending.{few_segments}
use Rattle.lv_plans.proofs.PassedRows.{limits_pass, name_passes}
use Rattle.lv_plans.proofs.GivenParts.{few_parts, planned_given, refused_early}
use Rattle.lv_plans.proofs.Reducing.{some_extents, some_parts}
use Rattle.lv_plans.proofs.RowsOnVolume.{name_free}
use Rattle.lv_plans.specs.Allocating.{segments_row, space_row, PlansWith}
use Rattle.lv_plans.specs.Lvcreate.{Begins, IsNewVolume, add_rows, create_asks, create_change, create_in_rows, created_group, eight_from}
use Rattle.lv_plans.specs.Lvcreate.{first_run, id_row, kind_for, leg_zeroed, legs_for, limit_rows, name_rows, share_for, want_for, want_on}
use Rattle.lv_plans.specs.Lvcreate.{zeroed_at}
use Rattle.lv_plans.specs.Sizes.{extents_for}

-- ---- what it asks for

some_share : (size : ℕ) (new : NewVolume) → 1 ≤ size → IsNewVolume new → 1 ≤ share_for size new
some_share size new some is = by (nat_lt 0 new.mirrors) where
  some_count : 1 ≤ extents_for size new.amount
  some_count = some_extents size new.amount some is.amount

  by : (b : Bool) → 1 ≤ cond b (extents_for size new.amount) (parts_of (extents_for size new.amount) new.stripes)
  by true = some_count
  by false = some_parts (extents_for size new.amount) new.stripes some_count is.stripes.0

few_legs : (new : NewVolume) → IsNewVolume new → (1 ≤ legs_for new) × (legs_for new ≤ 8)
few_legs new is = by (nat_lt 0 new.mirrors) where
  by : (b : Bool) → (1 ≤ cond b (new.mirrors + 1) new.stripes) × (cond b (new.mirrors + 1) new.stripes ≤ 8)
  by true = let most = is.mirrors.0 in (omega arith, omega (arith, most))
  by false = is.stripes

pub is_request : (state : GroupState) (group : Group) (new : NewVolume) → IsAccepted group → IsNewVolume new
    → IsRequest (want_for state group new)
is_request state group new accepted is =
    let least = (accepted Numbers).extent_size.0 in
    record { extents = some_share group.extent_size new (omega (arith, least)) is; legs = few_legs new is }

pub want_is : (state : GroupState) (found group : Group) (new : NewVolume) (on : set.FinSet nat_cmp) (want : Request) → found ≡ group
    → on ≡ pvs_named state new.pvs → want ≡ want_on on found.extent_size new → want ≡ want_for state group new
want_is state found group new on want same named is =
    is ∙ ap (λ (s : set.FinSet nat_cmp). want_on s found.extent_size new) named ∙ ap (λ (g : Group). want_for state g new) same

-- ---- the rows

-- its stripes divide an extent
divides : (size : ℕ) (new : NewVolume) → stripe_row size new.stripes new.stripe_size ≡ None → nat_lt 1 new.stripes ≡ true
    → size % new.stripe_size ≡ 0
divides size new none several =
    let uneven : Bool = new.stripe_size == 0 || not (size % new.stripe_size == 0) in
    by (size % new.stripe_size == 0) refl
    (both_false (new.stripe_size == 0) (not (size % new.stripe_size == 0))
    (sym (ap (λ (b : Bool). b && uneven) several) ∙ test_fails (nat_lt 1 new.stripes && uneven) (BadStripe new.stripe_size size) none)).1
  where
    by : (b : Bool) → (size % new.stripe_size == 0) ≡ b → not b ≡ false → size % new.stripe_size ≡ 0
    by true is fails = eqb-true (size % new.stripe_size) 0 is
    by false is fails = absurd cc

-- its segments can have as many legs as it asks for
pub can_have_legs : (size : ℕ) (new : NewVolume) → IsNewVolume new → stripe_row size new.stripes new.stripe_size ≡ None
    → MayHaveLegs size (legs_for new) (kind_for new)
can_have_legs size new is none = by (nat_lt 0 new.mirrors) refl where
  striped : (b : Bool) → nat_lt 1 new.stripes ≡ b → MayHaveLegs size new.stripes (Striped (cond b new.stripe_size 0) [])
  striped true several =
      (is.stripe_size.2, is.stripes.0, is.stripes.1, λ more. (is.stripe_size.0, is.stripe_size.1, divides size new none several))
  striped false one =
      let few = ltb-false 1 new.stripes one in (omega arith, is.stripes.0, is.stripes.1, λ more. absurd (omega (arith, few, more)))

  by : (b : Bool) → nat_lt 0 new.mirrors ≡ b
      → MayHaveLegs size (cond b (new.mirrors + 1) new.stripes)
      (cond b (Mirror 1024 None []) (Striped (cond (nat_lt 1 new.stripes) new.stripe_size 0) []))
  by true some =
      let more = ltb-true 0 new.mirrors some in let most =
      is.mirrors.0 in (omega arith, omega (arith, more), omega (arith, most), (10, refl), omega arith)
  by false none' = striped (nat_lt 1 new.stripes) refl

-- the id stands nowhere in the group
fresh_id : (state : GroupState) (group : Group) (id : List ℕ) → id_row state group id ≡ None → All (λ other. other ≢ id) (ids_of group)
fresh_id state group id none =
    let nowhere : (has_any_id group id ≡ false) × (stands_on_disk id state.disks ≡ false) =
    both_false (has_any_id group id) (stands_on_disk id state.disks)
    (test_fails (has_any_id group id || stands_on_disk id state.disks) (IdTaken id) none)
    in
    let no_pv : (has_other_id group id ≡ false) × (has_pv_id group id ≡ false) =
    both_false (has_other_id group id) (has_pv_id group id) nowhere.0 in
    let no_lv : (bytes_eq group.id id ≡ false) × (has_lv_id group id ≡ false) =
    both_false (bytes_eq group.id id) (has_lv_id group id) no_pv.0 in
    All-from_recursion (λ other. other ≢ id) (ids_of group) (
      not_same group.id id no_lv.0,
      each_both (λ other. other ≢ id) (map (λ (pv : List ℕ × Pv). pv.1.id) group.pvs) (map (λ (lv : List ℕ × Lv). lv.1.id) group.lvs)
          (ids_differ (λ (pv : Pv). pv.id) id group.pvs (none_passes (λ (pv : List ℕ × Pv). bytes_eq pv.1.id id) group.pvs no_pv.1))
          (ids_differ (λ (lv : Lv). lv.id) id group.lvs (none_passes (λ (lv : List ℕ × Lv). bytes_eq lv.1.id id) group.lvs no_lv.1)),
    )

-- the group may have the volume with what it is given, where the rows before the allocator's pass
pub may_have : (state : GroupState) → IsState state → (group : Group) → state.group ≡ Some group → IsAccepted group
    → (id : List ℕ) (new : NewVolume) (now : ℕ) → IsNewVolume new → now < 2 ^ 48 → (given : List Part)
    → first_refusal (limit_rows state id new group) ≡ None → IsGiven group (want_for state group new) given
    → segments_in group + length given ≤ 16384 → MayHave group id (kind_for new) given now
may_have state is group found accepted id new now values time given none takes few =
    let rows = limits_pass state id new group none in
    let count = few_enough 1024 group.max_lv (length group.lvs + 1) rows.count in
    let legs = can_have_legs group.extent_size new values rows.stripes in
    record {
      fresh = fresh_id state group id rows.own_id;
      count = legs_for new;
      legs = legs;
      laid = given_may group (want_for state group new) given takes;
      some = given_some group (want_for state group new) given (is_request state group new accepted values) takes;
      sectors =
          new_sectors group (kind_for new) (legs_for new) given accepted (lie_on_disks state is group found) legs
          (given_may group (want_for state group new) given takes);
      segments = few;
      lvs = (let most = count.0 in omega (arith, most));
      max_lv = λ limit. let most = count.1 limit in omega (arith, most);
      created = time;
    }

-- ---- its first sectors

begins_with : (group : Group) (given : List Part) (b : Beginning group given) → first_run given ≡ Some b.run
begins_with group given b = ap (option_and_then (λ (part : Part). slice_get part.runs 0)) b.is_part ∙ b.is_run

-- they are those of its first leg
pub zeroed_is : (disk_of : List ℕ) (group : Group) (given : List Part) (b : Beginning group given)
    → zeroed_at disk_of group given ≡ eight_from (slice_index disk_of b.run.pv) group.extent_size b.pv.1 b.run ∷ []
zeroed_is disk_of group given b =
    ap (λ (o : Option PartRun). option_map_or (leg_zeroed disk_of group) o []) (begins_with group given b)
    ∙ ap (λ (o : Option (List ℕ × Pv)). option_map_or
    (λ (row : List ℕ × Pv). eight_from (slice_index disk_of b.run.pv) group.extent_size row.1 b.run ∷ []) o []) b.is_pv

-- which begins on a physical volume of the group
pub begins : (group : Group) (name id : List ℕ) (kind : SegKind) (given : List Part) (now : ℕ) → MayHave group id kind given now
    → IsAccepted group → IfSome (first_run given) (Begins group)
begins group name id kind given now may accepted =
    let b = beginning group name id kind given now may accepted in
    let within = start_within group name id kind given now may accepted b.part b.is_part b.run b.is_run b.pv b.is_pv in
    let ends = (all_at (λ (pv : List ℕ × Pv). FitsDevice group.extent_size pv.1) group.pvs b.run.pv b.pv (accepted Extents) b.is_pv).0 in
    subst (λ (o : Option PartRun). IfSome o (Begins group)) (sym (begins_with group given b))
    (record { row = b.pv; there = b.is_pv; fits = omega (arith, within, ends) })

-- so it does as it was found
pub found_begins : (found group : Group) (name id : List ℕ) (kind : SegKind) (given parts : List Part) (now : ℕ) → found ≡ group
    → parts ≡ given → IsAccepted found → MayHave group id kind given now → IfSome (first_run parts) (Begins found)
found_begins found group name id kind given parts now same slice accepted may =
    subst (λ (ps : List Part). IfSome (first_run ps) (Begins found)) (sym slice)
    (subst (λ (g : Group). IfSome (first_run given) (Begins g)) (sym same)
    (begins group name id kind given now may (subst IsAccepted same accepted)))

-- ---- what passes where none of the rows before the allocator's refuses

module _ (state : GroupState) (found group : Group) (same : found ≡ group) (new : NewVolume) where
  pub free_name : first_refusal (name_rows state new found) ≡ None → is_among (names_of group.lvs) new.lv ≡ false
  free_name none =
      name_free group new.lv
      (name_passes state new group (subst (λ (g : Group). first_refusal (name_rows state new g) ≡ None) same none))

  pub seqno_free : (id : List ℕ) → first_refusal (limit_rows state id new found) ≡ None → group.seqno ≢ 4294967295
  seqno_free id none =
      seqno_left group
      (limits_pass state id new group (subst (λ (g : Group). first_refusal (limit_rows state id new g) ≡ None) same none)).seqno

  -- and what is given then
  module _ (is : IsState state) (there : state.group ≡ Some group) (accepted : IsAccepted group) (values : IsNewVolume new) (want : Request)
      (asked : want ≡ want_for state group new) where
    pub asks_well : IsRequest want
    asks_well = subst IsRequest (sym asked) (is_request state group new accepted values)

    pub few_given : (given : List Part) → IsGiven group want given → length given < 2 ^ 48
    few_given given takes = few_parts group want given accepted (lie_on_disks state is group there) asks_well takes

    pub may_add : (id : List ℕ) (now : ℕ) → now < 2 ^ 48 → first_refusal (limit_rows state id new found) ≡ None → (given : List Part)
        → IsGiven group want given → segments_in group + length given ≤ 16384 → MayHave group id (kind_for new) given now
    may_add id now time none given takes few =
        may_have state is group there accepted id new now values time given
        (subst (λ (g : Group). first_refusal (limit_rows state id new g) ≡ None) same none)
        (subst (λ (w : Request). IsGiven group w given) asked takes) few

-- ---- its exits

-- how it is planned where this group was found
abbrev pub PlansNew : GroupState → List ℕ → NewVolume → ℕ → Group → Result Change PlanRefusal → Type 0
PlansNew state id new now group result =
    PlansWith (Some (create_asks state id new group)) (create_in_rows state id new now group) (create_change state id new now group) result

module _ (state : GroupState) (id : List ℕ) (new : NewVolume) (now : ℕ) (found group : Group) (same : found ≡ group) where
  abbrev names : List (Option OpRefusal)
  names = name_rows state new group

  abbrev limits : List (Option OpRefusal)
  limits = limit_rows state id new group

  abbrev room : Option OpRefusal
  room = space_row state group (want_for state group new)

  -- a row before the allocator's refuses
  refused_before : (e : PlanRefusal) → IsRefusedBy (first_refusal (names ++ limits)) e → PlansNew state id new now group (Err e)
  refused_before e is =
      refused_early group (want_for state group new) (names ++ limits ++ room ∷ []) (add_rows state id new now group)
      (create_change state id new now group) e
      (refused_front (names ++ limits) (room ∷ []) e is)

  pub refused_names : (e : PlanRefusal) → IsRefusedBy (first_refusal (name_rows state new found)) e
      → PlansNew state id new now group (Err e)
  refused_names e is =
      refused_before e (refused_front names limits e (subst (λ (g : Group). IsRefusedBy (first_refusal (name_rows state new g)) e) same is))

  module _ (named : first_refusal (name_rows state new found) ≡ None) where
    names_pass : first_refusal names ≡ None
    names_pass = subst (λ (g : Group). first_refusal (name_rows state new g) ≡ None) same named

    pub refused_limits : (e : PlanRefusal) → IsRefusedBy (first_refusal (limit_rows state id new found)) e
        → PlansNew state id new now group (Err e)
    refused_limits e is =
        refused_before e (refused_back names limits e names_pass
        (subst (λ (g : Group). IsRefusedBy (first_refusal (limit_rows state id new g)) e) same is))

    module _ (limited : first_refusal (limit_rows state id new found) ≡ None) (want : Request) (asked : want ≡ want_for state group new)
      where
        both_pass : first_refusal (names ++ limits) ≡ None
        both_pass = none_both names limits names_pass (subst (λ (g : Group). first_refusal (limit_rows state id new g) ≡ None) same limited)

        pub refused_room : (e : PlanRefusal) → IsRefusedBy (space_row state group want) e → PlansNew state id new now group (Err e)
        refused_room e is =
            refused_early group (want_for state group new) (names ++ limits ++ room ∷ []) (add_rows state id new now group)
            (create_change state id new now group) e
            (refused_back (names ++ limits) (room ∷ []) e both_pass
            (one_row room e (subst (λ (w : Request). IsRefusedBy (space_row state group w) e) asked is)))

        pub planned_new : (given : List Part) → IsGiven group want given → AreFew group want given → space_row state group want ≡ None
            → (result : Result Change PlanRefusal)
            → Plans (add_rows state id new now group given) (create_change state id new now group given) result
            → PlansNew state id new now group result
        planned_new given is few none result plans =
            planned_given group (want_for state group new) (names ++ limits ++ room ∷ []) (add_rows state id new now group)
            (create_change state id new now group) given
            (none_both (names ++ limits) (room ∷ []) both_pass
            (none_row room (subst (λ (w : Request). space_row state group w ≡ None) asked none)))
            (subst (λ (w : Request). IsGiven group w given) asked is) (subst (λ (w : Request). AreFew group w given) asked few) result plans

-- ---- the rows behind the allocator's

-- so many segments are few enough
few_more : (found group : Group) (given : List Part) (count : ℕ) → found ≡ group → count ≡ length given → segments_row found count ≡ None
    → segments_in group + length given ≤ 16384
few_more found group given count same counted none =
    few_segments group (length given) (subst (λ (g : Group). segments_row g (length given) ≡ None) same
    (subst (λ (n : ℕ). segments_row found n ≡ None) counted none))

-- then the group may have the volume
pub has_volume : (found group : Group) (id : List ℕ) (kind : SegKind) (given : List Part) (now count : ℕ) → found ≡ group
    → count ≡ length given → segments_row found count ≡ None → (segments_in group + length given ≤ 16384 → MayHave group id kind given now)
    → MayHave group id kind given now
has_volume found group id kind given now count same counted none may = may (few_more found group given count same counted none)

-- where that on the segments refuses
pub add_refused : (state : GroupState) (id : List ℕ) (new : NewVolume) (now : ℕ) (found group : Group) (given : List Part) (count : ℕ)
    (e : PlanRefusal) → found ≡ group → count ≡ length given → IsRefusedBy (segments_row found count) e
    → IsRefusedBy (first_refusal (add_rows state id new now group given)) e
add_refused state id new now found group given count e same counted is =
    refused_front (segments_row group (length given) ∷ []) (length_row state (created_group id new now given group) now ∷ []) e
    (one_row (segments_row group (length given)) e
    (subst (λ (g : Group). IsRefusedBy (segments_row g (length given)) e) same
    (subst (λ (n : ℕ). IsRefusedBy (segments_row found n) e) counted is)))

-- where it doesn't
pub add_plans : (state : GroupState) (id : List ℕ) (new : NewVolume) (now : ℕ) (found group next : Group) (zero : List Span)
    (given : List Part) (count : ℕ) (result : Result Change PlanRefusal) → found ≡ group → count ≡ length given
    → next ≡ created_group id new now given group → zero ≡ zeroed_at state.disk_of group given → segments_row found count ≡ None
    → Plans (length_row state next now ∷ []) (zeroing_change state zero next) result
    → Plans (add_rows state id new now group given) (create_change state id new now group given) result
add_plans state id new now found group next zero given count result same counted is begins none plans =
    plans_back (segments_row group (length given) ∷ []) (length_row state (created_group id new now given group) now ∷ [])
    (create_change state id new now group given) result
    (none_row (segments_row group (length given))
    (subst (λ (g : Group). segments_row g (length given) ≡ None) same (subst (λ (n : ℕ). segments_row found n ≡ None) counted none)))
    (subst (λ (g : Group). Plans (length_row state g now ∷ []) (zeroing_change state (zeroed_at state.disk_of group given) g) result) is
    (subst (λ (z : List Span). Plans (length_row state next now ∷ []) (zeroing_change state z next) result) begins plans))
