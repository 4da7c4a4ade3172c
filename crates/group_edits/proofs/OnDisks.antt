-- What may be laid may grow a volume, or be a new one, where the physical volumes have at most 2^40 sectors each.
use Rattle.std.proofs.Common.{◌≡◌, ◌≤◌, ◌<◌, ℕ, ◌+◌, ◌*◌, ◌^◌, Bool, false, List, [], ◌∷◌, ◌++◌, length, Some, get_or, refl, sym, ap}
use Rattle.std.proofs.Common.{subst, ◌∙◌, append-nil, arith}
use Rattle.std.specs.Prelude.{is_some, slice_get, All, AllPairs}
use Rattle.std.specs.List.{AllByRecursion as Each, list_any}
use Rattle.std.proofs.lemmas.List.Elements.{All-append, All-cons, All-contains_itself, All-from_recursion, All-head, All-nil, All-tail}
use Rattle.std.proofs.lemmas.List.Elements.{All-weaker}
use Rattle.std.proofs.lemmas.List.Kept.{AllPairs-cons}
use Rattle.meta_model.specs.Runs.{legs_of}
use Rattle.meta_model.specs.Standing.{HasTree}
use Rattle.meta_model.specs.declared.group.Group.{Group}
use Rattle.meta_model.specs.declared.lv.Lv.{Lv}
use Rattle.meta_model.specs.declared.segment.Leg.{Leg}
use Rattle.meta_model.specs.declared.segment.On.{On}
use Rattle.meta_model.specs.declared.segment.On.TheVariants as on
use Rattle.meta_model.specs.declared.segment.SegKind.{SegKind}
use Rattle.meta_model.specs.declared.segment.Segment.{Segment}
use Rattle.meta_print.proofs.GroupFrom.{printable}
use Rattle.extent_alloc.specs.declared.part.Part.{Part}
use Rattle.vg_check.proofs.Ends.{lvs_whole}
use Rattle.vg_check.specs.Whole.{SegmentIsWhole}
use Rattle.volume_rules.specs.Extents.{extents_of, leg_share}
use Rattle.volume_rules.specs.Legs.{LegRun, LieApart, runs_of, runs_of_legs, runs_of_segments, runs_of_volumes}
use Rattle.volume_rules.specs.Moving.{lv_number}
use Rattle.volume_rules.specs.Rules.{IsAccepted, IsWholeMirror, IsWholeStriped, LiesWithin}
use Rattle.volume_rules.specs.declared.rule.Rule.TheVariants.{Volumes, Stripes, Mirrors, Within, Apart}
use Rattle.group_edits.proofs.FewSectors.{IsOnVolume, LieOnDisks, few_sectors, segments_covered, total, total_both}
use Rattle.group_edits.proofs.GivenRules.{extents_both, legs_some, parts_mirror, parts_striped}
use Rattle.group_edits.proofs.GivenRuns.{runs_apart, runs_new}
use Rattle.group_edits.proofs.GrownRules.{IsNewRun}
use Rattle.list_laws.proofs.Inserted.{first_pairs, later_pairs, none_passes}
use Rattle.group_edits.proofs.LongerRules.{its, legs_may, some_legs, volumes_both}
use Rattle.group_edits.proofs.Selections.{pairs_both}
use Rattle.group_edits.proofs.Split.{IsSplit, split}
use Rattle.group_edits.specs.GivenSegments.{MayBeLaid, MayHaveLegs, extents_in, segments_in, segments_of}
use Rattle.group_edits.specs.LongerVolume.{MayGrow, last_kind, longer}
use Rattle.group_edits.specs.Visible.{visible_named}

abbrev Row : Type 0
Row = List ℕ × Lv

-- ---- parts of lists

module _ {X : Type 0} where
  all_front : (P : X → Type 0) (xs ys : List X) → All P (xs ++ ys) → All P xs
  all_front P [] ys all = All-nil P
  all_front P (x ∷ xs) ys all = All-cons P x xs (All-head P x (xs ++ ys) all) (all_front P xs ys (All-tail P x (xs ++ ys) all))

  all_back : (P : X → Type 0) (xs ys : List X) → All P (xs ++ ys) → All P ys
  all_back P [] ys all = all
  all_back P (x ∷ xs) ys all = all_back P xs ys (All-tail P x (xs ++ ys) all)

  pairs_front : (R : X → X → Type 0) (xs ys : List X) → AllPairs R (xs ++ ys) → AllPairs R xs
  pairs_front R [] ys pairs = λ i j d before within. absurd (omega (arith, before, within))
  pairs_front R (x ∷ xs) ys pairs =
      AllPairs-cons R x xs (all_front (R x) xs ys (first_pairs R x (xs ++ ys) pairs))
      (pairs_front R xs ys (later_pairs R x (xs ++ ys) pairs))

  pairs_back : (R : X → X → Type 0) (xs ys : List X) → AllPairs R (xs ++ ys) → AllPairs R ys
  pairs_back R [] ys pairs = pairs
  pairs_back R (x ∷ xs) ys pairs = pairs_back R xs ys (later_pairs R x (xs ++ ys) pairs)

-- ---- the runs of a volume on physical volumes

-- each leg lies on a physical volume
abbrev pub LieOnPvs : List Segment → Type 0
LieOnPvs segments = All (λ (segment : Segment). All (λ (leg : Leg). (pv : ℕ) × (leg.on ≡ on.Pv pv)) (legs_of segment.kind)) segments

-- where none lies on a logical one
pub lie_on_pvs : (segments : List Segment)
    → list_any (λ (segment : Segment). list_any (λ (leg : Leg). is_some (lv_number leg.on)) (legs_of segment.kind)) segments ≡ false
    → LieOnPvs segments
lie_on_pvs segments none =
    All-from_recursion (λ (segment : Segment). All (λ (leg : Leg). (pv : ℕ) × (leg.on ≡ on.Pv pv)) (legs_of segment.kind)) segments
    (each_by (λ (segment : Segment). list_any (λ (leg : Leg). is_some (lv_number leg.on)) (legs_of segment.kind))
    (λ (segment : Segment). All (λ (leg : Leg). (pv : ℕ) × (leg.on ≡ on.Pv pv)) (legs_of segment.kind))
    (λ segment few. All-from_recursion (λ (leg : Leg). (pv : ℕ) × (leg.on ≡ on.Pv pv)) (legs_of segment.kind)
    (each_by (λ (leg : Leg). is_some (lv_number leg.on)) (λ (leg : Leg). (pv : ℕ) × (leg.on ≡ on.Pv pv)) (λ leg fails. on_pv leg.on fails)
    (legs_of segment.kind) (none_passes (λ (leg : Leg). is_some (lv_number leg.on)) (legs_of segment.kind) few)))
    segments (none_passes (λ (segment : Segment). list_any (λ (leg : Leg). is_some (lv_number leg.on)) (legs_of segment.kind)) segments
    none))
  where
    on_pv : (is : On) → is_some (lv_number is) ≡ false → (pv : ℕ) × (is ≡ on.Pv pv)
    on_pv (on.Pv pv) fails = (pv, refl)
    on_pv (on.Lv lv) fails = absurd cc

    each_by : {X : Type 0} (p : X → Bool) (P : X → Type 0) → ((x : X) → p x ≡ false → P x) → (xs : List X) → Each (λ x. p x ≡ false) xs
        → Each P xs
    each_by p P step [] all = tt
    each_by p P step (x ∷ xs) all = (step x all.0, each_by p P step xs all.1)

-- the run lies on a physical volume, and has an extent
abbrev IsRunOnPv : LegRun → Type 0
IsRunOnPv run = ((pv : ℕ) × (run.on ≡ on.Pv pv)) × (1 ≤ run.count)

legs_on_pvs : (lv segment share number : ℕ) (legs : List Leg) → 1 ≤ share → All (λ (leg : Leg). (pv : ℕ) × (leg.on ≡ on.Pv pv)) legs
    → All IsRunOnPv (runs_of_legs lv segment share number legs)
legs_on_pvs lv segment share number [] some all = All-nil IsRunOnPv
legs_on_pvs lv segment share number (leg ∷ legs) some all =
    All-cons IsRunOnPv (record { lv = lv; segment = segment; leg = number; on = leg.on; first = leg.first; count = share })
    (runs_of_legs lv segment share (number + 1) legs)
    (All-head (λ (leg : Leg). (pv : ℕ) × (leg.on ≡ on.Pv pv)) leg legs all, some)
    (legs_on_pvs lv segment share (number + 1) legs some (All-tail (λ (leg : Leg). (pv : ℕ) × (leg.on ≡ on.Pv pv)) leg legs all))

segments_on_pvs : (lv number : ℕ) (segments : List Segment) → All SegmentIsWhole segments → LieOnPvs segments
    → All IsRunOnPv (runs_of_segments lv number segments)
segments_on_pvs lv number [] whole all = All-nil IsRunOnPv
segments_on_pvs lv number (segment ∷ segments) whole all =
    All-append IsRunOnPv (runs_of_legs lv number (leg_share segment.count segment.kind) 0 (legs_of segment.kind))
    (runs_of_segments lv (number + 1) segments)
    (legs_on_pvs lv number (leg_share segment.count segment.kind) 0 (legs_of segment.kind)
    (All-head SegmentIsWhole segment segments whole).covers
    (All-head (λ (segment : Segment). All (λ (leg : Leg). (pv : ℕ) × (leg.on ≡ on.Pv pv)) (legs_of segment.kind)) segment segments all))
    (segments_on_pvs lv (number + 1) segments (All-tail SegmentIsWhole segment segments whole)
    (All-tail (λ (segment : Segment). All (λ (leg : Leg). (pv : ℕ) × (leg.on ≡ on.Pv pv)) (legs_of segment.kind)) segment segments all))

between_at : {X : Type 0} (before after : List X) (x : X) → slice_get (before ++ x ∷ after) (length before) ≡ Some x
between_at [] after x = refl
between_at (y ∷ before) after x = between_at before after x

new_on_volumes : (group : Group) (runs : List LegRun) → All (IsNewRun group) runs → All (IsOnVolume group) runs
new_on_volumes group runs new =
    All-weaker (IsNewRun group) (IsOnVolume group) (λ run is. record { pv = is.pv; on_pv = is.on_pv; some = is.some; within = is.within })
    runs new

-- ---- a volume that grows

module _ (group : Group) (before after : List Row) (row : Row) (rows : group.lvs ≡ before ++ row ∷ after) (accepted : IsAccepted group)
    (disks : LieOnDisks group) (given : List Part)
    (laid : MayBeLaid group (length (legs_of (last_kind row.1.segments))) given) (on_pvs : LieOnPvs row.1.segments) where
  abbrev number : ℕ
  number = 0 + length before

  abbrev old : List LegRun
  old = runs_of_segments number 0 row.1.segments

  abbrev back : List LegRun
  back = runs_of_volumes (number + 1) after

  abbrev kind : SegKind
  kind = last_kind row.1.segments

  abbrev added : List Segment
  added = segments_of kind (extents_of row.1) given

  abbrev more : List LegRun
  more = runs_of_segments number 0 added

  all_runs : runs_of group ≡ runs_of_volumes 0 before ++ (old ++ back)
  unfolding runs_of
  all_runs = ap (runs_of_volumes 0) rows ∙ volumes_both 0 before (row ∷ after)

  its_own : (P : LegRun → Type 0) → All P (runs_of group) → All P old
  its_own P all = all_front P old back (all_back P (runs_of_volumes 0 before) (old ++ back) (subst (All P) all_runs all))

  whole : All SegmentIsWhole row.1.segments
  whole =
      lvs_whole group (length before) row (λ rule early. accepted rule)
      (ap (λ (rs : List Row). slice_get rs (length before)) rows ∙ between_at before after row)

  old_on_volumes : All (IsOnVolume group) old
  old_on_volumes k d within =
      let here = segments_on_pvs number 0 row.1.segments whole on_pvs k d within in
      record {
        pv = here.0.0;
        on_pv = here.0.1;
        some = here.1;
        within = its_own (λ (run : LegRun). LiesWithin group run.on (run.first + run.count)) (accepted Within) k d within;
      }

  may_legs : MayHaveLegs group.extent_size (length (legs_of kind)) kind
  may_legs = legs_may group before after row rows accepted

  new : All (IsNewRun group) more
  new = runs_new group (length (legs_of kind)) given laid (some_legs group before after row rows accepted) kind number 0 (extents_of row.1)

  all_apart : AllPairs LieApart (old ++ (more ++ []))
  all_apart =
      pairs_both LieApart old (more ++ [])
      (pairs_front LieApart old back (pairs_back LieApart (runs_of_volumes 0 before) (old ++ back)
      (subst (AllPairs LieApart) all_runs (accepted Apart))))
      (subst (AllPairs LieApart) (sym (append-nil more))
      (runs_apart group (length (legs_of kind)) given laid (some_legs group before after row rows accepted) kind number 0
      (extents_of row.1)))
      (its_own (λ run. All (LieApart run) (more ++ [])) (λ k d within.
      subst (All (LieApart (get_or (runs_of group) k d))) (sym (append-nil more)) (λ j e inside on extent in_old in_new.
      (new j e inside).unused on extent in_new
      (get_or (runs_of group) k d, All-contains_itself (runs_of group) k d within, in_old))))

  fewer : extents_of row.1 + extents_in added ≤ total (old ++ (more ++ []))
  fewer =
      let first = segments_covered group.extent_size number 0 row.1.segments
      (its group before after row rows accepted
      (λ (r : Row). All (λ segment. IsWholeStriped group.extent_size segment.count segment.kind) r.1.segments) (accepted Stripes))
      (its group before after row rows accepted (λ (r : Row). All (λ segment. IsWholeMirror segment.kind) r.1.segments) (accepted Mirrors))
      in
      let last =
      segments_covered group.extent_size number 0 added
      (parts_striped kind group (length (legs_of kind)) given may_legs laid (extents_of row.1))
      (parts_mirror kind group (length (legs_of kind)) given may_legs laid (extents_of row.1)) in
      let both = total_both old (more ++ []) in
      let ends = ap total (append-nil more) in
      omega (arith, first, last, both, ends)

  longer_sectors : extents_of (longer given row.1) * group.extent_size < 2 ^ 48
  longer_sectors =
      few_sectors group disks (old ++ (more ++ []))
      (All-append (IsOnVolume group) old (more ++ []) old_on_volumes
      (subst (All (IsOnVolume group)) (sym (append-nil more)) (new_on_volumes group more new))) all_apart
      (accepted Volumes).pvs.1 (extents_of (longer given row.1))
      (subst (λ (n : ℕ). n ≤ total (old ++ (more ++ []))) (sym (extents_both row.1.segments added)) fewer)

-- the volume of a name may grow by what may be laid
pub may_grow : (group : Group) (name : List ℕ) (given : List Part) (v : ℕ × Lv) → IsAccepted group → HasTree group → LieOnDisks group
    → visible_named group name ≡ Some v → LieOnPvs v.1.segments → MayBeLaid group (length (legs_of (last_kind v.1.segments))) given
    → segments_in group + length given ≤ 16384 → MayGrow group v.1 given
unfolding visible_named
may_grow group name given v accepted tree disks found on_pvs laid few =
    let place : IsSplit name group.lvs v.1 = split name 0 group.lvs [] v found (printable group tree).lv_names in
    record {
      laid = laid;
      sectors =
          subst (λ (lv : Lv). extents_of (longer given lv) * group.extent_size < 2 ^ 48) place.is_volume
          (longer_sectors group place.before place.after place.row place.rows_is accepted disks given
          (subst (λ (lv : Lv). MayBeLaid group (length (legs_of (last_kind lv.segments))) given) (sym place.is_volume) laid)
          (subst (λ (lv : Lv). LieOnPvs lv.segments) (sym place.is_volume) on_pvs));
      segments = few;
    }

-- a new volume of what may be laid has few sectors too
pub new_sectors : (group : Group) (kind : SegKind) (count : ℕ) (given : List Part) → IsAccepted group → LieOnDisks group
    → MayHaveLegs group.extent_size count kind → MayBeLaid group count given
    → extents_in (segments_of kind 0 given) * group.extent_size < 2 ^ 48
new_sectors group kind count given accepted disks legs laid =
    let runs : List LegRun = runs_of_segments 0 0 (segments_of kind 0 given) in
    few_sectors group disks runs (new_on_volumes group runs
    (runs_new group count given laid (legs_some kind group.extent_size count legs) kind 0 0 0))
    (runs_apart group count given laid (legs_some kind group.extent_size count legs) kind 0 0 0) (accepted Volumes).pvs.1
    (extents_in (segments_of kind 0 given))
    (segments_covered group.extent_size 0 0 (segments_of kind 0 given) (parts_striped kind group count given legs laid 0)
    (parts_mirror kind group count given legs laid 0))
