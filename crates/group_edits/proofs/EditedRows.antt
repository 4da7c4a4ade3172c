-- An edit in which each segment stays whole or as a front: its legs, and what the other rules ask.
use Rattle.std.proofs.Common.{◌≡◌, ◌≤◌, ◌<◌, ℕ, ◌^◌, ◌*◌, ◌/◌, List, [], ◌∷◌, ◌++◌, length, get_or, map, Some, inl, refl, sym, ap, subst}
use Rattle.std.proofs.Common.{◌∙◌, arith}
use Rattle.std.specs.Prelude.{slice_get, sum_by, All, AllPairs, Contains}
use Rattle.std.proofs.lemmas.List.{length-map}
use Rattle.std.proofs.lemmas.List.Elements.{All-contains_itself, All-map, All-nil}
use Rattle.std.proofs.lemmas.Nat.{div-add-mod', le-div}
use Rattle.std.proofs.lemmas.Option.{slice_get_within}
use Rattle.meta_model.specs.Runs.{legs_of}
use Rattle.meta_model.specs.declared.group.Group.{Group}
use Rattle.meta_model.specs.declared.lv.Lv.{Lv}
use Rattle.meta_model.specs.declared.pv.Pv.{Pv}
use Rattle.meta_model.specs.declared.segment.Leg.{Leg}
use Rattle.meta_model.specs.declared.segment.On.{On}
use Rattle.meta_model.specs.declared.segment.On.TheVariants as on
use Rattle.meta_model.specs.declared.segment.SegKind.{SegKind}
use Rattle.meta_model.specs.declared.segment.SegKind.TheVariants.{Striped, Mirror}
use Rattle.meta_model.specs.declared.segment.Segment.{Segment}
use Rattle.volume_rules.proofs.LegRuns.{IsRunOf, run_is, run_of}
use Rattle.vg_check.specs.OwnNumbers.{OwnNumbersAreAllowed}
use Rattle.volume_rules.specs.Extents.{extents_of, leg_share}
use Rattle.volume_rules.specs.Legs.{LegRun, runs_of}
use Rattle.volume_rules.specs.Rules.{Follow, IsAccepted, IsSmall, Keeps, LvIsSmall, PvIsSmall, ids_of}
use Rattle.volume_rules.specs.declared.rule.Rule.TheVariants.{Numbers, Ids, Volumes, Segments, Extents, Follows, Stripes, Mirrors, Within}
use Rattle.volume_rules.specs.declared.rule.Rule.TheVariants.{Apart, Depth, Moved, Pvmove, Locked}
use Rattle.group_edits.proofs.EditedLegs.{LegsAreAllowed, legs_allowed, legs_kept}
use Rattle.group_edits.proofs.Edits.{Any, IsEdit, IsFront, IsNewLeg, IsThere, KeepsSegments, KeepsVolumes, Row, StaysAs, WasLeg}
use Rattle.group_edits.proofs.Edits.{WasRow, any_stays}
use Rattle.group_edits.proofs.Renumbered.{KeepsSegment, extents_same, follow_same, kind_is_same, legs_same, row_is_same, same_on}
use Rattle.group_edits.proofs.Renumbered.{segment_is_same, segment_keeps, segments_count, share_same, unchanged}
use Rattle.group_edits.proofs.Selections.{contains_at, map_at, map_from, map_part, sum_less}
use Rattle.group_edits.specs.NextVersion.{next_version, with_lvs}
use Rattle.group_edits.specs.Renumbered.{renumbered_kind, renumbered_leg, renumbered_lv, renumbered_row, renumbered_segment}

-- ---- segments

-- by the new numbers
renumbered_keeps : (number : On → On) (segments : List Segment)
    → KeepsSegments number segments (map (renumbered_segment number) segments)
renumbered_keeps number segments = record {
  from = λ s segment is.
      let old = map_from (renumbered_segment number) segments s segment is in (
        old.0,
        old.1,
        record {
          count = (let same = ap (λ (x : Segment). x.count) old.2 in omega (arith, same));
          kind = sym (ap (λ (x : Segment). x.kind) old.2);
        },
      );
  there = λ s old j leg m is at lies. map_at (renumbered_segment number) segments s old is;
}

-- as they were
pub same_keeps : (segments : List Segment) → KeepsSegments same_on segments segments
same_keeps segments = record {
  from = λ s segment is. (segment, is, record { count = omega arith; kind = sym (kind_is_same segment.kind) });
  there = λ s old j leg m is at lies. is ∙ ap (λ (x : Segment). Some x) (sym (segment_is_same old));
}

-- by the new numbers the volume stays
pub renumbered_stays : (number : On → On) (row : Row) → StaysAs number (KeepsSegments number) row (renumbered_row number row)
renumbered_stays number row =
    record { status = refl; hidden = λ hidden. refl; segments = renumbered_keeps number row.1.segments }

pub same_stays : (row : Row) → StaysAs same_on (KeepsSegments same_on) row row
same_stays row = record { status = refl; hidden = λ hidden. sym (row_is_same row); segments = same_keeps row.1.segments }

-- a front has no longer legs
share_less : (count most : ℕ) (kind : SegKind) → 1 ≤ length (legs_of kind) → count ≤ most → leg_share count kind ≤ leg_share most kind
share_less count most (Striped stripe legs) some less =
    let parts = div-add-mod' count (length legs) in
    le-div (count / length legs) most (length legs) (omega (arith, some)) (omega (arith, parts, less))
share_less count most (Mirror region moved legs) some less = less

share_front : (number : On → On) (was now : Segment) → IsFront number was now → 1 ≤ length (legs_of was.kind)
    → leg_share now.count now.kind ≤ leg_share was.count was.kind
share_front number was now front some =
    let same : leg_share now.count now.kind ≡ leg_share now.count was.kind =
    ap (leg_share now.count) front.kind ∙ share_same number now.count was.kind in
    let less = share_less now.count was.count was.kind some front.count in
    omega (arith, same, less)

-- ---- legs

module _ (group other : Group) (number : On → On) (pv_at lv_at : ℕ → ℕ) (PvStays Stays : ℕ → Type 0)
    (volumes : KeepsVolumes group other number pv_at lv_at PvStays Stays (KeepsSegments number))
    (old : (m : ℕ) (now : Row) → slice_get other.lvs m ≡ Some now → WasRow group number lv_at Stays (KeepsSegments number) m now) where
  leg_was : (run : LegRun) → Contains (runs_of other) run → WasLeg group number lv_at Stays run
  leg_was run within =
      let is : IsRunOf other.lvs 0 run = run_is other run within in
      let row : WasRow group number lv_at Stays (KeepsSegments number) is.nth is.volume = old is.nth is.volume is.is_volume in
      let part = row.kept.segments.from run.segment is.segment is.is_segment in
      let legs : legs_of is.segment.kind ≡ map (renumbered_leg number) (legs_of part.0.kind) =
      ap legs_of part.2.kind ∙ legs_same number part.0.kind in
      let leg =
      map_from (renumbered_leg number) (legs_of part.0.kind) run.leg is.leg
      (ap (λ (ls : List Leg). slice_get ls run.leg) (sym legs) ∙ is.is_leg) in
      let inside : run.leg < length (legs_of part.0.kind) = slice_get_within (legs_of part.0.kind) run.leg leg.0 leg.1 in
      let less = share_front number part.0 is.segment part.2 (omega (arith, inside)) in
      let r = run_of group row.n row.was run.segment part.0 run.leg leg.0 row.there part.1 leg.1 in
      let count = r.7 in
      record {
        was = r.0;
        within = r.1;
        stays = subst Stays (sym r.2) row.stays;
        lv = ap lv_at r.2 ∙ row.at ∙ (let e : is.nth ≡ run.lv = omega (arith, is.lv_is) in e);
        segment = r.3;
        leg = r.4;
        lies = ap number r.5 ∙ ap (λ (l : Leg). l.on) leg.2 ∙ sym is.on_is;
        first = r.6 ∙ ap (λ (l : Leg). l.first) leg.2 ∙ sym is.first_is;
        count = omega (arith, less, count, is.count_is);
      }

  leg_stands : (run : LegRun) (m : ℕ) → Contains (runs_of group) run → Stays run.lv → run.on ≡ on.Lv m
      → IsThere other number lv_at run
  leg_stands run m within stays lies =
      let is : IsRunOf group.lvs 0 run = run_is group run within in
      let at : is.nth ≡ run.lv = omega (arith, is.lv_is) in
      let now = volumes.lv_there is.nth is.volume (subst Stays (sym at) stays) is.is_volume in
      let part : slice_get now.0.1.segments run.segment ≡ Some (renumbered_segment number is.segment) =
      now.2.segments.there run.segment is.segment run.leg is.leg m is.is_segment is.is_leg (sym is.on_is ∙ lies) in
      let leg : slice_get (legs_of (renumbered_kind number is.segment.kind)) run.leg ≡ Some (renumbered_leg number is.leg) =
      ap (λ (ls : List Leg). slice_get ls run.leg) (legs_same number is.segment.kind)
      ∙ map_at (renumbered_leg number) (legs_of is.segment.kind) run.leg is.leg is.is_leg in
      let r =
      run_of other (lv_at is.nth) now.0 run.segment (renumbered_segment number is.segment) run.leg (renumbered_leg number is.leg) now.1
      part leg in
      record {
        now = r.0;
        within = r.1;
        lv = ap lv_at (sym at) ∙ sym r.2;
        lies = ap number is.on_is ∙ sym r.5;
        first = is.first_is ∙ sym r.6;
        count = is.count_is ∙ sym (share_same number is.segment.count is.segment.kind) ∙ sym r.7;
      }

  pub row_edit : IsEdit group other number pv_at lv_at PvStays Stays (KeepsSegments number)
  row_edit = record {
    volumes = volumes;
    more = [];
    new = All-nil (IsNewLeg group other number);
    apart = λ i j d before within. absurd (omega (arith, before, within));
    leg_from = λ run within. inl (leg_was run within);
    leg_there = leg_stands;
  }

-- each volume by its own number

module _ (group other : Group) (f : Row → Row) (rows : other.lvs ≡ map f group.lvs)
    (pvs : (n : ℕ) (pv : List ℕ × Pv) → slice_get group.pvs n ≡ Some pv
    → (now : List ℕ × Pv) × (slice_get other.pvs n ≡ Some now) × (now.0 ≡ pv.0) × (now.1.pe_count ≡ pv.1.pe_count))
    (stay : (row : Row) → Contains group.lvs row → StaysAs same_on (KeepsSegments same_on) row (f row)) where
  old_row : (m : ℕ) (now : Row) → slice_get other.lvs m ≡ Some now → WasRow group same_on unchanged Any (KeepsSegments same_on) m now
  old_row m now is =
      let was = map_from f group.lvs m now (ap (λ (rs : List Row). slice_get rs m) (sym rows) ∙ is) in
      record {
        n = m;
        was = was.0;
        stays = tt;
        at = refl;
        there = was.1;
        kept =
            subst (StaysAs same_on (KeepsSegments same_on) was.0) was.2 (stay was.0 (contains_at group.lvs m was.0 was.1));
      }

  pub mapped_volumes : KeepsVolumes group other same_on unchanged unchanged Any Any (KeepsSegments same_on)
  mapped_volumes = record {
    pv_is = λ n. refl;
    lv_is = λ n. refl;
    pv_apart = λ a b first second same. same;
    lv_apart = λ a b first second same. same;
    pv_there = λ n pv stays is. pvs n pv is;
    lv_there = λ n row stays is. (
      f row,
      ap (λ (rs : List Row). slice_get rs n) rows ∙ map_at f group.lvs n row is,
      stay row (contains_at group.lvs n row is),
    );
    lv_from = λ m now is. inl (old_row m now is);
    below = λ run within stays. any_stays run.on;
    above = λ run m within lies moves. tt;
  }

  pub mapped_legs : LegsAreAllowed group → LegsAreAllowed other
  mapped_legs legs =
      legs_kept group other same_on unchanged unchanged Any Any (KeepsSegments same_on)
      (row_edit group other same_on unchanged unchanged Any Any mapped_volumes old_row) legs

-- ---- the other rules

-- what they ask of a volume
pub record KeepsOwn (extent_size : ℕ) (lv : Lv) : Type 0 where
  pub created : IsSmall lv.created
  pub some : 1 ≤ length lv.segments
  pub follow : Follow 0 lv.segments
  pub ends : extents_of lv * extent_size < 2 ^ 48
  pub segments : All (KeepsSegment extent_size lv.status.pvmove) lv.segments

abbrev pub AllKeepOwn : ℕ → List Row → Type 0
AllKeepOwn extent_size rows = All (λ (row : Row). KeepsOwn extent_size row.1) rows

pub keep_own : (group : Group) → IsAccepted group → AllKeepOwn group.extent_size group.lvs
keep_own group accepted k d within = record {
  created = ((accepted Numbers).lvs k d within).0;
  some = (accepted Segments).some k d within;
  follow = ((accepted Follows) k d within).0;
  ends = ((accepted Follows) k d within).1;
  segments =
      λ s e inside. record {
        small = ((accepted Numbers).lvs k d within).1 s e inside;
        striped = (accepted Stripes) k d within s e inside;
        mirror = (accepted Mirrors) k d within s e inside;
        moved = (accepted Moved) k d within s e inside;
      };
}

own_small : (extent_size : ℕ) (lv : Lv) → KeepsOwn extent_size lv → LvIsSmall lv
own_small extent_size lv own = (own.created, λ s e inside. (own.segments s e inside).small)

renumbered_own : (number : On → On) (extent_size : ℕ) (lv : Lv) → KeepsOwn extent_size lv
    → KeepsOwn extent_size (renumbered_lv number lv)
renumbered_own number extent_size lv own = record {
  created = own.created;
  some = (let some = own.some in omega (arith, some, segments_count number lv));
  follow = follow_same number 0 lv.segments own.follow;
  ends = subst (λ (n : ℕ). n * extent_size < 2 ^ 48) (sym (extents_same number lv)) own.ends;
  segments =
      All-map (KeepsSegment extent_size lv.status.pvmove) (renumbered_segment number) lv.segments
      (λ s e inside. segment_keeps number extent_size lv.status.pvmove (get_or lv.segments s e) (own.segments s e inside));
}

pub all_renumbered : (number : On → On) (extent_size : ℕ) (rows : List Row) → AllKeepOwn extent_size rows
    → AllKeepOwn extent_size (map (renumbered_row number) rows)
all_renumbered number extent_size rows all =
    All-map (λ (row : Row). KeepsOwn extent_size row.1) (renumbered_row number) rows
    (λ k d within. renumbered_own number extent_size (get_or rows k d).1 (all k d within))

pub segments_renumbered : (number : On → On) (rows : List Row)
    → sum_by (λ (row : Row). length row.1.segments) (map (renumbered_row number) rows) ≤ sum_by (λ (row : Row). length row.1.segments) rows
segments_renumbered number rows =
    sum_less (renumbered_row number) (λ (row : Row). length row.1.segments)
    (λ row. (let e = segments_count number row.1 in omega (arith, e))) rows

pub all_rules : (other : Group) → OwnNumbersAreAllowed other → All (λ (pv : List ℕ × Pv). PvIsSmall pv.1) other.pvs → Keeps other Ids
    → Keeps other Volumes → sum_by (λ (row : Row). length row.1.segments) other.lvs ≤ 16384 → Keeps other Extents
    → AllKeepOwn other.extent_size other.lvs → LegsAreAllowed other → IsAccepted other
all_rules other numbers pvs ids volumes few extents own legs = keeps where
  keeps : IsAccepted other
  keeps Numbers = record {
    seqno = numbers.0;
    extent_size = numbers.1;
    limits = numbers.2;
    pvs = pvs;
    lvs = λ k d within. own_small other.extent_size (get_or other.lvs k d).1 (own k d within);
  }
  keeps Ids = ids
  keeps Volumes = volumes
  keeps Segments = record { few = few; some = λ k d within. (own k d within).some }
  keeps Extents = extents
  keeps Follows = λ k d within. ((own k d within).follow, (own k d within).ends)
  keeps Stripes = λ k d within s e inside. ((own k d within).segments s e inside).striped
  keeps Mirrors = λ k d within s e inside. ((own k d within).segments s e inside).mirror
  keeps Within = legs.within
  keeps Apart = legs.apart
  keeps Depth = legs.depth
  keeps Moved = λ k d within s e inside. ((own k d within).segments s e inside).moved
  keeps Pvmove = legs.pvmove
  keeps Locked = legs.locked

pub next_numbers : (group : Group) → IsAccepted group → group.seqno < 4294967295 → OwnNumbersAreAllowed (next_version group)
next_numbers group accepted below = (
  (omega arith, omega (arith, below)),
  (accepted Numbers).extent_size,
  (accepted Numbers).limits,
)

-- the next version with these logical volumes keeps all rules
pub next_accepted : (group : Group) (lvs : List Row) → IsAccepted group → group.seqno < 4294967295 → Keeps (with_lvs group lvs) Ids
    → Keeps (with_lvs group lvs) Volumes → sum_by (λ (row : Row). length row.1.segments) lvs ≤ 16384
    → AllKeepOwn group.extent_size lvs → LegsAreAllowed (with_lvs group lvs) → IsAccepted (with_lvs group lvs)
next_accepted group lvs accepted below ids volumes few own legs =
    all_rules (with_lvs group lvs) (next_numbers group accepted below) (accepted Numbers).pvs
    ids volumes few (accepted Extents) own legs

-- with no more of them than before
pub fewer_volumes : (group : Group) (lvs : List Row) → IsAccepted group → length lvs ≤ length group.lvs → Keeps (with_lvs group lvs) Volumes
fewer_volumes group lvs accepted less = record {
  pvs = (accepted Volumes).pvs;
  lvs = let few = (accepted Volumes).lvs in omega (arith, less, few);
  max_pv = (accepted Volumes).max_pv;
  max_lv = λ limit. let few = (accepted Volumes).max_lv limit in omega (arith, less, few);
}

-- where each volume is changed so, and keeps its id and its number
pub mapped_accepted : (group : Group) (f : Row → Row) → ((row : Row) → (f row).1.id ≡ row.1.id)
    → ((row : Row) → length (f row).1.segments ≤ length row.1.segments)
    → ((row : Row) → Contains group.lvs row → StaysAs same_on (KeepsSegments same_on) row (f row))
    → ((row : Row) → Contains group.lvs row → KeepsOwn group.extent_size row.1 → KeepsOwn group.extent_size (f row).1)
    → group.seqno < 4294967295 → IsAccepted group → IsAccepted (with_lvs group (map f group.lvs))
mapped_accepted group f id fewer stay own below accepted =
    next_accepted group (map f group.lvs) accepted below
    (subst (AllPairs (λ (a b : List ℕ). a ≡ b → ⊥)) (sym same) (accepted Ids))
    (fewer_volumes group (map f group.lvs) accepted (let e = length-map group.lvs f in omega (arith, e)))
    (let less = sum_less f (λ (row : Row). length row.1.segments) fewer group.lvs in let few = (accepted Segments).few in
    omega (arith, less, few))
    (All-map (λ (row : Row). KeepsOwn group.extent_size row.1) f group.lvs
    (λ k d within. own (get_or group.lvs k d) (All-contains_itself group.lvs k d within) (keep_own group accepted k d within)))
    (mapped_legs group (with_lvs group (map f group.lvs)) f refl (λ n pv is. (pv, is, refl, refl)) stay (legs_allowed group accepted))
  where
    same : ids_of (with_lvs group (map f group.lvs)) ≡ ids_of group
    same =
        ap (λ (ids : List (List ℕ)). group.id ∷ (map (λ (pv : List ℕ × Pv). pv.1.id) group.pvs ++ ids))
        (map_part f (λ (row : Row). row.1.id) id group.lvs)
