-- A group in which one volume has more segments on free extents keeps all rules.
use Rattle.std.proofs.Common.{◌≡◌, ◌≤◌, ◌<◌, ℕ, zero, suc, ◌+◌, ◌*◌, ◌^◌, true, List, [], ◌∷◌, ◌++◌, length, map, Some, None, inl}
use Rattle.std.proofs.Common.{refl, sym, ap, subst, ◌∙◌, append_assoc, true≢false, arith}
use Rattle.std.specs.Prelude.{◌≢◌, slice_get, sum_by, All, AllPairs}
use Rattle.std.proofs.lemmas.List.{length-append}
use Rattle.std.proofs.lemmas.List.Elements.{All-append, All-from_recursion, All-head, All-tail, recursion_from_All}
use Rattle.meta_model.specs.Runs.{legs_of}
use Rattle.meta_model.specs.declared.group.Group.{Group}
use Rattle.meta_model.specs.declared.lv.Lv.{Lv}
use Rattle.meta_model.specs.declared.pv.Pv.{Pv}
use Rattle.meta_model.specs.declared.segment.SegKind.{SegKind}
use Rattle.meta_model.specs.declared.segment.SegKind.TheVariants.{Striped, Mirror}
use Rattle.meta_model.specs.declared.segment.Segment.{Segment}
use Rattle.extent_alloc.specs.declared.part.Part.{Part}
use Rattle.volume_rules.specs.Extents.{extents_of, leg_share}
use Rattle.volume_rules.specs.Legs.{LegRun, runs_of, runs_of_legs, runs_of_segments, runs_of_volumes}
use Rattle.volume_rules.specs.Rules.{Follow, IsAccepted, IsWholeMirror, IsWholeStriped, Keeps, KindIsSmall, LvIsSmall, SegmentIsSmall}
use Rattle.volume_rules.specs.declared.rule.Rule.TheVariants.{Numbers, Ids, Segments, Follows, Stripes, Mirrors}
use Rattle.group_edits.proofs.EditedLegs.{legs_allowed}
use Rattle.group_edits.proofs.EditedRows.{KeepsOwn, fewer_volumes, keep_own, next_accepted}
use Rattle.group_edits.proofs.GivenRules.{extents_both, follow_both, legs_some, parts_follow, parts_keep, segments_count}
use Rattle.group_edits.proofs.GivenRuns.{runs_apart, runs_new}
use Rattle.group_edits.proofs.GrownRules.{IsGrown, Stays, grown_legs, stays_same}
use Rattle.group_edits.proofs.Renumbered.{KeepsSegment}
use Rattle.group_edits.proofs.Split.{at_replaced, each_between, each_replaced, length_replaced, map_replaced, sum_replaced}
use Rattle.group_edits.specs.GivenSegments.{MayHaveLegs, extents_in, segments_in, segments_of}
use Rattle.group_edits.specs.LongerVolume.{MayGrow, last_kind, longer, longer_row}
use Rattle.group_edits.specs.NextVersion.{with_lvs}

abbrev Row : Type 0
Row = List ℕ × Lv

-- ---- runs of parts of lists

pub segments_both : (lv number : ℕ) (xs ys : List Segment)
    → runs_of_segments lv number (xs ++ ys) ≡ runs_of_segments lv number xs ++ runs_of_segments lv (number + length xs) ys
segments_both lv number [] ys = ap (λ (n : ℕ). runs_of_segments lv n ys) (let e : number ≡ number + 0 = omega arith in e)
segments_both lv number (x ∷ xs) ys =
    let first : List LegRun = runs_of_legs lv number (leg_share x.count x.kind) 0 (legs_of x.kind) in
    ap (λ (runs : List LegRun). first ++ runs)
    (segments_both lv (number + 1) xs ys
    ∙ ap (λ (n : ℕ). runs_of_segments lv (number + 1) xs ++ runs_of_segments lv n ys)
    (let e : number + 1 + length xs ≡ number + suc (length xs) = omega arith in e))
    ∙ sym (append_assoc first (runs_of_segments lv (number + 1) xs) (runs_of_segments lv (number + suc (length xs)) ys))

pub volumes_both : (number : ℕ) (xs ys : List Row)
    → runs_of_volumes number (xs ++ ys) ≡ runs_of_volumes number xs ++ runs_of_volumes (number + length xs) ys
volumes_both number [] ys = ap (λ (n : ℕ). runs_of_volumes n ys) (let e : number ≡ number + 0 = omega arith in e)
volumes_both number (x ∷ xs) ys =
    let first : List LegRun = runs_of_segments number 0 x.1.segments in
    ap (λ (runs : List LegRun). first ++ runs)
    (volumes_both (number + 1) xs ys
    ∙ ap (λ (n : ℕ). runs_of_volumes (number + 1) xs ++ runs_of_volumes n ys)
    (let e : number + 1 + length xs ≡ number + suc (length xs) = omega arith in e))
    ∙ sym (append_assoc first (runs_of_volumes (number + 1) xs) (runs_of_volumes (number + suc (length xs)) ys))

-- what holds of each segment holds of the last one's kind
module _ (P : Segment → Type 0) (Q : SegKind → Type 0) (step : (segment : Segment) → P segment → Q segment.kind) where
  last_is : (segments : List Segment) → 1 ≤ length segments → All P segments → Q (last_kind segments)
  last_is [] some all = absurd (omega (arith, some))
  last_is (segment ∷ []) some all = step segment (All-head P segment [] all)
  last_is (segment ∷ next ∷ segments) some all = last_is (next ∷ segments) (omega arith) (All-tail P segment (next ∷ segments) all)

-- an extent has sectors, so that there are no more extents than sectors
pub below_sectors : (group : Group) → IsAccepted group → (n : ℕ) → n * group.extent_size < 2 ^ 48 → n < 2 ^ 48
below_sectors group accepted n below = by group.extent_size (accepted Numbers).extent_size.0 below where
  times : (a b : ℕ) → a ≤ a * suc b
  times a b = omega arith

  by : (size : ℕ) → 8 ≤ size → n * size < 2 ^ 48 → n < 2 ^ 48
  by zero least below = absurd (omega (arith, least))
  by (suc size) least below = omega (arith, times n size, below)

-- ---- the group

module _ (group : Group) (before after : List Row) (row : Row) (rows : group.lvs ≡ before ++ row ∷ after) (accepted : IsAccepted group)
  where
    abbrev kind : SegKind
    kind = last_kind row.1.segments

    abbrev count : ℕ
    count = length (legs_of kind)

    -- a rule that asks something of each volume asks it of this one
    pub its : (P : Row → Type 0) → All P group.lvs → P row
    its P all = each_between P before after row (recursion_from_All P (before ++ row ∷ after) (subst (All P) rows all))

    pub its_some : 1 ≤ length row.1.segments
    its_some = its (λ (r : Row). 1 ≤ length r.1.segments) (accepted Segments).some

    pub follows : Follow 0 row.1.segments × (extents_of row.1 * group.extent_size < 2 ^ 48)
    follows = its (λ (r : Row). Follow 0 r.1.segments × (extents_of r.1 * group.extent_size < 2 ^ 48)) (accepted Follows)

    -- ---- its last segment's kind

    pub legs_may : MayHaveLegs group.extent_size count kind
    legs_may =
        by kind
        (last_is SegmentIsSmall KindIsSmall (λ segment small. small.2) row.1.segments its_some
        (its (λ (r : Row). LvIsSmall r.1) (accepted Numbers).lvs).1)
        (last_is (λ (s : Segment). IsWholeStriped group.extent_size s.count s.kind)
        (λ (k : SegKind). (n : ℕ) × IsWholeStriped group.extent_size n k) (λ segment whole. (segment.count, whole)) row.1.segments
        its_some
        (its (λ (r : Row). All (λ segment. IsWholeStriped group.extent_size segment.count segment.kind) r.1.segments) (accepted Stripes)))
        (last_is (λ (s : Segment). IsWholeMirror s.kind) IsWholeMirror (λ segment whole. whole) row.1.segments its_some
        (its (λ (r : Row). All (λ segment. IsWholeMirror segment.kind) r.1.segments) (accepted Mirrors)))
      where
        by : (k : SegKind) → KindIsSmall k → (n : ℕ) × IsWholeStriped group.extent_size n k → IsWholeMirror k
            → MayHaveLegs group.extent_size (length (legs_of k)) k
        by (Striped stripe legs) small striped mirror = (small.0, striped.1.0, striped.1.1, striped.1.3)
        by (Mirror region None legs) small striped mirror = (small.0, mirror.0, mirror.1, mirror.2, mirror.3)
        by (Mirror region (Some moved) legs) small striped mirror = (small.0, mirror.0, mirror.1, mirror.2, mirror.3)

    pub some_legs : 1 ≤ count
    some_legs = legs_some kind group.extent_size count legs_may

    -- ---- it is longer

    module _ (given : List Part) (seen : row.1.status.visible ≡ true) (may : MayGrow group row.1 given) where
      abbrev lvs : List Row
      lvs = before ++ longer_row given row ∷ after

      abbrev next : Group
      next = with_lvs group lvs

      -- and all of them are as it asks, where the longer one is
      all_next : (P : Row → Type 0) → All P group.lvs → P (longer_row given row) → All P lvs
      all_next P all here =
          All-from_recursion P lvs (each_replaced P before after row (longer_row given row)
          (recursion_from_All P (before ++ row ∷ after) (subst (All P) rows all)) here)

      abbrev added : List Segment
      added = segments_of kind (extents_of row.1) given

      -- ---- the rules on segments

      longer_extents : extents_of (longer given row.1) ≡ extents_of row.1 + extents_in added
      longer_extents = extents_both row.1.segments added

      pub ends : extents_of row.1 + extents_in added < 2 ^ 48
      ends = subst (λ (n : ℕ). n < 2 ^ 48) longer_extents (below_sectors group accepted (extents_of (longer given row.1)) may.sectors)

      longer_own : KeepsOwn group.extent_size (longer given row.1)
      longer_own =
          let own : KeepsOwn group.extent_size row.1 =
          its (λ (r : Row). KeepsOwn group.extent_size r.1) (keep_own group accepted) in
          record {
            created = own.created;
            some =
                (let more : length (row.1.segments ++ added) ≡ length row.1.segments + length added =
                length-append row.1.segments added in let some = own.some in omega (arith, more, some));
            follow =
                follow_both 0 row.1.segments added own.follow
                (subst (λ (n : ℕ). Follow n added) (let e : extents_of row.1 ≡ 0 + extents_of row.1 = omega arith in e)
                (parts_follow kind group count given legs_may may.laid (extents_of row.1)));
            ends = may.sectors;
            segments =
                All-append (KeepsSegment group.extent_size row.1.status.pvmove) row.1.segments added own.segments
                (parts_keep kind group count given legs_may may.laid row.1.status.pvmove (accepted Numbers).pvs (extents_of row.1) ends);
          }

      ids_kept : Keeps next Ids
      ids_kept =
          subst (λ (ids : List (List ℕ)). AllPairs (λ (a b : List ℕ). a ≢ b)
          (group.id ∷ (map (λ (pv : List ℕ × Pv). pv.1.id) group.pvs ++ ids)))
          (ap (map (λ (lv : Row). lv.1.id)) rows ∙ map_replaced (λ (lv : Row). lv.1.id) before after row (longer_row given row) refl)
          (accepted Ids)

      count_same : length lvs ≡ length group.lvs
      count_same = sym (ap (λ (rs : List Row). length rs) rows ∙ length_replaced before after row (longer_row given row))

      abbrev segments_of_row : Row → ℕ
      segments_of_row r = length r.1.segments

      segments_few : sum_by segments_of_row lvs ≤ 16384
      segments_few =
          let more : length (row.1.segments ++ added) ≡ length row.1.segments + length given =
          length-append row.1.segments added ∙ ap (λ (n : ℕ). length row.1.segments + n)
          (segments_count kind (extents_of row.1) given) in
          let replaced : sum_by segments_of_row lvs + length row.1.segments
          ≡ sum_by segments_of_row (before ++ row ∷ after) + length (row.1.segments ++ added) =
          sum_replaced segments_of_row before after row (longer_row given row)
          in
          let was : segments_in group ≡ sum_by segments_of_row (before ++ row ∷ after) = ap (sum_by segments_of_row) rows in
          let most = may.segments in
          omega (arith, more, replaced, was, most)

      -- ---- the rules on legs

      abbrev number : ℕ
      number = 0 + length before

      abbrev front : List LegRun
      front = runs_of_volumes 0 before ++ runs_of_segments number 0 row.1.segments

      abbrev back : List LegRun
      back = runs_of_volumes (number + 1) after

      abbrev more : List LegRun
      more = runs_of_segments number (0 + length row.1.segments) added

      grows : Stays row (longer_row given row)
      grows = record { status = refl; hidden = λ none. absurd (true≢false (sym seen ∙ none)); segments = tt }

      pub is_grown : IsGrown group lvs
      unfolding runs_of
      is_grown = record {
        front = front;
        more = more;
        back = back;
        was =
            ap (runs_of_volumes 0) rows ∙ volumes_both 0 before (row ∷ after)
            ∙ sym (append_assoc (runs_of_volumes 0 before) (runs_of_segments number 0 row.1.segments) back);
        is = volumes_both 0 before (longer_row given row ∷ after)
            ∙ ap (λ (runs : List LegRun). runs_of_volumes 0 before ++ (runs ++ back)) (segments_both number 0 row.1.segments added)
            ∙ ap (λ (runs : List LegRun). runs_of_volumes 0 before ++ runs)
            (append_assoc (runs_of_segments number 0 row.1.segments) more back)
            ∙ sym (append_assoc (runs_of_volumes 0 before) (runs_of_segments number 0 row.1.segments) (more ++ back));
        new = runs_new group count given may.laid some_legs kind number (0 + length row.1.segments) (extents_of row.1);
        apart = runs_apart group count given may.laid some_legs kind number (0 + length row.1.segments) (extents_of row.1);
        stays =
            λ n r there. at_replaced Stays stays_same before after row
            (longer_row given row) grows n r (ap (λ (rs : List Row). slice_get rs n) (sym rows) ∙ there);
        came = λ n later there.
            let found =
            at_replaced (λ (r s : Row). Stays s r) stays_same before
            after (longer_row given row) row grows n later there in
            inl (found.0, ap (λ (rs : List Row). slice_get rs n) rows ∙ found.1, found.2);
      }

      pub longer_accepted : group.seqno < 4294967295 → IsAccepted next
      longer_accepted below =
          next_accepted group lvs accepted below ids_kept
          (fewer_volumes group lvs accepted (let same = count_same in omega (arith, same))) segments_few
          (all_next (λ (r : Row). KeepsOwn group.extent_size r.1) (keep_own group accepted) longer_own)
          (grown_legs group lvs is_grown (legs_allowed group accepted))
