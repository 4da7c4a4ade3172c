-- A group in which a visible volume has its first extents alone keeps all rules, and can be printed.
use Rattle.std.proofs.Common.{◌≡◌, ◌≤◌, ◌<◌, ℕ, zero, suc, ◌-◌, ◌*◌, ◌^◌, Bool, true, false, cond, List, [], ◌∷◌, length, Some, None}
use Rattle.std.proofs.Common.{refl, sym, ap, subst, ◌∙◌, arith, map}
use Rattle.std.specs.Prelude.{is_some, nat_le, slice_get, All, Contains}
use Rattle.std.specs.List.{AllByRecursion as Each, list_any}
use Rattle.std.proofs.lemmas.Bool.{true≢false}
use Rattle.std.proofs.lemmas.List.Elements.{All-contains, All-from_recursion, recursion_from_All}
use Rattle.std.proofs.lemmas.Option.{same_Some}
use Rattle.std.specs.Str.{bytes_eq}
use Rattle.meta_model.specs.Runs.{legs_of}
use Rattle.meta_model.specs.declared.group.Group.{Group}
use Rattle.meta_model.specs.declared.lv.Lv.{Lv}
use Rattle.meta_model.specs.declared.segment.Leg.{Leg}
use Rattle.meta_model.specs.declared.segment.On.{On}
use Rattle.meta_model.specs.declared.segment.On.TheVariants as on
use Rattle.meta_model.specs.declared.segment.SegKind.{SegKind}
use Rattle.meta_model.specs.declared.segment.SegKind.TheVariants.{Striped, Mirror}
use Rattle.meta_model.specs.declared.segment.Segment.{Segment}
use Rattle.meta_print.proofs.Printable.{IsPrintable, AreNames, IsLv, IsSegment}
use Rattle.volume_rules.specs.Moving.{lv_number}
use Rattle.volume_rules.specs.Rules.{IsAccepted, IsWholeMirror, IsWholeStriped, MovedIsAllowed, SegmentIsSmall}
use Rattle.volume_rules.specs.declared.rule.Rule.TheVariants.{Pvmove}
use Rattle.group_edits.proofs.EditedLegs.{legs_allowed}
use Rattle.group_edits.proofs.EditedPrintable.{rows_print}
use Rattle.group_edits.proofs.EditedRows.{KeepsOwn, mapped_accepted, mapped_volumes, same_stays}
use Rattle.group_edits.proofs.Edits.{Any, IsFront, KeepsSegments, KeepsVolumes, Row, StaysAs}
use Rattle.group_edits.proofs.GrownPrintable.{version_printable}
use Rattle.list_laws.proofs.Inserted.{none_passes}
use Rattle.group_edits.proofs.KeptExtents.{IsShared}
use Rattle.group_edits.proofs.OneNamed.{IsVisibleAt, is_this, visible_at}
use Rattle.group_edits.proofs.PrintedNames.{lv_names}
use Rattle.group_edits.proofs.Renumbered.{kind_is_same, same_on, unchanged}
use Rattle.group_edits.proofs.Selections.{contains_at, map_part}
use Rattle.group_edits.proofs.ShortFront.{cut, each_front, fewer_extents, fewer_segments, follow_front, le_by, some_segment}
use Rattle.group_edits.proofs.ShortFront.{stripes_front}
use Rattle.group_edits.specs.NextVersion.{changed_if}
use Rattle.group_edits.specs.ShortenedVolume.{HasFewLegs, MayKeep, front_of, has_layer, is_layered, is_on_lv, shortened, shortened_volume}
use Rattle.group_edits.specs.Visible.{visible_named}

-- where none passes, the one at a place doesn't
none_there : {X : Type 0} (p : X → Bool) (xs : List X) (n : ℕ) (x : X) → list_any p xs ≡ false → slice_get xs n ≡ Some x → p x ≡ false
none_there p xs n x none is =
    All-contains (λ y. p y ≡ false) xs x (All-from_recursion (λ y. p y ≡ false) xs (none_passes p xs none)) (contains_at xs n x is)

-- a volume that isn't layered has no leg on a volume
no_layer : (lv : Lv) (k : ℕ) (segment : Segment) (j : ℕ) (leg : Leg) (m : ℕ) → is_layered lv ≡ false
    → slice_get lv.segments k ≡ Some segment → slice_get (legs_of segment.kind) j ≡ Some leg → leg.on ≡ on.Lv m → ⊥
no_layer lv k segment j leg m apart is at same =
    true≢false (sym (ap (λ (o : On). is_some (lv_number o)) same)
    ∙ none_there is_on_lv (legs_of segment.kind) j leg (none_there has_layer lv.segments k segment apart is) at)

-- a segment with whole stripes or mirrors has one to eight legs
few_legs : (size count : ℕ) (kind : SegKind) → IsWholeStriped size count kind → IsWholeMirror kind → HasFewLegs kind
few_legs size count (Striped stripe legs) striped mirror = (striped.0, striped.1)
few_legs size count (Mirror region moved legs) striped mirror = (omega (arith, mirror.0), mirror.1)

pub segments_few : (size : ℕ) (segments : List Segment) → Each (λ (s : Segment). IsWholeStriped size s.count s.kind) segments
    → Each (λ (s : Segment). IsWholeMirror s.kind) segments → Each (λ (s : Segment). HasFewLegs s.kind) segments
segments_few size [] striped mirror = tt
segments_few size (segment ∷ segments) striped mirror =
    (few_legs size segment.count segment.kind striped.0 mirror.0, segments_few size segments striped.1 mirror.1)

pub segments_shared : (size : ℕ) (segments : List Segment) → Each (λ (s : Segment). IsWholeStriped size s.count s.kind) segments
    → Each (λ (s : Segment). HasFewLegs s.kind) segments → Each (IsShared size) segments
segments_shared size [] striped few = tt
segments_shared size (segment ∷ segments) striped few = ((few.0.0, striped.0), segments_shared size segments striped.1 few.1)

-- ---- segments

abbrev WasSegment : List Segment → ℕ → Segment → Type 0
WasSegment segments s segment = (old : Segment) × (slice_get segments s ≡ Some old) × IsFront same_on old segment

front_from : (segments : List Segment) (left s : ℕ) (segment : Segment) → slice_get (front_of segments left) s ≡ Some segment
    → WasSegment segments s segment
front_from [] left s segment is = absurd cc
front_from (x ∷ segments) zero s segment is = absurd cc
front_from (x ∷ segments) (suc count) s segment is =
    by (nat_le (suc count) x.count) refl s is (λ k at. front_from segments (suc count - x.count) k segment at) where
      first : (here : Segment) → here.count ≤ x.count → here.kind ≡ x.kind → here ≡ segment → WasSegment (x ∷ segments) 0 segment
      first here less kind same = (
        x,
        refl,
        record {
          count = (let e = ap (λ (g : Segment). g.count) same in omega (arith, e, less));
          kind = sym (ap (λ (g : Segment). g.kind) same) ∙ kind ∙ sym (kind_is_same x.kind);
        },
      )

      by : (b : Bool) → nat_le (suc count) x.count ≡ b → (k : ℕ)
          → slice_get (cond b (cut x (suc count) ∷ []) (x ∷ front_of segments (suc count - x.count))) k ≡ Some segment
          → ((j : ℕ) → slice_get (front_of segments (suc count - x.count)) j ≡ Some segment → WasSegment segments j segment)
          → WasSegment (x ∷ segments) k segment
      by true less zero at later =
          first (cut x (suc count)) (le_by (suc count) x.count less) refl (same_Some (cut x (suc count)) segment at)
      by true less (suc k) at later = absurd cc
      by false more zero at later = first x (omega arith) refl (same_Some x segment at)
      by false more (suc k) at later = later k at

-- the first segments of a volume that isn't layered
front_keeps : (lv : Lv) (left : ℕ) → is_layered lv ≡ false → KeepsSegments same_on lv.segments (front_of lv.segments left)
front_keeps lv left apart = record {
  from = front_from lv.segments left;
  there = λ s old j leg m is at lies. absurd (no_layer lv s old j leg m apart is at lies);
}

-- ---- the volume

module _ (size left : ℕ) (lv : Lv) (may : MayKeep left lv) (not_pvmove : lv.status.pvmove ≡ false) (own : KeepsOwn size lv) where
  abbrev segments : List Segment
  segments = lv.segments

  striped : Each (λ (s : Segment). IsWholeStriped size s.count s.kind) segments
  striped =
      recursion_from_All (λ (s : Segment). IsWholeStriped size s.count s.kind) segments (λ s e inside. (own.segments s e inside).striped)

  mirrored : Each (λ (s : Segment). IsWholeMirror s.kind) segments
  mirrored = recursion_from_All (λ (s : Segment). IsWholeMirror s.kind) segments (λ s e inside. (own.segments s e inside).mirror)

  -- what holds of each segment, and of one that is cut
  front_all : (P : Segment → Type 0) → ((segment : Segment) (count : ℕ) → P segment → count ≤ segment.count → P (cut segment count))
      → All P segments → All P (front_of segments left)
  front_all P step all = All-from_recursion P (front_of segments left) (each_front P step segments left (recursion_from_All P segments all))

  abbrev MayMove : Segment → Type 0
  MayMove segment = MovedIsAllowed lv.status.pvmove segment.count segment.kind

  cut_moved : (count less : ℕ) (kind : SegKind) → MovedIsAllowed lv.status.pvmove count kind → MovedIsAllowed lv.status.pvmove less kind
  cut_moved count less (Striped stripe legs) is = tt
  cut_moved count less (Mirror region None legs) is = tt
  cut_moved count less (Mirror region (Some moved) legs) is = absurd (true≢false (sym is.0 ∙ not_pvmove))

  lower : (a b : ℕ) → a ≤ b → b * size < 2 ^ 48 → a * size < 2 ^ 48
  lower a b less small = grind (arith, less, small)

  short_own : KeepsOwn size (shortened left lv)
  short_own = record {
    created = own.created;
    some = some_segment segments left may.some own.some;
    follow = follow_front 0 segments left own.follow;
    ends = lower _ _ (fewer_extents segments left) own.ends;
    segments =
        λ s e inside. record {
          small =
              front_all SegmentIsSmall (λ segment count is less. (is.0, omega (arith, is.1, less), is.2))
              (λ k d within. (own.segments k d within).small) s e inside;
          striped =
              All-from_recursion (λ (s : Segment). IsWholeStriped size s.count s.kind) (front_of segments left)
              (stripes_front size segments left may.whole
              (segments_shared size segments striped (segments_few size segments striped mirrored))) s e inside;
          mirror =
              front_all (λ (s : Segment). IsWholeMirror s.kind) (λ segment count is less. is)
              (λ k d within. (own.segments k d within).mirror) s e inside;
          moved =
              front_all MayMove (λ segment count is less. cut_moved segment.count count segment.kind is)
              (λ k d within. (own.segments k d within).moved) s e inside;
        };
  }

-- ---- the group

module _ (group : Group) (name : List ℕ) (left : ℕ) (v : ℕ × Lv) (accepted : IsAccepted group) (can : IsPrintable group)
    (found : visible_named group name ≡ Some v) (may : MayKeep left v.1) where
  at : IsVisibleAt 0 name group.lvs v
  at = visible_at group name v found

  this : (row : Row) → Contains group.lvs row → bytes_eq row.0 name ≡ true → row.1 ≡ v.1
  this row within same = is_this group name v can found row within same

  seen : v.1.status.visible ≡ true
  seen = ap (λ (lv : Lv). lv.status.visible) (sym at.volume) ∙ at.visible

  -- a visible volume isn't the PVMOVE volume
  not_pvmove : v.1.status.pvmove ≡ false
  not_pvmove = by v.1.status.pvmove refl where
    row_there : slice_get group.lvs at.k ≡ Some (at.row.0, v.1)
    row_there = at.there ∙ ap (λ (lv : Lv). Some (at.row.0, lv)) at.volume

    by : (b : Bool) → v.1.status.pvmove ≡ b → b ≡ false
    by true has = absurd (true≢false (sym seen ∙ ((accepted Pvmove).whole at.k at.row.0 v.1 row_there has).hidden))
    by false has = refl

  short_stays : (row : Row) → Contains group.lvs row → bytes_eq row.0 name ≡ true
      → StaysAs same_on (KeepsSegments same_on) row (row.0, shortened left row.1)
  short_stays row within same =
      let volume : row.1 ≡ v.1 = this row within same in
      record {
        status = refl;
        hidden = λ hidden. absurd (true≢false (sym seen ∙ ap (λ (lv : Lv). lv.status.visible) (sym volume) ∙ hidden));
        segments = front_keeps row.1 left (ap is_layered volume ∙ may.apart);
      }

  stay : (row : Row) → Contains group.lvs row
      → StaysAs same_on (KeepsSegments same_on) row (changed_if name (λ (r : Row). (r.0, shortened left r.1)) row)
  stay row within = by (bytes_eq row.0 name) refl where
    by : (b : Bool) → bytes_eq row.0 name ≡ b → StaysAs same_on (KeepsSegments same_on) row (cond b (row.0, shortened left row.1) row)
    by true same = short_stays row within same
    by false same = same_stays row

  pub short_volumes : KeepsVolumes group (shortened_volume name left group) same_on unchanged unchanged Any Any (KeepsSegments same_on)
  short_volumes =
      mapped_volumes group (shortened_volume name left group) (changed_if name (λ (r : Row). (r.0, shortened left r.1))) refl
      (λ n pv is. (pv, is, refl, refl)) stay

  pub short_accepted : group.seqno < 4294967295 → IsAccepted (shortened_volume name left group)
  short_accepted below =
      mapped_accepted group (changed_if name (λ (r : Row). (r.0, shortened left r.1))) id fewer stay own below accepted where
        id : (row : Row) → (changed_if name (λ (r : Row). (r.0, shortened left r.1)) row).1.id ≡ row.1.id
        id row = by (bytes_eq row.0 name) where
          by : (b : Bool) → (cond b (row.0, shortened left row.1) row).1.id ≡ row.1.id
          by true = refl
          by false = refl

        fewer : (row : Row) → length (changed_if name (λ (r : Row). (r.0, shortened left r.1)) row).1.segments ≤ length row.1.segments
        fewer row = by (bytes_eq row.0 name) where
          by : (b : Bool) → length (cond b (row.0, shortened left row.1) row).1.segments ≤ length row.1.segments
          by true = fewer_segments row.1.segments left
          by false = omega arith

        own : (row : Row) → Contains group.lvs row → KeepsOwn group.extent_size row.1
            → KeepsOwn group.extent_size (changed_if name (λ (r : Row). (r.0, shortened left r.1)) row).1
        own row within is = by (bytes_eq row.0 name) refl where
          by : (b : Bool) → bytes_eq row.0 name ≡ b → KeepsOwn group.extent_size (cond b (row.0, shortened left row.1) row).1
          by true same =
              let volume : v.1 ≡ row.1 = sym (this row within same) in
              subst (λ (lv : Lv). KeepsOwn group.extent_size (shortened left lv)) volume
              (short_own group.extent_size left v.1 may not_pvmove (subst (KeepsOwn group.extent_size) (sym volume) is))
          by false same = is

-- ---- it can be printed

module _ (group : Group) (name : List ℕ) (left : ℕ) where
  abbrev other : Group
  other = shortened_volume name left group

  cut_segment : (segment : Segment) (count : ℕ) → IsSegment other segment → count ≤ segment.count → IsSegment other (cut segment count)
  cut_segment segment count is less =
      record { start_fits = is.start_fits; count_fits = (let fits = is.count_fits in omega (arith, fits, less)); kind_is = is.kind_is }

  short_lv : (lv : Lv) → IsLv other lv → IsLv other (shortened left lv)
  short_lv lv is = record {
    id_again = is.id_again;
    created_fits = is.created_fits;
    host_content = is.host_content;
    count_fits = (let fits = is.count_fits in omega (arith, fits, fewer_segments lv.segments left));
    each = each_front (IsSegment other) cut_segment lv.segments left is.each;
  }

  each_row : (rows : List Row) → Each (λ (lv : Row). IsLv other lv.1) rows
      → Each (λ (lv : Row). IsLv other lv.1) (map (changed_if name (λ (r : Row). (r.0, shortened left r.1))) rows)
  each_row [] are = tt
  each_row (row ∷ rows) are = (by (bytes_eq row.0 name), each_row rows are.1) where
    by : (b : Bool) → IsLv other (cond b (row.0, shortened left row.1) row).1
    by true = short_lv row.1 are.0
    by false = are.0

  name_same : (row : Row) → (changed_if name (λ (r : Row). (r.0, shortened left r.1)) row).0 ≡ row.0
  name_same row = by (bytes_eq row.0 name) where
    by : (b : Bool) → (cond b (row.0, shortened left row.1) row).0 ≡ row.0
    by true = refl
    by false = refl

  pub printable_short : (v : ℕ × Lv) → IsAccepted group → visible_named group name ≡ Some v → MayKeep left v.1
      → group.seqno < 4294967295 → IsPrintable group → IsPrintable other
  printable_short v accepted found may below can =
      version_printable group other.lvs below can names
      (each_row group.lvs (rows_print group other (KeepsSegments same_on) (short_volumes group name left v accepted can found may)
      (legs_allowed group accepted) can.pv_names names (λ own none. none) can.each_lv)) where
        names : AreNames [] (lv_names other)
        names =
            subst (AreNames []) (sym (map_part (changed_if name (λ (r : Row). (r.0, shortened left r.1))) (λ (row : Row). row.0) name_same
            group.lvs)) can.lv_names
