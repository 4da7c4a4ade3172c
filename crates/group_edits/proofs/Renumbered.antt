-- What volumes keep whose legs lie on volumes by their new numbers, and what these legs cover.
use Rattle.std.proofs.Common.{◌≡◌, ◌≤◌, ◌<◌, ℕ, ◌+◌, ◌/◌, Bool, List, [], ◌∷◌, length, map, Some, None, refl, sym, ap, subst}
use Rattle.std.specs.Prelude.{◌%◌}
use Rattle.std.proofs.lemmas.List.{length-map}
use Rattle.std.proofs.lemmas.List.Elements.{All-map}
use Rattle.std.proofs.lemmas.List.Folds.{fold-map}
use Rattle.meta_model.specs.Runs.{legs_of}
use Rattle.meta_model.specs.declared.lv.Lv.{Lv}
use Rattle.meta_model.specs.declared.segment.Leg.{Leg}
use Rattle.meta_model.specs.declared.segment.On.{On}
use Rattle.meta_model.specs.declared.segment.SegKind.{SegKind}
use Rattle.meta_model.specs.declared.segment.SegKind.TheVariants.{Striped, Mirror}
use Rattle.meta_model.specs.declared.segment.Segment.{Segment}
use Rattle.volume_rules.specs.Extents.{extents_of, leg_share}
use Rattle.volume_rules.specs.Rules.{Follow, IsPowerOfTwo, IsSmall, IsWholeMirror, IsWholeStriped, KindIsSmall, MovedIsAllowed}
use Rattle.volume_rules.specs.Rules.{SegmentIsSmall}
use Rattle.group_edits.specs.Renumbered.{renumbered_kind, renumbered_leg, renumbered_legs, renumbered_lv, renumbered_row}
use Rattle.group_edits.specs.Renumbered.{renumbered_segment}

-- a number that stays the same
abbrev pub unchanged : ℕ → ℕ
unchanged number = number

-- what a leg lies on stays the same
abbrev pub same_on : On → On
same_on is = is

legs_are_same : (legs : List Leg) → renumbered_legs same_on legs ≡ legs
legs_are_same [] = refl
legs_are_same (leg ∷ legs) = ap (λ (others : List Leg). leg ∷ others) (legs_are_same legs)

pub kind_is_same : (kind : SegKind) → renumbered_kind same_on kind ≡ kind
kind_is_same (Striped stripe legs) = ap (Striped stripe) (legs_are_same legs)
kind_is_same (Mirror region moved legs) = ap (Mirror region moved) (legs_are_same legs)

pub segment_is_same : (segment : Segment) → renumbered_segment same_on segment ≡ segment
segment_is_same segment = ap (λ (kind : SegKind). record segment { kind = kind }) (kind_is_same segment.kind)

segments_are_same : (segments : List Segment) → map (renumbered_segment same_on) segments ≡ segments
segments_are_same [] = refl
segments_are_same (segment ∷ segments) = λ i. segment_is_same segment i ∷ segments_are_same segments i

pub row_is_same : (row : List ℕ × Lv) → renumbered_row same_on row ≡ row
row_is_same row = ap (λ (segments : List Segment). (row.0, record row.1 { segments = segments })) (segments_are_same row.1.segments)

-- ---- what the rules ask of a segment

pub record KeepsSegment (extent_size : ℕ) (pvmove : Bool) (segment : Segment) : Type 0 where
  pub small : SegmentIsSmall segment
  pub striped : IsWholeStriped extent_size segment.count segment.kind
  pub mirror : IsWholeMirror segment.kind
  pub moved : MovedIsAllowed pvmove segment.count segment.kind

module _ (number : On → On) where
  -- ---- as many as before

  pub legs_count : (legs : List Leg) → length (renumbered_legs number legs) ≡ length legs
  legs_count legs = length-map legs (renumbered_leg number)

  pub segments_count : (lv : Lv) → length (renumbered_lv number lv).segments ≡ length lv.segments
  segments_count lv = length-map lv.segments (renumbered_segment number)

  pub extents_same : (lv : Lv) → extents_of (renumbered_lv number lv) ≡ extents_of lv
  extents_same lv = fold-map (λ (a : ℕ) (segment : Segment). a + segment.count) (renumbered_segment number) 0 lv.segments

  pub legs_same : (kind : SegKind) → legs_of (renumbered_kind number kind) ≡ renumbered_legs number (legs_of kind)
  legs_same (Striped stripe legs) = refl
  legs_same (Mirror region moved legs) = refl

  pub share_same : (count : ℕ) (kind : SegKind) → leg_share count (renumbered_kind number kind) ≡ leg_share count kind
  share_same count (Striped stripe legs) = ap (λ (n : ℕ). count / n) (legs_count legs)
  share_same count (Mirror region moved legs) = refl

  -- ---- rules

  small_kind : (kind : SegKind) → KindIsSmall kind → KindIsSmall (renumbered_kind number kind)
  small_kind (Striped stripe legs) is = (is.0, All-map (λ (leg : Leg). IsSmall leg.first) (renumbered_leg number) legs is.1)
  small_kind (Mirror region None legs) is = (is.0, All-map (λ (leg : Leg). IsSmall leg.first) (renumbered_leg number) legs is.1)
  small_kind (Mirror region (Some moved) legs) is =
      (is.0, is.1, All-map (λ (leg : Leg). IsSmall leg.first) (renumbered_leg number) legs is.2)

  striped_kind : (extent_size count : ℕ) (kind : SegKind) → IsWholeStriped extent_size count kind
      → IsWholeStriped extent_size count (renumbered_kind number kind)
  striped_kind extent_size count (Striped stripe legs) is =
      subst (λ (n : ℕ). (1 ≤ n) × (n ≤ 8) × (count % n ≡ 0) × (1 < n → IsPowerOfTwo stripe × (8 ≤ stripe) × (extent_size % stripe ≡ 0)))
      (sym (legs_count legs)) is
  striped_kind extent_size count (Mirror region moved legs) is = tt

  mirror_kind : (kind : SegKind) → IsWholeMirror kind → IsWholeMirror (renumbered_kind number kind)
  mirror_kind (Striped stripe legs) is = tt
  mirror_kind (Mirror region moved legs) is =
      subst (λ (n : ℕ). (2 ≤ n) × (n ≤ 8) × IsPowerOfTwo region × (8 ≤ region)) (sym (legs_count legs)) is

  moved_kind : (pvmove : Bool) (count : ℕ) (kind : SegKind) → MovedIsAllowed pvmove count kind
      → MovedIsAllowed pvmove count (renumbered_kind number kind)
  moved_kind pvmove count (Striped stripe legs) is = tt
  moved_kind pvmove count (Mirror region None legs) is = tt
  moved_kind pvmove count (Mirror region (Some moved) legs) is = is

  pub segment_keeps : (extent_size : ℕ) (pvmove : Bool) (segment : Segment) → KeepsSegment extent_size pvmove segment
      → KeepsSegment extent_size pvmove (renumbered_segment number segment)
  segment_keeps extent_size pvmove segment is = record {
    small = (is.small.0, is.small.1, small_kind segment.kind is.small.2);
    striped = striped_kind extent_size segment.count segment.kind is.striped;
    mirror = mirror_kind segment.kind is.mirror;
    moved = moved_kind pvmove segment.count segment.kind is.moved;
  }

  pub follow_same : (at : ℕ) (segments : List Segment) → Follow at segments → Follow at (map (renumbered_segment number) segments)
  follow_same at [] is = tt
  follow_same at (segment ∷ segments) is = (is.0, is.1, follow_same (at + segment.count) segments is.2)
