-- The segments that are made of given extents keep the rules on segments.
use Rattle.std.proofs.Common.{◌≡◌, ◌≤◌, ◌<◌, ℕ, ◌+◌, ◌*◌, ◌%◌, ◌^◌, zero, suc, Bool, List, [], ◌∷◌, ◌++◌, length, refl, sym, ap, subst, ◌∙◌}
use Rattle.std.proofs.Common.{arith}
use Rattle.std.specs.Prelude.{All}
use Rattle.std.proofs.lemmas.List.Elements.{All-cons, All-contains, All-head, All-nil, All-tail}
use Rattle.std.proofs.lemmas.List.Sums.{sum_by-append, sum_by-cons}
use Rattle.std.proofs.lemmas.Nat.{mod-mul-add}
use Rattle.meta_model.specs.declared.group.Group.{Group}
use Rattle.meta_model.specs.declared.pv.Pv.{Pv}
use Rattle.meta_model.specs.declared.segment.Leg.{Leg}
use Rattle.meta_model.specs.declared.segment.SegKind.{SegKind}
use Rattle.meta_model.specs.declared.segment.SegKind.TheVariants.{Striped, Mirror}
use Rattle.meta_model.specs.declared.segment.Segment.{Segment}
use Rattle.extent_alloc.specs.declared.part.Part.{Part}
use Rattle.extent_alloc.specs.declared.part.PvRun.{PvRun}
use Rattle.volume_rules.specs.Rules.{Follow, IsPowerOfTwo, IsSmall, IsWholeMirror, IsWholeStriped, KindIsSmall, MovedIsAllowed, PvIsSmall}
use Rattle.volume_rules.specs.Rules.{SegmentIsSmall}
use Rattle.group_edits.proofs.GivenRuns.{each_free, free_within, legs_by, legs_count}
use Rattle.group_edits.proofs.Renumbered.{KeepsSegment}
use Rattle.group_edits.proofs.Selections.{contains_at}
use Rattle.group_edits.specs.GivenSegments.{IsFreeRun, MayBeLaid, MayHaveLegs, extents_by, extents_in, kind_on, legs_in, segment_of}
use Rattle.group_edits.specs.GivenSegments.{segments_of}

-- ---- segments that follow each other

pub follow_both : (at : ℕ) (xs ys : List Segment) → Follow at xs → Follow (at + extents_in xs) ys → Follow at (xs ++ ys)
follow_both at [] ys first second = subst (λ (n : ℕ). Follow n ys) (let e : at + 0 ≡ at = omega arith in e) second
follow_both at (x ∷ xs) ys first second = (
  first.0,
  first.1,
  follow_both (at + x.count) xs ys first.2
      (subst (λ (n : ℕ). Follow n ys) (let more = sum_by-cons (λ (s : Segment). s.count) x xs in let e : at + extents_in (x ∷ xs)
      ≡ at + x.count + extents_in xs = omega (arith, more) in e) second),
)

pub extents_both : (xs ys : List Segment) → extents_in (xs ++ ys) ≡ extents_in xs + extents_in ys
extents_both xs ys = sum_by-append (λ (s : Segment). s.count) xs ys

-- ---- one part

module _ (kind : SegKind) where
  -- a segment has as many extents as each leg, or more
  pub extents_least : (part : Part) → 1 ≤ length part.runs → part.extents ≤ extents_by part.extents (kind_on (legs_in part) kind)
  extents_least part some = by kind where
    times : (a b : ℕ) → 1 ≤ b → a ≤ a * b
    times a zero some = absurd (omega (arith, some))
    times a (suc b) some = omega arith

    by : (kind : SegKind) → part.extents ≤ extents_by part.extents (kind_on (legs_in part) kind)
    by (Striped stripe others) = times part.extents (length (legs_in part)) (let same = legs_count part in omega (arith, some, same))
    by (Mirror region moved others) = omega arith

  module _ (extent_size count : ℕ) (may : MayHaveLegs extent_size count kind) where
    pub legs_some : 1 ≤ count
    legs_some = by kind may where
      by : (kind : SegKind) → MayHaveLegs extent_size count kind → 1 ≤ count
      by (Striped stripe others) may = may.1
      by (Mirror region moved others) may = omega (arith, may.1)

    pub legs_few : count ≤ 8
    legs_few = by kind may where
      by : (kind : SegKind) → MayHaveLegs extent_size count kind → count ≤ 8
      by (Striped stripe others) may = may.2
      by (Mirror region moved others) may = may.2

    module _ (part : Part) (legs : length part.runs ≡ count) where
      legs_are : length (legs_in part) ≡ count
      legs_are = legs_count part ∙ legs

      part_striped : (start : ℕ) → IsWholeStriped extent_size (segment_of kind start part).count (segment_of kind start part).kind
      part_striped start = by kind may where
        whole : (n : ℕ) → 1 ≤ n → part.extents * n % n ≡ 0
        whole n some =
            ap (λ (x : ℕ). x % n) (let e : part.extents * n ≡ part.extents * n + 0 = omega arith in e) ∙ mod-mul-add part.extents n 0 some

        by : (kind : SegKind) → MayHaveLegs extent_size count kind
            → IsWholeStriped extent_size (segment_of kind start part).count (segment_of kind start part).kind
        by (Striped stripe others) may =
            let some : 1 ≤ length (legs_in part) = subst (λ (n : ℕ). 1 ≤ n) (sym legs_are) may.1 in (
              some,
              subst (λ (n : ℕ). n ≤ 8) (sym legs_are) may.2,
              whole (length (legs_in part)) some,
              subst (λ (n : ℕ). 1 < n → IsPowerOfTwo stripe × (8 ≤ stripe) × (extent_size % stripe ≡ 0)) (sym legs_are) may.3,
            )
        by (Mirror region moved others) may = tt

      part_mirror : (start : ℕ) → IsWholeMirror (segment_of kind start part).kind
      part_mirror start = by kind may where
        by : (kind : SegKind) → MayHaveLegs extent_size count kind → IsWholeMirror (segment_of kind start part).kind
        by (Striped stripe others) may = tt
        by (Mirror region moved others) may =
            (subst (λ (n : ℕ). 2 ≤ n) (sym legs_are) may.1, subst (λ (n : ℕ). n ≤ 8) (sym legs_are) may.2, may.3, may.4)

      part_small : (start : ℕ) → All (λ (leg : Leg). IsSmall leg.first) (legs_in part) → KindIsSmall (segment_of kind start part).kind
      part_small start firsts = by kind may where
        by : (kind : SegKind) → MayHaveLegs extent_size count kind → KindIsSmall (segment_of kind start part).kind
        by (Striped stripe others) may = (may.0, firsts)
        by (Mirror region moved others) may = (may.0, firsts)

  pub part_moved : (pvmove : Bool) (start : ℕ) (part : Part)
      → MovedIsAllowed pvmove (segment_of kind start part).count (segment_of kind start part).kind
  part_moved pvmove start part = by kind where
    by : (kind : SegKind) → MovedIsAllowed pvmove (segment_of kind start part).count (segment_of kind start part).kind
    by (Striped stripe others) = tt
    by (Mirror region moved others) = tt

-- ---- all parts

module _ (kind : SegKind) where
  parts_moved : (pvmove : Bool) (start : ℕ) (parts : List Part)
      → All (λ segment. MovedIsAllowed pvmove segment.count segment.kind) (segments_of kind start parts)
  parts_moved pvmove start [] = All-nil (λ (segment : Segment). MovedIsAllowed pvmove segment.count segment.kind)
  parts_moved pvmove start (part ∷ parts) =
      All-cons (λ (segment : Segment). MovedIsAllowed pvmove segment.count segment.kind) (segment_of kind start part)
      (segments_of kind (start + extents_by part.extents (kind_on (legs_in part) kind)) parts)
      (part_moved kind pvmove start part) (parts_moved pvmove (start + extents_by part.extents (kind_on (legs_in part) kind)) parts)

  pub segments_count : (start : ℕ) (parts : List Part) → length (segments_of kind start parts) ≡ length parts
  segments_count start [] = refl
  segments_count start (part ∷ parts) = ap suc (segments_count (start + extents_by part.extents (kind_on (legs_in part) kind)) parts)

  -- what holds of the segment of each part
  module _ (P : Part → Type 0) (Q : Segment → Type 0) (step : (start : ℕ) (part : Part) → P part → Q (segment_of kind start part)) where
    pub each_part : (start : ℕ) (parts : List Part) → All P parts → All Q (segments_of kind start parts)
    each_part start [] all = All-nil Q
    each_part start (part ∷ parts) all =
        All-cons Q (segment_of kind start part) (segments_of kind (start + extents_by part.extents (kind_on (legs_in part) kind)) parts)
        (step start part (All-head P part parts all))
        (each_part (start + extents_by part.extents (kind_on (legs_in part) kind)) parts (All-tail P part parts all))

module _ (kind : SegKind) (group : Group) (count : ℕ) (parts : List Part) (kinds : MayHaveLegs group.extent_size count kind)
    (may : MayBeLaid group count parts) where
  abbrev IsGood : Part → Type 0
  IsGood part = (1 ≤ part.extents) × (length part.runs ≡ count)

  pub parts_striped : (start : ℕ) → All (λ segment. IsWholeStriped group.extent_size segment.count segment.kind)
      (segments_of kind start parts)
  parts_striped start =
      each_part kind IsGood (λ (segment : Segment). IsWholeStriped group.extent_size segment.count segment.kind)
      (λ at part good. part_striped kind group.extent_size count kinds part good.1 at) start parts may.legs

  pub parts_mirror : (start : ℕ) → All (λ segment. IsWholeMirror segment.kind) (segments_of kind start parts)
  parts_mirror start =
      each_part kind IsGood (λ (segment : Segment). IsWholeMirror segment.kind)
      (λ at part good. part_mirror kind group.extent_size count kinds part good.1 at) start parts may.legs

  pub parts_follow : (start : ℕ) → Follow start (segments_of kind start parts)
  parts_follow start = by start parts may.legs where
    by : (start : ℕ) (parts : List Part) → All IsGood parts → Follow start (segments_of kind start parts)
    by start [] all = tt
    by start (part ∷ parts) all =
        let here = All-head IsGood part parts all in
        let extents = here.0 in
        let runs = here.1 in
        let some : 1 ≤ length part.runs = let least = legs_some kind group.extent_size count kinds in omega (arith, runs, least) in
        let least = extents_least kind part some in (
          refl,
          omega (arith, extents, least),
          by (start + extents_by part.extents (kind_on (legs_in part) kind)) parts
              (All-tail IsGood part parts all),
        )

  -- ---- numbers

  abbrev PvsAreSmall : Type 0
  PvsAreSmall = All (λ (pv : List ℕ × Pv). PvIsSmall pv.1) group.pvs

  pub first_small : PvsAreSmall → (run : PvRun) → (1 ≤ run.count) × IsFreeRun group run → IsSmall run.first
  first_small pvs run free =
      let inside = free_within group count parts may (legs_some kind group.extent_size count kinds) run free.0 free.1 in
      let few : IsSmall inside.0.1.pe_count =
      (All-contains (λ (pv : List ℕ × Pv). PvIsSmall pv.1) group.pvs inside.0 pvs (contains_at group.pvs run.pv inside.0 inside.1)).2 in
      let most = inside.2 in
      let some = free.0 in
      omega (arith, some, few, most)

  -- the first extents of all legs are small
  abbrev FirstsAreSmall : Part → Type 0
  FirstsAreSmall part = All (λ (leg : Leg). IsSmall leg.first) (legs_in part)

  -- where they end below 2^48
  pub parts_small : PvsAreSmall → (start : ℕ) → start + extents_in (segments_of kind start parts) < 2 ^ 48
      → All SegmentIsSmall (segments_of kind start parts)
  parts_small pvs start ends =
      by start parts may.legs
      (legs_by (λ (run : PvRun). (1 ≤ run.count) × IsFreeRun group run) (λ (leg : Leg). IsSmall leg.first)
      (λ run n free. first_small pvs (record { pv = run.pv; first = run.first; count = n }) free) parts
      (each_free group count parts may (legs_some kind group.extent_size count kinds)))
      ends
    where
      by : (start : ℕ) (parts : List Part) → All IsGood parts → All FirstsAreSmall parts
          → start + extents_in (segments_of kind start parts) < 2 ^ 48 → All SegmentIsSmall (segments_of kind start parts)
      by start [] good firsts ends = All-nil SegmentIsSmall
      by start (part ∷ parts) good firsts ends =
          let n : ℕ = extents_by part.extents (kind_on (legs_in part) kind) in
          let later : List Segment = segments_of kind (start + n) parts in
          let whole : extents_in (segments_of kind start (part ∷ parts)) ≡ n + extents_in later =
          sum_by-cons (λ (s : Segment). s.count) (segment_of kind start part) later in
          All-cons SegmentIsSmall (segment_of kind start part) later (
            omega (arith, whole, ends),
            omega (arith, whole, ends),
            part_small kind group.extent_size count kinds part (All-head IsGood part parts good).1 start
                (All-head FirstsAreSmall part parts firsts),
          )
          (by (start + n) parts (All-tail IsGood part parts good) (All-tail FirstsAreSmall part parts firsts) (omega (arith, whole, ends)))

  -- all that the rules ask of segments
  pub parts_keep : (pvmove : Bool) → PvsAreSmall → (start : ℕ) → start + extents_in (segments_of kind start parts) < 2 ^ 48
      → All (KeepsSegment group.extent_size pvmove) (segments_of kind start parts)
  parts_keep pvmove pvs start ends k d within = record {
    small = parts_small pvs start ends k d within;
    striped = parts_striped start k d within;
    mirror = parts_mirror start k d within;
    moved = parts_moved kind pvmove start parts k d within;
  }
