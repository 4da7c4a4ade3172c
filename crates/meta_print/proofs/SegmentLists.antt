-- Segments, one by one.
use Rattle.std.proofs.Common.{◌≡◌, ℕ, ◌+◌, ◌<◌, List, [], ◌∷◌, ◌++◌, length, get_or, take, Option, Some, None, refl, sym, ap, ◌∙◌}
use Rattle.std.proofs.Common.{append_assoc, arith}
use Rattle.std.proofs.lemmas.List.{take_more, length-take-le, append-nil}
use Rattle.conf_text.specs.Entries.{Assign, Many}
use Rattle.std.specs.Prelude.{codes, flat_map}
use Rattle.meta_model.specs.declared.group.Group.{Group}
use Rattle.meta_model.specs.declared.segment.Leg.{Leg}
use Rattle.meta_model.specs.declared.segment.Segment.{Segment}
use Rattle.meta_model.specs.declared.segment.SegKind.TheVariants.{Mirror}
use Rattle.meta_print.specs.Layout.{number, text, pair_of, kind_entries, segment_entries, segments_entries}
use Rattle.meta_print.specs.Parts.{moved_entries}

segments_last : (group : Group) (first : ℕ) (segments : List Segment) (segment : Segment)
    → segments_entries group first (segments ++ segment ∷ [])
    ≡ segments_entries group first segments ++ segment_entries group (first + length segments) segment
segments_last group first [] segment =
    append-nil (segment_entries group first segment) ∙ ap (λ n. segment_entries group n segment) (omega arith)
segments_last group first (s ∷ segments) segment =
    ap (λ es. segment_entries group first s ++ es) (segments_last group (first + 1) segments segment)
    ∙ sym (append_assoc (segment_entries group first s) (segments_entries group (first + 1) segments)
    (segment_entries group (first + 1 + length segments) segment))
    ∙ ap (λ n. (segment_entries group first s ++ segments_entries group (first + 1) segments) ++ segment_entries group n segment)
    (omega arith)

-- one segment more
pub segments_more : (group : Group) (segments : List Segment) (at : ℕ) (segment : Segment) → at < length segments
    → segment ≡ get_or segments at segment
    → segments_entries group 1 (take at segments) ++ segment_entries group (at + 1) segment
    ≡ segments_entries group 1 (take (at + 1) segments)
segments_more group segments at segment within is =
    let more : take (at + 1) segments ≡ take at segments ++ segment ∷ [] =
    take_more segments at segment within ∙ ap (λ s. take at segments ++ s ∷ []) (sym is) in
    let long : length (take at segments) ≡ at = length-take-le at segments (omega arith) in
    sym (ap (segments_entries group 1) more ∙ segments_last group 1 (take at segments) segment
    ∙ ap (λ n. segments_entries group 1 (take at segments) ++ segment_entries group n segment) (omega (arith, long)))

-- a mirror, part by part
pub mirror_parts : (group : Group) (region : ℕ) (moved : Option ℕ) (legs : List Leg)
    → (((text (codes "type") (codes "mirror") ∷ number (codes "mirror_count") (length legs) ∷ number (codes "region_size") region ∷ [])
    ++ moved_entries moved) ++ Assign (codes "mirrors") (Many (flat_map (pair_of group) legs)) ∷ [])
    ≡ kind_entries group (Mirror region moved legs)
mirror_parts group region None legs = refl
mirror_parts group region (Some extents) legs = refl
