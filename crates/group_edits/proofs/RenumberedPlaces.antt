-- What is met in volumes whose legs lie on volumes by their new numbers.
use Rattle.std.proofs.Common.{◌≡◌, ℕ, zero, suc, ◌+◌, Bool, true, false, cond, List, [], ◌∷◌, length, map, Option, Some, refl, ap, ◌∙◌}
use Rattle.std.specs.Prelude.{option_map, slice_get}
use Rattle.meta_model.specs.Runs.{legs_of}
use Rattle.meta_model.specs.declared.segment.Leg.{Leg}
use Rattle.meta_model.specs.declared.segment.On.{On}
use Rattle.meta_model.specs.declared.segment.SegKind.{SegKind}
use Rattle.meta_model.specs.declared.segment.SegKind.TheVariants.{Mirror, Striped}
use Rattle.meta_model.specs.declared.segment.Segment.{Segment}
use Rattle.volume_view.specs.InSegments.{Met, Spot, has_sector, leg_spot, offset_in, primary_leg, primary_spot, segment_from, spot_in}
use Rattle.volume_view.specs.InSegments.{stripe_leg, stripe_offset}
use Rattle.group_edits.proofs.Renumbered.{legs_count}
use Rattle.group_edits.specs.Renumbered.{renumbered_kind, renumbered_legs, renumbered_segment}

-- the same spot on the volume by its other number
abbrev pub spot_by : (On → On) → Spot → Spot
spot_by number spot = record { on = number spot.on; sector = spot.sector }

module _ (number : On → On) where
  spots : (extent offset : ℕ) (legs : List Leg) (k : ℕ)
      → option_map (spot_in extent offset) (slice_get (renumbered_legs number legs) k)
      ≡ option_map (spot_by number) (option_map (spot_in extent offset) (slice_get legs k))
  spots extent offset [] k = refl
  spots extent offset (leg ∷ legs) zero = refl
  spots extent offset (leg ∷ legs) (suc k) = spots extent offset legs k

  -- the leg that is read leads to the same spot
  spot_new : (extent count at : ℕ) (kind : SegKind)
      → option_map (spot_in extent (offset_in (renumbered_kind number kind) at))
      (slice_get (legs_of (renumbered_kind number kind)) (primary_leg count (renumbered_kind number kind) at))
      ≡ option_map (spot_by number) (option_map (spot_in extent (offset_in kind at)) (slice_get (legs_of kind) (primary_leg count kind at)))
  spot_new extent count at (Striped stripe legs) =
      ap (λ (n : ℕ). option_map (spot_in extent (stripe_offset stripe n at))
      (slice_get (renumbered_legs number legs) (stripe_leg stripe n at))) (legs_count number legs)
      ∙ spots extent (stripe_offset stripe (length legs) at) legs (stripe_leg stripe (length legs) at)
  spot_new extent count at (Mirror region moved legs) = spots extent at legs (primary_leg count (Mirror region moved legs) at)

  -- a segment that was found, by the new numbers
  abbrev pub found_new : ℕ × Segment → ℕ × Segment
  found_new found = (found.0, renumbered_segment number found.1)

  pub segment_new : (extent sector n : ℕ) (segments : List Segment)
      → segment_from extent sector n (map (renumbered_segment number) segments)
      ≡ option_map found_new (segment_from extent sector n segments)
  segment_new extent sector n [] = refl
  segment_new extent sector n (segment ∷ segments) =
      by (has_sector extent sector segment) (segment_new extent sector (n + 1) segments) where
        rest : Option (ℕ × Segment)
        rest = segment_from extent sector (n + 1) segments

        after : Option (ℕ × Segment)
        after = segment_from extent sector (n + 1) (map (renumbered_segment number) segments)

        by : (b : Bool) → after ≡ option_map found_new rest
            → cond b (Some (n, renumbered_segment number segment)) after ≡ option_map found_new (cond b (Some (n, segment)) rest)
        by true later = refl
        by false later = later

  -- what is met in the volume with this number, by the new numbers
  abbrev pub met_by : ℕ → Met → Met
  met_by lv m = record { lv = lv; number = m.number; segment = renumbered_segment number m.segment; at = m.at }

  pub spot_renumbered : (extent new : ℕ) (m : Met) (spot : Spot) → primary_spot extent m ≡ Some spot
      → primary_spot extent (met_by new m) ≡ Some (spot_by number spot)
  unfolding leg_spot
  spot_renumbered extent new m spot is = spot_new extent m.segment.count m.at m.segment.kind ∙ ap (option_map (spot_by number)) is
