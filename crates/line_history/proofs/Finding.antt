-- What a scan finds in the images of a run of one line, and that the places of volumes keep their contents.
use Rattle.std.proofs.Common.{◌≡◌, ℕ, true, Option, Some, ⊎_elim, refl, sym, ap, subst, ◌∙◌}
use Rattle.std.proofs.Math.Path.{fun_ext}
use Rattle.sector_base.specs.declared.places.At.{At}
use Rattle.disk_batch.specs.InTurn.{HasFirstBatches, with_batches}
use Rattle.disk_model.specs.CrashValues.{IsImage}
use Rattle.disk_model.specs.Durability.{IsBase}
use Rattle.disk_model.specs.Steps.{Image, IsSame, Record}
use Rattle.image_scans.proofs.CommitLine.{all_written}
use Rattle.image_scans.proofs.LineScans.{base_scans}
use Rattle.image_scans.proofs.NoWrites.{place_kept}
use Rattle.image_scans.proofs.Zeroes.{zeroes_keep_places, zeroes_scan}
use Rattle.image_scans.specs.Laws.{CanCarryOut, none_out}
use Rattle.vg_scan.specs.Versions.{FindsVersion, Version, version_in}
use Rattle.meta_model.specs.declared.group.Group.{Group}
use Rattle.repair_scans.proofs.RepairFound.{repairs_scan}
use Rattle.repair_scans.proofs.RepairPlaces.{place_kept as repair_keeps}
use Rattle.repair_scans.proofs.SameVersion.{version_kept}
use Rattle.repair_scans.specs.Laws.{CanRepair, RepairedScans}
use Rattle.vg_repair.proofs.RepairedSizes.{repaired_count}
use Rattle.vg_repair.specs.Repaired.{repaired_of}
use Rattle.vg_scan.specs.Scans.{IsScanOf}
use Rattle.volume_view.specs.Places.{primary}
use Rattle.volume_view.specs.View.{at_place}
use Rattle.line_history.proofs.Images.{IsAfter, IsBefore, IsZeroing, begun_repair}
use Rattle.line_history.specs.LineRun.{Given, RunsLine, Stage, is_repaired, repair_begun, repairs_in, zeros_begun, zeros_in}

-- images that are the same in each sector are one
pub one_image : (a b : Image) → IsSame a b → a ≡ b
one_image a b same = fun_ext (λ pv. fun_ext (λ sector. same pv sector))

-- where each sector has one possible value an image is that
pub image_of_base : (told : Record) (base image : Image) → IsBase told base → IsImage told image → image ≡ base
image_of_base told base image base_is is =
    one_image image base (λ pv sector. let left = is pv sector in (base_is pv sector).each left.0 (image pv sector) left.1)

-- the places of the volumes of the group that was found have what they have in the base
abbrev pub KeepsPlaces : Given → Image → Type 0
KeepsPlaces g image =
    (group : Group) → g.found.group ≡ Some group → (lv sector : ℕ) (at : At) → primary group lv sector ≡ Some at
    → at_place image g.found.disk_of at ≡ at_place g.base g.found.disk_of at

-- the base and all of the repair
abbrev pub repaired_base : Given → Image
repaired_base g = with_batches (repairs_in g) g.base

-- and all zeros of the line
abbrev pub zeroed_base : Given → Image
zeroed_base g = with_batches (zeros_in g) (repaired_base g)

module _ (scans : RepairedScans) (g : Given) (stage : Stage) (start ended : Record) (r : RunsLine g stage start ended) where
  pub found_before : FindsVersion g.sizes g.base none_out (version_in g.found)
  found_before = base_scans g.base g.sizes g.found r.given.scan r.given.whole

  can_repair : repair_begun stage ≡ true → CanRepair g.base g.sizes g.found
  can_repair begun =
      record { scan = r.given.scan; shape = r.given.shape; whole = r.given.whole; fits = r.fits begun; keeps = r.repair_keeps begun }

  pub finds_before : (image : Image) → IsBefore g stage start ended r image → FindsVersion g.sizes image none_out (version_in g.found)
  finds_before image is =
      ⊎_elim
      (λ same. subst (λ (i : Image). FindsVersion g.sizes i none_out (version_in g.found)) (sym (one_image image g.base same)) found_before)
      (λ way. (repairs_scan g.base g.sizes g.found (can_repair way.0) image way.1).finds)
      is

  pub kept_before : (image : Image) → IsBefore g stage start ended r image → KeepsPlaces g image
  kept_before image is group there lv sector at is_at =
      ⊎_elim
      (λ same. ap (λ (i : Image). at_place i g.found.disk_of at) (one_image image g.base same))
      (λ way. repair_keeps g.base g.sizes g.found (can_repair way.0) group there lv sector at is_at image way.1)
      is

  -- ---- where all was repaired
  module _ (repaired : is_repaired stage ≡ true) where
    begun : repair_begun stage ≡ true
    begun = begun_repair stage repaired

    pub scan_repaired : IsScanOf (repaired_base g) g.sizes (repaired_of g.found)
    scan_repaired = scans g.base g.sizes g.found (can_repair begun)

    all_repaired : HasFirstBatches (repairs_in g) g.base (repaired_base g)
    all_repaired = all_written (repairs_in g) g.base

    pub finds_start : FindsVersion g.sizes (repaired_base g) none_out (version_in g.found)
    finds_start = (repairs_scan g.base g.sizes g.found (can_repair begun) (repaired_base g) all_repaired).finds

    -- a repair changes no version
    pub same_version : version_in (repaired_of g.found) ≡ version_in g.found
    same_version = version_kept g.found

    kept_start : KeepsPlaces g (repaired_base g)
    kept_start group there lv sector at is_at =
        repair_keeps g.base g.sizes g.found (can_repair begun) group there lv sector at is_at (repaired_base g) all_repaired

    -- ---- and its zeros were begun
    module _ (zeros : zeros_begun stage ≡ true) where
      -- the line can be carried out on any base of which a scan finds that
      can_on : (base : Image) → IsScanOf base g.sizes (repaired_of g.found)
          → CanCarryOut base g.sizes (repaired_of g.found) g.names g.backup g.line g.clock g.given
      can_on base scan = record {
        scan = scan;
        shape = r.repaired_shape repaired;
        whole = r.repaired_whole repaired;
        no_stale = refl;
        no_strays = refl;
        named = r.given.named ∙ sym (repaired_count g.found);
        names_are = r.given.names_are;
        planned = r.given.planned;
        given_back = r.given_back zeros;
        time = r.given.time;
        takes = r.takes zeros;
        passes = r.passes zeros;
        keeps = r.keeps zeros;
      }

      pub can_start : CanCarryOut (repaired_base g) g.sizes (repaired_of g.found) g.names g.backup g.line g.clock g.given
      can_start = can_on (repaired_base g) scan_repaired

      -- on their way the same is found
      scan_zeroing : (image : Image) → HasFirstBatches (zeros_in g) (repaired_base g) image → IsScanOf image g.sizes (repaired_of g.found)
      scan_zeroing image way =
          zeroes_scan (repaired_base g) g.sizes (repaired_of g.found) g.names g.backup g.line g.clock g.given can_start image way

      all_zeroed : HasFirstBatches (zeros_in g) (repaired_base g) (zeroed_base g)
      all_zeroed = all_written (zeros_in g) (repaired_base g)

      pub scan_zeroed : IsScanOf (zeroed_base g) g.sizes (repaired_of g.found)
      scan_zeroed = scan_zeroing (zeroed_base g) all_zeroed

      -- and so the line can be carried out behind them
      pub can_carry_out : CanCarryOut (zeroed_base g) g.sizes (repaired_of g.found) g.names g.backup g.line g.clock g.given
      can_carry_out = can_on (zeroed_base g) scan_zeroed

      finds_scanned : (image : Image) → IsScanOf image g.sizes (repaired_of g.found)
          → FindsVersion g.sizes image none_out (version_in g.found)
      finds_scanned image scan =
          subst (λ (v : Option Version). FindsVersion g.sizes image none_out v) same_version
          (base_scans image g.sizes (repaired_of g.found) scan (r.repaired_whole repaired))

      pub finds_zeroed : FindsVersion g.sizes (zeroed_base g) none_out (version_in g.found)
      finds_zeroed = finds_scanned (zeroed_base g) scan_zeroed

      kept_on_way : (image : Image) → HasFirstBatches (zeros_in g) (repaired_base g) image → KeepsPlaces g image
      kept_on_way image way group there lv sector at is_at =
          zeroes_keep_places (repaired_base g) g.sizes (repaired_of g.found) g.names g.backup g.line g.clock g.given can_start image way
          group there lv sector at is_at ∙ kept_start group there lv sector at is_at

      -- behind the zeros an image on the way of the line keeps the places too
      pub kept_after : (image : Image) → IsAfter g stage start ended r image → KeepsPlaces g image
      kept_after image way group there lv sector at is_at =
          place_kept (zeroed_base g) g.sizes (repaired_of g.found) g.names g.backup g.line g.clock g.given can_carry_out group there image
          way lv sector at is_at
          ∙ kept_on_way (zeroed_base g) all_zeroed group there lv sector at is_at

    -- until the zeros are written
    pub finds_zeroing : (image : Image) → IsZeroing g stage start ended r image → FindsVersion g.sizes image none_out (version_in g.found)
    finds_zeroing image is =
        ⊎_elim
        (λ same. subst (λ (i : Image). FindsVersion g.sizes i none_out (version_in g.found)) (sym (one_image image (repaired_base g) same))
        finds_start)
        (λ way. finds_scanned way.0 image (scan_zeroing way.0 image way.1))
        is

    pub kept_zeroing : (image : Image) → IsZeroing g stage start ended r image → KeepsPlaces g image
    kept_zeroing image is group there lv sector at is_at =
        ⊎_elim
        (λ same. ap (λ (i : Image). at_place i g.found.disk_of at) (one_image image (repaired_base g) same)
        ∙ kept_start group there lv sector at is_at)
        (λ way. kept_on_way way.0 image way.1 group there lv sector at is_at)
        is
