-- The origin of the history of a run of one line, and what stands at its moments where no volume is touched.
use Rattle.std.proofs.Common.{◌≡◌, ◌≤◌, ℕ, List, [], ◌++◌, length, Option, refl, sym, subst, ◌∙◌, arith}
use Rattle.command_table.specs.Options.{Word}
use Rattle.disk_model.proofs.NowStands.{now_base}
use Rattle.disk_model.proofs.StepsSince.{steps_joined}
use Rattle.disk_model.specs.Durability.{IsBase}
use Rattle.disk_model.specs.Moments.{at_moment}
use Rattle.disk_model.specs.Record.{IsRecord}
use Rattle.disk_model.specs.Steps.{Image, Step, Record, now_after, steps_on}
use Rattle.image_scans.specs.Laws.{none_out}
use Rattle.vg_scan.specs.Versions.{FindsVersion, Version}
use Rattle.volume_history.proofs.EarlierMoments.{now_before}
use Rattle.volume_history.proofs.Phases.{finds_with}
use Rattle.volume_history.specs.Chronicles.{Origin, left_out, now_at, origin_at}
use Rattle.volume_history.specs.Legal.{FindsNow}
use Rattle.volume_history.specs.Placed.{volumes_of}
use Rattle.volume_history.specs.Quiet.{AllUntouched}
use Rattle.volume_history.specs.Single.{AllFind, IsStill}
use Rattle.line_history.proofs.Finding.{one_image}
use Rattle.line_history.proofs.Seen.{now_seen, record_before, steps_more}

-- the history of this run begins so
abbrev pub origin_of : Record → ℕ → List ℕ → List Word → ℕ → Option Version → Record → Origin
origin_of handed start sizes names clock version ended =
    record { told = ended; first = length handed.steps; start = start; sizes = sizes; names = names; clock = clock; version = version }

module _ (handed at_start ended : Record) (first later : List Step) (is_start : at_start ≡ steps_on first handed)
    (is_end : ended ≡ steps_on later at_start) (record_is : IsRecord ended.steps)
    (base start_base : Image) (base_is : IsBase handed base) (start_is : IsBase at_start start_base) (sizes : List ℕ) (names : List Word)
    (clock : ℕ) (version : Option Version) where
  abbrev pub origin : Origin
  origin = origin_of handed (length at_start.steps) sizes names clock version ended

  record_start : IsRecord at_start.steps
  record_start = record_before at_start ended later is_end record_is

  -- what a read gave at the hand-in, and at the start
  pub now_start : now_at origin (length at_start.steps) ≡ start_base
  now_start =
      now_seen at_start ended later is_end ∙ one_image (now_after at_start.opened at_start.steps) start_base
      (now_base at_start start_base record_start start_is)

  is_handed : ended ≡ steps_on (later ++ first) handed
  is_handed = steps_joined handed at_start ended first later is_start is_end

  pub now_first : now_at origin (length handed.steps) ≡ base
  now_first =
      now_seen handed ended (later ++ first) is_handed
      ∙ one_image (now_after handed.opened handed.steps) base
      (now_base handed base (record_before handed at_start first is_start record_start) base_is)

  pub starts_later : length handed.steps ≤ length at_start.steps
  starts_later = steps_more handed at_start first is_start

  ends_later : length at_start.steps ≤ length ended.steps
  ends_later = steps_more at_start ended later is_end

  found_start : FindsVersion sizes start_base none_out version
      → FindsVersion sizes (now_at (origin_at (length at_start.steps) origin) (length at_start.steps)) none_out version
  found_start finds =
      subst (λ (i : Image). FindsVersion sizes i none_out version)
      (sym (now_before origin (length at_start.steps) (length at_start.steps) (omega arith) ends_later ∙ now_start)) finds

  -- and that in a history without entries
  pub found_now : FindsVersion sizes start_base none_out version
      → FindsNow (origin_at (length at_start.steps) origin) [] (length at_start.steps) version
  found_now finds =
      finds_with sizes (now_at (origin_at (length at_start.steps) origin) (length at_start.steps)) none_out
      (left_out (origin_at (length at_start.steps) origin) [] (length at_start.steps)) version (λ pv. refl) (found_start finds)

  -- until the start every image shows the version in force, and no place of its volumes is touched at any moment
  pub still : ((m : ℕ) → length handed.steps ≤ m → m ≤ length at_start.steps → AllFind sizes none_out version (at_moment m ended))
      → ((m : ℕ) → length handed.steps ≤ m → m ≤ length ended.steps → AllUntouched base (volumes_of version) (at_moment m ended))
      → FindsVersion sizes start_base none_out version → IsStill origin
  still before untouched finds = record {
    from = starts_later;
    until = ends_later;
    before = before;
    untouched =
        λ m ge le. subst (λ (i : Image). AllUntouched i (volumes_of version) (at_moment m ended)) (sym now_first) (untouched m ge le);
    found = found_now finds;
  }
