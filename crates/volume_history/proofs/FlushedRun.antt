-- A whole run: a cached fill of a volume of one sector, and behind it a line that flushes the volume; its history is legal, and
-- consistent once that is answered, when only the fill is left.
use Rattle.std.proofs.Common.{◌≡◌, ◌<◌, ℕ, zero, suc, true, false, List, [], ◌∷◌, Option, Some, inl, inr, ⊎_elim, refl, sym, subst, arith}
use Rattle.line_answers.specs.declared.answer.Answer.TheVariants as answer
use Rattle.disk_model.specs.CrashValues.{HasCompleted, IsImage, MayLeave}
use Rattle.disk_model.specs.Steps.{Completed, Flushing, Image, Step, Submitted, Writing}
use Rattle.sector_base.specs.declared.spans.Span.{Span}
use Rattle.data_lines.specs.DataLines.{number_sector}
use Rattle.volume_view.specs.InSegments.{leg_spot, met}
use Rattle.volume_view.specs.Places.{primary}
use Rattle.vg_scan.specs.Versions.{FindsVersion}
use Rattle.volume_history.proofs.Phases.{finds_with}
use Rattle.volume_history.proofs.SmallGroups.{filling, flushing, holding}
use Rattle.volume_history.proofs.SmallRun.{opened, origin_of}
use Rattle.volume_history.specs.Candidates.{IsConsistentNow, IsIn, candidates, place_at}
use Rattle.volume_history.specs.Chronicles.{Answered, Begun, Chronicle, ChronicleEntry, Origin, Took, left_out, origin_at}
use Rattle.volume_history.specs.Legal.{IsLegalHistory}
use Rattle.volume_history.specs.Placed.{place_of, volumes_of}
use Rattle.volume_history.specs.Runs.{zero_piece}
use Rattle.volume_history.specs.Single.{none_out}

-- the volume's sector on the disk, and the fill of it with 7
abbrev pub sector : Span
sector = record { pv = 0; first = 10; count = 1 }

abbrev pub writes : List Step
writes = Completed 1 (Writing sector (number_sector 7 ∷ [])) true [] ∷ Submitted 1 (Writing sector (number_sector 7 ∷ [])) ∷ []

abbrev steps : List Step
steps = Completed 2 (Flushing 0) true [] ∷ Submitted 2 (Flushing 0) ∷ writes

-- the history of a run with these steps, by the moment at which the line that flushes is answered
abbrev pub origin_with : List Step → Origin
origin_with told = record (origin_of (record { opened = opened; steps = told })) { version = Some holding }

abbrev pub entries_by : ℕ → List ChronicleEntry
entries_by moment =
    Answered moment 1 answer.Fine ∷ Took moment 1 (zero_piece 0) ∷ Begun 2 1 flushing (Some 0) ∷ Answered 2 0 answer.Fine
    ∷ Took 2 0 (record { volume = 0; first = 0; count = 1; write = true }) ∷ Begun 0 0 (filling 0 1 7) (Some 0) ∷ []

abbrev run : Chronicle
run = record { origin = origin_with steps; entries = entries_by 4 }

-- what is flushed is all that is left
left : (write : Option ℕ) (value : List ℕ) → MayLeave opened steps 0 10 write value → value ≡ number_sector 7
left write value may =
    ⊎_elim (λ old. absurd (may.1 refl (inr (
      refl,
      inr (refl, subst (λ (w : Option ℕ). HasCompleted (Submitted 1 (Writing sector (number_sector 7 ∷ [])) ∷ []) w) (sym old.0) tt),
    ))))
    (λ new. new.2) may.0

shows_seven : (image : Image) → IsImage (origin_with steps).told image → (x : ℕ) → x < 1
    → IsIn (candidates (origin_with steps) (entries_by 4) 0 x)
    (image (place_at (record { disk = 0; sector = 10 } ∷ []) x).disk (place_at (record { disk = 0; sector = 10 } ∷ []) x).sector)
unfolding volumes_of place_of primary met leg_spot
shows_seven image is zero lt = (0, omega arith, sym (left (is 0 10).0 (image 0 10) (is 0 10).1))
shows_seven image is (suc x) lt = absurd (omega (arith, lt))

-- no line removes the group
keeps : {A : Type 0} → false ≡ true → A
keeps e = absurd (cc)

-- where scans find the group, whatever stands in that sector
module _ (found : (image : Image) → FindsVersion (99 ∷ []) image none_out (Some holding)) where
  legal : IsLegalHistory run
  unfolding volumes_of place_of primary met leg_spot
  legal = record {
    from = omega arith;
    opening =
        finds_with (99 ∷ []) opened none_out (left_out (origin_at 0 (origin_with steps)) [] 0) (Some holding) (λ pv. refl) (found opened);
    told = omega arith;
    ordered = (
      record { moments = omega arith; order = refl; makes = tt },
      (
        record { moments = omega arith; order = refl; makes = tt },
        (
          record { moments = omega arith; order = refl; makes = tt },
          (
            record { moments = omega arith; order = refl; makes = tt },
            (
              record { moments = omega arith; order = refl; makes = tt },
              (record { moments = omega arith; order = refl; makes = tt }, tt),
            ),
          ),
        ),
      ),
    );
    faithful = ((tt, λ removes. keeps removes), (tt, (refl, ((tt, λ removes. keeps removes), (tt, (refl, tt))))));
  }

  consistent : IsConsistentNow run
  unfolding volumes_of place_of primary met leg_spot
  consistent image is = record {
    version = Some holding;
    scan =
        finds_with (99 ∷ []) image none_out (left_out (origin_with steps) (entries_by 4) 4) (Some holding) (λ pv. refl) (found image);
    shows = inl (refl, refl, (refl, refl, λ x lt. shows_seven image is x lt, tt));
  }
