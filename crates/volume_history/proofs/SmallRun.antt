-- A whole small run: a vgcreate on one disk, where scans find no group while the header's sector is as it was, and the group
-- from when it is written. So the premises of the laws on commits can be met.
use Rattle.std.proofs.Common.{◌≡◌, ◌≤◌, ◌⊎◌, ℕ, true, IsTrue, List, [], ◌∷◌, Option, Some, None, inl, inr, ⊎_elim, refl, sym, ap, subst}
use Rattle.std.proofs.Common.{arith}
use Rattle.std.proofs.lemmas.Bool.Decides.{nat_tests}
use Rattle.disk_model.proofs.Bringing.{every_moment}
use Rattle.disk_model.specs.Brought.{BringOnly}
use Rattle.disk_model.specs.CrashValues.{HasCompleted, IsImage, MayLeave}
use Rattle.disk_model.specs.Durability.{EachOnlyLeaves}
use Rattle.disk_model.specs.Moments.{at_moment}
use Rattle.disk_model.specs.Steps.{Completed, Flushing, Image, Step, Submitted, Record, Writing, value_at}
use Rattle.vg_scan.specs.Versions.{FindsVersion}
use Rattle.sector_base.specs.Spans.{covers}
use Rattle.sector_base.specs.declared.spans.Span.{Span}
use Rattle.volume_history.proofs.Phases.{finds_with}
use Rattle.volume_history.proofs.SingleLines.{done_commit}
use Rattle.volume_history.proofs.SmallGroups.{making, version_1}
use Rattle.volume_history.specs.Chronicles.{Origin, left_out, now_at, origin_at}
use Rattle.volume_history.specs.Laws.{Tells}
use Rattle.volume_history.specs.Legal.{Makes}
use Rattle.volume_history.specs.Placed.{volumes_of}
use Rattle.volume_history.specs.Single.{CommitLaw, DoneLaw, IsStill, begun_entries, done_entries, none_out}

-- the old and the new header
abbrev pub old_header : List ℕ
old_header = 0 ∷ []

abbrev pub new_header : List ℕ
new_header = 1 ∷ []

abbrev pub opened : Image
opened pv sector = old_header

abbrev pub header : Span
header = record { pv = 0; first = 0; count = 1 }

abbrev pub steps : List Step
steps =
    Completed 2 (Flushing 0) true [] ∷ Submitted 2 (Flushing 0) ∷ Completed 1 (Writing header (new_header ∷ [])) true []
    ∷ Submitted 1 (Writing header (new_header ∷ [])) ∷ []

abbrev pub told : Record
told = record { opened = opened; steps = steps }

abbrev pub origin_of : Record → Origin
origin_of t = record { told = t; first = 0; start = 0; sizes = 99 ∷ []; names = (0 ∷ []) ∷ []; clock = 0; version = None }

-- each sector is old or new at every moment
abbrev IsOldOrNew : ℕ → ℕ → List ℕ → Type 0
IsOldOrNew pv sector value = (value ≡ old_header) ⊎ (value ≡ new_header)

start_so : EachOnlyLeaves IsOldOrNew (record { opened = opened; steps = [] })
start_so pv sector = record { each = λ write value may. inl may.1 }

brings_so : BringOnly IsOldOrNew steps
brings_so =
    (λ pv sector inside. let z : sector ≡ 0 = first_of pv sector inside in inr (ap (λ (s : ℕ). value_at header (new_header ∷ []) s) z), tt)
  where
    first_of : (pv sector : ℕ) → IsTrue (covers header pv sector) → sector ≡ 0
    first_of pv sector inside = grind (arith, nat_tests)

shown : (m : ℕ) → m ≤ 4 → (image : Image) → IsImage (at_moment m told) image → IsOldOrNew 0 0 (image 0 0)
shown m le image is = every_moment IsOldOrNew opened [] start_so steps brings_so m (omega arith) le image is 0 0

-- after the flush it is new
flushed : (image : Image) → IsImage told image → image 0 0 ≡ new_header
flushed image is = let m = is 0 0 in at m.0 (image 0 0) m.1
  where
    at : (write : Option ℕ) (value : List ℕ) → MayLeave opened steps 0 0 write value → value ≡ new_header
    at write value may =
        ⊎_elim (λ old. absurd (may.1 refl (inr (
          refl,
          inr (refl, subst (λ (w : Option ℕ). HasCompleted (Submitted 1 (Writing header (new_header ∷ [])) ∷ []) w) (sym old.0) tt),
        ))))
        (λ new. new.2) may.0

module _ (no_group : (image : Image) → image 0 0 ≡ old_header → FindsVersion (99 ∷ []) image none_out None)
    (one_group : (image : Image) → image 0 0 ≡ new_header → FindsVersion (99 ∷ []) image none_out (Some version_1))
    (makes : Makes (origin_at 0 (origin_of told)) (begun_entries (origin_of told) making) 0 making (Some version_1)) where
  still : IsStill (origin_of told)
  unfolding volumes_of
  still = record {
    from = omega arith;
    until = omega arith;
    before = λ m ge le image is. let z : m ≡ 0 = omega (arith, le) in
        no_group image (subst (λ (k : ℕ). IsImage (at_moment k told) image) z is 0 0).1.1;
    untouched = λ m ge le. tt;
    found = finds_with (99 ∷ []) opened none_out (left_out (origin_at 0 (origin_of told)) [] 0) None (λ pv. refl) (no_group opened refl);
  }

  law : CommitLaw (origin_of told) making 0 (Some version_1)
  unfolding volumes_of
  law = record {
    still = still;
    from = omega arith;
    until = omega arith;
    commits_is = refl;
    keeps = record { named = λ opening image. refl; volumes = λ opening image. tt; births = λ opening image key x. refl };
    zeroed = λ m ge le image. tt;
    before = λ m ge lt. absurd (omega (arith, lt));
    makes = makes;
    between = λ m ge le image is. ⊎_elim (λ old. inl (no_group image old)) (λ new. inr (one_group image new)) (shown m le image is);
  }

  done : DoneLaw (origin_of told) (Some version_1)
  unfolding volumes_of
  done = record {
    after = λ image is. one_group image (flushed image is);
    untouched = tt;
    found =
        finds_with (99 ∷ []) (now_at (origin_of told) 4) none_out (left_out (origin_of told) [] 4) (Some version_1) (λ pv. refl)
        (one_group (now_at (origin_of told) 4) refl);
  }

  -- so the run has its history
  pub small_run : Tells (origin_of told) (done_entries (origin_of told) making 0 (Some version_1))
  small_run = done_commit (origin_of told) making 0 (Some version_1) law done
