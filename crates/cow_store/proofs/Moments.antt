-- The promise goes on by one operation.
use Rattle.std.proofs.Common.{◌<◌, ℕ, Bool, IsTrue, List, [], ◌∷◌, arith}
use Rattle.disk_model.specs.Brought.{BringOnly}
use Rattle.disk_model.specs.CarriesOut.{with_operation}
use Rattle.disk_model.specs.CrashValues.{IsImage}
use Rattle.disk_model.specs.Durability.{EachOnlyLeaves}
use Rattle.disk_model.specs.Moments.{EachImage}
use Rattle.disk_model.specs.Steps.{Image, Work, Step, Submitted, Completed, Record, step_on}
use Rattle.disk_model.proofs.Bringing.{only_leaves}
use Rattle.disk_model.proofs.EachMoment.{throughout_step}
use Rattle.disk_model.proofs.EveryMoment.{since_step}
use Rattle.cow_store.specs.Candidates.{HasCandidates}
use Rattle.cow_store.specs.Layout.{Lengths}
use Rattle.cow_store.specs.Stands.{IsKept, IsPromised, IsRight, IsWhole, Past}
use Rattle.cow_store.specs.VolStates.{AreOneByOne, WritesWell}
use Rattle.cow_store.proofs.CandidateValues.{AreCandidates, candidates_completed, candidates_submitted}
use Rattle.cow_store.proofs.Images.{whole}
use Rattle.cow_store.proofs.Operations.{one_more, wells_more}

-- what each value has, each image has
images_have : (R : ℕ → ℕ → List ℕ → Type 0) (told : Record) → EachOnlyLeaves R told → (image : Image) → IsImage told image
    → (v sector : ℕ) → R v sector (image v sector)
images_have R told only image is v sector = (only v sector).each (is v sector).0 (image v sector) (is v sector).1

module _ (lengths : Lengths) (past : Past) where
  -- the sectors of the origin
  abbrev IsOrigin : ℕ → Type 0
  IsOrigin sector = sector < lengths.origin

  candidates_in : (told : Record) → AreCandidates past.start 0 IsOrigin told
      → EachImage (HasCandidates past.start 0 lengths.origin told) told
  candidates_in told c image is sector lt = (c sector lt).each (is 0 sector).0 (image 0 sector) (is 0 sector).1

  -- one step more, after which each image is whole and has candidates
  promise_step : (step : Step) (told : Record) → IsPromised lengths past told → EachImage (IsWhole lengths past) (step_on step told)
      → AreCandidates past.start 0 IsOrigin (step_on step told) → IsPromised lengths past (step_on step told)
  promise_step step told p here c = record {
    begun = omega (arith, p.begun);
    snapshots = since_step step told past.start (IsWhole lengths past) p.begun p.snapshots here;
    candidates =
        throughout_step step told past.start (λ t. EachImage (HasCandidates past.start 0 lengths.origin t) t)
        (candidates_in (step_on step told) c) p.candidates;
  }

  -- one operation that brings only values of a kind of which whole images are made
  module _ (R : ℕ → ℕ → List ℕ → Type 0) (make : (image : Image) → ((v sector : ℕ) → R v sector (image v sector))
      → IsWhole lengths past image)
      (told : Record) (p : IsPromised lengths past told) (only : EachOnlyLeaves R told) (c : AreCandidates past.start 0 IsOrigin told)
      (one : AreOneByOne told.steps) (wells : WritesWell told.steps) (tag : ℕ) (work : Work)
      (brings : BringOnly R (Submitted tag work ∷ [])) where
    only_submitted : EachOnlyLeaves R (step_on (Submitted tag work) told)
    only_submitted = only_leaves R told.opened told.steps only (Submitted tag work ∷ []) brings

    pub only_completed : (well : Bool) (fresh : List Bool) → EachOnlyLeaves R (with_operation tag work well fresh told)
    only_completed well fresh =
        only_leaves R told.opened told.steps only (Completed tag work well fresh ∷ Submitted tag work ∷ []) brings

    pub candidates_after : (well : Bool) (fresh : List Bool) → AreCandidates past.start 0 IsOrigin (with_operation tag work well fresh told)
    candidates_after well fresh = candidates_completed past.start 0 IsOrigin told tag work well fresh p.begun one wells c

    pub promise_after : (well : Bool) (fresh : List Bool) → IsPromised lengths past (with_operation tag work well fresh told)
    promise_after well fresh =
        let first : IsPromised lengths past (step_on (Submitted tag work) told) =
        promise_step (Submitted tag work) told p
        (λ image is. make image (images_have R (step_on (Submitted tag work) told) only_submitted image is))
        (candidates_submitted past.start 0 IsOrigin told tag work p.begun c) in
        promise_step (Completed tag work well fresh) (step_on (Submitted tag work) told) first
        (λ image is. make image (images_have R (with_operation tag work well fresh told) (only_completed well fresh) image is))
        (candidates_after well fresh)

-- one operation that brings only right values
module _ (lengths : Lengths) (past : Past) (entries : List ℕ) (told : Record) (p : IsPromised lengths past told)
    (k : IsKept lengths past entries told) (tag : ℕ) (work : Work) (well : Bool) (fresh : List Bool)
    (brings : BringOnly (IsRight lengths past.was entries k.table) (Submitted tag work ∷ [])) where
  abbrev Right : ℕ → ℕ → List ℕ → Type 0
  Right = IsRight lengths past.was entries k.table

  makes : (image : Image) → ((v sector : ℕ) → IsRight lengths past.was entries k.table v sector (image v sector))
      → IsWhole lengths past image
  makes image right = whole lengths past entries k.table k.chunks k.found image right

  pub promise_right : IsPromised lengths past (with_operation tag work well fresh told)
  promise_right = promise_after lengths past Right makes told p k.right k.candidates k.one_by_one k.well tag work brings well fresh

  pub kept_right : IsTrue well → IsKept lengths past entries (with_operation tag work well fresh told)
  kept_right went = record {
    one_by_one = one_more told tag work well fresh k.one_by_one;
    well = wells_more tag work well fresh told went k.well;
    chunks = k.chunks;
    table = k.table;
    found = k.found;
    right = only_completed lengths past Right makes told p k.right k.candidates k.one_by_one k.well tag work brings well fresh;
    candidates = candidates_after lengths past Right makes told p k.right k.candidates k.one_by_one k.well tag work brings well fresh;
  }
