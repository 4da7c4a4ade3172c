-- What every image has at every moment of a run of one line.
use Rattle.std.proofs.Common.{◌≡◌, ◌≤◌, ◌⊎◌, ℕ, Bool, true, false, IsTrue, List, ◌++◌, length, take, inl, inr, refl, sym, ap, subst, ◌∙◌}
use Rattle.std.proofs.Common.{arith}
use Rattle.disk_batch.specs.InTurn.{HasFirstBatches, Put, WritesInTurn, with_batches}
use Rattle.disk_batch.proofs.FrontBatches.{none_front}
use Rattle.disk_batch.proofs.InTurn.{of_submitted}
use Rattle.disk_model.proofs.Bringing.{every_moment, only_leaves}
use Rattle.disk_model.proofs.EveryMoment.{since_join, since_weaken}
use Rattle.disk_model.proofs.Ordered.{writes_nothing_brings}
use Rattle.disk_model.proofs.StepsSince.{steps_joined}
use Rattle.disk_model.specs.Durability.{IsBase}
use Rattle.disk_model.specs.Moments.{EveryImageSince}
use Rattle.disk_model.specs.Order.{WritesNothing}
use Rattle.disk_model.specs.Steps.{Image, IsSame, Step, Record, steps_on}
use Rattle.line_history.proofs.Seen.{steps_more}
use Rattle.line_history.specs.LineRun.{Given, RunsLine, Stage, Opened, Repairing, Repaired, Zeroing, Writing, Done, batches_if, batches_in}
use Rattle.line_history.specs.LineRun.{is_done, is_repaired, is_zeroed, repair_begun, repairs_in, zeros_begun, zeros_in}

-- what every image had since a moment, and has from a later record on
pub joined : (old new : Record) (newer : List Step) → new ≡ steps_on newer old → (from : ℕ) (P : Image → Type 0) → from ≤ length old.steps
    → EveryImageSince from old P → EveryImageSince (length old.steps) new P
    → EveryImageSince from new P
joined old new newer is from P le first second =
    subst (λ (t : Record). EveryImageSince from t P) (sym is)
    (since_join old.opened old.steps newer from P le first (subst (λ (t : Record). EveryImageSince (length old.steps) t P) is second))

-- where nothing was written each sector keeps its one value
module _ (old new : Record) (since : List Step) (is : new ≡ steps_on since old) (nothing : WritesNothing since) (base : Image)
    (base_is : IsBase old base) where
  abbrev Stays : ℕ → ℕ → List ℕ → Type 0
  Stays pv sector value = value ≡ base pv sector

  pub quiet_images : EveryImageSince (length old.steps) new (λ image. IsSame image base)
  quiet_images =
      subst (λ (t : Record). EveryImageSince (length old.steps) t (λ image. IsSame image base)) (sym is)
      (every_moment Stays old.opened old.steps base_is since (writes_nothing_brings Stays since nothing))

  pub quiet_base : IsBase new base
  quiet_base =
      subst (λ (t : Record). IsBase t base) (sym is)
      (only_leaves Stays old.opened old.steps base_is since (writes_nothing_brings Stays since nothing))

-- batches that were begun, or none
front_if : (begun : Bool) (batches : List (List Put)) (base image : Image) → HasFirstBatches (batches_if begun batches) base image
    → IsSame image base ⊎ (IsTrue begun × HasFirstBatches batches base image)
front_if true batches base image has = inr (refl, has)
front_if false batches base image has = inl (none_front base image has)

module _ (g : Given) (stage : Stage) (start ended : Record) (r : RunsLine g stage start ended) where
  -- an image up to the start: the base, or one on the way of the repair
  abbrev pub IsBefore : Image → Type 0
  IsBefore image = IsSame image g.base ⊎ (IsTrue (repair_begun stage) × HasFirstBatches (repairs_in g) g.base image)

  -- one from the start until the zeros are written: that with all of the repair, or one on the way of the zeros
  abbrev pub IsZeroing : Image → Type 0
  IsZeroing image =
      IsSame image (with_batches (repairs_in g) g.base)
      ⊎ (IsTrue (zeros_begun stage) × HasFirstBatches (zeros_in g) (with_batches (repairs_in g) g.base) image)

  -- one behind them, on the way of the line's batches
  abbrev pub IsAfter : Image → Type 0
  IsAfter image = HasFirstBatches (batches_in g) (with_batches (zeros_in g) (with_batches (repairs_in g) g.base)) image

  opened_base : IsBase r.opened g.base
  opened_base = quiet_base g.handed r.opened r.since r.opening r.nothing g.base r.given.base

  pub handed_first : length g.handed.steps ≤ length r.opened.steps
  handed_first = steps_more g.handed r.opened r.since r.opening

  pub opened_first : length r.opened.steps ≤ length start.steps
  opened_first = steps_more r.opened start r.repair.since r.repair.steps

  pub before_start : EveryImageSince (length g.handed.steps) start IsBefore
  before_start =
      joined r.opened start r.repair.since r.repair.steps (length g.handed.steps) IsBefore handed_first
      (since_weaken r.opened (length g.handed.steps) (length g.handed.steps) (λ image. IsSame image g.base) IsBefore (omega arith)
      (λ image same. inl same)
      (quiet_images g.handed r.opened r.since r.opening r.nothing g.base r.given.base))
      (since_weaken start (length r.opened.steps) (length r.opened.steps)
      (HasFirstBatches (take r.repair.submitted (batches_if (repair_begun stage) (repairs_in g))) g.base) IsBefore (omega arith)
      (λ image has. front_if (repair_begun stage) (repairs_in g) g.base image
      (of_submitted r.repair.submitted (batches_if (repair_begun stage) (repairs_in g)) g.base image has))
      (r.repair.every_image g.base opened_base))

-- what comes first was begun
pub begun_repair : (s : Stage) → is_repaired s ≡ true → repair_begun s ≡ true
begun_repair Opened e = cc
begun_repair Repairing e = cc
begun_repair Repaired e = refl
begun_repair Zeroing e = refl
begun_repair Writing e = refl
begun_repair Done e = refl

pub begun_zeros : (s : Stage) → is_zeroed s ≡ true → zeros_begun s ≡ true
begun_zeros Opened e = cc
begun_zeros Repairing e = cc
begun_zeros Repaired e = cc
begun_zeros Zeroing e = cc
begun_zeros Writing e = refl
begun_zeros Done e = refl

pub none_zeroed : (s : Stage) → is_repaired s ≡ false → is_zeroed s ≡ false
none_zeroed Opened e = refl
none_zeroed Repairing e = refl
none_zeroed Repaired e = cc
none_zeroed Zeroing e = cc
none_zeroed Writing e = cc
none_zeroed Done e = cc

-- where all was repaired
module _ (g : Given) (stage : Stage) (start ended : Record) (r : RunsLine g stage start ended) (repaired : is_repaired stage ≡ true) where
  abbrev repaired_image : Image
  repaired_image = with_batches (repairs_in g) g.base

  abbrev pub zeros : WritesInTurn start (batches_if (zeros_begun stage) (zeros_in g)) (is_zeroed stage) r.zeroed
  zeros = r.zeros repaired

  repairs_all : batches_if (repair_begun stage) (repairs_in g) ≡ repairs_in g
  repairs_all = ap (λ (b : Bool). batches_if b (repairs_in g)) (begun_repair stage repaired)

  -- those were all
  pub all_repairs : WritesInTurn r.opened (repairs_in g) true start
  all_repairs =
      subst (λ (l : List (List Put)). WritesInTurn r.opened l true start) repairs_all
      (subst (λ (w : Bool). WritesInTurn r.opened (batches_if (repair_begun stage) (repairs_in g)) w start) repaired r.repair)

  -- the start has one value in each sector, that with all of the repair
  pub start_base : IsBase start repaired_image
  start_base = all_repairs.lasting refl g.base (opened_base g stage start ended r)

  pub during : EveryImageSince (length start.steps) r.zeroed (IsZeroing g stage start ended r)
  during =
      since_weaken r.zeroed (length start.steps) (length start.steps)
      (HasFirstBatches (take zeros.submitted (batches_if (zeros_begun stage) (zeros_in g))) repaired_image)
      (IsZeroing g stage start ended r) (omega arith)
      (λ image has. front_if (zeros_begun stage) (zeros_in g) repaired_image image
      (of_submitted zeros.submitted (batches_if (zeros_begun stage) (zeros_in g)) repaired_image image has))
      (zeros.every_image repaired_image start_base)

  pub zeros_last : length start.steps ≤ length r.zeroed.steps
  zeros_last = steps_more start r.zeroed zeros.since zeros.steps

  -- ---- and all zeros were written
  module _ (zeroed : is_zeroed stage ≡ true) where
    abbrev zeroed_image : Image
    zeroed_image = with_batches (zeros_in g) repaired_image

    abbrev pub line : WritesInTurn r.zeroed (batches_in g) (is_done stage) ended
    line = r.written zeroed

    zeros_all : batches_if (zeros_begun stage) (zeros_in g) ≡ zeros_in g
    zeros_all = ap (λ (b : Bool). batches_if b (zeros_in g)) (begun_zeros stage zeroed)

    -- those were all
    pub all_zeros : WritesInTurn start (zeros_in g) true r.zeroed
    all_zeros =
        subst (λ (l : List (List Put)). WritesInTurn start l true r.zeroed) zeros_all
        (subst (λ (w : Bool). WritesInTurn start (batches_if (zeros_begun stage) (zeros_in g)) w r.zeroed) zeroed zeros)

    -- then each sector has one value, that with them
    pub zeroed_base_is : IsBase r.zeroed zeroed_image
    zeroed_base_is = all_zeros.lasting refl repaired_image start_base

    -- and an image from then on is on the way of the line's batches that were submitted
    pub submitted_after : EveryImageSince (length r.zeroed.steps) ended (HasFirstBatches (take line.submitted (batches_in g)) zeroed_image)
    submitted_after = line.every_image zeroed_image zeroed_base_is

    pub after_zeros : EveryImageSince (length r.zeroed.steps) ended (IsAfter g stage start ended r)
    after_zeros =
        since_weaken ended (length r.zeroed.steps) (length r.zeroed.steps)
        (HasFirstBatches (take line.submitted (batches_in g)) zeroed_image) (IsAfter g stage start ended r) (omega arith)
        (λ image has. of_submitted line.submitted (batches_in g) zeroed_image image has) submitted_after

    pub zeroed_last : length r.zeroed.steps ≤ length ended.steps
    zeroed_last = steps_more r.zeroed ended line.since line.steps

    -- what every image has from the start on
    pub from_start : (P : Image → Type 0) → ((image : Image) → IsZeroing g stage start ended r image → P image)
        → EveryImageSince (length r.zeroed.steps) ended P → EveryImageSince (length start.steps) ended P
    from_start P before after =
        joined r.zeroed ended line.since line.steps (length start.steps) P zeros_last
        (since_weaken r.zeroed (length start.steps) (length start.steps) (IsZeroing g stage start ended r) P (omega arith) before
        during) after

  -- the run ended before all were written
  pub until_end : (P : Image → Type 0) → is_zeroed stage ≡ false → ((image : Image) → IsZeroing g stage start ended r image → P image)
      → EveryImageSince (length start.steps) ended P
  until_end P unzeroed before =
      subst (λ (t : Record). EveryImageSince (length start.steps) t P) (sym (r.unzeroed unzeroed))
      (since_weaken r.zeroed (length start.steps) (length start.steps) (IsZeroing g stage start ended r) P (omega arith) before during)

  -- the steps since the start
  pub since_start : (since : List Step) × (ended ≡ steps_on since start)
  since_start = by (is_zeroed stage) refl
    where
      by : (z : Bool) → is_zeroed stage ≡ z → (since : List Step) × (ended ≡ steps_on since start)
      by true zeroed = (
        (line zeroed).since ++ zeros.since,
        steps_joined start r.zeroed ended zeros.since (line zeroed).since zeros.steps
            (line zeroed).steps,
      )
      by false unzeroed = (zeros.since, r.unzeroed unzeroed ∙ zeros.steps)

  pub start_last : length start.steps ≤ length ended.steps
  start_last = steps_more start ended since_start.0 since_start.1
