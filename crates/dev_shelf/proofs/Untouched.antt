-- A sector that no write has touched has the opened value alone.
use Rattle.std.proofs.Common.{◌≡◌, ◌≤◌, ℕ, ◌+◌, Bool, true, false, not, ◌==◌, ◌&&◌, ◌||◌, cond, List, [], ◌∷◌, filter, slice_index_or}
use Rattle.std.proofs.Common.{Option, None, refl, ap, subst, ◌∙◌, arith}
use Rattle.sector_base.specs.Spans.{covers}
use Rattle.disk_model.specs.Brought.{writes}
use Rattle.disk_model.specs.Steps.{Image, Reading, Writing, Flushing, Step, Submitted, Completed, Record}
use Rattle.disk_model.specs.ValueList.{is_dropped, is_overtaken, values}
use Rattle.dev_shelf.specs.declared.mem_shelf.recorded.RecordedWork.TheVariants.{Reads, Writes, Flushes}
use Rattle.dev_shelf.specs.declared.mem_shelf.recorded.RecordedStep.{RecordedStep}
use Rattle.dev_shelf.specs.declared.mem_shelf.recorded.RecordedStep.TheVariants.{Began, Ended}
use Rattle.dev_shelf.specs.DiskRow.{step_at}
use Rattle.dev_shelf.specs.DiskRowInvariant.{AllWithin, recorded_work}
use Rattle.dev_shelf.specs.RowValues.{IsWrittenWithin, TakesOne, is_touched, is_written}

abbrev Value : Type 0
Value = Option ℕ × List ℕ

abbrev sole : Image → ℕ → ℕ → List Value
sole opened pv sector = (None, opened pv sector) ∷ []

or_left : (a b : Bool) → (a || b) ≡ false → a ≡ false
or_left false b h = refl
or_left true b h = h

or_right : (a b : Bool) → (a || b) ≡ false → b ≡ false
or_right false b h = h
or_right true b h = absurd (let e : true ≡ false = h in cc)

not_overtaken : (steps : List Step) (pv sector : ℕ) (write : Option ℕ) → is_touched steps pv sector ≡ false
    → is_overtaken steps pv sector write ≡ false
not_overtaken [] pv sector write h = refl
not_overtaken (Submitted tag work ∷ steps) pv sector write h =
    not_overtaken steps pv sector write (or_right (writes work pv sector) (is_touched steps pv sector) h)
not_overtaken (Completed tag (Reading span) well fresh ∷ steps) pv sector write h = not_overtaken steps pv sector write h
not_overtaken (Completed tag (Flushing disk) well fresh ∷ steps) pv sector write h = not_overtaken steps pv sector write h
not_overtaken (Completed tag (Writing span sectors) false fresh ∷ steps) pv sector write h =
    not_overtaken steps pv sector write (or_right (covers span pv sector) (is_touched steps pv sector) h)
not_overtaken (Completed tag (Writing span sectors) true fresh ∷ steps) pv sector write h =
    rw (
      not_overtaken steps pv sector write (or_right (covers span pv sector) (is_touched steps pv sector) h),
      or_left (covers span pv sector) (is_touched steps pv sector) h,
    ) refl

not_dropped : (steps : List Step) (flush pv sector : ℕ) (write : Option ℕ) → is_touched steps pv sector ≡ false
    → is_dropped steps flush pv sector write ≡ false
not_dropped [] flush pv sector write h = refl
not_dropped (Submitted tag work ∷ steps) flush pv sector write h =
    let before = or_right (writes work pv sector) (is_touched steps pv sector) h in
    rw (not_dropped steps flush pv sector write before, not_overtaken steps pv sector write before) (none (tag == flush))
  where
    none : (b : Bool) → (b && false) ≡ false
    none true = refl
    none false = refl
not_dropped (Completed tag work well fresh ∷ steps) flush pv sector write h =
    not_dropped steps flush pv sector write (or_right (writes work pv sector) (is_touched steps pv sector) h)

-- the opened value is alone
pub untouched_values : (opened : Image) (steps : List Step) (pv sector : ℕ) → is_touched steps pv sector ≡ false
    → values opened steps pv sector ≡ (None, opened pv sector) ∷ []
untouched_values opened [] pv sector h = refl
untouched_values opened (Submitted tag (Reading span) ∷ steps) pv sector h = untouched_values opened steps pv sector h
untouched_values opened (Submitted tag (Flushing disk) ∷ steps) pv sector h = untouched_values opened steps pv sector h
untouched_values opened (Submitted tag (Writing span sectors) ∷ steps) pv sector h =
    rw (or_left (covers span pv sector) (is_touched steps pv sector) h)
    (untouched_values opened steps pv sector (or_right (covers span pv sector) (is_touched steps pv sector) h))
untouched_values opened (Completed tag (Reading span) well fresh ∷ steps) pv sector h = untouched_values opened steps pv sector h
untouched_values opened (Completed tag (Writing span sectors) well fresh ∷ steps) pv sector h =
    untouched_values opened steps pv sector (or_right (covers span pv sector) (is_touched steps pv sector) h)
untouched_values opened (Completed tag (Flushing disk) false fresh ∷ steps) pv sector h = untouched_values opened steps pv sector h
untouched_values opened (Completed tag (Flushing disk) true fresh ∷ steps) pv sector h =
    let Kept : List Value → List Value =
    λ vs. cond {A = List Value} (disk == pv) (filter (λ (v : Value). not (is_dropped steps tag pv sector v.0)) vs) vs in
    ap Kept (untouched_values opened steps pv sector h)
    ∙ stays (disk == pv) (is_dropped steps tag pv sector None) (not_dropped steps tag pv sector None h)
  where
    stays : (b d : Bool) → d ≡ false → cond {A = List Value} b (cond {A = List Value} (not d) (sole opened pv sector) [])
        (sole opened pv sector) ≡ sole opened pv sector
    stays true true e = absurd (let f : true ≡ false = e in cc)
    stays true false e = refl
    stays false d e = refl

-- so it is taken, and no choice is used
pub takes_untouched : (told : Record) (pv sector : ℕ) (choices : List ℕ) → is_touched told.steps pv sector ≡ false
    → TakesOne told pv sector choices (told.opened pv sector) choices
takes_untouched told pv sector choices h =
    let e = untouched_values told.opened told.steps pv sector h in
    record {
      chosen_so = rw e refl;
      left_so = rw e refl;
      is_value = rw e (0, omega arith, refl);
    }

-- one step more
pub touched_more : (written : List (List ℕ)) (r : RecordedStep) (steps : List Step) (pv sector : ℕ)
    → is_touched (step_at written r ∷ steps) pv sector ≡ (is_written (recorded_work r) pv sector || is_touched steps pv sector)
touched_more written (Began tag (Reads span)) steps pv sector = refl
touched_more written (Began tag (Writes span from)) steps pv sector = refl
touched_more written (Began tag (Flushes disk)) steps pv sector = refl
touched_more written (Ended tag (Reads span) well fresh) steps pv sector = refl
touched_more written (Ended tag (Writes span from) well fresh) steps pv sector = refl
touched_more written (Ended tag (Flushes disk) well fresh) steps pv sector = refl

-- a recorded write lies in its disk
pub step_within : (sizes : List ℕ) (written : List (List ℕ)) (r : RecordedStep) (steps : List Step) (pv : ℕ)
    → AllWithin sizes (step_at written r ∷ steps) → IsWrittenWithin (recorded_work r) pv (slice_index_or sizes pv 0)
step_within sizes written (Began tag (Reads span)) steps pv all = tt
step_within sizes written (Began tag (Writes span from)) steps pv all =
    λ e. subst (λ (p : ℕ). span.first + span.count ≤ slice_index_or sizes p 0) e all.0.within
step_within sizes written (Began tag (Flushes disk)) steps pv all = tt
step_within sizes written (Ended tag (Reads span) well fresh) steps pv all = tt
step_within sizes written (Ended tag (Writes span from) well fresh) steps pv all =
    λ e. subst (λ (p : ℕ). span.first + span.count ≤ slice_index_or sizes p 0) e all.0.within
step_within sizes written (Ended tag (Flushes disk) well fresh) steps pv all = tt
