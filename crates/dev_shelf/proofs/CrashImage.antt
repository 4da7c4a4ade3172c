-- What the choices take of a row in memory is an image that a crash may leave.
use Rattle.std.proofs.Common.{◌≡◌, ◌≤◌, ◌<◌, ℕ, ◌+◌, ◌-◌, true, false, cond, ◌&&◌, ◌||◌, IsTrue, List, [], ◌∷◌, length, get_or}
use Rattle.std.proofs.Common.{slice_index_or, ⊎_elim, refl, sym, ap, subst, ◌∙◌, arith}
use Rattle.std.proofs.lemmas.Bool.{cases_lt}
use Rattle.std.proofs.lemmas.Bool.Decides.{nat_tests}
use Rattle.std.proofs.lemmas.List.{get_or_past, take_all}
use Rattle.std.proofs.Math.ListN.{get_or-map}
use Rattle.sector_base.specs.declared.spans.Span.{Span}
use Rattle.sector_base.specs.Spans.{covers}
use Rattle.dev_shelf.specs.declared.mem_shelf.disk_row.DiskRow.{DiskRow}
use Rattle.disk_model.specs.Steps.{Image, Reading, Writing, Flushing, Step, Submitted, Completed, Record, now_after, value_at}
use Rattle.disk_model.specs.CrashValues.{MayLeave, IsImage}
use Rattle.disk_model.specs.Record.{IsRecord}
use Rattle.disk_model.specs.Operations.{Fills}
use Rattle.disk_model.specs.Moments.{at_moment}
use Rattle.dev_shelf.specs.ChosenImage.{IsChosen}
use Rattle.dev_shelf.specs.DiskRow.{image_of, lengths_of, sizes_of, steps_of}
use Rattle.dev_shelf.specs.DiskRowInvariant.{AllWithin, IsGood}
use Rattle.dev_shelf.specs.RowValues.{TakesDisks, told_after}
use Rattle.disk_model.proofs.NowStands.{now_image}
use Rattle.dev_shelf.proofs.RecordMoments.{steps_at, record_at, within_at}

-- a span that lies in its disk covers no sector past the end
not_past : (sizes : List ℕ) (span : Span) (sectors : List (List ℕ)) (pv sector : ℕ) → Fills sizes span sectors
    → slice_index_or sizes pv 0 ≤ sector → IsTrue (covers span pv sector) → ⊥
not_past sizes span sectors pv sector fills past inside =
    let same : span.pv ≡ pv = grind (arith, nat_tests) in
    let below : sector < span.first + span.count = grind (arith, nat_tests) in
    let end : span.first + span.count ≤ slice_index_or sizes pv 0 =
    subst (λ (p : ℕ). span.first + span.count ≤ slice_index_or sizes p 0) same fills.within in
    omega arith

-- past the end of its disk a sector stays as it was opened
now_past : (opened : Image) (sizes : List ℕ) (steps : List Step) (pv sector : ℕ) → AllWithin sizes steps
    → slice_index_or sizes pv 0 ≤ sector → now_after opened steps pv sector ≡ opened pv sector
now_past opened sizes [] pv sector all past = refl
now_past opened sizes (Submitted tag work ∷ steps) pv sector all past = now_past opened sizes steps pv sector all.1 past
now_past opened sizes (Completed tag (Reading span) well fresh ∷ steps) pv sector all past =
    now_past opened sizes steps pv sector all.1 past
now_past opened sizes (Completed tag (Flushing disk) well fresh ∷ steps) pv sector all past =
    now_past opened sizes steps pv sector all.1 past
now_past opened sizes (Completed tag (Writing span sectors) well fresh ∷ steps) pv sector all past =
    (elim (covers span pv sector) as (λ b. covers span pv sector ≡ b
    → cond (b && (well || slice_index_or fresh (sector - span.first) false)) (value_at span sectors sector)
    (now_after opened steps pv sector) ≡ opened pv sector) [
      | true ↦ λ e. absurd (not_past sizes span sectors pv sector all.0 past e)
      | false ↦ λ e. now_past opened sizes steps pv sector all.1 past
    ]) refl

-- past the end of its disk there is no sector
none_past : (disks : List (List (List ℕ))) (pv sector : ℕ) → slice_index_or (lengths_of disks) pv 0 ≤ sector → image_of disks pv sector ≡ []
none_past disks pv sector past =
    let size : get_or (lengths_of disks) pv 0 ≡ length (get_or disks pv []) = get_or-map (λ (d : List (List ℕ)). length d) disks pv [] in
    get_or_past (get_or disks pv []) sector [] (omega arith)

-- what the choices take is an image
module _ (told : Record) (sizes choices : List ℕ) (disks : List (List (List ℕ))) (left : List ℕ)
    (takes : TakesDisks told sizes (length sizes) choices disks left) where
  same_sizes : lengths_of disks ≡ sizes
  same_sizes = takes.sizes_so ∙ take_all (length sizes) sizes (omega arith)

  pub is_image : IsRecord told.steps → AllWithin sizes told.steps
      → ((pv sector : ℕ) → slice_index_or sizes pv 0 ≤ sector → told.opened pv sector ≡ []) → IsImage told (image_of disks)
  is_image follows within opened pv sector =
      ⊎_elim
      (λ (inside : sector < slice_index_or sizes pv 0).
      takes.each pv sector
      (⊎_elim (λ (lt : pv < length sizes). lt)
      (λ (ge : length sizes ≤ pv). absurd (let none : slice_index_or sizes pv 0 ≡ 0 = get_or_past sizes pv 0 ge in omega arith))
      (cases_lt pv (length sizes))) inside)
      (λ (past : slice_index_or sizes pv 0 ≤ sector).
      let standing = now_image told follows pv sector in
      let same : now_after told.opened told.steps pv sector ≡ image_of disks pv sector =
      now_past told.opened sizes told.steps pv sector within past ∙ opened pv sector past
      ∙ sym (none_past disks pv sector (subst (λ (l : List ℕ). slice_index_or l pv 0 ≤ sector) (sym same_sizes) past)) in
      (standing.0, subst (MayLeave told.opened told.steps pv sector standing.0) same standing.1))
      (cases_lt sector (slice_index_or sizes pv 0))

  pub is_chosen : IsChosen told sizes choices disks
  is_chosen = record { sizes_same = same_sizes; sectors = takes.chosen_so }

-- what a row told at a moment
moment_is : (row : DiskRow) (moment : ℕ) → moment ≤ length row.steps.items
    → told_after row moment ≡ at_moment moment (record { opened = image_of row.opened.items; steps = steps_of row })
moment_is row moment le =
    ap (λ (l : List Step). record { opened = image_of row.opened.items; steps = l })
    (sym (steps_at row.written.items row.steps.items moment le))

-- the images of a row at a moment
module _ (row : DiskRow) (good : IsGood row) (moment : ℕ) (le : moment ≤ length row.steps.items) (choices : List ℕ)
    (disks : List (List (List ℕ))) (left : List ℕ)
    (takes : TakesDisks (told_after row moment) (sizes_of row) (length (sizes_of row)) choices disks left) where
  pub row_image : IsImage (at_moment moment (record { opened = image_of row.opened.items; steps = steps_of row })) (image_of disks)
  row_image =
      subst (λ (t : Record). IsImage t (image_of disks)) (moment_is row moment le)
      (is_image (told_after row moment) (sizes_of row) choices disks left takes
      (record_at row.written.items row.steps.items moment good.follows)
      (within_at (sizes_of row) row.written.items row.steps.items moment good.within)
      (λ pv sector past. none_past row.opened.items pv sector past))

  pub row_chosen : IsChosen (at_moment moment (record { opened = image_of row.opened.items; steps = steps_of row })) (sizes_of row) choices
      disks
  row_chosen =
      subst (λ (t : Record). IsChosen t (sizes_of row) choices disks) (moment_is row moment le)
      (is_chosen (told_after row moment) (sizes_of row) choices disks left takes)
