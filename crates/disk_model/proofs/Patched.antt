-- The images after the submission of a write are those from before, with some of its sectors replaced.
use Rattle.std.proofs.Common.{◌≡◌, ◌⊎◌, ℕ, IsTrue, List, Option, inl, inr, ⊎_elim, refl}
use Rattle.sector_base.specs.declared.spans.Span.{Span}
use Rattle.sector_base.specs.Spans.{covers}
use Rattle.disk_model.specs.Steps.{Image, Writing, Submitted, Record, value_at, now_after, step_on}
use Rattle.disk_model.specs.CrashValues.{MayLeave, IsImage}
use Rattle.disk_model.specs.Record.{IsRecord}
use Rattle.disk_model.proofs.NowStands.{now_image}

-- the image that a write's submission leaves is one from before, with some of the write's sectors in place
pub record IsPatched (told : Record) (span : Span) (sectors : List (List ℕ)) (image : Image) : Type 0 where
  pub old : Image
  pub was : IsImage told old
  pub each : (pv sector : ℕ) → (image pv sector ≡ old pv sector)
      ⊎ (IsTrue (covers span pv sector) × (image pv sector ≡ value_at span sectors sector))

module _ (told : Record) (tag : ℕ) (span : Span) (sectors : List (List ℕ)) (image : Image)
    (is : IsImage (step_on (Submitted tag (Writing span sectors)) told) image) where
  -- the value that the earlier image has in the sector
  Choice : (pv sector : ℕ) → Type 0
  Choice pv sector =
      (old : List ℕ) × ((write : Option ℕ) × MayLeave told.opened told.steps pv sector write old)
      × ((image pv sector ≡ old) ⊎ (IsTrue (covers span pv sector) × (image pv sector ≡ value_at span sectors sector)))

  -- there is one
  choice : IsRecord told.steps → (pv sector : ℕ) → Choice pv sector
  unfolding Choice
  choice record' pv sector =
      ⊎_elim
      (λ a. (image pv sector, ((is pv sector).0, a), inl refl))
      (λ b. (now_after told.opened told.steps pv sector, now_image told record' pv sector, inr (b.0, b.2)))
      (is pv sector).1

  -- so there is an earlier image
  pub with_puts : IsRecord told.steps → IsPatched told span sectors image
  unfolding Choice
  with_puts record' = record {
    old = λ pv sector. (choice record' pv sector).0;
    was = λ pv sector. (choice record' pv sector).1;
    each = λ pv sector. (choice record' pv sector).2;
  }
