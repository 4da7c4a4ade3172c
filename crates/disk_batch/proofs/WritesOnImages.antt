-- What an image has in a sector after some writes.
use Rattle.std.proofs.Common.{◌≡◌, ℕ, cond, Bool, true, false, ◌||◌, List, [], ◌∷◌, map, inl, inr, ⊎_elim, refl, sym, ap, ◌∙◌, ◌⊎◌}
use Rattle.std.proofs.lemmas.Bool.{cases_Bool}
use Rattle.sector_base.specs.Spans.{covers}
use Rattle.disk_model.specs.Steps.{Image, value_at}
use Rattle.disk_model.specs.Submitting.{writes_at}
use Rattle.disk_batch.specs.Writes.{IsWrittenBy, write_work}
use Rattle.disk_batch.specs.InTurn.{Put, ShareNoSector, with_writes, written_on}

-- the image after one write
written_in : (put : Put) (image : Image) (pv sector : ℕ) → covers put.0 pv sector ≡ true
    → written_on put image pv sector ≡ value_at put.0 put.1 sector
written_in put image pv sector e = ap (λ (b : Bool). cond b (value_at put.0 put.1 sector) (image pv sector)) e

written_out : (put : Put) (image : Image) (pv sector : ℕ) → covers put.0 pv sector ≡ false
    → written_on put image pv sector ≡ image pv sector
written_out put image pv sector e = ap (λ (b : Bool). cond b (value_at put.0 put.1 sector) (image pv sector)) e

-- a sector that none of them writes stays
pub written_kept : (puts : List Put) (image : Image) (pv sector : ℕ) → writes_at (map write_work puts) pv sector ≡ false
    → with_writes puts image pv sector ≡ image pv sector
written_kept [] image pv sector none = refl
written_kept (put ∷ puts) image pv sector none =
    ⊎_elim
    (λ e. absurd (let no : true ≡ false = sym (ap (λ (b : Bool). b || writes_at (map write_work puts) pv sector) e) ∙ none in cc))
    (λ e.
    written_kept puts (written_on put image) pv sector (sym (ap (λ (b : Bool). b || writes_at (map write_work puts) pv sector) e) ∙ none)
    ∙ written_out put image pv sector e)
    (cases_Bool (covers put.0 pv sector))

-- where no two of them share a sector, what is there after them is what the one writes that covers it
pub written_is : (puts : List Put) (image : Image) (pv sector : ℕ) (value : List ℕ) → ShareNoSector puts → IsWrittenBy puts pv sector value
    → value ≡ with_writes puts image pv sector
written_is [] image pv sector value apart by = absurd by
written_is (put ∷ puts) image pv sector value apart (inl own) =
    own.1 ∙ sym (written_kept puts (written_on put image) pv sector (apart.0 pv sector own.0) ∙ written_in put image pv sector own.0)
written_is (put ∷ puts) image pv sector value apart (inr more) = written_is puts (written_on put image) pv sector value apart.1 more

-- what is written, one of them writes
pub written_at : (puts : List Put) (pv sector : ℕ) (value : List ℕ) → IsWrittenBy puts pv sector value
    → writes_at (map write_work puts) pv sector ≡ true
written_at [] pv sector value by = absurd by
written_at (put ∷ puts) pv sector value (inl own) = ap (λ (b : Bool). b || writes_at (map write_work puts) pv sector) own.0
written_at (put ∷ puts) pv sector value (inr more) =
    or_right (covers put.0 pv sector) (writes_at (map write_work puts) pv sector) (written_at puts pv sector value more)
  where
    or_right : (a b : Bool) → b ≡ true → (a || b) ≡ true
    or_right true b e = refl
    or_right false b e = e

-- after the writes a sector is as it was, where none of them covers it, or has what one of them writes
pub written_or_kept : (puts : List Put) (image : Image) (pv sector : ℕ)
    → ((with_writes puts image pv sector ≡ image pv sector) × (writes_at (map write_work puts) pv sector ≡ false))
    ⊎ IsWrittenBy puts pv sector (with_writes puts image pv sector)
written_or_kept [] image pv sector = inl (refl, refl)
written_or_kept (put ∷ puts) image pv sector =
    ⊎_elim
    (λ kept.
    ⊎_elim
    (λ own. inr (inl (own, kept.0 ∙ written_in put image pv sector own)))
    (λ other. inl (
      kept.0 ∙ written_out put image pv sector other,
      ap (λ (b : Bool). b || writes_at (map write_work puts) pv sector) other ∙ kept.1,
    ))
    (cases_Bool (covers put.0 pv sector)))
    (λ by. inr (inr by))
    (written_or_kept puts (written_on put image) pv sector)
