-- One batch, as the only one of those that are carried out in turn.
use Rattle.std.proofs.Common.{◌≡◌, ◌⊎◌, ℕ, Bool, true, false, IsTrue, List, [], ◌∷◌, map, length, inl, inr, ⊎_elim, refl, sym, subst, ◌∙◌}
use Rattle.std.proofs.Common.{arith}
use Rattle.std.proofs.lemmas.Bool.{cases_Bool}
use Rattle.std.proofs.lemmas.List.{append-nil}
use Rattle.disk_model.specs.Steps.{Image, IsSame, Record, now_after}
use Rattle.disk_model.specs.Durability.{IsBase}
use Rattle.disk_model.specs.InFlight.{IsAmong}
use Rattle.disk_model.specs.Moments.{EveryImageSince}
use Rattle.disk_model.specs.Submitting.{writes_at}
use Rattle.disk_model.proofs.EachMoment.{moment_now}
use Rattle.disk_model.proofs.StepsSince.{steps_grow}
use Rattle.disk_batch.specs.InTurn.{HasFirstBatches, Put, ShareNoSector, WritesInTurn, with_writes}
use Rattle.disk_batch.specs.WriteAll.{AddsOnly, CanLeave, WritesAll}
use Rattle.disk_batch.specs.Writes.{IsWrittenBy, write_work}
use Rattle.disk_batch.proofs.WritesOnImages.{written_at, written_is, written_kept}

-- no two of its writes share a sector, and each is on a disk that it flushes
module _ (old new : Record) (puts : List Put) (disks : List ℕ) (well : Bool) (all : WritesAll old puts disks well new)
    (apart : ShareNoSector puts)
    (flushed : (pv sector : ℕ) → IsTrue (writes_at (map write_work puts) pv sector) → IsAmong disks pv) where
  -- what could be left there before was the base's, and what is written is what the image has after the writes
  either : (base : Image) → IsBase old base → (pv sector : ℕ) (value : List ℕ)
      → CanLeave old pv sector value ⊎ IsWrittenBy puts pv sector value
      → (value ≡ base pv sector) ⊎ (value ≡ with_writes puts base pv sector)
  either base is pv sector value (inl could) = inl ((is pv sector).each could.0 value could.1)
  either base is pv sector value (inr by) = inr (written_is puts base pv sector value apart by)

  images : (base : Image) → IsBase old base → EveryImageSince (length old.steps) new (HasFirstBatches (puts ∷ []) base)
  images base is moment from upto image im = record {
    count = 0;
    among = omega arith;
    either =
        λ pv sector. either base is pv sector (image pv sector)
        ((all.adds moment from upto pv sector).each (im pv sector).0 (image pv sector) (im pv sector).1);
  }

  last : AddsOnly old puts new
  last = subst (AddsOnly old puts) (moment_now new) (all.adds (length new.steps) (steps_grow old new all.since all.steps) (omega arith))

  lasting : (base : Image) → IsBase old base → IsTrue well → IsBase new (with_writes puts base)
  lasting base is went pv sector =
      ⊎_elim
      (λ at. record {
        each = λ write value may. written_is puts base pv sector value apart
            ((all.lasting went pv sector at (flushed pv sector at)).each write value may);
      })
      (λ none. record {
        each = λ write value may.
            ⊎_elim (λ e. e ∙ sym (written_kept puts base pv sector none)) (λ e. e)
            (either base is pv sector value ((last pv sector).each write value may));
      })
      (cases_Bool (writes_at (map write_work puts) pv sector))

  now : IsTrue well → IsSame (now_after new.opened new.steps) (with_writes puts (now_after old.opened old.steps))
  now went pv sector =
      ⊎_elim
      (λ at. written_is puts (now_after old.opened old.steps) pv sector (now_after new.opened new.steps pv sector) apart
      (all.written went pv sector at))
      (λ none.
      ⊎_elim
      (λ same. same ∙ sym (written_kept puts (now_after old.opened old.steps) pv sector none))
      (λ by. absurd (let no : true ≡ false = sym (written_at puts pv sector (now_after new.opened new.steps pv sector) by) ∙ none in cc))
      (all.now pv sector))
      (cases_Bool (writes_at (map write_work puts) pv sector))

  pub one_turn : WritesInTurn old (puts ∷ []) well new
  one_turn = record {
    since = all.since;
    steps = all.steps;
    submitted = 1;
    among = omega arith;
    writes = all.writes ∙ sym (append-nil puts);
    unread = all.reads;
    whole = λ went. refl;
    every_image = images;
    lasting = λ went base is. lasting base is went;
    now = now;
  }
