-- What a batch that was carried out alone leaves, for any property of the values.
use Rattle.std.proofs.Common.{◌≡◌, ℕ, Bool, false, IsTrue, List, length, map, ⊎_elim, subst, arith}
use Rattle.sector_base.specs.declared.spans.Span.{Span}
use Rattle.disk_model.specs.Steps.{Record, now_after}
use Rattle.disk_model.specs.Moments.{Throughout}
use Rattle.disk_model.specs.Durability.{AllLeave, OnlyLeaves}
use Rattle.disk_model.specs.InFlight.{IsAmong}
use Rattle.disk_model.specs.Submitting.{BringAt, writes_at}
use Rattle.disk_model.proofs.EachMoment.{moment_now}
use Rattle.disk_model.proofs.StepsSince.{steps_grow}
use Rattle.disk_batch.specs.Writes.{write_work}
use Rattle.disk_batch.specs.WriteAll.{AddsOnly, WritesAll}
use Rattle.disk_batch.proofs.WrittenBy.{not_written, written_has}

module _ (old : Record) (puts : List (Span × List (List ℕ))) (disks : List ℕ) (well : Bool) (new : Record)
    (h : WritesAll old puts disks well new) where
  -- writes that bring only allowed values to some sectors leave only such there, at every moment
  pub allowed_throughout : (mine : ℕ → ℕ → Bool) (Now : ℕ → ℕ → List ℕ → Type 0)
      → ((pv sector : ℕ) → IsTrue (mine pv sector) → BringAt (map write_work puts) pv sector (Now pv sector)) → AllLeave mine Now old
      → Throughout (length old.steps) (length new.steps) new (AllLeave mine Now)
  allowed_throughout mine Now bring leaves moment from until pv sector own = record {
    each = λ write value may.
        ⊎_elim (λ was. (leaves pv sector own).each was.0 value was.1)
        (λ here. written_has puts pv sector (Now pv sector) (bring pv sector own) value here)
        ((h.adds moment from until pv sector).each write value may);
  }

  -- and so at the end
  adds_now : AddsOnly old puts new
  adds_now = subst (AddsOnly old puts) (moment_now new) (h.adds (length new.steps) (steps_grow old new h.since h.steps) (omega arith))

  pub allowed_now : (pv sector : ℕ) (Q : List ℕ → Type 0) → BringAt (map write_work puts) pv sector Q → OnlyLeaves old pv sector Q
      → OnlyLeaves new pv sector Q
  allowed_now pv sector Q bring leaves = record {
    each =
        λ write value may. ⊎_elim (λ was. leaves.each was.0 value was.1) (λ here. written_has puts pv sector Q bring value here)
        ((adds_now pv sector).each write value may);
  }

  -- a sector that no write covers keeps its values, and what a read gives
  pub kept_elsewhere : (pv sector : ℕ) (Q : List ℕ → Type 0) → writes_at (map write_work puts) pv sector ≡ false
      → OnlyLeaves old pv sector Q → OnlyLeaves new pv sector Q
  kept_elsewhere pv sector Q none leaves = record {
    each =
        λ write value may. ⊎_elim (λ was. leaves.each was.0 value was.1) (λ here. absurd (not_written puts pv sector value none here))
        ((adds_now pv sector).each write value may);
  }

  pub now_elsewhere : (pv sector : ℕ) → writes_at (map write_work puts) pv sector ≡ false
      → now_after new.opened new.steps pv sector ≡ now_after old.opened old.steps pv sector
  now_elsewhere pv sector none =
      ⊎_elim (λ same. same) (λ here. absurd (not_written puts pv sector (now_after new.opened new.steps pv sector) none here))
      (h.now pv sector)

  -- where all went well, a sector that was written holds what was brought to it
  pub now_has : IsTrue well → (pv sector : ℕ) (Q : List ℕ → Type 0) → IsTrue (writes_at (map write_work puts) pv sector)
      → BringAt (map write_work puts) pv sector Q → Q (now_after new.opened new.steps pv sector)
  now_has ok pv sector Q here bring =
      written_has puts pv sector Q bring (now_after new.opened new.steps pv sector) (h.written ok pv sector here)

  -- and of a disk that is flushed a crash leaves nothing else
  pub goal_reached : IsTrue well → (pv sector : ℕ) (Q : List ℕ → Type 0) → IsTrue (writes_at (map write_work puts) pv sector)
      → IsAmong disks pv → BringAt (map write_work puts) pv sector Q → OnlyLeaves new pv sector Q
  goal_reached ok pv sector Q here among bring = record {
    each = λ write value may. written_has puts pv sector Q bring value ((h.lasting ok pv sector here among).each write value may);
  }
