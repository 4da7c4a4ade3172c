-- A sector on its way to values with Q: written, overtaken, flushed.
use Rattle.std.proofs.Common.{◌≡◌, ℕ, Bool, true, false, IsTrue, List, inl, inr, ⊎_elim, refl, sym, subst}
use Rattle.sector_base.specs.declared.spans.Span.{Span}
use Rattle.sector_base.specs.Spans.{covers}
use Rattle.disk_model.specs.Steps.{Work, Reading, Writing, Flushing, Step, Submitted, Completed, Record, value_at, step_on}
use Rattle.disk_model.specs.Brought.{writes, brings}
use Rattle.disk_model.specs.Durability.{OnlyLeaves, OnlyLeavesOrCompleted, OnlyLeavesOrOvertaken, OnlyLeavesOrDropped}
use Rattle.disk_model.proofs.OneStepMore.{still, completed_on, overtaken_on, dropped_on}

-- each stage survives a step that brings no value for the sector
module _ (told : Record) (pv sector : ℕ) (Q : List ℕ → Type 0) (step : Step) (q : brings step pv sector ≡ false) where
  pub only_leaves_on : OnlyLeaves told pv sector Q → OnlyLeaves (step_on step told) pv sector Q
  only_leaves_on h = record { each = λ write value may. h.each write value (still told.opened step told.steps pv sector write value q may) }

  pub or_completed_on : OnlyLeavesOrCompleted told pv sector Q → OnlyLeavesOrCompleted (step_on step told) pv sector Q
  or_completed_on h =
      record {
        each = λ write value may. ⊎_elim (λ a. inl a) (λ b. inr (completed_on step told.steps write b))
            (h.each write value (still told.opened step told.steps pv sector write value q may));
      }

  pub or_overtaken_on : OnlyLeavesOrOvertaken told pv sector Q → OnlyLeavesOrOvertaken (step_on step told) pv sector Q
  or_overtaken_on h =
      record {
        each = λ write value may. ⊎_elim (λ a. inl a) (λ b. inr (overtaken_on step told.steps pv sector write b))
            (h.each write value (still told.opened step told.steps pv sector write value q may));
      }

  pub or_dropped_on : (flush : ℕ) → OnlyLeavesOrDropped told flush pv sector Q → OnlyLeavesOrDropped (step_on step told) flush pv sector Q
  or_dropped_on flush h =
      record {
        each = λ write value may. ⊎_elim (λ a. inl a) (λ b. inr (dropped_on step told.steps flush pv sector write b))
            (h.each write value (still told.opened step told.steps pv sector write value q may));
      }

-- the submission of a write adds its values
pub write_submitted : (told : Record) (pv sector tag : ℕ) (work : Work) (P Q : List ℕ → Type 0) → OnlyLeaves told pv sector P
    → ((v : List ℕ) → P v → Q v)
    → ((span : _) (sectors : _) → work ≡ Writing span sectors → IsTrue (covers span pv sector) → Q (value_at span sectors sector))
    → OnlyLeaves (step_on (Submitted tag work) told) pv sector Q
write_submitted told pv sector tag (Writing span sectors) P Q h up new =
    record {
      each = λ write value may. ⊎_elim (λ a. up value (h.each write value a)) (λ b. subst Q (sym b.2) (new span sectors refl b.0))
          may;
    }
write_submitted told pv sector tag (Reading span) P Q h up new = record { each = λ write value may. up value (h.each write value may) }
write_submitted told pv sector tag (Flushing disk) P Q h up new = record { each = λ write value may. up value (h.each write value may) }

-- where a write of values with Q is submitted, each value has Q or its write has completed
pub new_write : (told : Record) (pv sector tag : ℕ) (span : Span) (sectors : List (List ℕ)) (Q : List ℕ → Type 0)
    → OnlyLeavesOrCompleted told pv sector Q → Q (value_at span sectors sector)
    → OnlyLeavesOrCompleted (step_on (Submitted tag (Writing span sectors)) told) pv sector Q
new_write told pv sector tag span sectors Q h new = record {
  each = λ write value may.
      ⊎_elim (λ old. ⊎_elim (λ a. inl a) (λ b. inr (completed_on (Submitted tag (Writing span sectors)) told.steps write b))
      (h.each write value old)) (λ b. inl (subst Q (sym b.2) new)) may;
}

-- a write that completes well overtakes all that have completed
pub write_completes : (told : Record) (pv sector tag : ℕ) (work : Work) (fresh : List Bool) (Q : List ℕ → Type 0)
    → IsTrue (writes work pv sector)
    → OnlyLeavesOrCompleted told pv sector Q → OnlyLeavesOrOvertaken (step_on (Completed tag work true fresh) told) pv sector Q
write_completes told pv sector tag (Writing span sectors) fresh Q w h =
    record { each = λ write value may. ⊎_elim (λ a. inl a) (λ b. inr (inr (w, b))) (h.each write value may) }
write_completes told pv sector tag (Reading span) fresh Q w h = cc
write_completes told pv sector tag (Flushing disk) fresh Q w h = cc

-- a flush will drop what was overtaken when it was submitted
pub flush_submitted : (told : Record) (pv sector tag : ℕ) (Q : List ℕ → Type 0) → OnlyLeavesOrOvertaken told pv sector Q
    → OnlyLeavesOrDropped (step_on (Submitted tag (Flushing pv)) told) tag pv sector Q
flush_submitted told pv sector tag Q h =
    record { each = λ write value may. ⊎_elim (λ a. inl a) (λ b. inr (inr (refl, b))) (h.each write value may) }

-- a flush that completes well drops what it was to drop
pub flush_completes : (told : Record) (pv sector tag : ℕ) (fresh : List Bool) (Q : List ℕ → Type 0)
    → OnlyLeavesOrDropped told tag pv sector Q → OnlyLeaves (step_on (Completed tag (Flushing pv) true fresh) told) pv sector Q
flush_completes told pv sector tag fresh Q h =
    record { each = λ write value may. ⊎_elim (λ a. a) (λ b. absurd (may.1 refl b)) (h.each write value may.0) }
