-- Where operations are carried out one by one, and each write went well, a flush leaves each sector of its volume one value.
use Rattle.std.proofs.Common.{◌≡◌, ℕ, ◌&&◌, cond, Bool, true, false, List, ◌∷◌, inl, refl}
use Rattle.sector_base.specs.declared.spans.Span.{Span}
use Rattle.sector_base.specs.Spans.{covers}
use Rattle.disk_model.specs.Durability.{OnlyLeaves, OnlyLeavesOrOvertaken}
use Rattle.disk_model.specs.Steps.{Image, Work, Reading, Writing, Flushing, Step, Submitted, Completed, Record, now_after, value_at}
use Rattle.disk_model.proofs.Durable.{flush_completes, flush_submitted, new_write, or_overtaken_on, write_completes}
use Rattle.disk_model.proofs.WritesInFlight.{idle_completed}
use Rattle.cow_store.specs.VolStates.{AreOneByOne, WritesWell}
use Rattle.cow_store.proofs.Operations.{by_operations, idle_one_by_one, wells_before}

module _ (opened : Image) (v sector : ℕ) where
  abbrev after : List Step → Record
  after steps = record { opened = opened; steps = steps }

  abbrev IsNow : List Step → List ℕ → Type 0
  IsNow steps value = value ≡ now_after opened steps v sector

  -- each value that a crash may leave is what a read gives, or the next flush drops it
  abbrev IsNowOrOvertaken : List Step → Type 0
  IsNowOrOvertaken steps = OnlyLeavesOrOvertaken (after steps) v sector (IsNow steps)

  written : (tag : ℕ) (span : Span) (sectors : List (List ℕ)) (fresh : List Bool) (steps : List Step) → AreOneByOne steps
      → (b : Bool) → covers span v sector ≡ b → IsNowOrOvertaken steps
      → OnlyLeavesOrOvertaken (after (Completed tag (Writing span sectors) true fresh ∷ Submitted tag (Writing span sectors) ∷ steps)) v
      sector
      (λ (value : List ℕ). value ≡ cond (b && true) (value_at span sectors sector) (now_after opened steps v sector))
  written tag span sectors fresh steps one true e h =
      let Q : List ℕ → Type 0 = λ value. value ≡ value_at span sectors sector in
      write_completes (after (Submitted tag (Writing span sectors) ∷ steps)) v sector tag (Writing span sectors) fresh Q e
      (new_write (after steps) v sector tag span sectors Q (idle_completed (after steps) v sector Q (idle_one_by_one steps one)) refl)
  written tag span sectors fresh steps one false e h =
      or_overtaken_on (after (Submitted tag (Writing span sectors) ∷ steps)) v sector (IsNow steps)
      (Completed tag (Writing span sectors) true fresh) refl
      (or_overtaken_on (after steps) v sector (IsNow steps) (Submitted tag (Writing span sectors)) e h)

  one_operation : (tag : ℕ) (work : Work) (well : Bool) (fresh : List Bool) (steps : List Step) → AreOneByOne steps
      → WritesWell (Completed tag work well fresh ∷ Submitted tag work ∷ steps) → IsNowOrOvertaken steps
      → IsNowOrOvertaken (Completed tag work well fresh ∷ Submitted tag work ∷ steps)
  one_operation tag (Reading span) well fresh steps one wells h =
      or_overtaken_on (after (Submitted tag (Reading span) ∷ steps)) v sector (IsNow steps) (Completed tag (Reading span) well fresh) refl
      (or_overtaken_on (after steps) v sector (IsNow steps) (Submitted tag (Reading span)) refl h)
  one_operation tag (Flushing disk) well fresh steps one wells h =
      or_overtaken_on (after (Submitted tag (Flushing disk) ∷ steps)) v sector (IsNow steps) (Completed tag (Flushing disk) well fresh) refl
      (or_overtaken_on (after steps) v sector (IsNow steps) (Submitted tag (Flushing disk)) refl h)
  one_operation tag (Writing span sectors) true fresh steps one wells h =
      written tag span sectors fresh steps one (covers span v sector) refl h
  one_operation tag (Writing span sectors) false fresh steps one wells h = absurd (let e : false ≡ true = wells.0 in cc)

  now_or_overtaken : (steps : List Step) → AreOneByOne steps → WritesWell steps → IsNowOrOvertaken steps
  now_or_overtaken =
      by_operations (λ (steps : List Step). WritesWell steps → IsNowOrOvertaken steps)
      (λ wells. record { each = λ write value may. inl may.1 })
      (λ tag work well fresh steps one before wells. one_operation tag work well fresh steps one wells
      (before (wells_before tag work well fresh steps wells)))

  -- so after a flush of the volume the sector has one value
  pub lasts_flushed : (tag : ℕ) (fresh : List Bool) (steps : List Step) → AreOneByOne steps → WritesWell steps
      → OnlyLeaves (after (Completed tag (Flushing v) true fresh ∷ Submitted tag (Flushing v) ∷ steps)) v sector
      (IsNow (Completed tag (Flushing v) true fresh ∷ Submitted tag (Flushing v) ∷ steps))
  lasts_flushed tag fresh steps one wells =
      flush_completes (after (Submitted tag (Flushing v) ∷ steps)) v sector tag fresh (IsNow steps)
      (flush_submitted (after steps) v sector tag (IsNow steps) (now_or_overtaken steps one wells))
