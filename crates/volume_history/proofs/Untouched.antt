-- Steps that bring nothing at a place leave it as it was, and the induction over a run.
use Rattle.std.proofs.Common.{◌≡◌, ◌≤◌, ℕ, zero, suc, true, false, List, [], ◌∷◌, ◌++◌, length, drop, Option, ⊎_elim, sym, ◌∙◌, arith}
use Rattle.disk_model.specs.Brought.{brings}
use Rattle.disk_model.specs.CrashValues.{MayLeave}
use Rattle.disk_model.specs.Steps.{Completed, Flushing, Image, Reading, Step, Submitted, Writing}
use Rattle.volume_history.proofs.EarlierMoments.{every_moment_entry, every_moment_step, upto_longer}
use Rattle.volume_history.specs.Candidates.{IsConsistentMoment, IsConsistentNow}
use Rattle.volume_history.specs.Chronicles.{AreUpto, Chronicle, ChronicleEntry, moment_of, with_entry, with_step}
use Rattle.volume_history.specs.Placed.{Place, PlacedVolume}
use Rattle.volume_history.specs.Quiet.{AllUntouched, AreUntouched}

-- a step that brings nothing for the sector brings no value
pub brings_none : (opened : Image) (steps : List Step) (step : Step) (pv sector : ℕ) (write : Option ℕ) (value : List ℕ)
    → brings step pv sector ≡ false
    → MayLeave opened (step ∷ steps) pv sector write value → MayLeave opened steps pv sector write value
brings_none opened steps (Submitted tag (Writing span sectors)) pv sector write value none may =
    ⊎_elim (λ a. a) (λ b. absurd (let e : true ≡ false = sym b.0 ∙ none in cc)) may
brings_none opened steps (Submitted tag (Reading span)) pv sector write value none may = may
brings_none opened steps (Submitted tag (Flushing disk)) pv sector write value none may = may
brings_none opened steps (Completed tag (Writing span sectors) true fresh) pv sector write value none may = may
brings_none opened steps (Completed tag (Writing span sectors) false fresh) pv sector write value none may = may
brings_none opened steps (Completed tag (Reading span) true fresh) pv sector write value none may = may
brings_none opened steps (Completed tag (Reading span) false fresh) pv sector write value none may = may
brings_none opened steps (Completed tag (Flushing disk) true fresh) pv sector write value none may = may.0
brings_none opened steps (Completed tag (Flushing disk) false fresh) pv sector write value none may = may

-- nothing is brought at these places
abbrev pub BringNothing : List Step → ℕ → ℕ → Type 0
BringNothing [] pv sector = Unit {0}
BringNothing (step ∷ steps) pv sector = (brings step pv sector ≡ false) × BringNothing steps pv sector

-- so at each later moment only what was possible is
still_possible : (opened : Image) (older newer : List Step) (k : ℕ) (pv sector : ℕ) (write : Option ℕ) (value : List ℕ) → k ≤ length newer
    → BringNothing newer pv sector
    → MayLeave opened (drop k (newer ++ older)) pv sector write value → MayLeave opened older pv sector write value
still_possible opened older [] zero pv sector write value le none may = may
still_possible opened older [] (suc k) pv sector write value le none may = absurd (omega (arith, le))
still_possible opened older (step ∷ newer) zero pv sector write value le none may =
    still_possible opened older newer zero pv sector write value (omega arith) none.1
    (brings_none opened (newer ++ older) step pv sector write value none.0 may)
still_possible opened older (step ∷ newer) (suc k) pv sector write value le none may =
    still_possible opened older newer k pv sector write value (omega (arith, le)) none.1 may

abbrev pub NoneAt : List Step → List Place → Type 0
NoneAt newer [] = Unit {0}
NoneAt newer (p ∷ ps) = BringNothing newer p.disk p.sector × NoneAt newer ps

abbrev pub NoneAtAll : List Step → List PlacedVolume → Type 0
NoneAtAll newer [] = Unit {0}
NoneAtAll newer (v ∷ vs) = NoneAt newer v.places × NoneAtAll newer vs

places_untouched : (image opened : Image) (older newer : List Step) (k : ℕ) (places : List Place) → k ≤ length newer → NoneAt newer places
    → AreUntouched image places (record { opened = opened; steps = older })
    → AreUntouched image places (record { opened = opened; steps = drop k (newer ++ older) })
places_untouched image opened older newer k [] le none are = tt
places_untouched image opened older newer k (p ∷ ps) le none are = (
  λ write value may. are.0 write value (still_possible opened older newer k p.disk p.sector write value le none.0 may),
  places_untouched image opened older newer k ps le none.1 are.1,
)

-- the places of the volumes stay untouched at every moment of steps that bring nothing there
pub all_untouched : (image opened : Image) (older newer : List Step) (k : ℕ) (vs : List PlacedVolume) → k ≤ length newer
    → NoneAtAll newer vs
    → AllUntouched image vs (record { opened = opened; steps = older })
    → AllUntouched image vs (record { opened = opened; steps = drop k (newer ++ older) })
all_untouched image opened older newer k [] le none are = tt
all_untouched image opened older newer k (v ∷ vs) le none are =
    (places_untouched image opened older newer k v.places le none.0 are.0, all_untouched image opened older newer k vs le none.1 are.1)

-- what a run does next: a step is told, or an entry is made
pub data Act : Type 0 where
  Tells : Step → Act
  Enters : ChronicleEntry → Act

abbrev pub acted : Act → Chronicle → Chronicle
acted (Tells step) c = with_step step c
acted (Enters e) c = with_entry e c

abbrev pub IsTimely : Act → Chronicle → Type 0
IsTimely (Tells step) c = Unit {0}
IsTimely (Enters e) c = moment_of e ≡ length c.origin.told.steps

abbrev pub run_of : List Act → Chronicle → Chronicle
run_of [] c = c
run_of (a ∷ acts) c = run_of acts (acted a c)

-- each act is timely and leaves now consistent
abbrev pub EachConsistent : List Act → Chronicle → Type 0
EachConsistent [] c = Unit {0}
EachConsistent (a ∷ acts) c = IsTimely a c × IsConsistentNow (acted a c) × EachConsistent acts (acted a c)

abbrev pub AllConsistent : ℕ → Chronicle → Type 0
AllConsistent from c = (m : ℕ) → from ≤ m → m ≤ length c.origin.told.steps → IsConsistentMoment c m

act_keeps : (from : ℕ) (a : Act) (c : Chronicle) → AreUpto (length c.origin.told.steps) c.entries → IsTimely a c → AllConsistent from c
    → IsConsistentNow (acted a c)
    → AreUpto (length (acted a c).origin.told.steps) (acted a c).entries × AllConsistent from (acted a c)
act_keeps from (Tells step) c are timely so_far now = (
  upto_longer (length c.origin.told.steps) (suc (length c.origin.told.steps)) c.entries (omega arith) are,
  every_moment_step step c from are so_far now,
)
act_keeps from (Enters e) c are timely so_far now = ((omega (arith, timely), are), every_moment_entry e c from are timely so_far now)

-- the induction: a run whose acts each leave now consistent is consistent at every moment
pub run_consistent : (from : ℕ) (acts : List Act) (c : Chronicle) → AreUpto (length c.origin.told.steps) c.entries → AllConsistent from c
    → EachConsistent acts c
    → AllConsistent from (run_of acts c)
run_consistent from [] c are so_far each = so_far
run_consistent from (a ∷ acts) c are so_far each =
    let k = act_keeps from a c are each.0 so_far each.1 in run_consistent from acts (acted a c) k.0 k.1 each.2
