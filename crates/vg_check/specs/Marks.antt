-- Locked volumes have a number that isn't 0.
use Rattle.std.specs.Prelude.{◌≤◌, ◌<◌, ℕ, List, IsTrue}
use Rattle.meta_model.specs.declared.group.Group.{Group}
use Rattle.meta_model.specs.declared.lv.Lv.{Lv}
use Rattle.meta_model.specs.declared.extent_span.ExtentSpan.{ExtentSpan}
use Rattle.volume_rules.specs.Rules.{IsLv}
use Rattle.vg_check.specs.Climbing.{told}

-- each of the first volumes, so many, that is locked has one
abbrev pub LockedAreMarked : Group → List ExtentSpan → ℕ → Type 0
LockedAreMarked group numbers many =
    (number : ℕ) (lv : Lv) → number < many → IsLv group number lv → IsTrue lv.status.locked → 1 ≤ told numbers number
