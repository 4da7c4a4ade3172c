-- A volume's mark after five rounds says whether it is moving.
use Rattle.std.proofs.Common.{◌≡◌, ◌↔◌, ℕ, zero, suc, ◌+◌, ◌<◌, ◌≤◌, max, IsTrue, Bool, true, false, ◌||◌, cond, List, [], ◌∷◌, length, map}
use Rattle.std.proofs.Common.{get_or, Option, Some, inl, inr, refl, sym, ap, subst, ◌∙◌, arith}
use Rattle.std.specs.Prelude.{slice_get, option_map, unwrap_or}
use Rattle.std.specs.List.{list_any}
use Rattle.std.proofs.lemmas.Bool.{cases_eq}
use Rattle.std.proofs.lemmas.Option.{same_Some, slice_get_within, slice_get-get_or}
use Rattle.meta_model.specs.declared.group.Group.{Group}
use Rattle.meta_model.specs.declared.lv.Lv.{Lv}
use Rattle.meta_model.specs.declared.extent_span.ExtentSpan.{ExtentSpan}
use Rattle.volume_rules.specs.Depths.{greatest}
use Rattle.volume_rules.specs.Moving.{has_pvmove, leads_to_pvmove, named_by}
use Rattle.volume_rules.specs.Rules.{IsLv, DepthIsAtMostThree, LockedVolumesMove}
use Rattle.volume_rules.proofs.MovingVolumes.{moving_is}
use Rattle.vg_check.specs.declared.climb.Climb.TheVariants.{Moves}
use Rattle.vg_check.specs.Climbing.{climbed, told, HasClimbed}
use Rattle.vg_check.specs.Marks.{LockedAreMarked}

-- the mark of a flag
abbrev mark : Bool → ℕ
mark is = cond is 1 0

either : (a b : Bool) → max (mark a) (mark b) ≡ mark (a || b)
either true true = refl
either true false = refl
either false true = refl
either false false = refl

any_mark : (test : ℕ → Bool) (number : ℕ → ℕ) (xs : List ℕ) → ((x : ℕ) → number x ≡ mark (test x))
    → greatest (map number xs) ≡ mark (list_any test xs)
any_mark test number [] same = refl
any_mark test number (x ∷ xs) same =
    ap (λ n. max n (greatest (map number xs))) (same x) ∙ ap (max (mark (test x))) (any_mark test number xs same)
    ∙ either (test x) (list_any test xs)

no_mark : (xs : List ℕ) → greatest (map (λ (x : ℕ). 0) xs) ≡ 0
no_mark [] = refl
no_mark (x ∷ xs) = omega (arith, no_mark xs)

no_more : (n : ℕ) → max n 0 ≡ n
no_more n = omega arith

-- the marks say where legs lead
pub marks : (group : Group) (steps lv : ℕ) → climbed group Moves (suc steps) lv ≡ mark (leads_to_pvmove group steps lv)
marks group zero lv = ap (max (mark (has_pvmove group lv))) (no_mark (named_by group lv)) ∙ no_more (mark (has_pvmove group lv))
marks group (suc steps) lv =
    ap (max (mark (has_pvmove group lv))) (any_mark (λ below. leads_to_pvmove group steps below) (climbed group Moves (suc steps))
    (named_by group lv) (marks group steps))
    ∙ either (has_pvmove group lv) (list_any (λ below. leads_to_pvmove group steps below) (named_by group lv))

marked : (is : Bool) → 1 ≤ mark is → is ≡ true
marked true high = refl
marked false high = absurd (omega arith)

pub locked_tell : (group : Group) (numbers : List ExtentSpan) (answer : Bool) → DepthIsAtMostThree group → length numbers ≡ length group.lvs
    → HasClimbed group Moves 5 numbers
    → IsTrue answer ↔ LockedAreMarked group numbers (length numbers) → IsTrue answer ↔ LockedVolumesMove group
locked_tell group numbers answer depth long has tells = (
  λ is number lv there locked.
      let lt : number < length group.lvs = slice_get_within group.lvs number (there.0, lv) there.1 in
      let high : 1 ≤ told numbers number = tells.0 is number lv (omega arith) there locked in
      (moving_is group number depth).0 (marked (leads_to_pvmove group 4 number) (omega (arith, has number lt, marks group 4 number))),
  λ move. tells.1 (λ number lv lt there locked.
      let leads : leads_to_pvmove group 4 number ≡ true = (moving_is group number depth).1 (move number lv there locked) in
      omega (arith, has number (omega arith), marks group 4 number, ap mark leads)),
)

-- one volume more
pub marked_more : (group : Group) (numbers : List ExtentSpan) (n : ℕ) (lv : Lv) → IsLv group n lv
    → (lv.status.locked ≡ true → 1 ≤ told numbers n) → LockedAreMarked group numbers n → LockedAreMarked group numbers (n + 1)
marked_more group numbers n lv is here before k volume lt there locked =
    elim (cases_eq k n) [
      | inl same ↦
          let at : slice_get group.lvs n ≡ Some (there.0, volume) = ap (slice_get group.lvs) (sym same) ∙ there.1 in
          let row : volume ≡ lv = ap (λ (row : List ℕ × Lv). row.1) (same_Some (there.0, volume) (is.0, lv) (sym at ∙ is.1)) in
          subst (λ m. 1 ≤ told numbers m) (sym same) (here (ap (λ (v : Lv). v.status.locked) (sym row) ∙ locked))
      | inr other ↦ before k volume (omega arith) there locked
    ]

-- the number of a volume, as it is read
pub told_at : (numbers : List ExtentSpan) (n : ℕ) (d : ExtentSpan) → n < length numbers → told numbers n ≡ (get_or numbers n d).first
told_at numbers n d lt =
    ap (λ (o : Option ExtentSpan). unwrap_or (option_map (λ (run : ExtentSpan). run.first) o) 0) (slice_get-get_or numbers n d lt)
