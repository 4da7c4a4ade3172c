-- Whether a line has written, by a test of spans.
use Rattle.std.proofs.Common.{◌≡◌, ◌≤◌, ℕ, zero, suc, ◌+◌, ◌-◌, ◌||◌, Bool, true, false, List, [], ◌∷◌, length, take, drop, refl, ap, subst}
use Rattle.std.proofs.Common.{◌∙◌, arith}
use Rattle.sector_base.specs.declared.spans.Span.{Span}
use Rattle.disk_model.specs.Steps.{Completed, Flushing, Reading, Step, Submitted, Writing}
use Rattle.volume_history.proofs.EarlierMoments.{steps_before, told_length}
use Rattle.volume_history.specs.Chronicles.{Origin, has_written, origin_at, steps_upto}
use Rattle.volume_history.specs.Single.{end_of}

later_unwritten : (own : Span → Bool) (step : Step) (steps : List Step) → has_written own (step ∷ steps) ≡ false
    → has_written own steps ≡ false
later_unwritten own (Submitted tag (Writing span sectors)) steps none = right (own span) _ none
  where
    right : (a b : Bool) → (a || b) ≡ false → b ≡ false
    right true b h = cc
    right false b h = h
later_unwritten own (Submitted tag (Reading span)) steps none = none
later_unwritten own (Submitted tag (Flushing disk)) steps none = none
later_unwritten own (Completed tag work well fresh) steps none = none

none_written : (own : Span → Bool) (a : ℕ) → has_written own (take a []) ≡ false
none_written own zero = refl
none_written own (suc a) = refl

-- where the newest steps write no such span, neither do those of them that are older than some
unwritten_part : (own : Span → Bool) (a b : ℕ) (steps : List Step) → has_written own (take (a + b) steps) ≡ false
    → has_written own (take a (drop b steps)) ≡ false
unwritten_part own a zero steps none =
    let e : a + zero ≡ a = omega arith in subst (λ (k : ℕ). has_written own (take k steps) ≡ false) e none
unwritten_part own a (suc b) [] none = none_written own a
unwritten_part own a (suc b) (step ∷ steps) none =
    let e : a + suc b ≡ suc (a + b) = omega arith in
    unwritten_part own a b steps (later_unwritten own step (take (a + b) steps)
    (subst (λ (k : ℕ). has_written own (take k (step ∷ steps)) ≡ false) e none))

-- the steps since the start by a moment
abbrev pub since_start : Origin → ℕ → List Step
since_start o m = take (m - o.start) (steps_upto o m)

-- as they were seen at that moment
pub since_seen : (o : Origin) (m : ℕ) → m ≤ end_of o → take (m - o.start) (steps_upto (origin_at m o) m) ≡ since_start o m
since_seen o m le = ap (λ (l : List Step). take (m - o.start) l) (steps_before o m m (omega arith) le)

pub since_seen_now : (o : Origin) (m : ℕ) → m ≤ end_of o
    → take (length (origin_at m o).told.steps - o.start) (steps_upto (origin_at m o) (length (origin_at m o).told.steps)) ≡ since_start o m
since_seen_now o m le = ap (λ (k : ℕ). take (k - o.start) (steps_upto (origin_at m o) k)) (told_length o m le) ∙ since_seen o m le

-- what isn't written since the start isn't by a moment
pub unwritten_by : (own : Span → Bool) (o : Origin) (m : ℕ) → o.start ≤ m → m ≤ end_of o
    → has_written own (take (end_of o - o.start) o.told.steps) ≡ false → has_written own (since_start o m) ≡ false
unwritten_by own o m ge le none =
    let e : end_of o - o.start ≡ (m - o.start) + (end_of o - m) = omega (arith, ge, le) in
    unwritten_part own (m - o.start) (end_of o - m) o.told.steps (subst (λ (k : ℕ). has_written own (take k o.told.steps) ≡ false) e none)
