-- What the steps since a moment show, and show still with one more.
use Rattle.std.proofs.Common.{◌≡◌, ◌≤◌, ◌⊎◌, ℕ, suc, ◌-◌, Bool, true, false, ◌==◌, ◌&&◌, ◌||◌, List, ◌∷◌, length, take, drop, inl, inr}
use Rattle.std.proofs.Common.{refl}
use Rattle.std.proofs.Common.{sym, ap, subst, ◌∙◌, arith}
use Rattle.std.proofs.lemmas.Bool.{eq-eqb}
use Rattle.sector_base.specs.declared.spans.Span.{Span}
use Rattle.disk_model.specs.Steps.{Completed, Flushing, Reading, Step, Submitted, Work, Writing}
use Rattle.volume_history.specs.Chronicles.{Origin, has_failed, is_failed_disk, origin_on, steps_upto}
use Rattle.volume_history.proofs.EarlierMoments.{steps_stay}
use Rattle.world_history.specs.Causes.{has_lost_flush, is_asked}

-- whether the steps from one moment to another pass the test
abbrev pub told_since : (List Step → Bool) → Origin → ℕ → ℕ → Bool
told_since test o since moment = test (take (moment - since) (steps_upto o moment))

-- whether the disk fails in these steps, or a flush of it does that was submitted in them
abbrev pub fails_on : ℕ → List Step → Bool
fails_on pv steps = has_failed steps pv

abbrev pub loses_on : ℕ → List Step → Bool
loses_on pv steps = has_lost_flush steps pv

-- the moment up to which all is told
abbrev pub now_in : Origin → ℕ
now_in o = length o.told.steps

-- one step more is told, or nothing
abbrev pub IsLater : Origin → Origin → Type 0
IsLater o o' = (o' ≡ o) ⊎ ((step : Step) × (o' ≡ origin_on step o))

-- all of it
pub now_steps : (o : Origin) → steps_upto o (now_in o) ≡ o.told.steps
now_steps o =
    let e : length o.told.steps - length o.told.steps ≡ 0 = omega arith in
    ap (λ (k : ℕ). drop k o.told.steps) e

-- the steps since a moment
abbrev pub steps_since : Origin → ℕ → List Step
steps_since o since = take (now_in o - since) o.told.steps

-- ---- one step more

-- an earlier moment is as it was
pub since_stays : (test : List Step → Bool) (step : Step) (o : Origin) (since moment : ℕ) → moment ≤ now_in o
    → told_since test (origin_on step o) since moment ≡ told_since test o since moment
since_stays test step o since moment le = ap (λ (l : List Step). test (take (moment - since) l)) (steps_stay step o moment le)

-- by now
pub newest : (test : List Step → Bool) (o : Origin) (since : ℕ) → told_since test o since (now_in o) ≡ test (steps_since o since)
newest test o since = ap (λ (l : List Step). test (take (now_in o - since) l)) (now_steps o)

newest_on : (test : List Step → Bool) (step : Step) (o : Origin) (since : ℕ) → since ≤ now_in o
    → told_since test (origin_on step o) since (now_in (origin_on step o)) ≡ test (step ∷ steps_since o since)
newest_on test step o since le =
    let e : suc (length o.told.steps) - since ≡ suc (length o.told.steps - since) = omega (arith, le) in
    newest test (origin_on step o) since ∙ ap (λ (k : ℕ). test (take k (step ∷ o.told.steps))) e

-- steps that pass the test pass it with one more
abbrev pub IsLasting : (List Step → Bool) → Type 0
IsLasting test = (step : Step) (steps : List Step) → test steps ≡ true → test (step ∷ steps) ≡ true

either : (a b : Bool) → b ≡ true → (a || b) ≡ true
either true b is = refl
either false b is = is

pub fails_lasts : (pv : ℕ) → IsLasting (fails_on pv)
fails_lasts pv (Submitted tag work) steps is = is
fails_lasts pv (Completed tag (Reading span) true fresh) steps is = is
fails_lasts pv (Completed tag (Reading span) false fresh) steps is = is
fails_lasts pv (Completed tag (Writing span sectors) true fresh) steps is = is
fails_lasts pv (Completed tag (Writing span sectors) false fresh) steps is = either (span.pv == pv) (has_failed steps pv) is
fails_lasts pv (Completed tag (Flushing disk) true fresh) steps is = is
fails_lasts pv (Completed tag (Flushing disk) false fresh) steps is = either (disk == pv) (has_failed steps pv) is

pub loses_lasts : (pv : ℕ) → IsLasting (loses_on pv)
loses_lasts pv (Submitted tag work) steps is = is
loses_lasts pv (Completed tag (Reading span) true fresh) steps is = is
loses_lasts pv (Completed tag (Reading span) false fresh) steps is = is
loses_lasts pv (Completed tag (Writing span sectors) true fresh) steps is = is
loses_lasts pv (Completed tag (Writing span sectors) false fresh) steps is = is
loses_lasts pv (Completed tag (Flushing disk) true fresh) steps is = is
loses_lasts pv (Completed tag (Flushing disk) false fresh) steps is =
    either ((disk == pv) && is_asked tag steps) (has_lost_flush steps pv) is

pub asked_lasts : (tag : ℕ) → IsLasting (is_asked tag)
asked_lasts tag (Submitted t work) steps is = either (t == tag) (is_asked tag steps) is
asked_lasts tag (Completed t work well fresh) steps is = is

module _ (test : List Step → Bool) where
  -- what holds since a moment does with one step more
  pub since_more : IsLasting test → (step : Step) (o : Origin) (since : ℕ) → since ≤ now_in o → told_since test o since (now_in o) ≡ true
      → told_since test (origin_on step o) since (now_in (origin_on step o)) ≡ true
  since_more lasts step o since le is =
      newest_on test step o since le ∙ lasts step (steps_since o since) (sym (newest test o since) ∙ is)

  -- and what holds by that step
  pub since_now : (step : Step) (o : Origin) (since : ℕ) → since ≤ now_in o → test (step ∷ steps_since o since) ≡ true
      → told_since test (origin_on step o) since (now_in (origin_on step o)) ≡ true
  since_now step o since le is = newest_on test step o since le ∙ is

  -- with a step more, or none
  pub since_later : IsLasting test → {o o' : Origin} → IsLater o o' → (since : ℕ) → since ≤ now_in o
      → told_since test o since (now_in o) ≡ true
      → told_since test o' since (now_in o') ≡ true
  since_later lasts {o} {o'} (inl same) since le is = subst (λ (x : Origin). told_since test x since (now_in x) ≡ true) (sym same) is
  since_later lasts {o} {o'} (inr more) since le is =
      subst (λ (x : Origin). told_since test x since (now_in x) ≡ true) (sym more.1) (since_more lasts more.0 o since le is)

-- the disk of a write or a flush that ends badly fails, and so does a flush that was submitted since
pub write_fails : (tag : ℕ) (span : Span) (sectors : List (List ℕ)) (fresh : List Bool) (steps : List Step)
    → has_failed (Completed tag (Writing span sectors) false fresh ∷ steps) span.pv ≡ true
write_fails tag span sectors fresh steps = ap (λ (b : Bool). b || has_failed steps span.pv) (eq-eqb span.pv span.pv refl)

pub flush_fails : (tag pv : ℕ) (fresh : List Bool) (steps : List Step)
    → has_failed (Completed tag (Flushing pv) false fresh ∷ steps) pv ≡ true
flush_fails tag pv fresh steps = ap (λ (b : Bool). b || has_failed steps pv) (eq-eqb pv pv refl)

pub flush_loses : (tag pv : ℕ) (fresh : List Bool) (steps : List Step) → is_asked tag steps ≡ true
    → has_lost_flush (Completed tag (Flushing pv) false fresh ∷ steps) pv ≡ true
flush_loses tag pv fresh steps asked =
    ap (λ (b : Bool). (b && is_asked tag steps) || has_lost_flush steps pv) (eq-eqb pv pv refl)
    ∙ ap (λ (b : Bool). b || has_lost_flush steps pv) asked

-- an operation that is submitted was submitted since
pub asks_now : (tag : ℕ) (work : Work) (steps : List Step) → is_asked tag (Submitted tag work ∷ steps) ≡ true
asks_now tag work steps = ap (λ (b : Bool). b || is_asked tag steps) (eq-eqb tag tag refl)

-- ---- a step more, or none

pub lost_later : {o o' : Origin} → IsLater o o' → (pv : ℕ) → o.start ≤ now_in o → is_failed_disk o (now_in o) pv ≡ true
    → is_failed_disk o' (now_in o') pv ≡ true
lost_later {o} {o'} (inl same) pv le is = subst (λ (x : Origin). is_failed_disk x (now_in x) pv ≡ true) (sym same) is
lost_later {o} {o'} (inr more) pv le is =
    subst (λ (x : Origin). is_failed_disk x (now_in x) pv ≡ true) (sym more.1)
    (since_more (fails_on pv) (fails_lasts pv) more.0 o o.start le is)

-- the version is the same
pub version_later : {o o' : Origin} → IsLater o o' → o'.version ≡ o.version
version_later (inl same) = ap (λ (x : Origin). x.version) same
version_later (inr more) = ap (λ (x : Origin). x.version) more.1
