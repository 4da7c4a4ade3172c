-- What every image has at every moment.
use Rattle.std.proofs.Common.{◌≡◌, ◌≤◌, ◌<◌, ℕ, suc, ◌+◌, ◌-◌, List, [], ◌∷◌, ◌++◌, length, drop, ⊎_elim, sym, ap, subst, ◌∙◌, arith}
use Rattle.std.proofs.Common.{length-append}
use Rattle.std.proofs.lemmas.Bool.{cases_lt}
use Rattle.disk_model.specs.Steps.{Image, Step, Record, step_on}
use Rattle.disk_model.specs.CrashValues.{IsImage}
use Rattle.disk_model.specs.Moments.{EveryImageSince}
use Rattle.disk_model.proofs.OneStepMore.{IsQuiet, quiet}

-- what every image has now, every one has since now
pub since_now : (told : Record) (P : Image → Type 0) → ((image : Image) → IsImage told image → P image)
    → EveryImageSince (length told.steps) told P
since_now told P here moment from upto image is =
    let e : length told.steps - moment ≡ 0 = omega arith in
    here image (subst (λ (k : ℕ). IsImage (record { opened = told.opened; steps = drop k told.steps }) image) e is)

-- what every image had so far, and has after one step more
pub since_step : (step : Step) (told : Record) (from : ℕ) (P : Image → Type 0) → from ≤ length told.steps → EveryImageSince from told P
    → ((image : Image) → IsImage (step_on step told) image → P image) → EveryImageSince from (step_on step told) P
since_step step told from P le so_far here moment ge upto image is =
    ⊎_elim
    (λ (new : length told.steps < moment).
    let e : suc (length told.steps) - moment ≡ 0 = omega arith in
    here image (subst (λ (k : ℕ). IsImage (record { opened = told.opened; steps = drop k (step ∷ told.steps) }) image) e is))
    (λ (old : moment ≤ length told.steps).
    let e : suc (length told.steps) - moment ≡ suc (length told.steps - moment) = omega arith in
    so_far moment ge old image (subst (λ (k : ℕ). IsImage (record { opened = told.opened; steps = drop k (step ∷ told.steps) }) image) e
    is))
    (cases_lt (length told.steps) moment)

-- a step that submits no write brings no image
quiet_image : (step : Step) (told : Record) → IsQuiet step → (image : Image) → IsImage (step_on step told) image → IsImage told image
quiet_image step told q image is pv sector =
    ((is pv sector).0, quiet told.opened step told.steps pv sector (is pv sector).0 (image pv sector) q (is pv sector).1)

-- what every image had so far, every one has after a step that submits no write
pub since_quiet : (step : Step) (told : Record) (from : ℕ) (P : Image → Type 0) → IsQuiet step → from ≤ length told.steps
    → EveryImageSince from told P → EveryImageSince from (step_on step told) P
since_quiet step told from P q le so_far =
    since_step step told from P le so_far
    (λ image is. so_far (length told.steps) le (omega arith) image
    (let e : length told.steps - length told.steps ≡ 0 = omega arith in
    subst (λ (k : ℕ). IsImage (record { opened = told.opened; steps = drop k told.steps }) image) (sym e)
    (quiet_image step told q image is)))

-- what came before the newer steps
pub drop_newer : (newer older : List Step) (k : ℕ) → drop (length newer + k) (newer ++ older) ≡ drop k older
drop_newer [] older k = ap (λ (n : ℕ). drop n older) (omega arith)
drop_newer (x ∷ newer) older k =
    let e : length (x ∷ newer) + k ≡ suc (length newer + k) = omega arith in
    ap (λ (n : ℕ). drop n (x ∷ newer ++ older)) e ∙ drop_newer newer older k

-- what every image had since a moment up to a call, and has since the call began
pub since_join : (opened : Image) (older newer : List Step) (from : ℕ) (P : Image → Type 0) → from ≤ length older
    → EveryImageSince from (record { opened = opened; steps = older }) P
    → EveryImageSince (length older) (record { opened = opened; steps = newer ++ older }) P
    → EveryImageSince from (record { opened = opened; steps = newer ++ older }) P
since_join opened older newer from P le first second moment ge upto image is =
    let long = length-append newer older in
    ⊎_elim
    (λ (early : moment < length older).
    let e : length (newer ++ older) - moment ≡ length newer + (length older - moment) = omega arith in
    let s : drop (length (newer ++ older) - moment) (newer ++ older) ≡ drop (length older - moment) older =
    ap (λ (n : ℕ). drop n (newer ++ older)) e ∙ drop_newer newer older (length older - moment) in
    first moment ge (omega arith) image (subst (λ (l : List Step). IsImage (record { opened = opened; steps = l }) image) s is))
    (λ (late : length older ≤ moment). second moment late upto image is)
    (cases_lt moment (length older))

-- what every image has since a moment, every one has since a later one, and what follows from it
pub since_weaken : (told : Record) (from from' : ℕ) (P Q : Image → Type 0) → from ≤ from' → ((image : Image) → P image → Q image)
    → EveryImageSince from told P → EveryImageSince from' told Q
since_weaken told from from' P Q le weaker so_far moment ge upto image is = weaker image (so_far moment (omega arith) upto image is)

-- what every image has since a moment, every one has now
pub at_last : (told : Record) (from : ℕ) (P : Image → Type 0) → from ≤ length told.steps → EveryImageSince from told P → (image : Image)
    → IsImage told image → P image
at_last told from P le so_far image is =
    let e : length told.steps - length told.steps ≡ 0 = omega arith in
    so_far (length told.steps) le (omega arith) image
    (subst (λ (k : ℕ). IsImage (record { opened = told.opened; steps = drop k told.steps }) image) (sym e) is)
