-- What all open lines have brought, where the same lines stay open, each with its volume and its work.
use Rattle.std.proofs.Common.{◌≡◌, ◌≤◌, ℕ, Bool, true, false, ◌==◌, List, ◌∷◌, length, Option, None, Some, option_map, refl, sym, ap}
use Rattle.std.proofs.Common.{subst, ◌∙◌}
use Rattle.std.proofs.lemmas.Bool.{eqb-true}
use Rattle.std.proofs.lemmas.Option.{none-some, same_Some}
use Rattle.line_answers.specs.declared.answer.Answer.TheVariants as answer
use Rattle.disk_model.specs.Steps.{Step}
use Rattle.volume_history.specs.Chronicles.{AreUpto, ChronicleEntry, Origin, origin_on}
use Rattle.world_acts.specs.declared.open_line.OpenLine.{OpenLine}
use Rattle.world_acts.specs.declared.open_line.Work.{Work}
use Rattle.world_acts.specs.declared.open_line.Work.TheVariants.{Read, Whole, Write}
use Rattle.world_acts.specs.declared.volumes.Volumes.{Volumes}
use Rattle.world_acts.specs.Acts.{World}
use Rattle.world_acts.specs.OpenLines.{Opens, open_at}
use Rattle.io_core.specs.Rest.{SameLines}
use Rattle.world_history.specs.Contents.{AllBrought, HasBrought}
use Rattle.world_history.proofs.Contents.Brought.{IsBeside, read_beside, read_step}

-- a line that is open stood, of the same kind
stood : (old new : Opens) → SameLines old new → (n : ℕ) (opened : OpenLine) → open_at new n ≡ Some opened
    → (o : OpenLine) × (open_at old n ≡ Some o) × (◌≡◌ {A = ℕ × Work} (o.key, o.work) (opened.key, opened.work))
stood old new same n opened at =
    by (open_at old n) refl (sym (same n) ∙ ap (λ (x : Option OpenLine). option_map (λ (y : OpenLine). (y.key, y.work)) x) at)
  where
    by : (x : Option OpenLine) → open_at old n ≡ x
        → ◌≡◌ {A = Option (ℕ × Work)} (option_map (λ (y : OpenLine). (y.key, y.work)) x) (Some (opened.key, opened.work))
        → (o : OpenLine) × (open_at old n ≡ Some o) × (◌≡◌ {A = ℕ × Work} (o.key, o.work) (opened.key, opened.work))
    by None is made = absurd (none-some _ made)
    by (Some o) is made = (o, is, same_Some {A = ℕ × Work} _ _ made)

pub brought_same : (o : Origin) (es : List ChronicleEntry) (w v : World) → v.core.volumes ≡ w.core.volumes
    → SameLines w.core.opens v.core.opens
    → AllBrought o es w
    → AllBrought o es v
brought_same o es w v volumes same all n opened at =
    let s = stood w.core.opens v.core.opens same n opened at in
    subst (λ (x : Volumes). HasBrought o es x n opened.key opened.work) (sym volumes)
    (subst (λ (p : ℕ × Work). HasBrought o es w.core.volumes n p.0 p.1) s.2 (all n s.0 s.1))

-- a step more is told
brought_told : (o : Origin) (es : List ChronicleEntry) (step : Step) → o.first ≤ length o.told.steps → AreUpto (length o.told.steps) es
    → (volumes : Volumes) (n key : ℕ) (work : Work)
    → HasBrought o es volumes n key work
    → HasBrought (origin_on step o) es volumes n key work
brought_told o es step first upto volumes n key (Read start buffer) h = read_step step first upto h
brought_told o es step first upto volumes n key (Whole (answer.Listed listed)) h = h
brought_told o es step first upto volumes n key Write h = tt
brought_told o es step first upto volumes n key (Whole a) h = tt

pub brought_on : (o : Origin) (es : List ChronicleEntry) (step : Step) (w : World) → o.first ≤ length o.told.steps
    → AreUpto (length o.told.steps) es
    → AllBrought o es w
    → AllBrought (origin_on step o) es w
brought_on o es step w first upto all n opened at =
    brought_told o es step first upto w.core.volumes n opened.key opened.work (all n opened at)

-- an entry more, of another line
pub brought_beside : (o : Origin) (es : List ChronicleEntry) (e : ChronicleEntry) (volumes : Volumes) (n key : ℕ) (work : Work)
    → IsBeside e n
    → HasBrought o es volumes n key work
    → HasBrought o (e ∷ es) volumes n key work
brought_beside o es e volumes n key (Read start buffer) beside h = read_beside e beside h
brought_beside o es e volumes n key (Whole (answer.Listed listed)) beside h = h
brought_beside o es e volumes n key Write beside h = tt
brought_beside o es e volumes n key (Whole a) beside h = tt

-- an entry of one line
pub brought_entry : (o : Origin) (es : List ChronicleEntry) (e : ChronicleEntry) (w : World) (n : ℕ)
    → ((q : ℕ) → (n == q) ≡ false → IsBeside e q)
    → ((x : OpenLine) → open_at w.core.opens n ≡ Some x → HasBrought o (e ∷ es) w.core.volumes n x.key x.work)
    → AllBrought o es w
    → AllBrought o (e ∷ es) w
brought_entry o es e w n beside own all q x at = by (n == q) refl
  where
    by : (b : Bool) → (n == q) ≡ b → HasBrought o (e ∷ es) w.core.volumes q x.key x.work
    by true is =
        let same : n ≡ q = eqb-true n q is in
        subst (λ (k : ℕ). HasBrought o (e ∷ es) w.core.volumes k x.key x.work) same
        (own x (ap (open_at w.core.opens) same ∙ at))
    by false is = brought_beside o es e w.core.volumes q x.key x.work (beside q is) (all q x at)
