-- A call whose steps bring only values that have Q keeps Q of all images at every moment.
use Rattle.std.proofs.Common.{◌≤◌, ℕ, zero, suc, ◌-◌, List, [], ◌∷◌, ◌++◌, length, drop, ⊎_elim, sym, subst, arith, length-append}
use Rattle.disk_model.specs.Steps.{Image, Reading, Writing, Flushing, Step, Submitted, Completed}
use Rattle.disk_model.specs.Moments.{EveryImageSince}
use Rattle.disk_model.specs.Brought.{BringOnly}
use Rattle.disk_model.specs.Durability.{EachOnlyLeaves}
use Rattle.disk_model.proofs.OneStepMore.{quiet}

module _ (Q : ℕ → ℕ → List ℕ → Type 0) (opened : Image) (older : List Step)
    (start : EachOnlyLeaves Q (record { opened = opened; steps = older })) where
  -- after such steps each value has Q
  pub only_leaves : (newer : List Step) → BringOnly Q newer → EachOnlyLeaves Q (record { opened = opened; steps = newer ++ older })
  only_leaves [] b = start
  only_leaves (Submitted tag (Writing span sectors) ∷ newer) b = λ pv sector. record {
    each = λ write value may.
        ⊎_elim (λ a. (only_leaves newer b.1 pv sector).each write value a) (λ n. subst (Q pv sector) (sym n.2) (b.0 pv sector n.0)) may;
  }
  only_leaves (Submitted tag (Reading span) ∷ newer) b =
      λ pv sector. record { each = λ write value may. (only_leaves newer b pv sector).each write value may }
  only_leaves (Submitted tag (Flushing disk) ∷ newer) b =
      λ pv sector. record { each = λ write value may. (only_leaves newer b pv sector).each write value may }
  only_leaves (Completed tag work well fresh ∷ newer) b = λ pv sector. record {
    each = λ write value may.
        (only_leaves newer b pv sector).each write value
        (quiet opened (Completed tag work well fresh) (newer ++ older) pv sector write value tt may);
  }

  -- what all but the newest step bring
  tail_brings : (step : Step) (newer : List Step) → BringOnly Q (step ∷ newer) → BringOnly Q newer
  tail_brings (Submitted tag (Writing span sectors)) newer b = b.1
  tail_brings (Submitted tag (Reading span)) newer b = b
  tail_brings (Submitted tag (Flushing disk)) newer b = b
  tail_brings (Completed tag work well fresh) newer b = b

  -- after all but so many of such steps each value has Q
  at_drop : (newer : List Step) → BringOnly Q newer → (k : ℕ) → k ≤ length newer
      → EachOnlyLeaves Q (record { opened = opened; steps = drop k (newer ++ older) })
  at_drop newer b zero le = only_leaves newer b
  at_drop [] b (suc k) le = absurd (omega arith)
  at_drop (step ∷ newer) b (suc k) le = at_drop newer (tail_brings step newer b) k (omega arith)

  -- at every moment of such steps every image has Q
  pub every_moment : (newer : List Step) → BringOnly Q newer
      → EveryImageSince (length older) (record { opened = opened; steps = newer ++ older })
      (λ image. (pv sector : ℕ) → Q pv sector (image pv sector))
  every_moment newer b moment from upto image is pv sector =
      (at_drop newer b (length (newer ++ older) - moment) (omega (arith, length-append newer older)) pv sector).each (is pv sector).0
      (image pv sector) (is pv sector).1
