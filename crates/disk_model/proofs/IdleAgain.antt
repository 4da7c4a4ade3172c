-- Calls that complete all that they submit, one after another.
use Rattle.std.proofs.Common.{◌≡◌, ℕ, [], refl, sym, subst, ◌∙◌, arith}
use Rattle.disk_model.specs.Calls.{Reserves}
use Rattle.disk_model.specs.Idle.{IsIdleAgain, SpendsAtMost}
use Rattle.disk_model.specs.State.{State}

pub again_both : (s0 s1 s2 : State) → IsIdleAgain s0 s1 → IsIdleAgain s1 s2 → IsIdleAgain s0 s2
again_both s0 s1 s2 first more =
    record { idle = more.idle; sizes = more.sizes ∙ first.sizes; later = omega (arith, first.later, more.later) }

-- nothing was done
pub again_same : (s0 s1 : State) → s1 ≡ s0 → s0.in_flight ≡ [] → IsIdleAgain s0 s1
again_same s0 s1 same idle = subst (λ (s : State). IsIdleAgain s0 s) (sym same) (record { idle = idle; sizes = refl; later = omega arith })

pub again_nothing : (s : State) → s.in_flight ≡ [] → IsIdleAgain s s
again_nothing s idle = again_same s s refl idle

-- room was made
pub again_reserved : (s0 s1 : State) (ops sectors : ℕ) → Reserves s0 ops sectors s1 → s0.in_flight ≡ [] → IsIdleAgain s0 s1
again_reserved s0 s1 ops sectors r idle =
    subst (λ (s : State). IsIdleAgain s0 s) (sym r.same) (record { idle = idle; sizes = refl; later = omega arith })

-- at most so much was done
pub again_spent : (s0 s1 : State) (ops sectors : ℕ) → SpendsAtMost s0 ops sectors s1 → IsIdleAgain s0 s1
again_spent s0 s1 ops sectors spends = record { idle = spends.idle; sizes = spends.sizes; later = spends.later }
