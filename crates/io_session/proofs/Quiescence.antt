-- Where nothing is in flight or due, no line is queued.
use Rattle.std.proofs.Common.{◌≡◌, ℕ, Bool, false, List, [], ◌∷◌, refl, ap, sym, ◌∙◌, subst}
use Rattle.io_session.specs.Worlds.{IsDrained}
use Rattle.io_session.specs.Desks.{DeskState, IsNextBlocked, IsQuiescent, queued}

no_line_left : {L : Type 0} (xs : List L) → ((line : L) (later : List L) → xs ≡ line ∷ later → ⊥) → xs ≡ []
no_line_left [] none = refl
no_line_left (line ∷ later) none = absurd (none line later refl)

-- a wait found nothing in flight, no commit was due, and the next line might not begin
pub quiescent : {W L : Type 0} (in_flight : W → ℕ) (is_due is_done : W → Bool) (allows : W → L → Bool) (was old new : DeskState W L)
    → old ≡ was → is_due was.world ≡ false → IsNextBlocked allows was → new.rest ≡ old.rest → new.wanted ≡ old.wanted
    → IsDrained in_flight is_due is_done allows old.world new.world → IsQuiescent in_flight is_due is_done new
quiescent in_flight is_due is_done allows was old new view due' blocked' rest wanted drained =
    let due : is_due old.world ≡ false = ap (λ (d : DeskState _ _). is_due d.world) view ∙ due' in
    let blocked : IsNextBlocked allows old = subst (λ (d : DeskState _ _). IsNextBlocked allows d) (sym view) blocked' in
    let idle = drained.idle due in
    record {
      none_in_flight = drained.none_in_flight;
      none_due = drained.same_due ∙ due;
      all_answered = drained.same_done ∙ idle.all_answered;
      none_queued =
          ap (λ (b : Bool). queued b new.rest) wanted
          ∙ ap (λ (xs : List _). queued old.wanted xs) rest
          ∙ no_line_left (queued old.wanted old.rest) (λ line later is. absurd (cc (blocked line later is, idle.any_may_begin line)));
    }
