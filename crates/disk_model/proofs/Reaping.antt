-- A call that finds nothing more ready than was so before.
use Rattle.std.proofs.Common.{◌≡◌, [], Option, Some, None, refl, sym, subst}
use Rattle.std.specs.Prelude.{Contains, IfSome, IsNone, MatchOption, ◌↔◌}
use Rattle.disk_model.specs.Calls.{Completes, MakesReady, Reaps}
use Rattle.disk_model.specs.State.{State}
use Rattle.disk_model.specs.declared.ops.Done.{Done}

as_before : (state : State) → MakesReady state state
as_before state = record { ready = λ t was. was; same = refl }

pub reaps_ready : (old new : State) (answer : Option Done) → (IsNone answer ↔ (old.ready ≡ []))
    → MatchOption answer (MakesReady old new) (λ done. Completes old done new) → IfSome answer (λ done. Contains old.ready done.tag)
    → Reaps old answer new
reaps_ready old new answer none cases ready = record { looked = old; makes = as_before old; none = none; cases = cases; ready = ready }

-- the same where nothing at all changes without an answer
pub reaps_or_stays : (old new : State) (answer : Option Done) → (IsNone answer ↔ (old.ready ≡ []))
    → MatchOption answer (new ≡ old) (λ done. Completes old done new) → IfSome answer (λ done. Contains old.ready done.tag)
    → Reaps old answer new
reaps_or_stays old new None none same ready = reaps_ready old new None none (subst (MakesReady old) (sym same) (as_before old)) ready
reaps_or_stays old new (Some done) none completes ready = reaps_ready old new (Some done) none completes ready
