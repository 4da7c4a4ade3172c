-- How much is left to do: no more by what goes on once an operation has completed, and one less by its completion.
use Rattle.std.proofs.Common.{◌≡◌, ◌≤◌, ℕ, ◌+◌, length, arith}
use Rattle.disk_model.specs.State.{State}
use Rattle.disk_model.specs.declared.ops.Done.{Done}
use Rattle.world_acts.specs.Acts.{Allowed, Ends, EndsFlush, Reaches, World, after, goes_on, left_in}
use Rattle.world_acts.specs.Orderly.{IsOrderly}
use Rattle.world_acts.proofs.Orderly.{orderly_after}
use Rattle.world_acts.proofs.Reaching.{reaches_keep}
use Rattle.world_acts.proofs.Spending.{Spends, spends_act}

left_spent : (most : ℕ) (w v : World) → Spends w v → left_in w ≤ most → left_in v ≤ most
left_spent most w v s below = omega (arith, s.in_flight, s.owed.ops, below)

pub left_reaches : (w v : World) → IsOrderly w → Reaches goes_on w v → left_in v ≤ left_in w
left_reaches w v o goes =
    (reaches_keep goes_on (λ (x : World). IsOrderly x × (left_in x ≤ left_in w))
    (λ x a is allowed p.
    (orderly_after x a p.0 allowed, left_spent (left_in w) x (after x a) (spends_act x a is p.0 allowed) p.1)) w v goes (o, omega arith)).1

pub left_ended : (w : World) (done : Done) (now : State) → Allowed w (Ends done now) → left_in (after w (Ends done now)) + 1 ≡ left_in w
left_ended w done now allowed =
    let one : length now.in_flight + 1 ≡ length w.shelf.in_flight = allowed.0.fewer in omega (arith, one)

pub left_flushed : (w : World) (done : Done) (now : State) → Allowed w (EndsFlush done now)
    → left_in (after w (EndsFlush done now)) + 1 ≡ left_in w
left_flushed w done now allowed =
    let one : length now.in_flight + 1 ≡ length w.shelf.in_flight = allowed.0.fewer in omega (arith, one)
