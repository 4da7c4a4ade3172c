-- Zeros that are written in turn, and then batches.
use Rattle.std.proofs.Common.{true, false, List, Bool, Option, inl, inr}
use Rattle.disk_batch.specs.InTurn.{Put, WritesInTurn, WritesInTurnTold}
use Rattle.disk_model.proofs.StepsSince.{between_both, between_weaker}
use Rattle.disk_model.specs.Since.{BetweenRecords}
use Rattle.disk_model.specs.Steps.{Record}
use Rattle.vg_change.specs.CarryingOut.{WritesBehind, WritesBoth}

behind : (zeros batches : List (List Put)) (well : Bool) (old new : Record) → WritesBehind zeros batches well old new
    → WritesBoth zeros batches well old new
behind zeros batches true old new w = w
behind zeros batches false old new w = inr w

-- all zeros were written, and the batches as far as they came
pub both_told : (zeros batches : List (List Put)) (well : Bool) (s0 s1 s2 : Option Record) → WritesInTurnTold s0 zeros true s1
    → WritesInTurnTold s1 batches well s2 → BetweenRecords (WritesBoth zeros batches well) s0 s2
both_told zeros batches well s0 s1 s2 first later =
    between_both (λ old new. WritesInTurn old zeros true new) (λ old new. WritesInTurn old batches well new) (WritesBoth zeros batches well)
    s0 s1 s2
    (λ old mid new a b. behind zeros batches well old new (record { zeroed = mid; first = a; behind = b })) first later

-- an operation of the zeros failed
pub zeros_told : (zeros batches : List (List Put)) (s0 s1 : Option Record) → WritesInTurnTold s0 zeros false s1
    → BetweenRecords (WritesBoth zeros batches false) s0 s1
zeros_told zeros batches s0 s1 first =
    between_weaker (λ old new. WritesInTurn old zeros false new) (WritesBoth zeros batches false) s0 s1 (λ old new a. inl a) first
