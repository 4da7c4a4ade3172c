-- Batches that are taken one after another off a list.
use Rattle.std.proofs.Common.{◌≡◌, ℕ, ◌+◌, Bool, true, false, List, [], ◌∷◌, ◌++◌, map, reverse, sum_by, Option, refl, sym, ap, subst, ◌∙◌}
use Rattle.std.proofs.Common.{arith, append_assoc}
use Rattle.std.proofs.lemmas.List.{map-append, reverse-append}
use Rattle.std.proofs.lemmas.List.Sums.{sum_by-append}
use Rattle.disk_model.specs.Idle.{SpendsAtMost}
use Rattle.disk_model.specs.Since.{BetweenRecords}
use Rattle.disk_model.specs.State.{State}
use Rattle.disk_model.specs.Steps.{Record}
use Rattle.disk_model.proofs.StepsSince.{between_weaker}
use Rattle.disk_batch.specs.declared.batch.Batch.{Batch}
use Rattle.disk_batch.specs.Batches.{disks_of, writes_of}
use Rattle.disk_batch.specs.InTurn.{CanRun, Put, WritesInTurn, WritesInTurnTold}
use Rattle.disk_batch.specs.WriteAll.{WritesAll}
use Rattle.disk_batch.proofs.InTurn.{turns_told_both, turns_told_failed}
use Rattle.disk_batch.proofs.OneTurn.{one_turn}

-- one batch was carried out
pub turn_told : (s0 s1 : Option Record) (sizes : List ℕ) (batch : Batch) (well : Bool) → CanRun sizes batch
    → BetweenRecords (λ old new. WritesAll old (writes_of batch) (disks_of batch) well new) s0 s1
    → WritesInTurnTold s0 (writes_of batch ∷ []) well s1
turn_told s0 s1 sizes batch well can told =
    between_weaker (λ old new. WritesAll old (writes_of batch) (disks_of batch) well new)
    (λ old new. WritesInTurn old (writes_of batch ∷ []) well new) s0 s1
    (λ old new all. one_turn old new (writes_of batch) (disks_of batch) well all can.apart can.flushed) told

-- some batches, and then this one
pub turn_after : (s0 s1 s2 : Option Record) (first : List Batch) (batch : Batch) (well : Bool)
    → WritesInTurnTold s0 (map writes_of first) true s1 → WritesInTurnTold s1 (writes_of batch ∷ []) well s2
    → WritesInTurnTold s0 (map writes_of (first ++ batch ∷ [])) well s2
turn_after s0 s1 s2 first batch well a b =
    subst (λ (l : List (List Put)). WritesInTurnTold s0 l well s2) (sym (map-append writes_of first (batch ∷ [])))
    (turns_told_both s0 s1 s2 (map writes_of first) (writes_of batch ∷ []) well a b)

-- the list was this batch and others behind it, seen from its end
pub taken_off : (first rest list all : List Batch) (batch : Batch) → first ++ reverse list ≡ all → list ≡ rest ++ batch ∷ []
    → (first ++ batch ∷ []) ++ reverse rest ≡ all
taken_off first rest list all batch e last =
    append_assoc first (batch ∷ []) (reverse rest)
    ∙ ap (λ (l : List Batch). first ++ l) (sym (ap reverse last ∙ reverse-append rest (batch ∷ []))) ∙ e

-- the batch failed, and those behind it were not begun
pub turn_failed : (s0 s1 s2 : Option Record) (first rest list all : List Batch) (batch : Batch) → first ++ reverse list ≡ all
    → list ≡ rest ++ batch ∷ []
    → WritesInTurnTold s0 (map writes_of first) true s1 → WritesInTurnTold s1 (writes_of batch ∷ []) false s2
    → WritesInTurnTold s0 (map writes_of all) false s2
turn_failed s0 s1 s2 first rest list all batch e last a b =
    subst (λ (l : List (List Put)). WritesInTurnTold s0 l false s2)
    (sym (map-append writes_of (first ++ batch ∷ []) (reverse rest))
    ∙ ap (λ (l : List Batch). map writes_of l) (taken_off first rest list all batch e last))
    (turns_told_failed s0 s2 (map writes_of (first ++ batch ∷ [])) (map writes_of (reverse rest))
    (turn_after s0 s1 s2 first batch false a b))

-- what both use up
pub spends_both : (s0 s1 s2 : State) (ops more_ops sectors more_sectors : ℕ) → SpendsAtMost s0 ops sectors s1
    → SpendsAtMost s1 more_ops more_sectors s2 → SpendsAtMost s0 (ops + more_ops) (sectors + more_sectors) s2
spends_both s0 s1 s2 ops more_ops sectors more_sectors a b = record {
  idle = b.idle;
  sizes = b.sizes ∙ a.sizes;
  spare_ops = omega (arith, a.spare_ops, b.spare_ops);
  spare_sectors = omega (arith, a.spare_sectors, b.spare_sectors);
  steps = omega (arith, a.steps, b.steps);
  later = omega (arith, a.later, b.later);
}

pub spends_none : (s : State) → s.in_flight ≡ [] → SpendsAtMost s 0 0 s
spends_none s idle =
    record { idle = idle; sizes = refl; spare_ops = omega arith; spare_sectors = omega arith; steps = omega arith; later = omega arith }

-- the sum over some batches and one more
pub sum_more : (f : Batch → ℕ) (first : List Batch) (batch : Batch) → sum_by f (first ++ batch ∷ []) ≡ sum_by f first + f batch
sum_more f first batch =
    let one : sum_by f (batch ∷ []) ≡ f batch = omega arith in sum_by-append f first (batch ∷ []) ∙ ap (λ (n : ℕ). sum_by f first + n) one
