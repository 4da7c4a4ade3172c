-- A queue before the first step.
use Rattle.std.proofs.Common.{◌≡◌, ◌<◌, ◌≤◌, ℕ, List, [], map, replicate, slice_index_or, ⊎_elim, ap, ◌∙◌, arith}
use Rattle.std.proofs.lemmas.Bool.{cases_lt}
use Rattle.std.proofs.lemmas.List.{get_or-replicate, get_or_past, length-replicate}
use mathlib.Core.Path.{fun_ext}
use Rattle.disk_model.specs.State.{State, tags_of}
use Rattle.op_queue.specs.declared.queue.Waiting.{Waiting}
use Rattle.op_queue.specs.Queue.{opened_state, operation_of}

-- counts that all stand at 0
zero_counts : (count pv : ℕ) → slice_index_or {A = ℕ} (replicate {A = ℕ} count 0) pv 0 ≡ 0
zero_counts count pv =
    ⊎_elim (λ (lt : pv < count). get_or-replicate {A = ℕ} count pv 0 0 lt)
    (λ (le : count ≤ pv). get_or_past (replicate {A = ℕ} count 0) pv 0 (omega (arith, length-replicate {A = ℕ})))
    (cases_lt pv count)

-- a queue with these operations in flight and these counts of faults
abbrev fresh_state : List ℕ → List Waiting → (ℕ → ℕ) → State
fresh_state sizes ws faults = record (opened_state sizes) {
  in_flight = map operation_of ws;
  ready = tags_of (map operation_of ws);
  faults = faults;
}

-- nothing is in flight, and no fault is counted
pub state_of-fresh : (sizes : List ℕ) (ws : List Waiting) (counts : List ℕ) (count : ℕ) → ws ≡ [] → counts ≡ replicate count 0
    → fresh_state sizes ws (λ pv. slice_index_or counts pv 0) ≡ opened_state sizes
state_of-fresh sizes ws counts count idle zeros =
    let same : (pv : ℕ) → slice_index_or counts pv 0 ≡ 0 = λ pv. ap (λ (l : List ℕ). slice_index_or l pv 0) zeros ∙ zero_counts count pv in
    ap (λ (l : List Waiting). fresh_state sizes l (λ pv. slice_index_or counts pv 0)) idle
    ∙ ap (λ (f : ℕ → ℕ). fresh_state sizes [] f) (fun_ext same)
