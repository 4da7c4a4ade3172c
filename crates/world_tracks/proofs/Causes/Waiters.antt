-- Who waits on a disk did so before, or has just begun to.
use Rattle.std.proofs.Common.{◌≡◌, ◌⊎◌, ℕ, suc, List, [], ◌∷◌, ◌++◌, drop, Contains, inl, inr, ⊎_elim, subst, arith}
use Rattle.std.proofs.lemmas.List.Elements.{Contains-append_cases, Contains-append_left, Contains-append_right, Contains-push_cases}
use Rattle.flush_waits.specs.declared.ticket.Waiting.{Waiting}
use Rattle.flush_waits.specs.declared.waits.Awaited.{Awaited}
use Rattle.flush_waits.specs.declared.waits.Awaited.TheVariants.{Lost, Served, Stable, Unserved}
use Rattle.flush_waits.specs.Steps.{after_release, after_submitted, after_wait, with_waiting}
use Rattle.flush_waits.specs.Waits.{DiskWaits, Waits, awaited, disk_waits, none_waits}
use Rattle.world_tracks.proofs.WaitSteps.{set_keeps, waiters}

-- among one more
with_cases : (d : DiskWaits) (it : Waiting) (a : Awaited) (who : Waiting) → Contains (waiters (with_waiting d it a)) who
    → Contains (waiters d) who ⊎ (it ≡ who)
with_cases d it Stable who has = inl has
with_cases d it Lost who has = inl has
with_cases d it Served who has =
    ⊎_elim
    (λ here. ⊎_elim (λ (old : Contains d.served who). inl (Contains-append_left d.served d.next who old)) (λ (same : it ≡ who). inr same)
    (Contains-push_cases d.served it who here)) (λ next. inl (Contains-append_right d.served d.next who next))
    (Contains-append_cases (d.served ++ it ∷ []) d.next who has)
with_cases d it Unserved who has =
    ⊎_elim (λ here. inl (Contains-append_left d.served d.next who here))
    (λ next. ⊎_elim (λ (old : Contains d.next who). inl (Contains-append_right d.served d.next who old)) (λ (same : it ≡ who). inr same)
    (Contains-push_cases d.next it who next)) (Contains-append_cases d.served (d.next ++ it ∷ []) who has)

-- one more waits
pub waited_before : (waits : Waits) (it : Waiting) (pv q : ℕ) (who : Waiting)
    → Contains (waiters (disk_waits (after_wait waits it pv) q)) who
    → Contains (waiters (disk_waits waits q)) who ⊎ ((pv ≡ q) × (it ≡ who))
waited_before waits it pv q who has =
    set_keeps
    (λ (x : DiskWaits). Contains (waiters x) who → Contains (waiters (disk_waits waits q)) who ⊎ ((pv ≡ q) × (it ≡ who))) waits.disks
    pv q (with_waiting (disk_waits waits pv) it (awaited waits pv it.place)) none_waits (λ h. inl h)
    (λ e h. ⊎_elim (λ old. inl (subst (λ (n : ℕ). Contains (waiters (disk_waits waits n)) who) e old)) (λ same. inr (e, same))
    (with_cases (disk_waits waits pv) it (awaited waits pv it.place) who h)) has

-- a flush serves what none did
pub submitted_before : (waits : Waits) (pv tag q : ℕ) (who : Waiting)
    → Contains (waiters (disk_waits (after_submitted waits pv tag) q)) who
    → Contains (waiters (disk_waits waits q)) who
submitted_before waits pv tag q who has =
    let d : DiskWaits = disk_waits waits pv in
    set_keeps (λ (x : DiskWaits). Contains (waiters x) who → Contains (waiters (disk_waits waits q)) who) waits.disks pv q
    (record { served = d.next; next = [] }) none_waits (λ h. h)
    (λ e h. subst (λ (n : ℕ). Contains (waiters (disk_waits waits n)) who) e
    (⊎_elim (λ next. Contains-append_right d.served d.next who next) (λ none. absurd (nothing who none))
    (Contains-append_cases d.next [] who h))) has
  where
    nothing : (who : Waiting) → Contains [] who → ⊥
    nothing who (k, lt, at) = omega (arith, lt)

-- the first waits no more
rest_before : (served next : List Waiting) (who : Waiting) → Contains (drop 1 served ++ next) who → Contains (served ++ next) who
rest_before [] next who has = has
rest_before (x ∷ served) next who (k, lt, at) = (suc k, omega (arith, lt), at)

pub released_before : (waits : Waits) (pv q : ℕ) (who : Waiting) → Contains (waiters (disk_waits (after_release waits pv) q)) who
    → Contains (waiters (disk_waits waits q)) who
released_before waits pv q who has =
    let d : DiskWaits = disk_waits waits pv in
    set_keeps (λ (x : DiskWaits). Contains (waiters x) who → Contains (waiters (disk_waits waits q)) who) waits.disks pv q
    (record d { served = drop 1 d.served }) none_waits (λ h. h)
    (λ e h. subst (λ (n : ℕ). Contains (waiters (disk_waits waits n)) who) e (rest_before d.served d.next who h)) has
