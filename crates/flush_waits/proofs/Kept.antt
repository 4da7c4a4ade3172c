-- Each call keeps what the type keeps: the order, places of completed writes, and counts.
use Rattle.std.proofs.Common.{◌≡◌, ◌≤◌, ◌<◌, ℕ, zero, suc, ◌+◌, ◌-◌, ◌^◌, List, [], ◌∷◌, ◌++◌, length, get_or, set, drop, replicate, None}
use Rattle.std.proofs.Common.{refl, subst, arith}
use Rattle.std.specs.Prelude.{IsTrue}
use Rattle.std.proofs.lemmas.List.{length-drop, length_push}
use Rattle.std.proofs.lemmas.List.Elements.{All-replicate, All-set}
use Rattle.flush_plan.specs.Plans.{Plan, flight_of, is_in_flight, marks_of}
use Rattle.flush_plan.specs.Steps as plans
use Rattle.flush_waits.specs.declared.ticket.Waiting.{Waiting}
use Rattle.flush_waits.specs.declared.waits.Awaited.TheVariants.{Served, Unserved}
use Rattle.flush_waits.specs.Waits.{AreBelow, AreCompleted, AreInOrder, DiskWaits, Waits, awaited, none_waits, reach}
use Rattle.flush_waits.proofs.InOrder.{in_order_by_flushed, in_order_by_lost, in_order_by_queue, in_order_by_submitted, in_order_by_wrote}
use Rattle.flush_waits.proofs.InOrder.{in_order_new, in_order_same}
use Rattle.flush_waits.proofs.Queues.{served_within, stands_next, stands_released, stands_served, unserved_behind}

-- what the type keeps
abbrev pub Kept : Plan → List DiskWaits → List ℕ → ℕ → ℕ → Type 0
Kept plan disks dirty waited room =
    AreInOrder plan disks × AreCompleted plan.held dirty × AreBelow waited disks × (waited + room ≤ 2 ^ 62)

-- so many wait on one disk
abbrev Below : ℕ → DiskWaits → Type 0
Below most d = length d.served + length d.next ≤ most

below_more : (most : ℕ) (disks : List DiskWaits) → AreBelow most disks → AreBelow (most + 1) disks
below_more most disks below k d lt = let h : Below most (get_or disks k d) = below k d lt in omega (arith, h)

-- within a list the default is no matter
pub any_default : {X : Type 0} (xs : List X) (k : ℕ) (d e : X) → k < length xs → get_or xs k d ≡ get_or xs k e
any_default [] k d e lt = absurd (omega (arith, lt))
any_default (x ∷ xs) zero d e lt = refl
any_default (x ∷ xs) (suc k) d e lt = any_default xs k d e (omega (arith, lt))

pub kept_new : (disks volumes spare flushes : ℕ) → disks < 2 ^ 32 → disks ≤ flushes
    → Kept (record (plans.new_plan disks) { spare = spare; spare_flushes = flushes }) (replicate disks none_waits) (replicate volumes 0) 0 0
kept_new disks volumes spare flushes few enough = (
  in_order_new disks spare flushes few enough,
  All-replicate (λ (place : ℕ). place ≤ 0) volumes 0 (omega arith),
  All-replicate (Below 0) disks none_waits (omega arith),
  omega arith,
)

pub kept_wrote : (plan : Plan) (disks : List DiskWaits) (dirty : List ℕ) (waited room number pv : ℕ) → pv < length disks
    → Kept plan disks dirty waited room → Kept (plans.after_wrote plan number pv) disks dirty waited room
kept_wrote plan disks dirty waited room number pv lt kept = (
  in_order_by_wrote plan disks number pv lt kept.0,
  λ k d within. let h : get_or dirty k d ≤ plan.held = kept.1 k d within in omega (arith, h),
  kept.2,
  kept.3,
)

pub kept_forgot : (plan : Plan) (disks : List DiskWaits) (dirty : List ℕ) (waited room number pv : ℕ)
    → Kept plan disks dirty waited room → Kept (plans.after_forgot plan number pv) disks dirty waited room
kept_forgot plan disks dirty waited room number pv kept =
    (in_order_same plan (plans.after_forgot plan number pv) disks refl refl refl refl kept.0, kept.1, kept.2, kept.3)

pub kept_flushed : (plan : Plan) (disks : List DiskWaits) (dirty : List ℕ) (waited room tag : ℕ) → IsTrue (is_in_flight plan tag)
    → Kept plan disks dirty waited room → Kept (plans.after_flushed plan tag) disks dirty waited room
kept_flushed plan disks dirty waited room tag flies kept =
    (in_order_by_flushed plan disks tag flies kept.0, kept.1, kept.2, kept.3)

pub kept_lost : (plan : Plan) (disks : List DiskWaits) (dirty : List ℕ) (waited room tag : ℕ) → IsTrue (is_in_flight plan tag)
    → Kept plan disks dirty waited room → Kept (plans.after_lost plan tag) disks dirty waited room
kept_lost plan disks dirty waited room tag flies kept =
    (in_order_by_lost plan disks tag flies kept.0, kept.1, kept.2, kept.3)

pub kept_submitted : (plan : Plan) (disks : List DiskWaits) (dirty : List ℕ) (waited room pv tag : ℕ) → pv < length disks
    → flight_of plan pv ≡ None → Kept plan disks dirty waited room
    → Kept (plans.after_submitted plan pv tag) (set disks pv (record { served = (get_or disks pv none_waits).next; next = [] })) dirty
    waited room
kept_submitted plan disks dirty waited room pv tag lt none kept =
    let d : DiskWaits = get_or disks pv none_waits in
    let here : Below waited d = kept.2 pv none_waits lt in (
      in_order_by_submitted plan disks pv tag lt none kept.0,
      kept.1,
      All-set (Below waited) disks pv (record { served = d.next; next = [] }) (omega (arith, here)) kept.2,
      kept.3,
    )

pub kept_released : (plan : Plan) (disks : List DiskWaits) (dirty : List ℕ) (waited room pv : ℕ) → pv < length disks
    → Kept plan disks dirty waited room
    → Kept plan (set disks pv (record (get_or disks pv none_waits) { served = drop 1 (get_or disks pv none_waits).served })) dirty waited
    room
kept_released plan disks dirty waited room pv lt kept =
    let d : DiskWaits = get_or disks pv none_waits in
    let here : Below waited d = kept.2 pv none_waits lt in
    let fewer : length (drop 1 d.served) ≡ length d.served - 1 = length-drop 1 d.served in (
      in_order_by_queue plan disks pv (record d { served = drop 1 d.served }) lt
          (stands_released (marks_of plan pv) (reach plan pv) plan.held d (kept.0.stands pv)) kept.0,
      kept.1,
      All-set (Below waited) disks pv (record d { served = drop 1 d.served }) (omega (arith, here, fewer)) kept.2,
      kept.3,
    )

-- one more waits, where room is left: it is served, or it isn't
pub kept_served : (plan : Plan) (disks : List DiskWaits) (dirty : List ℕ) (waited room pv : ℕ) (w : Waiting) (all : Waits)
    → all.plan ≡ plan → pv < length disks → 0 < room → awaited all pv w.place ≡ Served → Kept plan disks dirty waited room
    → Kept plan (set disks pv (record (get_or disks pv none_waits) { served = (get_or disks pv none_waits).served ++ w ∷ [] })) dirty
    (waited + 1) (room - 1)
kept_served plan disks dirty waited room pv w all same lt some is kept =
    let d : DiskWaits = get_or disks pv none_waits in
    let here : Below waited d = kept.2 pv none_waits lt in
    let more : length (d.served ++ w ∷ []) ≡ length d.served + 1 = length_push d.served w in
    let within = served_within (flight_of plan pv) (marks_of plan pv) w.place
    (subst (λ (p : Plan). awaited (record all { plan = p }) pv w.place ≡ Served) same is) in (
      in_order_by_queue plan disks pv (record d { served = d.served ++ w ∷ [] }) lt
          (stands_served (marks_of plan pv) (reach plan pv) plan.held d w within (kept.0.stands pv)) kept.0,
      kept.1,
      All-set (Below (waited + 1)) disks pv (record d { served = d.served ++ w ∷ [] }) (omega (arith, here, more))
          (below_more waited disks kept.2),
      omega (arith, some, kept.3),
    )

pub kept_next : (plan : Plan) (disks : List DiskWaits) (dirty : List ℕ) (waited room pv : ℕ) (w : Waiting) (all : Waits)
    → all.plan ≡ plan → pv < length disks → 0 < room → w.place ≤ plan.held → awaited all pv w.place ≡ Unserved
    → Kept plan disks dirty waited room
    → Kept plan (set disks pv (record (get_or disks pv none_waits) { next = (get_or disks pv none_waits).next ++ w ∷ [] })) dirty
    (waited + 1) (room - 1)
kept_next plan disks dirty waited room pv w all same lt some held is kept =
    let d : DiskWaits = get_or disks pv none_waits in
    let here : Below waited d = kept.2 pv none_waits lt in
    let more : length (d.next ++ w ∷ []) ≡ length d.next + 1 = length_push d.next w in
    let behind = unserved_behind (flight_of plan pv) (marks_of plan pv) w.place
    (subst (λ (p : Plan). awaited (record all { plan = p }) pv w.place ≡ Unserved) same is) in (
      in_order_by_queue plan disks pv (record d { next = d.next ++ w ∷ [] }) lt
          (stands_next (marks_of plan pv) (reach plan pv) plan.held d w behind held (kept.0.stands pv)) kept.0,
      kept.1,
      All-set (Below (waited + 1)) disks pv (record d { next = d.next ++ w ∷ [] }) (omega (arith, here, more))
          (below_more waited disks kept.2),
      omega (arith, some, kept.3),
    )
