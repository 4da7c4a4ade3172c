-- Each call keeps what waits in order.
use Rattle.std.proofs.Common.{◌≡◌, ◌≤◌, ◌<◌, ℕ, zero, suc, ◌+◌, ◌^◌, max, true, false, cond, nat_eq, ◌==◌, List, [], ◌∷◌}
use Rattle.std.proofs.Common.{◌++◌, length, get_or, set, replicate, Option, Some, None, ⊎_elim, refl, sym, ap, ◌∙◌, subst, arith}
use Rattle.std.specs.Prelude.{All, AllPairs, IsTrue, position, remove, slice_get}
use Rattle.std.specs.Option.{option_and_then}
use Rattle.std.proofs.lemmas.Bool.{cases_lt, eqb-false, eqb-true}
use Rattle.std.proofs.lemmas.List.{get_or-replicate, get_or-set_other, get_or-set_same, get_or_past, length-replicate, length-set}
use Rattle.std.proofs.lemmas.List.{length_push}
use Rattle.std.proofs.lemmas.List.Edits.{length-remove}
use Rattle.std.proofs.lemmas.List.Elements.{All-nil, All-push}
use Rattle.std.proofs.lemmas.List.Quantifiers.{all_pairs_push, all_pairs_remove}
use Rattle.flush_plan.specs.declared.records.Flush.{Flush}
use Rattle.flush_plan.specs.declared.records.Marks.{Marks}
use Rattle.flush_plan.specs.Plans.{Plan, flight_of, flush_at, flush_of, is_in_flight, marks_of, no_marks}
use Rattle.flush_plan.specs.Steps as plans
use Rattle.list_laws.proofs.Pairs.{pairs_from}
use Rattle.list_laws.proofs.Positions.{all_remove, any_within}
use Rattle.flush_waits.specs.Waits.{AreInOrder, DiskWaits, Stands, none_waits, reach}
use Rattle.flush_waits.proofs.Counting.{few_flights}
use Rattle.flush_waits.proofs.Flights.{Apart, first_kept, first_left, first_of, first_other, first_pushed, first_taken, flight_is}
use Rattle.flush_waits.proofs.Queues.{reached, stands_ended, stands_more, stands_new, stands_submitted}

-- what holds of one disk, and of each other one
by_disk : (P : ℕ → Type 0) (pv : ℕ) → P pv → ((q : ℕ) → nat_eq pv q ≡ false → P q) → (q : ℕ) → P q
by_disk P pv here other q =
    elim (nat_eq pv q) as (λ b. nat_eq pv q ≡ b → P q) [
      | true ↦ λ t. subst P (eqb-true pv q t) here
      | false ↦ other q
    ] refl

-- an item that was set, and each other one
set_here : {X : Type 0} (xs : List X) (at : ℕ) (x d : X) → at < length xs → x ≡ get_or (set xs at x) at d
set_here xs at x d lt = sym (get_or-set_same xs at x d lt)

set_there : {X : Type 0} (xs : List X) (at : ℕ) (x d : X) (k : ℕ) → nat_eq at k ≡ false → get_or (set xs at x) k d ≡ get_or xs k d
set_there xs at x d k other = get_or-set_other xs at k x d (λ e. eqb-false at k other (sym e))

-- what stands does so by the same flight and marks
same_stands : (f g : Option Flush) (m n : Marks) (held : ℕ) (d e : DiskWaits) → f ≡ g → m ≡ n → d ≡ e → Stands m (reached f m) held d
    → Stands n (reached g n) held e
same_stands f g m n held d e flights marks waits s =
    subst (λ (x : DiskWaits). Stands n (reached g n) held x) waits
    (subst (λ (x : Marks). Stands x (reached g x) held d) marks (subst (λ (x : Option Flush). Stands m (reached x m) held d) flights s))

-- nothing waits where nothing was given
new_at : {X : Type 0} (n k : ℕ) (x : X) → x ≡ get_or (replicate n x) k x
new_at n k x =
    ⊎_elim (λ (lt : k < n). sym (get_or-replicate n k x x lt))
    (λ (ge : n ≤ k). let many : length (replicate n x) ≡ n = length-replicate n x in
    sym (get_or_past (replicate n x) k x (omega (arith, many, ge)))) (cases_lt k n)

pub in_order_new : (disks spare flushes : ℕ) → disks < 2 ^ 32 → disks ≤ flushes
    → AreInOrder (record (plans.new_plan disks) { spare = spare; spare_flushes = flushes }) (replicate disks none_waits)
in_order_new disks spare flushes few enough =
    let many : length (replicate disks none_waits) ≡ disks = length-replicate disks none_waits in
    let marks : length (replicate disks no_marks) ≡ disks = length-replicate disks no_marks in
    record {
      many = many ∙ sym marks;
      few = omega (arith, many, few);
      one = λ i j d lt within. absurd (omega (arith, within));
      within = All-nil (λ (f : Flush). f.pv < length (replicate disks none_waits));
      spare = omega (arith, many, enough);
      stands = λ pv. same_stands None None no_marks (get_or (replicate disks no_marks) pv no_marks) 0 none_waits
          (get_or (replicate disks none_waits) pv none_waits) refl (new_at disks pv no_marks) (new_at disks pv none_waits) stands_new;
    }

-- what the order doesn't look at
pub in_order_same : (p q : Plan) (disks : List DiskWaits) → q.marks ≡ p.marks → q.flushes ≡ p.flushes → q.held ≡ p.held
    → q.spare_flushes ≡ p.spare_flushes → AreInOrder p disks → AreInOrder q disks
in_order_same p q disks marks flushes held spare o = record {
  many = o.many ∙ sym (ap length marks);
  few = o.few;
  one = subst (λ fs. AllPairs (λ (f g : Flush). nat_eq f.pv g.pv ≡ false) fs) (sym flushes) o.one;
  within = subst (λ fs. All (λ (f : Flush). f.pv < length disks) fs) (sym flushes) o.within;
  spare = rw (flushes, spare) o.spare;
  stands = λ pv. rw (marks, flushes, held) (o.stands pv);
}

-- a write that completed
pub in_order_by_wrote : (plan : Plan) (disks : List DiskWaits) (number pv : ℕ) → pv < length disks → AreInOrder plan disks
    → AreInOrder (plans.after_wrote plan number pv) disks
in_order_by_wrote plan disks number pv lt o =
    let at : pv < length plan.marks = omega (arith, lt, o.many) in
    let m : Marks = record (marks_of plan pv) { written = plan.held + 1 } in
    record {
      many = o.many ∙ sym (length-set plan.marks pv m);
      few = o.few;
      one = o.one;
      within = o.within;
      spare = o.spare;
      stands =
          by_disk (λ q. Stands (get_or (set plan.marks pv m) q no_marks)
          (reached (flight_of plan q) (get_or (set plan.marks pv m) q no_marks)) (plan.held + 1) (get_or disks q none_waits)) pv
          (same_stands (flight_of plan pv) (flight_of plan pv) m (get_or (set plan.marks pv m) pv no_marks) (plan.held + 1)
          (get_or disks pv none_waits) (get_or disks pv none_waits) refl (set_here plan.marks pv m no_marks at) refl
          (stands_more (marks_of plan pv) m (reach plan pv) plan.held (plan.held + 1) (get_or disks pv none_waits) refl refl
          (omega arith) (o.stands pv)))
          (λ q other. same_stands (flight_of plan q) (flight_of plan q) (marks_of plan q) (get_or (set plan.marks pv m) q no_marks)
          (plan.held + 1) (get_or disks q none_waits) (get_or disks q none_waits) refl (sym (set_there plan.marks pv m no_marks q other))
          refl
          (stands_more (marks_of plan q) (marks_of plan q) (reach plan q) plan.held (plan.held + 1) (get_or disks q none_waits) refl refl
          (omega arith) (o.stands q)));
    }

-- other queues on one disk
pub in_order_by_queue : (plan : Plan) (disks : List DiskWaits) (pv : ℕ) (d : DiskWaits) → pv < length disks
    → Stands (marks_of plan pv) (reach plan pv) plan.held d → AreInOrder plan disks → AreInOrder plan (set disks pv d)
in_order_by_queue plan disks pv d lt s o =
    let many : length (set disks pv d) ≡ length disks = length-set disks pv d in
    record {
      many = many ∙ o.many;
      few = omega (arith, many, o.few);
      one = o.one;
      within = rw (many) o.within;
      spare = omega (arith, many, o.spare);
      stands =
          by_disk (λ q. Stands (marks_of plan q) (reach plan q) plan.held (get_or (set disks pv d) q none_waits)) pv
          (subst (λ x. Stands (marks_of plan pv) (reach plan pv) plan.held x) (set_here disks pv d none_waits lt) s)
          (λ q other. subst (λ x. Stands (marks_of plan q) (reach plan q) plan.held x) (sym (set_there disks pv d none_waits q other))
          (o.stands q));
    }

-- a flush is spare where none is in flight
pub spare_flush : (plan : Plan) (disks : List DiskWaits) (pv : ℕ) → pv < length disks → flight_of plan pv ≡ None → AreInOrder plan disks
    → 0 < plan.spare_flushes
spare_flush plan disks pv lt none o =
    let few : length plan.flushes < length disks =
    few_flights plan.flushes pv (length disks) lt o.within (pairs_from Apart plan.flushes o.one)
    (sym (flight_is plan.flushes pv) ∙ none) in
    omega (arith, few, o.spare)

-- none of those in flight is of a disk that has none
first_and_rest : (f : Flush) (fs : List Flush) (pv k : ℕ) (d : Flush) → nat_eq f.pv pv ≡ false
    → ((j : ℕ) → j < length fs → nat_eq (get_or fs j d).pv pv ≡ false) → k < length (f ∷ fs) → nat_eq (get_or (f ∷ fs) k d).pv pv ≡ false
first_and_rest f fs pv zero d first rest lt = first
first_and_rest f fs pv (suc k) d first rest lt = rest k (omega (arith, lt))

apart_from : (fs : List Flush) (pv : ℕ) → first_of fs pv ≡ None → (k : ℕ) (d : Flush) → k < length fs
    → nat_eq (get_or fs k d).pv pv ≡ false
apart_from [] pv none k d lt = absurd (omega (arith, lt))
apart_from (f ∷ fs) pv none k d lt =
    elim (nat_eq f.pv pv) as
    (λ b. nat_eq f.pv pv ≡ b → cond b (Some f) (first_of fs pv) ≡ None → nat_eq (get_or (f ∷ fs) k d).pv pv ≡ false) [
      | true ↦ λ t h. cc
      | false ↦ λ t h. first_and_rest f fs pv k d t (λ j within. apart_from fs pv h j d within) lt
    ] refl none

-- a flush was submitted, and serves all that waits on its disk
pub in_order_by_submitted : (plan : Plan) (disks : List DiskWaits) (pv tag : ℕ) → pv < length disks → flight_of plan pv ≡ None
    → AreInOrder plan disks
    → AreInOrder (plans.after_submitted plan pv tag) (set disks pv (record { served = (get_or disks pv none_waits).next; next = [] }))
in_order_by_submitted plan disks pv tag lt none o =
    let g : Flush = record { tag = tag; pv = pv; after = plan.held } in
    let d : DiskWaits = record { served = (get_or disks pv none_waits).next; next = [] } in
    let first : first_of plan.flushes pv ≡ None = sym (flight_is plan.flushes pv) ∙ none in
    let spare : 0 < plan.spare_flushes = spare_flush plan disks pv lt none o in
    let many : length (set disks pv d) ≡ length disks = length-set disks pv d in
    let more : length (plan.flushes ++ g ∷ []) ≡ length plan.flushes + 1 = length_push plan.flushes g in
    record {
      many = many ∙ o.many;
      few = omega (arith, many, o.few);
      one = all_pairs_push (λ (e f : Flush). nat_eq e.pv f.pv ≡ false) plan.flushes g o.one (apart_from plan.flushes pv first);
      within = rw (many) (All-push (λ (f : Flush). f.pv < length disks) plan.flushes g o.within lt);
      spare = omega (arith, many, more, spare, o.spare);
      stands =
          by_disk (λ q. Stands (marks_of plan q) (reached (flight_of (plans.after_submitted plan pv tag) q) (marks_of plan q)) plan.held
          (get_or (set disks pv d) q none_waits)) pv
          (same_stands (Some g) (flight_of (plans.after_submitted plan pv tag) pv) (marks_of plan pv) (marks_of plan pv) plan.held d
          (get_or (set disks pv d) pv none_waits)
          (sym (flight_is (plan.flushes ++ g ∷ []) pv ∙ first_pushed plan.flushes g first)) refl (set_here disks pv d none_waits lt)
          (stands_submitted (marks_of plan pv) (reach plan pv) plan.held (get_or disks pv none_waits) (o.stands pv)))
          (λ q other. same_stands (flight_of plan q) (flight_of (plans.after_submitted plan pv tag) q) (marks_of plan q) (marks_of plan q)
          plan.held (get_or disks q none_waits) (get_or (set disks pv d) q none_waits)
          (flight_is plan.flushes q ∙ sym (flight_is (plan.flushes ++ g ∷ []) q ∙ first_other plan.flushes g q other)) refl
          (sym (set_there disks pv d none_waits q other)) (o.stands q));
    }

-- the plan after one of the flushes was taken out, where its disk has these marks
abbrev without : Plan → ℕ → Marks → Plan
without plan at m = record plan {
  marks = set plan.marks (get_or plan.flushes at (record { tag = 0; pv = 0; after = 0 })).pv m;
  flushes = remove plan.flushes at;
  spare_flushes = plan.spare_flushes + 1;
}

-- a flush ended
in_order_without : (plan : Plan) (disks : List DiskWaits) (at : ℕ) (m : Marks) → at < length plan.flushes
    → m.ended ≡ max (marks_of plan (get_or plan.flushes at (record { tag = 0; pv = 0; after = 0 })).pv).ended
    (get_or plan.flushes at (record { tag = 0; pv = 0; after = 0 })).after
    → m.stable ≤ m.ended → AreInOrder plan disks
    → AreInOrder (without plan at m) disks
in_order_without plan disks at m lt ended stable o =
    let none : Flush = record { tag = 0; pv = 0; after = 0 } in
    let f : Flush = get_or plan.flushes at none in
    let pv : f.pv < length disks = o.within at none lt in
    let mark : f.pv < length plan.marks = omega (arith, pv, o.many) in
    let apart = pairs_from Apart plan.flushes o.one in
    let left : length (remove plan.flushes at) + 1 ≡ length plan.flushes = length-remove plan.flushes at lt in
    let flight : flight_of plan f.pv ≡ Some f = flight_is plan.flushes f.pv ∙ first_taken plan.flushes at none lt apart in
    let here : Stands (marks_of plan f.pv) f.after plan.held (get_or disks f.pv none_waits) =
    subst (λ (x : Option Flush). Stands (marks_of plan f.pv) (reached x (marks_of plan f.pv)) plan.held
    (get_or disks f.pv none_waits)) flight (o.stands f.pv) in
    let is : m.ended ≡ f.after = omega (arith, ended, here.ended) in
    record {
      many = o.many ∙ sym (length-set plan.marks f.pv m);
      few = o.few;
      one = all_pairs_remove (λ (e g : Flush). nat_eq e.pv g.pv ≡ false) plan.flushes at lt o.one;
      within = all_remove (λ (g : Flush). g.pv < length disks) plan.flushes at lt o.within;
      spare = omega (arith, left, o.spare);
      stands =
          by_disk (λ q. Stands (get_or (set plan.marks f.pv m) q no_marks)
          (reached (flight_of (without plan at m) q) (get_or (set plan.marks f.pv m) q no_marks)) plan.held
          (get_or disks q none_waits)) f.pv
          (same_stands None (flight_of (without plan at m) f.pv) m (get_or (set plan.marks f.pv m) f.pv no_marks) plan.held
          (get_or disks f.pv none_waits) (get_or disks f.pv none_waits)
          (sym (flight_is (remove plan.flushes at) f.pv ∙ first_left plan.flushes at none lt apart))
          (set_here plan.marks f.pv m no_marks mark) refl
          (subst (λ to. Stands m to plan.held (get_or disks f.pv none_waits)) (sym is)
          (stands_ended (marks_of plan f.pv) m f.after plan.held (get_or disks f.pv none_waits) is (omega (arith, is, stable)) here)))
          (λ q other. same_stands (flight_of plan q) (flight_of (without plan at m) q) (marks_of plan q)
          (get_or (set plan.marks f.pv m) q no_marks) plan.held (get_or disks q none_waits) (get_or disks q none_waits)
          (flight_is plan.flushes q
          ∙ sym (flight_is (remove plan.flushes at) q ∙ first_kept plan.flushes at none lt q other))
          (sym (set_there plan.marks f.pv m no_marks q other)) refl (o.stands q));
    }

-- what is known of a flush in flight: its disk has no other, and has ended flushes up to it at the most
pub ended_to : (plan : Plan) (disks : List DiskWaits) (tag : ℕ) → IsTrue (is_in_flight plan tag) → AreInOrder plan disks
    → (marks_of plan (flush_of plan tag).pv).ended ≤ (flush_of plan tag).after
ended_to plan disks tag flies o =
    let none : Flush = record { tag = 0; pv = 0; after = 0 } in
    let at : flush_at plan tag < length plan.flushes = any_within (λ (f : Flush). f.tag == tag) plan.flushes flies in
    let f : Flush = get_or plan.flushes (flush_at plan tag) none in
    let flight : flight_of plan f.pv ≡ Some f =
    flight_is plan.flushes f.pv ∙ first_taken plan.flushes (flush_at plan tag) none at (pairs_from Apart plan.flushes o.one) in
    let here : Stands (marks_of plan f.pv) f.after plan.held (get_or disks f.pv none_waits) =
    subst (λ (x : Option Flush). Stands (marks_of plan f.pv) (reached x (marks_of plan f.pv)) plan.held
    (get_or disks f.pv none_waits)) flight (o.stands f.pv) in
    here.ended

pub in_order_by_lost : (plan : Plan) (disks : List DiskWaits) (tag : ℕ) → IsTrue (is_in_flight plan tag) → AreInOrder plan disks
    → AreInOrder (plans.after_lost plan tag) disks
in_order_by_lost plan disks tag flies o =
    let m : Marks = marks_of plan (flush_of plan tag).pv in
    let s : Stands m (reach plan (flush_of plan tag).pv) plan.held (get_or disks (flush_of plan tag).pv none_waits) =
    o.stands (flush_of plan tag).pv in
    in_order_without plan disks (flush_at plan tag) (record m { ended = max m.ended (flush_of plan tag).after })
    (any_within (λ (f : Flush). f.tag == tag) plan.flushes flies) refl (omega (arith, s.stable)) o

pub in_order_by_flushed : (plan : Plan) (disks : List DiskWaits) (tag : ℕ) → IsTrue (is_in_flight plan tag) → AreInOrder plan disks
    → AreInOrder (plans.after_flushed plan tag) disks
in_order_by_flushed plan disks tag flies o =
    let m : Marks = marks_of plan (flush_of plan tag).pv in
    let f : Flush = flush_of plan tag in
    let s : Stands m (reach plan (flush_of plan tag).pv) plan.held (get_or disks (flush_of plan tag).pv none_waits) =
    o.stands (flush_of plan tag).pv in
    in_order_without plan disks (flush_at plan tag) (record m { ended = max m.ended f.after; stable = max m.stable f.after })
    (any_within (λ (g : Flush). g.tag == tag) plan.flushes flies) refl (omega (arith, s.stable)) o

-- of the disk of a flush that has ended none is in flight
none_left : (plan : Plan) (disks : List DiskWaits) (tag : ℕ) → IsTrue (is_in_flight plan tag) → AreInOrder plan disks
    → option_and_then (slice_get (remove plan.flushes (flush_at plan tag)))
    (position (λ (f : Flush). f.pv == (flush_of plan tag).pv) (remove plan.flushes (flush_at plan tag))) ≡ None
none_left plan disks tag flies o =
    let at : flush_at plan tag < length plan.flushes = any_within (λ (f : Flush). f.tag == tag) plan.flushes flies in
    flight_is (remove plan.flushes (flush_at plan tag)) (flush_of plan tag).pv
    ∙ first_left plan.flushes (flush_at plan tag) (record { tag = 0; pv = 0; after = 0 }) at (pairs_from Apart plan.flushes o.one)

pub none_after_flushed : (plan : Plan) (disks : List DiskWaits) (tag : ℕ) → IsTrue (is_in_flight plan tag) → AreInOrder plan disks
    → flight_of (plans.after_flushed plan tag) (flush_of plan tag).pv ≡ None
none_after_flushed plan disks tag flies o = none_left plan disks tag flies o

pub none_after_lost : (plan : Plan) (disks : List DiskWaits) (tag : ℕ) → IsTrue (is_in_flight plan tag) → AreInOrder plan disks
    → flight_of (plans.after_lost plan tag) (flush_of plan tag).pv ≡ None
none_after_lost plan disks tag flies o = none_left plan disks tag flies o

-- one that completed well makes stable all for which flushes have ended
pub stable_after : (plan : Plan) (disks : List DiskWaits) (tag : ℕ) → IsTrue (is_in_flight plan tag) → AreInOrder plan disks
    → (marks_of (plans.after_flushed plan tag) (flush_of plan tag).pv).stable
    ≡ (marks_of (plans.after_flushed plan tag) (flush_of plan tag).pv).ended
stable_after plan disks tag flies o =
    let at : flush_at plan tag < length plan.flushes = any_within (λ (f : Flush). f.tag == tag) plan.flushes flies in
    let f : Flush = flush_of plan tag in
    let m : Marks = marks_of plan f.pv in
    let n : Marks = record m { ended = max m.ended f.after; stable = max m.stable f.after } in
    let pv : f.pv < length disks = o.within (flush_at plan tag) (record { tag = 0; pv = 0; after = 0 }) at in
    let mark : f.pv < length plan.marks = omega (arith, pv, o.many) in
    let to : m.ended ≤ f.after = ended_to plan disks tag flies o in
    let s : Stands m (reach plan f.pv) plan.held (get_or disks f.pv none_waits) = o.stands f.pv in
    let same : n.stable ≡ n.ended = omega (arith, to, s.stable) in
    ap (λ (x : Marks). x.stable) (get_or-set_same plan.marks f.pv n no_marks mark) ∙ same
    ∙ sym (ap (λ (x : Marks). x.ended) (get_or-set_same plan.marks f.pv n no_marks mark))
