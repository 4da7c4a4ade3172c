-- What each step of what waits does to what lasts, and to what waits for that.
use Rattle.std.proofs.Common.{◌≡◌, ◌≤◌, ◌<◌, ◌⊎◌, ℕ, zero, suc, ◌+◌, ◌*◌, Bool, true, false, nat_eq, List, [], ◌∷◌, ◌++◌, drop, length}
use Rattle.std.proofs.Common.{get_or, set, max, Contains, Some, slice_get, inl, inr, ⊎_elim, refl, sym, ap, subst, ◌∙◌, arith}
use Rattle.std.proofs.lemmas.Bool.{cases_lt, eqb-false, eqb-true}
use Rattle.std.proofs.lemmas.List.{get_or-set_other, get_or-set_same, get_or_past, length-set}
use Rattle.std.proofs.lemmas.List.Elements.{Contains-append_cases, Contains-append_left, Contains-append_right}
use Rattle.flush_plan.specs.declared.records.Flush.{Flush}
use Rattle.flush_plan.specs.declared.records.Marks.{Marks}
use Rattle.flush_plan.specs.Plans.{Plan, flush_of, marks_of, no_marks}
use Rattle.flush_waits.specs.declared.ticket.Waiting.{Waiting}
use Rattle.flush_waits.specs.declared.waits.Awaited.{Awaited}
use Rattle.flush_waits.specs.declared.waits.Awaited.TheVariants.{Lost, Served, Stable, Unserved}
use Rattle.flush_waits.specs.Steps.{after_ended, after_forgot, after_noted, after_release, after_submitted, after_wait, after_wrote}
use Rattle.flush_waits.specs.Steps.{with_waiting}
use Rattle.flush_waits.specs.Waits.{DiskWaits, Waits, awaited, dirty_at, disk_waits, none_waits}
use Rattle.world_places.specs.Lives.{Written}
use Rattle.world_tracks.specs.Notes.{Lasts, WaitsFor}

-- what holds of an item holds after another was set, or it itself to one of which it holds too
pub set_keeps : {X : Type 0} (P : X → Type 0) (xs : List X) (at k : ℕ) (x d : X) → P (get_or xs k d) → (at ≡ k → P x)
    → P (get_or (set xs at x) k d)
set_keeps {X} P xs at k x d was is =
    elim (nat_eq at k) as (λ b. nat_eq at k ≡ b → P (get_or (set xs at x) k d)) [
      | true ↦ λ t.
          let e : at ≡ k = eqb-true at k t in
          subst (λ (n : ℕ). P (get_or (set xs n x) k d)) (sym e)
          (⊎_elim (λ (lt : k < length xs). subst P (sym (get_or-set_same xs k x d lt)) (is e))
          (λ (ge : length xs ≤ k). let long : length (set xs k x) ≡ length xs = length-set xs k x in
          subst P (get_or_past xs k d ge ∙ sym (get_or_past (set xs k x) k d (omega (arith, long, ge)))) was)
          (cases_lt k (length xs)))
      | false ↦ λ t. subst P (sym (get_or-set_other xs at k x d (λ e. eqb-false at k t (sym e)))) was
    ] refl

-- all that waits on a disk
abbrev pub waiters : DiskWaits → List Waiting
waiters d = d.served ++ d.next

-- no place falls, and what lasts does so behind it
pub record WaitsRise (old new : Waits) : Type 0 where
  pub held : old.plan.held ≤ new.plan.held
  pub last :
      (w : Written) → w.place ≤ old.plan.held → w.place ≤ dirty_at old w.piece.volume w.pv → w.place ≤ dirty_at new w.piece.volume w.pv
  pub lasts : (w : Written) → Lasts old w → Lasts new w

-- and what waits does
pub record WaitsGo (old new : Waits) : Type 0 where
  pub rises : WaitsRise old new
  pub waits : (w : Written) (who : Waiting) → WaitsFor old w who → WaitsFor new w who

-- two steps
pub rises_both : {old mid new : Waits} → WaitsRise old mid → WaitsRise mid new → WaitsRise old new
rises_both {old} {mid} {new} a b = record {
  held = omega (arith, a.held, b.held);
  last = λ w most is. b.last w (omega (arith, most, a.held)) (a.last w most is);
  lasts = λ w is. b.lasts w (a.lasts w is);
}

pub goes_both : {old mid new : Waits} → WaitsGo old mid → WaitsGo mid new → WaitsGo old new
goes_both {old} {mid} {new} a b =
    record { rises = rises_both a.rises b.rises; waits = λ w who is. b.waits w who (a.waits w who is) }

-- where volumes' places are the same
rises_same : (old new : Waits) → old.plan.held ≤ new.plan.held → length new.disks ≡ length old.disks → new.dirty ≡ old.dirty
    → ((w : Written) → Lasts old w → Lasts new w) → WaitsRise old new
rises_same old new held long dirty lasts = record {
  held = held;
  last =
      λ w most is. let same : dirty_at new w.piece.volume w.pv ≡ dirty_at old w.piece.volume w.pv =
      λ i. get_or (dirty i) (w.piece.volume * long i + w.pv) 0 in omega (arith, is, same);
  lasts = lasts;
}

-- where what waits is the same
same_waits : (old new : Waits) → new.disks ≡ old.disks → (w : Written) (who : Waiting) → WaitsFor old w who → WaitsFor new w who
same_waits old new disks w who is = record {
  there = subst (λ (l : List DiskWaits). Contains (waiters (get_or l w.pv none_waits)) who) (sym disks) is.there;
  late = is.late;
}

-- nothing happens
pub goes_nowhere : (waits : Waits) → WaitsGo waits waits
goes_nowhere waits =
    record { rises = rises_same waits waits (omega arith) refl refl (λ w is. is); waits = λ w who is. is }

-- more is spare
pub goes_spare : (waits : Waits) (spare room : ℕ) → WaitsGo waits (record waits { plan = record waits.plan { spare = spare }; room = room })
goes_spare waits spare room =
    let new : Waits = record waits { plan = record waits.plan { spare = spare }; room = room } in
    record { rises = rises_same waits new (omega arith) refl refl (λ w is. is); waits = same_waits waits new refl }

-- ---- one more waits

-- who waited does so among one more
with_more : (d : DiskWaits) (it : Waiting) (a : Awaited) (who : Waiting) → Contains (waiters d) who
    → Contains (waiters (with_waiting d it a)) who
with_more d it Stable who is = is
with_more d it Lost who is = is
with_more d it Served who is =
    ⊎_elim (λ here. Contains-append_left (d.served ++ it ∷ []) d.next who (Contains-append_left d.served (it ∷ []) who here))
    (λ later. Contains-append_right (d.served ++ it ∷ []) d.next who later) (Contains-append_cases d.served d.next who is)
with_more d it Unserved who is =
    ⊎_elim (λ here. Contains-append_left d.served (d.next ++ it ∷ []) who here)
    (λ later. Contains-append_right d.served (d.next ++ it ∷ []) who (Contains-append_left d.next (it ∷ []) who later))
    (Contains-append_cases d.served d.next who is)

-- and so on each disk
pub goes_wait : (waits : Waits) (it : Waiting) (pv : ℕ) → WaitsGo waits (after_wait waits it pv)
goes_wait waits it pv =
    let d : DiskWaits = with_waiting (disk_waits waits pv) it (awaited waits pv it.place) in
    record {
      rises = rises_same waits (after_wait waits it pv) (omega arith) (length-set waits.disks pv d) refl (λ w is. is);
      waits = λ w who is. record {
        there =
            set_keeps (λ (x : DiskWaits). Contains (waiters x) who) waits.disks pv w.pv d none_waits is.there
            (λ e. with_more (disk_waits waits pv) it (awaited waits pv it.place) who
            (subst (λ (n : ℕ). Contains (waiters (disk_waits waits n)) who) (sym e) is.there));
        late = is.late;
      };
    }

-- ---- flushes

-- a flush is submitted: it serves what was served by none, and nothing else was
pub goes_submitted : (waits : Waits) (pv tag : ℕ) → (disk_waits waits pv).served ≡ [] → WaitsGo waits (after_submitted waits pv tag)
goes_submitted waits pv tag none =
    let d : DiskWaits = record { served = (disk_waits waits pv).next; next = [] } in
    record {
      rises = rises_same waits (after_submitted waits pv tag) (omega arith) (length-set waits.disks pv d) refl (λ w is. is);
      waits = λ w who is. record {
        there =
            set_keeps (λ (x : DiskWaits). Contains (waiters x) who) waits.disks pv w.pv d none_waits is.there
            (λ e. Contains-append_left (disk_waits waits pv).next [] who
            (subst (λ (l : List Waiting). Contains (l ++ (disk_waits waits pv).next) who) none
            (subst (λ (n : ℕ). Contains (waiters (disk_waits waits n)) who) (sym e) is.there)));
        late = is.late;
      };
    }

-- what was stable of a disk stays so where its marks rise
lasts_marked : (plan : Plan) (pv : ℕ) (m : Marks) (w : Written) → (marks_of plan pv).stable ≤ m.stable
    → w.place ≤ (marks_of plan w.pv).stable → w.place ≤ (get_or (set plan.marks pv m) w.pv no_marks).stable
lasts_marked plan pv m w more is =
    set_keeps (λ (x : Marks). w.place ≤ x.stable) plan.marks pv w.pv m no_marks is
    (λ e. let was : w.place ≤ (marks_of plan pv).stable = subst (λ (n : ℕ). w.place ≤ (marks_of plan n).stable) (sym e) is in
    omega (arith, was, more))

-- a flush has ended
pub goes_ended : (waits : Waits) (tag : ℕ) (well : Bool) → WaitsGo waits (after_ended waits tag well)
goes_ended waits tag true =
    let f : Flush = flush_of waits.plan tag in
    let m : Marks = marks_of waits.plan f.pv in
    record {
      rises =
          rises_same waits (after_ended waits tag true) (omega arith) refl refl
          (λ w is. lasts_marked waits.plan f.pv (record m { ended = max m.ended f.after; stable = max m.stable f.after }) w
          (omega arith) is);
      waits = same_waits waits (after_ended waits tag true) refl;
    }
goes_ended waits tag false =
    let f : Flush = flush_of waits.plan tag in
    let m : Marks = marks_of waits.plan f.pv in
    record {
      rises =
          rises_same waits (after_ended waits tag false) (omega arith) refl refl
          (λ w is. lasts_marked waits.plan f.pv (record m { ended = max m.ended f.after }) w (omega arith) is);
      waits = same_waits waits (after_ended waits tag false) refl;
    }

-- ---- the first that was served waits no more

-- who waited was the first, or waits still
first_or_stays : (served next : List Waiting) (who : Waiting) → Contains (served ++ next) who
    → (slice_get served 0 ≡ Some who) ⊎ Contains (drop 1 served ++ next) who
first_or_stays [] next who is = inr is
first_or_stays (x ∷ xs) next who (zero, lt, at) = inl (ap Some at)
first_or_stays (x ∷ xs) next who (suc k, lt, at) = inr (k, omega (arith, lt), at)

-- no place falls
pub rises_release : (waits : Waits) (pv : ℕ) → WaitsRise waits (after_release waits pv)
rises_release waits pv =
    rises_same waits (after_release waits pv) (omega arith)
    (length-set waits.disks pv (record (disk_waits waits pv) { served = drop 1 (disk_waits waits pv).served })) refl (λ w is. is)

-- who waited for a write was the first on its disk, or waits still
pub first_or_waits : (waits : Waits) (pv : ℕ) (w : Written) (who : Waiting) → WaitsFor waits w who
    → ((pv ≡ w.pv) × (slice_get (disk_waits waits pv).served 0 ≡ Some who)) ⊎ WaitsFor (after_release waits pv) w who
first_or_waits waits pv w who is =
    let d : DiskWaits = record (disk_waits waits pv) { served = drop 1 (disk_waits waits pv).served } in
    let stays : (pv ≡ w.pv → Contains (waiters d) who) → WaitsFor (after_release waits pv) w who =
    λ own. record {
      there = set_keeps (λ (x : DiskWaits). Contains (waiters x) who) waits.disks pv w.pv d none_waits is.there own;
      late = is.late;
    } in
    elim (nat_eq pv w.pv) as (λ b. nat_eq pv w.pv ≡ b
    → ((pv ≡ w.pv) × (slice_get (disk_waits waits pv).served 0 ≡ Some who)) ⊎ WaitsFor (after_release waits pv) w who) [
      | true ↦ λ t.
          let e : pv ≡ w.pv = eqb-true pv w.pv t in
          ⊎_elim (λ first. inl (e, first)) (λ later. inr (stays (λ same. later)))
          (first_or_stays (disk_waits waits pv).served (disk_waits waits pv).next who
          (subst (λ (n : ℕ). Contains (waiters (disk_waits waits n)) who) (sym e) is.there))
      | false ↦ λ t. inr (stays (λ e. absurd (eqb-false pv w.pv t e)))
    ] refl

-- ---- writes

-- a write completed
pub goes_wrote : (waits : Waits) (number pv : ℕ) → WaitsGo waits (after_wrote waits number pv)
goes_wrote waits number pv = record {
  rises =
      rises_same waits (after_wrote waits number pv) (omega arith) refl refl
      (λ w is. lasts_marked waits.plan pv (record (marks_of waits.plan pv) { written = waits.plan.held + 1 }) w (omega arith) is);
  waits = same_waits waits (after_wrote waits number pv) refl;
}

-- the place is none before those of writes that completed
pub goes_noted : (waits : Waits) (key pv place : ℕ) → waits.plan.held ≤ place → WaitsGo waits (after_noted waits key pv place)
goes_noted waits key pv place high = record {
  rises = record {
    held = omega arith;
    last =
        λ w most is. set_keeps (λ (n : ℕ). w.place ≤ n) waits.dirty (key * length waits.disks + pv)
        (w.piece.volume * length waits.disks + w.pv) place 0 is (λ e. omega (arith, most, high));
    lasts = λ w is. is;
  };
  waits = same_waits waits (after_noted waits key pv place) refl;
}

-- a write is not asked for any more
pub goes_forgot : (waits : Waits) (number pv : ℕ) → WaitsGo waits (after_forgot waits number pv)
goes_forgot waits number pv = record {
  rises = rises_same waits (after_forgot waits number pv) (omega arith) refl refl (λ w is. is);
  waits = same_waits waits (after_forgot waits number pv) refl;
}
