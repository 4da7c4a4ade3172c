-- The disks of which a flush is wanted, where one is submitted.
use Rattle.std.proofs.Common.{◌≡◌, ◌≤◌, ◌<◌, ℕ, ◌+◌, Bool, true, false, cond, not, ◌&&◌, ◌||◌, nat_eq, nat_lt, List, [], ◌∷◌, ◌++◌}
use Rattle.std.proofs.Common.{length, find}
use Rattle.std.proofs.Common.{Option, None, Some, is_none, slice_get, sum_by, refl, sym, ap, subst, ◌∙◌, arith, true≢false}
use Rattle.std.specs.List.{list_any, position_or_len}
use Rattle.std.specs.Option.{option_and_then}
use Rattle.std.proofs.lemmas.Bool.{and_parts, eqb-false, eqb-true, ltb-false}
use Rattle.std.proofs.lemmas.List.{get_or-set_other, get_or-set_same}
use Rattle.std.proofs.lemmas.List.Folds.{find_at}
use Rattle.std.proofs.lemmas.List.Sums.{get_or-le-sum_by}
use Rattle.std.proofs.lemmas.Option.{none-some, slice_get_past}
use Rattle.disk_model.specs.Calls.{Submits}
use Rattle.disk_model.specs.declared.ops.Op.TheVariants.{Flush as FlushOp}
use Rattle.disk_model.specs.State.{IsLawful, State}
use Rattle.flush_plan.specs.declared.records.Flush.{Flush}
use Rattle.flush_plan.specs.Plans.{Plan, flight_of, is_in_flight}
use Rattle.flush_plan.specs.Steps.{after_submitted}
use Rattle.flush_waits.specs.Waits.{DiskWaits, disk_waits, is_wanted, none_waits}
use Rattle.world_acts.specs.declared.state.Core.{Core}
use Rattle.world_acts.specs.declared.room.Room.{Room}
use Rattle.world_acts.specs.Acts.{AsksFlush, Reaches, World, follows, world}
use Rattle.world_acts.specs.Counts.{room_of}
use Rattle.world_acts.specs.Orderly.{AreKnown, AreOwned, IsOrderly, IsSpare}
use Rattle.world_acts.specs.Steps.{after_flush}
use Rattle.world_acts.proofs.Flushing.{wanted_within}
use Rattle.world_acts.proofs.Known.{find_before, fresh_unknown, unknown}
use Rattle.world_acts.proofs.Reaching.{reaches_act}
use Rattle.io_core.specs.Rest.{IsSettled, no_one}
use Rattle.io_core.proofs.Calm.{asked_same, unfinished_same}

-- ---- the flush in flight of a disk

pub flight_found : (p : Plan) (pv : ℕ) → flight_of p pv ≡ find (λ (f : Flush). nat_eq f.pv pv) p.flushes
flight_found p pv =
    let test : Flush → Bool = λ (f : Flush). nat_eq f.pv pv in
    let n : ℕ = position_or_len test p.flushes in
    elim (nat_lt n (length p.flushes)) as
    (λ b. nat_lt n (length p.flushes) ≡ b → option_and_then (slice_get p.flushes) (cond b (Some n) None) ≡ find test p.flushes) [
      | true ↦ λ t. sym (find_at test p.flushes)
      | false ↦ λ t. sym (find_at test p.flushes ∙ slice_get_past p.flushes n (ltb-false _ _ t))
    ] refl

found_pushed : {X : Type 0} (test : X → Bool) (xs : List X) (x : X) → test x ≡ true → find test (xs ++ x ∷ []) ≡ None → ⊥
found_pushed test [] x passes none = none-some x (sym none ∙ ap (λ (b : Bool). cond b (Some x) None) passes)
found_pushed test (y ∷ xs) x passes none =
    elim (test y) as (λ b. cond b (Some y) (find test (xs ++ x ∷ [])) ≡ None → ⊥) [
      | true ↦ λ h. none-some y (sym h)
      | false ↦ λ h. found_pushed test xs x passes h
    ] none

none_any : {X : Type 0} (test : X → Bool) (xs : List X) → find test xs ≡ None → list_any test xs ≡ false
none_any test [] none = refl
none_any test (x ∷ xs) none =
    elim (test x) as (λ b. cond b (Some x) (find test xs) ≡ None → (b || list_any test xs) ≡ false) [
      | true ↦ λ h. absurd (none-some x (sym h))
      | false ↦ λ h. none_any test xs h
    ] none

-- of another disk it is the same
pub flight_other : (p : Plan) (pv tag q : ℕ) → nat_eq pv q ≡ false → flight_of (after_submitted p pv tag) q ≡ flight_of p q
flight_other p pv tag q apart =
    flight_found (after_submitted p pv tag) q
    ∙ find_before (λ (f : Flush). nat_eq f.pv q) p.flushes (record { tag = tag; pv = pv; after = p.held }) apart ∙ sym (flight_found p q)

-- a disk without one is another, and had none
pub flight_none : (p : Plan) (pv tag q : ℕ) → flight_of (after_submitted p pv tag) q ≡ None
    → (nat_eq pv q ≡ false) × (flight_of p q ≡ None)
flight_none p pv tag q none =
    elim (nat_eq pv q) as (λ b. nat_eq pv q ≡ b → (b ≡ false) × (flight_of p q ≡ None)) [
      | true ↦ λ t. absurd (found_pushed (λ (f : Flush). nat_eq f.pv q) p.flushes (record { tag = tag; pv = pv; after = p.held }) t
          (sym (flight_found (after_submitted p pv tag) q) ∙ none))
      | false ↦ λ t. (refl, sym (flight_other p pv tag q t) ∙ none)
    ] refl

pub none_is : {X : Type 0} (o : Option X) → is_none o ≡ true → o ≡ None
none_is None is = refl
none_is (Some x) is = absurd (true≢false (sym is))

-- ---- what a flush asks

-- what waits on a disk is owed its flushes
pub owed_unserved : (c : Core) (pv : ℕ) → IsSpare c → pv < length c.waits.disks → length (disk_waits c.waits pv).next ≤ c.owed.ops
owed_unserved c pv spare within =
    let owed : c.owed.ops ≡ (room_of c).ops = ap (λ (r : Room). r.ops) spare.owed in
    let most : length (disk_waits c.waits pv).next ≤ sum_by (λ (d : DiskWaits). length d.next) c.waits.disks =
    get_or-le-sum_by (λ (d : DiskWaits). length d.next) c.waits.disks pv none_waits within in
    omega (arith, owed, most)

-- a new tag is no flush's
pub fresh_flush : (s : State) (c : Core) (tag : ℕ) → IsLawful s → AreKnown s c → AreOwned c.pieces.lives c.pieces.owners → s.next_tag ≤ tag
    → is_in_flight c.waits.plan tag ≡ false
fresh_flush s c tag lawful known owned fresh =
    none_any (λ (f : Flush). nat_eq f.tag tag) c.waits.plan.flushes
    (unknown s c tag known owned (fresh_unknown s tag lawful fresh)).1

-- ---- what it leaves

module _ (c : Core) (pv tag : ℕ) (within : pv < length c.waits.disks) where
  abbrev flushed : DiskWaits
  flushed = record { served = (disk_waits c.waits pv).next; next = [] }

  other_waits : (q : ℕ) → nat_eq pv q ≡ false → disk_waits (after_flush c pv tag).waits q ≡ disk_waits c.waits q
  other_waits q apart = get_or-set_other c.waits.disks pv q flushed none_waits (λ e. eqb-false pv q apart (sym e))

  pub flush_settled : IsSettled c → IsSettled (after_flush c pv tag)
  flush_settled s = record {
    calm = record {
      quiet = record {
        asked = asked_same no_one no_one c (after_flush c pv tag) refl (λ q apart is. is) (λ q not. not) s.calm.quiet.asked;
        unfinished = unfinished_same no_one no_one c (after_flush c pv tag) refl refl (λ q not. not) s.calm.quiet.unfinished;
      };
      others = s.calm.others;
    };
    ready = s.ready;
    released = λ q none. let is = flight_none c.waits.plan pv tag q none in
        ap (λ (d : DiskWaits). d.served) (other_waits q is.0) ∙ s.released q is.1;
  }

  -- none is wanted of the disk any more, and none of another of which none was
  pub unwanted_here : is_wanted (after_flush c pv tag).waits pv ≡ false
  unwanted_here =
      ap (λ (d : DiskWaits). not (nat_eq (length d.next) 0) && is_none (flight_of (after_flush c pv tag).waits.plan pv))
      (get_or-set_same c.waits.disks pv flushed none_waits within)

  pub unwanted_other : (q : ℕ) → nat_eq pv q ≡ false → is_wanted c.waits q ≡ false → is_wanted (after_flush c pv tag).waits q ≡ false
  unwanted_other q apart not_wanted =
      (λ i. not (nat_eq (length (other_waits q apart i).next) 0) && is_none (flight_other c.waits.plan pv tag q apart i)) ∙ not_wanted

-- ---- a disk's flush, where one is wanted

-- what `flush_wanted` leaves
pub record IsFlushed (pv : ℕ) (w v : World) : Type 0 where
  pub reaches : Reaches follows w v
  pub settled : IsSettled v.core
  pub here : is_wanted v.core.waits pv ≡ false
  pub opens : v.core.opens ≡ w.core.opens
  pub others : (other : ℕ) → nat_eq pv other ≡ false → is_wanted w.core.waits other ≡ false → is_wanted v.core.waits other ≡ false

-- a flush is wanted of a disk of which none is in flight, and all that the last one served has been released
pub wanted_released : (c : Core) (pv : ℕ) → IsSettled c → is_wanted c.waits pv ≡ true → (disk_waits c.waits pv).served ≡ []
wanted_released c pv s wanted =
    s.released pv
    (none_is (flight_of c.waits.plan pv) (and_parts (not (nat_eq (length (disk_waits c.waits pv).next) 0)) _ wanted).1)

pub flush_submitted : (w : World) (pv tag : ℕ) (now : State) (d : Core) → IsOrderly w → IsSettled w.core → is_wanted w.core.waits pv ≡ true
    → Submits w.shelf (FlushOp pv) tag now
    → IsLawful now
    → d ≡ after_flush w.core pv tag
    → IsFlushed pv w (world now d)
flush_submitted w pv tag now d o s wanted submits lawful is =
    let within : pv < length w.core.waits.disks = (wanted_within w.core.waits pv wanted).0 in
    subst (λ (x : Core). IsFlushed pv w (world now x)) (sym is)
    (record {
      reaches = reaches_act follows w (AsksFlush pv tag now) refl (submits, lawful, wanted, wanted_released w.core pv s wanted);
      settled = flush_settled w.core pv tag within s;
      here = unwanted_here w.core pv tag within;
      opens = refl;
      others = λ q apart not_wanted. unwanted_other w.core pv tag within q apart not_wanted;
    })

-- none is wanted of the disks so far, and then of the next one either
pub flushed_more : (pv : ℕ) (w v : World) → IsFlushed pv w v → ((q : ℕ) → q < pv → is_wanted w.core.waits q ≡ false)
    → (q : ℕ) → q < pv + 1
    → is_wanted v.core.waits q ≡ false
flushed_more pv w v f so_far q below =
    elim (nat_eq pv q) as (λ b. nat_eq pv q ≡ b → is_wanted v.core.waits q ≡ false) [
      | true ↦ λ t. subst (λ (n : ℕ). is_wanted v.core.waits n ≡ false) (eqb-true pv q t) f.here
      | false ↦ λ t. f.others q t (so_far q (let apart = eqb-false pv q t in omega (arith, below, apart)))
    ] refl
