-- A flush that is submitted, and one that ends.
use Rattle.std.proofs.Common.{◌≡◌, ℕ, zero, suc, ◌+◌, ◌*◌, ◌≤◌, ◌<◌, Bool, true, false, cond, not, nat_eq, nat_lt, ◌||◌, List, []}
use Rattle.std.proofs.Common.{◌∷◌, ◌++◌, length, get_or, All, AllPairs, Option, None, Some, count_by, filter, find, is_none, is_some}
use Rattle.std.proofs.Common.{inl, inr, option_map, refl, sym, ap, subst, ◌∙◌, arith, true≢false}
use Rattle.std.specs.Prelude.{remove}
use Rattle.std.specs.List.{list_any, position_or_len}
use Rattle.std.proofs.lemmas.Bool.{and_parts, eqb-false, eqb-true, eq-eqb, ltb-false, ltb-true, ne_eqb, not-true}
use Rattle.std.proofs.lemmas.List.{append-nil, get_or_past, length-set}
use Rattle.std.proofs.lemmas.List.Edits.{get_or-remove_above, get_or-remove_below, length-remove}
use Rattle.std.proofs.lemmas.List.Elements.{All-cons, All-nil, All-push, recursion_from_All}
use Rattle.std.proofs.lemmas.Option.{none-some}
use Rattle.list_laws.proofs.Inserted.{first_pairs, later_pairs, pairs_inserted}
use Rattle.list_laws.proofs.Members.{In, in_list}
use Rattle.list_laws.proofs.Positions.{all_remove, any_within}
use Rattle.disk_model.specs.declared.ops.Done.{Done}
use Rattle.disk_model.specs.declared.ops.Op.TheVariants.{Flush as FlushOp}
use Rattle.disk_model.specs.Calls.{Completes, Submits}
use Rattle.disk_model.specs.Operations.{work_of}
use Rattle.disk_model.specs.Record.{Operation}
use Rattle.disk_model.specs.State.{IsLawful, State}
use Rattle.disk_model.specs.Steps.{Flushing, Work as DiskWork}
use Rattle.flush_plan.specs.declared.records.Flush.{Flush}
use Rattle.flush_plan.specs.Plans as plan
use Rattle.flush_plan.specs.Plans.{IsWithin, Plan, flight_of, is_in_flight}
use Rattle.flush_plan.specs.Steps as steps
use Rattle.flush_waits.specs.declared.ticket.Waiting.{Waiting}
use Rattle.flush_waits.specs.Waits.{DiskWaits, Waits, disk_waits, is_wanted, none_waits}
use Rattle.piece_table.specs.Pieces.{owner_at}
use Rattle.world_acts.specs.declared.state.Core.{Core}
use Rattle.world_acts.specs.Acts.{Allowed, AsksFlush, EndsFlush, World, after}
use Rattle.world_acts.specs.Counts.{is_line, is_piece}
use Rattle.world_acts.specs.Orderly.{AreKnown, AreOnDisks, IsOrderly}
use Rattle.world_acts.specs.Owners.{expected, flush_at, in_flight_at, owned_work, piece_work}
use Rattle.world_acts.specs.Steps.{after_flush}
use Rattle.world_acts.proofs.Known.{find_before, find_none, find_last, fresh_unknown, known_gone, known_last, known_left, known_more}
use Rattle.world_acts.proofs.Known.{unknown}
use Rattle.world_acts.proofs.PlanKept.{reached_flushed, reached_lost}
use Rattle.world_acts.proofs.RoomsKept.{spare_fewer, spare_same}
use Rattle.world_acts.proofs.WaitsKept.{one_disk, waiting_on}

-- ---- a flush is submitted

none_found : {X : Type 0} (test : X → Bool) (xs : List X) → find test xs ≡ None → All (λ (x : X). test x ≡ false) xs
none_found test [] none = All-nil (λ x. test x ≡ false)
none_found test (x ∷ xs) none =
    elim (test x) as (λ b. test x ≡ b → cond b (Some x) (find test xs) ≡ None → All (λ y. test y ≡ false) (x ∷ xs)) [
      | true ↦ λ t h. absurd (none-some x (sym h))
      | false ↦ λ t h. All-cons (λ y. test y ≡ false) x xs t (none_found test xs h)
    ] refl none

-- something waits on a disk that wants a flush
pub wanted_within : (waits : Waits) (pv : ℕ) → is_wanted waits pv ≡ true
    → (pv < length waits.disks) × (0 < length (disk_waits waits pv).next)
wanted_within waits pv wanted =
    let some : 0 < length (disk_waits waits pv).next =
    let parts = and_parts (not (nat_eq (length (disk_waits waits pv).next) 0)) (is_none (flight_of waits.plan pv)) wanted in
    let other : length (disk_waits waits pv).next ≡ 0 → ⊥ = eqb-false (length (disk_waits waits pv).next) 0 (not-true _ parts.0) in
    positive (length (disk_waits waits pv).next) other in (
      elim (nat_lt pv (length waits.disks)) as (λ b. nat_lt pv (length waits.disks) ≡ b → pv < length waits.disks) [
        | true ↦ λ t. ltb-true _ _ t
        | false ↦ λ t.
            let none : length (disk_waits waits pv).next ≡ 0 =
            ap (λ (d : DiskWaits). length d.next) (get_or_past waits.disks pv none_waits (ltb-false _ _ t)) in
            absurd (omega (arith, some, none))
      ] refl,
      some,
    )
  where
    positive : (n : ℕ) → (n ≡ 0 → ⊥) → 0 < n
    positive zero other = absurd (other refl)
    positive (suc n) other = omega arith

-- its tag is one that no flush in flight has
tags_pushed : (flushes : List Flush) (f : Flush) → All (λ (g : Flush). nat_eq g.tag f.tag ≡ false) flushes
    → AllPairs (λ (g h : Flush). nat_eq g.tag h.tag ≡ false) flushes
    → AllPairs (λ (g h : Flush). nat_eq g.tag h.tag ≡ false) (flushes ++ f ∷ [])
tags_pushed flushes f apart pairs =
    pairs_inserted (λ (g h : Flush). nat_eq g.tag h.tag ≡ false) flushes [] f
    (subst (λ (l : List Flush). AllPairs (λ (g h : Flush). nat_eq g.tag h.tag ≡ false) l) (sym (append-nil flushes)) pairs)
    (recursion_from_All (λ (g : Flush). nat_eq g.tag f.tag ≡ false) flushes apart) (All-nil (λ (h : Flush). nat_eq f.tag h.tag ≡ false))

pub after_ask_flush : (w : World) (pv tag : ℕ) (now : State) → IsOrderly w → Allowed w (AsksFlush pv tag now)
    → IsOrderly (after w (AsksFlush pv tag now))
after_ask_flush w pv tag now o allowed =
    let c : Core = w.core in
    let s : State = w.shelf in
    let d : Core = after_flush c pv tag in
    let submits : Submits s (FlushOp pv) tag now = allowed.0 in
    let f : Flush = record { tag = tag; pv = pv; after = c.waits.plan.held } in
    let t = o.tidy in
    let b = o.backed in
    let x : DiskWaits = disk_waits c.waits pv in
    let y : DiskWaits = record { served = x.next; next = [] } in
    let wanted = wanted_within c.waits pv allowed.2 in
    let one = one_disk c.waits.disks pv y wanted.0 in
    let same : (test : Waiting → Bool) → waiting_on test y ≡ waiting_on test x =
    λ test. let served : count_by test x.served ≡ 0 = ap (λ (l : List Waiting). count_by test l) allowed.3 in omega (arith, served) in
    let none : in_flight_at s.in_flight tag ≡ None = fresh_unknown s tag b.lawful submits.fresh in
    let free = unknown s c tag b.known t.owners none in
    let others : (q : ℕ) → nat_eq tag q ≡ false → flush_at d.waits.plan q ≡ flush_at c.waits.plan q =
    λ q apart. find_before (λ (g : Flush). nat_eq g.tag q) c.waits.plan.flushes f apart in
    record {
      tidy = record {
        lines = t.lines;
        pieces = t.pieces;
        owners = t.owners;
        counts = record {
          left = λ q. omega (arith, one.counted (is_line q), same (is_line q), t.counts.left q);
          awaited = λ q. omega (arith, one.counted (is_piece q), same (is_piece q), t.counts.awaited q);
        };
        room =
            spare_fewer c d (record { ops = length x.next; sectors = 0; writes = 0; waits = 0; entries = 0 }) t.room refl
            (record {
              ops = omega (arith, one.nexts);
              sectors = omega arith;
              writes = omega arith;
              waits = omega arith;
              entries = omega arith;
            })
            (record { writes = omega arith; waits = omega arith; entries = omega arith; owners = omega arith });
        flushes = record {
          reached = t.flushes.reached;
          after = All-push (λ (g : Flush). g.after ≤ c.waits.plan.held) c.waits.plan.flushes f t.flushes.after (omega arith);
          marks = one.long ∙ t.flushes.marks;
          tags = tags_pushed c.waits.plan.flushes f
              (none_found (λ (g : Flush). nat_eq g.tag tag) c.waits.plan.flushes free.1) t.flushes.tags;
          dirty = λ key lv at. subst (λ (n : ℕ). key * n + n ≤ length c.waits.dirty) (sym one.long) (t.flushes.dirty key lv at);
        };
      };
      backed = record {
        lawful = allowed.1;
        known = record {
          owned =
              λ q. subst (λ (ops : List Operation). in_flight_at ops q ≡ expected d q) (sym submits.in_flight)
              (elim (nat_eq tag q) as (λ z. nat_eq tag q ≡ z
              → in_flight_at (s.in_flight ++ record { tag = tag; work = Flushing pv } ∷ []) q ≡ expected d q) [
                | true ↦ λ e.
                    subst (λ (k : ℕ). in_flight_at (s.in_flight ++ record { tag = tag; work = Flushing pv } ∷ []) k ≡ expected d k)
                    (eqb-true tag q e)
                    (known_last s.in_flight tag (Flushing pv) none
                    ∙ sym (λ i. owned_work c.pieces.lives (piece_work d)
                    (find_last (λ (g : Flush). nat_eq g.tag tag) c.waits.plan.flushes f free.1 (eq-eqb tag tag refl) i) (free.0 i)))
                | false ↦ λ e.
                    known_more s.in_flight tag (Flushing pv) q e ∙ b.known.owned q
                    ∙ ap (λ (z : Option Flush). owned_work c.pieces.lives (piece_work c) z (owner_at c.pieces.owners q)) (sym (others q e))
              ] refl);
          apart =
              λ q is. elim (nat_eq tag q) as (λ z. nat_eq tag q ≡ z → flush_at d.waits.plan q ≡ None) [
                | true ↦ λ e.
                    absurd (true≢false (sym is
                    ∙ ap is_some (subst (λ (k : ℕ). owner_at c.pieces.owners k ≡ None) (eqb-true tag q e) free.0)))
                | false ↦ λ e. others q e ∙ b.known.apart q is
              ] refl;
        };
        places =
            subst (λ (sizes : List ℕ). AreOnDisks sizes c.volumes c.pieces.lives d.waits.disks) (sym submits.sizes)
            (record { laid = b.places.laid; placed = b.places.placed; many = one.long ∙ b.places.many; few = b.places.few });
        spare_ops = omega (arith, b.spare_ops, submits.spare_ops, wanted.1);
        spare_sectors = omega (arith, b.spare_sectors, submits.spare_sectors);
        moments = omega (arith, b.moments, submits.steps);
      };
    }

-- ---- a flush ends

-- what is found of a list without its first item that passes a test
find_removed : {X : Type 0} (test other : X → Bool) → ((x : X) → test x ≡ true → other x ≡ false) → (xs : List X)
    → find other (remove xs (position_or_len test xs)) ≡ find other xs
find_removed {X} test other apart [] = refl
find_removed {X} test other apart (x ∷ xs) =
    elim (test x) as (λ b. test x ≡ b → find other (remove (x ∷ xs) (cond (not b) (1 + position_or_len test xs) 0)) ≡ find other (x ∷ xs)) [
      | true ↦ λ t. sym (ap (λ (b : Bool). cond b (Some x) (find other xs)) (apart x t))
      | false ↦ λ t.
          let next : 1 + position_or_len test xs ≡ suc (position_or_len test xs) = omega arith in
          rw (next) (ap (λ (o : Option X). cond (other x) (Some x) o) (find_removed test other apart xs))
    ] refl

-- and its place is no item's that passes, where no other does
find_none_left : (tag : ℕ) (flushes : List Flush) → AllPairs (λ (g h : Flush). nat_eq g.tag h.tag ≡ false) flushes
    → find (λ (g : Flush). nat_eq g.tag tag) (remove flushes (position_or_len (λ (g : Flush). nat_eq g.tag tag) flushes)) ≡ None
find_none_left tag [] pairs = refl
find_none_left tag (f ∷ fs) pairs =
    let test : Flush → Bool = λ (g : Flush). nat_eq g.tag tag in
    elim (nat_eq f.tag tag) as
    (λ b. nat_eq f.tag tag ≡ b → find test (remove (f ∷ fs) (cond (not b) (1 + position_or_len test fs) 0)) ≡ None) [
      | true ↦ λ t.
          let same : f.tag ≡ tag = eqb-true f.tag tag t in
          find_none test fs
          (λ k d within. ne_eqb _ tag
          (λ e. eqb-false f.tag _ (first_pairs (λ (g h : Flush). nat_eq g.tag h.tag ≡ false) f fs pairs k d within)
          (same ∙ sym e)))
      | false ↦ λ t.
          let next : 1 + position_or_len test fs ≡ suc (position_or_len test fs) = omega arith in
          rw (next)
          (ap (λ (b : Bool). cond b (Some f) (find test (remove fs (position_or_len test fs)))) t
          ∙ find_none_left tag fs (later_pairs (λ (g h : Flush). nat_eq g.tag h.tag ≡ false) f fs pairs))
    ] refl

-- all pairs of what is left
pairs_removed : (R : Flush → Flush → Type 0) (xs : List Flush) (n : ℕ) → n < length xs → AllPairs R xs → AllPairs R (remove xs n)
pairs_removed R xs n lt pairs i j d before within =
    let many : length (remove xs n) + 1 ≡ length xs = length-remove xs n lt in
    elim (nat_lt i n) as (λ b. nat_lt i n ≡ b → R (get_or (remove xs n) i d) (get_or (remove xs n) j d)) [
      | true ↦ λ t.
          elim (nat_lt j n) as (λ b. nat_lt j n ≡ b → R (get_or (remove xs n) i d) (get_or (remove xs n) j d)) [
            | true ↦ λ u.
                rw (get_or-remove_below xs n d i (ltb-true i n t) lt, get_or-remove_below xs n d j (ltb-true j n u) lt)
                (pairs i j d before (omega (arith, many, within)))
            | false ↦ λ u.
                rw (get_or-remove_below xs n d i (ltb-true i n t) lt, get_or-remove_above xs n d j (ltb-false j n u) lt)
                (pairs i (j + 1) d (omega (arith, before)) (omega (arith, many, within)))
          ] refl
      | false ↦ λ t.
          rw (get_or-remove_above xs n d i (ltb-false i n t) lt, get_or-remove_above xs n d j (omega (arith, ltb-false i n t, before)) lt)
          (pairs (i + 1) (j + 1) d (omega (arith, before)) (omega (arith, many, within)))
    ] refl

-- what is in flight and no piece's is a flush
in_flight_some : (ops : List Operation) (tag : ℕ) (work : DiskWork) → In ops (record { tag = tag; work = work })
    → find (λ (o : Operation). nat_eq o.tag tag) ops ≡ None
    → ⊥
in_flight_some [] tag work is none = is
in_flight_some (o ∷ ops) tag work (inl is) none =
    none-some o (sym none ∙ ap (λ (b : Bool). cond b (Some o) (find (λ (o : Operation). nat_eq o.tag tag) ops))
    (eq-eqb o.tag tag (ap (λ (x : Operation). x.tag) is)))
in_flight_some (o ∷ ops) tag work (inr later) none =
    elim (nat_eq o.tag tag) as (λ b. cond b (Some o) (find (λ (o : Operation). nat_eq o.tag tag) ops) ≡ None → ⊥) [
      | true ↦ λ h. none-some o (sym h)
      | false ↦ λ h. in_flight_some ops tag work later h
    ] none

found_any : {X : Type 0} (test : X → Bool) (xs : List X) → (find test xs ≡ None → ⊥) → list_any test xs ≡ true
found_any test [] some = absurd (some refl)
found_any test (x ∷ xs) some =
    elim (test x) as (λ b. (cond b (Some x) (find test xs) ≡ None → ⊥) → (b || list_any test xs) ≡ true) [
      | true ↦ λ h. refl
      | false ↦ λ h. found_any test xs h
    ] some

pub flush_flies : (s : State) (c : Core) (done : Done) (now : State) → AreKnown s c → Completes s done now
    → owner_at c.pieces.owners done.tag ≡ None
    → is_in_flight c.waits.plan done.tag ≡ true
flush_flies s c done now known completes none =
    found_any (λ (f : Flush). nat_eq f.tag done.tag) c.waits.plan.flushes
    (λ missing. in_flight_some s.in_flight done.tag (work_of done.op) (in_list s.in_flight _ completes.was)
    (no_work (find (λ (o : Operation). nat_eq o.tag done.tag) s.in_flight)
    (known.owned done.tag ∙ (λ i. owned_work c.pieces.lives (piece_work c) (missing i) (none i)))))
  where
    no_work : (o : Option Operation) → option_map (λ (x : Operation). x.work) o ≡ None → o ≡ None
    no_work None none = refl
    no_work (Some x) none = absurd (none-some x.work (sym none))

-- with a plan without that flush
ended_with : (w : World) (done : Done) (now : State) (new : Plan) → IsOrderly w → Completes w.shelf done now → IsLawful now
    → owner_at w.core.pieces.owners done.tag ≡ None
    → All (IsWithin w.core.waits.plan.held) new.marks
    → length new.marks ≡ length w.core.waits.plan.marks
    → new.flushes ≡ remove w.core.waits.plan.flushes (plan.flush_at w.core.waits.plan done.tag)
    → new.spare ≡ w.core.waits.plan.spare
    → new.held ≡ w.core.waits.plan.held
    → IsOrderly (record { shelf = now; core = record w.core { waits = record w.core.waits { plan = new } } })
ended_with w done now new o completes lawful none reached marks left spare held =
    let c : Core = w.core in
    let s : State = w.shelf in
    let d : Core = record c { waits = record c.waits { plan = new } } in
    let old : List Flush = c.waits.plan.flushes in
    let t = o.tidy in
    let b = o.backed in
    let flies : is_in_flight c.waits.plan done.tag ≡ true = flush_flies s c done now b.known completes none in
    let at : plan.flush_at c.waits.plan done.tag < length old = any_within (λ (f : Flush). nat_eq f.tag done.tag) old flies in
    let others : (q : ℕ) → nat_eq done.tag q ≡ false → flush_at new q ≡ flush_at c.waits.plan q =
    λ q apart. ap (λ (l : List Flush). find (λ (f : Flush). nat_eq f.tag q) l) left
    ∙ find_removed (λ (f : Flush). nat_eq f.tag done.tag) (λ (f : Flush). nat_eq f.tag q)
    (λ f is. ne_eqb f.tag q (λ e. eqb-false done.tag q apart (sym (eqb-true f.tag done.tag is) ∙ e))) old in
    let gone : flush_at new done.tag ≡ None =
    ap (λ (l : List Flush). find (λ (f : Flush). nat_eq f.tag done.tag) l) left ∙ find_none_left done.tag old t.flushes.tags in
    record {
      tidy = record {
        lines = t.lines;
        pieces = t.pieces;
        owners = t.owners;
        counts = t.counts;
        room =
            spare_same c d t.room refl
            (record { ops = omega arith; sectors = omega arith; writes = omega arith; waits = omega arith; entries = omega arith })
            (record { writes = omega (arith, spare); waits = omega arith; entries = omega arith; owners = omega arith });
        flushes = record {
          reached = subst (λ (n : ℕ). All (IsWithin n) new.marks) (sym held) reached;
          after =
              subst (λ (n : ℕ). All (λ (f : Flush). f.after ≤ n) new.flushes) (sym held)
              (subst (λ (l : List Flush). All (λ (f : Flush). f.after ≤ c.waits.plan.held) l) (sym left)
              (all_remove (λ (f : Flush). f.after ≤ c.waits.plan.held) old (plan.flush_at c.waits.plan done.tag) at t.flushes.after));
          marks = t.flushes.marks ∙ sym marks;
          tags =
              subst (λ (l : List Flush). AllPairs (λ (f g : Flush). nat_eq f.tag g.tag ≡ false) l) (sym left)
              (pairs_removed (λ (f g : Flush). nat_eq f.tag g.tag ≡ false) old (plan.flush_at c.waits.plan done.tag) at t.flushes.tags);
          dirty = t.flushes.dirty;
        };
      };
      backed = record {
        lawful = lawful;
        known = record {
          owned =
              λ q. subst (λ (ops : List Operation). in_flight_at ops q ≡ expected d q) (sym completes.in_flight)
              (elim (nat_eq done.tag q) as (λ x. nat_eq done.tag q ≡ x
              → in_flight_at (filter (λ (o : Operation). not (nat_eq o.tag done.tag)) s.in_flight) q ≡ expected d q) [
                | true ↦ λ e.
                    subst (λ (k : ℕ). in_flight_at (filter (λ (o : Operation). not (nat_eq o.tag done.tag)) s.in_flight) k ≡ expected d k)
                    (eqb-true done.tag q e)
                    (known_gone s.in_flight done.tag ∙ sym (λ i. owned_work c.pieces.lives (piece_work d) (gone i) (none i)))
                | false ↦ λ e.
                    known_left s.in_flight done.tag q e ∙ b.known.owned q
                    ∙ ap (λ (x : Option Flush). owned_work c.pieces.lives (piece_work c) x (owner_at c.pieces.owners q)) (sym (others q e))
              ] refl);
          apart =
              λ q some. elim (nat_eq done.tag q) as (λ x. nat_eq done.tag q ≡ x → flush_at new q ≡ None) [
                | true ↦ λ e. subst (λ (k : ℕ). flush_at new k ≡ None) (eqb-true done.tag q e) gone
                | false ↦ λ e. others q e ∙ b.known.apart q some
              ] refl;
        };
        places =
            subst (λ (sizes : List ℕ). AreOnDisks sizes c.volumes c.pieces.lives c.waits.disks) (sym completes.sizes) b.places;
        spare_ops = omega (arith, b.spare_ops, completes.spare_ops);
        spare_sectors = omega (arith, b.spare_sectors, completes.spare_sectors);
        moments = omega (arith, b.moments, completes.steps);
      };
    }

pub after_end_flush : (w : World) (done : Done) (now : State) → IsOrderly w → Allowed w (EndsFlush done now)
    → IsOrderly (after w (EndsFlush done now))
after_end_flush w done now o allowed =
    let p : Plan = w.core.waits.plan in
    let flies : is_in_flight p done.tag ≡ true = flush_flies w.shelf w.core done now o.backed.known allowed.0 allowed.2 in
    elim done.well as (λ b. IsOrderly (record {
      shelf = now;
      core = record w.core { waits = record w.core.waits { plan = cond b (steps.after_flushed p done.tag) (steps.after_lost p done.tag) } };
    })) [
      | true ↦
          ended_with w done now (steps.after_flushed p done.tag) o allowed.0 allowed.1 allowed.2
          (reached_flushed p done.tag flies o.tidy.flushes.reached o.tidy.flushes.after) (length-set p.marks _ _) refl refl refl
      | false ↦
          ended_with w done now (steps.after_lost p done.tag) o allowed.0 allowed.1 allowed.2
          (reached_lost p done.tag flies o.tidy.flushes.reached o.tidy.flushes.after) (length-set p.marks _ _) refl refl refl
    ]
