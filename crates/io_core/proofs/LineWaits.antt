-- A line that waits for flushes.
use Rattle.std.proofs.Common.{◌≡◌, ◌≤◌, ◌<◌, ◌⊎◌, ℕ, ◌+◌, ◌*◌, ◌^◌, Bool, true, false, cond, nat_eq, List, [], ◌∷◌, ◌++◌, length, get_or}
use Rattle.std.proofs.Common.{Option, None, Some, IfSome, inl, inr, is_some, slice_get, unwrap_or, refl, sym, ap, subst, ◌∙◌, arith}
use Rattle.std.proofs.Common.{⊎_elim}
use Rattle.std.specs.Prelude.{Contains}
use Rattle.std.specs.Option.{option_map_or}
use Rattle.std.proofs.lemmas.Bool.{cases_lt, eqb-false, eqb-true, eq-eqb}
use Rattle.std.proofs.lemmas.List.{get_or-set_other, get_or-set_same, length-set}
use Rattle.std.proofs.lemmas.List.Elements.{Contains-append_left, Contains-append_right, Contains-push}
use Rattle.std.proofs.lemmas.Option.{none-some}
use Rattle.line_answers.specs.declared.answer.Answer.{Answer}
use Rattle.line_answers.specs.declared.answer.Answer.TheVariants.{PvFailed}
use Rattle.lvm_script.specs.declared.line.Line.{Line}
use Rattle.data_lines.specs.DataLines.{is_flush}
use Rattle.line_table.specs.Steps.{Lines}
use Rattle.flush_plan.specs.Plans.{flight_of, marks_of}
use Rattle.flush_plan.specs.declared.records.Flush.{Flush}
use Rattle.flush_waits.specs.declared.ticket.Waiter.TheVariants as waiter
use Rattle.flush_waits.specs.declared.ticket.Waiting.{Waiting}
use Rattle.flush_waits.specs.declared.waits.Awaited.{Awaited}
use Rattle.flush_waits.specs.declared.waits.Awaited.TheVariants.{Served, Unserved}
use Rattle.flush_waits.specs.Steps.{with_waiting}
use Rattle.flush_waits.specs.Waits.{DiskWaits, awaited, dirty_at, disk_waits, none_waits, serves}
use Rattle.world_acts.specs.declared.state.Core.{Core}
use Rattle.world_acts.specs.declared.open_line.OpenLine.{OpenLine}
use Rattle.world_acts.specs.declared.room.Room.{Room}
use Rattle.world_acts.specs.Acts.{Awaits, FlushMayFail, IsBorne, IsLost, IsNewest, LineFails, MayAwait, Prepares, Reaches, TellsDisk, World}
use Rattle.world_acts.specs.Acts.{after, carries_on}
use Rattle.world_acts.specs.Acts.{world}
use Rattle.world_acts.specs.OpenLines.{Opens, after_failure, is_pv_failed, is_whole, left_of, no_open, open_at, open_of, with_open}
use Rattle.world_acts.specs.Orderly.{AreReleased, IsOrderly}
use Rattle.world_acts.specs.Rooms.{more}
use Rattle.world_acts.specs.Steps.{after_awaits, after_line_fails}
use Rattle.world_acts.specs.Volumes.{lv_of}
use Rattle.world_acts.proofs.Awaiting.{WaitsMore, unended, waits_served, waits_unserved}
use Rattle.world_acts.proofs.Lasting.{begun_reaches, sizes_reach, volumes_reach}
use Rattle.world_acts.proofs.LinesKept.{hit, line_added, line_failed, open_is, open_within}
use Rattle.world_acts.proofs.Orderly.{orderly_reaches}
use Rattle.world_acts.proofs.Reaching.{prepared_carried, prepares_act, prepares_both, prepares_none}
use Rattle.world_acts.proofs.Tables.{some_of}
use Rattle.line_plans.specs.Plans.{AreForDisks, AreTickets, flushes_room}
use Rattle.io_core.specs.Beginning.{AwaitsOn}
use Rattle.io_core.specs.Rest.{IsCalm, SameLines, just, no_one}
use Rattle.io_core.proofs.Calm.{asked_same, others_failed, others_set, unfinished_but}
use Rattle.io_core.proofs.LineKinds.{same_added, same_both, same_failed, same_lines}
use Rattle.io_core.proofs.LiveLines.{failed_some}
use Rattle.io_core.proofs.RoomsBorne.{borne_less, borne_same, covers_last}
use Rattle.io_core.proofs.SameKinds.{KindKept, kept_kind}

-- ---- what stays of one that waits on a disk

-- all that waits on a disk
abbrev all_on : DiskWaits → List Waiting
all_on d = d.served ++ d.next

-- the same write is the last of its volume there, and as much lasts; it fails still if it did, and waits still
pub record StaysOn (line pv : ℕ) (c d : Core) : Type 0 where
  pub place : dirty_at d.waits (open_of d.opens line).key pv ≡ dirty_at c.waits (open_of c.opens line).key pv
  pub stable : (marks_of d.waits.plan pv).stable ≡ (marks_of c.waits.plan pv).stable
  pub fails : is_some (open_of c.opens line).failure ≡ true → is_some (open_of d.opens line).failure ≡ true
  pub waits : (it : Waiting) → Contains (all_on (disk_waits c.waits pv)) it → Contains (all_on (disk_waits d.waits pv)) it

awaits_still : (line pv : ℕ) (c d : Core) → StaysOn line pv c d → AwaitsOn c line pv → AwaitsOn d line pv
awaits_still line pv c d s (inl lasts) = inl (omega (arith, lasts, s.place, s.stable))
awaits_still line pv c d s (inr (inl fails)) = inr (inl (s.fails fails))
awaits_still line pv c d s (inr (inr waits)) =
    let it : Waiting = record { waiter = waiter.Line line; place = dirty_at c.waits (open_of c.opens line).key pv } in
    inr (inr (subst (λ (n : ℕ). Contains (all_on (disk_waits d.waits pv)) (record it { place = n })) (sym s.place) (s.waits it waits)))

-- ---- one disk

-- what a line leaves that waits on a disk, or has no need to
pub record WaitsOn (line pv : ℕ) (w v : World) : Type 0 where
  pub prepares : Prepares line [] None w v
  pub well : IfSome (open_of v.core.opens line).failure TellsDisk
  pub room : (r : Room) → IsBorne w (more w.core.owed (more (flushes_room 1) r)) → IsBorne v (more v.core.owed r)
  pub calm : IsCalm no_one (just line) w.core → IsCalm no_one (just line) v.core
  pub released : AreReleased w.core → AreReleased v.core
  pub opens : SameLines w.core.opens v.core.opens
  pub pieces : v.core.pieces ≡ w.core.pieces
  pub barrier : v.core.barrier ≡ w.core.barrier
  pub lines : v.core.lines ≡ w.core.lines
  pub left : left_of v.core.opens line ≤ left_of w.core.opens line + 1
  pub here : AwaitsOn v.core line pv
  pub others : (other : ℕ) → nat_eq pv other ≡ false → AwaitsOn w.core line other → AwaitsOn v.core line other

waits_none : (line pv : ℕ) (w : World) → IfSome (open_of w.core.opens line).failure TellsDisk
    → dirty_at w.core.waits (open_of w.core.opens line).key pv ≤ (marks_of w.core.waits.plan pv).stable
    → WaitsOn line pv w w
waits_none line pv w well lasts = record {
  prepares = prepares_none line w;
  well = well;
  room =
      λ r b. borne_less w (more w.core.owed (more (flushes_room 1) r)) (more w.core.owed r)
      (covers_last w.core.owed (flushes_room 1) r) b;
  calm = λ k. k;
  released = λ k. k;
  opens = same_lines w.core.opens;
  pieces = refl;
  barrier = refl;
  lines = refl;
  left = omega arith;
  here = inl lasts;
  others = λ q apart is. is;
}

-- the line at a place that another takes
with_is : (opens : Opens) (line : ℕ) (o p : OpenLine) → open_at opens line ≡ Some o → open_of (with_open opens line p) line ≡ p
with_is opens line o p at =
    ap (λ (x : Option OpenLine). unwrap_or x no_open) (get_or-set_same opens.list line (Some p) None (open_within opens line o at))

failed_well : (opens : Opens) (line : ℕ) (o : OpenLine) (pv : ℕ) → open_at opens line ≡ Some o
    → IfSome (open_of opens line).failure TellsDisk
    → IfSome (open_of (after_failure opens line (PvFailed pv)) line).failure TellsDisk
failed_well opens line o pv at well =
    let p : OpenLine = record (open_of opens line) { failure = Some (PvFailed pv) } in
    elim (is_pv_failed (open_of opens line).failure) as (λ b. IfSome
    (open_of (cond b opens (with_open opens line p)) line).failure TellsDisk) [
      | true ↦ well
      | false ↦ subst (λ (x : OpenLine). IfSome x.failure TellsDisk) (sym (with_is opens line o p at)) (pv, refl)
    ]

waits_failed : (line pv : ℕ) (w : World) → is_some (open_at w.core.opens line) ≡ true
    → IsLost w.core pv
    → FlushMayFail w.core line pv
    → WaitsOn line pv w (after w (LineFails line (PvFailed pv)))
waits_failed line pv w opened lost may =
    let c : Core = w.core in
    let d : Core = after_line_fails c line (PvFailed pv) in
    let found : (x : OpenLine) × (open_at c.opens line ≡ Some x) = some_of (open_at c.opens line) opened in
    record {
      prepares =
          prepares_act w line (LineFails line (PvFailed pv)) (eq-eqb line line refl) refl refl
          (opened, record { pv = pv; is = refl; lost = lost; may = inl may });
      well = failed_well c.opens line found.0 pv found.1 may.well;
      room = λ r b. borne_same w (after w (LineFails line (PvFailed pv))) (more c.owed (more (flushes_room 1) r)) (more c.owed r)
          (covers_last c.owed (flushes_room 1) r) refl refl refl refl b;
      calm = λ k. record {
        quiet = record {
          asked = asked_same no_one no_one c d refl (λ q apart is. is) (λ q not. not) k.quiet.asked;
          unfinished =
              unfinished_but (just line) c d line (eq-eqb line line refl) (others_failed c.opens line (PvFailed pv)) refl
              k.quiet.unfinished;
        };
        others = k.others;
      };
      released = λ k. k;
      opens = same_failed c.opens line found.0 (PvFailed pv) found.1;
      pieces = refl;
      barrier = refl;
      lines = refl;
      left = let e = (line_failed c.opens line found.0 (PvFailed pv) found.1).left line in omega (arith, e);
      here = inr (inl (failed_some c.opens line found.0 (PvFailed pv) found.1));
      others = λ q apart. awaits_still line q c d (record {
        place =
            ap (λ (n : ℕ). dirty_at c.waits n q)
            (kept_kind c.opens d.opens line (same_failed c.opens line found.0 (PvFailed pv) found.1) opened).key;
        stable = refl;
        fails = λ is. failed_some c.opens line found.0 (PvFailed pv) found.1;
        waits = λ it is. is;
      });
    }

hit_most : (b : Bool) → hit b ≤ 1
hit_most true = omega arith
hit_most false = omega arith

-- it waits, whether a flush serves it or none does yet
waits_among : (d : DiskWaits) (it : Waiting) (served : Bool) → Contains (all_on (with_waiting d it (cond served Served Unserved))) it
waits_among d it true = Contains-append_left (d.served ++ it ∷ []) d.next it (Contains-push d.served it)
waits_among d it false = Contains-append_right d.served (d.next ++ it ∷ []) it (Contains-push d.next it)

waits_on : (w : World) (line pv : ℕ) → IsOrderly w → (m : MayAwait w line pv) → IfSome (open_of w.core.opens line).failure TellsDisk
    → WaitsOn line pv w (after w (Awaits line pv))
waits_on w line pv o m well =
    let c : Core = w.core in
    let v : World = after w (Awaits line pv) in
    let place : ℕ = dirty_at c.waits (open_of c.opens line).key pv in
    let x : DiskWaits = disk_waits c.waits pv in
    let it : Waiting = record { waiter = waiter.Line line; place = place } in
    let a : Awaited = awaited c.waits pv place in
    let key : dirty_at c.waits m.opened.key pv ≡ place =
    ap (λ (y : OpenLine). dirty_at c.waits y.key pv) (sym (open_is c.opens line m.opened m.is_open)) in
    let behind : (marks_of c.waits.plan pv).ended < place = let far = m.behind in omega (arith, far, key) in
    let is : a ≡ cond (serves (flight_of c.waits.plan pv) place) Served Unserved =
    unended c.waits pv place o.tidy.flushes.reached behind in
    let k : WaitsMore x it a = subst (λ (y : Awaited). WaitsMore x it y) (sym is)
    (elim (serves (flight_of c.waits.plan pv) place) as (λ b. WaitsMore x it (cond b Served Unserved)) [
      | true ↦ waits_served x it
      | false ↦ waits_unserved x it
    ]) in
    let within : pv < length c.waits.disks = let disk = m.disk in omega (arith, disk, o.backed.places.many) in
    let now : OpenLine = record (open_of c.opens line) { left = (open_of c.opens line).left + 1 } in
    let now_is : open_of v.core.opens line ≡ now = with_is c.opens line m.opened now m.is_open in
    let same_place : (q : ℕ) → dirty_at v.core.waits (open_of v.core.opens line).key q ≡ dirty_at c.waits (open_of c.opens line).key q =
    (λ q. ap (λ (n : ℕ). get_or c.waits.dirty ((open_of v.core.opens line).key * n + q) 0)
    (length-set c.waits.disks pv (with_waiting x it a)) ∙ ap (λ (y : OpenLine). dirty_at c.waits y.key q) now_is) in
    let own : disk_waits v.core.waits pv ≡ with_waiting x it (cond (serves (flight_of c.waits.plan pv) place) Served Unserved) =
    get_or-set_same c.waits.disks pv (with_waiting x it a) none_waits within ∙ ap (with_waiting x it) is in
    record {
      prepares = prepares_act w line (Awaits line pv) (eq-eqb line line refl) refl refl m;
      well = subst (λ (x : OpenLine). IfSome x.failure TellsDisk) (sym now_is) well;
      room = λ r b. record {
        counted = record {
          ops = omega (arith, b.counted.ops, k.one);
          sectors = omega (arith, b.counted.sectors, k.no_sectors);
          writes = omega (arith, b.counted.writes, k.no_writes);
          waits = omega (arith, b.counted.waits, k.no_waits);
          entries = omega (arith, b.counted.entries, k.no_entries);
        };
        ops = omega (arith, b.ops, k.one);
        sectors = omega (arith, b.sectors, k.no_sectors);
        writes = omega (arith, b.writes, k.no_writes);
        waits = omega (arith, b.waits, k.no_waits);
        entries = omega (arith, b.entries, k.no_entries);
        owners = omega (arith, b.owners, k.one);
      };
      calm = λ z. record {
        quiet = record {
          asked = asked_same no_one no_one c v.core refl (λ q apart y. y) (λ q not. not) z.quiet.asked;
          unfinished =
              unfinished_but (just line) c v.core line (eq-eqb line line refl)
              (others_set c.opens line (Some (record (open_of c.opens line) { left = (open_of c.opens line).left + 1 }))) refl
              z.quiet.unfinished;
        };
        others = z.others;
      };
      released =
          λ released q none. elim (nat_eq pv q) as (λ b. nat_eq pv q ≡ b → (disk_waits v.core.waits q).served ≡ []) [
            | true ↦ λ t.
                let here : pv ≡ q = eqb-true pv q t in
                let flight : flight_of c.waits.plan pv ≡ None = subst (λ (n : ℕ). flight_of c.waits.plan n ≡ None) (sym here) none in
                let unserved : a ≡ Unserved =
                is ∙ ap (λ (f : Option Flush). cond (serves f place) Served Unserved) flight in
                subst (λ (n : ℕ). (disk_waits v.core.waits n).served ≡ []) here
                (ap (λ (d : DiskWaits). d.served) (get_or-set_same c.waits.disks pv (with_waiting x it a) none_waits within)
                ∙ ap (λ (y : Awaited). (with_waiting x it y).served) unserved ∙ released pv flight)
            | false ↦ λ t.
                ap (λ (d : DiskWaits). d.served)
                (get_or-set_other c.waits.disks pv q (with_waiting x it a) none_waits (λ e. eqb-false pv q t (sym e))) ∙ released q none
          ] refl;
      opens = same_added c.opens line m.opened m.is_open;
      pieces = refl;
      barrier = refl;
      lines = refl;
      left =
          let e = (line_added c.opens line m.opened m.is_open).left line in
          omega (arith, e, hit_most (nat_eq line line));
      here =
          inr (inr (subst (λ (n : ℕ). Contains (all_on (disk_waits v.core.waits pv)) (record it { place = n })) (sym (same_place pv))
          (subst (λ (d : DiskWaits). Contains (all_on d) it) (sym own)
          (waits_among x it (serves (flight_of c.waits.plan pv) place)))));
      others = λ q apart. awaits_still line q c v.core (record {
        place = same_place q;
        stable = refl;
        fails = λ fails. ap (λ (y : OpenLine). is_some y.failure) now_is ∙ fails;
        waits =
            λ other. subst (λ (d : DiskWaits). Contains (all_on d) other)
            (sym (get_or-set_other c.waits.disks pv q (with_waiting x it a) none_waits (λ e. eqb-false pv q apart (sym e))));
      });
    }

-- what `await_flush` asks
pub record MayAwaitFlush (w : World) (line pv : ℕ) : Type 0 where
  pub orderly : IsOrderly w
  pub opened : is_some (open_at w.core.opens line) ≡ true
  pub whole : is_whole (open_of w.core.opens line).work ≡ true
  pub flushes : option_map_or (λ (l : Line). is_flush l.command) (slice_get w.core.lines.begun line) false ≡ true
  pub well : IfSome (open_of w.core.opens line).failure TellsDisk
  pub stands : is_some (lv_of w.core.volumes (open_of w.core.opens line).key) ≡ true
  pub disk : pv < length w.core.waits.disks
  pub other : w.core.barrier ≡ None
  pub room : IsBorne w (more w.core.owed (flushes_room 1))
  pub few : left_of w.core.opens line + 1 < 2 ^ 64
  pub newest : IsNewest w.core line

-- the volume's last write on a disk has its place
pub last_within : (w : World) (line pv : ℕ) (o : OpenLine) → MayAwaitFlush w line pv → open_at w.core.opens line ≡ Some o
    → o.key * length w.core.waits.disks + pv < length w.core.waits.dirty
last_within w line pv o m at =
    let is : open_of w.core.opens line ≡ o = open_is w.core.opens line o at in
    let found : (lv : ℕ) × (lv_of w.core.volumes o.key ≡ Some lv) =
    some_of (lv_of w.core.volumes o.key) (subst (λ (x : OpenLine). is_some (lv_of w.core.volumes x.key) ≡ true) is m.stands) in
    let most = m.orderly.tidy.flushes.dirty o.key found.0 found.1 in
    omega (arith, most, m.disk)

-- what comes of it
pub awaits_so : (w : World) (line pv place : ℕ) (d : Core) → MayAwaitFlush w line pv
    → place ≡ dirty_at w.core.waits (open_of w.core.opens line).key pv
    → ((place ≤ (marks_of w.core.waits.plan pv).stable) × (d ≡ w.core))
    ⊎ ((((marks_of w.core.waits.plan pv).stable < place) × IsLost w.core pv × (d ≡ after_line_fails w.core line (PvFailed pv)))
    ⊎ (((marks_of w.core.waits.plan pv).ended < place) × (d ≡ after_awaits w.core line pv place)))
    → WaitsOn line pv w (world w.shelf d)
awaits_so w line pv place d m at (inl same) =
    let lasts : place ≤ (marks_of w.core.waits.plan pv).stable = same.0 in
    subst (λ (x : Core). WaitsOn line pv w (world w.shelf x)) (sym same.1) (waits_none line pv w m.well (omega (arith, lasts, at)))
awaits_so w line pv place d m at (inr (inl fails)) =
    let behind : (marks_of w.core.waits.plan pv).stable < place = fails.0 in
    subst (λ (x : Core). WaitsOn line pv w (world w.shelf x)) (sym fails.2)
    (waits_failed line pv w m.opened fails.1
    (record { flushes = m.flushes; well = m.well; newest = m.newest; disk = m.disk; unstable = omega (arith, behind, at) }))
awaits_so w line pv place d m at (inr (inr waits)) =
    let found : (x : OpenLine) × (open_at w.core.opens line ≡ Some x) = some_of (open_at w.core.opens line) m.opened in
    let is : open_of w.core.opens line ≡ found.0 = open_is w.core.opens line found.0 found.1 in
    let key : dirty_at w.core.waits found.0.key pv ≡ dirty_at w.core.waits (open_of w.core.opens line).key pv =
    ap (λ (x : OpenLine). dirty_at w.core.waits x.key pv) (sym is) in
    let behind : (marks_of w.core.waits.plan pv).ended < place = waits.0 in
    let may : MayAwait w line pv = record {
      opened = found.0;
      is_open = found.1;
      whole = ap (λ (x : OpenLine). is_whole x.work) (sym is) ∙ m.whole;
      flushes = m.flushes;
      well = subst (λ (x : OpenLine). IfSome x.failure TellsDisk) is m.well;
      disk = omega (arith, m.disk, m.orderly.backed.places.many);
      behind = omega (arith, behind, key, at);
      other = λ e. none-some line (sym m.other ∙ e);
      room = let some = m.room.waits in omega (arith, some);
      spare =
          borne_less w (more w.core.owed (flushes_room 1))
          (more w.core.owed (record { ops = 1; sectors = 0; writes = 0; waits = 0; entries = 0 }))
          (record { ops = omega arith; sectors = omega arith; writes = omega arith; waits = omega arith; entries = omega arith }) m.room;
    } in
    subst (λ (x : Core). WaitsOn line pv w (world w.shelf x)) (sym (waits.1 ∙ ap (λ (n : ℕ). after_awaits w.core line pv n) at))
    (waits_on w line pv m.orderly may m.well)

-- ---- all disks

-- what `await_flushes` asks
pub record MayAwaitFlushes (w : World) (line many : ℕ) : Type 0 where
  pub orderly : IsOrderly w
  pub opened : is_some (open_at w.core.opens line) ≡ true
  pub tickets : AreTickets w.core.volumes w.shelf.sizes (open_of w.core.opens line) (slice_get w.core.lines.begun line) many
  pub other : w.core.barrier ≡ None
  pub room : IsBorne w (more w.core.owed (flushes_room many))
  pub few : left_of w.core.opens line + many < 2 ^ 64
  pub newest : IsNewest w.core line

below_apart : (pv q : ℕ) → q < pv + 1 → (pv ≡ q → ⊥) → q < pv
below_apart pv q below apart =
    ⊎_elim (λ (lt : q < pv). lt) (λ (ge : pv ≤ q). absurd (apart (omega (arith, below, ge)))) (cases_lt q pv)

-- what it leaves
pub record HasWaited (line : ℕ) (w v : World) (waited many : ℕ) : Type 0 where
  pub prepares : Prepares line [] None w v
  pub none : many ≡ 0 → v.core ≡ w.core
  pub calm : IsCalm no_one (just line) w.core → IsCalm no_one (just line) v.core
  pub released : AreReleased w.core → AreReleased v.core
  pub opens : SameLines w.core.opens v.core.opens
  pub pieces : v.core.pieces ≡ w.core.pieces
  pub barrier : v.core.barrier ≡ None
  pub left : left_of v.core.opens line ≤ left_of w.core.opens line + waited
  pub awaits : (pv : ℕ) → pv < waited → AwaitsOn v.core line pv

-- the line has waited on so many of the disks, and waits on so many more
pub record Waited (line : ℕ) (w v : World) (pv rest many : ℕ) : Type 0 where
  pub count : pv + rest ≡ many
  pub well : (rest ≡ 0 → ⊥) → IfSome (open_of v.core.opens line).failure TellsDisk
  pub room : IsBorne v (more v.core.owed (flushes_room rest))
  pub lines : v.core.lines ≡ w.core.lines
  pub has : HasWaited line w v pv many

for_disks : (w : World) (line many : ℕ) → (many ≡ 0 → ⊥)
    → AreTickets w.core.volumes w.shelf.sizes (open_of w.core.opens line) (slice_get w.core.lines.begun line) many
    → AreForDisks w.core.volumes w.shelf.sizes (open_of w.core.opens line) (slice_get w.core.lines.begun line) many
for_disks w line many some (inl none) = absurd (some none.none)
for_disks w line many some (inr are) = are

pub waited_none : (line many : ℕ) (w : World) → MayAwaitFlushes w line many → Waited line w w 0 many many
waited_none line many w m = record {
  count = omega arith;
  well = λ some. subst (λ (x : Option Answer). IfSome x TellsDisk) (sym (for_disks w line many some m.tickets).well) tt;
  room = m.room;
  lines = refl;
  has = record {
    prepares = prepares_none line w;
    none = λ is. refl;
    calm = λ k. k;
    released = λ k. k;
    opens = same_lines w.core.opens;
    pieces = refl;
    barrier = m.other;
    left = omega arith;
    awaits = λ pv below. absurd (omega (arith, below));
  };
}

-- nothing was entered meanwhile
newest_same : (c d : Core) (line : ℕ) → d.lines ≡ c.lines → IsNewest c line → IsNewest d line
newest_same c d line same is =
    record { older = is.older; volume = is.volume; moment = is.moment; is = ap (λ (l : Lines). l.journal) same ∙ is.is }

-- the next one may be awaited
pub waited_next : (line : ℕ) (w v : World) (pv rest more_rest many : ℕ) → MayAwaitFlushes w line many → more_rest ≡ rest + 1
    → Waited line w v pv more_rest many
    → MayAwaitFlush v line pv
waited_next line w v pv rest more_rest many m next k =
    let goes : Reaches carries_on w v = prepared_carried line [] None w v k.has.prepares in
    let are = for_disks w line many (λ none. omega (arith, none, next, k.count)) m.tickets in
    let kind : KindKept (open_at w.core.opens line) (open_at v.core.opens line) =
    kept_kind w.core.opens v.core.opens line k.has.opens m.opened in
    let o : IsOrderly v = orderly_reaches goes m.orderly in
    let sizes : length v.shelf.sizes ≡ length w.shelf.sizes = ap (λ (l : List ℕ). length l) (sizes_reach carries_on w v goes) in
    record {
      orderly = o;
      opened = kind.opened;
      whole = ap is_whole kind.work ∙ are.whole;
      flushes =
          ap (λ (ls : List Line). option_map_or (λ (l : Line). is_flush l.command) (slice_get ls line) false) (begun_reaches w v goes)
          ∙ are.flushes;
      well = k.well (λ none. omega (arith, none, next));
      stands =
          (λ i. is_some (lv_of (volumes_reach carries_on w v goes i) (kind.key i))) ∙ are.stands;
      disk = omega (arith, next, k.count, are.many, sizes, o.backed.places.many);
      other = k.has.barrier;
      room =
          borne_less v (more v.core.owed (flushes_room more_rest)) (more v.core.owed (flushes_room 1))
          (record {
            ops = omega (arith, next);
            sectors = omega arith;
            writes = omega arith;
            waits = omega (arith, next);
            entries = omega arith;
          }) k.room;
      few = omega (arith, m.few, k.has.left, k.count, next);
      newest = newest_same w.core v.core line k.lines m.newest;
    }

-- and was
pub waited_more : (line : ℕ) (w v u : World) (pv rest more_rest many : ℕ) → more_rest ≡ rest + 1 → Waited line w v pv more_rest many
    → WaitsOn line pv v u
    → Waited line w u (pv + 1) rest many
waited_more line w v u pv rest more_rest many next k s = record {
  count = omega (arith, next, k.count);
  well = λ some. s.well;
  room =
      s.room (flushes_room rest)
      (borne_less v (more v.core.owed (flushes_room more_rest)) (more v.core.owed (more (flushes_room 1) (flushes_room rest)))
      (record {
        ops = omega (arith, next);
        sectors = omega arith;
        writes = omega arith;
        waits = omega (arith, next);
        entries = omega arith;
      }) k.room);
  lines = s.lines ∙ k.lines;
  has = record {
    prepares = prepares_both line [] [] [] None None w v u refl k.has.prepares s.prepares;
    none = λ is. absurd (omega (arith, is, next, k.count));
    calm = λ z. s.calm (k.has.calm z);
    released = λ z. s.released (k.has.released z);
    opens = same_both w.core.opens v.core.opens u.core.opens k.has.opens s.opens;
    pieces = s.pieces ∙ k.has.pieces;
    barrier = s.barrier ∙ k.has.barrier;
    left = omega (arith, s.left, k.has.left);
    awaits =
        λ q below. elim (nat_eq pv q) as (λ b. nat_eq pv q ≡ b → AwaitsOn u.core line q) [
          | true ↦ λ t. subst (λ (n : ℕ). AwaitsOn u.core line n) (eqb-true pv q t) s.here
          | false ↦ λ t.
              let apart : pv ≡ q → ⊥ = eqb-false pv q t in
              s.others q t (k.has.awaits q (below_apart pv q below apart))
        ] refl;
  };
}
