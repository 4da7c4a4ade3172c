-- The first that the last flush of a disk served waits no more: a line, or a piece, which leaves.
use Rattle.std.proofs.Common.{◌≡◌, ◌≤◌, ◌<◌, ℕ, suc, ◌+◌, Bool, true, false, cond, nat_eq, nat_lt, List, [], ◌∷◌, length, drop, set}
use Rattle.std.proofs.Common.{Option, None, Some, count_by, is_some, slice_get, unwrap_or, refl, sym, ap, subst, ◌∙◌, arith, true≢false}
use Rattle.std.specs.Option.{option_map_or}
use Rattle.std.proofs.lemmas.Bool.{eq-eqb, ltb-false, ltb-true}
use Rattle.std.proofs.lemmas.List.{get_or_past}
use Rattle.std.proofs.lemmas.List.Elements.{All-weaker}
use Rattle.indexmap.specs.IndexMap.{swap_remove_entry}
use Rattle.claim_table.specs.Steps as claims
use Rattle.flush_waits.specs.declared.ticket.Waiter.{Waiter}
use Rattle.flush_waits.specs.declared.ticket.Waiter.TheVariants as waiter
use Rattle.flush_waits.specs.declared.ticket.Waiting.{Waiting}
use Rattle.flush_waits.specs.Steps as steps
use Rattle.flush_waits.specs.Waits.{DiskWaits, Waits, disk_waits, none_waits}
use Rattle.piece_table.specs.declared.live.LivePiece.{LivePiece}
use Rattle.piece_table.specs.declared.live.Stage.TheVariants.{Taken}
use Rattle.piece_table.specs.Steps.{live_of, no_live}
use Rattle.world_acts.specs.declared.state.Core.{Core}
use Rattle.world_acts.specs.declared.open_line.OpenLine.{OpenLine}
use Rattle.world_acts.specs.Acts.{Allowed, Releases, World, after, core_released}
use Rattle.world_acts.specs.Counts.{awaited_at, awaited_of, is_line, is_piece, waiting}
use Rattle.world_acts.specs.OpenLines.{Opens, after_finished, left_of, open_at}
use Rattle.world_acts.specs.Orderly.{IsLive, IsOrderly}
use Rattle.world_acts.specs.Rooms.{one}
use Rattle.world_acts.specs.Steps.{after_released}
use Rattle.world_acts.proofs.Awaiting.{planned_disks}
use Rattle.world_acts.proofs.Leaving.{finished_after, left_core, left_orderly, something_left}
use Rattle.world_acts.proofs.LinesKept.{LinesStay, hit, line_finished, lines_same, live_stays, never, never_more, open_stays}
use Rattle.world_acts.proofs.PiecesKept.{awaiting_taken}
use Rattle.world_acts.proofs.RoomsKept.{no_room, none_fewer, spare_same}
use Rattle.world_acts.proofs.Tables.{at_number, removed}
use Rattle.world_acts.proofs.WaitsKept.{count_first, one_disk, unserved}

-- what waits on the disks, without the first
abbrev pub without_first : Waits → ℕ → List DiskWaits
without_first waits pv = set waits.disks pv (record (disk_waits waits pv) { served = drop 1 (disk_waits waits pv).served })

-- what that is
pub record FirstGone (waits : Waits) (pv : ℕ) (it : Waiting) : Type 0 where
  pub long : length (without_first waits pv) ≡ length waits.disks
  pub counted : (test : Waiting → Bool) → waiting test (without_first waits pv) + hit (test it) ≡ waiting test waits.disks
  pub nexts : unserved (without_first waits pv) ≡ unserved waits.disks

pub first_gone : (waits : Waits) (pv : ℕ) (it : Waiting) (rest : List Waiting) → (disk_waits waits pv).served ≡ it ∷ rest
    → FirstGone waits pv it
first_gone waits pv it rest served =
    let x : DiskWaits = disk_waits waits pv in
    let y : DiskWaits = record x { served = drop 1 x.served } in
    let within : pv < length waits.disks =
    elim (nat_lt pv (length waits.disks)) as (λ b. nat_lt pv (length waits.disks) ≡ b → pv < length waits.disks) [
      | true ↦ λ t. ltb-true _ _ t
      | false ↦ λ t.
          let none : length x.served ≡ 0 =
          ap (λ (d : DiskWaits). length d.served) (get_or_past waits.disks pv none_waits (ltb-false _ _ t)) in
          let some : length x.served ≡ suc (length rest) = ap (λ (l : List Waiting). length l) served in
          absurd (omega (arith, none, some))
    ] refl in
    let one = one_disk waits.disks pv y within in
    record {
      long = one.long;
      counted =
          λ test. let was : count_by test x.served ≡ hit (test it) + count_by test rest =
          ap (λ (l : List Waiting). count_by test l) served ∙ count_first test it rest in
          let is : count_by test y.served ≡ count_by test rest = ap (λ (l : List Waiting). count_by test (drop 1 l)) served in
          omega (arith, one.counted test, was, is);
      nexts = omega (arith, one.nexts);
    }

-- a line of which something is left is open
pub open_by_left : (opens : Opens) (line : ℕ) → 0 < left_of opens line → (o : OpenLine) × (open_at opens line ≡ Some o)
open_by_left opens line some = by (open_at opens line) refl some
  where
    by : (x : Option OpenLine) → open_at opens line ≡ x → 0 < option_map_or (λ (o : OpenLine). o.left) x 0
        → (o : OpenLine) × (open_at opens line ≡ Some o)
    by None at some = absurd (omega (arith, some))
    by (Some o) at some = (o, at)

line_released : (w : World) (line pv : ℕ) (it : Waiting) → IsOrderly w → it.waiter ≡ waiter.Line line → FirstGone w.core.waits pv it
    → IsOrderly (record w { core = after_released w.core (waiter.Line line) pv })
line_released w line pv it o who gone =
    let c : Core = w.core in
    let d : Core = after_released c (waiter.Line line) pv in
    let t = o.tidy in
    let b = o.backed in
    let of_line : (q : ℕ) → is_line q it ≡ nat_eq line q = λ q. ap (λ (x : Waiter). is_line q (record it { waiter = x })) who in
    let of_piece : (q : ℕ) → is_piece q it ≡ false = λ q. ap (λ (x : Waiter). is_piece q (record it { waiter = x })) who in
    let its : (q : ℕ) → hit (is_line q it) ≡ hit (nat_eq line q) = λ q. ap hit (of_line q) in
    let hits : ◌≡◌ {A = ℕ} (hit (nat_eq line line)) 1 = ap hit (eq-eqb line line refl) in
    let some : 0 < left_of c.opens line = omega (arith, t.counts.left line, gone.counted (is_line line), its line, hits) in
    let found = open_by_left c.opens line some in
    let left : left_of c.opens line ≡ found.0.left = ap (λ (x : Option OpenLine). option_map_or (λ (y : OpenLine). y.left) x 0) found.1 in
    let stay : LinesStay line never hit c.opens d.opens = line_finished c.opens line found.0 found.1 (omega (arith, some, left)) in
    record {
      tidy = record {
        lines = open_stays stay (never_more line c.barrier) t.lines;
        pieces = record {
          single = t.pieces.single;
          each =
              All-weaker (IsLive c.lines.begun c.opens c.pieces.next) (IsLive c.lines.begun d.opens c.pieces.next)
              (λ e is. live_stays e stay is) c.pieces.lives t.pieces.each;
        };
        owners = t.owners;
        counts = record {
          left = λ q. omega (arith, stay.left q, gone.counted (is_line q), its q, t.counts.left q);
          awaited =
              λ q. let none : ◌≡◌ {A = ℕ} (hit (is_piece q it)) 0 = ap hit (of_piece q) in
              omega (arith, gone.counted (is_piece q), none, t.counts.awaited q);
        };
        room =
            spare_same c d t.room refl
            (record {
              ops = omega (arith, gone.nexts);
              sectors = omega arith;
              writes = omega arith;
              waits = omega arith;
              entries = omega (arith, stay.entries);
            })
            (record { writes = omega arith; waits = omega arith; entries = omega arith; owners = omega arith });
        flushes = planned_disks (without_first c.waits pv) c.waits.room gone.long t.flushes;
      };
      backed = record {
        lawful = b.lawful;
        known = record { owned = b.known.owned; apart = b.known.apart };
        places = record { laid = b.places.laid; placed = b.places.placed; many = gone.long ∙ b.places.many; few = b.places.few };
        spare_ops = b.spare_ops;
        spare_sectors = b.spare_sectors;
        moments = b.moments;
      };
    }

piece_released : (w : World) (number pv : ℕ) (it : Waiting) → IsOrderly w → it.waiter ≡ waiter.Piece number → FirstGone w.core.waits pv it
    → IsOrderly (record w { core = after_released w.core (waiter.Piece number) pv })
piece_released w number pv it o who gone =
    let c : Core = w.core in
    let t = o.tidy in
    let of_line : (q : ℕ) → is_line q it ≡ false = λ q. ap (λ (x : Waiter). is_line q (record it { waiter = x })) who in
    let of_piece : (q : ℕ) → is_piece q it ≡ nat_eq number q = λ q. ap (λ (x : Waiter). is_piece q (record it { waiter = x })) who in
    let hits : ◌≡◌ {A = ℕ} (hit (is_piece number it)) 1 = ap hit (of_piece number ∙ eq-eqb number number refl) in
    let some : 0 < awaited_at c.pieces.lives number = omega (arith, t.counts.awaited number, gone.counted (is_piece number), hits) in
    let p = awaiting_taken c.pieces.lives number some in
    let old : LivePiece = record { line = p.1.line; piece = p.1.piece; stage = Taken p.0; ticket = p.1.ticket } in
    let count : awaited_at c.pieces.lives number ≡ p.0 =
    ap (λ (x : Option LivePiece). option_map_or (λ (l : LivePiece). awaited_of l.stage) x 0) p.1.at in
    let is : IsLive c.lines.begun c.opens c.pieces.next (number, old) =
    at_number (IsLive c.lines.begun c.opens c.pieces.next) c.pieces.lives number old t.pieces.each p.1.at in
    let f = is.of_line in
    let most : p.0 ≤ 1 = is.awaits.once in
    let single : p.0 ≡ 1 = omega (arith, most, some, count) in
    let none : p.1.ticket ≡ None = is.awaits.spent refl in
    let empty : one (is_some p.1.ticket) ≡ 0 = ap (λ (x : Option (Unit {0})). one (is_some x)) none in
    let change = removed c.pieces.lives number old t.pieces.single p.1.at in
    let same : live_of c.pieces number ≡ old = ap (λ (x : Option LivePiece). unwrap_or x no_live) p.1.at in
    subst (λ (x : LivePiece). IsOrderly (record w {
      core =
          left_core c c.lines.journal c.lines.spare_entries (after_finished c.opens x.line) (claims.after_leave c.pieces.claims number)
          (swap_remove_entry (nat_eq number) c.pieces.lives) (steps.after_forgot (steps.after_release c.waits pv) number pv) c.owed;
    })) (sym same)
    (left_orderly {gone = λ test. hit (test it)} {g = no_room} (claims.after_leave c.pieces.claims number) o
    (record {
      change = change;
      rests = refl;
      stay = finished_after p.1.line f.opened f.is_open (something_left change t.counts) (lines_same p.1.line c.opens);
      long = gone.long;
      counted = gone.counted;
      nexts = gone.nexts;
      no_line = λ q. ap hit (of_line q);
      its = λ q. ap hit (of_piece q) ∙ ap (λ (n : ℕ). cond (nat_eq number q) n 0) (sym single);
      planned =
          (let released = planned_disks (without_first c.waits pv) c.waits.room gone.long t.flushes in
          record {
            reached = released.reached;
            after = released.after;
            marks = released.marks;
            tags = released.tags;
            dirty = released.dirty;
          });
      flushes = λ q. refl;
      its_ops = omega (arith, empty);
      its_sectors = refl;
      its_writes = refl;
      its_waits = sym empty;
      its_entries = refl;
      writes = omega arith;
      room = omega arith;
      spare = omega arith;
      owes = none_fewer c.owed;
      moments = o.backed.moments;
    }))

pub after_release : (w : World) (pv : ℕ) → IsOrderly w → Allowed w (Releases pv) → IsOrderly (after w (Releases pv))
after_release w pv o allowed = by (disk_waits w.core.waits pv).served refl
  where
    of : (it : Waiting) → FirstGone w.core.waits pv it → (x : Waiter) → it.waiter ≡ x
        → IsOrderly (record w { core = after_released w.core x pv })
    of it gone (waiter.Line line) who = line_released w line pv it o who gone
    of it gone (waiter.Piece number) who = piece_released w number pv it o who gone

    by : (l : List Waiting) → (disk_waits w.core.waits pv).served ≡ l → IsOrderly (after w (Releases pv))
    by [] served = absurd (true≢false (sym allowed.1 ∙ ap (λ (l : List Waiting). is_some (slice_get l 0)) served))
    by (it ∷ rest) served =
        subst (λ (x : Option Waiting). IsOrderly (record w { core = core_released w.core pv x }))
        (sym (ap (λ (l : List Waiting). slice_get l 0) served)) (of it (first_gone w.core.waits pv it rest served) it.waiter refl)
