-- The write of a piece took place: the piece stays until its flush, or leaves.
use Rattle.std.proofs.Common.{◌≡◌, ◌≤◌, ◌<◌, ℕ, ◌+◌, ◌-◌, ◌*◌, Bool, true, false, cond, nat_eq, List, length, set, All}
use Rattle.std.proofs.Common.{Option, None, Some, is_some, position, slice_get, sum_by, unwrap_or, refl, sym, ap, subst, ◌∙◌, arith}
use Rattle.std.proofs.Common.{true≢false}
use Rattle.std.specs.Option.{option_and_then, option_map_or}
use Rattle.std.proofs.lemmas.Bool.{lt-leb}
use Rattle.std.proofs.lemmas.List.{get_or-set_same, length-set}
use Rattle.std.proofs.lemmas.Option.{get_or_from_slice_get, slice_get_within}
use Rattle.indexmap.specs.IndexMap.{swap_remove_entry}
use Rattle.sector_base.specs.declared.places.Piece.{Piece}
use Rattle.claim_table.specs.Steps as claims
use Rattle.flush_plan.specs.declared.records.Flush.{Flush}
use Rattle.flush_plan.specs.declared.records.Marks.{Marks}
use Rattle.flush_plan.specs.Plans.{IsWithin, Plan, flight_of, marks_of, no_marks}
use Rattle.flush_plan.specs.Steps as steps
use Rattle.flush_waits.specs.declared.ticket.Waiter.TheVariants as waiter
use Rattle.flush_waits.specs.declared.ticket.Waiting.{Waiting}
use Rattle.flush_waits.specs.declared.waits.Awaited.{Awaited}
use Rattle.flush_waits.specs.declared.waits.Awaited.TheVariants.{Served, Unserved}
use Rattle.flush_waits.specs.Steps as waits
use Rattle.flush_waits.specs.Steps.{with_waiting}
use Rattle.flush_waits.specs.Waits.{DiskWaits, Waits, awaited, disk_waits, serves}
use Rattle.line_table.specs.Steps as lines
use Rattle.piece_table.specs.declared.live.LivePiece.{LivePiece}
use Rattle.piece_table.specs.declared.live.Stage.TheVariants.{Started, Taken}
use Rattle.piece_table.specs.Pieces.{flying_of, live_at, owner_at}
use Rattle.piece_table.specs.Steps.{live_of, no_live}
use Rattle.world_acts.specs.declared.state.Core.{Core}
use Rattle.world_acts.specs.declared.room.Room.{Room}
use Rattle.world_acts.specs.declared.volumes.Volumes.{Volumes}
use Rattle.world_acts.specs.Acts.{Allowed, World, Writes, after}
use Rattle.world_acts.specs.Counts.{entries_of, ops_of, sectors_of, waits_of, writes_of}
use Rattle.world_acts.specs.OpenLines.{after_finished}
use Rattle.world_acts.specs.Orderly.{ArePlanned, IsLive, IsOrderly}
use Rattle.world_acts.specs.Owners.{flush_at, piece_work}
use Rattle.world_acts.specs.Rooms.{fewer, one}
use Rattle.world_acts.specs.Volumes.{IsPlaced}
use Rattle.world_acts.proofs.Awaiting.{WaitsMore, planned_disks, unended, waits_unserved}
use Rattle.world_acts.proofs.Begun.{last_pushed}
use Rattle.world_acts.proofs.Leaving.{finished_after, left_core, left_orderly, something_left}
use Rattle.world_acts.proofs.LinesKept.{hit, lines_same}
use Rattle.world_acts.proofs.PiecesKept.{piece_replaced, with_piece}
use Rattle.world_acts.proofs.PiecesKept.{counts_changed, owners_changed, piece_kept, pieces_changed, places_changed, staged, started_at}
use Rattle.world_acts.proofs.PiecesKept.{work_kept}
use Rattle.world_acts.proofs.PlanKept.{after_more, marks_reach, reached_wrote}
use Rattle.world_acts.proofs.RoomsKept.{spare_fewer}
use Rattle.world_acts.proofs.Tables.{Changes, at_number, changes_both, no_count, own_at, removed}
use Rattle.world_acts.proofs.WaitsKept.{one_disk, unserved}

-- ---- what is kept of the waits

-- the place of the write, and the waits with it
abbrev place_of_write : Waits → ℕ → ℕ → ℕ
place_of_write old number pv = (marks_of (steps.after_wrote old.plan number pv) pv).written

abbrev noted : Waits → ℕ → ℕ → ℕ → Waits
noted old number pv key = waits.after_noted (waits.after_wrote old number pv) key pv (place_of_write old number pv)

planned_noted : {volumes : Volumes} (old : Waits) (number pv key : ℕ) → ArePlanned volumes old
    → ArePlanned volumes (noted old number pv key)
planned_noted {volumes} old number pv key p = record {
  reached = reached_wrote old.plan number pv p.reached;
  after = after_more old.plan p.after;
  marks = p.marks ∙ sym (length-set old.plan.marks pv _);
  tags = p.tags;
  dirty =
      λ k lv at. subst (λ (n : ℕ). k * length old.disks + length old.disks ≤ n) (sym (length-set old.dirty (key * length old.disks + pv) _))
      (p.dirty k lv at);
}

-- no flush serves a write that has just completed
serves_none : (old : Plan) (pv place : ℕ) → All (λ (f : Flush). f.after ≤ old.held) old.flushes → old.held < place
    → serves (flight_of old pv) place ≡ false
serves_none old pv place each behind = by (position (λ (f : Flush). nat_eq f.pv pv) old.flushes)
  where
    at : (i : ℕ) (x : Option Flush) → slice_get old.flushes i ≡ x → serves x place ≡ false
    at i None is = refl
    at i (Some f) is =
        let after : f.after ≤ old.held =
        subst (λ (g : Flush). g.after ≤ old.held) (get_or_from_slice_get old.flushes i f f is)
        (each i f (slice_get_within old.flushes i f is)) in
        lt-leb place f.after (omega (arith, after, behind))

    by : (r : Option ℕ) → serves (option_and_then (slice_get old.flushes) r) place ≡ false
    by None = refl
    by (Some i) = at i (slice_get old.flushes i) refl

-- so it begins to wait for the next one
awaited_noted : {volumes : Volumes} (old : Waits) (number pv key : ℕ) → ArePlanned volumes old → pv < length old.disks
    → awaited (noted old number pv key) pv (place_of_write old number pv) ≡ Unserved
awaited_noted old number pv key p within =
    let new : Plan = steps.after_wrote old.plan number pv in
    let place : ℕ = place_of_write old number pv in
    let m : Marks = record (marks_of old.plan pv) { written = old.plan.held + 1 } in
    let same : marks_of new pv ≡ m = get_or-set_same old.plan.marks pv m no_marks (omega (arith, within, p.marks)) in
    let old_within : IsWithin old.plan.held (marks_of old.plan pv) = marks_reach old.plan p.reached pv in
    let ended : (marks_of new pv).ended ≡ (marks_of old.plan pv).ended = ap (λ (x : Marks). x.ended) same in
    let last : place ≡ old.plan.held + 1 = ap (λ (x : Marks). x.written) same in
    let most : (marks_of old.plan pv).ended ≤ old.plan.held = old_within.2 in
    unended (noted old number pv key) pv place (reached_wrote old.plan number pv p.reached) (omega (arith, ended, last, most))
    ∙ ap (λ (b : Bool). cond b Served Unserved)
    (serves_none old.plan pv place p.after (omega (arith, last)))

-- ---- the piece leaves

abbrev pub written_room : Room
written_room = record { ops = 0; sectors = 0; writes = 1; waits = 0; entries = 1 }

abbrev core_left : Core → ℕ → ℕ → ℕ → LivePiece → Core
core_left c number pv moment x =
    left_core c (lines.after_took c.lines x.line x.piece moment).journal (c.lines.spare_entries - 1) (after_finished c.opens x.line)
    (claims.after_leave c.pieces.claims number) (swap_remove_entry (nat_eq number) c.pieces.lives)
    (waits.after_forgot (noted c.waits number pv x.piece.volume) number pv) (fewer c.owed written_room)

leaves_from : (w : World) (number pv line : ℕ) (piece : Piece) (flying : ℕ) (lost : Option ℕ) → IsOrderly w → flying ≡ 0
    → piece.write ≡ true
    → live_at w.core.pieces.lives number ≡ Some (record { line = line; piece = piece; stage = Started flying lost; ticket = None })
    → IsOrderly (record w {
      core =
          core_left w.core number pv w.shelf.steps (record { line = line; piece = piece; stage = Started flying lost; ticket = None });
    })
leaves_from w number pv line piece flying lost o rests writes at =
    let c : Core = w.core in
    let old : LivePiece = record { line = line; piece = piece; stage = Started flying lost; ticket = None } in
    let t = o.tidy in
    let change = removed c.pieces.lives number old t.pieces.single at in
    let is : IsLive c.lines.begun c.opens c.pieces.next (number, old) =
    at_number (IsLive c.lines.begun c.opens c.pieces.next) c.pieces.lives number old t.pieces.each at in
    let f = is.of_line in
    let planned = planned_noted c.waits number pv piece.volume t.flushes in
    left_orderly {gone = λ test. 0} (claims.after_leave c.pieces.claims number) o
    (record {
      change = change;
      rests = rests;
      stay = finished_after line f.opened f.is_open (something_left change t.counts) (lines_same line c.opens);
      long = refl;
      counted = λ test. omega arith;
      nexts = refl;
      no_line = λ q. refl;
      its = λ q. sym (no_count (nat_eq number q));
      planned = record {
        reached = planned.reached;
        after = planned.after;
        marks = planned.marks;
        tags = planned.tags;
        dirty = planned.dirty;
      };
      flushes = λ q. refl;
      its_ops = refl;
      its_sectors = refl;
      its_writes = sym (ap one writes);
      its_waits = refl;
      its_entries = refl;
      writes = omega arith;
      room = omega arith;
      spare = omega arith;
      owes = refl;
      moments =
          (let last : lines.last_moment (lines.after_took c.lines line piece w.shelf.steps).journal ≡ w.shelf.steps =
          last_pushed c.lines.journal _ in omega (arith, last));
    })

-- ---- the piece stays

abbrev awaiting_room : Room
awaiting_room = record { ops = 0; sectors = 0; writes = 0; waits = 1; entries = 0 }

abbrev pub both_room : Room
both_room = record { ops = 0; sectors = 0; writes = 1; waits = 1; entries = 1 }

fewer_both : (r : Room) → fewer (fewer r written_room) awaiting_room ≡ fewer r both_room
fewer_both r =
    let ops : r.ops - 0 - 0 ≡ r.ops - 0 = omega arith in
    let sectors : r.sectors - 0 - 0 ≡ r.sectors - 0 = omega arith in
    let writes : r.writes - 1 - 0 ≡ r.writes - 1 = omega arith in
    let waits : r.waits - 0 - 1 ≡ r.waits - 1 = omega arith in
    let entries : r.entries - 1 - 0 ≡ r.entries - 1 = omega arith in
    λ i. record { ops = ops i; sectors = sectors i; writes = writes i; waits = waits i; entries = entries i }

-- with this table, and the piece among those that wait so
abbrev core_stays : Core → ℕ → ℕ → ℕ → LivePiece → List (ℕ × LivePiece) → Awaited → Core
core_stays c number pv moment x lives a = record c {
  lines = lines.after_took c.lines x.line x.piece moment;
  pieces = record c.pieces { lives = lives };
  waits = record (noted c.waits number pv x.piece.volume) {
    disks =
        set c.waits.disks pv
        (with_waiting (disk_waits c.waits pv) (record { waiter = waiter.Piece number; place = place_of_write c.waits number pv }) a);
    room = c.waits.room - 1;
  };
  owed = fewer (fewer c.owed written_room) awaiting_room;
}

stays_from : (w : World) (number pv line : ℕ) (piece : Piece) (flying : ℕ) (lost : Option ℕ) (ticket : Unit {0}) → IsOrderly w → flying ≡ 0
    → piece.write ≡ true
    → pv < length w.core.waits.disks
    → live_at w.core.pieces.lives number ≡ Some (record { line = line; piece = piece; stage = Started flying lost; ticket = Some ticket })
    → IsOrderly (record w {
      core =
          core_stays w.core number pv w.shelf.steps
          (record { line = line; piece = piece; stage = Started flying lost; ticket = Some ticket })
          (with_piece
          (with_piece w.core.pieces.lives number (record { line = line; piece = piece; stage = Started flying lost; ticket = None })) number
          (record { line = line; piece = piece; stage = Taken 1; ticket = None })) Unserved;
    })
stays_from w number pv line piece flying lost ticket o rests writes within at =
    let c : Core = w.core in
    let old : LivePiece = record { line = line; piece = piece; stage = Started flying lost; ticket = Some ticket } in
    let mid : LivePiece = record { line = line; piece = piece; stage = Started flying lost; ticket = None } in
    let new : LivePiece = record { line = line; piece = piece; stage = Taken 1; ticket = None } in
    let d : Core =
    core_stays c number pv w.shelf.steps old (with_piece (with_piece c.pieces.lives number mid) number new) Unserved in
    let it : Waiting = record { waiter = waiter.Piece number; place = place_of_write c.waits number pv } in
    let x : DiskWaits = disk_waits c.waits pv in
    let t = o.tidy in
    let b = o.backed in
    let first : Changes number (Some old) (Some mid) c.pieces.lives (with_piece c.pieces.lives number mid) =
    piece_replaced c.pieces.lives number old mid t.pieces.single at in
    let change : Changes number (Some old) (Some new) c.pieces.lives d.pieces.lives =
    changes_both first (piece_replaced (with_piece c.pieces.lives number mid) number mid new first.single (own_at first)) in
    let is : IsLive c.lines.begun c.opens c.pieces.next (number, old) =
    at_number (IsLive c.lines.begun c.opens c.pieces.next) c.pieces.lives number old t.pieces.each at in
    let placed : IsPlaced c.volumes w.shelf.sizes piece =
    at_number (λ (e : ℕ × LivePiece). IsPlaced c.volumes w.shelf.sizes e.1.piece) c.pieces.lives number old b.places.placed at in
    let disk = one_disk c.waits.disks pv (with_waiting x it Unserved) within in
    let k : WaitsMore x it Unserved = waits_unserved x it in
    let write : one piece.write ≡ 1 = ap one writes in
    let ops : sum_by (λ (e : ℕ × LivePiece). ops_of e.1) d.pieces.lives + 1
    ≡ sum_by (λ (e : ℕ × LivePiece). ops_of e.1) c.pieces.lives + 0 =
    change.summed (λ (e : ℕ × LivePiece). ops_of e.1) in
    let blocks : sum_by (λ (e : ℕ × LivePiece). sectors_of e.1) d.pieces.lives + 0
    ≡ sum_by (λ (e : ℕ × LivePiece). sectors_of e.1) c.pieces.lives + 0 =
    change.summed (λ (e : ℕ × LivePiece). sectors_of e.1) in
    let wrote : sum_by (λ (e : ℕ × LivePiece). writes_of e.1) d.pieces.lives + one piece.write
    ≡ sum_by (λ (e : ℕ × LivePiece). writes_of e.1) c.pieces.lives + 0 =
    change.summed (λ (e : ℕ × LivePiece). writes_of e.1) in
    let room : sum_by (λ (e : ℕ × LivePiece). waits_of e.1) d.pieces.lives + 1
    ≡ sum_by (λ (e : ℕ × LivePiece). waits_of e.1) c.pieces.lives + 0 =
    change.summed (λ (e : ℕ × LivePiece). waits_of e.1) in
    let entries : sum_by (λ (e : ℕ × LivePiece). entries_of e.1) d.pieces.lives + 1
    ≡ sum_by (λ (e : ℕ × LivePiece). entries_of e.1) c.pieces.lives + 0 =
    change.summed (λ (e : ℕ × LivePiece). entries_of e.1) in
    let nexts : unserved d.waits.disks + length x.next ≡ unserved c.waits.disks + length (with_waiting x it Unserved).next = disk.nexts in
    let longer : length (with_waiting x it Unserved).next ≡ length x.next + 1 = k.nexts in
    record {
      tidy = record {
        lines = t.lines;
        pieces =
            pieces_changed change (λ e same. same)
            (staged old (Taken 1) None refl
            (record { once = omega arith; spent = λ taken. refl; through = λ some. absurd (true≢false (sym some)) }) is)
            t.pieces;
        owners = owners_changed change rests refl t.owners;
        counts =
            counts_changed (λ test. 0) (λ test. hit (test it)) change (lines_same 0 c.opens)
            (λ test. omega (arith, disk.counted test, k.counted test)) (λ q. refl)
            (λ q. let none : ◌≡◌ {A = ℕ} (cond (nat_eq number q) 0 0) 0 = no_count (nat_eq number q) in omega (arith, none)) t.counts;
        room =
            spare_fewer c d both_room t.room (fewer_both c.owed)
            (record {
              ops = omega (arith, ops, nexts, longer);
              sectors = omega (arith, blocks);
              writes = omega (arith, wrote, write);
              waits = omega (arith, room);
              entries = omega (arith, entries);
            })
            (record { writes = omega arith; waits = omega arith; entries = omega arith; owners = omega arith });
        flushes = planned_disks d.waits.disks d.waits.room disk.long (planned_noted c.waits number pv piece.volume t.flushes);
      };
      backed = record {
        lawful = b.lawful;
        known = record {
          owned =
              λ tag. b.known.owned tag
              ∙ sym (work_kept c.pieces.lives d.pieces.lives (piece_work c) (piece_work c) (flush_at c.waits.plan tag)
              (owner_at c.pieces.owners tag) (piece_kept change (piece_work c) refl (owner_at c.pieces.owners tag)));
          apart = b.known.apart;
        };
        places = places_changed change placed disk.long b.places;
        spare_ops = omega (arith, b.spare_ops);
        spare_sectors = omega (arith, b.spare_sectors);
        moments = let last : lines.last_moment d.lines.journal ≡ w.shelf.steps = last_pushed c.lines.journal _ in omega (arith, last);
      };
    }

-- the piece as it stays after two changes of its entry
stays_as : (w : World) (number pv line : ℕ) (piece : Piece) (flying : ℕ) (lost : Option ℕ) (ticket : Unit {0}) → IsOrderly w → flying ≡ 0
    → piece.write ≡ true
    → pv < length w.core.waits.disks
    → live_at w.core.pieces.lives number ≡ Some (record { line = line; piece = piece; stage = Started flying lost; ticket = Some ticket })
    → IsOrderly (record w {
      core =
          core_stays w.core number pv w.shelf.steps
          (record { line = line; piece = piece; stage = Started flying lost; ticket = Some ticket })
          (with_piece
          (with_piece w.core.pieces.lives number (record { line = line; piece = piece; stage = Started flying lost; ticket = None })) number
          (record
          (unwrap_or
          (live_at (with_piece w.core.pieces.lives number
          (record { line = line; piece = piece; stage = Started flying lost; ticket = None })) number)
          no_live) { stage = Taken 1 }))
          (awaited (noted w.core.waits number pv piece.volume) pv (place_of_write w.core.waits number pv));
    })
stays_as w number pv line piece flying lost ticket o rests writes within at =
    let c : Core = w.core in
    let old : LivePiece = record { line = line; piece = piece; stage = Started flying lost; ticket = Some ticket } in
    let mid : LivePiece = record { line = line; piece = piece; stage = Started flying lost; ticket = None } in
    let first : Changes number (Some old) (Some mid) c.pieces.lives (with_piece c.pieces.lives number mid) =
    piece_replaced c.pieces.lives number old mid o.tidy.pieces.single at in
    let then : unwrap_or (live_at (with_piece c.pieces.lives number mid) number) no_live ≡ mid =
    ap (λ (x : Option LivePiece). unwrap_or x no_live) (own_at first) in
    let next : awaited (noted c.waits number pv piece.volume) pv (place_of_write c.waits number pv) ≡ Unserved =
    awaited_noted c.waits number pv piece.volume o.tidy.flushes within in
    subst (λ (y : LivePiece). IsOrderly (record w {
      core =
          core_stays c number pv w.shelf.steps old (with_piece (with_piece c.pieces.lives number mid) number (record y { stage = Taken 1 }))
          (awaited (noted c.waits number pv piece.volume) pv (place_of_write c.waits number pv));
    })) (sym then)
    (subst (λ (a : Awaited). IsOrderly (record w {
      core =
          core_stays c number pv w.shelf.steps old
          (with_piece (with_piece c.pieces.lives number mid) number (record mid { stage = Taken 1 })) a;
    })) (sym next) (stays_from w number pv line piece flying lost ticket o rests writes within at))

-- ---- both

pub after_write : (w : World) (number pv : ℕ) → IsOrderly w → Allowed w (Writes number pv) → IsOrderly (after w (Writes number pv))
after_write w number pv o allowed =
    let c : Core = w.core in
    let p = started_at c.pieces.lives number allowed.0 in
    let at = p.2.at in
    let rests : p.0 ≡ 0 = sym (ap (λ (x : Option LivePiece). option_map_or (λ (l : LivePiece). flying_of l.stage) x 0) at) ∙ allowed.1 in
    let old : LivePiece = record { line = p.2.line; piece = p.2.piece; stage = Started p.0 p.1; ticket = p.2.ticket } in
    let is : live_of c.pieces number ≡ old = ap (λ (x : Option LivePiece). unwrap_or x no_live) at in
    let writes : p.2.piece.write ≡ true = sym (ap (λ (x : LivePiece). x.piece.write) is) ∙ allowed.3 in
    let within : pv < length c.waits.disks = let disk = allowed.2 in omega (arith, disk, o.backed.places.many) in
    subst (λ (x : LivePiece). IsOrderly (record w {
      core =
          cond (is_some x.ticket)
          (core_stays c number pv w.shelf.steps x
          (with_piece (with_piece c.pieces.lives number (record x { ticket = None })) number
          (record (unwrap_or (live_at (with_piece c.pieces.lives number (record x { ticket = None })) number) no_live) { stage = Taken 1 }))
          (awaited (noted c.waits number pv x.piece.volume) pv (place_of_write c.waits number pv)))
          (core_left c number pv w.shelf.steps x);
    })) (sym is) (by p.2.line p.2.piece p.0 p.1 p.2.ticket rests writes within at)
  where
    by : (line : ℕ) (piece : Piece) (flying : ℕ) (lost : Option ℕ) (ticket : Option (Unit {0})) → flying ≡ 0 → piece.write ≡ true
        → pv < length w.core.waits.disks
        → live_at w.core.pieces.lives number ≡ Some (record { line = line; piece = piece; stage = Started flying lost; ticket = ticket })
        → IsOrderly (record w {
          core =
              cond (is_some ticket)
              (core_stays w.core number pv w.shelf.steps
              (record { line = line; piece = piece; stage = Started flying lost; ticket = ticket })
              (with_piece
              (with_piece w.core.pieces.lives number
              (record { line = line; piece = piece; stage = Started flying lost; ticket = None })) number
              (record
              (unwrap_or
              (live_at (with_piece w.core.pieces.lives number
              (record { line = line; piece = piece; stage = Started flying lost; ticket = None }))
              number) no_live) { stage = Taken 1 }))
              (awaited (noted w.core.waits number pv piece.volume) pv (place_of_write w.core.waits number pv)))
              (core_left w.core number pv w.shelf.steps
              (record { line = line; piece = piece; stage = Started flying lost; ticket = ticket }));
        })
    by line piece flying lost None rests writes within at = leaves_from w number pv line piece flying lost o rests writes at
    by line piece flying lost (Some ticket) rests writes within at =
        stays_as w number pv line piece flying lost ticket o rests writes within at
