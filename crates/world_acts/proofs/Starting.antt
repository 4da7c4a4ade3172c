-- A piece that starts, and whose operation is submitted.
use Rattle.std.proofs.Common.{◌≡◌, ℕ, ◌+◌, ◌-◌, true, false, cond, nat_eq, List, [], ◌∷◌, ◌++◌, IfSome, Option, None, Some}
use Rattle.std.proofs.Common.{count_by, is_some, option_map, sum_by, unwrap_or, refl, sym, ap, subst, ◌∙◌, arith}
use Rattle.std.proofs.lemmas.Bool.{cond_both, eqb-true}
use Rattle.sector_base.specs.declared.places.At.{At}
use Rattle.sector_base.specs.declared.places.Piece.{Piece}
use Rattle.disk_model.specs.declared.ops.Op.{Op}
use Rattle.disk_model.specs.Calls.{Submits}
use Rattle.disk_model.specs.Operations.{sectors_of as op_sectors, work_of}
use Rattle.disk_model.specs.Record.{Operation}
use Rattle.disk_model.specs.State.{IsLawful, State}
use Rattle.disk_model.specs.Steps.{Reading, Work as DiskWork, Writing, sectors_of_work}
use Rattle.piece_table.specs.declared.live.LivePiece.{LivePiece}
use Rattle.piece_table.specs.declared.live.Owner.{Owner}
use Rattle.piece_table.specs.declared.live.Stage.TheVariants.{Started, Waiting}
use Rattle.piece_table.specs.Pieces.{flying_in, flying_of, live_at, owner_at}
use Rattle.piece_table.specs.Steps.{live_of, no_live, with_flying, with_live}
use Rattle.world_acts.specs.declared.state.Core.{Core}
use Rattle.world_acts.specs.declared.volumes.Volumes.{Volumes}
use Rattle.world_acts.specs.Acts.{Allowed, Asks, Starts, World, after}
use Rattle.world_acts.specs.Counts.{entries_of, ops_of, room_of, sectors_of, waits_of, writes_of}
use Rattle.world_acts.specs.Orderly.{AreKnown, AreOnDisks, IsLive, IsOrderly}
use Rattle.world_acts.specs.Owners.{expected, flush_at, in_flight_at, line_of, owned_work, piece_work, values_of}
use Rattle.world_acts.specs.Rooms.{fewer, one, start_room}
use Rattle.world_acts.specs.Volumes.{IsPlaced, place_of, span_at, span_of}
use Rattle.world_acts.proofs.Known.{fresh_unknown, known_last, known_more, unknown}
use Rattle.world_acts.proofs.LinesKept.{lines_same}
use Rattle.world_acts.proofs.PiecesKept.{piece_replaced, start_waits, with_piece}
use Rattle.world_acts.proofs.PiecesKept.{awaits_none, counts_changed, owners_changed, piece_kept, pieces_changed, places_changed, staged}
use Rattle.world_acts.proofs.PiecesKept.{waiting_at, work_kept}
use Rattle.world_acts.proofs.RoomsKept.{AddsUp, spare_fewer}
use Rattle.world_acts.proofs.Tables.{Changes, appended, at_number, changes_both, counted_at, no_count, other_at, own_at}

-- a change from waiting to started, whatever flies
module _ (c : Core) (number line : ℕ) (piece : Piece) (sectors : List (List ℕ)) (ticket : Option (Unit {0})) (flying : ℕ)
    (lives : List (ℕ × LivePiece))
    (change :
    Changes number (Some (record { line = line; piece = piece; stage = Waiting sectors; ticket = ticket }))
    (Some (record { line = line; piece = piece; stage = Started flying None; ticket = ticket })) c.pieces.lives lives) where
  -- what is owed
  started_room : (new : Core) → new.pieces.lives ≡ lives → new.waits.disks ≡ c.waits.disks → new.opens.list ≡ c.opens.list
      → AddsUp (room_of new) (start_room piece) (room_of c)
  started_room new same disks opens =
      let ops : sum_by (λ (e : ℕ × LivePiece). ops_of e.1) lives + (1 + one (is_some ticket))
      ≡ sum_by (λ (e : ℕ × LivePiece). ops_of e.1) c.pieces.lives + (0 + one (is_some ticket)) =
      change.summed (λ (e : ℕ × LivePiece). ops_of e.1) in
      let sectors : sum_by (λ (e : ℕ × LivePiece). sectors_of e.1) lives + piece.count
      ≡ sum_by (λ (e : ℕ × LivePiece). sectors_of e.1) c.pieces.lives + 0 =
      change.summed (λ (e : ℕ × LivePiece). sectors_of e.1) in
      let writes : sum_by (λ (e : ℕ × LivePiece). writes_of e.1) lives + one piece.write
      ≡ sum_by (λ (e : ℕ × LivePiece). writes_of e.1) c.pieces.lives + one piece.write =
      change.summed (λ (e : ℕ × LivePiece). writes_of e.1) in
      let waits : sum_by (λ (e : ℕ × LivePiece). waits_of e.1) lives + one (is_some ticket)
      ≡ sum_by (λ (e : ℕ × LivePiece). waits_of e.1) c.pieces.lives + one (is_some ticket) =
      change.summed (λ (e : ℕ × LivePiece). waits_of e.1) in
      let entries : sum_by (λ (e : ℕ × LivePiece). entries_of e.1) lives + 1
      ≡ sum_by (λ (e : ℕ × LivePiece). entries_of e.1) c.pieces.lives + 1 =
      change.summed (λ (e : ℕ × LivePiece). entries_of e.1) in
      rw (same, disks, opens)
      (record {
        ops = omega (arith, ops);
        sectors = omega (arith, sectors);
        writes = omega (arith, writes);
        waits = omega (arith, waits);
        entries = omega (arith, entries);
      })

pub starts_from : (w : World) (number line : ℕ) (piece : Piece) (sectors : List (List ℕ)) (ticket : Option (Unit {0})) → IsOrderly w
    → live_at w.core.pieces.lives number ≡ Some (record { line = line; piece = piece; stage = Waiting sectors; ticket = ticket })
    → IsOrderly (record w {
      core = record w.core {
        pieces = with_live w.core.pieces number (record { line = line; piece = piece; stage = Started 0 None; ticket = ticket });
        owed = fewer w.core.owed (start_room piece);
      };
    })
starts_from w number line piece sectors ticket o at =
    let c : Core = w.core in
    let old : LivePiece = record { line = line; piece = piece; stage = Waiting sectors; ticket = ticket } in
    let new : LivePiece = record { line = line; piece = piece; stage = Started 0 None; ticket = ticket } in
    let d : Core = record c { pieces = with_live c.pieces number new; owed = fewer c.owed (start_room piece) } in
    let t = o.tidy in
    let b = o.backed in
    let change : Changes number (Some old) (Some new) c.pieces.lives d.pieces.lives =
    piece_replaced c.pieces.lives number old new t.pieces.single at in
    let is : IsLive c.lines.begun c.opens c.pieces.next (number, old) =
    at_number (IsLive c.lines.begun c.opens c.pieces.next) c.pieces.lives number old t.pieces.each at in
    let placed : IsPlaced c.volumes w.shelf.sizes piece =
    at_number (λ (e : ℕ × LivePiece). IsPlaced c.volumes w.shelf.sizes e.1.piece) c.pieces.lives number old b.places.placed at in
    record {
      tidy = record {
        lines = t.lines;
        pieces = pieces_changed change (λ e same. same)
            (staged old (Started 0 None) ticket refl (awaits_none old 0 None is.awaits) is) t.pieces;
        owners = owners_changed change refl refl t.owners;
        counts = counts_changed (λ test. 0) (λ test. 0) change (lines_same 0 c.opens) (λ test. refl) (λ q. refl) (λ q. refl) t.counts;
        room =
            spare_fewer c d (start_room piece) t.room refl
            (started_room c number line piece sectors ticket 0 d.pieces.lives change d refl refl refl)
            (record { writes = omega arith; waits = omega arith; entries = omega arith; owners = omega arith });
        flushes = t.flushes;
      };
      backed = record {
        lawful = b.lawful;
        known = record {
          owned =
              λ tag. b.known.owned tag
              ∙ sym (work_kept c.pieces.lives d.pieces.lives (piece_work c) (piece_work c) (flush_at c.waits.plan tag)
              (owner_at c.pieces.owners tag) (piece_kept change (piece_work c) refl (owner_at c.pieces.owners tag)));
          apart = b.known.apart;
        };
        places = places_changed change placed refl b.places;
        spare_ops = omega (arith, b.spare_ops);
        spare_sectors = omega (arith, b.spare_sectors);
        moments = b.moments;
      };
    }

pub after_start : (w : World) (number : ℕ) → IsOrderly w → Allowed w (Starts number) → IsOrderly (after w (Starts number))
after_start w number o allowed =
    let p = waiting_at w.core.pieces.lives number (start_waits w.core.pieces number allowed) in
    let l : LivePiece = record { line = p.1.line; piece = p.1.piece; stage = Waiting p.0; ticket = p.1.ticket } in
    let is : live_of w.core.pieces number ≡ l = ap (λ (x : Option LivePiece). unwrap_or x no_live) p.1.at in
    subst (λ (x : LivePiece). IsOrderly (record w {
      core = record w.core {
        pieces = with_live w.core.pieces number (record x { stage = Started 0 None });
        owed = fewer w.core.owed (start_room x.piece);
      };
    })) (sym is) (starts_from w number p.1.line p.1.piece p.0 p.1.ticket o p.1.at)

-- so many sectors has the operation of a piece
span_count : (volumes : Volumes) (sizes : List ℕ) (piece : Piece) → IsPlaced volumes sizes piece
    → (span_of volumes piece).count ≡ piece.count
span_count volumes sizes piece placed =
    let to : At = record { pv = placed.0.pv; sector = placed.0.sector + 0 } in
    let at : place_of volumes piece.volume (piece.first + 0) ≡ Some to = placed.1.each 0 placed.1.some in
    let first : piece.first + 0 ≡ piece.first = omega arith in
    ap (λ (x : Option At). (span_at piece.count x).count) (subst (λ (n : ℕ). place_of volumes piece.volume n ≡ Some to) first at)

pub work_count : (c : Core) (sizes : List ℕ) (l : LivePiece) → IsPlaced c.volumes sizes l.piece
    → sectors_of_work (piece_work c l) ≡ l.piece.count
work_count c sizes l placed =
    cond_both l.piece.write (Writing (span_of c.volumes l.piece) (values_of (line_of c l) l.piece)) (Reading (span_of c.volumes l.piece))
    (λ (x : DiskWork). sectors_of_work x ≡ l.piece.count) (λ t. span_count c.volumes sizes l.piece placed)
    (λ t. span_count c.volumes sizes l.piece placed)

-- whose the operations in flight are, where one was submitted of a piece
known_asked : (s : State) (c d : Core) (number tag : ℕ) (op : Op) (now : State) (l : LivePiece) (owner : Owner) → AreKnown s c
    → Submits s op tag now
    → in_flight_at s.in_flight tag ≡ None
    → (owner_at c.pieces.owners tag ≡ None) × (flush_at c.waits.plan tag ≡ None)
    → Changes tag None (Some owner) c.pieces.owners d.pieces.owners
    → ((x : Option Owner) → IfSome x (λ o. option_map (piece_work d) (live_at d.pieces.lives o.piece)
    ≡ option_map (piece_work c) (live_at c.pieces.lives o.piece)))
    → ((q : ℕ) → flush_at d.waits.plan q ≡ flush_at c.waits.plan q)
    → option_map (piece_work d) (live_at d.pieces.lives owner.piece) ≡ Some (work_of op)
    → AreKnown now d
known_asked s c d number tag op now l owner known submits none free owners works flushes own = record {
  owned =
      λ q. subst (λ (ops : List Operation). in_flight_at ops q ≡ expected d q) (sym submits.in_flight)
      (elim (nat_eq tag q) as (λ b. nat_eq tag q ≡ b
      → in_flight_at (s.in_flight ++ record { tag = tag; work = work_of op } ∷ []) q ≡ expected d q) [
        | true ↦ λ t. subst (λ (k : ℕ). in_flight_at (s.in_flight ++ record { tag = tag; work = work_of op } ∷ []) k ≡ expected d k)
            (eqb-true tag q t)
            (known_last s.in_flight tag (work_of op) none
            ∙ sym (ap (λ (x : Option Owner). owned_work d.pieces.lives (piece_work d) (flush_at d.waits.plan tag) x) (own_at owners) ∙ own))
        | false ↦ λ t.
            known_more s.in_flight tag (work_of op) q t ∙ known.owned q
            ∙ sym (work_kept c.pieces.lives d.pieces.lives (piece_work c) (piece_work d) (flush_at c.waits.plan q)
            (owner_at c.pieces.owners q)
            (works (owner_at c.pieces.owners q)))
            ∙ (λ i. owned_work d.pieces.lives (piece_work d) (sym (flushes q) i) (sym (other_at owners q t) i))
      ] refl);
  apart =
      λ q is. flushes q
      ∙ elim (nat_eq tag q) as (λ b. nat_eq tag q ≡ b → flush_at c.waits.plan q ≡ None) [
        | true ↦ λ t. subst (λ (k : ℕ). flush_at c.waits.plan k ≡ None) (eqb-true tag q t) free.1
        | false ↦ λ t. known.apart q (ap is_some (sym (other_at owners q t)) ∙ is)
      ] refl;
}

pub asks_from : (w : World) (number line : ℕ) (piece : Piece) (sectors : List (List ℕ)) (ticket : Option (Unit {0})) (op : Op) (tag : ℕ)
    (now : State)
    → IsOrderly w
    → live_at w.core.pieces.lives number ≡ Some (record { line = line; piece = piece; stage = Waiting sectors; ticket = ticket })
    → Submits w.shelf op tag now
    → IsLawful now
    → work_of op ≡ piece_work w.core (record { line = line; piece = piece; stage = Waiting sectors; ticket = ticket })
    → IsOrderly (record {
      shelf = now;
      core = record w.core {
        pieces = record w.core.pieces {
          lives =
              with_piece
              (with_piece w.core.pieces.lives number
              (record { line = line; piece = piece; stage = Started 0 None; ticket = ticket })) number
              (record { line = line; piece = piece; stage = Started (0 + 1) None; ticket = ticket });
          owners = w.core.pieces.owners ++ (tag, record { piece = number; primary = true }) ∷ [];
          spare_ops = w.core.pieces.spare_ops - 1;
        };
        owed = fewer w.core.owed (start_room piece);
      };
    })
asks_from w number line piece sectors ticket op tag now o at submits lawful works =
    let c : Core = w.core in
    let s : State = w.shelf in
    let old : LivePiece = record { line = line; piece = piece; stage = Waiting sectors; ticket = ticket } in
    let mid : LivePiece = record { line = line; piece = piece; stage = Started 0 None; ticket = ticket } in
    let new : LivePiece = record { line = line; piece = piece; stage = Started (0 + 1) None; ticket = ticket } in
    let owner : Owner = record { piece = number; primary = true } in
    let d : Core = record c {
      pieces = record c.pieces {
        lives = with_piece (with_piece c.pieces.lives number mid) number new;
        owners = c.pieces.owners ++ (tag, owner) ∷ [];
        spare_ops = c.pieces.spare_ops - 1;
      };
      owed = fewer c.owed (start_room piece);
    } in
    let t = o.tidy in
    let b = o.backed in
    let first : Changes number (Some old) (Some mid) c.pieces.lives (with_piece c.pieces.lives number mid) =
    piece_replaced c.pieces.lives number old mid t.pieces.single at in
    let change : Changes number (Some old) (Some new) c.pieces.lives d.pieces.lives =
    changes_both first (piece_replaced (with_piece c.pieces.lives number mid) number mid new first.single (own_at first)) in
    let none : in_flight_at s.in_flight tag ≡ None = fresh_unknown s tag b.lawful submits.fresh in
    let free = unknown s c tag b.known t.owners none in
    let owners : Changes tag None (Some owner) c.pieces.owners d.pieces.owners =
    appended c.pieces.owners tag owner t.owners.single free.0 in
    let is : IsLive c.lines.begun c.opens c.pieces.next (number, old) =
    at_number (IsLive c.lines.begun c.opens c.pieces.next) c.pieces.lives number old t.pieces.each at in
    let placed : IsPlaced c.volumes s.sizes piece =
    at_number (λ (e : ℕ × LivePiece). IsPlaced c.volumes s.sizes e.1.piece) c.pieces.lives number old b.places.placed at in
    let count : op_sectors op ≡ piece.count = ap sectors_of_work works ∙ work_count c s.sizes old placed in
    record {
      tidy = record {
        lines = t.lines;
        pieces = pieces_changed change (λ e same. same)
            (staged old (Started (0 + 1) None) ticket refl (awaits_none old (0 + 1) None is.awaits) is) t.pieces;
        owners = record {
          single = owners.single;
          flying =
              λ q. let lives : flying_in d.pieces.lives q + cond (nat_eq number q) 0 0
              ≡ flying_in c.pieces.lives q + cond (nat_eq number q) 1 0 =
              counted_at change (λ (l : LivePiece). flying_of l.stage) q in
              let more : count_by (λ (e : ℕ × Owner). nat_eq e.1.piece q) d.pieces.owners + 0
              ≡ count_by (λ (e : ℕ × Owner). nat_eq e.1.piece q) c.pieces.owners + cond (nat_eq number q) 1 0 =
              owners.summed (λ (e : ℕ × Owner). cond (nat_eq e.1.piece q) 1 0) in
              omega (arith, lives, more, no_count (nat_eq number q), t.owners.flying q);
        };
        counts = counts_changed (λ test. 0) (λ test. 0) change (lines_same 0 c.opens) (λ test. refl) (λ q. refl) (λ q. refl) t.counts;
        room =
            spare_fewer c d (start_room piece) t.room refl
            (started_room c number line piece sectors ticket (0 + 1) d.pieces.lives change d refl refl refl)
            (record { writes = omega arith; waits = omega arith; entries = omega arith; owners = omega arith });
        flushes = t.flushes;
      };
      backed = record {
        lawful = lawful;
        known =
            known_asked s c d number tag op now new owner b.known submits none free owners (piece_kept change (piece_work c) refl)
            (λ q. refl)
            (ap (λ (x : Option LivePiece). option_map (piece_work c) x) (own_at change) ∙ ap Some (sym works));
        places =
            subst (λ (sizes : List ℕ). AreOnDisks sizes c.volumes d.pieces.lives c.waits.disks) (sym submits.sizes)
            (places_changed change placed refl b.places);
        spare_ops = omega (arith, b.spare_ops, submits.spare_ops);
        spare_sectors = omega (arith, b.spare_sectors, submits.spare_sectors, count);
        moments = omega (arith, b.moments, submits.steps);
      };
    }

pub after_ask : (w : World) (number : ℕ) (op : Op) (tag : ℕ) (now : State) → IsOrderly w → Allowed w (Asks number op tag now)
    → IsOrderly (after w (Asks number op tag now))
after_ask w number op tag now o allowed =
    let c : Core = w.core in
    let p = waiting_at c.pieces.lives number (start_waits c.pieces number allowed.2) in
    let old : LivePiece = record { line = p.1.line; piece = p.1.piece; stage = Waiting p.0; ticket = p.1.ticket } in
    let mid : LivePiece = record { line = p.1.line; piece = p.1.piece; stage = Started 0 None; ticket = p.1.ticket } in
    let is : live_of c.pieces number ≡ old = ap (λ (x : Option LivePiece). unwrap_or x no_live) p.1.at in
    let first : Changes number (Some old) (Some mid) c.pieces.lives (with_piece c.pieces.lives number mid) =
    piece_replaced c.pieces.lives number old mid o.tidy.pieces.single p.1.at in
    let then : unwrap_or (live_at (with_piece c.pieces.lives number mid) number) no_live ≡ mid =
    ap (λ (x : Option LivePiece). unwrap_or x no_live) (own_at first) in
    subst (λ (x : LivePiece). IsOrderly (record {
      shelf = now;
      core = record c {
        pieces = record c.pieces {
          lives =
              (let lives = with_piece c.pieces.lives number (record x { stage = Started 0 None }) in
              let y : LivePiece = unwrap_or (live_at lives number) no_live in
              with_piece lives number (record y { stage = with_flying y.stage (λ n. n + 1) }));
          owners = c.pieces.owners ++ (tag, record { piece = number; primary = true }) ∷ [];
          spare_ops = c.pieces.spare_ops - 1;
        };
        owed = fewer c.owed (start_room x.piece);
      };
    })) (sym is)
    (subst (λ (y : LivePiece). IsOrderly (record {
      shelf = now;
      core = record c {
        pieces = record c.pieces {
          lives = with_piece (with_piece c.pieces.lives number mid) number (record y { stage = with_flying y.stage (λ n. n + 1) });
          owners = c.pieces.owners ++ (tag, record { piece = number; primary = true }) ∷ [];
          spare_ops = c.pieces.spare_ops - 1;
        };
        owed = fewer c.owed (start_room p.1.piece);
      };
    })) (sym then)
    (asks_from w number p.1.line p.1.piece p.0 p.1.ticket op tag now o p.1.at allowed.0 allowed.1 (allowed.3 ∙ ap (piece_work c) is)))
