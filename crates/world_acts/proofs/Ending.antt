-- A piece whose operation ends, and one that fails or has read.
use Rattle.std.proofs.Common.{◌≡◌, ◌<◌, ℕ, ◌+◌, ◌-◌, true, false, cond, nat_eq, List}
use Rattle.std.proofs.Common.{Option, None, Some, count_by, filter, is_some, not, sum_by, unwrap_or, refl, sym, ap, subst}
use Rattle.std.proofs.Common.{◌∙◌, arith}
use Rattle.std.specs.Option.{option_map_or}
use Rattle.std.proofs.lemmas.Bool.{eqb-true}
use Rattle.indexmap.specs.IndexMap.{swap_remove_entry}
use Rattle.sector_base.specs.declared.places.Piece.{Piece}
use Rattle.disk_model.specs.declared.ops.Done.{Done}
use Rattle.disk_model.specs.Calls.{Completes}
use Rattle.disk_model.specs.Record.{Operation}
use Rattle.disk_model.specs.State.{IsLawful, State}
use Rattle.piece_table.specs.declared.live.LivePiece.{LivePiece}
use Rattle.piece_table.specs.declared.live.Owner.{Owner}
use Rattle.piece_table.specs.declared.live.Stage.TheVariants.{Started}
use Rattle.piece_table.specs.Pieces.{flying_in, flying_of, live_at, owner_at}
use Rattle.piece_table.specs.Steps as pieces
use Rattle.piece_table.specs.Steps.{live_of, no_live, with_flying}
use Rattle.world_acts.specs.declared.state.Core.{Core}
use Rattle.world_acts.specs.Acts.{Allowed, Ends, World, after, piece_at}
use Rattle.world_acts.specs.Counts.{entries_of, ops_of, sectors_of, waits_of, writes_of}
use Rattle.world_acts.specs.Orderly.{AreOnDisks, IsLive, IsOrderly}
use Rattle.world_acts.specs.Owners.{expected, flush_at, in_flight_at, owned_work, piece_work}
use Rattle.world_acts.specs.Rooms.{one}
use Rattle.world_acts.specs.Volumes.{IsPlaced}
use Rattle.world_acts.proofs.Known.{known_gone, known_left, owner_flies}
use Rattle.world_acts.proofs.LinesKept.{lines_same}
use Rattle.world_acts.proofs.PiecesKept.{piece_replaced, with_piece}
use Rattle.world_acts.proofs.PiecesKept.{awaits_none, counts_changed, flying_started, piece_kept, pieces_changed, places_changed, staged}
use Rattle.world_acts.proofs.PiecesKept.{work_kept}
use Rattle.world_acts.proofs.RoomsKept.{spare_same}
use Rattle.world_acts.proofs.Tables.{Changes, at_number, counted_at, other_at, own_at, removed, some_of}

-- ---- an operation ends

-- one less is in flight of the piece, and of the owners that are its
one_less : (number q flying f f' n n' : ℕ) → 0 < flying → f' + cond (nat_eq number q) flying 0 ≡ f + cond (nat_eq number q) (flying - 1) 0
    → n' + cond (nat_eq number q) 1 0 ≡ n + 0
    → f ≡ n
    → f' ≡ n'
one_less number q flying f f' n n' some a b same =
    elim (nat_eq number q) as (λ x. f' + cond x flying 0 ≡ f + cond x (flying - 1) 0 → n' + cond x 1 0 ≡ n + 0 → f' ≡ n') [
      | true ↦ λ a b. omega (arith, a, b, same, some)
      | false ↦ λ a b. omega (arith, a, b, same)
    ] a b

pub ends_from : (w : World) (done : Done) (now : State) (owner : Owner) (line : ℕ) (piece : Piece) (flying : ℕ) (lost : Option ℕ)
    (ticket : Option (Unit {0}))
    → IsOrderly w
    → Completes w.shelf done now
    → IsLawful now
    → owner_at w.core.pieces.owners done.tag ≡ Some owner
    → live_at w.core.pieces.lives owner.piece ≡ Some (record { line = line; piece = piece; stage = Started flying lost; ticket = ticket })
    → IsOrderly (record {
      shelf = now;
      core = record w.core {
        pieces = record w.core.pieces {
          lives =
              with_piece w.core.pieces.lives owner.piece
              (record { line = line; piece = piece; stage = Started (flying - 1) lost; ticket = ticket });
          owners = swap_remove_entry (nat_eq done.tag) w.core.pieces.owners;
          spare_ops = (pieces.after_lands w.core.pieces done.tag owner.piece).spare_ops;
        };
      };
    })
ends_from w done now owner line piece flying lost ticket o completes lawful owns at =
    let c : Core = w.core in
    let s : State = w.shelf in
    let number : ℕ = owner.piece in
    let old : LivePiece = record { line = line; piece = piece; stage = Started flying lost; ticket = ticket } in
    let new : LivePiece = record { line = line; piece = piece; stage = Started (flying - 1) lost; ticket = ticket } in
    let d : Core = record c {
      pieces = record c.pieces {
        lives = with_piece c.pieces.lives number new;
        owners = swap_remove_entry (nat_eq done.tag) c.pieces.owners;
        spare_ops = (pieces.after_lands c.pieces done.tag number).spare_ops;
      };
    } in
    let t = o.tidy in
    let b = o.backed in
    let change : Changes number (Some old) (Some new) c.pieces.lives d.pieces.lives =
    piece_replaced c.pieces.lives number old new t.pieces.single at in
    let owners : Changes done.tag (Some owner) None c.pieces.owners d.pieces.owners =
    removed c.pieces.owners done.tag owner t.owners.single owns in
    let flies : 0 < flying_in c.pieces.lives number = owner_flies done.tag owner t.owners owns in
    let count : flying_in c.pieces.lives number ≡ flying =
    ap (λ (x : Option LivePiece). option_map_or (λ (l : LivePiece). flying_of l.stage) x 0) at in
    let is : IsLive c.lines.begun c.opens c.pieces.next (number, old) =
    at_number (IsLive c.lines.begun c.opens c.pieces.next) c.pieces.lives number old t.pieces.each at in
    let placed : IsPlaced c.volumes s.sizes piece =
    at_number (λ (e : ℕ × LivePiece). IsPlaced c.volumes s.sizes e.1.piece) c.pieces.lives number old b.places.placed at in
    let ops : sum_by (λ (e : ℕ × LivePiece). ops_of e.1) d.pieces.lives + (0 + one (is_some ticket))
    ≡ sum_by (λ (e : ℕ × LivePiece). ops_of e.1) c.pieces.lives + (0 + one (is_some ticket)) =
    change.summed (λ (e : ℕ × LivePiece). ops_of e.1) in
    let sectors : sum_by (λ (e : ℕ × LivePiece). sectors_of e.1) d.pieces.lives + 0
    ≡ sum_by (λ (e : ℕ × LivePiece). sectors_of e.1) c.pieces.lives + 0 =
    change.summed (λ (e : ℕ × LivePiece). sectors_of e.1) in
    let writes : sum_by (λ (e : ℕ × LivePiece). writes_of e.1) d.pieces.lives + one piece.write
    ≡ sum_by (λ (e : ℕ × LivePiece). writes_of e.1) c.pieces.lives + one piece.write =
    change.summed (λ (e : ℕ × LivePiece). writes_of e.1) in
    let waits : sum_by (λ (e : ℕ × LivePiece). waits_of e.1) d.pieces.lives + one (is_some ticket)
    ≡ sum_by (λ (e : ℕ × LivePiece). waits_of e.1) c.pieces.lives + one (is_some ticket) =
    change.summed (λ (e : ℕ × LivePiece). waits_of e.1) in
    let entries : sum_by (λ (e : ℕ × LivePiece). entries_of e.1) d.pieces.lives + 1
    ≡ sum_by (λ (e : ℕ × LivePiece). entries_of e.1) c.pieces.lives + 1 =
    change.summed (λ (e : ℕ × LivePiece). entries_of e.1) in
    record {
      tidy = record {
        lines = t.lines;
        pieces =
            pieces_changed change (λ e same. same)
            (staged old (Started (flying - 1) lost) ticket refl (awaits_none old (flying - 1) lost is.awaits) is) t.pieces;
        owners = record {
          single = owners.single;
          flying =
              λ q. one_less number q flying (flying_in c.pieces.lives q) (flying_in d.pieces.lives q)
              (count_by (λ (e : ℕ × Owner). nat_eq e.1.piece q) c.pieces.owners)
              (count_by (λ (e : ℕ × Owner). nat_eq e.1.piece q) d.pieces.owners)
              (omega (arith, flies, count)) (counted_at change (λ (l : LivePiece). flying_of l.stage) q)
              (owners.summed (λ (e : ℕ × Owner). cond (nat_eq e.1.piece q) 1 0)) (t.owners.flying q);
        };
        counts = counts_changed (λ test. 0) (λ test. 0) change (lines_same 0 c.opens) (λ test. refl) (λ q. refl) (λ q. refl) t.counts;
        room =
            spare_same c d t.room refl
            (record {
              ops = omega (arith, ops);
              sectors = omega (arith, sectors);
              writes = omega (arith, writes);
              waits = omega (arith, waits);
              entries = omega (arith, entries);
            })
            (record { writes = omega arith; waits = omega arith; entries = omega arith; owners = omega arith });
        flushes = t.flushes;
      };
      backed = record {
        lawful = lawful;
        known = record {
          owned =
              λ q. subst (λ (ops : List Operation). in_flight_at ops q ≡ expected d q) (sym completes.in_flight)
              (elim (nat_eq done.tag q) as (λ x. nat_eq done.tag q ≡ x
              → in_flight_at (filter (λ (o : Operation). not (nat_eq o.tag done.tag)) s.in_flight) q ≡ expected d q) [
                | true ↦ λ e.
                    subst (λ (k : ℕ). in_flight_at (filter (λ (o : Operation). not (nat_eq o.tag done.tag)) s.in_flight) k ≡ expected d k)
                    (eqb-true done.tag q e)
                    (known_gone s.in_flight done.tag
                    ∙ sym (λ i. owned_work d.pieces.lives (piece_work d) (b.known.apart done.tag (ap is_some owns) i) (own_at owners i)))
                | false ↦ λ e.
                    known_left s.in_flight done.tag q e ∙ b.known.owned q
                    ∙ sym (work_kept c.pieces.lives d.pieces.lives (piece_work c) (piece_work c) (flush_at c.waits.plan q)
                    (owner_at c.pieces.owners q) (piece_kept change (piece_work c) refl (owner_at c.pieces.owners q)))
                    ∙ ap (λ (x : Option Owner). owned_work d.pieces.lives (piece_work d) (flush_at c.waits.plan q) x)
                    (sym (other_at owners q e))
              ] refl);
          apart =
              λ q some. elim (nat_eq done.tag q) as (λ x. nat_eq done.tag q ≡ x → flush_at c.waits.plan q ≡ None) [
                | true ↦ λ e. subst (λ (k : ℕ). flush_at c.waits.plan k ≡ None) (eqb-true done.tag q e)
                    (b.known.apart done.tag (ap is_some owns))
                | false ↦ λ e. b.known.apart q (ap is_some (sym (other_at owners q e)) ∙ some)
              ] refl;
        };
        places =
            subst (λ (sizes : List ℕ). AreOnDisks sizes c.volumes d.pieces.lives c.waits.disks) (sym completes.sizes)
            (places_changed change placed refl b.places);
        spare_ops = omega (arith, b.spare_ops, completes.spare_ops);
        spare_sectors = omega (arith, b.spare_sectors, completes.spare_sectors);
        moments = omega (arith, b.moments, completes.steps);
      };
    }

pub after_end : (w : World) (done : Done) (now : State) → IsOrderly w → Allowed w (Ends done now) → IsOrderly (after w (Ends done now))
after_end w done now o allowed =
    let c : Core = w.core in
    let owns : (x : Owner) × (owner_at c.pieces.owners done.tag ≡ Some x) = some_of (owner_at c.pieces.owners done.tag) allowed.2 in
    let number : piece_at c done.tag ≡ owns.0.piece = ap (λ (x : Option Owner). option_map_or (λ (y : Owner). y.piece) x 0) owns.1 in
    let p = flying_started c.pieces.lives owns.0.piece (owner_flies done.tag owns.0 o.tidy.owners owns.1) in
    let old : LivePiece = record { line = p.2.line; piece = p.2.piece; stage = Started p.0 p.1; ticket = p.2.ticket } in
    let is : live_of c.pieces owns.0.piece ≡ old = ap (λ (x : Option LivePiece). unwrap_or x no_live) p.2.at in
    subst (λ (n : ℕ). IsOrderly (record { shelf = now; core = record c { pieces = pieces.after_lands c.pieces done.tag n } })) (sym number)
    (subst (λ (x : LivePiece). IsOrderly (record {
      shelf = now;
      core = record c {
        pieces = record c.pieces {
          lives = with_piece c.pieces.lives owns.0.piece (record x { stage = with_flying x.stage (λ n. n - 1) });
          owners = swap_remove_entry (nat_eq done.tag) c.pieces.owners;
          spare_ops = (pieces.after_lands c.pieces done.tag owns.0.piece).spare_ops;
        };
      };
    })) (sym is)
    (ends_from w done now owns.0 p.2.line p.2.piece p.0 p.1 p.2.ticket o allowed.0 allowed.1 owns.1 p.2.at))
