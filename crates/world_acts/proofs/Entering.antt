-- A piece of a line that enters.
use Rattle.std.proofs.Common.{◌≡◌, ◌<◌, ℕ, ◌+◌, Bool, false, nat_eq, List, All, IfSome, Option, None}
use Rattle.std.proofs.Common.{Some, is_some, sum_by, refl, sym, ap, ◌∙◌, arith, true≢false}
use Rattle.std.specs.Option.{option_map_or}
use Rattle.std.proofs.lemmas.Bool.{ne_eqb}
use Rattle.std.proofs.lemmas.Option.{same_Some}
use Rattle.sector_base.specs.declared.places.Piece.{Piece}
use Rattle.claim_table.specs.declared.claim.Entry.{Entry}
use Rattle.piece_table.specs.declared.live.LivePiece.{LivePiece}
use Rattle.piece_table.specs.declared.live.Stage.TheVariants.{Waiting}
use Rattle.piece_table.specs.Pieces.{flying_of, live_at, owner_at}
use Rattle.lvm_script.specs.declared.line.Line.{Line}
use Rattle.world_acts.specs.declared.state.Core.{Core}
use Rattle.world_acts.specs.declared.open_line.OpenLine.{OpenLine}
use Rattle.world_acts.specs.declared.open_line.Work.{Work}
use Rattle.world_acts.specs.declared.open_line.Work.TheVariants.{Read, Whole, Write}
use Rattle.world_acts.specs.Acts.{Allowed, Enters, IsPartOf, World, after}
use Rattle.world_acts.specs.Counts.{entries_of, ops_of, sectors_of, waits_of, writes_of}
use Rattle.world_acts.specs.OpenLines.{IsBarrier, Opens, is_whole, open_at}
use Rattle.world_acts.specs.Orderly.{IsLive, IsOrderly}
use Rattle.world_acts.specs.Owners.{flush_at, piece_work}
use Rattle.world_acts.specs.Rooms.{one, piece_room}
use Rattle.world_acts.specs.Steps.{after_enters}
use Rattle.world_acts.proofs.Leaving.{others_kept}
use Rattle.world_acts.proofs.LinesKept.{LinesStay, hit, line_added, live_stays, never, open_stays}
use Rattle.world_acts.proofs.PiecesKept.{counts_changed, owners_changed, owns_none, pieces_changed, places_changed, work_kept}
use Rattle.world_acts.proofs.RoomsKept.{spare_more}
use Rattle.world_acts.proofs.Tables.{Changes, appended, at_number}

-- a line with pieces isn't one that takes place as a whole
part_not_whole : (work : Work) (piece : Piece) → IsPartOf work piece → is_whole work ≡ false
part_not_whole (Read start buffer) piece part = refl
part_not_whole Write piece part = refl
part_not_whole (Whole answer) piece part = absurd part

not_hit : (b : Bool) → b ≡ false → hit b ≡ 0
not_hit b is = ap hit is

barrier_other : (opens : Opens) (line : ℕ) (o : OpenLine) (barrier : Option ℕ) → open_at opens line ≡ Some o → is_whole o.work ≡ false
    → IfSome barrier (IsBarrier opens)
    → IfSome barrier (λ b. hit (nat_eq line b) ≡ 0)
barrier_other opens line o None at part is = tt
barrier_other opens line o (Some b) at part is =
    not_hit (nat_eq line b)
    (ne_eqb line b (λ e.
    let same : o ≡ is.opened = same_Some o is.opened (sym at ∙ ap (λ (n : ℕ). open_at opens n) e ∙ is.is_open) in
    true≢false (sym is.whole ∙ sym (ap (λ (x : OpenLine). is_whole x.work) same) ∙ part)))

pub barrier_apart : (line : ℕ) (barrier : Option ℕ) → (barrier ≡ Some line → ⊥) → IfSome barrier (λ b. hit (nat_eq line b) ≡ 0)
barrier_apart line None other = tt
barrier_apart line (Some b) other = not_hit (nat_eq line b) (ne_eqb line b (λ e. other (ap Some (sym e))))

grown : {begun : List Line} {opens : Opens} {next : ℕ} (e : ℕ × LivePiece) → IsLive begun opens next e → IsLive begun opens (next + 1) e
grown e is = record { below = omega (arith, is.below); of_line = is.of_line; sectors = is.sectors; awaits = is.awaits }

none_next : {begun : List Line} {opens : Opens} (next : ℕ) (lives : List (ℕ × LivePiece)) → All (IsLive begun opens next) lives
    → live_at lives next ≡ None
none_next {begun} {opens} next lives each = by (live_at lives next) refl
  where
    by : (o : Option LivePiece) → live_at lives next ≡ o → live_at lives next ≡ None
    by None at = at
    by (Some l) at =
        let is : IsLive begun opens next (next, l) = at_number (IsLive begun opens next) lives next l each at in
        let below : next < next = is.below in absurd (omega (arith, below))

pub after_enter : (w : World) (line : ℕ) (piece : Piece) (sectors : List (List ℕ)) (ticket : Option (Unit {0})) (entry : Entry)
    → IsOrderly w
    → Allowed w (Enters line piece sectors ticket entry)
    → IsOrderly (after w (Enters line piece sectors ticket entry))
after_enter w line piece sectors ticket entry o allowed =
    let c : Core = w.core in
    let m = allowed.0 in
    let next : ℕ = c.pieces.next in
    let l : LivePiece = record { line = line; piece = piece; stage = Waiting sectors; ticket = ticket } in
    let d : Core = after_enters c line piece sectors ticket entry in
    let t = o.tidy in
    let b = o.backed in
    let none : live_at c.pieces.lives next ≡ None = none_next next c.pieces.lives t.pieces.each in
    let change : Changes next None (Some l) c.pieces.lives d.pieces.lives = appended c.pieces.lives next l t.pieces.single none in
    let stay : LinesStay line hit never c.opens d.opens = line_added c.opens line m.opened m.is_open in
    let p = stay.lines line m.opened m.is_open in
    let ops : sum_by (λ (e : ℕ × LivePiece). ops_of e.1) d.pieces.lives + 0
    ≡ sum_by (λ (e : ℕ × LivePiece). ops_of e.1) c.pieces.lives + (1 + one (is_some ticket)) =
    change.summed (λ (e : ℕ × LivePiece). ops_of e.1) in
    let blocks : sum_by (λ (e : ℕ × LivePiece). sectors_of e.1) d.pieces.lives + 0
    ≡ sum_by (λ (e : ℕ × LivePiece). sectors_of e.1) c.pieces.lives + piece.count =
    change.summed (λ (e : ℕ × LivePiece). sectors_of e.1) in
    let writes : sum_by (λ (e : ℕ × LivePiece). writes_of e.1) d.pieces.lives + 0
    ≡ sum_by (λ (e : ℕ × LivePiece). writes_of e.1) c.pieces.lives + one piece.write =
    change.summed (λ (e : ℕ × LivePiece). writes_of e.1) in
    let waits : sum_by (λ (e : ℕ × LivePiece). waits_of e.1) d.pieces.lives + 0
    ≡ sum_by (λ (e : ℕ × LivePiece). waits_of e.1) c.pieces.lives + one (is_some ticket) =
    change.summed (λ (e : ℕ × LivePiece). waits_of e.1) in
    let entries : sum_by (λ (e : ℕ × LivePiece). entries_of e.1) d.pieces.lives + 0
    ≡ sum_by (λ (e : ℕ × LivePiece). entries_of e.1) c.pieces.lives + 1 =
    change.summed (λ (e : ℕ × LivePiece). entries_of e.1) in
    record {
      tidy = record {
        lines =
            open_stays stay
            (barrier_other c.opens line m.opened c.barrier m.is_open (part_not_whole m.opened.work piece m.part) t.lines.holds) t.lines;
        pieces =
            pieces_changed change (λ e is. grown e (live_stays e stay is))
            (record {
              below = omega arith;
              of_line = record { opened = p.0; is_open = p.1; key = m.key ∙ sym p.2.key; part = p.2.part piece m.part };
              sectors = record { many = λ is. m.many; brought = λ is write. m.brought write };
              awaits = record { once = omega arith; spent = λ is. absurd (true≢false (sym is)); through = m.through };
            }) t.pieces;
        owners = owners_changed change refl refl t.owners;
        counts =
            counts_changed (λ test. 0) (λ test. 0) change stay (λ test. refl) (λ q. omega arith) (λ q. refl) t.counts;
        room =
            spare_more c d (piece_room piece (is_some ticket)) t.room refl
            (record {
              ops = omega (arith, ops);
              sectors = omega (arith, blocks);
              writes = omega (arith, writes);
              waits = omega (arith, waits);
              entries = omega (arith, entries, stay.entries);
            })
            (record {
              counted = m.room.counted;
              writes = m.room.writes;
              waits = m.room.waits;
              entries = m.room.entries;
              owners = m.room.owners;
            });
        flushes = t.flushes;
      };
      backed = record {
        lawful = b.lawful;
        known = record {
          owned =
              λ q. b.known.owned q
              ∙ sym (work_kept c.pieces.lives d.pieces.lives (piece_work c) (piece_work c) (flush_at c.waits.plan q)
              (owner_at c.pieces.owners q)
              (others_kept change (piece_work c) (owner_at c.pieces.owners q)
              (owns_none next t.owners (ap (λ (x : Option LivePiece). option_map_or (λ (y : LivePiece). flying_of y.stage) x 0) none) q)));
          apart = b.known.apart;
        };
        places = places_changed change m.placed refl b.places;
        spare_ops = m.room.ops;
        spare_sectors = m.room.sectors;
        moments = b.moments;
      };
    }
