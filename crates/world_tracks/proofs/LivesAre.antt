-- What is in flight is of lines that were begun, aren't answered, and aren't settled there.
use Rattle.std.proofs.Common.{◌≡◌, ◌≤◌, ◌<◌, ℕ, ◌+◌, ◌-◌, Bool, true, false, ◌&&◌, ◌==◌, not, nat_le, nat_lt, List, [], Contains, Option}
use Rattle.std.proofs.Common.{Some, option_map, slice_get, slice_index_or, refl, sym, ap, subst, ◌∙◌, arith}
use Rattle.std.proofs.lemmas.Bool.{and_parts, eq-eqb, eqb-true}
use Rattle.std.proofs.lemmas.List.FromFn.{get_or-map-range_with_len}
use Rattle.std.proofs.lemmas.Option.{same_Some}
use Rattle.list_laws.proofs.Bools.{true_le, true_lt}
use Rattle.sector_base.specs.declared.places.Piece.{Piece}
use Rattle.lvm_script.specs.declared.line.Line.{Line}
use Rattle.data_lines.specs.DataLines.{covers_sector, in_range, value_for}
use Rattle.piece_table.specs.declared.live.LivePiece.{LivePiece}
use Rattle.piece_table.specs.declared.live.Owner.{Owner}
use Rattle.piece_table.specs.declared.live.Stage.TheVariants.{Started}
use Rattle.piece_table.specs.Pieces.{is_waiting_stage, live_at}
use Rattle.volume_history.specs.Chronicles.{ChronicleEntry, Origin, begun_in, piece_covers, settled_at}
use Rattle.world_acts.specs.declared.open_line.OpenLine.{OpenLine}
use Rattle.world_acts.specs.Acts.{World}
use Rattle.world_acts.specs.Counts.{is_taken}
use Rattle.world_acts.specs.OpenLines.{is_whole}
use Rattle.world_acts.specs.Orderly.{IsLive, IsOrderly}
use Rattle.world_acts.specs.Owners.{values_of}
use Rattle.world_acts.specs.Rooms.{one}
use Rattle.world_acts.proofs.Known.{owner_flies}
use Rattle.world_acts.proofs.LinesKept.{hit}
use Rattle.world_acts.proofs.PiecesKept.{flying_started}
use Rattle.world_acts.proofs.Tables.{at_number, removed}
use Rattle.world_history.specs.Told.{IsTold, LineTold, is_to_come, to_come}
use Rattle.world_history.proofs.EntryLists.{begun_at}
use Rattle.world_places.specs.Lives.{Live, Written, writes_now}
use Rattle.world_places.specs.Tracked.{AreLive, IsLiveOf}
use Rattle.world_tracks.specs.Lives.{live_of, scene_of}
use Rattle.world_tracks.proofs.Lives.{PieceFlies, who_writes}
use Rattle.world_tracks.proofs.LivesLess.{owner_of}
use Rattle.world_tracks.proofs.OpenLines.{IsWriteLine, open_unanswered, piece_counts, some_key, write_line}

-- ---- a piece with an operation in flight

-- it is started
pub record IsFlying (l : LivePiece) : Type 0 where
  pub submitted : is_waiting_stage l.stage ≡ false
  pub untaken : is_taken l.stage ≡ false

pub flies : (w : World) (tag : ℕ) (owner : Owner) (l : LivePiece) → IsOrderly w → Contains w.core.pieces.owners (tag, owner)
    → live_at w.core.pieces.lives owner.piece ≡ Some l
    → IsFlying l
flies w tag owner l o owned at =
    let p =
    flying_started w.core.pieces.lives owner.piece
    (owner_flies tag owner o.tidy.owners (owner_of w.core.pieces.owners tag owner o.tidy.owners.single owned)) in
    let live : LivePiece = record { line = p.2.line; piece = p.2.piece; stage = Started p.0 p.1; ticket = p.2.ticket } in
    subst IsFlying (same_Some live l (sym p.2.at ∙ at)) (record { submitted = refl; untaken = refl })

-- ---- its line

one_true : (b : Bool) → 1 ≤ one b → b ≡ true
one_true true some = refl
one_true false some = absurd (omega (arith, some))

one_most : (b : Bool) → one b ≤ 1
one_most true = omega arith
one_most false = omega arith

one_false : (b : Bool) → one b ≡ 0 → b ≡ false
one_false true none = absurd (omega (arith, none))
one_false false none = refl

-- what a line brings to a sector of a piece
value_is : (line : Line) (piece : Piece) (x : ℕ) → in_range piece.first piece.count x ≡ true
    → slice_index_or (values_of (Some line) piece) (x - piece.first) [] ≡ value_for line.command x
value_is line piece x within =
    let both = and_parts (nat_le piece.first x) (nat_lt x (piece.first + piece.count)) within in
    let low : piece.first ≤ x = true_le piece.first x both.0 in
    let high : x < piece.first + piece.count = true_lt x (piece.first + piece.count) both.1 in
    get_or-map-range_with_len (λ y. value_for line.command y) piece.first piece.count (x - piece.first) x [] (omega (arith, low, high))
    (omega (arith, low))

module _ {start : ℕ} {coming : ℕ → ℕ → ℕ} {w : World} {es : List ChronicleEntry} (o : IsOrderly w) (t : IsTold start coming w es) where
  module _ (number : ℕ) (live : LivePiece) (at : live_at w.core.pieces.lives number ≡ Some live) (untaken : is_taken live.stage ≡ false)
      (write : live.piece.write ≡ true) where
    abbrev n : ℕ
    n = live.line

    kept : IsLive w.core.lines.begun w.core.opens w.core.pieces.next (number, live)
    kept =
        at_number (IsLive w.core.lines.begun w.core.opens w.core.pieces.next) w.core.pieces.lives number live o.tidy.pieces.each at

    abbrev mine : OpenLine
    mine = kept.of_line.opened

    is : LineTold (coming n) w.core.pieces.lives w.core.waits.disks es n mine
    is = t.lines n mine kept.of_line.is_open

    abbrev line : Line
    line = is.0.0

    part : IsWriteLine line.command is.0.1 mine.work
    part = write_line line.command is.0.1 mine.work mine.failure live.piece write is.2.does kept.of_line.part

    -- it is to come at each of its sectors
    counts : (x : ℕ) → in_range live.piece.first live.piece.count x ≡ true → 1 ≤ to_come n x w.core.pieces.lives
    counts x within =
        let c = removed w.core.pieces.lives number live o.tidy.pieces.single at in
        let s = c.summed (λ (e : ℕ × LivePiece). hit (is_to_come n x e)) in
        let one : hit ((n == n) && in_range live.piece.first live.piece.count x) ≡ 1 = rw (eq-eqb n n refl, within) refl in
        omega (arith, s, piece_counts number n x live untaken, one)

    -- so its line has them, and they aren't settled
    covered : (x : ℕ) → in_range live.piece.first live.piece.count x ≡ true
        → (covers_sector line.command x ≡ true) × (settled_at es n mine.key x ≡ false)
    covered x within =
        let once : one (settled_at es n mine.key x) + (to_come n x w.core.pieces.lives + coming n x)
        ≡ one (not (is_whole mine.work) && covers_sector line.command x) =
        is.2.once x in
        let whole : one (not (is_whole mine.work) && covers_sector line.command x) ≡ one (covers_sector line.command x) =
        ap (λ (b : Bool). one (not b && covers_sector line.command x)) part.part in (
          one_true (covers_sector line.command x) (omega (arith, once, whole, counts x within)),
          one_false (settled_at es n mine.key x)
              (omega (arith, once, whole, counts x within, one_most (covers_sector line.command x))),
        )

    -- the line was begun on the piece's volume
    own : mine.key ≡ live.piece.volume
    own = sym kept.of_line.key

    begun : begun_in es n ≡ Some (line, Some live.piece.volume)
    begun =
        let key : is.0.1 ≡ Some live.piece.volume = some_key is.0.1 mine.key part.stands is.2.keyed ∙ ap Some own in
        is.1 ∙ (λ i. Some (line, key i))

    listed : slice_get w.core.lines.begun n ≡ Some line
    listed =
        ap (λ (l : List Line). slice_get l n) (sym t.begun) ∙ sym (begun_at start es n t.ordered)
        ∙ ap (λ (l : Option (Line × Option ℕ)). option_map (λ (y : Line × Option ℕ). y.0) l) is.1

    -- a write of it
    pub is_live : (tag key x : ℕ) → piece_covers live.piece key x ≡ true
        → IsLiveOf es (live_of w.core tag number live) key x
    is_live tag key x covers =
        let parts = and_parts (live.piece.volume == key) (in_range live.piece.first live.piece.count x) covers in
        let keyed : live.piece.volume ≡ key = eqb-true live.piece.volume key parts.0 in
        let both = covered x parts.1 in
        record {
          line = line;
          begun = begun ∙ ap (λ (k : ℕ). Some (line, Some k)) keyed;
          writing = part.writing;
          unanswered = open_unanswered o t n mine kept.of_line.is_open;
          covers = both.0;
          value =
              ap (λ (l : Option Line). slice_index_or (values_of l live.piece) (x - live.piece.first) []) listed
              ∙ value_is line live.piece x parts.1;
          unsettled = ap (λ (k : ℕ). settled_at es n k x) (sym keyed ∙ sym own) ∙ both.1;
        }

  -- a write in flight is of such a line
  pub live_is : (tag : ℕ) (owner : Owner) (live : LivePiece) (key x : ℕ) → Contains w.core.pieces.owners (tag, owner)
      → live_at w.core.pieces.lives owner.piece ≡ Some live
      → live.piece.write ≡ true
      → piece_covers live.piece key x ≡ true
      → IsLiveOf es (live_of w.core tag owner.piece live) key x
  live_is tag owner live key x owned at write covers =
      is_live owner.piece live at (flies w tag owner live o owned at).untaken write tag key x covers

  pub are_live : (origin : Origin) (notes : List Written) (key x : ℕ) → AreLive (scene_of origin w.core es notes) key x
  are_live origin notes key x l has writing =
      let k : PieceFlies w.core w.core.pieces.owners l = who_writes w.core w.core.pieces.owners l has in
      let both = and_parts k.live.piece.write (piece_covers k.live.piece key x)
      (subst (λ (m : Live). writes_now m key x ≡ true) k.l_is writing) in
      subst (λ (m : Live). IsLiveOf es m key x) (sym k.l_is) (live_is k.tag k.owner k.live key x k.owned k.at k.write both.1)
