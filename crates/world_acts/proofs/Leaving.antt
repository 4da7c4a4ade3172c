-- A piece that leaves: what is left of the core stays orderly.
use Rattle.std.proofs.Common.{◌≡◌, ◌≤◌, ◌<◌, ℕ, ◌+◌, ◌-◌, Bool, false, cond, nat_eq, List, length, IfSome, Option, None, Some}
use Rattle.std.proofs.Common.{option_map, sum_by, refl, sym, ap, ◌∙◌, arith}
use Rattle.std.specs.Option.{option_map_or}
use Rattle.std.proofs.lemmas.Bool.{eq-eqb}
use Rattle.disk_model.specs.Steps.{Work as DiskWork}
use Rattle.line_table.specs.declared.journal.JournalEntry.{JournalEntry}
use Rattle.line_table.specs.Steps.{last_moment}
use Rattle.claim_table.specs.Claims.{Claims}
use Rattle.flush_plan.specs.declared.records.Flush.{Flush}
use Rattle.flush_waits.specs.declared.ticket.Waiting.{Waiting}
use Rattle.flush_waits.specs.Waits.{DiskWaits, Waits}
use Rattle.piece_table.specs.declared.live.LivePiece.{LivePiece}
use Rattle.piece_table.specs.declared.live.Owner.{Owner}
use Rattle.piece_table.specs.Pieces.{flying_of, live_at, owner_at}
use Rattle.world_acts.specs.declared.state.Core.{Core}
use Rattle.world_acts.specs.declared.open_line.OpenLine.{OpenLine}
use Rattle.world_acts.specs.declared.room.Room.{Room}
use Rattle.world_acts.specs.Acts.{World}
use Rattle.world_acts.specs.Counts.{entries_of, is_line, is_piece, ops_of, pieces_of, sectors_of, waiting, waits_of, writes_of}
use Rattle.world_acts.specs.OpenLines.{Opens, after_finished, left_of, open_at}
use Rattle.world_acts.specs.Orderly.{AreCounted, ArePlanned, IsOrderly}
use Rattle.world_acts.specs.Owners.{flush_at, owned_work, piece_work}
use Rattle.world_acts.specs.Rooms.{fewer}
use Rattle.world_acts.proofs.LinesKept.{LinesStay, hit, line_finished, lines_both, live_stays, never, never_more, open_stays}
use Rattle.world_acts.proofs.PiecesKept.{awaits_at, counts_changed, owners_changed, owns_none, pieces_changed, places_changed, work_kept}
use Rattle.world_acts.proofs.RoomsKept.{spare_fewer}
use Rattle.world_acts.proofs.Tables.{Changes, no_count, other_at}
use Rattle.world_acts.proofs.WaitsKept.{unserved}

-- the core without a piece
abbrev pub left_core : Core → List JournalEntry → ℕ → Opens → Claims → List (ℕ × LivePiece) → Waits → Room → Core
left_core c journal entries opens claims lives waits owed = record c {
  lines = record c.lines { journal = journal; spare_entries = entries };
  opens = opens;
  pieces = record c.pieces { claims = claims; lives = lives };
  waits = waits;
  owed = owed;
}

-- what is known of it: the piece has no operation in flight, its line has one less left, it waits no more, and of its room this much goes
pub record Leaves (w : World) (number : ℕ) (old : LivePiece) (gone : (Waiting → Bool) → ℕ) (g : Room) (journal : List JournalEntry)
    (entries : ℕ)
    (opens : Opens) (lives : List (ℕ × LivePiece)) (waits : Waits) (owed : Room) : Type 0 where
  pub change : Changes number (Some old) None w.core.pieces.lives lives
  pub rests : flying_of old.stage ≡ 0
  pub stay : LinesStay old.line never hit w.core.opens opens
  pub long : length waits.disks ≡ length w.core.waits.disks
  pub counted : (test : Waiting → Bool) → waiting test waits.disks + gone test ≡ waiting test w.core.waits.disks
  pub nexts : unserved waits.disks ≡ unserved w.core.waits.disks
  pub no_line : (q : ℕ) → gone (is_line q) ≡ 0
  pub its : (q : ℕ) → gone (is_piece q) ≡ awaits_at number q (Some old)
  pub planned : ArePlanned w.core.volumes waits
  pub flushes : (q : ℕ) → flush_at waits.plan q ≡ flush_at w.core.waits.plan q
  pub its_ops : g.ops ≡ ops_of old
  pub its_sectors : g.sectors ≡ sectors_of old
  pub its_writes : g.writes ≡ writes_of old
  pub its_waits : g.waits ≡ waits_of old
  pub its_entries : g.entries ≡ entries_of old
  pub writes : w.core.waits.plan.spare ≤ waits.plan.spare + g.writes
  pub room : w.core.waits.room ≤ waits.room + g.waits
  pub spare : w.core.lines.spare_entries ≤ entries + g.entries
  pub owes : owed ≡ fewer w.core.owed g
  pub moments : last_moment journal ≤ w.shelf.steps

-- pieces of other numbers do what they did
pub others_kept : {number : ℕ} {was is : Option LivePiece} {lives lives' : List (ℕ × LivePiece)} → Changes number was is lives lives'
    → (work : LivePiece → DiskWork) (owner : Option Owner)
    → IfSome owner (λ o. nat_eq number o.piece ≡ false)
    → IfSome owner (λ o. option_map work (live_at lives' o.piece) ≡ option_map work (live_at lives o.piece))
others_kept change work None apart = tt
others_kept change work (Some o) apart = ap (λ (x : Option LivePiece). option_map work x) (other_at change o.piece apart)

pub left_orderly : {w : World} {number : ℕ} {old : LivePiece} {gone : (Waiting → Bool) → ℕ} {g : Room} {journal : List JournalEntry}
    {entries : ℕ} {opens : Opens} {lives : List (ℕ × LivePiece)} {waits : Waits} {owed : Room} (claims : Claims)
    → IsOrderly w
    → Leaves w number old gone g journal entries opens lives waits owed
    → IsOrderly (record w { core = left_core w.core journal entries opens claims lives waits owed })
left_orderly {w} {number} {old} {gone} {g} {journal} {entries} {opens} {lives} {waits} {owed} claims o l =
    let c : Core = w.core in
    let d : Core = left_core c journal entries opens claims lives waits owed in
    let t = o.tidy in
    let b = o.backed in
    let ops : sum_by (λ (e : ℕ × LivePiece). ops_of e.1) lives + ops_of old
    ≡ sum_by (λ (e : ℕ × LivePiece). ops_of e.1) c.pieces.lives + 0 =
    l.change.summed (λ (e : ℕ × LivePiece). ops_of e.1) in
    let sectors : sum_by (λ (e : ℕ × LivePiece). sectors_of e.1) lives + sectors_of old
    ≡ sum_by (λ (e : ℕ × LivePiece). sectors_of e.1) c.pieces.lives + 0 =
    l.change.summed (λ (e : ℕ × LivePiece). sectors_of e.1) in
    let writes : sum_by (λ (e : ℕ × LivePiece). writes_of e.1) lives + writes_of old
    ≡ sum_by (λ (e : ℕ × LivePiece). writes_of e.1) c.pieces.lives + 0 =
    l.change.summed (λ (e : ℕ × LivePiece). writes_of e.1) in
    let room : sum_by (λ (e : ℕ × LivePiece). waits_of e.1) lives + waits_of old
    ≡ sum_by (λ (e : ℕ × LivePiece). waits_of e.1) c.pieces.lives + 0 =
    l.change.summed (λ (e : ℕ × LivePiece). waits_of e.1) in
    let spare : sum_by (λ (e : ℕ × LivePiece). entries_of e.1) lives + entries_of old
    ≡ sum_by (λ (e : ℕ × LivePiece). entries_of e.1) c.pieces.lives + 0 =
    l.change.summed (λ (e : ℕ × LivePiece). entries_of e.1) in
    let owed_ops : owed.ops ≡ c.owed.ops - g.ops = ap (λ (r : Room). r.ops) l.owes in
    let owed_sectors : owed.sectors ≡ c.owed.sectors - g.sectors = ap (λ (r : Room). r.sectors) l.owes in
    record {
      tidy = record {
        lines = open_stays l.stay (never_more old.line c.barrier) t.lines;
        pieces = pieces_changed l.change (λ e is. live_stays e l.stay is) tt t.pieces;
        owners = owners_changed l.change l.rests refl t.owners;
        counts =
            counts_changed gone (λ test. 0) l.change l.stay (λ test. omega (arith, l.counted test)) (λ q. omega (arith, l.no_line q))
            (λ q. let none : awaits_at number q None ≡ 0 = no_count (nat_eq number q) in omega (arith, none, l.its q)) t.counts;
        room =
            spare_fewer c d g t.room l.owes
            (record {
              ops = omega (arith, ops, l.nexts, l.its_ops);
              sectors = omega (arith, sectors, l.its_sectors);
              writes = omega (arith, writes, l.its_writes);
              waits = omega (arith, room, l.its_waits);
              entries = omega (arith, spare, l.its_entries, l.stay.entries);
            })
            (record { writes = l.writes; waits = l.room; entries = l.spare; owners = omega arith });
        flushes = l.planned;
      };
      backed = record {
        lawful = b.lawful;
        known = record {
          owned =
              λ q. b.known.owned q
              ∙ sym (work_kept c.pieces.lives lives (piece_work c) (piece_work c) (flush_at c.waits.plan q) (owner_at c.pieces.owners q)
              (others_kept l.change (piece_work c) (owner_at c.pieces.owners q)
              (owns_none number t.owners
              (ap (λ (x : Option LivePiece). option_map_or (λ (y : LivePiece). flying_of y.stage) x 0) l.change.was ∙ l.rests) q)))
              ∙ ap (λ (x : Option Flush). owned_work lives (piece_work c) x (owner_at c.pieces.owners q)) (sym (l.flushes q));
          apart = λ q is. l.flushes q ∙ b.known.apart q is;
        };
        places = places_changed l.change tt l.long b.places;
        spare_ops = omega (arith, b.spare_ops, owed_ops);
        spare_sectors = omega (arith, b.spare_sectors, owed_sectors);
        moments = l.moments;
      };
    }

-- the line of a piece has something left, and one less behind it
pub something_left : {number : ℕ} {old : LivePiece} {opens : Opens} {lives lives' : List (ℕ × LivePiece)} {disks : List DiskWaits}
    → Changes number (Some old) None lives lives'
    → AreCounted opens lives disks
    → 0 < left_of opens old.line
something_left {number} {old} {opens} {lives} {lives'} change counts =
    let sums : pieces_of old.line lives' + cond (nat_eq old.line old.line) 1 0 ≡ pieces_of old.line lives + 0 =
    change.summed (λ (e : ℕ × LivePiece). hit (nat_eq e.1.line old.line)) in
    let one : ◌≡◌ {A = ℕ} (cond (nat_eq old.line old.line) 1 0) 1 = ap hit (eq-eqb old.line old.line refl) in
    omega (arith, sums, one, counts.left old.line)

pub finished_after : {opens mid : Opens} (line : ℕ) (o : OpenLine) → open_at opens line ≡ Some o → 0 < left_of opens line
    → LinesStay line never never opens mid
    → LinesStay line never hit opens (after_finished mid line)
finished_after {opens} {mid} line o at some stay =
    let p = stay.lines line o at in
    let left : left_of mid line + 0 ≡ left_of opens line + 0 = stay.left line in
    let now : left_of mid line ≡ p.0.left = ap (λ (x : Option OpenLine). option_map_or (λ (y : OpenLine). y.left) x 0) p.1 in
    lines_both stay (line_finished mid line p.0 p.1 (omega (arith, some, left, now)))
