-- What calls on a piece under way ask: its part of what is owed, and where its sectors lie.
use Rattle.std.proofs.Common.{◌≡◌, ◌≤◌, ◌<◌, ℕ, ◌+◌, Bool, true, false, cond, nat_eq, List, [], length, Option, None, Some}
use Rattle.std.proofs.Common.{is_some, sum_by}
use Rattle.std.proofs.Common.{unwrap_or, refl, sym, ap, subst, ◌∙◌, arith, true≢false}
use Rattle.std.specs.Prelude.{slice_index_or}
use Rattle.std.specs.Option.{option_map_or}
use Rattle.std.proofs.lemmas.Bool.{cond_both}
use Rattle.std.proofs.lemmas.Option.{same_Some}
use Rattle.indexmap.specs.IndexMap.{swap_remove_entry}
use Rattle.sector_base.specs.declared.places.At.{At}
use Rattle.sector_base.specs.declared.places.Piece.{Piece}
use Rattle.sector_base.specs.declared.spans.Span.{Span}
use Rattle.disk_model.specs.declared.ops.Op.{Op}
use Rattle.disk_model.specs.declared.ops.Op.TheVariants.{Read, Write}
use Rattle.disk_model.specs.Operations.{Fills, Lies, sectors_of as op_sectors, work_of}
use Rattle.disk_model.specs.Steps.{Reading, Writing}
use Rattle.flush_waits.specs.Waits.{DiskWaits}
use Rattle.piece_table.specs.declared.live.LivePiece.{LivePiece}
use Rattle.piece_table.specs.declared.live.Stage.{Stage}
use Rattle.piece_table.specs.declared.live.Stage.TheVariants.{Started, Taken, Waiting}
use Rattle.piece_table.specs.Pieces.{Pieces, is_started_stage, is_waiting_stage, live_at, sectors_at, sectors_of as stage_sectors}
use Rattle.piece_table.specs.Steps.{live_of, no_live}
use Rattle.world_acts.specs.declared.state.Core.{Core}
use Rattle.world_acts.specs.declared.room.Room.{Room}
use Rattle.world_acts.specs.declared.volumes.Volumes.{Volumes}
use Rattle.world_acts.specs.Acts.{World}
use Rattle.world_acts.specs.Counts.{entries_of, is_taken, is_unsubmitted, line_entries, ops_of, sectors_of, waits_of, writes_of}
use Rattle.world_acts.specs.Orderly.{IsLive, IsOrderly}
use Rattle.world_acts.specs.Owners.{line_of, piece_work, values_of}
use Rattle.world_acts.specs.Rooms.{Covers, fail_room, fewer, one, start_room}
use Rattle.world_acts.specs.Volumes.{IsPlaced, has_sector, place_of, span_at, span_of}
use Rattle.world_acts.proofs.Tables.{at_number, removed}

-- ---- stages

pub unsubmitted_is : (stage : Stage) → is_unsubmitted stage ≡ is_waiting_stage stage
unsubmitted_is (Waiting sectors) = refl
unsubmitted_is (Started flying lost) = refl
unsubmitted_is (Taken awaited) = refl

pub started_stage : (stage : Stage) → is_started_stage stage ≡ true → (is_unsubmitted stage ≡ false) × (is_taken stage ≡ false)
started_stage (Waiting sectors) is = absurd (true≢false (sym is))
started_stage (Started flying lost) is = (refl, refl)
started_stage (Taken awaited) is = absurd (true≢false (sym is))

-- what is found under a number
pub live_is : (pieces : Pieces) (number : ℕ) (l : LivePiece) → live_at pieces.lives number ≡ Some l → live_of pieces number ≡ l
live_is pieces number l at = ap (λ (x : Option LivePiece). unwrap_or x no_live) at

pub found : (test : LivePiece → Bool) (x : Option LivePiece) (l : LivePiece) → x ≡ Some l → option_map_or test x false ≡ true
    → test l ≡ true
found test x l at is = ap (λ (o : Option LivePiece). option_map_or test o false) (sym at) ∙ is

among : (test : LivePiece → Bool) (x : Option LivePiece) → option_map_or test x false ≡ true → is_some x ≡ true
among test None is = is
among test (Some l) is = refl

-- a piece that is started, or waits, is under way
pub is_there : (test : LivePiece → Bool) (lives : List (ℕ × LivePiece)) (number : ℕ)
    → option_map_or test (live_at lives number) false ≡ true
    → is_some (live_at lives number) ≡ true
is_there test lives number is = among test (live_at lives number) is

-- ---- room

-- of what is owed so much is the piece's
pub record HasRoom (owed : Room) (l : LivePiece) : Type 0 where
  pub ops : ops_of l ≤ owed.ops
  pub sectors : sectors_of l ≤ owed.sectors
  pub writes : writes_of l ≤ owed.writes
  pub waits : waits_of l ≤ owed.waits
  pub entries : entries_of l ≤ owed.entries

pub has_room : (w : World) (number : ℕ) (l : LivePiece) → IsOrderly w → live_at w.core.pieces.lives number ≡ Some l
    → HasRoom w.core.owed l
has_room w number l o at =
    let c : Core = w.core in
    let gone = removed c.pieces.lives number l o.tidy.pieces.single at in
    let lives : List (ℕ × LivePiece) = swap_remove_entry (nat_eq number) c.pieces.lives in
    let ops : sum_by (λ (e : ℕ × LivePiece). ops_of e.1) lives + ops_of l
    ≡ sum_by (λ (e : ℕ × LivePiece). ops_of e.1) c.pieces.lives + 0 =
    gone.summed (λ (e : ℕ × LivePiece). ops_of e.1) in
    let sectors : sum_by (λ (e : ℕ × LivePiece). sectors_of e.1) lives + sectors_of l
    ≡ sum_by (λ (e : ℕ × LivePiece). sectors_of e.1) c.pieces.lives + 0 =
    gone.summed (λ (e : ℕ × LivePiece). sectors_of e.1) in
    let writes : sum_by (λ (e : ℕ × LivePiece). writes_of e.1) lives + writes_of l
    ≡ sum_by (λ (e : ℕ × LivePiece). writes_of e.1) c.pieces.lives + 0 =
    gone.summed (λ (e : ℕ × LivePiece). writes_of e.1) in
    let waits : sum_by (λ (e : ℕ × LivePiece). waits_of e.1) lives + waits_of l
    ≡ sum_by (λ (e : ℕ × LivePiece). waits_of e.1) c.pieces.lives + 0 =
    gone.summed (λ (e : ℕ × LivePiece). waits_of e.1) in
    let entries : sum_by (λ (e : ℕ × LivePiece). entries_of e.1) lives + entries_of l
    ≡ sum_by (λ (e : ℕ × LivePiece). entries_of e.1) c.pieces.lives + 0 =
    gone.summed (λ (e : ℕ × LivePiece). entries_of e.1) in
    let owed_ops : c.owed.ops
    ≡ sum_by (λ (e : ℕ × LivePiece). ops_of e.1) c.pieces.lives + sum_by (λ (d : DiskWaits). length d.next) c.waits.disks =
    ap (λ (r : Room). r.ops) o.tidy.room.owed in
    let owed_sectors : c.owed.sectors ≡ sum_by (λ (e : ℕ × LivePiece). sectors_of e.1) c.pieces.lives =
    ap (λ (r : Room). r.sectors) o.tidy.room.owed in
    let owed_writes : c.owed.writes ≡ sum_by (λ (e : ℕ × LivePiece). writes_of e.1) c.pieces.lives =
    ap (λ (r : Room). r.writes) o.tidy.room.owed in
    let owed_waits : c.owed.waits ≡ sum_by (λ (e : ℕ × LivePiece). waits_of e.1) c.pieces.lives =
    ap (λ (r : Room). r.waits) o.tidy.room.owed in
    let owed_entries : c.owed.entries
    ≡ sum_by (λ (e : ℕ × LivePiece). entries_of e.1) c.pieces.lives + sum_by line_entries c.opens.list =
    ap (λ (r : Room). r.entries) o.tidy.room.owed in
    record {
      ops = omega (arith, ops, owed_ops);
      sectors = omega (arith, sectors, owed_sectors);
      writes = omega (arith, writes, owed_writes);
      waits = omega (arith, waits, owed_waits);
      entries = omega (arith, entries, owed_entries);
    }

-- a piece that starts, fails, has written, waits for its flush, or has read
pub start_covered : (owed : Room) (l : LivePiece) → is_waiting_stage l.stage ≡ true → HasRoom owed l → Covers owed (start_room l.piece)
start_covered owed l waits r =
    let is : is_unsubmitted l.stage ≡ true = unsubmitted_is l.stage ∙ waits in
    let op : one (is_unsubmitted l.stage) ≡ 1 = ap one is in
    let count : sectors_of l ≡ l.piece.count = ap (λ (b : Bool). cond b l.piece.count 0) is in
    record {
      ops = omega (arith, op, r.ops);
      sectors = omega (arith, count, r.sectors);
      writes = omega arith;
      waits = omega arith;
      entries = omega arith;
    }

-- so much of it is a started piece's
pub record HasStarted (owed : Room) (l : LivePiece) : Type 0 where
  pub ops : one (is_some l.ticket) ≤ owed.ops
  pub writes : one l.piece.write ≤ owed.writes
  pub waits : one (is_some l.ticket) ≤ owed.waits
  pub entries : 0 < owed.entries

pub started_room : (owed : Room) (l : LivePiece) → is_started_stage l.stage ≡ true → HasRoom owed l → HasStarted owed l
started_room owed l started r =
    let s = started_stage l.stage started in
    let writes : writes_of l ≡ one l.piece.write = ap (λ (b : Bool). cond b 0 (one l.piece.write)) s.1 in
    let entries : ◌≡◌ {A = ℕ} (entries_of l) 1 = ap (λ (b : Bool). cond b 0 1) s.1 in
    record {
      ops = omega (arith, r.ops);
      writes = omega (arith, writes, r.writes);
      waits = omega (arith, r.waits);
      entries = omega (arith, entries, r.entries);
    }

pub fail_covered : (owed : Room) (l : LivePiece) → HasStarted owed l → Covers owed (fail_room l.piece (is_some l.ticket))
fail_covered owed l s = record {
  ops = omega (arith, s.ops);
  sectors = omega arith;
  writes = omega (arith, s.writes);
  waits = omega (arith, s.waits);
  entries = omega (arith, s.entries);
}

pub write_covered : (owed : Room) (l : LivePiece) → l.piece.write ≡ true → HasStarted owed l
    → Covers owed (record { ops = 0; sectors = 0; writes = 1; waits = 0; entries = 1 })
write_covered owed l writes s =
    let is : one l.piece.write ≡ 1 = ap one writes in
    record {
      ops = omega arith;
      sectors = omega arith;
      writes = omega (arith, is, s.writes);
      waits = omega arith;
      entries = omega (arith, s.entries);
    }

pub wait_covered : (owed : Room) (l : LivePiece) → is_some l.ticket ≡ true → HasStarted owed l
    → Covers (fewer owed (record { ops = 0; sectors = 0; writes = 1; waits = 0; entries = 1 }))
    (record { ops = 0; sectors = 0; writes = 0; waits = 1; entries = 0 })
wait_covered owed l waits s =
    let is : one (is_some l.ticket) ≡ 1 = ap one waits in
    record {
      ops = omega arith;
      sectors = omega arith;
      writes = omega arith;
      waits = omega (arith, is, s.waits);
      entries = omega arith;
    }

pub read_covered : (owed : Room) (l : LivePiece) → HasStarted owed l
    → Covers owed (record { ops = 0; sectors = 0; writes = 0; waits = 0; entries = 1 })
read_covered owed l s = record {
  ops = omega arith;
  sectors = omega arith;
  writes = omega arith;
  waits = omega arith;
  entries = omega (arith, s.entries);
}

-- ---- places

-- where the first sector of a piece stands, all of it lies in its disk
pub lies_at : (volumes : Volumes) (sizes : List ℕ) (piece : Piece) (at : At) → IsPlaced volumes sizes piece
    → place_of volumes piece.volume piece.first ≡ Some at
    → (at.pv < length sizes) × (at.sector + piece.count ≤ slice_index_or sizes at.pv 0)
lies_at volumes sizes piece at placed here =
    let to : At = record { pv = placed.0.pv; sector = placed.0.sector + 0 } in
    let first : piece.first + 0 ≡ piece.first = omega arith in
    let each : place_of volumes piece.volume (piece.first + 0) ≡ Some to = placed.1.each 0 placed.1.some in
    let is : to ≡ at =
    same_Some to at (sym (subst (λ (n : ℕ). place_of volumes piece.volume n ≡ Some to) first each) ∙ here) in
    let within : placed.0.sector + 0 + piece.count ≤ slice_index_or sizes placed.0.pv 0 =
    let in_disk : placed.0.sector + piece.count ≤ slice_index_or sizes placed.0.pv 0 = placed.1.within in omega (arith, in_disk) in
    subst (λ (x : At). (x.pv < length sizes) × (x.sector + piece.count ≤ slice_index_or sizes x.pv 0)) is (placed.1.disk, within)

-- the sectors of a piece, from there on
abbrev pub span_from : At → ℕ → Span
span_from at count = record { pv = at.pv; first = at.sector; count = count }

-- what it does there
abbrev pub op_for : Bool → Span → List (List ℕ) → Op
op_for write span sectors = cond write (Write span sectors) (Read span sectors)

pub op_lies : (sizes : List ℕ) (write : Bool) (span : Span) (sectors : List (List ℕ)) → Fills sizes span sectors
    → Lies sizes (op_for write span sectors)
op_lies sizes write span sectors fills =
    cond_both write (Write span sectors) (Read span sectors) (λ (x : Op). Lies sizes x) (λ t. fills) (λ t. fills)

pub op_count : (write : Bool) (span : Span) (sectors : List (List ℕ)) → op_sectors (op_for write span sectors) ≡ span.count
op_count write span sectors =
    cond_both write (Write span sectors) (Read span sectors) (λ (x : Op). op_sectors x ≡ span.count) (λ t. refl) (λ t. refl)

pub op_work : (c : Core) (l : LivePiece) (at : At) (sectors : List (List ℕ))
    → place_of c.volumes l.piece.volume l.piece.first ≡ Some at
    → (l.piece.write ≡ true → sectors ≡ values_of (line_of c l) l.piece)
    → work_of (op_for l.piece.write (span_from at l.piece.count) sectors) ≡ piece_work c l
op_work c l at sectors here brought =
    let span : span_of c.volumes l.piece ≡ span_from at l.piece.count = ap (span_at l.piece.count) here in
    elim (l.piece.write) as (λ b. l.piece.write ≡ b
    → work_of (op_for b (span_from at l.piece.count) sectors)
    ≡ cond b (Writing (span_of c.volumes l.piece) (values_of (line_of c l) l.piece)) (Reading (span_of c.volumes l.piece))) [
      | true ↦ λ t. λ i. Writing (sym span i) (brought t i)
      | false ↦ λ t. ap (λ (x : Span). Reading x) (sym span)
    ] refl

-- a piece that is to start: what its operation is asked
pub record MayStart (w : World) (l : LivePiece) (at : At) (sectors : List (List ℕ)) : Type 0 where
  pub lies : Lies w.shelf.sizes (op_for l.piece.write (span_from at l.piece.count) sectors)
  pub ops : 0 < w.shelf.spare_ops
  pub room : op_sectors (op_for l.piece.write (span_from at l.piece.count) sectors) ≤ w.shelf.spare_sectors
  pub work : work_of (op_for l.piece.write (span_from at l.piece.count) sectors) ≡ piece_work w.core l
  pub owners : 0 < w.core.pieces.spare_ops

pub may_start_at : (w : World) (number : ℕ) (l : LivePiece) (at : At) (sectors : List (List ℕ)) → IsOrderly w
    → live_at w.core.pieces.lives number ≡ Some l
    → is_waiting_stage l.stage ≡ true
    → place_of w.core.volumes l.piece.volume l.piece.first ≡ Some at
    → sectors ≡ sectors_at w.core.pieces number
    → MayStart w l at sectors
may_start_at w number l at sectors o here waits place came =
    let c : Core = w.core in
    let is : IsLive c.lines.begun c.opens c.pieces.next (number, l) =
    at_number (IsLive c.lines.begun c.opens c.pieces.next) c.pieces.lives number l o.tidy.pieces.each here in
    let placed : IsPlaced c.volumes w.shelf.sizes l.piece =
    at_number (λ (e : ℕ × LivePiece). IsPlaced c.volumes w.shelf.sizes e.1.piece) c.pieces.lives number l o.backed.places.placed here in
    let lies = lies_at c.volumes w.shelf.sizes l.piece at placed place in
    let unsubmitted : is_unsubmitted l.stage ≡ true = unsubmitted_is l.stage ∙ waits in
    let stage : sectors ≡ stage_sectors l.stage =
    came ∙ ap (λ (x : Option LivePiece). option_map_or (λ (y : LivePiece). stage_sectors y.stage) x []) here in
    let covered = start_covered c.owed l waits (has_room w number l o here) in
    let count = op_count l.piece.write (span_from at l.piece.count) sectors in
    record {
      lies =
          op_lies w.shelf.sizes l.piece.write (span_from at l.piece.count) sectors
          (record { disk = lies.0; within = lies.1; buffer = ap (λ (x : List (List ℕ)). length x) stage ∙ is.sectors.many unsubmitted });
      ops = omega (arith, covered.ops, o.backed.spare_ops);
      room = omega (arith, covered.sectors, o.backed.spare_sectors, count);
      work = op_work c l at sectors place (λ writes. stage ∙ is.sectors.brought unsubmitted writes);
      owners = omega (arith, covered.ops, o.tidy.room.owners);
    }

-- its first sector has a place
pub inside_at : (w : World) (number : ℕ) (l : LivePiece) → IsOrderly w → live_at w.core.pieces.lives number ≡ Some l
    → has_sector w.core.volumes l.piece.volume l.piece.first ≡ true
inside_at w number l o here =
    let placed : IsPlaced w.core.volumes w.shelf.sizes l.piece =
    at_number (λ (e : ℕ × LivePiece). IsPlaced w.core.volumes w.shelf.sizes e.1.piece) w.core.pieces.lives number l o.backed.places.placed
    here in
    placed.1.inside
