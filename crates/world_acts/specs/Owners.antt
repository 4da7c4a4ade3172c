-- Whose the operations in flight are.
use Rattle.std.specs.Prelude.{ℕ, ◌==◌, if◌then◌else◌, List, [], map, find, Option, None, Some, option_map, slice_get}
use Rattle.std.specs.Option.{option_map_or}
use Rattle.std.specs.List.{range_with_len}
use Rattle.sector_base.specs.declared.places.Piece.{Piece}
use Rattle.lvm_script.specs.declared.line.Line.{Line}
use Rattle.disk_model.specs.Record.{Operation}
use Rattle.disk_model.specs.Steps.{Flushing, Reading, Work as DiskWork, Writing}
use Rattle.flush_plan.specs.declared.records.Flush.{Flush}
use Rattle.flush_plan.specs.Plans.{Plan}
use Rattle.piece_table.specs.declared.live.LivePiece.{LivePiece}
use Rattle.piece_table.specs.declared.live.Owner.{Owner}
use Rattle.piece_table.specs.Pieces.{live_at, owner_at}
use Rattle.world_acts.specs.declared.state.Core.{Core}
use Rattle.data_lines.specs.DataLines.{value_for}
use Rattle.world_acts.specs.Volumes.{span_of}

-- the values that the line brings to the sectors of a piece
abbrev pub values_of : Option Line → Piece → List (List ℕ)
values_of line piece =
    map (λ x. option_map_or (λ (l : Line). value_for l.command x) line []) (range_with_len piece.first piece.count)

-- the line of a piece
abbrev pub line_of : Core → LivePiece → Option Line
line_of c l = slice_get c.lines.begun l.line

-- what a piece does at its place
abbrev pub piece_work : Core → LivePiece → DiskWork
piece_work c l =
    if l.piece.write then Writing (span_of c.volumes l.piece) (values_of (line_of c l) l.piece) else Reading (span_of c.volumes l.piece)

-- the flush in flight with this tag
abbrev pub flush_at : Plan → ℕ → Option Flush
flush_at plan tag = find (λ (f : Flush). f.tag == tag) plan.flushes

-- what is in flight of this owner, or else of this flush
abbrev pub owned_work : List (ℕ × LivePiece) → (LivePiece → DiskWork) → Option Flush → Option Owner → Option DiskWork
owned_work lives work flush (Some owner) = option_map work (live_at lives owner.piece)
owned_work lives work flush None = option_map (λ (f : Flush). Flushing f.pv) flush

-- what is in flight under a tag: a piece's operation, or a flush
abbrev pub expected : Core → ℕ → Option DiskWork
expected c tag = owned_work c.pieces.lives (piece_work c) (flush_at c.waits.plan tag) (owner_at c.pieces.owners tag)

-- what of these operations has the tag
abbrev pub in_flight_at : List Operation → ℕ → Option DiskWork
in_flight_at ops tag = option_map (λ (o : Operation). o.work) (find (λ (o : Operation). o.tag == tag) ops)
