-- Fills that are cached or through, and lines that flush, evaluated.
use Rattle.std.proofs.Common.{◌≡◌, true, false, List, [], ◌∷◌, Some, None, refl}
use Rattle.sector_base.specs.declared.places.Piece.{Piece}
use Rattle.line_answers.specs.declared.answer.Answer.TheVariants as answer
use Rattle.line_answers.specs.declared.op_refusal.OpRefusal.TheVariants as refusal
use Rattle.data_lines.specs.DataLines.{number_sector, zero_sector}
use Rattle.volume_view.specs.InSegments.{leg_spot, met}
use Rattle.volume_view.specs.Places.{primary}
use Rattle.volume_history.proofs.Examples.{created, ordered_all, origin, piece, zero_piece}
use Rattle.volume_history.proofs.SmallGroups.{filling, filling_through, flushing}
use Rattle.volume_history.specs.Candidates.{OneOf, base, candidates}
use Rattle.volume_history.specs.Chronicles.{Answered, Begun, ChronicleEntry, Took}
use Rattle.volume_history.specs.Legal.{is_in_order}
use Rattle.volume_history.specs.Placed.{place_of, volumes_of}

-- a cached fill that took place and is answered ok may still be lost
abbrev took : List ChronicleEntry
took = Took 12 2 piece ∷ Begun 8 2 (filling 0 1 7) (Some 0) ∷ created

abbrev cached : List ChronicleEntry
cached = Answered 12 2 answer.Fine ∷ took

cached_candidates : candidates origin cached 0 0 ≡ OneOf (zero_sector ∷ number_sector 7 ∷ [])
unfolding volumes_of place_of primary met leg_spot
cached_candidates = refl

-- until a line that flushes the volume, and was begun behind it, is answered ok: then it is the base
abbrev flushes : List ChronicleEntry
flushes = Took 12 3 zero_piece ∷ Begun 12 3 flushing (Some 0) ∷ cached

abbrev flushed : List ChronicleEntry
flushed = Answered 12 3 answer.Fine ∷ flushes

flushes_candidates : candidates origin flushes 0 0 ≡ OneOf (zero_sector ∷ number_sector 7 ∷ [])
unfolding volumes_of place_of primary met leg_spot
flushes_candidates = refl

flushed_base : base origin flushed 0 0 ≡ took
unfolding volumes_of place_of primary met leg_spot
flushed_base = refl

flushed_candidates : candidates origin flushed 0 0 ≡ OneOf (number_sector 7 ∷ [])
unfolding volumes_of place_of primary met leg_spot
flushed_candidates = refl

flushed_in_order : ordered_all flushed ≡ true
flushed_in_order = refl

-- a line that flushes and was begun before the fill took place doesn't make it last, nor does one of another volume
abbrev crossed : List ChronicleEntry
crossed =
    Answered 12 3 answer.Fine ∷ Took 12 3 zero_piece ∷ Answered 12 2 answer.Fine ∷ Took 12 2 piece ∷ Begun 8 3 flushing (Some 0)
    ∷ Begun 8 2 (filling 0 1 7) (Some 0) ∷ created

crossed_candidates : candidates origin crossed 0 0 ≡ OneOf (zero_sector ∷ number_sector 7 ∷ [])
unfolding volumes_of place_of primary met leg_spot
crossed_candidates = refl

crossed_in_order : ordered_all crossed ≡ true
crossed_in_order = refl

abbrev other_piece : Piece
other_piece = record { volume = 1; first = 0; count = 0; write = false }

other_candidates : candidates origin
    (Answered 12 3 answer.Fine ∷ Took 12 3 other_piece ∷ Begun 12 3 flushing (Some 1) ∷ cached) 0 0
    ≡ OneOf (zero_sector ∷ number_sector 7 ∷ [])
unfolding volumes_of place_of primary met leg_spot
other_candidates = refl

-- a fill through to the disks is the base by its own answer; where its flush fails, it may hold
abbrev through : List ChronicleEntry
through = Took 12 2 piece ∷ Begun 8 2 (filling_through 0 1 7) (Some 0) ∷ created

through_base : base origin (Answered 12 2 answer.Fine ∷ through) 0 0 ≡ through
unfolding volumes_of place_of primary met leg_spot
through_base = refl

through_failed : candidates origin (Answered 12 2 (answer.PvFailed 0) ∷ through) 0 0 ≡ OneOf (zero_sector ∷ number_sector 7 ∷ [])
unfolding volumes_of place_of primary met leg_spot
through_failed = refl

fails_behind : is_in_order through (Answered 12 2 (answer.PvFailed 0)) ∷ is_in_order took (Answered 12 2 (answer.PvFailed 0)) ∷ []
    ≡ true ∷ false ∷ []
fails_behind = refl

-- a line that flushes is answered ok behind its Took alone, which it has once, with its volume's key; it may fail without one
abbrev begun : List ChronicleEntry
begun = Begun 12 3 flushing (Some 0) ∷ cached

flush_takes : is_in_order begun (Answered 12 3 answer.Fine) ∷ is_in_order begun (Took 12 3 other_piece)
    ∷ is_in_order flushes (Took 12 3 zero_piece) ∷ is_in_order begun (Answered 12 3 (answer.PvFailed 0)) ∷ []
    ≡ false ∷ false ∷ false ∷ true ∷ []
flush_takes = refl

-- one of a volume that isn't there is refused, and nothing else
abbrev unknown : List ChronicleEntry
unknown = Begun 12 3 flushing None ∷ cached

flush_unknown : is_in_order unknown (Took 12 3 zero_piece) ∷ is_in_order unknown (Answered 12 3 (answer.PvFailed 0))
    ∷ is_in_order unknown (Answered 12 3 answer.Fine)
    ∷ is_in_order unknown (Answered 12 3 (answer.Refused (refusal.UnknownVolume (5 ∷ [])))) ∷ []
    ≡ false ∷ false ∷ false ∷ true ∷ []
flush_unknown = refl
