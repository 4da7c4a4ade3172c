-- Worked rows: a write enters and starts, two of its operations fly and land, it took place and leaves; a write that shares sectors
-- with it is deferred, and ready then.
use Rattle.std.specs.Prelude.{◌≡◌, true, false, [], ◌∷◌, Option, Some, None}
use Rattle.std.proofs.Common.{refl}
use Rattle.sector_base.specs.declared.places.Piece.{Piece}
use Rattle.claim_table.specs.declared.claim.By.TheVariants as by
use Rattle.claim_table.specs.declared.claim.Entry.TheVariants as entry
use Rattle.claim_table.specs.Claims.{ready_at}
use Rattle.piece_table.specs.declared.live.LivePiece.{LivePiece}
use Rattle.piece_table.specs.declared.live.Stage.{Stage}
use Rattle.piece_table.specs.declared.live.Stage.TheVariants.{Started, Taken, Waiting}
use Rattle.piece_table.specs.Pieces.{Pieces, flying_at, is_among, is_started, is_waiting, live_at, no_pieces, owner_at, sectors_at}
use Rattle.piece_table.specs.Steps.{after_enter, after_flies, after_lands, after_leave, after_ready, after_reserve, with_stage}
use Rattle.piece_table.specs.Steps.{without_ticket}

-- a write of sectors 0 to 8 of volume 0, and the piece of line 4 that it is, at a stage, with room to wait or none
abbrev write : Piece
write = record { volume = 0; first = 0; count = 8; write = true }

abbrev first_at : Stage → Option (Unit {0}) → LivePiece
first_at stage ticket = record { line = 4; piece = write; stage = stage; ticket = ticket }

abbrev room : Pieces
room = after_reserve no_pieces 2 2

abbrev one_enters : Pieces
one_enters = after_enter room 4 write None ((7 ∷ []) ∷ []) (Some tt) entry.Started

abbrev both_entered : Pieces
both_entered = after_enter one_enters 5 write None [] None (entry.Deferred (by.Piece 0))

abbrev started : Pieces
started = with_stage both_entered 0 (Started 0 None)

abbrev flies : Pieces
flies = after_flies (after_flies started 0 100 true) 0 101 false

abbrev lands : Pieces
lands = after_lands flies 100 0

abbrev landed : Pieces
landed = after_lands lands 101 0

abbrev taken : Pieces
taken = without_ticket (with_stage landed 0 (Taken 1)) 0

abbrev left : Pieces
left = after_leave taken 0

abbrev ready : Pieces
ready = after_ready left

-- it enters under number 0, waits with its sectors, and is among the claims
it_waits : live_at one_enters.lives 0 ≡ Some (first_at (Waiting ((7 ∷ []) ∷ [])) (Some tt))
it_waits = refl

its_sectors_wait : sectors_at one_enters 0 ≡ (7 ∷ []) ∷ []
its_sectors_wait = refl

next_is_higher : one_enters.next ≡ 1
next_is_higher = refl

one_is_spare : one_enters.claims.spare ≡ 1
one_is_spare = refl

-- it starts, and the other one waits
it_is_started : is_started started 0 ≡ true
it_is_started = refl

other_is_waiting : is_waiting started 1 ≡ true
other_is_waiting = refl

none_is_ready : ready_at started.claims ≡ 1
none_is_ready = refl

-- two of its operations fly
two_fly : flying_at flies 0 ≡ 2
two_fly = refl

tag_has_owner : owner_at flies.owners 101 ≡ Some (record { piece = 0; primary = false })
tag_has_owner = refl

none_is_spare : flies.spare_ops ≡ 0
none_is_spare = refl

-- they land one by one, and their places aren't spare again
one_flies : flying_at lands 0 ≡ 1
one_flies = refl

tag_is_free : owner_at lands.owners 100 ≡ None
tag_is_free = refl

other_has_owner : owner_at lands.owners 101 ≡ Some (record { piece = 0; primary = false })
other_has_owner = refl

none_flies : live_at landed.lives 0 ≡ Some (first_at (Started 0 None) (Some tt))
none_flies = refl

still_none_is_spare : landed.spare_ops ≡ 0
still_none_is_spare = refl

-- it took place, and its room to wait is taken
it_took_place : live_at taken.lives 0 ≡ Some (first_at (Taken 1) None)
it_took_place = refl

-- it leaves, and the other one stays and is ready
it_left : is_among left 0 ≡ false
it_left = refl

other_stays : is_waiting left 1 ≡ true
other_stays = refl

other_is_ready : ready_at left.claims ≡ 0
other_is_ready = refl

none_is_deferred : ready.claims.deferred ≡ []
none_is_deferred = refl

claim_is_started : ready.claims.started ≡ record { number = 1; piece = write; region = None } ∷ []
claim_is_started = refl
