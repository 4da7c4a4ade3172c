-- Small histories, evaluated.
use Rattle.std.proofs.Common.{◌≡◌, ℕ, ◌&&◌, ◌||◌, Bool, true, false, List, [], ◌∷◌, Some, None, refl}
use Rattle.sector_base.specs.declared.places.Piece.{Piece}
use Rattle.command_table.specs.Options.{number_named}
use Rattle.line_answers.specs.declared.answer.Answer.TheVariants as answer
use Rattle.line_answers.specs.declared.op_refusal.OpRefusal.TheVariants as refusal
use Rattle.data_lines.specs.DataLines.{number_sector, zero_sector}
use Rattle.disk_model.specs.Steps.{Completed, Flushing, Image, Step, Submitted, Writing}
use Rattle.disk_model.specs.ValueList.{values}
use Rattle.volume_view.specs.InSegments.{leg_spot, met}
use Rattle.volume_view.specs.Places.{primary}
use Rattle.line_table.specs.Machine.{key_of, list_of, plain_after, sector_of}
use Rattle.vg_scan.specs.Versions.{Version}
use Rattle.volume_history.proofs.SmallGroups.{creating, extending, filling, filling_through, group_removing, listing, making, moving}
use Rattle.volume_history.proofs.SmallGroups.{pvcreating, reading, reducing, removing, renaming, restoring, version_1, version_2, version_3}
use Rattle.volume_history.proofs.SmallGroups.{version_4, version_5, version_6, version_7}
use Rattle.volume_history.specs.Candidates.{Anything, OneOf, base, candidates, pending_candidates, pending_step}
use Rattle.volume_history.specs.Chronicles.{Answered, Begun, Changed, ChronicleEntry, Failed, GivenUp, Opened, Origin, Took, fenced_by}
use Rattle.volume_history.specs.Chronicles.{in_force, is_failed_disk, left_out, may_begin, pending, upto}
use Rattle.volume_history.specs.Legal.{is_in_order, read_values}
use Rattle.volume_history.specs.Placed.{place_of, volumes_of}
use Rattle.volume_history.specs.Replay.{plain_state}

abbrev write : ℕ → ℕ → ℕ → Step
write tag at number = Submitted tag (Writing (record { pv = 0; first = at; count = 1 }) (number_sector number ∷ []))

abbrev wrote : ℕ → ℕ → ℕ → Bool → Step
wrote tag at number well = Completed tag (Writing (record { pv = 0; first = at; count = 1 }) (number_sector number ∷ [])) well []

abbrev flush : ℕ → Step
flush tag = Submitted tag (Flushing 0)

abbrev flushed : ℕ → Step
flushed tag = Completed tag (Flushing 0) true []

abbrev zeros : Image
zeros pv sector = 99 ∷ []

-- the header of group 1, that of group 2, a fill of 7 that is flushed, and a fill of 9 that flies
abbrev steps : List Step
steps =
    write 7 10 9
    ∷ flushed 6 ∷ flush 6 ∷ wrote 5 10 7 true ∷ write 5 10 7
    ∷ flushed 4 ∷ flush 4 ∷ wrote 3 0 2 true ∷ write 3 0 2
    ∷ flushed 2 ∷ flush 2 ∷ wrote 1 0 1 true ∷ write 1 0 1 ∷ []

abbrev pub origin : Origin
origin =
    record {
      told = record { opened = zeros; steps = steps };
      first = 0;
      start = 0;
      sizes = 99 ∷ [];
      names = (0 ∷ []) ∷ [];
      clock = 0;
      version = None;
    }

abbrev pub zero_piece : Piece
zero_piece = record { volume = 0; first = 0; count = 0; write = false }

abbrev pub piece : Piece
piece = record { volume = 0; first = 0; count = 1; write = true }

-- vgcreate
abbrev made : List ChronicleEntry
made = Answered 4 0 answer.Fine ∷ Changed 4 0 (Some version_1) ∷ Opened 0 0 (Some version_1) ∷ Begun 0 0 making None ∷ []

-- lvcreate
abbrev pub created : List ChronicleEntry
created = Answered 8 1 answer.Fine ∷ Changed 8 1 (Some version_2) ∷ Opened 4 1 (Some version_2) ∷ Begun 4 1 creating None ∷ made

-- a fill with 7 through to the disks that is acknowledged, and one with 9 that flies
abbrev pub filled : List ChronicleEntry
filled = Answered 12 2 answer.Fine ∷ Took 12 2 piece ∷ Begun 8 2 (filling_through 0 1 7) (Some 0) ∷ created

abbrev flies : List ChronicleEntry
flies = Begun 12 3 (filling 0 1 9) (Some 0) ∷ filled

machine_made : plain_state origin made ≡ record { group = Some (70 ∷ []); volumes = []; next_key = 0 }
unfolding volumes_of place_of primary met leg_spot
machine_made = refl

machine_created : list_of (plain_state origin created) ≡ (5 ∷ [], 10) ∷ []
unfolding volumes_of place_of primary met leg_spot
machine_created = refl

-- the first eight sectors are zeros, the others what stood there
machine_sectors : sector_of (plain_state origin created) 0 0 ≡ zero_sector
unfolding volumes_of place_of primary met leg_spot
machine_sectors = refl

machine_free : sector_of (plain_state origin created) 0 8 ≡ 99 ∷ []
unfolding volumes_of place_of primary met leg_spot
machine_free = refl

machine_filled : sector_of (plain_state origin filled) 0 0 ≡ number_sector 7
unfolding volumes_of place_of primary met leg_spot
machine_filled = refl

-- the base is the acknowledged fill; the other flies
base_filled : base origin flies 0 0 ≡ Took 12 2 piece ∷ Begun 8 2 (filling_through 0 1 7) (Some 0) ∷ created
unfolding volumes_of place_of primary met leg_spot
base_filled = refl

candidates_flying : candidates origin flies 0 0 ≡ OneOf (number_sector 7 ∷ number_sector 9 ∷ [])
unfolding volumes_of place_of primary met leg_spot
candidates_flying = refl

-- while the first fill isn't answered, the zero of the creation is one too
candidates_before : candidates origin (Begun 8 2 (filling_through 0 1 7) (Some 0) ∷ created) 0 0
    ≡ OneOf (zero_sector ∷ number_sector 7 ∷ [])
unfolding volumes_of place_of primary met leg_spot
candidates_before = refl

candidates_taken : candidates origin (Took 12 2 piece ∷ Begun 8 2 (filling_through 0 1 7) (Some 0) ∷ created) 0 0
    ≡ OneOf (zero_sector ∷ number_sector 7 ∷ [])
unfolding volumes_of place_of primary met leg_spot
candidates_taken = refl

-- what a crash may leave there
possible_now : values zeros steps 0 10 ≡ (Some 5, number_sector 7) ∷ (Some 7, number_sector 9) ∷ []
possible_now = refl

-- the entries up to a moment
entries_upto : upto 11 flies ≡ Begun 8 2 (filling_through 0 1 7) (Some 0) ∷ created
entries_upto = refl

-- the order of the entries holds, entry by entry
abbrev pub ordered_all : List ChronicleEntry → Bool
ordered_all [] = true
ordered_all (e ∷ es) = is_in_order es e && ordered_all es

order_filled : ordered_all flies ≡ true
order_filled = refl

-- not while a command is unanswered, and not an answer before its piece
order_beside : may_begin (Begun 4 1 creating None ∷ made) creating ≡ false
order_beside = refl

order_early : is_in_order (Begun 8 2 (filling 0 1 7) (Some 0) ∷ created) (Answered 12 2 answer.Fine) ≡ false
order_early = refl

order_twice : is_in_order filled (Took 12 2 piece) ≡ false
order_twice = refl

-- a move changes the places and nothing else
abbrev moved_so : List ChronicleEntry
moved_so = Changed 12 3 (Some version_3) ∷ Opened 12 3 (Some version_3) ∷ Begun 12 3 moving None ∷ filled

move_changes_nothing : plain_state origin moved_so ≡ plain_state origin filled
unfolding volumes_of place_of primary met leg_spot
move_changes_nothing = refl

move_in_force : in_force origin moved_so ≡ Some version_3
move_in_force = refl

move_keeps_base : base origin moved_so 0 0 ≡ base origin flies 0 0
unfolding volumes_of place_of primary met leg_spot
move_keeps_base = refl

move_in_order : ordered_all (Answered 12 3 answer.Fine ∷ moved_so) ≡ true
move_in_order = refl

-- a refused fill brings nothing
abbrev refused_so : List ChronicleEntry
refused_so = Answered 12 3 (answer.Refused refusal.ReadOnly) ∷ Begun 12 3 (filling 9 2 4) (Some 0) ∷ filled

refused_changes_nothing : plain_state origin refused_so ≡ plain_state origin filled
unfolding volumes_of place_of primary met leg_spot
refused_changes_nothing = refl

refused_brings_nothing : candidates origin refused_so 0 9 ≡ OneOf ((99 ∷ []) ∷ [])
unfolding volumes_of place_of primary met leg_spot
refused_brings_nothing = refl

refused_in_order : ordered_all refused_so ≡ true
refused_in_order = refl

-- a write piece that failed: its value stays possible, and the machine has what now shows
abbrev failed_steps : List Step
failed_steps = wrote 7 10 9 false ∷ steps

abbrev failed_origin : Origin
failed_origin = record origin { told = record { opened = zeros; steps = failed_steps } }

abbrev failed_so : List ChronicleEntry
failed_so = Answered 14 3 (answer.PvFailed 0) ∷ Failed 14 3 piece ∷ flies

failed_machine : sector_of (plain_state failed_origin failed_so) 0 0 ≡ number_sector 7
unfolding volumes_of place_of primary met leg_spot
failed_machine = refl

failed_candidates : candidates failed_origin failed_so 0 0 ≡ OneOf (number_sector 7 ∷ number_sector 9 ∷ [])
unfolding volumes_of place_of primary met leg_spot
failed_candidates = refl

failed_possible : values zeros failed_steps 0 10 ≡ (Some 5, number_sector 7) ∷ (Some 7, number_sector 9) ∷ []
failed_possible = refl

failed_in_order : ordered_all failed_so ≡ true
failed_in_order = refl

failed_disk : is_failed_disk failed_origin 14 0 ≡ true
failed_disk = refl

not_failed_before : is_failed_disk failed_origin 13 0 ≡ false
not_failed_before = refl

-- a line that is refused after a piece of it failed: what that wrote stays possible
failed_then_refused : candidates failed_origin (Answered 14 3 (answer.Refused refusal.ReadOnly) ∷ Failed 14 3 piece ∷ flies) 0 0
    ≡ OneOf (number_sector 7 ∷ number_sector 9 ∷ [])
unfolding volumes_of place_of primary met leg_spot
failed_then_refused = refl

-- an acknowledged command with a newer one that is pending: what that creates is open, the rest is as in force
abbrev extends_so : List ChronicleEntry
extends_so = Opened 12 3 (Some version_4) ∷ Begun 12 3 extending None ∷ filled

extending_pending : pending extends_so ≡ Some (3, Some version_4)
extending_pending = refl

extending_in_force : in_force origin extends_so ≡ Some version_2
extending_in_force = refl

extending_lengths : list_of (plain_after (plain_state origin extends_so) (pending_step origin extends_so 3 (Some version_4)))
    ≡ (5 ∷ [], 11) ∷ []
unfolding volumes_of place_of primary met leg_spot
extending_lengths = refl

extending_new : pending_candidates origin extends_so (pending_step origin extends_so 3 (Some version_4)) 0 10 ≡ Anything
unfolding volumes_of place_of primary met leg_spot
extending_new = refl

extending_old : pending_candidates origin extends_so (pending_step origin extends_so 3 (Some version_4)) 0 0 ≡ OneOf (number_sector 7 ∷ [])
unfolding volumes_of place_of primary met leg_spot
extending_old = refl

-- the base of a sector that is added is its birth, and it has what stood there
abbrev extended : List ChronicleEntry
extended = Changed 12 3 (Some version_4) ∷ extends_so

extended_base : base origin extended 0 10 ≡ extended
unfolding volumes_of place_of primary met leg_spot
extended_base = refl

extended_candidates : candidates origin extended 0 10 ≡ OneOf ((99 ∷ []) ∷ [])
unfolding volumes_of place_of primary met leg_spot
extended_candidates = refl

extended_old : candidates origin extended 0 0 ≡ OneOf (number_sector 7 ∷ [])
unfolding volumes_of place_of primary met leg_spot
extended_old = refl

-- a reduction takes the last sectors off
abbrev reduced : List ChronicleEntry
reduced = Changed 12 3 (Some version_5) ∷ Opened 12 3 (Some version_5) ∷ Begun 12 3 reducing None ∷ filled

reduced_lengths : list_of (plain_state origin reduced) ≡ (5 ∷ [], 6) ∷ []
unfolding volumes_of place_of primary met leg_spot
reduced_lengths = refl

reduced_old : candidates origin reduced 0 0 ≡ OneOf (number_sector 7 ∷ [])
unfolding volumes_of place_of primary met leg_spot
reduced_old = refl

-- another name is the same volume
abbrev renamed : List ChronicleEntry
renamed = Changed 12 3 (Some version_6) ∷ Opened 12 3 (Some version_6) ∷ Begun 12 3 renaming None ∷ filled

renamed_key : key_of (plain_state origin renamed).volumes (6 ∷ []) ≡ Some 0
unfolding volumes_of place_of primary met leg_spot
renamed_key = refl

renamed_old : candidates origin renamed 0 0 ≡ OneOf (number_sector 7 ∷ [])
unfolding volumes_of place_of primary met leg_spot
renamed_old = refl

-- a volume that is removed and made again is another one
abbrev removed : List ChronicleEntry
removed = Answered 12 3 answer.Fine ∷ Changed 12 3 (Some version_1) ∷ Opened 12 3 (Some version_1) ∷ Begun 12 3 removing None ∷ filled

abbrev again : List ChronicleEntry
again = Changed 13 4 (Some version_7) ∷ Opened 13 4 (Some version_7) ∷ Begun 13 4 creating None ∷ removed

removed_volumes : list_of (plain_state origin removed) ≡ []
unfolding volumes_of place_of primary met leg_spot
removed_volumes = refl

again_key : key_of (plain_state origin again).volumes (5 ∷ []) ≡ Some 1
unfolding volumes_of place_of primary met leg_spot
again_key = refl

again_zero : candidates origin again 1 0 ≡ OneOf (zero_sector ∷ [])
unfolding volumes_of place_of primary met leg_spot
again_zero = refl

again_in_order : ordered_all (Answered 13 4 answer.Fine ∷ again) ≡ true
again_in_order = refl

-- a text that is restored: what it places elsewhere is open until then, and has what stands there; the rest stays
abbrev restores : Version → List ChronicleEntry
restores version = Opened 12 3 (Some version) ∷ Begun 12 3 restoring None ∷ filled

abbrev restored : Version → List ChronicleEntry
restored version = Changed 12 3 (Some version) ∷ restores version

restores_elsewhere : pending_candidates origin (restores version_3) (pending_step origin (restores version_3) 3 (Some version_3)) 0 0
    ≡ Anything
unfolding volumes_of place_of primary met leg_spot
restores_elsewhere = refl

restored_elsewhere : candidates origin (restored version_3) 0 0 ≡ OneOf ((99 ∷ []) ∷ [])
unfolding volumes_of place_of primary met leg_spot
restored_elsewhere = refl

restores_there : pending_candidates origin (restores version_4) (pending_step origin (restores version_4) 3 (Some version_4)) 0 0
    ≡ OneOf (number_sector 7 ∷ [])
unfolding volumes_of place_of primary met leg_spot
restores_there = refl

restored_there : candidates origin (restored version_4) 0 0 ≡ OneOf (number_sector 7 ∷ [])
unfolding volumes_of place_of primary met leg_spot
restored_there = refl

restored_more : candidates origin (restored version_4) 0 10 ≡ OneOf ((99 ∷ []) ∷ [])
unfolding volumes_of place_of primary met leg_spot
restored_more = refl

-- a fill of two sectors in two pieces: each may hold its number once it is begun, and it is answered once both took place, when they
-- may still be lost
abbrev in_pieces : List ChronicleEntry
in_pieces = Took 12 2 piece ∷ Begun 8 2 (filling 0 2 7) (Some 0) ∷ created

abbrev second_piece : Piece
second_piece = record { volume = 0; first = 1; count = 1; write = true }

pieces_first : candidates origin in_pieces 0 0 ≡ OneOf (zero_sector ∷ number_sector 7 ∷ [])
unfolding volumes_of place_of primary met leg_spot
pieces_first = refl

pieces_second : candidates origin in_pieces 0 1 ≡ OneOf (zero_sector ∷ number_sector 8 ∷ [])
unfolding volumes_of place_of primary met leg_spot
pieces_second = refl

pieces_early : is_in_order in_pieces (Answered 12 2 answer.Fine) ≡ false
pieces_early = refl

pieces_done : ordered_all (Answered 12 2 answer.Fine ∷ Took 12 2 second_piece ∷ in_pieces) ≡ true
pieces_done = refl

pieces_cached : candidates origin (Answered 12 2 answer.Fine ∷ Took 12 2 second_piece ∷ in_pieces) 0 1
    ≡ OneOf (zero_sector ∷ number_sector 8 ∷ [])
unfolding volumes_of place_of primary met leg_spot
pieces_cached = refl

-- and lvcreate's zeros are zeros before it has taken place
creating_zeros : pending_candidates origin (upto 7 flies) (pending_step origin (upto 7 flies) 1 (Some version_2)) 0 3
    ≡ OneOf (zero_sector ∷ [])
unfolding volumes_of place_of primary met leg_spot
creating_zeros = refl

creating_open : pending_candidates origin (upto 7 flies) (pending_step origin (upto 7 flies) 1 (Some version_2)) 0 8 ≡ Anything
unfolding volumes_of place_of primary met leg_spot
creating_open = refl

-- a commit that failed in its last step fences the group, and stays pending
fenced_so : fenced_by (Answered 14 3 (answer.PvFailed 0) ∷ extends_so) ≡ Some 0
fenced_so = refl

fenced_pending : pending (Answered 14 3 (answer.PvFailed 0) ∷ extends_so) ≡ Some (3, Some version_4)
fenced_pending = refl

-- one that is given up doesn't
given_up : fenced_by (Answered 14 3 (answer.PvFailed 0) ∷ GivenUp 14 3 ∷ extends_so) ≡ None
given_up = refl

abbrev read_piece : Piece
read_piece = record { volume = 0; first = 0; count = 1; write = false }

-- a read gives what the machine had at its piece's Took, also where a later fill was answered first
abbrev read_so : List ChronicleEntry
read_so = Took 12 4 piece ∷ Took 12 3 read_piece ∷ Begun 12 4 (filling 0 1 9) (Some 0) ∷ Begun 12 3 reading (Some 0) ∷ filled

read_gives : read_values origin read_so 3 (Some (reading, Some 0)) ≡ number_sector 7 ∷ []
unfolding volumes_of place_of primary met leg_spot
read_gives = refl

-- the disk of a pvcreate that wrote is left out until it is answered ok
left_out_disk : left_out origin (Begun 0 0 pvcreating None ∷ []) 1 0 ≡ true
unfolding number_named
left_out_disk = refl

not_left_out : left_out origin (Begun 0 0 pvcreating None ∷ []) 0 0 ≡ false
unfolding number_named
not_left_out = refl

back_again : left_out origin (Answered 4 0 answer.Fine ∷ Took 4 0 zero_piece ∷ Begun 0 0 pvcreating None ∷ []) 4 0 ≡ false
unfolding number_named
back_again = refl

-- it is too where that wrote and was refused
refused_out : left_out origin (Answered 4 0 (answer.Refused refusal.ReadOnly) ∷ Begun 0 0 pvcreating None ∷ []) 4 0 ≡ true
unfolding number_named
refused_out = refl

-- a write to another of its sectors isn't the pvcreate's
others_stay : left_out (record origin { told = record { opened = zeros; steps = write 1 10 9 ∷ [] } }) (Begun 0 0 pvcreating None ∷ []) 1 0
    ≡ false
unfolding number_named
others_stay = refl

-- ---- what isn't in order

-- a piece of a volume that isn't there, and one of a read that writes
unknown_takes : is_in_order (Begun 8 2 (filling 0 1 7) None ∷ created) (Took 12 2 piece) ≡ false
unknown_takes = refl

read_writes : is_in_order (Begun 12 3 reading (Some 0) ∷ filled) (Took 12 3 piece) ≡ false
read_writes = refl

-- a line on such a volume is refused alone
unknown_answers : (is_in_order (Begun 8 2 (filling 0 1 7) None ∷ created) (Answered 12 2 answer.Fine)
    || is_in_order (Begun 8 2 (filling 0 1 7) None ∷ created) (Answered 12 2 (answer.PvFailed 0))) ≡ false
unknown_answers = refl

unknown_refused : is_in_order (Begun 8 2 (filling 0 1 7) None ∷ created) (Answered 12 2 (answer.Refused (refusal.UnknownVolume (5 ∷ []))))
    ≡ true
unknown_refused = refl

-- a read that is answered ok, a fill that is answered by sectors, a list that is answered ok; and as they may be
abbrev was_read : List ChronicleEntry
was_read = Took 12 3 read_piece ∷ Begun 12 3 reading (Some 0) ∷ filled

abbrev was_listed : List ChronicleEntry
was_listed = Took 12 3 zero_piece ∷ Begun 12 3 listing None ∷ filled

answers_fit : is_in_order was_read (Answered 12 3 answer.Fine) ∷ is_in_order in_pieces (Answered 12 2 (answer.Read []))
    ∷ is_in_order was_listed (Answered 12 3 answer.Fine) ∷ [] ≡ false ∷ false ∷ false ∷ []
answers_fit = refl

answers_are : is_in_order was_read (Answered 12 3 (answer.Read (number_sector 7 ∷ [])))
    ∷ is_in_order was_listed (Answered 12 3 (answer.Listed [])) ∷ [] ≡ true ∷ true ∷ []
answers_are = refl

-- a second commit of an ordinary command; that of a move is
second_commit : is_in_order extended (Opened 13 3 (Some version_4)) ≡ false
second_commit = refl

second_move : is_in_order moved_so (Opened 13 3 (Some version_3)) ≡ true
second_move = refl

-- a fill that is refused once a piece of it took place: only where a commit that took its volume away, or made it shorter, stands
-- behind that piece
refused_late : is_in_order in_pieces (Answered 12 2 (answer.Refused (refusal.PastEnd 9 6))) ≡ false
refused_late = refl

abbrev shorter : List ChronicleEntry
shorter = Changed 12 3 (Some version_5) ∷ Opened 12 3 (Some version_5) ∷ Begun 12 3 reducing None ∷ in_pieces

refused_behind : is_in_order shorter (Answered 12 2 (answer.Refused (refusal.PastEnd 9 6))) ≡ true
refused_behind = refl

refused_otherwise : is_in_order shorter (Answered 12 2 (answer.Refused refusal.ReadOnly)) ≡ false
refused_otherwise = refl

refused_since : is_in_order (Took 12 2 second_piece ∷ shorter) (Answered 12 2 (answer.Refused (refusal.PastEnd 9 6))) ≡ false
refused_since = refl

-- a group that is being removed isn't left as it is
removal_given_up : is_in_order (Opened 12 1 None ∷ Begun 12 1 group_removing None ∷ made) (GivenUp 12 1) ≡ false
removal_given_up = refl

commit_given_up : is_in_order extends_so (GivenUp 13 3) ≡ true
commit_given_up = refl
