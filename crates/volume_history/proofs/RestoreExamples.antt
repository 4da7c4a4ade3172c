-- A small restore, evaluated: a volume that moves in part and is renamed, one that is gone, and one that is new.
use Rattle.std.proofs.Common.{◌≡◌, ℕ, true, false, [], ◌∷◌, Some, refl}
use Rattle.disk_model.specs.Steps.{Image}
use Rattle.line_table.specs.Machine.{PlainState, PlainStep, key_of, list_of, plain_after, sectors_of}
use Rattle.volume_history.proofs.SmallGroups.{restoring, version_8, version_9}
use Rattle.volume_history.specs.Candidates.{is_born}
use Rattle.volume_history.specs.Changing.{ChangesVolumes, HaveOwnIds, HaveOwnNames}
use Rattle.volume_history.specs.Placed.{PlacedVolume, place_of, volumes_of}
use Rattle.volume_history.specs.Replay.{command_step}
use Rattle.volume_history.specs.Reshaping.{state_before}
use Rattle.volume_view.specs.InSegments.{leg_spot, met}
use Rattle.volume_view.specs.Places.{primary}

-- what an image shows says which it is, and the sector
abbrev opening : Image
opening pv sector = 1 ∷ sector ∷ []

abbrev later : Image
later pv sector = 2 ∷ sector ∷ []

abbrev state : PlainState
state = state_before (Some version_8) opening

abbrev step : PlainStep
step = command_step restoring.command (Some version_8) (Some version_9) state later

abbrev after : PlainState
after = plain_after state step

-- ids and names differ, in another order
changes : ChangesVolumes restoring.command (Some version_8) (Some version_9)
unfolding volumes_of place_of primary met leg_spot
changes = ((refl, (refl, tt)), (refl, (refl, tt)), refl)

-- the volumes in the order of the text; the one that stood keeps its key, and the new one has the next
restored_list : list_of after ≡ (7 ∷ [], 1) ∷ (8 ∷ [], 4) ∷ []
unfolding volumes_of place_of primary met leg_spot
restored_list = refl

old_key : key_of after.volumes (8 ∷ []) ≡ Some 0
unfolding volumes_of place_of primary met leg_spot
old_key = refl

new_key : key_of after.volumes (7 ∷ []) ≡ Some 2
unfolding volumes_of place_of primary met leg_spot
new_key = refl

next_key : after.next_key ≡ 3
unfolding volumes_of place_of primary met leg_spot
next_key = refl

-- the sectors that stay, and then those that lie elsewhere
old_sectors : sectors_of after.volumes 0 ≡ (1 ∷ 10 ∷ []) ∷ (1 ∷ 11 ∷ []) ∷ (2 ∷ 30 ∷ []) ∷ (2 ∷ 31 ∷ []) ∷ []
unfolding volumes_of place_of primary met leg_spot
old_sectors = refl

stays : is_born step state 0 1 ≡ false
unfolding volumes_of place_of primary met leg_spot
stays = refl

moves : is_born step state 0 2 ≡ true
unfolding volumes_of place_of primary met leg_spot
moves = refl

-- all of a new volume are given, also where another one stood
new_sectors : sectors_of after.volumes 2 ≡ (2 ∷ 20 ∷ []) ∷ []
unfolding volumes_of place_of primary met leg_spot
new_sectors = refl

-- one that is gone has none
gone : sectors_of after.volumes 1 ≡ []
unfolding volumes_of place_of primary met leg_spot
gone = refl

-- two of one id, or of one name, aren't such volumes
abbrev volume : ℕ → ℕ → PlacedVolume
volume id name = record { id = id ∷ []; name = name ∷ []; places = [] }

one_id : HaveOwnIds (volume 50 5 ∷ volume 60 6 ∷ volume 50 7 ∷ []) → ⊥
one_id own = let none = own.0 in cc

one_name : HaveOwnNames (volume 50 5 ∷ volume 60 6 ∷ volume 70 5 ∷ []) → ⊥
one_name own = let none = own.0 in cc
