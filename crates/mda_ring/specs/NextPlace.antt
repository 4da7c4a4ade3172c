-- The place of the next text.
use Rattle.std.specs.Prelude.{◌≡◌, ℕ, ◌-◌, ◌*◌, ◌%◌, ◌<◌, ◌≤◌, Option, None, Some}
use Rattle.mda_header.specs.declared.header.Locn.{Locn}
use Rattle.mda_ring.specs.declared.place.Place.{Place}
use Rattle.mda_ring.specs.declared.refusal.RingRefusal.{RingRefusal}
use Rattle.mda_ring.specs.declared.refusal.RingRefusal.TheVariants.{NoMemory, TooLarge, SumDiffers}
use Rattle.mda_ring.specs.Ring.{Touches, need, next_offset, room}

-- the place of a text of so many bytes, for which the committed text leaves room
pub record IsNext (size : ℕ) (committed : Option Locn) (count : ℕ) (place : Place) : Type 0 where
  pub offset_is : place.offset ≡ next_offset size committed
  pub sectors_is : place.sectors ≡ need count
  pub has_room : need count ≤ room size committed

-- a text of so many bytes has no room, and these are the sectors that it needs and those that there are
abbrev pub IsTooLarge : ℕ → Option Locn → ℕ → RingRefusal → Type 0
IsTooLarge size committed count (TooLarge need' room') = (need' ≡ need count) × (room' ≡ room size committed) × (room' < need')
IsTooLarge size committed count NoMemory = ⊥
IsTooLarge size committed count (SumDiffers said found) = ⊥

-- the place is whole sectors of the ring, none of them twice
pub record IsInRing (size : ℕ) (place : Place) : Type 0 where
  pub is_whole : place.offset % 512 ≡ 0
  pub behind_header : 512 ≤ place.offset
  pub before_end : place.offset < size
  pub fits : 512 * place.sectors ≤ size - 512

-- no sector of the place is touched by the committed text
abbrev pub IsApart : ℕ → Option Locn → Place → Type 0
IsApart size None place = Unit {0}
IsApart size (Some text) place =
    (sector : ℕ) → Touches size place.offset (512 * place.sectors) sector → ¬ Touches size text.offset text.size sector
