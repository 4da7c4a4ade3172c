-- One image that a crash may leave, named by a list of choices.
use Rattle.std.specs.Prelude.{◌≡◌, ◌<◌, ℕ, ◌%◌, ◌^◌, All, nat_lt, if◌then◌else◌, List, [], ◌∷◌, length, map, drop, flat_map, slice_index}
use Rattle.std.specs.Prelude.{slice_index_or, Option, None}
use Rattle.std.specs.List.{range_with_len}
use Rattle.disk_model.specs.Steps.{Image, Record}
use Rattle.disk_model.specs.ValueList.{values}
use Rattle.dev_shelf.specs.DiskRow.{image_of, lengths_of}

-- the value of this number modulo how many there are
abbrev pub value_number : List (Option ℕ × List ℕ) → ℕ → List ℕ
value_number all number = (slice_index_or all (number % length all) (None, [])).1

-- of each list of values one: of a list of more than one the value of the next choice's number, and of each list after
-- the last choice the first value
abbrev pub chosen_values : List (List (Option ℕ × List ℕ)) → List ℕ → List (List ℕ)
chosen_values [] choices = []
chosen_values (all ∷ rest) choices =
    if nat_lt 1 (length all) then value_number all (slice_index choices 0) ∷ chosen_values rest (drop 1 choices) else value_number all 0
    ∷ chosen_values rest choices

-- the values of each of the first so many sectors of the disk, in order
abbrev pub disk_values : Record → ℕ → ℕ → List (List (Option ℕ × List ℕ))
disk_values told pv count = map (λ sector. values told.opened told.steps pv sector) (range_with_len 0 count)

-- the values of each sector of the first so many disks, in order of disk and sector
abbrev pub row_values : Record → List ℕ → ℕ → List (List (Option ℕ × List ℕ))
row_values told sizes count = flat_map (λ pv. disk_values told pv (slice_index sizes pv)) (range_with_len 0 count)

-- the images, of disks of these sizes, are what the choices choose
pub record IsChosen (told : Record) (sizes : List ℕ) (choices : List ℕ) (images : List (List (List ℕ))) : Type 0 where
  pub sizes_same : lengths_of images ≡ sizes
  pub sectors : flat_map (λ disk. disk) images ≡ chosen_values (row_values told sizes (length sizes)) choices

-- the disks, of these sizes, have the image's sectors
abbrev pub HasSectors : List ℕ → List (List (List ℕ)) → Image → Type 0
HasSectors sizes images image = (pv sector : ℕ) → sector < slice_index_or sizes pv 0 → image_of images pv sector ≡ image pv sector

-- some choices choose this image
abbrev pub CanBeChosen : Record → List ℕ → Image → Type 0
CanBeChosen told sizes image =
    (choices : List ℕ) × All (λ c. c < 2 ^ 64) choices
    × ((images : List (List (List ℕ))) → IsChosen told sizes choices images → HasSectors sizes images image)
