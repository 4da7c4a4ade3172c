-- How many extents a volume is to have.
use Rattle.std.specs.Prelude.{◌≤◌, ◌<◌, ℕ, ◌-◌, ◌^◌}
use Rattle.command_table.specs.declared.amount.Amount.{Amount}
use Rattle.command_table.specs.declared.amount.Amount.TheVariants.{Extents, Sectors}
use Rattle.command_table.specs.declared.amount.Growth.{Growth}
use Rattle.command_table.specs.declared.amount.Growth.TheVariants.{By, To}
use Rattle.meta_model.specs.declared.lv.Lv.{Lv}
use Rattle.group_edits.specs.ShortenedVolume.{kept_of, parts_of}

-- an amount in extents of so many sectors, a size rounded up to whole ones
abbrev pub extents_for : ℕ → Amount → ℕ
extents_for extent_size (Extents count) = count
extents_for extent_size (Sectors count) = parts_of count extent_size

-- the same of a volume whose extents have so many sectors, rounded up to whole stripes of the segment that it ends in
abbrev pub kept_by : ℕ → Amount → Lv → ℕ
kept_by extent_size amount lv = kept_of lv.segments (extents_for extent_size amount)

-- how many extents more than it has a volume is to have
abbrev pub growth_for : ℕ → ℕ → Growth → ℕ
growth_for extent_size has (To amount) = extents_for extent_size amount - has
growth_for extent_size has (By amount) = extents_for extent_size amount

-- an amount as words have it: an extent or more that fit 64 bits, or a sector or more, below 2^48
abbrev pub IsAmount : Amount → Type 0
IsAmount (Extents count) = (1 ≤ count) × (count < 2 ^ 64)
IsAmount (Sectors count) = (1 ≤ count) × (count < 2 ^ 48)

-- a growth as words have it
abbrev pub IsGrowth : Growth → Type 0
IsGrowth (To amount) = IsAmount amount
IsGrowth (By amount) = IsAmount amount
