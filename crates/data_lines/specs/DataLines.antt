-- Lines that read, write or flush a volume: which volume, which sectors, and what they bring.
use Rattle.std.specs.Prelude.{ℕ, ◌+◌, ◌*◌, ◌-◌, ◌/◌, ◌%◌, ◌^◌, nat_le, nat_lt, Bool, true, false, not, ◌&&◌, ◌||◌, List, [], ◌∷◌}
use Rattle.std.specs.Prelude.{length, take, drop, replicate, flat_map, unwrap_or, Option, Some, None}
use Rattle.std.specs.List.{range_with_len}
use Rattle.std.specs.Hash.{le_bytes}
use Rattle.hex.specs.Hex.{hex_digit_value}
use Rattle.command_table.specs.declared.command.Command.{Command}
use Rattle.command_table.specs.declared.command.Command.TheVariants.{Read, Fill, Write, Flush, List as Listing, Wait}
use Rattle.command_table.specs.declared.command.Path.{Path}

-- ---- sectors

-- a sector of 64 times this number
abbrev pub number_sector : ℕ → List ℕ
number_sector number = flat_map (λ (k : ℕ). le_bytes 8 (number % 2 ^ 64)) (range_with_len 0 64)

-- a sector of zeros
abbrev pub zero_sector : List ℕ
zero_sector = replicate 512 0

-- the bytes that hex digits say
abbrev pub bytes_of_hex : List ℕ → List ℕ
bytes_of_hex (high ∷ low ∷ rest) = (unwrap_or (hex_digit_value high) 0 * 16 + unwrap_or (hex_digit_value low) 0) ∷ bytes_of_hex rest
bytes_of_hex _ = []

-- ---- reads and writes

-- whether the command reads or writes sectors of a volume
abbrev pub is_data : Command → Bool
is_data (Read path start count) = true
is_data (Fill path start count value through) = true
is_data (Write path start hex through) = true
is_data _ = false

-- whether it reads them
abbrev pub is_read : Command → Bool
is_read (Read path start count) = true
is_read _ = false

-- whether it writes them
abbrev pub writes : Command → Bool
writes (Fill path start count value through) = true
writes (Write path start hex through) = true
writes _ = false

-- whether its answer ok says that what it wrote lasts
abbrev pub is_through : Command → Bool
is_through (Fill path start count value through) = through
is_through (Write path start hex through) = through
is_through _ = false

-- whether its answer ok says that what was written to its volume before lasts
abbrev pub is_flush : Command → Bool
is_flush (Flush path) = true
is_flush _ = false

-- whether it is a command: no line that reads, writes or flushes a volume
abbrev pub is_command : Command → Bool
is_command command = not (is_data command || is_flush command)

-- the sectors that it reads or writes: the first, and how many
abbrev pub range_of : Command → Option (ℕ × ℕ)
range_of (Read path start count) = Some (start, count)
range_of (Fill path start count value through) = Some (start, count)
range_of (Write path start hex through) = Some (start, length hex / 1024)
range_of _ = None

-- what it has for this sector of the volume
abbrev pub value_for : Command → ℕ → List ℕ
value_for (Fill path start count value through) x = number_sector (value + (x - start))
value_for (Write path start hex through) x = bytes_of_hex (take 1024 (drop ((x - start) * 1024) hex))
value_for _ x = []

-- whether the sector is one of so many from the first on
abbrev pub in_range : ℕ → ℕ → ℕ → Bool
in_range first count x = nat_le first x && nat_lt x (first + count)

-- whether the sector is in this range, if there is one
abbrev pub range_covers : Option (ℕ × ℕ) → ℕ → Bool
range_covers None x = false
range_covers (Some range) x = in_range range.0 range.1 x

-- whether the command reads or writes the sector
abbrev pub covers_sector : Command → ℕ → Bool
covers_sector command x = range_covers (range_of command) x

-- the volume that it names, where it reads, writes or flushes one
abbrev pub volume_named : Command → Option Path
volume_named (Read path start count) = Some path
volume_named (Fill path start count value through) = Some path
volume_named (Write path start hex through) = Some path
volume_named (Flush path) = Some path
volume_named _ = None

-- whether it is one of the lines that run beside others: it reads, writes or flushes a volume, lists the volumes, or waits for all
-- lines before it
abbrev pub runs_beside : Command → Bool
runs_beside Listing = true
runs_beside Wait = true
runs_beside command = not (is_command command)
