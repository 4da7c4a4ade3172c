-- What is written of a header, byte for byte, and which headers are read again.
use Rattle.std.specs.Prelude.{ℕ, if◌then◌else◌, List, ◌++◌, replicate, codes, Option, None, Some}
use Rattle.sector_base.specs.Fields.{little_bytes}
use Rattle.sector_base.specs.Checksum.{checksum, lvm_crc_start}
use Rattle.mda_header.specs.declared.header.Locn.{Locn}
use Rattle.mda_header.specs.declared.header.MdaHeader.{MdaHeader}
use Rattle.mda_header.specs.Header.{IsInside}

-- an entry with these flags
abbrev pub locn_bytes : Option Locn → ℕ → List ℕ
locn_bytes None flags = replicate 20 0 ++ little_bytes 4 flags
locn_bytes (Some locn) flags = little_bytes 8 locn.offset ++ (little_bytes 8 locn.size ++ (little_bytes 4 locn.sum ++ little_bytes 4 flags))

-- what the checksum of a header covers: its magic, version 1, the area's start and size, both entries, and zeros
unfoldable pub summed_bytes : MdaHeader → List ℕ
summed_bytes header =
    codes " LVM2 x[5A%r0N*>" ++ (little_bytes 4 1 ++ (little_bytes 8 header.start ++ (little_bytes 8 header.size
    ++ (locn_bytes header.committed (if header.ignored then 1 else 0) ++ (locn_bytes header.precommitted 0 ++ replicate 424 0)))))

-- the whole sector of a header
unfoldable pub header_bytes : MdaHeader → List ℕ
header_bytes header = little_bytes 4 (checksum lvm_crc_start (summed_bytes header)) ++ summed_bytes header

-- no text, or one inside of the area
abbrev pub IsNoneOrInside : ℕ → Option Locn → Type 0
IsNoneOrInside size None = Unit {0}
IsNoneOrInside size (Some locn) = IsInside size locn

-- a header whose texts lie in its area
pub record CanBeRead (header : MdaHeader) : Type 0 where
  pub committed : IsNoneOrInside header.size header.committed
  pub precommitted : IsNoneOrInside header.size header.precommitted
