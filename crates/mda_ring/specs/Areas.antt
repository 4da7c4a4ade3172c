-- Which metadata areas can be used.
use Rattle.std.specs.Prelude.{◌≡◌, ◌≢◌, ◌≤◌, ◌⊎◌, ◌+◌, ◌%◌, ◌^◌, Option, IfSome}
use Rattle.mda_header.specs.declared.header.Locn.{Locn}
use Rattle.mda_header.specs.Header.{IsInside}
use Rattle.mda_ring.specs.declared.area.Area.{Area}

-- an area of whole sectors, of a header and at least two sectors more, that lies in the first 2^49 bytes of its disk
pub record IsArea (area : Area) : Type 0 where
  pub start_is_whole : area.start % 512 ≡ 0
  pub size_is_whole : area.size % 512 ≡ 0
  pub has_ring : 1536 ≤ area.size
  pub ends : area.start + area.size ≤ 2 ^ 49

-- two areas share no sector
abbrev pub LieApart : Area × Option Locn → Area × Option Locn → Type 0
LieApart a b = (a.0.pv ≢ b.0.pv) ⊎ ((a.0.start + a.0.size ≤ b.0.start) ⊎ (b.0.start + b.0.size ≤ a.0.start))

-- an area that the next text can be placed in
abbrev pub CanTake : Area × Option Locn → Type 0
CanTake area = IsArea area.0 × IfSome area.1 (IsInside area.0.size)
