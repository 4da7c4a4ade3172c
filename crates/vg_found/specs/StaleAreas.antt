-- On which disk an area is.
use Rattle.std.specs.Prelude.{ℕ, Bool, ◌==◌}

-- whether the area is on the disk
abbrev pub is_on : ℕ → ℕ × ℕ → Bool
is_on pv area = area.0 == pv
