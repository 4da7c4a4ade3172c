-- What a sector is.
use Rattle.std.specs.Prelude.{◌≡◌, ℕ, ◌<◌, List, length, All}

-- a sector: 512 bytes
pub record IsSector (sector : List ℕ) : Type 0 where
  pub long : length sector ≡ 512
  pub bytes : All (λ b. b < 256) sector
