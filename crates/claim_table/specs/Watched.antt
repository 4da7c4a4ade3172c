-- Which deferred pieces may have become ready.
use Rattle.std.specs.Prelude.{◌≡◌, false, List, [], ◌∷◌, ◌++◌}
use Rattle.std.specs.List.{list_any}
use Rattle.claim_table.specs.declared.claim.Claim.{Claim}
use Rattle.claim_table.specs.Claims.{Claims, is_free}
use Rattle.claim_table.specs.Conflict.{clash}

-- each of these pieces, before which those were deferred, conflicts with something, unless it clashes with one of those that left
abbrev pub IsWatched : Claims → List Claim → List Claim → List Claim → Type 0
IsWatched claims left earlier [] = Unit {0}
IsWatched claims left earlier (c ∷ later) =
    (list_any (λ x. clash x c) left ≡ false → is_free claims earlier c ≡ false) × IsWatched claims left (earlier ++ c ∷ []) later
