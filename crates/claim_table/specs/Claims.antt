-- The pieces under way and those that wait, and what a piece conflicts with.
use Rattle.std.specs.Prelude.{◌≡◌, ℕ, suc, if◌then◌else◌, Bool, false, ◌==◌, not, ◌&&◌, ◌||◌, Option, List, [], ◌∷◌, ◌++◌, IsTrue, AllPairs}
use Rattle.std.specs.Prelude.{All}
use Rattle.std.specs.Option.{option_map_or}
use Rattle.std.specs.List.{list_any}
use Rattle.claim_table.specs.declared.claim.Claim.{Claim}
use Rattle.claim_table.specs.declared.claim.By.{By}
use Rattle.claim_table.specs.declared.claim.By.TheVariants.{Piece, Region, Suspended}
use Rattle.claim_table.specs.declared.claim.Entry.{Entry}
use Rattle.claim_table.specs.declared.claim.Entry.TheVariants.{Started, Deferred}
use Rattle.claim_table.specs.Conflict.{clash}

-- the started pieces and the deferred ones, each in the order of their numbers, the region that is closed, the volumes that
-- are suspended, and for how many pieces more there is room
pub record Claims : Type 0 where
  pub started : List Claim
  pub deferred : List Claim
  pub closed : Option ℕ
  pub suspended : List ℕ
  pub spare : ℕ

-- whether the piece lies in the region
abbrev pub lies_in : ℕ → Claim → Bool
lies_in region c = option_map_or (λ r. r == region) c.region false

-- whether the piece lies in the closed region
abbrev pub is_shut_out : Claims → Claim → Bool
is_shut_out claims c = option_map_or (λ region. lies_in region c) claims.closed false

-- whether the volume is suspended
abbrev pub is_suspended : Claims → ℕ → Bool
is_suspended claims volume = list_any (λ v. v == volume) claims.suspended

-- whether a piece of this number among these clashes with the one
abbrev pub clashes_with : Claim → ℕ → List Claim → Bool
clashes_with c number others = list_any (λ d. (d.number == number) && clash d c) others

-- whether the piece conflicts with this, where these were deferred before it
abbrev pub conflicts : Claims → List Claim → Claim → By → Bool
conflicts claims earlier c (Piece number) = clashes_with c number claims.started || clashes_with c number earlier
conflicts claims earlier c (Region region) = option_map_or (λ r. r == region) claims.closed false && lies_in region c
conflicts claims earlier c (Suspended volume) = is_suspended claims volume && (c.piece.volume == volume)

-- whether the piece conflicts with nothing, where these were deferred before it
abbrev pub is_free : Claims → List Claim → Claim → Bool
is_free claims earlier c =
    not (list_any (λ d. clash d c) claims.started) && not (list_any (λ d. clash d c) earlier)
    && not (is_shut_out claims c) && not (is_suspended claims c.piece.volume)

-- what an entering piece is answered: that it started where it conflicts with nothing, else one thing that it conflicts with
abbrev pub IsEntry : Claims → Claim → Entry → Type 0
IsEntry claims c Started = IsTrue (is_free claims claims.deferred c)
IsEntry claims c (Deferred by) = IsTrue (conflicts claims claims.deferred c by)

-- how many deferred pieces stand before the first that conflicts with nothing, or all of them, where these came before
abbrev pub ready_after : Claims → List Claim → List Claim → ℕ
ready_after claims earlier [] = 0
ready_after claims earlier (c ∷ later) = if is_free claims earlier c then 0 else suc (ready_after claims (earlier ++ c ∷ []) later)

-- the place of the first deferred piece that conflicts with nothing, or their number
abbrev pub ready_at : Claims → ℕ
ready_at claims = ready_after claims [] claims.deferred

-- no two started pieces conflict, and none lies in the closed region
pub record IsApart (claims : Claims) : Type 0 where
  pub pairwise : AllPairs (λ c d. clash c d ≡ false) claims.started
  pub outside : All (λ c. is_shut_out claims c ≡ false) claims.started
