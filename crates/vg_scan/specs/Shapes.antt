-- What of areas as they read is known whatever stands on their disk.
use Rattle.std.specs.Prelude.{◌≡◌, ◌/◌, ℕ, List, [], ◌∷◌}
use Rattle.std.specs.List.{AllByRecursion}
use Rattle.disk_contents.specs.declared.contents.AreaFound.{AreaFound}
use Rattle.scan_rules.specs.Decision.{Area as AreaOf}
use Rattle.scan_rules.specs.Readings.{GivesAtMost}
use Rattle.scan_rules.specs.declared.readings.AreaRead.{AreaRead}

-- the area lies where it was found
pub record HasPlace (found : AreaFound) (area : AreaOf) : Type 0 where
  pub start_is : found.area.offset / 512 ≡ area.start
  pub sectors_is : found.area.size / 512 ≡ area.sectors

-- areas in their order
abbrev pub HavePlaces : List AreaFound → List AreaOf → Type 0
HavePlaces [] [] = Unit {0}
HavePlaces [] (area ∷ areas) = ⊥
HavePlaces (found ∷ more) [] = ⊥
HavePlaces (found ∷ more) (area ∷ areas) = HasPlace found area × HavePlaces more areas

-- each number of a copy is that of one of so many
abbrev pub AreasGiveAtMost : ℕ → List AreaRead → Type 0
AreasGiveAtMost count areas = AllByRecursion (λ (area : AreaRead). GivesAtMost count area.gives) areas
