use Rattle.std.proofs.Common.{◌≡◌, ap}
use Rattle.volume_view.specs.InSegments.{Spot}
use Rattle.volume_view.specs.Copies.{sector_of}
use Rattle.volume_view.proofs.CopiesApart.{same_number}
use Rattle.volume_view.proofs.PrimariesApart.{primaries_apart, visible_is_free}
use Rattle.volume_view.proofs.OthersApart.{primary_is_no_other}
use Rattle.volume_view.proofs.laws.places_lie_apart.Goals as goal

pub returns-clause-primaries : goal.returns-clause-primaries
returns-clause-primaries c = λ group lv other sector other_sector at accepted top top' here there.
    let same : sector_of lv sector ≡ sector_of other other_sector =
    primaries_apart group lv other sector other_sector at accepted top top' here there in
    (same_number lv other (ap (λ (s : Spot). s.on) same), ap (λ (s : Spot). s.sector) same)

pub returns-clause-others : goal.returns-clause-others
returns-clause-others c =
    λ group lv other sector other_sector at p accepted top top' here there within. primary_is_no_other group lv other sector other_sector at
    p accepted top top' here there within

pub returns-clause-visible : goal.returns-clause-visible
returns-clause-visible c =
    λ group lv sector volume accepted is visible. visible_is_free group lv sector volume.1 accepted (volume.0, is) visible
