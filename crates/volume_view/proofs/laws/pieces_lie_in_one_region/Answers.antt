use Rattle.volume_view.proofs.OthersApart.{places_are}
use Rattle.volume_view.proofs.SideBySide.{places_later, way_same}
use Rattle.volume_view.proofs.laws.pieces_lie_in_one_region.Goals as goal

pub returns : goal.returns
returns c = λ group lv sector count p accepted same is. (
  places_later group lv sector count p accepted same is,
  way_same group lv sector count p.primary accepted same (places_are group lv sector p is).is_primary,
)
