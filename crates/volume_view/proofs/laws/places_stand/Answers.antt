use Rattle.volume_view.proofs.PrimariesStand.{primary_stands}
use Rattle.volume_view.proofs.laws.places_stand.Goals as goal

pub returns : goal.returns
returns c = λ group lv sector volume accepted is lt. primary_stands group lv sector volume accepted is lt
