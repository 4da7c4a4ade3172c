use Rattle.volume_history.proofs.Viewed.{volumes_seen}
use Rattle.volume_history.proofs.laws.volumes_are_viewed.Goals as goal

pub returns : goal.returns
returns c =
    λ image version accepted. volumes_seen image version
    (λ lv sector volume is lt. c.places_stand.ensures version.group lv sector volume accepted is lt)
