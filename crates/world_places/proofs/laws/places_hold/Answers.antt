use Rattle.world_places.proofs.Beginning.{place_of_tracked}
use Rattle.world_places.proofs.Volumes.{primaries_of_tracked}
use Rattle.world_places.proofs.laws.places_hold.Goals as goal

pub returns-clause-place : goal.returns-clause-place
returns-clause-place c = λ g key x place lives h. place_of_tracked g key x place lives h

pub returns-clause-volumes : goal.returns-clause-volumes
returns-clause-volumes c = λ g placed plain lives h. primaries_of_tracked g placed plain lives h
