use Rattle.world_places.proofs.Pieces.{tracked_by_forgot, tracked_by_lives}
use Rattle.world_places.proofs.laws.lives_keep.Goals as goal

pub returns-clause-lives : goal.returns-clause-lives
returns-clause-lives c =
    λ g key x place lives written told real legs notes h. tracked_by_lives g key x place told lives written real legs notes h

pub returns-clause-forgot : goal.returns-clause-forgot
returns-clause-forgot c = λ g key x place number disk told h. tracked_by_forgot g key x place told number disk h
