use Rattle.world_places.proofs.Beginning.{tracked_at_birth, tracked_at_open, tracked_by_now}
use Rattle.world_places.proofs.laws.places_begin.Goals as goal

pub returns-clause-opening : goal.returns-clause-opening
returns-clause-opening c = λ g key x place none idle only. tracked_at_open g key x place none idle only

pub returns-clause-birth : goal.returns-clause-birth
returns-clause-birth c = λ g key x place e es same born idle only. tracked_at_birth g key x place e es same born idle only

pub returns-clause-now : goal.returns-clause-now
returns-clause-now c = λ g key x place steady idle only. tracked_by_now g key x place steady idle only
