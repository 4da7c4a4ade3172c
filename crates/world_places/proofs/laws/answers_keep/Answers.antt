use Rattle.world_places.proofs.Acknowledging.{tracked_by_ok}
use Rattle.world_places.proofs.Entries.{tracked_by_answer}
use Rattle.world_places.proofs.laws.answers_keep.Goals as goal

pub returns-clause-answered : goal.returns-clause-answered
returns-clause-answered c = λ g key x place m n said open' bad h. tracked_by_answer g key x place m n said open' bad h

pub returns-clause-ok : goal.returns-clause-ok
returns-clause-ok c = λ g key x place m n are none h. tracked_by_ok g key x place m n are none h
