use Rattle.world_places.proofs.Entries.{tracked_by_begun, tracked_by_changed, tracked_by_failed, tracked_by_given_up, tracked_by_opened}
use Rattle.world_places.proofs.Entries.{tracked_by_take, tracked_by_took}
use Rattle.world_places.proofs.laws.entries_keep.Goals as goal

pub returns-clause-begun : goal.returns-clause-begun
returns-clause-begun c = λ g key x place m n line k new open' h. tracked_by_begun g key x place m n line k new open' h

pub returns-clause-opened : goal.returns-clause-opened
returns-clause-opened c = λ g key x place m n version h. tracked_by_opened g key x place m n version h

pub returns-clause-given_up : goal.returns-clause-given_up
returns-clause-given_up c = λ g key x place m n h. tracked_by_given_up g key x place m n h

pub returns-clause-changed : goal.returns-clause-changed
returns-clause-changed c = λ g key x place m n version unborn h. tracked_by_changed g key x place m n version unborn h

pub returns-clause-failed : goal.returns-clause-failed
returns-clause-failed c =
    λ g key x place m n piece lives real legs h. tracked_by_failed g key x place m n piece lives real legs h

pub returns-clause-took : goal.returns-clause-took
returns-clause-took c =
    λ g key x place m n piece lives written open' none real legs notes h.
    tracked_by_took g key x place m n piece lives written open' none real legs notes h

pub returns-clause-written : goal.returns-clause-written
returns-clause-written c =
    λ g key x place m n piece lives written l0 leg0 k note open' writing well value kept its noted late real legs notes h.
    tracked_by_take g key x place m n piece lives written l0 leg0 k note open' writing well value kept its noted late real legs
    notes h
