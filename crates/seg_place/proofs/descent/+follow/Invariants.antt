use Rattle.seg_place.proofs.descent.+follow.Given as goal

abbrev pub decreases-follow : goal.decreases-follow
decreases-follow g l = l.most
