use Rattle.seg_place.proofs.deciding.+first_met.Given as goal

abbrev pub decreases-first_met : goal.decreases-first_met
decreases-first_met g l = l.most
