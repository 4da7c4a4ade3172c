use Rattle.region_log.proofs.FirstUnsynced.{first_of_all}
use Rattle.region_log.proofs.log.RegionLog.new.Goals as goal

pub invariant_of-result : goal.invariant_of-result
invariant_of-result c = rw (c.in_ok-vec.ensures.items_if_clones_equal (λ y h. h)) (first_of_all _)
