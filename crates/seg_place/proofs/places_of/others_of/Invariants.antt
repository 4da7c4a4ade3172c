use Rattle.std.proofs.Common.{◌≡◌, ◌≤◌, ◌+◌, ◌++◌, length}
use Rattle.volume_view.specs.Places.{others_of}
use Rattle.seg_place.specs.CodeValues.{seen}
use Rattle.seg_place.proofs.OtherLegs.{others_from}
use Rattle.seg_place.proofs.places_of.others_of.Given as goal

abbrev pub invariant-loop-leg : goal.invariant-loop-leg
invariant-loop-leg g l =
    record {
      so_far : l.others ++ others_from l.group (seen l.met) l.leg ≡ others_of l.group (seen l.met);
      few : length l.others + 1 ≤ l.leg;
    }
