use Rattle.std.proofs.Common.{◌≡◌, ◌∷◌, take}
use Rattle.mirror_io.proofs.used_legs.all_legs.Given as goal

abbrev pub invariant-loop-other : goal.invariant-loop-other
invariant-loop-other l = l.legs ≡ l.places.primary ∷ take l.other-index l.places.others
