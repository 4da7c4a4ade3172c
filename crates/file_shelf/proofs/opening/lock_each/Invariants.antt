-- Each file is still to come, or it is locked.
use Rattle.std.proofs.Common.{◌<◌, length, get_or, All}
use Rattle.file_shelf.proofs.Walked.{Walked}
use Rattle.file_shelf.proofs.opening.lock_each.Given as goal
use Rattle.file_shelf.specs.declared.image.Unmeasured.{Unmeasured}

abbrev pub invariant-loop-number : goal.invariant-loop-number
invariant-loop-number g l = record {
  within : All (λ k. k < length l.files.items) l.number-iterator;
  each : Walked (λ k. (d : Unmeasured _) → g.F.ImageFile.Holds (get_or l.files.items k d).file l.access)
      (length l.files.items) l.number-iterator;
}
