use Rattle.std.proofs.Common.{◌≡◌, [], ◌∷◌}
use Rattle.dev_shelf.specs.MemShelf.{state_of_shelf}
use Rattle.shelf_tests.proofs.shelves.each_moment_of_a_long_record_has_its_images.Given as goal

abbrev pub invariant-loop-put : goal.invariant-loop-put
invariant-loop-put g l = record {
  idle : (state_of_shelf l.shelf).in_flight ≡ [];
  sizes : (state_of_shelf l.shelf).sizes ≡ 2112 ∷ 2112 ∷ [];
}
