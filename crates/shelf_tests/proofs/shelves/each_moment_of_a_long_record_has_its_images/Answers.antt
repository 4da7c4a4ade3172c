-- The disks are as large as they were made.
use Rattle.std.proofs.Common.{◌≡◌, ℕ, List, [], ◌∷◌, length, slice_index_or, ap, ◌∙◌, arith}
use Rattle.disk_model.specs.State.{State}
use Rattle.dev_shelf.specs.DiskRow.{lengths_of}
use Rattle.shelf_tests.proofs.shelves.each_moment_of_a_long_record_has_its_images.Goals as goal

two_sizes : (images : List (List (List ℕ))) → length images ≡ 2 → length (slice_index_or images 0 []) ≡ 2112
    → length (slice_index_or images 1 []) ≡ 2112 → lengths_of images ≡ 2112 ∷ 2112 ∷ []
two_sizes [] many first second = absurd (omega arith)
two_sizes (a ∷ []) many first second = absurd (omega arith)
two_sizes (a ∷ b ∷ []) many first second =
    let one : length a ≡ 2112 = first in
    let two : length b ≡ 2112 = second in
    ap (λ (n : ℕ). n ∷ length b ∷ []) one ∙ ap (λ (n : ℕ). 2112 ∷ n ∷ []) two
two_sizes (a ∷ b ∷ c ∷ ds) many first second = absurd (omega arith)

pub loop-put-init : goal.loop-put-init
loop-put-init g c =
    let made = c.in_ok-shelf.ensures in
    record {
      idle = ap (λ (s : State). s.in_flight) made.4;
      sizes = ap (λ (s : State). s.sizes) made.4 ∙ two_sizes made.0 made.1 made.2 made.3;
    }
