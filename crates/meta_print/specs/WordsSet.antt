-- Words that are set, as the code has them.
use Rattle.std.specs.Prelude.{ℕ, Bool, List, flat_map}
use Rattle.std.specs.Borrow.{Bor}
use Rattle.meta_print.specs.Layout.{word_if}

-- those that are set, in their order
abbrev pub words_set : List (Bool × Bor (List ℕ)) → List (List ℕ)
words_set pairs = flat_map (λ pair. word_if pair.0 pair.1.now) pairs
