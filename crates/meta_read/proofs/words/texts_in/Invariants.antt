-- The words so far, and then those of the scalars that are left.
use Rattle.std.proofs.Common.{◌≡◌, ◌++◌, drop, map, option_map}
use Rattle.conf_text.specs.Views.{scalar_view}
use Rattle.meta_model.specs.Keys.{texts_of}
use Rattle.meta_read.specs.Reading.{as_words}
use Rattle.meta_read.proofs.words.texts_in.Given as goal

abbrev pub invariant-loop-scalar : goal.invariant-loop-scalar
invariant-loop-scalar l =
    texts_of (map scalar_view l.scalars) ≡ option_map (λ more. as_words l.words ++ more)
    (texts_of (map scalar_view (drop l.scalar-index l.scalars)))
