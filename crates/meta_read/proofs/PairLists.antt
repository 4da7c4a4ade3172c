-- A scalar alone is no pair.
use Rattle.std.proofs.Common.{◌≡◌, ◌<◌, false, true, true≢false, ◌==◌, List, [], ◌∷◌, length, map, None, refl, arith}
use Rattle.conf_text.specs.declared.tree.Scalar.{Scalar}
use Rattle.conf_text.specs.declared.tree.Scalar.TheVariants.{Number, Text}
use Rattle.conf_text.specs.Views.{scalar_view}
use Rattle.meta_model.specs.Keys.{pairs_of}

pub pairs_of-one : (rest : List Scalar) → length rest < 2 → (length rest == 0) ≡ false → pairs_of (map scalar_view rest) ≡ None
pairs_of-one [] short some = absurd (true≢false some)
pairs_of-one (Number n ∷ []) short some = refl
pairs_of-one (Text s ∷ []) short some = refl
pairs_of-one (x ∷ y ∷ rest) short some = absurd (omega (arith, short))
