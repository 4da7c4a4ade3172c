-- The set is empty exactly where no mark is set.
use Rattle.std.proofs.Common.{◌≡◌, ◌∙◌, sym, refl, true, false}
use Rattle.std.proofs.Math.Bool.{beq}
use Rattle.sector_base.proofs.PvSetLemmas.{empty-list_any, list_any-empty, not-false}
use Rattle.sector_base.proofs.pv_set.PvSet.is_empty.Goals as goal

pub returns : goal.returns
returns c = (
  λ none. sym c.self.view_is ∙ empty-list_any (λ y. beq y true) refl c.self.inside.has 0
      (sym c.contains.ensures.value ∙ not-false c.contains.result none),
  λ none. let is_false : c.contains.result ≡ false = c.contains.ensures.value
      ∙ list_any-empty (λ y. beq y true) refl c.self.inside.has (c.self.view_is ∙ none) in rw is_false refl,
)
