use Rattle.std.proofs.Common.{◌≡◌, false, sym, subst, ◌∙◌}
use Rattle.meta_model.specs.declared.group.Group.{Group}
use Rattle.volume_rules.specs.Moving.{leads_to_pvmove}
use Rattle.group_tests.proofs.edits.without.Goals as goal

pub without_volume-requires-clause-still : goal.without_volume-requires-clause-still
without_volume-requires-clause-still g c =
    subst (λ (g : Group). leads_to_pvmove g 4 c.expect-number.result ≡ false) c.group-found.ensures.group (sym c.is_moving.ensures ∙ search)
