-- The text is the group's.
use Rattle.std.proofs.Common.{ℕ, List, MatchResult, ap, subst, ◌∙◌}
use Rattle.conf_text.specs.Printed.{printed}
use Rattle.meta_model.specs.declared.group.Group.{Group}
use Rattle.meta_print.specs.Layout.{tree_of}
use Rattle.vg_commit.specs.declared.prepared.Prepared.{Prepared}
use Rattle.vg_commit.specs.Preparing.{IsPrepared}
use Rattle.vg_commit.specs.TooLarge.{IsCause}
use Rattle.vg_commit.proofs.preparing.prepare.Goals as goal

pub returns-clause-prepared : goal.returns-clause-prepared
returns-clause-prepared c =
    subst (λ (t : List ℕ). MatchResult c.prepare_text.result (λ (prepared : Prepared). IsPrepared prepared c.args.areas.now c.args.flush t)
    (IsCause t c.args.areas.now))
    (c.in_ok-text.ensures ∙ ap (λ (g : Group). printed (tree_of g c.args.now)) c.group.ensures.group) c.prepare_text.ensures.prepared
