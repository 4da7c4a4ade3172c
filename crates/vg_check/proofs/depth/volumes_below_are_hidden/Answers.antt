use Rattle.std.proofs.Common.{rules, sym, subst, arith}
use Rattle.std.specs.Prelude.{All}
use Rattle.std.proofs.lemmas.Bool.{false≢true}
use Rattle.std.proofs.lemmas.Option.{slice_get_within}
use Rattle.vg_check.specs.Hidden.{LegsAreHidden}
use Rattle.vg_check.proofs.HiddenVolumes.{hide_all, hide_each}
use Rattle.vg_check.proofs.depth.volumes_below_are_hidden.Goals as goal

pub returns-then-not-segments_hide : goal.returns-then-not-segments_hide
returns-then-not-segments_hide c = (
  λ is. absurd (false≢true is),
  λ hides. c.if-not-segments_hide.ensures.1
      (subst (All (LegsAreHidden c.args.group.now)) (sym c.as_slice-segments.ensures)
      (hide_each c.args.group.now c.loop-number.number c.lv.result.now c.lv.ensures hides)),
)

pub returns : goal.returns
returns c = (
  λ is. hide_all c.args.group.now (λ n row there. c.loop-number.invariant n row
      (omega (arith, slice_get_within c.args.group.now.lvs n row there)) there),
  λ hides. search rules,
)
