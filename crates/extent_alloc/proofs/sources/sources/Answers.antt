use Rattle.std.proofs.Common.{ℕ, List, ◌||◌, ap, sym, ◌∙◌}
use Rattle.std.specs.FinSet as set
use Rattle.std.specs.List.{list_any}
use Rattle.std.specs.Ordering.{nat_cmp}
use Rattle.std.proofs.lemmas.Bool.{and_left}
use Rattle.meta_model.specs.declared.lv.Lv.{Lv}
use Rattle.extent_alloc.specs.Usable.{begins_on, moves_from}
use Rattle.extent_alloc.proofs.MoreSources.{and_true, none_more, some_more}
use Rattle.extent_alloc.proofs.sources.sources.Goals as goal
use Rattle.extent_alloc.proofs.sources.sources.Goals.{then-is_pvmove, else-is_pvmove}

pub loop-number-init : goal.loop-number-init
loop-number-init c pv lt =
    ap (λ s. set.contains s pv || list_any (moves_from pv) c.args.lvs.now) c.new-sources.ensures
    ∙ ap (λ b. b || list_any (moves_from pv) c.args.lvs.now) (set.contains-empty nat_cmp pv)

pub loop-number-preserved : goal.loop-number-preserved
loop-number-preserved c pv lt =
    let row : List ℕ × Lv = (c.get.result.0.now, c.get.result.1.now) in
    let has = set.contains c.loop-number.sources pv in
    elim c.if-is_pvmove.branch [
      | then-is_pvmove w ↦
          some_more (moves_from pv) c.args.lvs.now c.loop-number.number row has (set.contains c.if-is_pvmove.sources pv) c.get.ensures
          (ap (λ s. set.contains s pv) w.sources-is ∙ w.put_segments.ensures pv lt
          ∙ ap (λ segments. has || list_any (begins_on pv) segments) w.as_slice.ensures
          ∙ ap (λ b. has || b) (sym (and_true _ (list_any (begins_on pv) row.1.segments) (sym c.is_pvmove.ensures ∙ w.if-is_pvmove.true))))
          ∙ c.loop-number.invariant pv lt
      | else-is_pvmove w ↦
          some_more (moves_from pv) c.args.lvs.now c.loop-number.number row has (set.contains c.if-is_pvmove.sources pv) c.get.ensures
          (ap (λ s. set.contains s pv) w.sources-is
          ∙ none_more has (moves_from pv row) (and_left _ (list_any (begins_on pv) row.1.segments)
          (sym c.is_pvmove.ensures ∙ w.if-is_pvmove.false)))
          ∙ c.loop-number.invariant pv lt
    ]
