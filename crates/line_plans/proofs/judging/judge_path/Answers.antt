-- The rows, one after another.
use Rattle.std.proofs.Common.{◌≡◌, false, None, not, ◌&&◌, ℕ, Some, sym, ap, subst, ◌∙◌}
use Rattle.std.specs.Prelude.{option_map}
use Rattle.std.specs.Str.{bytes_eq}
use Rattle.std.proofs.lemmas.Result.{err_from_is_err_and}
use Rattle.line_answers.specs.declared.op_refusal.OpRefusal.TheVariants.{UnknownGroup}
use Rattle.meta_model.specs.declared.group.Group.{Group}
use Rattle.meta_model.specs.declared.lv.Lv.{Lv}
use Rattle.volume_rules.specs.Rules.{IsAccepted}
use Rattle.volume_rules.specs.declared.rule.Rule.TheVariants.{Volumes}
use Rattle.group_edits.specs.Visible.{visible_named}
use Rattle.group_plan.specs.Judging.{refused_if}
use Rattle.line_plans.specs.Judging.{may_write}
use Rattle.line_plans.proofs.Judged.{all_pass, end_refused}
use Rattle.line_plans.proofs.judging.judge_path.Goals as goal

pub find_visible-found-requires : goal.find_visible-found-requires
find_visible-found-requires c = (c.group-own.ensures.accepted Volumes).lvs

pub judge_end-requires : goal.judge_end-requires
judge_end-requires c = subst IsAccepted c.group-own.ensures.group c.group-own.ensures.accepted

pub returns-in_err-judge_end : goal.returns-in_err-judge_end
returns-in_err-judge_end c =
    let p = err_from_is_err_and c.from_residual-in_err-judge_end.result c.from_residual-in_err-judge_end.ensures.1 in
    let path = c.args.path.now in
    rw (p.1, p.2) (end_refused c.args.group.now path c.args.writes c.args.range c.in-Some.lv _
    (subst (λ (g : Group). refused_if (not (bytes_eq g.name path.vg)) (UnknownGroup path.vg) ≡ None) c.group-own.ensures.group
    c.in_ok-judge_name.ensures)
    (subst (λ (g : Group). (c.args.writes && not (may_write g (visible_named g path.lv))) ≡ false) c.group-own.ensures.group
    (sym c.if-is_read_only.ensures))
    (sym c.in-Some.is ∙ c.find_visible-found.ensures.found
    ∙ ap (λ (g : Group). option_map (λ (v : ℕ × Lv). v.0) (visible_named g path.lv)) c.group-own.ensures.group)
    c.in_err-judge_end.ensures)

pub returns : goal.returns
returns c =
    let path = c.args.path.now in
    let is : Some c.in-Some.lv ≡ option_map (λ (v : ℕ × Lv). v.0) (visible_named c.args.group.now path.lv) =
    sym c.in-Some.is ∙ c.find_visible-found.ensures.found
    ∙ ap (λ (g : Group). option_map (λ (v : ℕ × Lv). v.0) (visible_named g path.lv)) c.group-own.ensures.group in
    let all =
    all_pass c.args.group.now path c.args.writes c.args.range c.in-Some.lv
    (subst (λ (g : Group). refused_if (not (bytes_eq g.name path.vg)) (UnknownGroup path.vg) ≡ None) c.group-own.ensures.group
    c.in_ok-judge_name.ensures)
    (subst (λ (g : Group). (c.args.writes && not (may_write g (visible_named g path.lv))) ≡ false) c.group-own.ensures.group
    (sym c.if-is_read_only.ensures))
    is c.in_ok-judge_end.ensures in
    (all.0, sym is, all.1)
