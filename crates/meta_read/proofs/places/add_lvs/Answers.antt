-- The next name is found by its number.
use Rattle.std.proofs.Common.{◌≡◌, ◌<◌, ℕ, List, Some, None, length, nat_eq, ap, ◌∙◌, cond, arith, rules}
use Rattle.std.specs.Option.{option_or}
use Rattle.std.specs.Cmp.Lexicographic.{pointwise}
use Rattle.meta_model.specs.declared.segment.On.TheVariants.{Lv}
use Rattle.meta_read.proofs.Finding.{next_found}
use Rattle.meta_read.proofs.places.add_lvs.Goals as goal

pub loop-number-preserved : goal.loop-number-preserved
loop-number-preserved c = λ (q : List ℕ).
    let within : c.loop-number.number < length c.args.lvs.now = omega arith in
    let same : c.in-Ok.number ≡ c.loop-number.number = search rules in
    next_found (λ number. Lv number) c.args.lvs.now c.loop-number.number c.in-Ok.number c.index-lvs-number.result _ _ q within
    c.index-lvs-number.is same
    (c.in_ok-add-in-Ok.ensures q ∙ ap (λ before. option_or before
    (cond (pointwise nat_eq q c.index-lvs-number.result.0.now) (Some (Lv c.in-Ok.number)) None)) (c.loop-number.invariant q))
