-- The next name is found by its number.
use Rattle.std.proofs.Common.{◌≡◌, ◌<◌, ℕ, List, Some, None, length, nat_eq, ap, ◌∙◌, cond, arith, rules}
use Rattle.std.specs.Option.{option_or}
use Rattle.std.specs.Cmp.Lexicographic.{pointwise}
use Rattle.meta_model.specs.declared.segment.On.TheVariants.{Pv}
use Rattle.meta_read.proofs.Finding.{next_found}
use Rattle.meta_read.proofs.places.add_pvs.Goals as goal

pub loop-number-preserved : goal.loop-number-preserved
loop-number-preserved c = λ (q : List ℕ).
    let within : c.loop-number.number < length c.args.pvs.now = omega arith in
    let same : c.in-Ok.number ≡ c.loop-number.number = search rules in
    next_found (λ number. Pv number) c.args.pvs.now c.loop-number.number c.in-Ok.number c.index-pvs-number.result _ _ q within
    c.index-pvs-number.is same
    (c.in_ok-add-in-Ok.ensures q ∙ ap (λ before. option_or before
    (cond (pointwise nat_eq q c.index-pvs-number.result.0.now) (Some (Pv c.in-Ok.number)) None)) (c.loop-number.invariant q))
