use Rattle.std.proofs.Common.{◌≤◌, ◌+◌, ◌-◌, ◌*◌, ◌^◌, ℕ, nat_eq, List, length, ap, subst, ◌∙◌, arith}
use Rattle.std.specs.List.{list_any}
use Rattle.claim_table.specs.Claims.{Claims, lies_in}
use Rattle.claim_table.proofs.RegionsKept.{any_region, fewer_regions}
use Rattle.claim_table.proofs.table.ClaimTable.busy.Goals as goal

pub returns-clause-answer : goal.returns-clause-answer
returns-clause-answer g c =
    c.has_region.ensures.answer ∙ ap (λ (l : List ℕ). list_any (λ r. nat_eq r c.args.region) l) c.of.ensures
    ∙ any_region c.self.inside.started.claims c.self.inside.regions.items c.args.region c.self.invariant.0
    ∙ ap (λ (v : Claims). list_any (lies_in c.args.region) v.started) c.self.view_is

pub returns-clause-bound : goal.returns-clause-bound
returns-clause-bound g c =
    let bound =
    subst (λ (l : List ℕ). 2 ^ (c.has_region.new.steps - c.args.steps.now) ≤ 2 * length l + 1) c.of.ensures
    c.has_region.ensures.bound in
    let fewer = fewer_regions c.self.inside.started.claims c.self.inside.regions.items c.self.invariant.0 in
    let same = ap (λ (v : Claims). length v.started) c.self.view_is in
    omega (arith, bound, fewer, same)
