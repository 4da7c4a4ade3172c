use Rattle.std.proofs.Common.{◌≡◌, ◌+◌, ◌*◌, ◌≤◌, [], ◌∷◌, ◌++◌, length, sym, ap, ◌∙◌, arith}
use Rattle.std.proofs.lemmas.Option.{MatchOption-at_none}
use Rattle.meta_model.specs.declared.extent_span.ExtentSpan.{ExtentSpan}
use Rattle.extent_map.specs.ByVolume.{lists_of}
use Rattle.extent_map.specs.Covered.{leg_on}
use Rattle.extent_map.proofs.Buckets.{each_none, each_set, leg_elsewhere, leg_here, leg_on_lv, lists_long}
use Rattle.extent_map.proofs.by_volume.put_leg.Goals as goal

pub returns-in_ok-push : goal.returns-in_ok-push
returns-in_ok-push c =
    let here : 0 + c.in-Pv.pv ≡ c.in-Pv.pv = omega arith in
    each_set (λ pv. leg_on pv c.args.share c.args.leg) 0 c.in-Pv.pv c.args.buckets.now.items c.in-Some.bucket.now c.push.new.self
    c.in-Some.ensures.item.3.0 c.in-Some.ensures.value
    (c.in_ok-push.ensures.items
    ∙ ap (λ on. c.in-Some.bucket.now.items ++ (let run : ExtentSpan =
    record { on = 2 * on; first = c.args.leg.first; count = c.args.share } in run) ∷ []) c.from.ensures
    ∙ ap (λ some. c.in-Some.bucket.now.items ++ some)
    (sym (ap (λ n. leg_on n c.args.share c.args.leg) here ∙ leg_here c.in-Pv.pv c.args.share c.args.leg c.in-Pv.is)))
    (λ pv other. leg_elsewhere c.in-Pv.pv c.args.share pv c.args.leg c.in-Pv.is (λ same. other (same ∙ sym here)))

pub returns-in_default-get_mut : goal.returns-in_default-get_mut
returns-in_default-get_mut c =
    let past : length c.args.buckets.now.items ≤ c.in-Pv.pv = MatchOption-at_none _ _ c.in_default-get_mut.is c.get_mut.ensures.item.3 in
    each_none (λ pv. leg_on pv c.args.share c.args.leg) 0 (lists_of c.args.buckets.now.items)
    (λ pv low high. leg_elsewhere c.in-Pv.pv c.args.share pv c.args.leg c.in-Pv.is
    (λ same. omega (arith, past, high, same, lists_long c.args.buckets.now.items)))

pub returns-in_default : goal.returns-in_default
returns-in_default c =
    each_none (λ pv. leg_on pv c.args.share c.args.leg) 0 (lists_of c.args.buckets.now.items)
    (λ pv low high. leg_on_lv c.in_default.field-0 pv c.args.share c.args.leg c.in_default.is)
