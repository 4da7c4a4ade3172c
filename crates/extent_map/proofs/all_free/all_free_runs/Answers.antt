use Rattle.std.proofs.Common.{◌≡◌, ◌+◌, ◌<◌, ◌∙◌, length, subst, sym, ap, arith, slice_get}
use Rattle.std.proofs.lemmas.Grind.{common_steps}
use Rattle.std.proofs.lemmas.Option.{none-some, slice_get_within}
use Rattle.volume_rules.specs.declared.rule.Rule.TheVariants.{Volumes}
use Rattle.extent_map.specs.AllFree.{AreAllFree}
use Rattle.extent_map.specs.ByVolume.{lists_of}
use Rattle.extent_map.specs.Covered.{lvs_on}
use Rattle.extent_map.proofs.AllFree.{AreFreeBelow, bucket_has, free_more, others_stay, row_of}
use Rattle.extent_map.proofs.Buckets.{lists_long}
use Rattle.extent_map.proofs.LegsOnVolume.{each_has_leg}
use Rattle.extent_map.proofs.all_free.all_free_runs.Goals as goal

pub runs_by_volume-requires : goal.runs_by_volume-requires
runs_by_volume-requires c = each_has_leg c.args.group.now c.requires

pub loop-pv-init : goal.loop-pv-init
loop-pv-init c = (
  record {
    long = ap length c.in_ok-all.ensures.items;
    each = λ pv runs is. absurd (none-some runs (sym (ap (λ all. slice_get all pv) c.in_ok-all.ensures.items) ∙ is));
  },
  λ pv low lt. ap (λ lists. slice_get lists pv) c.in_ok-buckets.ensures
      ∙ row_of (λ n. lvs_on n c.args.group.now.lvs) c.len-count.result pv lt,
)

pub overflow_cast-pv : goal.overflow_cast-pv
overflow_cast-pv c = omega (arith, c.loop-pv-test.true, c.len-count.ensures.count, (c.requires Volumes).pvs.1)

pub index_mut-requires : goal.index_mut-requires
index_mut-requires c =
    let here =
    slice_get_within (lists_of c.loop-pv.buckets.items) c.loop-pv.pv _
    (c.loop-pv.invariant.1 c.loop-pv.pv (omega arith) c.loop-pv-test.true) in
    let within : c.loop-pv.pv < length c.loop-pv.buckets.items = omega (arith, here, lists_long c.loop-pv.buckets.items) in
    grind (arith, common_steps, within)

pub free_beside-requires-clause-runs : goal.free_beside-requires-clause-runs
free_beside-requires-clause-runs c =
    c.deref_mut.ensures.value
    ∙ bucket_has c.loop-pv.buckets.items c.loop-pv.pv c.index_mut.result.now (lvs_on c.loop-pv.pv c.args.group.now.lvs)
    (c.loop-pv.invariant.1 c.loop-pv.pv (omega arith) c.loop-pv-test.true) c.index_mut.ensures.value

pub loop-pv-preserved : goal.loop-pv-preserved
loop-pv-preserved c = (
  subst (AreFreeBelow c.args.group.now (c.loop-pv.pv + 1)) (sym c.in_ok-push.ensures.items)
      (free_more c.args.group.now c.loop-pv.pv c.loop-pv.all.items c.in_ok-free_beside.field-0 c.loop-pv.invariant.0
      c.in_ok-free_beside.ensures),
  λ pv low lt. others_stay c.loop-pv.buckets.items c.loop-pv.pv pv _ (λ same. omega (arith, low, same))
      ∙ c.loop-pv.invariant.1 pv (omega (arith, low)) lt,
)

pub returns : goal.returns
returns c =
    let all : c.loop-pv.pv ≡ length c.args.group.now.pvs =
    omega (arith, c.loop-pv.auto.pv-end, c.loop-pv-test.false, c.len-count.ensures.count) in
    subst (AreAllFree c.args.group.now) (sym c.from_vec.ensures)
    (record { count = c.loop-pv.invariant.0.long ∙ all; each = c.loop-pv.invariant.0.each })
