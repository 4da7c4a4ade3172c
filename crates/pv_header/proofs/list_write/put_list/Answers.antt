use Rattle.std.proofs.Common.{rules, ◌≡◌, ◌≤◌, ◌<◌, ◌+◌, ◌*◌, length, ℕ, List, take, get_or, arith, sym, ap, ◌∙◌, subst, below_more}
use Rattle.std.proofs.lemmas.List.{length-take-le, get_or_default}
use Rattle.sector_base.specs.Fields.{with_bytes}
use Rattle.pv_header.specs.declared.extent_list.Extent.{Extent}
use Rattle.pv_header.specs.Extents.{list_bytes, pair_bytes, Fits64}
use Rattle.pv_header.proofs.Placed.{with_bytes-nil, with_bytes-with_bytes, list_bytes_more, length-list_bytes, length-pair_bytes}
use Rattle.pv_header.proofs.list_write.put_list.Goals as goal

pub loop-area-init : goal.loop-area-init
unfolding list_bytes
loop-area-init c = record {
  place = search rules;
  bytes = sym (with_bytes-nil c.args.into.now c.args.at);
  fits = λ k d h. absurd (omega arith);
  size = search rules;
}

-- one area more
with_more : (old : List ℕ) (at : ℕ) (list : List Extent) (i : ℕ) (d : Extent) (place : ℕ) → length old ≡ 512 → at + 16 * length list ≤ 512
    → i < length list → place ≡ at + 16 * i
    → with_bytes (with_bytes old at (list_bytes (take i list))) place (pair_bytes (get_or list i d))
    ≡ with_bytes old at (list_bytes (take (i + 1) list))
with_more old at list i d place size room h e =
    let before : length (list_bytes (take i list)) ≡ 16 * i =
    length-list_bytes (take i list) ∙ ap (λ n. 16 * n) (length-take-le i list (omega arith)) in
    let joined =
    with_bytes-with_bytes old at (list_bytes (take i list)) (pair_bytes (get_or list i d)) place (omega arith)
    (omega (arith, length-pair_bytes (get_or list i d))) in
    joined ∙ ap (with_bytes old at) (sym (list_bytes_more list i d h))

pub loop-area-preserved : goal.loop-area-preserved
loop-area-preserved c =
    let i = c.loop-area.area-index in
    let list = c.args.list.now in
    let none : Extent = record { offset = 0; size = 0 } in
    let more =
    with_more c.args.into.now c.args.at list i none c.loop-area.place c.loop-area.invariant.size c.requires c.loop-area-test.true
    c.loop-area.invariant.place in
    record {
      place = omega arith;
      bytes =
          c.put_pair.ensures.bytes ∙ ap (λ s. with_bytes s c.loop-area.place (pair_bytes (get_or list i none))) c.loop-area.invariant.bytes
          ∙ more;
      fits =
          λ k d. below_more (λ k. Fits64 (get_or list k d)) i (λ k h. c.loop-area.invariant.fits k d h)
          (subst Fits64 (get_or_default list i none d c.loop-area-test.true) c.put_pair.ensures.fits) k;
      size = c.loop-area.invariant.size;
    }
