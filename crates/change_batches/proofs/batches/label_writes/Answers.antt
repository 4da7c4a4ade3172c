use Rattle.std.proofs.Common.{◌≡◌, ◌<◌, ℕ, suc, ◌+◌, List, [], ◌∷◌, ◌++◌, length, get_or, drop, map, append_assoc, sym, ap, ◌∙◌, arith}
use Rattle.std.proofs.Math.Seq.{drop-cons}
use Rattle.list_laws.proofs.Fronts.{all_done}
use Rattle.list_laws.proofs.ItemWalks.{all_more_read}
use Rattle.change_batches.specs.Batches.{label_put}
use Rattle.change_batches.specs.Sound.{FitsFields}
use Rattle.change_batches.proofs.batches.label_writes.Goals as goal

-- one element more is mapped
mapped_on : {X Y : Type 0} (f : X → Y) (xs : List X) (i : ℕ) (x : X) (old new : List Y) (y : Y) → i < length xs → x ≡ get_or xs i x
    → y ≡ f x → new ≡ old ++ y ∷ [] → old ++ map f (drop i xs) ≡ map f xs → new ++ map f (drop (i + 1) xs) ≡ map f xs
mapped_on f xs i x old new y within is made pushed so_far =
    let next : suc i ≡ i + 1 = omega arith in
    let cut : drop i xs ≡ x ∷ drop (i + 1) xs =
    drop-cons xs i x within ∙ ap (λ z. z ∷ drop (suc i) xs) (sym is) ∙ ap (λ (n : ℕ). x ∷ drop n xs) next in
    ap (λ l. l ++ map f (drop (i + 1) xs)) pushed ∙ append_assoc old (y ∷ []) (map f (drop (i + 1) xs))
    ∙ ap (λ z. old ++ z ∷ map f (drop (i + 1) xs)) made ∙ ap (λ l. old ++ map f l) (sym cut) ∙ so_far

pub loop-label-preserved : goal.loop-label-preserved
loop-label-preserved c = record {
  writes =
      mapped_on label_put c.args.labels.now c.loop-label.label-index c.label-item.result c.loop-label.list.items c.push.new.self.items
      c.in_ok-label_write.field-0 c.loop-label-test.true c.label-item.is c.in_ok-label_write.ensures.put c.in_ok-push.ensures.items
      c.loop-label.invariant.writes;
  fits =
      all_more_read FitsFields c.args.labels.now c.loop-label.label-index c.label-item.result c.loop-label.invariant.fits
      c.loop-label-test.true c.label-item.is c.in_ok-label_write.ensures.fits;
}

pub returns-clause-fits : goal.returns-clause-fits
returns-clause-fits c = all_done FitsFields c.args.labels.now c.loop-label.label-index c.loop-label-test.false c.loop-label.invariant.fits
