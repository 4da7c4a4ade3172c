use Rattle.std.proofs.Common.{◌≡◌, ◌+◌, ◌++◌, ◌∷◌, [], List, ℕ, map, take, get_or, length, sym, ap, subst, ◌∙◌, arith, length-append}
use Rattle.std.proofs.lemmas.List.{take_more, map-append}
use Rattle.disk_model.specs.declared.ops.Op.TheVariants.{Flush}
use Rattle.disk_model.specs.Steps.{Work, Flushing}
use Rattle.disk_batch.specs.Submits.{SubmitsWorks}
use Rattle.disk_batch.proofs.Submissions.{works_more}
use Rattle.disk_batch.proofs.submitting.submit_flushes.Goals as goal

pub loop-pv-preserved : goal.loop-pv-preserved
loop-pv-preserved g c =
    let i = c.loop-pv.pv-index in
    let disks = c.args.disks.now in
    let works : map Flushing (take (i + 1) disks) ≡ map Flushing (take i disks) ++ Flushing (get_or disks i 0) ∷ [] =
    ap (λ (l : List ℕ). map Flushing l) (take_more disks i 0 (omega arith)) ∙ map-append Flushing (take i disks) (get_or disks i 0 ∷ []) in
    let more : SubmitsWorks (g.S.Shelf.state c.args.shelf.now) (map Flushing (take i disks) ++ Flushing (get_or disks i 0) ∷ [])
    (c.loop-pv.tags.items ++ c.submit-tag.result ∷ []) (g.S.Shelf.state c.submit-tag.new.self) =
    works_more _ _ _ _ _ (Flush (get_or disks i 0)) c.submit-tag.result c.loop-pv.invariant.submits c.submit-tag.ensures in
    record {
      submits =
          subst (λ (tags : List ℕ). SubmitsWorks (g.S.Shelf.state c.args.shelf.now) (map Flushing (take (i + 1) disks)) tags
          (g.S.Shelf.state c.submit-tag.new.self)) (sym c.push_reserved.ensures.items)
          (subst (λ (ws : List Work). SubmitsWorks (g.S.Shelf.state c.args.shelf.now) ws (c.loop-pv.tags.items ++ c.submit-tag.result ∷ [])
          (g.S.Shelf.state c.submit-tag.new.self)) (sym works) more);
      spare = omega (arith, c.submit-tag.ensures.spare_ops, c.loop-pv.invariant.spare);
      sizes = c.submit-tag.ensures.sizes ∙ c.loop-pv.invariant.sizes;
      len =
          omega (
            arith,
            ap (λ (l : List ℕ). length l) c.push_reserved.ensures.items,
            length-append c.loop-pv.tags.items (c.submit-tag.result ∷ []),
            c.loop-pv.invariant.len,
          );
      capacity = c.push_reserved.ensures.capacity ∙ c.loop-pv.invariant.capacity;
    }
