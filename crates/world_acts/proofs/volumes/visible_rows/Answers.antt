use Rattle.std.proofs.Common.{◌≡◌, ℕ, ◌+◌, List, [], ◌∷◌, ◌++◌, drop, length, length-append, sym, ap, ◌∙◌, arith}
use Rattle.world_acts.specs.declared.volumes.VolumeRow.{VolumeRow}
use Rattle.world_acts.specs.Volumes.{visible_rows}
use Rattle.world_acts.proofs.VisibleRows.{row_hidden, row_shown}
use Rattle.world_acts.proofs.volumes.visible_rows.Goals as goal
use Rattle.world_acts.proofs.volumes.visible_rows.Goals.{then-is_visible+in_ok-push, else-is_visible}

pub loop-lv-preserved : goal.loop-lv-preserved
loop-lv-preserved c =
    let done : List VolumeRow = c.loop-lv.rows.items in
    let lv : ℕ = c.loop-lv.lv in
    let lvs = c.args.group.now.lvs in
    elim c.if-is_visible.branch [
      | then-is_visible+in_ok-push w ↦
          let items : c.if-is_visible.rows.items ≡ done ++ record { key = length done; lv = lv } ∷ [] =
          ap (λ v. v.items) w.rows-is ∙ w.in_ok-push.ensures.items
          ∙ ap (λ (k : ℕ). done ++ record { key = k; lv = lv } ∷ []) (w.len-key.ensures ∙ c.loop-lv.rows.ok.0) in
          let many : length c.if-is_visible.rows.items ≡ length done + 1 =
          ap (λ (l : List VolumeRow). length l) items ∙ length-append done (record { key = length done; lv = lv } ∷ []) in
          record {
            made =
                ap (λ (l : List VolumeRow). l ++ visible_rows (length l) (lv + 1) (drop (lv + 1) lvs)) items
                ∙ row_shown done lvs lv (c.get.result.0.now, c.get.result.1.now) c.get.ensures
                (sym c.is_visible.ensures ∙ w.if-is_visible.true) ∙ c.loop-lv.invariant.made;
            few = omega (arith, many, c.loop-lv.invariant.few);
          }
      | else-is_visible w ↦
          let items : c.if-is_visible.rows.items ≡ done = ap (λ v. v.items) w.rows-is in
          let many : length c.if-is_visible.rows.items ≡ length done = ap (λ (l : List VolumeRow). length l) items in
          record {
            made =
                ap (λ (l : List VolumeRow). l ++ visible_rows (length l) (lv + 1) (drop (lv + 1) lvs)) items
                ∙ row_hidden done lvs lv (c.get.result.0.now, c.get.result.1.now) c.get.ensures
                (sym c.is_visible.ensures ∙ w.if-is_visible.false) ∙ c.loop-lv.invariant.made;
            few = omega (arith, many, c.loop-lv.invariant.few);
          }
    ]
