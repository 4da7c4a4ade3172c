-- The visible volumes of a group, row by row.
use Rattle.std.proofs.Common.{◌≡◌, ℕ, ◌+◌, Bool, true, false, cond, List, [], ◌∷◌, ◌++◌, drop, length, slice_get, Some, sym, ap, ◌∙◌}
use Rattle.std.proofs.Common.{append_assoc, length-append}
use Rattle.meta_model.specs.declared.lv.Lv.{Lv}
use Rattle.list_laws.proofs.Walks.{next_got}
use Rattle.world_acts.specs.declared.volumes.VolumeRow.{VolumeRow}
use Rattle.world_acts.specs.Volumes.{visible_rows}

module _ (done : List VolumeRow) (rows : List (List ℕ × Lv)) (n : ℕ) (row : List ℕ × Lv) (there : slice_get rows n ≡ Some row) where
  abbrev own : VolumeRow
  own = record { key = length done; lv = n }

  abbrev later : ℕ → List VolumeRow
  later key = visible_rows key (n + 1) (drop (n + 1) rows)

  next : visible_rows (length done) n (drop n rows) ≡ cond row.1.status.visible (own ∷ later (length done + 1)) (later (length done))
  next = ap (visible_rows (length done) n) (next_got rows n row there)

  -- it is visible, and comes behind the others
  pub row_shown : row.1.status.visible ≡ true
      → (done ++ record { key = length done; lv = n } ∷ [])
      ++ visible_rows (length (done ++ record { key = length done; lv = n } ∷ [])) (n + 1) (drop (n + 1) rows)
      ≡ done ++ visible_rows (length done) n (drop n rows)
  row_shown seen =
      append_assoc done (own ∷ []) (later (length (done ++ own ∷ [])))
      ∙ ap (λ (m : ℕ). done ++ own ∷ later m) (length-append done (own ∷ []))
      ∙ ap (λ (l : List VolumeRow). done ++ l)
      (sym (next ∙ ap (λ (b : Bool). cond b (own ∷ later (length done + 1)) (later (length done))) seen))

  -- it is hidden
  pub row_hidden : row.1.status.visible ≡ false
      → done ++ visible_rows (length done) (n + 1) (drop (n + 1) rows) ≡ done ++ visible_rows (length done) n (drop n rows)
  row_hidden hidden =
      ap (λ (l : List VolumeRow). done ++ l)
      (sym (next ∙ ap (λ (b : Bool). cond b (own ∷ later (length done + 1)) (later (length done))) hidden))
