-- The volumes of a renamed group, one after another.
use Rattle.std.proofs.Common.{◌≡◌, ℕ, ◌+◌, Bool, true, false, cond, List, [], ◌∷◌, ◌++◌, map, take, Some, refl, sym, ap, ◌∙◌}
use Rattle.std.specs.Prelude.{if◌then◌else◌, slice_get}
use Rattle.std.proofs.lemmas.List.{map-append}
use Rattle.std.specs.Str.{bytes_eq}
use Rattle.meta_model.proofs.TableLemmas.{take-next}
use Rattle.meta_model.specs.declared.lv.Lv.{Lv}
use Rattle.group_edits.specs.NextVersion.{changed_if}

module _ (old new : List ℕ) where
  abbrev named : List ℕ × Lv → List ℕ × Lv
  named row = changed_if old (λ (r : List ℕ × Lv). (new, r.1)) row

  row_is : (own name : List ℕ) (lv copy : Lv) → name ≡ (if bytes_eq own old then new else own) → copy ≡ lv
      → (name, copy) ≡ named (own, lv)
  row_is own name lv copy is same =
      ap (λ (n : List ℕ). (n, copy)) is ∙ ap (λ (v : Lv). (cond (bytes_eq own old) new own, v)) same ∙ by (bytes_eq own old) where
        by : (b : Bool) → ◌≡◌ {A = List ℕ × Lv} (cond b new own, lv) (cond b (new, lv) (own, lv))
        by true = refl
        by false = refl

  -- one row more
  pub next_renamed : (lvs all later : List (List ℕ × Lv)) (n : ℕ) (own name : List ℕ) (lv copy : Lv) → all ≡ map named (take n lvs)
      → slice_get lvs n ≡ Some (own, lv)
      → name ≡ (if bytes_eq own old then new else own) → copy ≡ lv → later ≡ all ++ (name, copy) ∷ []
      → later ≡ map named (take (n + 1) lvs)
  next_renamed lvs all later n own name lv copy so_far there is same pushed =
      pushed
      ∙ ap (λ (rows : List (List ℕ × Lv)). rows ++ (name, copy) ∷ []) so_far
      ∙ ap (λ (row : List ℕ × Lv). map named (take n lvs) ++ row ∷ []) (row_is own name lv copy is same)
      ∙ sym (map-append named (take n lvs) ((own, lv) ∷ []))
      ∙ ap (map named) (sym (take-next lvs n (own, lv) there))
