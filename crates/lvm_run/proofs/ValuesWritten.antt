-- The values of a list's items, behind a kind, are written one item after another.
use Rattle.std.proofs.Common.{◌≡◌, ◌<◌, ℕ, ◌+◌, true, false, List, [], ◌∷◌, ◌++◌, take, drop, length, get_or, Option, ap, sym, subst, ◌∙◌}
use Rattle.std.proofs.Common.{append_assoc, append-nil}
use Rattle.std.proofs.lemmas.Grind.{flat_map-append}
use Rattle.std.proofs.lemmas.List.{take-append-drop, take_more}
use Rattle.std.specs.Prelude.{codes}
use Rattle.std.specs.List.{flat_map}
use Rattle.sector_base.specs.Shown.{Value, shown_text, value_text}
use Rattle.byte_streams.specs.Streams.{WritesText}
use Rattle.byte_streams.proofs.TextsWritten.{failed_before, written_both}

abbrev behind_spaces : List Value → List ℕ
behind_spaces values = flat_map (λ value. codes " " ++ value_text value) values

module _ {A : Type 0} (kind : List ℕ) (values_of : A → List Value) where
  abbrev shown : List A → List ℕ
  shown items = shown_text (kind, flat_map values_of items)

  both : (first more : List A) → shown (first ++ more) ≡ shown first ++ behind_spaces (flat_map values_of more)
  both first more =
      ap (λ (l : List Value). kind ++ behind_spaces l) (flat_map-append values_of first more)
      ∙ ap (λ (l : List ℕ). kind ++ l) (flat_map-append (λ (value : Value). codes " " ++ value_text value) (flat_map values_of first)
      (flat_map values_of more))
      ∙ sym (append_assoc kind (behind_spaces (flat_map values_of first)) (behind_spaces (flat_map values_of more)))

  one_more : (items : List A) (i : ℕ) (d : A) → i < length items
      → shown (take (i + 1) items) ≡ shown (take i items) ++ shown_text ([], values_of (get_or items i d))
  one_more items i d within =
      ap (λ (l : List A). shown l) (take_more items i d within)
      ∙ both (take i items) (get_or items i d ∷ [])
      ∙ ap (λ (l : List Value). shown (take i items) ++ behind_spaces l) (append-nil (values_of (get_or items i d)))

  all_of : (items : List A) (i : ℕ) → shown items ≡ shown (take i items) ++ behind_spaces (flat_map values_of (drop i items))
  all_of items i = ap (λ (l : List A). shown l) (sym (take-append-drop i items)) ∙ both (take i items) (drop i items)

  -- so many were written, and then one more
  pub written_to : (b0 b1 b2 : Option (List ℕ)) (f0 f1 f2 : ℕ) (items : List A) (i : ℕ) (item : A) → i < length items
      → item ≡ get_or items i item
      → WritesText b0 f0 (shown (take i items)) true b1 f1 → WritesText b1 f1 (shown_text ([], values_of item)) true b2 f2
      → WritesText b0 f0 (shown (take (i + 1) items)) true b2 f2
  written_to b0 b1 b2 f0 f1 f2 items i item within is before part =
      let here = subst (λ (r : A). WritesText b1 f1 (shown_text ([], values_of r)) true b2 f2) is part in
      subst (λ (t : List ℕ). WritesText b0 f0 t true b2 f2) (sym (one_more items i item within))
      (written_both b0 b1 b2 f0 f1 f2 _ _ true before here)

  -- so many were written, and then one in part
  pub stopped_at : (b0 b1 b2 : Option (List ℕ)) (f0 f1 f2 : ℕ) (items : List A) (i : ℕ) (item : A) → i < length items
      → item ≡ get_or items i item
      → WritesText b0 f0 (shown (take i items)) true b1 f1 → WritesText b1 f1 (shown_text ([], values_of item)) false b2 f2
      → WritesText b0 f0 (shown items) false b2 f2
  stopped_at b0 b1 b2 f0 f1 f2 items i item within is before part =
      let here = subst (λ (r : A). WritesText b1 f1 (shown_text ([], values_of r)) false b2 f2) is part in
      let front = written_both b0 b1 b2 f0 f1 f2 _ _ false before here in
      let more = subst (λ (t : List ℕ). WritesText b0 f0 t false b2 f2) (sym (one_more items i item within)) front in
      subst (λ (t : List ℕ). WritesText b0 f0 t false b2 f2) (sym (all_of items (i + 1))) (failed_before b0 b2 f0 f2 _ _ more)
