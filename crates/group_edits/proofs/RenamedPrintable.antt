-- The names of a group in which a volume has another name.
use Rattle.std.proofs.Common.{◌≡◌, Bool, ℕ, true, false, cond, List, [], ◌∷◌, map, refl, sym, ap, subst, ◌∙◌}
use Rattle.std.specs.Prelude.{nat_eq, is_none, if◌then◌else◌}
use Rattle.std.specs.Cmp.Lexicographic.{pointwise}
use Rattle.std.proofs.lemmas.Bool.{or_from, true≢false}
use Rattle.std.specs.Str.{bytes_eq}
use Rattle.lvm_name.specs.Names.{any_name_refusal, is_among}
use Rattle.meta_model.specs.declared.lv.Lv.{Lv}
use Rattle.meta_print.proofs.NamesOfText.{differ_back, pointwise_same}
use Rattle.meta_print.proofs.Printable.{AreNames}
use Rattle.scan_rules.proofs.Scanning.{same_bytes_tells}
use Rattle.list_laws.proofs.Inserted.{none_by}
use Rattle.group_edits.specs.NextVersion.{changed_if}

module _ (old new : List ℕ) where
  -- the new name of a volume
  abbrev name_for : List ℕ → List ℕ
  name_for name = if bytes_eq name old then new else name

  not_same : (a b c : List ℕ) → bytes_eq a c ≡ true → bytes_eq b c ≡ true → pointwise nat_eq a b ≡ false → true ≡ false
  not_same a b c first second other =
      let same : a ≡ b = same_bytes_tells a c first ∙ sym (same_bytes_tells b c second) in
      sym (pointwise_same a) ∙ ap (pointwise nat_eq a) same ∙ other

  apart : (name taken : List ℕ) → pointwise nat_eq new taken ≡ false → pointwise nat_eq new name ≡ false
      → pointwise nat_eq name taken ≡ false → pointwise nat_eq (name_for name) (name_for taken) ≡ false
  apart name taken free_taken free other = by (bytes_eq name old) (bytes_eq taken old) refl refl where
    by : (a b : Bool) → bytes_eq name old ≡ a → bytes_eq taken old ≡ b → pointwise nat_eq (cond a new name) (cond b new taken) ≡ false
    by true true first second = absurd (true≢false (not_same name taken old first second other))
    by true false first second = free_taken
    by false true first second = differ_back new name free
    by false false first second = other

  all_apart : (taken : List (List ℕ)) (name : List ℕ) → is_among taken new ≡ false → pointwise nat_eq new name ≡ false
      → is_among taken name ≡ false → is_among (map name_for taken) (name_for name) ≡ false
  all_apart [] name free_taken free other = refl
  all_apart (t ∷ taken) name free_taken free other =
      let frees = none_by (pointwise nat_eq new t) (is_among taken new) free_taken in
      let others = none_by (pointwise nat_eq name t) (is_among taken name) other in
      or_from (pointwise nat_eq (name_for name) (name_for t)) (is_among (map name_for taken) (name_for name))
      (apart name t frees.0 free others.0) (all_apart taken name frees.1 free others.1)

  valid_for : (name : List ℕ) → is_none (any_name_refusal new) ≡ true → is_none (any_name_refusal name) ≡ true
      → is_none (any_name_refusal (name_for name)) ≡ true
  valid_for name valid is = by (bytes_eq name old) where
    by : (b : Bool) → is_none (any_name_refusal (cond b new name)) ≡ true
    by true = valid
    by false = is

  names_renamed : (taken names : List (List ℕ)) → is_none (any_name_refusal new) ≡ true → is_among taken new ≡ false
      → is_among names new ≡ false → AreNames taken names → AreNames (map name_for taken) (map name_for names)
  names_renamed taken [] valid free_taken free are = tt
  names_renamed taken (name ∷ names) valid free_taken free are =
      let parts = none_by (pointwise nat_eq new name) (is_among names new) free in (
        valid_for name valid are.0,
        all_apart taken name free_taken parts.0 are.1,
        names_renamed (name ∷ taken) names valid (or_from (pointwise nat_eq new name) (is_among taken new) parts.0 free_taken) parts.1
            are.2,
      )

  -- ---- the rows

  abbrev named : List ℕ × Lv → List ℕ × Lv
  named row = changed_if old (λ (r : List ℕ × Lv). (new, r.1)) row

  names_by : (rows : List (List ℕ × Lv)) → map (λ (row : List ℕ × Lv). row.0) (map named rows)
      ≡ map name_for (map (λ (row : List ℕ × Lv). row.0) rows)
  names_by [] = refl
  names_by (row ∷ rows) = λ i. by (bytes_eq row.0 old) i ∷ names_by rows i where
    by : (b : Bool) → (cond b (new, row.1) row).0 ≡ cond b new row.0
    by true = refl
    by false = refl

  -- they stand once, where no volume has the new one
  pub names_after : (rows : List (List ℕ × Lv)) → is_none (any_name_refusal new) ≡ true
      → is_among (map (λ (row : List ℕ × Lv). row.0) rows) new ≡ false → AreNames [] (map (λ (row : List ℕ × Lv). row.0) rows)
      → AreNames [] (map (λ (row : List ℕ × Lv). row.0) (map named rows))
  names_after rows valid free are =
      subst (AreNames []) (sym (names_by rows)) (names_renamed [] (map (λ (row : List ℕ × Lv). row.0) rows) valid refl free are)
