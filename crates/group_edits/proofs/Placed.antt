-- Physical volumes that lie well on disks of at most 2^40 sectors.
use Rattle.std.proofs.Common.{◌≡◌, ◌≤◌, ◌⊎◌, ℕ, ◌+◌, ◌*◌, ◌^◌, Bool, true, false, ◌||◌, ◌&&◌, cond, List, [], ◌∷◌, get_or, Option, Some}
use Rattle.std.proofs.Common.{None, inl, inr, ⊎_elim, refl, sym, ap, ◌∙◌, arith}
use Rattle.std.specs.Prelude.{find, nat_lt, option_map, unwrap_or, All}
use Rattle.std.specs.List.{AllByRecursion as Each, enumerate_from, list_any}
use Rattle.std.proofs.lemmas.Bool.{false≢true, or_cases}
use Rattle.std.proofs.lemmas.Bool.Decides.{nat_tests}
use Rattle.std.proofs.lemmas.List.Elements.{All-from_recursion}
use Rattle.std.specs.Str.{bytes_eq}
use Rattle.meta_model.specs.declared.group.Group.{Group}
use Rattle.meta_model.specs.declared.pv.Pv.{Pv}
use Rattle.scan_rules.proofs.Scanning.{same_bytes_tells}
use Rattle.scan_rules.specs.Decision.{Found, Reading, first_misplaced, has_id, has_misplaced, is_misplaced, meets_area}
use Rattle.scan_rules.specs.Found.{is_this_misplaced, misplaced_from}
use Rattle.group_edits.proofs.FewSectors.{LieOnDisks}
use Rattle.list_laws.proofs.Inserted.{none_passes}

either_false : (a b c : Bool) → (a && (b || c)) ≡ false → (a ≡ false) ⊎ (b ≡ false)
either_false false b c none = inl refl
either_false true false c none = inr refl
either_false true true c none = absurd (false≢true (sym none))

second_false : (a b : Bool) → a ≡ true → (a && b) ≡ false → b ≡ false
second_false true b is none = none
second_false false b is none = absurd (false≢true is)

no_less : (a b : ℕ) → nat_lt a b ≡ false → b ≤ a
no_less a b none = grind (arith, nat_tests)

module _ (group : Group) where
  -- none of the disks has one that doesn't
  each_placed : (n : ℕ) (disks : List Reading) → misplaced_from group n disks ≡ None
      → Each (λ (disk : Reading). has_misplaced group disk ≡ false) disks
  each_placed n [] none = tt
  each_placed n (disk ∷ disks) none = by (has_misplaced group disk) refl none (λ later. each_placed (n + 1) disks later) where
    by : (b : Bool) → has_misplaced group disk ≡ b
        → option_map (λ (x : ℕ × Reading). x.0) (cond b (Some (n, disk))
        (find (λ (d : ℕ × Reading). has_misplaced group d.1) (enumerate_from (n + 1) disks))) ≡ None
        → (misplaced_from group (n + 1) disks ≡ None → Each (λ (disk : Reading). has_misplaced group disk ≡ false) disks)
        → (has_misplaced group disk ≡ false) × Each (λ (disk : Reading). has_misplaced group disk ≡ false) disks
    by true is made later = absurd cc
    by false is made later = (is, later made)

  module _ (pv : List ℕ × Pv) (passes : (disk : Reading) (found : Found)
      → list_any (is_this_misplaced group.extent_size disk found) group.pvs ≡ false
      → is_this_misplaced group.extent_size disk found pv ≡ false) where
    abbrev sectors : ℕ
    sectors = pv.1.pe_count * group.extent_size

    on_it : (disk : Reading) (found : Found) → disk.sectors ≤ 2 ^ 40 → bytes_eq found.id pv.1.id ≡ true
        → list_any (is_this_misplaced group.extent_size disk found) group.pvs ≡ false → sectors ≤ 2 ^ 40
    on_it disk found most same none =
        let e = same_bytes_tells found.id pv.1.id same in
        let turned : bytes_eq pv.1.id found.id ≡ true =
        ap (bytes_eq pv.1.id) e ∙ sym (ap (λ (id : List ℕ). bytes_eq id pv.1.id) e) ∙ same in
        let well : is_misplaced pv.1.pe_start (pv.1.pe_start + sectors) disk found ≡ false =
        second_false (bytes_eq pv.1.id found.id) (is_misplaced pv.1.pe_start (pv.1.pe_start + sectors) disk found) turned
        (passes disk found none) in
        ⊎_elim
        (λ empty. let less = no_less pv.1.pe_start (pv.1.pe_start + sectors) empty in omega (arith, less))
        (λ within. let less = no_less disk.sectors (pv.1.pe_start + sectors) within in omega (arith, less, most))
        (either_false (nat_lt pv.1.pe_start (pv.1.pe_start + sectors)) (nat_lt disk.sectors (pv.1.pe_start + sectors))
        (nat_lt pv.1.pe_start 8 || list_any (meets_area pv.1.pe_start (pv.1.pe_start + sectors)) found.areas) well)

    on_disk : (disk : Reading) → disk.sectors ≤ 2 ^ 40 → has_id pv.1.id disk ≡ true → has_misplaced group disk ≡ false → sectors ≤ 2 ^ 40
    on_disk disk most has none = by disk.pv refl has where
      by : (o : Option Found) → disk.pv ≡ o → unwrap_or (option_map (λ (x : Found). bytes_eq x.id pv.1.id) o) false ≡ true
          → sectors ≤ 2 ^ 40
      by None is has = absurd (false≢true has)
      by (Some found) is has =
          on_it disk found most has (sym (ap (λ (o : Option Found). unwrap_or
          (option_map (λ (x : Found). list_any (is_this_misplaced group.extent_size disk x) group.pvs) o) false) is) ∙ none)

    on_some : (disks : List Reading) → Each (λ (disk : Reading). has_misplaced group disk ≡ false) disks
        → Each (λ (disk : Reading). disk.sectors ≤ 2 ^ 40) disks → list_any (has_id pv.1.id) disks ≡ true → sectors ≤ 2 ^ 40
    on_some [] well few any = absurd (false≢true any)
    on_some (disk ∷ disks) well few any =
        ⊎_elim (λ here. on_disk disk few.0 here well.0) (λ later. on_some disks well.1 few.1 later)
        (or_cases (has_id pv.1.id disk) (list_any (has_id pv.1.id) disks) any)

  -- each physical volume of the group that lies well on one of these
  pub placed_on_disks : (disks : List Reading) → first_misplaced group disks ≡ None → Each (λ (disk : Reading). disk.sectors ≤ 2 ^ 40) disks
      → All (λ (pv : List ℕ × Pv). list_any (has_id pv.1.id) disks ≡ true) group.pvs → LieOnDisks group
  placed_on_disks disks none few found k d within =
      on_some (get_or group.pvs k d)
      (λ disk pv fails. All-from_recursion (λ (x : List ℕ × Pv). is_this_misplaced group.extent_size disk pv x ≡ false) group.pvs
      (none_passes (is_this_misplaced group.extent_size disk pv) group.pvs fails) k d within)
      disks (each_placed 0 disks none) few (found k d within)
