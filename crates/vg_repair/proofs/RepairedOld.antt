-- Once a repair is done no disk of the group has an old header.
use Rattle.std.proofs.Common.{◌≡◌, ◌⊎◌, ℕ, Bool, true, false, cond, nat_lt, List, [], ◌∷◌, Option, Some, None, inl, inr, ⊎_elim}
use Rattle.std.proofs.Common.{refl, sym, ap, subst, ◌∙◌}
use Rattle.std.specs.Prelude.{filter, nat_eq, slice_get}
use Rattle.std.specs.List.{list_any}
use Rattle.std.specs.Option.{option_map_or}
use Rattle.std.specs.Ordering.{nat_cmp}
use Rattle.std.specs.FinSet as set
use Rattle.std.proofs.lemmas.Bool.{cases_Bool, eq-eqb, or_left, or_right, true≢false}
use Rattle.list_laws.proofs.Members.{In}
use Rattle.pv_header.specs.declared.header.PvHeader.{PvHeader}
use Rattle.meta_model.specs.declared.group.Group.{Group}
use Rattle.disk_contents.specs.declared.contents.PvFound.{PvFound}
use Rattle.disk_contents.specs.declared.contents.PvFound.TheVariants.{NoLabel, NoHeader, Whole}
use Rattle.vg_found.specs.Disks.{disks_of, has_old_header, is_old, old_among, old_of}
use Rattle.vg_found.specs.declared.disk.Disk.{Disk}
use Rattle.vg_repair.specs.Repaired.{repaired_disk, repaired_disks, repaired_header}
use Rattle.vg_repair.proofs.Numbered.{mapped_at}
use Rattle.vg_repair.proofs.RepairedHeaders.{by_header}

-- a number of the list that passes is in the set of those that do
passes_any : (p : ℕ → Bool) (numbers : List ℕ) (n : ℕ) → In numbers n → p n ≡ true → list_any (λ y. nat_eq y n) (filter p numbers) ≡ true
passes_any p [] n among passes = absurd among
passes_any p (m ∷ numbers) n among passes = step (λ later. passes_any p numbers n later passes) (p m) refl among
  where
    step : (In numbers n → list_any (λ y. nat_eq y n) (filter p numbers) ≡ true) → (b : Bool) → p m ≡ b → (m ≡ n) ⊎ In numbers n
        → list_any (λ y. nat_eq y n) (cond b (m ∷ filter p numbers) (filter p numbers)) ≡ true
    step more true is (inl here) = or_left (nat_eq m n) (list_any (λ y. nat_eq y n) (filter p numbers)) (eq-eqb m n here)
    step more true is (inr later) = or_right (nat_eq m n) (list_any (λ y. nat_eq y n) (filter p numbers)) (more later)
    step more false is (inl here) = absurd (true≢false (sym passes ∙ ap p (sym here) ∙ is))
    step more false is (inr later) = more later

pub passes_in_set : (p : ℕ → Bool) (numbers : List ℕ) (n : ℕ) → In numbers n → p n ≡ true
    → set.contains (set.from_list {R = nat_cmp} (filter p numbers)) n ≡ true
passes_in_set p numbers n among passes = set.contains-from_list_nat (filter p numbers) n ∙ passes_any p numbers n among passes

module _ (stale : List (ℕ × ℕ)) (strays old : set.FinSet nat_cmp) (text : List ℕ) (disks : List Disk) where
  abbrev new : List Disk
  new = repaired_disks stale strays old text disks

  -- where all old headers are among those that are brought up none is old then
  header_new : (pv : ℕ) (header : PvHeader) → (nat_lt header.version 2 ≡ true → set.contains old pv ≡ true)
      → nat_lt (repaired_header strays old pv header).version 2 ≡ false
  header_new pv header among =
      by_header strays old pv header (λ h. nat_lt h.version 2 ≡ false) (λ stray. refl) (λ stray was. refl)
      (λ stray not. ⊎_elim (λ is. absurd (true≢false (sym (among is) ∙ not))) (λ none. none) (cases_Bool (nat_lt header.version 2)))

  disk_new : (pv sectors : ℕ) (contents : Option PvFound)
      → (has_old_header (record { sectors = sectors; contents = contents }) ≡ true → set.contains old pv ≡ true)
      → has_old_header (repaired_disk stale strays old text (pv, record { sectors = sectors; contents = contents })) ≡ false
  disk_new pv sectors None among = refl
  disk_new pv sectors (Some (NoLabel refusal)) among = refl
  disk_new pv sectors (Some (NoHeader label refusal)) among = refl
  disk_new pv sectors (Some (Whole label header areas)) among = header_new pv header among

  number_new : (n : ℕ) → (is_old disks n ≡ true → set.contains old n ≡ true) → is_old new n ≡ false
  number_new n among = by (slice_get new n) refl
    where
      by : (o : Option Disk) → slice_get new n ≡ o → option_map_or has_old_header o false ≡ false
      by None is = refl
      by (Some disk) is =
          let w = mapped_at (repaired_disk stale strays old text) disks n disk is in
          subst (λ (d : Disk). has_old_header d ≡ false) w.2
          (disk_new n w.0.sectors w.0.contents (λ has. among (ap (λ (o : Option Disk). option_map_or has_old_header o false) w.1 ∙ has)))

  none_among : (numbers : List ℕ) → ((n : ℕ) → In numbers n → is_old disks n ≡ true → set.contains old n ≡ true)
      → old_among new numbers ≡ []
  none_among [] each = refl
  none_among (n ∷ numbers) each =
      ap (λ (b : Bool). cond b (n ∷ old_among new numbers) (old_among new numbers)) (number_new n (each n (inl refl)))
      ∙ none_among numbers (λ m later. each m (inr later))

  pub none_old : ((group : Group) → disks_of group new ≡ disks_of group disks) → (o : Option Group) → old ≡ old_of o disks
      → set.empty ≡ old_of o new
  none_old listed None is = refl
  none_old listed (Some group) is =
      ap (λ (l : List ℕ). set.from_list l)
      (sym (ap (old_among new) (listed group)
      ∙ none_among (disks_of group disks)
      (λ n among has.
      ap (λ (s : set.FinSet nat_cmp). set.contains s n) is ∙ passes_in_set (is_old disks) (disks_of group disks) n among has)))
