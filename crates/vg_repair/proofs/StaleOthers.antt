-- No stale area is on a stray's disk.
use Rattle.std.proofs.Common.{◌≡◌, ℕ, ◌+◌, ◌&&◌, ◌==◌, Bool, true, false, cond, ◌||◌, List, [], ◌∷◌, Option, Some, None, refl, sym, ap, ◌∙◌}
use Rattle.std.specs.Prelude.{All}
use Rattle.std.specs.List.{cons_option, enumerate_from, filter_map, flat_map}
use Rattle.std.specs.Ordering.{nat_cmp}
use Rattle.std.specs.FinSet as set
use Rattle.std.proofs.lemmas.Bool.{and_parts, eqb-true, true≢false}
use Rattle.std.proofs.lemmas.List.Elements.{All-append, All-cons, All-head, All-nil, All-tail}
use Rattle.mda_header.specs.declared.header.Locn.{Locn}
use Rattle.mda_ring.specs.declared.area.Area.{Area}
use Rattle.disk_contents.specs.declared.contents.AreaFound.{AreaFound}
use Rattle.disk_contents.specs.Standing.{area_on}
use Rattle.vg_found.specs.Disks.{areas_on, held_area}
use Rattle.vg_found.specs.declared.disk.Disk.{Disk}
use Rattle.vg_found.specs.declared.found.Found.{Found}
use Rattle.vg_repair.specs.Laws.{StraysAreOthers}
use Rattle.vg_repair.specs.Stale.{is_among, stale_areas, stale_in, stale_on}
use Rattle.vg_repair.proofs.RepairedShape.{held_on}

module _ (strays : set.FinSet nat_cmp) where
  abbrev IsElsewhere : Area × Option Locn → Type 0
  IsElsewhere area = set.contains strays area.0.pv ≡ false

  -- a disk on which one of these areas is
  on_other : (stale : List (ℕ × ℕ)) (pv number : ℕ) → All (λ (area : ℕ × ℕ). set.contains strays area.0 ≡ false) stale
      → is_among stale pv number ≡ true → set.contains strays pv ≡ false
  on_other [] pv number all is = absurd (true≢false (sym is))
  on_other (area ∷ stale) pv number all is =
      step (λ later. on_other stale pv number (All-tail (λ (a : ℕ × ℕ). set.contains strays a.0 ≡ false) area stale all) later)
      ((area.0 == pv) && (area.1 == number)) refl is
    where
      step : (is_among stale pv number ≡ true → set.contains strays pv ≡ false) → (b : Bool) → ((area.0 == pv) && (area.1 == number)) ≡ b
          → (b || is_among stale pv number) ≡ true → set.contains strays pv ≡ false
      step rest true here any =
          ap (set.contains strays) (sym (eqb-true area.0 pv ((and_parts (area.0 == pv) (area.1 == number) here).0)))
          ∙ All-head (λ (a : ℕ × ℕ). set.contains strays a.0 ≡ false) area stale all
      step rest false here any = rest any

  module _ (stale : List (ℕ × ℕ)) (others : All (λ (area : ℕ × ℕ). set.contains strays area.0 ≡ false) stale) where
    one : (pv : ℕ) (found : AreaFound) (old : Bool) (held : Option (Area × Option Locn)) (rest : List (Area × Option Locn))
        → (old ≡ true → set.contains strays pv ≡ false) → held_area pv found ≡ held → All IsElsewhere rest
        → All IsElsewhere (cons_option (cond old held None) rest)
    one pv found true None rest on is all = all
    one pv found true (Some area) rest on is all =
        All-cons IsElsewhere area rest (ap (λ (a : Area). set.contains strays a.pv) (held_on (area_on pv found.area) found.entry area is)
        ∙ on refl) all
    one pv found false held rest on is all = all

    on_disk : (pv number : ℕ) (founds : List AreaFound) → All IsElsewhere (filter_map (stale_in stale pv) (enumerate_from number founds))
    on_disk pv number [] = All-nil IsElsewhere
    on_disk pv number (found ∷ founds) =
        one pv found (is_among stale pv number) (held_area pv found) (filter_map (stale_in stale pv) (enumerate_from (number + 1) founds))
        (on_other stale pv number others) refl (on_disk pv (number + 1) founds)

    on_disks : (pv : ℕ) (disks : List Disk) → All IsElsewhere (flat_map (stale_on stale) (enumerate_from pv disks))
    on_disks pv [] = All-nil IsElsewhere
    on_disks pv (disk ∷ disks) =
        All-append IsElsewhere (stale_on stale (pv, disk)) (flat_map (stale_on stale) (enumerate_from (pv + 1) disks))
        (on_disk pv 0 (areas_on disk.contents)) (on_disks (pv + 1) disks)

pub stale_elsewhere : (found : Found) → StraysAreOthers found
    → All (λ (area : Area × Option Locn). set.contains found.strays area.0.pv ≡ false) (stale_areas found)
stale_elsewhere found others = on_disks found.strays found.stale others.stale 0 found.disks
