-- What the laws say of the small group.
use Rattle.std.proofs.Common.{◌≡◌, ℕ, zero, suc, ◌+◌, ◌*◌, ◌/◌, ◌<◌, ◌≤◌, true, IsTrue, List, [], ◌∷◌, Some, refl, sym, ap, ◌∙◌, arith}
use Rattle.std.proofs.lemmas.Option.{same_Some}
use Rattle.std.specs.Prelude.{slice_get, slice_index}
use Rattle.sector_base.specs.declared.places.At.{At}
use Rattle.meta_model.specs.declared.lv.Lv.{Lv}
use Rattle.volume_view.specs.InSegments.{Spot, leg_spot, met}
use Rattle.volume_view.specs.Places.{deciding, places, primary}
use Rattle.volume_view.specs.View.{Image, DisksDiffer, content, view}
use Rattle.volume_view.specs.Laws.{IsTop}
use Rattle.volume_view.proofs.PrimariesApart.{primaries_apart, visible_is_free}
use Rattle.volume_view.proofs.OthersApart.{primary_is_no_other}
use Rattle.volume_view.proofs.SideBySide.{places_later}
use Rattle.volume_view.proofs.PrimariesStand.{primary_stands}
use Rattle.volume_view.proofs.Views.{view_reads_primaries, others_stay}
use Rattle.volume_view.proofs.Examples.{at, example, lvs, data_lv, row_moving}
use Rattle.volume_view.proofs.AcceptedExample.{accepted, true_is, not_true}

-- the sectors of its visible volume lie in no leg
pub tops : (moved sector : ℕ) → moved ≤ 1 → IsTop (example moved) 0 sector
tops moved sector small = visible_is_free (example moved) 0 sector data_lv (accepted moved small) (3 ∷ [], refl) (true_is true refl)

-- each of them has a primary place
pub all_stand : (moved sector : ℕ) → moved ≤ 1 → sector < 192 → (at : At) × (primary (example moved) 0 sector ≡ Some at)
all_stand moved sector small lt = primary_stands (example moved) 0 sector (3 ∷ [], data_lv) (accepted moved small) refl lt

-- no other of them has the primary place of sector 29
pub one_sector : (moved sector : ℕ) → moved ≤ 1 → primary (example moved) 0 sector ≡ Some (at 1 (4096 + 5 * 64 + 8 + 5)) → sector ≡ 29
unfolding primary met leg_spot
one_sector moved sector small there =
    ap (λ (s : Spot). s.sector) (primaries_apart (example moved) 0 0 sector 29 (at 1 (4096 + 5 * 64 + 8 + 5)) (accepted moved small)
    (tops moved sector small) (tops moved 29 small) there refl)

-- and none is read where the move goes, while it isn't finished
pub not_read : (sector : ℕ) → primary (example 0) 0 sector ≡ Some (at 1 (4096 + 9 * 64 + 40)) → ⊥
unfolding places primary met leg_spot deciding
not_read sector there =
    primary_is_no_other (example 0) 0 0 sector 168 (at 1 (4096 + 9 * 64 + 40))
    (record {
      primary = at 0 (2048 + 2 * 64 + 40);
      others = at 1 (4096 + 9 * 64 + 40) ∷ [];
      mirror = Some (record { lv = 3; segment = 0; region = 1 });
    })
    (accepted 0 (omega arith)) (tops 0 sector (omega arith)) (tops 0 168 (omega arith)) there refl (0, omega arith, refl)

-- the places of sectors 168 to 175 stand side by side, in one region
pub one_piece : (count : ℕ) → 21 ≡ (168 + count) / 8
    → places (example 0) 0 (168 + count) ≡ Some
    (record {
      primary = at 0 (2048 + 2 * 64 + 40 + count);
      others = at 1 (4096 + 9 * 64 + 40 + count) ∷ [];
      mirror = Some (record { lv = 3; segment = 0; region = 1 });
    })
one_piece count same =
    places_later (example 0) 0 168 count (record {
      primary = at 0 (2048 + 2 * 64 + 40);
      others = at 1 (4096 + 9 * 64 + 40) ∷ [];
      mirror = Some (record { lv = 3; segment = 0; region = 1 });
    }) (accepted 0 (omega arith)) same row_moving

-- only the first volume is visible
only_visible : (moved lv : ℕ) (volume : List ℕ × Lv) → slice_get (lvs moved) lv ≡ Some volume → IsTrue volume.1.status.visible → lv ≡ 0
only_visible moved zero volume is visible = refl
only_visible moved (suc zero) volume is visible =
    absurd (not_true volume.1.status.visible (sym (ap (λ (p : List ℕ × Lv). p.1.status.visible) (same_Some _ _ is))) visible)
only_visible moved (suc (suc zero)) volume is visible =
    absurd (not_true volume.1.status.visible (sym (ap (λ (p : List ℕ × Lv). p.1.status.visible) (same_Some _ _ is))) visible)
only_visible moved (suc (suc (suc zero))) volume is visible =
    absurd (not_true volume.1.status.visible (sym (ap (λ (p : List ℕ × Lv). p.1.status.visible) (same_Some _ _ is))) visible)
only_visible moved (suc (suc (suc (suc n)))) volume is visible = cc

-- its physical volumes are on disks 4 and 6
on_second : (pv : ℕ) → slice_index (4 ∷ 6 ∷ []) pv ≡ 6 → pv ≡ 1
on_second zero is = cc
on_second (suc zero) is = refl
on_second (suc (suc n)) is = cc

disks_differ : (moved : ℕ) → DisksDiffer (example moved) (4 ∷ 6 ∷ [])
disks_differ moved zero zero lt lt' same = refl
disks_differ moved zero (suc zero) lt lt' same = cc
disks_differ moved (suc zero) zero lt lt' same = cc
disks_differ moved (suc zero) (suc zero) lt lt' same = refl
disks_differ moved (suc (suc n)) other lt lt' same = absurd (omega arith)
disks_differ moved pv (suc (suc n)) lt lt' same = absurd (omega arith)

-- what the move copies changes no view, as long as it isn't finished
pub copy_unseen : (image new : Image) → ((disk k : ℕ) → (disk ≡ 6 → k ≡ 4096 + 9 * 64 + 40 → ⊥) → image disk k ≡ new disk k)
    → view image (example 0) (4 ∷ 6 ∷ []) ≡ view new (example 0) (4 ∷ 6 ∷ [])
copy_unseen image new beside =
    view_reads_primaries image new (example 0) (4 ∷ 6 ∷ [])
    (λ lv sector volume a is visible lt here.
    beside (slice_index (4 ∷ 6 ∷ []) a.pv) a.sector
    (λ disk k.
    let place : ℕ → ℕ → At = λ v x. record { pv = v; sector = x } in
    let same : a ≡ at 1 (4096 + 9 * 64 + 40) = ap (λ (n : ℕ). place n a.sector) (on_second a.pv disk) ∙ ap (place 1) k in
    not_read sector (ap (λ (n : ℕ). primary (example 0) n sector) (sym (only_visible 0 lv volume is visible)) ∙ here
    ∙ ap (λ (x : At). Some x) same)))

-- and a write of sector 29 changes no other sector
pub write_alone : (image new : Image) (sector : ℕ) → (29 ≡ sector → ⊥)
    → ((disk k : ℕ) → (disk ≡ 6 → k ≡ 4096 + 5 * 64 + 8 + 5 → ⊥) → image disk k ≡ new disk k)
    → content image (example 0) (4 ∷ 6 ∷ []) 0 sector ≡ content new (example 0) (4 ∷ 6 ∷ []) 0 sector
unfolding primary met leg_spot
write_alone image new sector differ beside =
    others_stay image new (example 0) (4 ∷ 6 ∷ []) 0 29 0 sector (at 1 (4096 + 5 * 64 + 8 + 5)) (accepted 0 (omega arith)) (disks_differ 0)
    (tops 0 29 (omega arith)) (tops 0 sector (omega arith)) refl (λ same. differ) beside
