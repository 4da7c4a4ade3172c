-- The one disk was read.
use Rattle.std.proofs.Common.{◌≡◌, ◌<◌, ℕ, zero, suc, true, List, [], ◌∷◌, length, Some, sym, ap, subst, ◌∙◌, arith}
use Rattle.std.specs.Prelude.{slice_get}
use Rattle.std.specs.FinSet as set
use Rattle.std.specs.Ordering.{nat_cmp}
use Rattle.std.proofs.lemmas.Bool.{false≢true}
use Rattle.std.proofs.lemmas.Option.{none-some, same_Some, slice_get_within}
use Rattle.pv_header.specs.declared.refusal.PvRefusal.TheVariants.{ListUnended}
use Rattle.disk_contents.specs.declared.contents.PvFound.TheVariants.{NoHeader}
use Rattle.vg_found.specs.declared.disk.Disk.{Disk}
use Rattle.vg_found.specs.Shape.{IsDisk, IsUnread}
use Rattle.group_tests.proofs.finds.bare_disk.Goals as goal

abbrev bare : Disk
bare = record { sectors = 8; contents = Some (NoHeader 1 (ListUnended 1)) }

-- no disk is named unread
none_named : (unread : set.FinSet nat_cmp) (count : ℕ) → unread ≡ set.empty → (pv : ℕ) → set.contains unread pv ≡ true → pv < count
none_named unread count none pv there =
    absurd (false≢true (sym (set.contains-empty nat_cmp pv) ∙ ap (λ (s : set.FinSet nat_cmp). set.contains s pv) (sym none) ∙ there))

bare_each : (disks : List Disk) (unread : set.FinSet nat_cmp) → disks ≡ bare ∷ [] → unread ≡ set.empty → (pv : ℕ) (disk : Disk)
    → slice_get disks pv ≡ Some disk → IsDisk pv disk × IsUnread unread pv disk
bare_each disks unread are none pv disk there = of pv (ap (λ (l : List Disk). slice_get l pv) (sym are) ∙ there) where
  of : (pv : ℕ) → slice_get (bare ∷ []) pv ≡ Some disk → IsDisk pv disk × IsUnread unread pv disk
  of zero here =
      subst (λ (d : Disk). IsDisk zero d × IsUnread unread zero d) (same_Some bare disk here) (
        record { least = omega arith; most = omega arith; contents = omega arith },
        (
          λ away. absurd (none-some _ (sym away)),
          λ named. let below : zero < 0 = none_named unread 0 none zero named in absurd (omega (arith, below)),
        ),
      )
  of (suc pv) here = let within : suc pv < 1 = slice_get_within (bare ∷ []) (suc pv) disk here in absurd (omega (arith, within))

pub without_group-requires-clause-each : goal.without_group-requires-clause-each
without_group-requires-clause-each c = bare_each c.in_ok-disks.disks.items c.new.result c.in_ok-disks.ensures.items c.new.ensures

pub without_group-requires-clause-below : goal.without_group-requires-clause-below
without_group-requires-clause-below c = none_named c.new.result (length c.in_ok-disks.disks.items) c.new.ensures
