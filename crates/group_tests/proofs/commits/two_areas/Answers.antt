-- The two areas can be committed to.
use Rattle.std.proofs.Common.{◌≡◌, ◌<◌, ℕ, zero, suc, Bool, true, ◌||◌, List, [], ◌∷◌, length, get_or, Option, None, Some, inl, sym, ap}
use Rattle.std.proofs.Common.{subst, ◌∙◌, arith}
use Rattle.std.specs.Prelude.{All}
use Rattle.std.specs.Cmp.{nat_cmp_total, unsigned_tied}
use Rattle.std.specs.Ordering.{nat_cmp}
use Rattle.std.specs.FinSet.{FinSet, contains, contains-insert, empty, insert}
use Rattle.std.proofs.lemmas.List.Elements.{All-cons, All-nil}
use Rattle.mda_header.specs.declared.header.Locn.{Locn}
use Rattle.mda_ring.specs.declared.area.Area.{Area}
use Rattle.mda_ring.specs.Areas.{CanTake, LieApart}
use Rattle.vg_commit.specs.Preparing.{AreCommitted, IsOnDiskOf}
use Rattle.group_tests.proofs.commits.two_areas.Goals as goal

abbrev first : Area × Option Locn
first = (record { pv = 3; start = 4096; size = 8192 }, None)

abbrev second : Area × Option Locn
second = (record { pv = 5; start = 4096; size = 4096 }, Some (record { offset = 512; size = 5; sum = 0 }))

abbrev both : List (Area × Option Locn)
both = first ∷ second ∷ []

take : All CanTake both
take =
    All-cons CanTake first (second ∷ []) (
      record {
        start_is_whole = omega arith;
        size_is_whole = omega arith;
        has_ring = omega arith;
        ends = omega arith;
      },
      tt,
    )
    (All-cons CanTake second [] (
      record { start_is_whole = omega arith; size_is_whole = omega arith; has_ring = omega arith; ends = omega arith },
      record { behind_header = omega arith; before_end = omega arith; has_bytes = omega arith; has_room = omega arith },
    )
    (All-nil CanTake))

-- they lie on two disks
apart : (i j : ℕ) (d : Area × Option Locn) → i < j → j < length both → LieApart (get_or both i d) (get_or both j d)
apart zero zero d below within = absurd (omega arith)
apart zero (suc zero) d below within = inl (λ (same : 3 ≡ 5). omega arith)
apart zero (suc (suc j)) d below within = absurd (omega arith)
apart (suc i) zero d below within = absurd (omega arith)
apart (suc i) (suc zero) d below within = absurd (omega arith)
apart (suc i) (suc (suc j)) d below within = absurd (omega arith)

-- the set of both disks
abbrev none : FinSet nat_cmp
none = empty

abbrev one : FinSet nat_cmp
one = insert none 3

abbrev disks : FinSet nat_cmp
disks = insert one 5

has_3 : contains disks 3 ≡ true
has_3 =
    contains-insert nat_cmp_total one 5 3 ∙ ap (λ (t : Bool). t || contains one 3) (unsigned_tied 3 5)
    ∙ contains-insert nat_cmp_total none 3 3 ∙ ap (λ (t : Bool). t || contains none 3) (unsigned_tied 3 3)

has_5 : contains disks 5 ≡ true
has_5 = contains-insert nat_cmp_total one 5 5 ∙ ap (λ (t : Bool). t || contains one 5) (unsigned_tied 5 5)

committed : AreCommitted both disks
committed = record {
  some = omega arith;
  take = take;
  apart = apart;
  on_disks =
      All-cons (IsOnDiskOf disks) first (second ∷ []) (omega arith, has_3)
      (All-cons (IsOnDiskOf disks) second [] (omega arith, has_5) (All-nil (IsOnDiskOf disks)));
}

pub returns : goal.returns
returns c =
    subst (λ (l : List (Area × Option Locn)). AreCommitted l disks) (sym (c.from_vec.ensures ∙ c.in_ok-list.ensures.items)) committed
