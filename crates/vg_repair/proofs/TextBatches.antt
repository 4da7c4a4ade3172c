-- The three batches of the commit of the found text to the stale areas.
use Rattle.std.proofs.Common.{◌≡◌, ◌<◌, ℕ, ◌+◌, Bool, true, false, cond, ltb, List, [], ◌∷◌, ◌++◌, length, map, Option, Some, None, refl}
use Rattle.std.proofs.Common.{sym, ap, subst, ◌∙◌, arith}
use Rattle.std.specs.Prelude.{All}
use Rattle.std.proofs.lemmas.List.{append-nil}
use Rattle.std.proofs.lemmas.List.Elements.{All-nil}
use Rattle.mda_header.specs.declared.header.Locn.{Locn}
use Rattle.mda_ring.specs.Ring.{need, room}
use Rattle.mda_ring.specs.declared.area.Area.{Area}
use Rattle.disk_batch.specs.Batches.{writes_of}
use Rattle.disk_batch.specs.InTurn.{CanRun, Put}
use Rattle.disk_batch.specs.declared.batch.Batch.{Batch}
use Rattle.vg_commit.specs.Plans.{HeadersRead}
use Rattle.vg_commit.specs.Preparing.{AreCommitted, AreWithin, area_disks}
use Rattle.vg_commit.specs.TooLarge.{first_too_large}
use Rattle.change_batches.specs.Batches.{text_batches}
use Rattle.change_batches.specs.Building.{AreHeld, IsTextAdded, LiesIn}
use Rattle.vg_repair.specs.Batches.{stale_batches}
use Rattle.vg_repair.specs.Building.{AreRewritten}
use Rattle.vg_repair.specs.Stale.{too_large_among}
use Rattle.vg_repair.proofs.AreaDisks.{disks_hold, disks_within}

-- ---- room

room_here : (b : Bool) (pv n m : ℕ) (rest : Option (ℕ × ℕ × ℕ)) (other : Option (ℕ × ℕ)) → cond b (Some (pv, n, m)) rest ≡ None
    → (rest ≡ None → other ≡ None) → cond b (Some (n, m)) other ≡ None
room_here true pv n m rest other none later = absurd cc
room_here false pv n m rest other none later = later none

-- where each has room none is too large
pub all_fit : (text : List ℕ) (areas : List (Area × Option Locn)) → too_large_among text areas ≡ None → first_too_large text areas ≡ None
all_fit text [] none = refl
all_fit text (area ∷ areas) none =
    room_here (ltb (room area.0.size area.1) (need (length text + 1))) area.0.pv (need (length text + 1)) (room area.0.size area.1)
    (too_large_among text areas) (first_too_large text areas) none (all_fit text areas)

-- ---- the areas

-- as a commit asks for them
pub held_committed : (areas : List (Area × Option Locn)) → 0 < length areas → AreHeld areas → AreCommitted areas (area_disks areas)
held_committed areas some held =
    record {
      some = some;
      take = held.take;
      apart = held.apart;
      on_disks = λ k d within. (held.few k d within, disks_hold areas k d within);
    }

pub lie_within : (sizes : List ℕ) (areas : List (Area × Option Locn)) → All (LiesIn sizes) areas → AreWithin sizes areas (area_disks areas)
lie_within sizes areas lie = record { areas_lie = lie; disks_are = disks_within sizes areas lie }

-- ---- the batches

some_batches : (text : List ℕ) (areas : List (Area × Option Locn)) → 0 < length areas → stale_batches text areas ≡ text_batches text areas
some_batches text [] some = absurd (omega (arith, some))
some_batches text (area ∷ areas) some = refl

module _ (text : List ℕ) (areas : List (Area × Option Locn)) (old new : List Batch) where
  -- there are none
  pub none_rewritten : length areas ≡ 0 → new ≡ old → AreRewritten text areas old new
  none_rewritten none same = empty areas none
    where
      empty : (list : List (Area × Option Locn)) → length list ≡ 0 → AreRewritten text list old new
      empty [] is = record {
        writes = ap (map writes_of) same ∙ sym (append-nil (map writes_of old));
        room = refl;
        read = All-nil (HeadersRead text);
        run = λ sizes lie run. subst (All (CanRun sizes)) (sym same) run;
      }
      empty (area ∷ list) is = absurd (omega (arith, is))

  -- there are
  pub some_rewritten : 0 < length areas → too_large_among text areas ≡ None → IsTextAdded text areas (area_disks areas) old new
      → AreRewritten text areas old new
  some_rewritten some fit added = record {
    writes = added.writes ∙ ap (λ (l : List (List Put)). map writes_of old ++ l) (sym (some_batches text areas some));
    room = fit;
    read = added.read;
    run = λ sizes lie run. added.run sizes (lie_within sizes areas lie) run;
  }
