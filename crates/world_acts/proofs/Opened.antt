-- A world in which nothing was begun.
use Rattle.std.proofs.Common.{◌≡◌, ◌≤◌, ◌<◌, ℕ, zero, suc, ◌+◌, ◌*◌, nat_eq, List, [], length, replicate}
use Rattle.std.proofs.Common.{Some, sum_by, mul-le-mul_right, suc-mul, refl, sym, ap, subst, ◌∙◌, arith, true≢false}
use Rattle.std.specs.List.{IsDistinct}
use Rattle.std.proofs.lemmas.List.{length-replicate}
use Rattle.std.proofs.lemmas.List.Elements.{All-nil, All-replicate}
use Rattle.std.proofs.lemmas.List.Sums.{sum_by-cons}
use Rattle.disk_model.specs.Record.{Operation}
use Rattle.disk_model.specs.State.{IsLawful}
use Rattle.flush_plan.specs.declared.records.Flush.{Flush}
use Rattle.flush_plan.specs.Plans.{IsWithin, no_marks}
use Rattle.flush_waits.specs.Waits.{DiskWaits, none_waits}
use Rattle.piece_table.specs.declared.live.LivePiece.{LivePiece}
use Rattle.world_acts.specs.declared.state.Core.{Core}
use Rattle.world_acts.specs.Acts.{World}
use Rattle.world_acts.specs.Counts.{is_line, is_piece, waiting}
use Rattle.world_acts.specs.Orderly.{IsLive, IsOrderly}
use Rattle.world_acts.specs.Owners.{in_flight_at}
use Rattle.world_acts.specs.Steps.{new_core}
use Rattle.world_acts.specs.Volumes.{AreLaidOut, IsPlaced, lv_of}
use Rattle.world_acts.proofs.WaitsKept.{waiting_on}

none_single : IsDistinct nat_eq []
unfolding IsDistinct
none_single = tt

-- nothing is summed over disks on which nothing waits
none_summed : (f : DiskWaits → ℕ) → f none_waits ≡ 0 → (n : ℕ) → sum_by f (replicate n none_waits) ≡ 0
none_summed f none zero = refl
none_summed f none (suc n) =
    let e : sum_by f (replicate (suc n) none_waits) ≡ f none_waits + sum_by f (replicate n none_waits) =
    sum_by-cons f none_waits (replicate n none_waits) in
    omega (arith, e, none, none_summed f none n)

-- each volume has its places
places_within : (key disks volumes : ℕ) → key < volumes → key * disks + disks ≤ volumes * disks
places_within key disks volumes below =
    let most : suc key * disks ≤ volumes * disks = mul-le-mul_right disks below in
    let next : suc key * disks ≡ key * disks + disks = suc-mul key disks in
    omega (arith, most, next)

pub new_orderly : (w : World) (volumes : ℕ) → IsLawful w.shelf → w.shelf.in_flight ≡ [] → AreLaidOut w.core.volumes w.shelf.sizes
    → length w.shelf.sizes ≤ 64
    → ((key lv : ℕ) → lv_of w.core.volumes key ≡ Some lv → key < volumes)
    → IsOrderly (record w { core = new_core w.core (length w.shelf.sizes) volumes })
new_orderly w volumes lawful idle laid few keys =
    let c : Core = new_core w.core (length w.shelf.sizes) volumes in
    let n : ℕ = length w.shelf.sizes in
    let disks : List DiskWaits = replicate n none_waits in
    let long : length disks ≡ n = length-replicate n none_waits in
    let unserved : sum_by (λ (d : DiskWaits). length d.next) disks ≡ 0 = none_summed (λ (d : DiskWaits). length d.next) refl n in
    let places : List ℕ = replicate (volumes * n) 0 in
    let many : length places ≡ volumes * n = length-replicate (volumes * n) 0 in
    let ops : ◌≡◌ {A = ℕ} 0 (0 + sum_by (λ (d : DiskWaits). length d.next) disks) = omega (arith, unserved) in
    record {
      tidy = record {
        lines = record { many = refl; opened = refl; holds = tt };
        pieces = record { single = none_single; each = All-nil (IsLive [] c.opens 0) };
        owners = record { single = none_single; flying = λ q. refl };
        counts = record {
          left = λ q. let none : waiting (is_line q) disks ≡ 0 = none_summed (waiting_on (is_line q)) refl n in omega (arith, none);
          awaited = λ q. sym (none_summed (waiting_on (is_piece q)) refl n);
        };
        room = record {
          owed = λ i. record { ops = ops i; sectors = 0; writes = 0; waits = 0; entries = 0 };
          counted = record { ops = omega arith; sectors = omega arith; writes = omega arith; waits = omega arith; entries = omega arith };
          writes = omega arith;
          waits = omega arith;
          entries = omega arith;
          owners = omega arith;
        };
        flushes = record {
          reached = All-replicate (IsWithin 0) n no_marks (omega arith, omega arith, omega arith);
          after = All-nil (λ (f : Flush). f.after ≤ 0);
          marks = long ∙ sym (length-replicate n no_marks);
          tags = λ i j d before within. absurd (omega (arith, within));
          dirty =
              λ key lv at. subst (λ (m : ℕ). key * m + m ≤ length places) (sym long)
              (subst (λ (m : ℕ). key * n + n ≤ m) (sym many) (places_within key n volumes (keys key lv at)));
        };
      };
      backed = record {
        lawful = lawful;
        known = record {
          owned = λ tag. ap (λ (ops : List Operation). in_flight_at ops tag) idle;
          apart = λ tag some. absurd (true≢false (sym some));
        };
        places = record {
          laid = laid;
          placed = All-nil (λ (e : ℕ × LivePiece). IsPlaced w.core.volumes w.shelf.sizes e.1.piece);
          many = long;
          few = few;
        };
        spare_ops = omega arith;
        spare_sectors = omega arith;
        moments = omega arith;
      };
    }
