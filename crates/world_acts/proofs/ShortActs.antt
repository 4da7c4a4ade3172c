-- Acts that change little: a failed disk, a piece that is to start, more that is ready, and a line that is to fail.
use Rattle.std.proofs.Common.{◌≡◌, ℕ, IfSome, Option, Some, nat_cmp, refl, sym, subst, arith}
use Rattle.std.specs.FinSet as set
use Rattle.std.specs.FinSet.{FinSet}
use Rattle.std.proofs.lemmas.List.Elements.{All-weaker}
use Rattle.line_answers.specs.declared.answer.Answer.{Answer}
use Rattle.disk_model.specs.State.{IsLawful, State}
use Rattle.claim_table.specs.Claims.{Claims}
use Rattle.claim_table.specs.Steps as claims
use Rattle.world_acts.specs.declared.state.Core.{Core}
use Rattle.world_acts.specs.declared.open_line.OpenLine.{OpenLine}
use Rattle.world_acts.specs.Acts.{Allowed, LineFails, Marks, Readies, Wakes, World, after}
use Rattle.world_acts.specs.OpenLines.{IsBarrier, after_failure, open_at}
use Rattle.world_acts.specs.Orderly.{IsBacked, IsLive, IsOrderly}
use Rattle.world_acts.specs.Steps.{after_line_fails}
use Rattle.world_acts.proofs.LinesKept.{LinesStay, line_failed, live_stays, never, never_more, open_stays}
use Rattle.world_acts.proofs.RoomsKept.{spare_same}
use Rattle.world_acts.proofs.Tables.{some_of}

-- other claims, other disks that failed, and another line that waits for all others, or none
pub with_others : (w : World) (table : Claims) (failed : FinSet nat_cmp) (barrier : Option ℕ) → IsOrderly w
    → IfSome barrier (IsBarrier w.core.opens)
    → IsOrderly (record w {
      core = record w.core { pieces = record w.core.pieces { claims = table }; failed = failed; barrier = barrier };
    })
with_others w table failed barrier o holds =
    let t = o.tidy in
    let r = t.room in
    let b = o.backed in
    record {
      tidy = record {
        lines = record { many = t.lines.many; opened = t.lines.opened; holds = holds };
        pieces = t.pieces;
        owners = t.owners;
        counts = t.counts;
        room = record { owed = r.owed; counted = r.counted; writes = r.writes; waits = r.waits; entries = r.entries; owners = r.owners };
        flushes = t.flushes;
      };
      backed = record {
        lawful = b.lawful;
        known = record { owned = b.known.owned; apart = b.known.apart };
        places = b.places;
        spare_ops = b.spare_ops;
        spare_sectors = b.spare_sectors;
        moments = b.moments;
      };
    }

pub after_mark : (w : World) (pv : ℕ) → IsOrderly w → IsOrderly (after w (Marks pv))
after_mark w pv o = with_others w w.core.pieces.claims (set.insert w.core.failed pv) w.core.barrier o o.tidy.lines.holds

pub after_wake : (w : World) → IsOrderly w → IsOrderly (after w Wakes)
after_wake w o = with_others w (claims.after_ready w.core.pieces.claims) w.core.failed w.core.barrier o o.tidy.lines.holds

pub after_ready : (w : World) (now : State) → IsOrderly w → Allowed w (Readies now) → IsOrderly (after w (Readies now))
after_ready w now o allowed =
    let b = o.backed in
    record {
      tidy = o.tidy;
      backed =
          subst (λ (s : State). IsLawful s → IsBacked s w.core) (sym allowed.0.same)
          (λ lawful. record {
            lawful = lawful;
            known = record { owned = b.known.owned; apart = b.known.apart };
            places = b.places;
            spare_ops = b.spare_ops;
            spare_sectors = b.spare_sectors;
            moments = b.moments;
          }) allowed.1;
    }

pub after_line_failure : (w : World) (line : ℕ) (why : Answer) → IsOrderly w → Allowed w (LineFails line why)
    → IsOrderly (after w (LineFails line why))
after_line_failure w line why o allowed =
    let c : Core = w.core in
    let found : (x : OpenLine) × (open_at c.opens line ≡ Some x) = some_of (open_at c.opens line) allowed.0 in
    let stay : LinesStay line never never c.opens (after_failure c.opens line why) = line_failed c.opens line found.0 why found.1 in
    let t = o.tidy in
    let b = o.backed in
    record {
      tidy = record {
        lines = open_stays stay (never_more line c.barrier) t.lines;
        pieces = record {
          single = t.pieces.single;
          each =
              All-weaker (IsLive c.lines.begun c.opens c.pieces.next) (IsLive c.lines.begun (after_failure c.opens line why) c.pieces.next)
              (λ e is. live_stays e stay is) c.pieces.lives t.pieces.each;
        };
        owners = t.owners;
        counts = record { left = λ q. omega (arith, stay.left q, t.counts.left q); awaited = t.counts.awaited };
        room =
            spare_same c (after_line_fails c line why) t.room refl
            (record {
              ops = omega arith;
              sectors = omega arith;
              writes = omega arith;
              waits = omega arith;
              entries =
                  omega (arith, stay.entries);
            })
            (record { writes = omega arith; waits = omega arith; entries = omega arith; owners = omega arith });
        flushes = t.flushes;
      };
      backed = record {
        lawful = b.lawful;
        known = record { owned = b.known.owned; apart = b.known.apart };
        places = b.places;
        spare_ops = b.spare_ops;
        spare_sectors = b.spare_sectors;
        moments = b.moments;
      };
    }
