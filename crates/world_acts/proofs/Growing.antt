-- A world of which more is spare: all else stays as it is.
use Rattle.std.proofs.Common.{◌≡◌, ℕ, refl, sym, ap, subst, ◌∙◌, arith}
use Rattle.std.proofs.lemmas.List.Elements.{All-weaker}
use Rattle.disk_model.specs.State.{IsLawful, State}
use Rattle.world_acts.specs.declared.state.Core.{Core}
use Rattle.world_acts.specs.Acts.{IsGrown, World, world}
use Rattle.world_acts.specs.OpenLines.{Opens}
use Rattle.world_acts.specs.Orderly.{IsLive, IsOrderly}
use Rattle.world_acts.specs.Steps.{grown}
use Rattle.world_acts.proofs.LinesKept.{LinesStay, lines_same, live_stays, never, never_more, open_stays}

lines_grown : (opens : Opens) (spare : ℕ) → LinesStay 0 never never opens (record opens { spare = spare })
lines_grown opens spare =
    let same = lines_same 0 opens in record { kept = refl; left = λ q. refl; lines = same.lines; entries = refl }

pub after_grow : (w v : World) → IsOrderly w → IsGrown w v → IsOrderly v
after_grow w v o g =
    let c : Core = w.core in
    let d : Core = grown c v.core in
    let s : State = record w.shelf { spare_ops = v.shelf.spare_ops; spare_sectors = v.shelf.spare_sectors } in
    let same : v ≡ world s d = λ i. record { shelf = g.shelf i; core = g.core i } in
    let stay : LinesStay 0 never never c.opens d.opens = lines_grown c.opens v.core.opens.spare in
    let t = o.tidy in
    let r = t.room in
    let f = t.flushes in
    let b = o.backed in
    subst (λ (x : World). IsOrderly x) (sym same)
    (record {
      tidy = record {
        lines = open_stays stay (never_more 0 c.barrier) t.lines;
        pieces = record {
          single = t.pieces.single;
          each =
              All-weaker (IsLive c.lines.begun c.opens c.pieces.next) (IsLive c.lines.begun d.opens c.pieces.next)
              (λ e is. live_stays e stay is) c.pieces.lives t.pieces.each;
        };
        owners = t.owners;
        counts = record { left = t.counts.left; awaited = t.counts.awaited };
        room = record {
          owed = r.owed;
          counted = r.counted;
          writes = omega (arith, r.writes, g.writes);
          waits = omega (arith, r.waits, g.waits);
          entries = omega (arith, r.entries, g.entries);
          owners = omega (arith, r.owners, g.owners);
        };
        flushes = record { reached = f.reached; after = f.after; marks = f.marks; tags = f.tags; dirty = f.dirty };
      };
      backed = record {
        lawful = subst (λ (x : State). IsLawful x) g.shelf g.lawful;
        known = record { owned = b.known.owned; apart = b.known.apart };
        places = b.places;
        spare_ops = omega (arith, b.spare_ops, g.ops);
        spare_sectors = omega (arith, b.spare_sectors, g.sectors);
        moments = b.moments;
      };
    })

pub grown_none : (w : World) → IsLawful w.shelf → IsGrown w w
grown_none w lawful = record {
  lawful = lawful;
  shelf = refl;
  core = refl;
  ops = omega arith;
  sectors = omega arith;
  lines = omega arith;
  entries = omega arith;
  opens = omega arith;
  claims = omega arith;
  owners = omega arith;
  writes = omega arith;
  waits = omega arith;
}

pub grown_both : (w v u : World) → IsGrown w v → IsGrown v u → IsGrown w u
grown_both w v u g h = record {
  lawful = h.lawful;
  shelf =
      h.shelf
      ∙ ap (λ (s : State). record s { spare_ops = u.shelf.spare_ops; spare_sectors = u.shelf.spare_sectors }) g.shelf;
  core = h.core ∙ ap (λ (c : Core). grown c u.core) g.core;
  ops = omega (arith, g.ops, h.ops);
  sectors = omega (arith, g.sectors, h.sectors);
  lines = omega (arith, g.lines, h.lines);
  entries = omega (arith, g.entries, h.entries);
  opens = omega (arith, g.opens, h.opens);
  claims = omega (arith, g.claims, h.claims);
  owners = omega (arith, g.owners, h.owners);
  writes = omega (arith, g.writes, h.writes);
  waits = omega (arith, g.waits, h.waits);
}
