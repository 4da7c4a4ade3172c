use Rattle.std.proofs.Common.{◌≡◌, ℕ, List, length, refl, ap, ◌∙◌, arith}
use Rattle.world_acts.specs.Acts.{World, follows, world}
use Rattle.world_acts.proofs.Lasting.{sizes_reach}
use Rattle.world_acts.proofs.Orderly.{orderly_reaches}
use Rattle.world_acts.proofs.Reaching.{reaches_both, reaches_none}
use Rattle.io_core.proofs.WantedFlushes.{flushed_more}
use Rattle.io_core.proofs.flushing.submit_flushes.Goals as goal

pub loop-pv-init : goal.loop-pv-init
loop-pv-init g c = record {
  reaches = reaches_none follows (world (g.S.Shelf.state c.args.shelf.now) c.args.core.now);
  settled = c.requires.settled;
  opens = refl;
  flushed = λ pv below. absurd (omega (arith, below));
}

pub flush_wanted-requires : goal.flush_wanted-requires
flush_wanted-requires g c =
    let w : World = world (g.S.Shelf.state c.args.shelf.now) c.args.core.now in
    let v : World = world (g.S.Shelf.state c.loop-pv.shelf) c.loop-pv.core in
    let orderly = orderly_reaches c.loop-pv.invariant.reaches c.requires.orderly in
    let sizes : length v.shelf.sizes ≡ length w.shelf.sizes =
    ap (λ (l : List ℕ). length l) (sizes_reach follows w v c.loop-pv.invariant.reaches) in
    record {
      orderly = orderly;
      settled = c.loop-pv.invariant.settled;
      disk = omega (arith, sizes, orderly.backed.places.many, c.count-pv-end.ensures);
    }

pub loop-pv-preserved : goal.loop-pv-preserved
loop-pv-preserved g c =
    let w : World = world (g.S.Shelf.state c.args.shelf.now) c.args.core.now in
    let v : World = world (g.S.Shelf.state c.loop-pv.shelf) c.loop-pv.core in
    let u : World = world (g.S.Shelf.state c.flush_wanted.new.shelf) c.flush_wanted.new.core in
    let is = c.flush_wanted.ensures in
    record {
      reaches = reaches_both follows w v u c.loop-pv.invariant.reaches is.reaches;
      settled = is.settled;
      opens = is.opens ∙ c.loop-pv.invariant.opens;
      flushed =
          flushed_more c.loop-pv.pv v u
          (record { reaches = is.reaches; settled = is.settled; here = is.here; opens = is.opens; others = is.others })
          c.loop-pv.invariant.flushed;
    }

pub returns : goal.returns
returns g c =
    let w : World = world (g.S.Shelf.state c.args.shelf.now) c.args.core.now in
    let v : World = world (g.S.Shelf.state c.loop-pv.shelf) c.loop-pv.core in
    let orderly = orderly_reaches c.loop-pv.invariant.reaches c.requires.orderly in
    let sizes : length v.shelf.sizes ≡ length w.shelf.sizes =
    ap (λ (l : List ℕ). length l) (sizes_reach follows w v c.loop-pv.invariant.reaches) in
    record {
      reaches = c.loop-pv.invariant.reaches;
      opens = c.loop-pv.invariant.opens;
      rest = record {
        settled = c.loop-pv.invariant.settled;
        flushed =
            λ pv below. c.loop-pv.invariant.flushed pv (omega (arith, below, sizes, orderly.backed.places.many, c.count-pv-end.ensures));
      };
    }
