use Rattle.std.proofs.Common.{◌≡◌, ◌≤◌, ◌<◌, ℕ, List, None, [], false, nat_eq, length, sym, subst, ◌∙◌, arith}
use Rattle.flush_plan.specs.Plans.{flight_of}
use Rattle.flush_waits.specs.Waits.{Waits, disk_waits}
use Rattle.world_acts.specs.declared.state.Core.{Core}
use Rattle.world_acts.specs.Acts.{Act, SettlesAndGoes, World, flushed_acts, follows, world}
use Rattle.world_acts.specs.Orderly.{AreReleased, IsOrderly}
use Rattle.world_acts.proofs.Orderly.{orderly_reaches}
use Rattle.world_acts.proofs.Reaching.{reaches_both, reaches_none, settled_further}
use Rattle.io_core.specs.Rest.{IsCalm, no_one}
use Rattle.io_core.proofs.FirstReleased.{first_line, none_first}
use Rattle.io_core.proofs.Released.{IsMarked, ReleasesOne, WaitsLess, WarnsOne, all_released, is_marked, marked_orderly, marked_runs}
use Rattle.io_core.proofs.Released.{released_none, releases_one, served_none, served_some, stays_but, waits_less, warned}
use Rattle.io_core.proofs.ending.release_all.Goals as goal

pub note-requires : goal.note-requires
note-requires g c =
    let many : length c.args.core.now.waits.disks ≡ length (g.S.Shelf.state c.args.shelf.now).sizes =
    c.requires.orderly.backed.places.many in
    let few : length (g.S.Shelf.state c.args.shelf.now).sizes ≤ 64 = c.requires.orderly.backed.places.few in
    omega (arith, c.requires.disk, many, few)

pub loop-line-init : goal.loop-line-init
loop-line-init g c =
    let s = g.S.Shelf.state c.args.shelf.now in
    let core : Core = c.args.core.now in
    let pv : ℕ = c.args.pv in
    let m : IsMarked core c.note.new.core =
    subst (λ (x : Core). IsMarked core x) (sym c.note.ensures) (is_marked core pv c.args.well) in
    let many : length core.waits.disks ≡ length s.sizes = c.requires.orderly.backed.places.many in
    let disk : pv < length s.sizes = omega (arith, c.requires.disk, many) in
    let acts : List Act = flushed_acts pv c.args.well in
    record {
      may = record {
        orderly =
            subst (λ (x : Core). IsOrderly (world s x)) (sym c.note.ensures)
            (marked_orderly (world s core) pv c.args.well disk c.requires.orderly);
        calm = m.calm c.requires.calm;
        disk = subst (λ (x : Waits). pv < length x.disks) (sym m.waits) c.requires.disk;
        ended = subst (λ (x : Waits). flight_of x.plan pv ≡ None) (sym m.waits) c.requires.ended;
      };
      ends =
          subst (λ (x : Core). SettlesAndGoes acts (world s core) (world s x)) (sym c.note.ensures)
          (record { mid = _; settles = marked_runs (world s core) pv c.args.well disk; goes = reaches_none follows _ });
      released =
          λ are. subst (λ (x : Waits). (q : ℕ) → nat_eq q pv ≡ false → flight_of x.plan q ≡ None → (disk_waits x q).served ≡ [])
          (sym m.waits) are;
    }

pub release-requires-clause-tidy : goal.release-requires-clause-tidy
release-requires-clause-tidy g c = c.loop-line.invariant.may.orderly.tidy

pub warn-requires : goal.warn-requires
warn-requires g c =
    let w : World = world (g.S.Shelf.state c.args.shelf.now) c.loop-line.core in
    let kept = c.loop-line.invariant in
    let r : ReleasesOne w c.args.pv c.in-Some.line (world w.shelf c.release.new.core) =
    subst (λ (x : Core). ReleasesOne w c.args.pv c.in-Some.line (world w.shelf x)) (sym c.in-Some.ensures.after)
    (releases_one w c.args.pv c.in-Some.line kept.may.orderly kept.may.disk
    (first_line w.core c.args.pv c.in-Some.line c.in-Some.lasts c.in-Some.ensures.first) kept.may.calm) in
    r.opened

pub close_line-requires-clause-orderly : goal.close_line-requires-clause-orderly
close_line-requires-clause-orderly g c =
    let w : World = world (g.S.Shelf.state c.args.shelf.now) c.loop-line.core in
    let kept = c.loop-line.invariant in
    let q : WarnsOne w c.args.pv c.in-Some.line (world w.shelf c.warn.new.core) =
    subst (λ (x : Core). WarnsOne w c.args.pv c.in-Some.line (world w.shelf x)) (sym c.warn.ensures)
    (warned w c.args.pv c.in-Some.line c.release.new.core c.in-Some.lasts kept.may c.in-Some.ensures.first c.in-Some.ensures.behind
    c.in-Some.ensures.after) in
    orderly_reaches q.reaches kept.may.orderly

pub close_line-requires-clause-opened : goal.close_line-requires-clause-opened
close_line-requires-clause-opened g c =
    let w : World = world (g.S.Shelf.state c.args.shelf.now) c.loop-line.core in
    let kept = c.loop-line.invariant in
    let q : WarnsOne w c.args.pv c.in-Some.line (world w.shelf c.warn.new.core) =
    subst (λ (x : Core). WarnsOne w c.args.pv c.in-Some.line (world w.shelf x)) (sym c.warn.ensures)
    (warned w c.args.pv c.in-Some.line c.release.new.core c.in-Some.lasts kept.may c.in-Some.ensures.first c.in-Some.ensures.behind
    c.in-Some.ensures.after) in
    q.one.opened

pub close_line-requires-clause-other : goal.close_line-requires-clause-other
close_line-requires-clause-other g c =
    let w : World = world (g.S.Shelf.state c.args.shelf.now) c.loop-line.core in
    let kept = c.loop-line.invariant in
    let q : WarnsOne w c.args.pv c.in-Some.line (world w.shelf c.warn.new.core) =
    subst (λ (x : Core). WarnsOne w c.args.pv c.in-Some.line (world w.shelf x)) (sym c.warn.ensures)
    (warned w c.args.pv c.in-Some.line c.release.new.core c.in-Some.lasts kept.may c.in-Some.ensures.first c.in-Some.ensures.behind
    c.in-Some.ensures.after) in
    q.one.other

pub loop-line-preserved : goal.loop-line-preserved
loop-line-preserved g c =
    let w : World = world (g.S.Shelf.state c.args.shelf.now) c.loop-line.core in
    let kept = c.loop-line.invariant in
    let q : WarnsOne w c.args.pv c.in-Some.line (world w.shelf c.warn.new.core) =
    subst (λ (x : Core). WarnsOne w c.args.pv c.in-Some.line (world w.shelf x)) (sym c.warn.ensures)
    (warned w c.args.pv c.in-Some.line c.release.new.core c.in-Some.lasts kept.may c.in-Some.ensures.first c.in-Some.ensures.behind
    c.in-Some.ensures.after) in
    let first : World = world w.shelf c.args.core.now in
    let z : World = world w.shelf c.close_line.new.core in
    let less : WaitsLess w.core.waits z.core.waits c.args.pv =
    subst (λ (x : Waits). WaitsLess w.core.waits x c.args.pv) (sym c.close_line.ensures.waits)
    (waits_less w.core.waits c.warn.new.core.waits c.args.pv kept.may.disk kept.may.ended
    (served_some w.core c.args.pv c.in-Some.line
    (first_line w.core c.args.pv c.in-Some.line c.in-Some.lasts c.in-Some.ensures.first)) q.one.flights q.one.disks) in
    record {
      may = record {
        orderly = orderly_reaches c.close_line.ensures.reaches (orderly_reaches q.reaches kept.may.orderly);
        calm = c.close_line.ensures.calm q.one.calm;
        disk = less.disk;
        ended = less.ended;
      };
      ends =
          settled_further first w z kept.ends
          (reaches_both follows w (world w.shelf c.warn.new.core) z q.reaches c.close_line.ensures.reaches);
      released = λ are. stays_but w.core z.core c.args.pv less (kept.released are);
    }

pub loop-line-smaller : goal.loop-line-smaller
loop-line-smaller g c =
    let w : World = world (g.S.Shelf.state c.args.shelf.now) c.loop-line.core in
    let kept = c.loop-line.invariant in
    let q : WarnsOne w c.args.pv c.in-Some.line (world w.shelf c.warn.new.core) =
    subst (λ (x : Core). WarnsOne w c.args.pv c.in-Some.line (world w.shelf x)) (sym c.warn.ensures)
    (warned w c.args.pv c.in-Some.line c.release.new.core c.in-Some.lasts kept.may c.in-Some.ensures.first c.in-Some.ensures.behind
    c.in-Some.ensures.after) in
    let less : WaitsLess w.core.waits c.close_line.new.core.waits c.args.pv =
    subst (λ (x : Waits). WaitsLess w.core.waits x c.args.pv) (sym c.close_line.ensures.waits)
    (waits_less w.core.waits c.warn.new.core.waits c.args.pv kept.may.disk kept.may.ended
    (served_some w.core c.args.pv c.in-Some.line
    (first_line w.core c.args.pv c.in-Some.line c.in-Some.lasts c.in-Some.ensures.first)) q.one.flights q.one.disks) in
    less.fewer

pub returns : goal.returns
returns g c =
    let s = g.S.Shelf.state c.args.shelf.now in
    let core : Core = c.loop-line.core in
    let kept = c.loop-line.invariant in
    let same : c.release.new.core ≡ core =
    c.in_default.ensures.after
    ∙ released_none core c.args.pv (none_first core c.args.pv c.in_default.ensures.first) in
    record {
      ends = subst (λ (x : Core). SettlesAndGoes (flushed_acts c.args.pv c.args.well) (world s c.args.core.now) (world s x)) (sym same) kept.ends;
      calm = subst (λ (x : Core). IsCalm no_one no_one x) (sym same) kept.may.calm;
      released =
          λ are. subst (λ (x : Core). AreReleased x) (sym same)
          (all_released core c.args.pv
          (served_none core c.args.pv (none_first core c.args.pv c.in_default.ensures.first)) (kept.released are));
    }
