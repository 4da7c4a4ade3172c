use Rattle.std.proofs.Common.{◌++◌, ◌∷◌, [], ◌∙◌, ap, refl}
use Rattle.table_lock.specs.declared.event.LockEvent.TheVariants.{Taken, Missed}
use Rattle.table_lock.specs.Seats.{history, seen}
use Rattle.table_lock.proofs.Histories.{adds_longer, adds_after}
use Rattle.table_lock.proofs.Prefixes.{prefix_self, prefix_trans}
use Rattle.table_lock.proofs.lock.TableLock.take.Goals as goal

pub loop-init : goal.loop-init
loop-init g c = record {
  of = c.requires.of;
  same_parts = refl;
  longer = prefix_self (history c.args.seat.now);
  more_seen = prefix_self (seen c.args.seat.now);
  idle = c.requires.idle;
  none_missed = λ _. refl;
}

pub loop-preserved : goal.loop-preserved
loop-preserved g c =
    let l = c.loop.invariant in
    let t = c.in_default.ensures in
    let old = history c.loop.seat in
    let new = history c.try_take.new.seat in
    record {
      of = t.of.0;
      same_parts = t.of.1 ∙ l.same_parts;
      longer =
          prefix_trans (history c.args.seat.now) old new l.longer (adds_longer g.T.Grows.origin g.T.Grows.story old new Missed t.none.1);
      more_seen = prefix_trans (seen c.args.seat.now) (seen c.loop.seat) (seen c.try_take.new.seat) l.more_seen t.seen;
      idle = t.none.0;
      none_missed = λ all. absurd (cc ((t.alone (l.same_parts ∙ all)).0));
    }

pub returns-in-Some-try_take-clause-taken : goal.returns-in-Some-try_take-clause-taken
returns-in-Some-try_take-clause-taken g c =
    let t = c.in-Some-try_take.ensures.taken in (
      t.0,
      adds_after g.T.Grows.origin g.T.Grows.story (history c.args.seat.now) (history c.loop.seat) (history c.try_take.new.seat) Taken
          c.loop.invariant.longer t.1,
    )

pub returns-in-Some-try_take-clause-alone : goal.returns-in-Some-try_take-clause-alone
returns-in-Some-try_take-clause-alone g c =
    let l = c.loop.invariant in
    λ all. (c.in-Some-try_take.ensures.alone (l.same_parts ∙ all)).1 ∙ ap (λ h. h ++ Taken ∷ []) (l.none_missed all)
