-- What each call, and what goes on elsewhere, leaves of what a queue has made sure of.
use Rattle.std.proofs.Common.{◌≡◌, ℕ, Bool, true, false, IsTrue, IfSome, List, [], ◌∷◌, map, inl, inr, ⊎_elim, refl, sym, ap, subst}
use Rattle.disk_model.specs.Calls.{Completes}
use Rattle.disk_model.specs.Durability.{AllLeave, OnlyLeaves}
use Rattle.disk_model.specs.InFlight.{IsAmong}
use Rattle.disk_model.specs.State.{IsLawful, State}
use Rattle.disk_model.specs.Steps.{Flushing, Record, steps_on}
use Rattle.disk_model.specs.Submitting.{writes_at}
use Rattle.disk_model.specs.declared.ops.Done.{Done}
use Rattle.disk_model.proofs.WhereTold.{told_after, told_weaker}
use Rattle.disk_batch.specs.Along.{GoesElsewhere}
use Rattle.disk_batch.specs.Batches.{Starts}
use Rattle.disk_batch.specs.InTurn.{Put}
use Rattle.disk_batch.specs.Rounds.{AreStill, WriteTargets}
use Rattle.disk_batch.specs.Views.{View}
use Rattle.disk_batch.specs.Writes.{IsWrittenBy, write_work}
use Rattle.disk_batch.specs.declared.batching.BatchStep.{BatchStep}
use Rattle.disk_batch.specs.declared.batching.BatchStep.TheVariants as batch
use Rattle.disk_batch.proofs.Calling.{goes_came, starts_hold}
use Rattle.disk_batch.proofs.Calling as calling
use Rattle.disk_batch.proofs.Elsewhere.{batch_steps, leave_steps, still_steps, works_elsewhere}
use Rattle.disk_batch.proofs.WrittenBy.{bring_at_weaker, bring_written, not_written}
use Rattle.batch_queue.specs.Queues.{Follows, TurnView, Turns}
use Rattle.batch_queue.specs.Lasting.{After, Between, Came, IsOnWay, Lot, Rests, covered_by}
use Rattle.batch_queue.specs.declared.queue.TurnStep.{TurnStep}
use Rattle.batch_queue.specs.declared.queue.TurnStep.TheVariants.{Going, Through, Lost}

-- a queue is made
pub queue_made : (mine : ℕ → ℕ → Bool) (told : Record) → AreStill mine told → Rests (record { mine = mine; start = told }) [] told
queue_made mine told still = (still, λ pv sector own. record { each = λ write value may. (write, may) })

flushes_write_none : (disks : List ℕ) (pv sector : ℕ) → writes_at (map Flushing disks) pv sector ≡ false
flushes_write_none [] pv sector = refl
flushes_write_none (d ∷ disks) pv sector = flushes_write_none disks pv sector

module _ (lot : Lot) (through : List (List Put)) where
  -- what a batch writes
  targets : (puts : List Put) → WriteTargets lot.mine (covered_by puts) (Between lot through puts) (IsWrittenBy puts) (map write_work puts)
  targets puts = record {
    allowed =
        λ pv sector own. bring_at_weaker puts pv sector (IsWrittenBy puts pv sector) (Between lot through puts pv sector)
        (λ value by. inr by) (bring_written puts pv sector);
    wanted = λ pv sector own. bring_written puts pv sector;
    targets = λ pv sector own is. is;
    others = λ pv sector own is. is;
  }

  weaker : (puts : List Put) (told : Record) → AllLeave lot.mine (After lot through) told
      → AllLeave lot.mine (Between lot through puts) told
  weaker puts told leaves pv sector own = record { each = λ write value may. inl ((leaves pv sector own).each write value may) }

  -- it is at rest, and others go on elsewhere
  pub queue_rests_beside : (tags : List ℕ) (old new : State) → GoesElsewhere lot.mine tags old new → IfSome old.told (Rests lot through)
      → IfSome new.told (Rests lot through)
  queue_rests_beside tags old new else rests =
      told_after (steps_on else.newer) (Rests lot through) (Rests lot through) old.told new.told else.told
      (λ t is r. (
        still_steps lot.mine tags else.newer t else.elsewhere r.0,
        leave_steps lot.mine (After lot through) tags else.newer t else.elsewhere r.1,
      )) rests

  -- its next batch starts
  pub queue_starts : (old new : State) (puts : List Put) (disks : List ℕ) (view : View) → Starts old puts disks view new
      → IfSome old.told (Rests lot through) → IfSome new.told (IsOnWay lot through puts view)
  queue_starts old new [] disks view starts rests =
      let beside : GoesElsewhere lot.mine [] old new =
      works_elsewhere lot.mine [] old new (map Flushing disks) view.tags starts.0
      (λ pv sector own. flushes_write_none disks pv sector) in
      told_weaker (Rests lot through) (IsOnWay lot through [] view) new.told
      (λ t r. subst (λ (v : View). IsOnWay lot through [] v t) (sym starts.1) (record {
        leaves = weaker [] t r.1;
        targets = λ pv sector own is. absurd (let e : false ≡ true = is in cc);
        others = λ pv sector own is. r.0 pv sector own;
        rest_allowed = λ pv sector own. tt;
        rest_apart = λ pv sector own is. refl;
      }))
      (queue_rests_beside [] old new beside rests)
  queue_starts old new (put ∷ puts) disks view starts rests =
      starts_hold lot.mine (covered_by (put ∷ puts)) (Between lot through (put ∷ puts)) (IsWrittenBy (put ∷ puts)) old new put puts disks
      view starts (targets (put ∷ puts))
      (told_weaker (Rests lot through) (λ t. AreStill lot.mine t × AllLeave lot.mine (Between lot through (put ∷ puts)) t) old.told
      (λ t r. (r.0, weaker (put ∷ puts) t r.1)) rests)

  -- what is through is so over what was through before
  through_more : (puts : List Put) (told : Record) → AllLeave lot.mine (Between lot through puts) told
      → ((pv sector : ℕ) → IsTrue (lot.mine pv sector) → IsTrue (covered_by puts pv sector)
      → OnlyLeaves told pv sector (IsWrittenBy puts pv sector))
      → AllLeave lot.mine (After lot (puts ∷ through)) told
  through_more puts told leaves brought pv sector own = by (covered_by puts pv sector) refl
    where
      by : (b : Bool) → covered_by puts pv sector ≡ b → OnlyLeaves told pv sector (After lot (puts ∷ through) pv sector)
      by true is = record { each = λ write value may. inl ((brought pv sector own is).each write value may) }
      by false is = record {
        each =
            λ write value may. ⊎_elim (λ a. inr (is, a)) (λ b. absurd (not_written puts pv sector value is b))
            ((leaves pv sector own).each write value may);
      }

  came_follows : (puts : List Put) (view : TurnView) (came : BatchStep) (step : TurnStep) (state : State) → Follows view came step
      → calling.Came lot.mine (covered_by puts) (Between lot through puts) (IsWrittenBy puts) came state → Came lot through puts step state
  came_follows puts view (batch.Going batching) (Going turning) state follows came =
      subst (λ (v : View). IfSome state.told (IsOnWay lot through puts v)) (sym (ap (λ (t : TurnView). t.batch) follows)) came
  came_follows puts view batch.Well (Through queue) state follows came =
      told_weaker (λ t. AreStill lot.mine t × AllLeave lot.mine (Between lot through puts) t
      × ((pv sector : ℕ) → IsTrue (lot.mine pv sector) → IsTrue (covered_by puts pv sector)
      → OnlyLeaves t pv sector (IsWrittenBy puts pv sector)))
      (Rests lot (puts ∷ through)) state.told (λ t c. (c.0, through_more puts t c.1 c.2)) came
  came_follows puts view (batch.Lost pv) (Lost pv') state follows came = came
  came_follows puts view came step state follows holds = absurd follows

  -- it takes a completion of its own
  pub queue_turns : (before mid new : State) (puts : List Put) (view : TurnView) (done : Done) (step : TurnStep) → IsLawful mid
      → ((pv sector : ℕ) → IsTrue (covered_by puts pv sector) → IsAmong view.batch.flush pv)
      → Completes before done mid → Turns mid view done step new → IfSome before.told (IsOnWay lot through puts view.batch)
      → Came lot through puts step new
  queue_turns before mid new puts view done step lawful among completes turns holds =
      came_follows puts view turns.came step new turns.follows
      (goes_came lot.mine (covered_by puts) (Between lot through puts) (IsWrittenBy puts) before mid new view.batch done turns.came lawful
      (λ pv sector own is. among pv sector is) completes turns.goes holds)

  -- a batch is on its way, and others go on elsewhere
  pub queue_goes_beside : (puts : List Put) (view : View) (old new : State) → GoesElsewhere lot.mine view.tags old new
      → IfSome old.told (IsOnWay lot through puts view) → IfSome new.told (IsOnWay lot through puts view)
  queue_goes_beside puts view old new else holds =
      told_after (steps_on else.newer) (IsOnWay lot through puts view) (IsOnWay lot through puts view) old.told new.told else.told
      (λ t is h. batch_steps lot.mine (covered_by puts) (Between lot through puts) (IsWrittenBy puts) view else.newer t else.elsewhere h)
      holds
