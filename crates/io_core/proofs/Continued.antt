-- Events that go on by further acts: what they reach is orderly and plain as before.
use Rattle.std.proofs.Common.{◌≡◌, ℕ, true, List, [], length, Option, None, Some, is_some, sym, ap, subst, ◌∙◌}
use Rattle.sector_base.specs.declared.places.Piece.{Piece}
use Rattle.command_table.specs.declared.command.Command.{Command}
use Rattle.command_table.specs.declared.command.Command.TheVariants as command
use Rattle.lvm_script.specs.declared.line.Line.{Line}
use Rattle.disk_model.specs.State.{State}
use Rattle.disk_model.specs.declared.ops.Done.{Done}
use Rattle.claim_table.specs.declared.claim.By.{By}
use Rattle.flush_plan.specs.Plans.{flight_of}
use Rattle.flush_waits.specs.Waits.{Waits, disk_waits}
use Rattle.world_acts.specs.declared.open_line.OpenLine.{OpenLine}
use Rattle.world_acts.specs.declared.state.Core.{Core}
use Rattle.world_acts.specs.Acts.{Begins, Reaches, SettlesAndGoes, World, after, carries_on, follows, goes_on}
use Rattle.world_acts.specs.OpenLines.{Opens, is_whole, open_at}
use Rattle.world_acts.specs.Orderly.{AreReleased, IsOrderly}
use Rattle.world_acts.proofs.Orderly.{orderly_after, orderly_reaches}
use Rattle.world_acts.proofs.Reaching.{flush_goes, piece_goes, prepared_carried, reaches_both, reaches_carried, settled_further}
use Rattle.line_plans.specs.declared.preparing.Plan.{Plan}
use Rattle.io_core.specs.declared.beginning.Begun.{Begun}
use Rattle.io_core.specs.Events.{BeginsIn, Follows, IsPreparedAndGoes, begun_as, ending, settling_of}
use Rattle.line_plans.specs.Plans.{MayBeBegun, opened_for}
use Rattle.io_core.specs.Rest.{IsCalm, IsPlain, IsSettled, NoneReady, no_one}
use Rattle.io_core.proofs.Plain.{plain_after, plain_reaches}

-- ---- a line is begun

pub carried_reaches : {line : ℕ} {pieces : List Piece} {first : Option By} {w v : World} → IsPreparedAndGoes line pieces first w v
    → Reaches carries_on w v
carried_reaches {line} {pieces} {first} {w} {v} is =
    reaches_both carries_on w is.mid v (prepared_carried line pieces first w is.mid is.prepares) (reaches_carried is.mid v is.goes)

pub begins_orderly : (w v : World) (line : Line) {begun : Begun} → IsOrderly w → BeginsIn w line begun v → IsOrderly v
begins_orderly w v line o is =
    orderly_reaches (carried_reaches is.carried) (orderly_after w (Begins line is.opened) o is.may)

pub begins_plain : (w v : World) (line : Line) {begun : Begun} → IsPlain w.core → BeginsIn w line begun v → IsPlain v.core
begins_plain w v line plain is =
    plain_reaches (carried_reaches is.carried) (plain_after w (Begins line is.opened) is.may plain)

pub begins_on : (w v u : World) (line : Line) (begun : Begun) → BeginsIn w line begun v → Reaches follows v u
    → u.core.opens ≡ v.core.opens
    → BeginsIn w line begun u
begins_on w v u line begun is goes stays = record {
  free = is.free;
  opened = is.opened;
  is = is.is;
  may = is.may;
  first = is.first;
  carried = record {
    mid = is.carried.mid;
    prepares = is.carried.prepares;
    awaits = is.carried.awaits;
    goes = reaches_both follows is.carried.mid v u is.carried.goes goes;
  };
  how = is.how ∙ ap (λ (o : Opens). begun_as is.first (is_some (open_at o (length w.core.lines.begun)))) (sym stays);
  holds = λ waits others. reaches_both follows _ v u (is.holds waits others) goes;
}

-- a line that waits for all others takes place as a whole
pub wait_whole : (w : World) (line : Line) (plan : Plan) → MayBeBegun w line plan → line.command ≡ command.Wait
    → is_whole plan.opened.work ≡ true
wait_whole w line plan may is =
    ap (λ (o : OpenLine). is_whole o.work) may.planned.opened
    ∙ ap (λ (c : Command). is_whole (opened_for w.core.volumes c).work) is

-- ---- an operation has completed

-- what it came to, and what follows, goes on
pub follows_going : (w v : World) (done : Done) (now : State) (is : Follows w done now v)
    → Reaches goes_on (after w (ending is.piece done now)) v
follows_going w v done now is = by is.piece is.ends
  where
    by : (piece : Option ℕ) → SettlesAndGoes (settling_of piece done) (after w (ending piece done now)) v
        → Reaches goes_on (after w (ending piece done now)) v
    by None ends = flush_goes done.op done.well (after w (ending None done now)) v ends
    by (Some number) ends = piece_goes number done.op done.well (after w (ending (Some number) done now)) v ends

pub follows_orderly : (w v : World) (done : Done) (now : State) → IsOrderly w → Follows w done now v → IsOrderly v
follows_orderly w v done now o is =
    orderly_reaches (follows_going w v done now is) (orderly_after w (ending is.piece done now) o is.allowed)

pub follows_plain : (w v : World) (done : Done) (now : State) → IsPlain w.core → Follows w done now v → IsPlain v.core
follows_plain w v done now plain is =
    plain_reaches (follows_going w v done now is) (plain_after w (ending is.piece done now) is.allowed plain)

pub follows_on : (w v u : World) (done : Done) (now : State) → Follows w done now v → Reaches follows v u → Follows w done now u
follows_on w v u done now is goes = record {
  piece = is.piece;
  whose = is.whose;
  allowed = is.allowed;
  ends = settled_further (after w (ending is.piece done now)) v u is.ends goes;
}

-- ---- what is settled, once what may start has started

pub settled_after : (c d : Core) → IsCalm no_one no_one d → NoneReady d → d.waits ≡ c.waits → AreReleased c → IsSettled d
settled_after c d calm ready same released = record {
  calm = calm;
  ready = ready;
  released =
      subst (λ (ws : Waits). (pv : ℕ) → flight_of ws.plan pv ≡ None → (disk_waits ws pv).served ≡ []) (sym same) released;
}
