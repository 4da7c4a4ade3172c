-- A line is begun: its key is that of the volume which the machine has on its path, and nothing of it has been read.
use Rattle.std.proofs.Common.{◌≡◌, ℕ, ◌==◌, Bool, true, false, cond, List, ◌∷◌, length, Option, None, Some}
use Rattle.std.proofs.Common.{refl, sym, ap, subst, ◌∙◌, true≢false}
use Rattle.std.proofs.lemmas.Bool.{eq-eqb, eqb-false, eqb-true}
use Rattle.std.proofs.lemmas.List.{get_or_push, length-replicate}
use Rattle.std.proofs.lemmas.Option.{same_Some}
use Rattle.std.specs.Option.{option_and_then, option_map_or}
use Rattle.command_table.specs.declared.command.Command.{Command}
use Rattle.command_table.specs.declared.command.Command.TheVariants as command
use Rattle.line_answers.specs.declared.op_refusal.OpRefusal.{OpRefusal}
use Rattle.lvm_script.specs.declared.line.Line.{Line}
use Rattle.data_lines.specs.DataLines.{range_of}
use Rattle.disk_model.specs.Steps.{Record}
use Rattle.volume_history.specs.Chronicles.{Begun, ChronicleEntry, Origin, begun_in, took_at}
use Rattle.volume_history.specs.Laws.{HistoriesGrow}
use Rattle.volume_history.specs.Legal.{IsOrdered}
use Rattle.world_acts.specs.declared.open_line.OpenLine.{OpenLine}
use Rattle.world_acts.specs.declared.volumes.Volumes.{Volumes}
use Rattle.world_acts.specs.Acts.{Begins, World, after}
use Rattle.world_acts.specs.OpenLines.{open_at}
use Rattle.world_acts.specs.Volumes.{AreLaidOut}
use Rattle.line_plans.specs.Judging.{refusal_of}
use Rattle.line_plans.specs.Plans.{key_for, opened_for, opened_on, opened_refused, work_for}
use Rattle.world_history.specs.Entries.{key_told}
use Rattle.world_history.specs.Contents.{HasBrought, HasContents, origin_with}
use Rattle.world_history.specs.Shown.{now_of}
use Rattle.world_history.proofs.LineBegun.{other_open}
use Rattle.world_history.proofs.Contents.Entered.{shows_begun}
use Rattle.world_history.proofs.Contents.Lines.{brought_beside}
use Rattle.world_history.proofs.Contents.Named.{named_shown}

-- ---- nothing has been read of a line that isn't told of

module _ (o : Origin) (es : List ChronicleEntry) (m n : ℕ) (line : Line) (key : Option ℕ)
    (none : (k x : ℕ) → took_at es n k x ≡ false) where
  abbrev es' : List ChronicleEntry
  es' = Begun m n line key ∷ es

  own : begun_in es' n ≡ Some (line, key)
  own = ap (λ (b : Bool). cond b (Some (line, key)) (begun_in es n)) (eq-eqb n n refl)

  of_work : (volumes : Volumes) (k : ℕ) (c : Command) → c ≡ line.command → HasBrought o es' volumes n k (work_for volumes c)
  of_work volumes k command.List is = refl
  of_work volumes k (command.Read path start count) is = record {
    range =
        ap (λ (b : Option (Line × Option ℕ)). option_and_then (λ (l : Line × Option ℕ). range_of l.0.command) b) own
        ∙ ap range_of (sym is) ∙ ap (λ (x : ℕ). Some (start, x)) (sym (length-replicate count _));
    each = λ x took. absurd (true≢false (sym took ∙ none k x));
  }
  of_work volumes k (command.Fill path start count value through) is = tt
  of_work volumes k (command.Write path start hex through) is = tt
  of_work volumes k c is = tt

  new_brought : (volumes : Volumes) (opened : OpenLine) → opened ≡ opened_for volumes line.command
      → HasBrought o es' volumes n opened.key opened.work
  new_brought volumes opened is =
      subst (λ (x : OpenLine). HasBrought o es' volumes n x.key x.work) (sym is) (by (refusal_of volumes.group line.command))
    where
      by : (r : Option OpRefusal)
          → (let x : OpenLine = option_map_or (opened_refused (key_for volumes line.command)) r
          (opened_on (key_for volumes line.command) (work_for volumes line.command)) in
          HasBrought o es' volumes n x.key x.work)
      by None = of_work volumes (key_for volumes line.command) line.command refl
      by (Some refusal) = tt

-- ---- the line is begun

pub begun_holds : (grow : HistoriesGrow) (o : Origin) (w : World) (es : List ChronicleEntry) (line : Line) (opened : OpenLine)
    → AreLaidOut w.core.volumes w.shelf.sizes
    → opened ≡ opened_for w.core.volumes line.command
    → length w.core.opens.list ≡ length w.core.lines.begun
    → ((key x : ℕ) → took_at es (length w.core.lines.begun) key x ≡ false)
    → IsOrdered o.start es (Begun w.shelf.steps (length w.core.lines.begun) line (key_told w.core.volumes line))
    → ((told : Record) → w.shelf.told ≡ Some told → w.shelf.steps ≡ length told.steps)
    → HasContents o w es
    → HasContents o (after w (Begins line opened))
    (Begun w.shelf.steps (length w.core.lines.begun) line (key_told w.core.volumes line) ∷ es)
begun_holds grow o w es line opened laid is places none ordered steps c = record {
  told = c.told;
  is = c.is;
  holds = record {
    shows =
        shows_begun grow origin es w.shelf.steps n line key c.holds.shows ordered (steps c.told c.is)
        (named_shown w.core.volumes w.shelf.sizes o.version (now_of c.told) laid c.holds.volumes line);
    brought = λ q x at. by (n == q) q refl x at;
    alone = c.holds.alone;
    apart = record {
      claimed = c.holds.apart.claimed;
      waiting = c.holds.apart.waiting;
      apart = c.holds.apart.apart;
    };
    volumes = c.holds.volumes;
  };
}
  where
    n : ℕ
    n = length w.core.lines.begun

    key : Option ℕ
    key = key_told w.core.volumes line

    origin : Origin
    origin = origin_with o c.told

    by : (b : Bool) (q : ℕ) → (n == q) ≡ b → (x : OpenLine) → open_at (after w (Begins line opened)).core.opens q ≡ Some x
        → HasBrought origin (Begun w.shelf.steps n line key ∷ es) w.core.volumes q x.key x.work
    by true q e x at =
        let same : n ≡ q = eqb-true n q e in
        let its : opened ≡ x =
        same_Some opened x (sym (get_or_push w.core.opens.list (Some opened) None q (places ∙ same)) ∙ at) in
        subst (λ (k : ℕ). HasBrought origin (Begun w.shelf.steps n line key ∷ es) w.core.volumes k x.key x.work) same
        (subst (λ (y : OpenLine). HasBrought origin (Begun w.shelf.steps n line key ∷ es) w.core.volumes n y.key y.work) its
        (new_brought origin es w.shelf.steps n line key none w.core.volumes opened is))
    by false q e x at =
        brought_beside origin es (Begun w.shelf.steps n line key) w.core.volumes q x.key x.work e
        (c.holds.brought q x (sym (other_open opened w.core.opens.list q (λ same. eqb-false n q e (sym places ∙ same))) ∙ at))
