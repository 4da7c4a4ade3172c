-- A line is answered: what it answers is what its history gives, and what the others have brought stays.
use Rattle.std.proofs.Common.{◌≡◌, ℕ, ◌==◌, ◌&&◌, Bool, true, false, not, ◌||◌, if◌then◌else◌, List, [], ◌∷◌, ◌++◌, length, Option, None}
use Rattle.std.proofs.Common.{Some, is_none, unwrap_or, inl, inr, refl, sym, ap, subst, ◌∙◌, true≢false}
use Rattle.std.proofs.lemmas.Bool.{eqb-true}
use Rattle.std.proofs.lemmas.Option.{none-some}
use Rattle.command_table.specs.Commands.{CommandKind, Removal, kind_of}
use Rattle.command_table.specs.declared.command.Command.{Command}
use Rattle.command_table.specs.declared.command.Command.TheVariants as command
use Rattle.line_answers.specs.declared.answer.Answer.{Answer}
use Rattle.lvm_script.specs.declared.line.Line.{Line}
use Rattle.data_lines.specs.DataLines.{covers_sector, is_data, is_read, writes}
use Rattle.disk_model.specs.State.{State}
use Rattle.line_table.specs.Machine.{list_of}
use Rattle.claim_table.specs.Claims.{IsApart}
use Rattle.piece_table.specs.Pieces.{AreClaimed, AreWaiting, Pieces}
use Rattle.volume_history.specs.Chronicles.{Answered, ChronicleEntry, Origin, Took, begun_in, has_took, pending, took_at}
use Rattle.volume_history.specs.Commands.{commits, kind_commits, kind_removes, removes}
use Rattle.volume_history.specs.Laws.{HistoriesGrow}
use Rattle.volume_history.specs.Legal.{AllOrdered, GivesMachine, LeavesGroup, is_pending, keeps_group}
use Rattle.volume_history.specs.Replay.{took_step}
use Rattle.volume_history.specs.Runs.{zero_piece}
use Rattle.world_acts.specs.declared.open_line.OpenLine.{OpenLine}
use Rattle.world_acts.specs.declared.open_line.Work.{Work}
use Rattle.world_acts.specs.declared.open_line.Work.TheVariants.{Read, Whole, Write}
use Rattle.world_acts.specs.Acts.{World}
use Rattle.world_acts.specs.OpenLines.{Opens, after_closed, answer_of, is_whole, open_at}
use Rattle.world_acts.specs.declared.volumes.Volumes.{Volumes}
use Rattle.world_acts.specs.Owners.{in_flight_at}
use Rattle.world_acts.specs.Volumes.{AreLaidOut}
use Rattle.world_history.specs.Entries.{answered}
use Rattle.world_history.specs.Told.{IsWorkOf}
use Rattle.world_history.specs.Contents.{HasBrought, HasContents, origin_with}
use Rattle.world_history.specs.Shown.{AreOfVersion, Shows, now_of}
use Rattle.world_history.proofs.OneLine.{LineIs, is_closed}
use Rattle.world_history.proofs.Contents.Answering.{answered_gives, names_no_removal}
use Rattle.world_history.proofs.Contents.Entered.{shows_answered, shows_took}
use Rattle.world_history.proofs.Contents.Lines.{brought_beside}
use Rattle.world_history.proofs.Contents.Listed.{listed_shown}

-- ---- no line of a session removes the group

kind_kept : (kind : CommandKind) → kind_commits kind ≡ false → kind_removes kind ≡ false
kind_kept Removal kept = absurd (true≢false kept)
kind_kept kind kept = refl

removal_commits : (c : Command) → commits c ≡ false → removes c ≡ false
removal_commits c kept = kind_kept (kind_of c) kept

read_removes : (c : Command) → is_read c ≡ true → removes c ≡ false
read_removes (command.Read path first count) is = refl
read_removes c is = absurd (true≢false (sym is))

write_removes : (c : Command) → writes c ≡ true → removes c ≡ false
write_removes (command.Fill path first count value through) is = refl
write_removes (command.Write path first hex through) is = refl
write_removes c is = absurd (true≢false (sym is))

removes_none : (c : Command) (key : Option ℕ) (work : Work) (failure : Option Answer) → IsWorkOf c key work failure → removes c ≡ false
removes_none c key (Read start buffer) failure does = read_removes c does.0
removes_none c key Write failure does = write_removes c does.0
removes_none c key (Whole a) failure (inl refused) = names_no_removal c refused.names
removes_none c key (Whole a) failure (inr whole) = removal_commits c whole.kept

-- ---- the line is answered

module _ (grow : HistoriesGrow) (o : Origin) (w v : World) (es : List ChronicleEntry) (n : ℕ) (opened : OpenLine) (line : Line)
    (key : Option ℕ) (found : open_at w.core.opens n ≡ Some opened) (begun : begun_in es n ≡ Some (line, key))
    (does : IsWorkOf line.command key opened.work opened.failure) (keyed : opened.key ≡ unwrap_or key 0)
    (taken : opened.failure ≡ None → is_whole opened.work ≡ false → (x : ℕ) → covers_sector line.command x ≡ true
    → took_at es n opened.key x ≡ true)
    (laid : AreLaidOut w.core.volumes w.shelf.sizes) (c : HasContents o w es) (steps : w.shelf.steps ≡ length c.told.steps) where
  abbrev origin : Origin
  origin = origin_with o c.told

  abbrev m : ℕ
  m = w.shelf.steps

  -- the entries below the answer
  abbrev below : Bool → List ChronicleEntry
  below b = if b then Took m n (zero_piece opened.key) ∷ es else es

  -- what takes place as a whole writes nothing
  whole_reads : (is_whole opened.work && is_none opened.failure) ≡ true → writes line.command ≡ false
  whole_reads is = by opened.work opened.failure does is
    where
      other : (c : Command) → is_data c ≡ false → writes c ≡ false
      other (command.Fill path first count value through) is = is
      other (command.Write path first hex through) is = is
      other c is = refl

      by : (work : Work) (failure : Option Answer) → IsWorkOf line.command key work failure → (is_whole work && is_none failure) ≡ true
          → writes line.command ≡ false
      by (Whole a) None (inl refused) is = absurd (none-some _ refused.is)
      by (Whole a) None (inr whole) is = other line.command whole.other
      by work failure does is = absurd (true≢false (sym is))

  begun_below : (b : Bool) → begun_in (below b) n ≡ Some (line, key)
  begun_below true = begun
  begun_below false = begun

  shows_below : (b : Bool) → (b ≡ true → writes line.command ≡ false) → AllOrdered o.start (below b) → Shows origin (below b)
  shows_below true reads ordered =
      shows_took grow origin es m n (zero_piece opened.key) c.holds.shows ordered.0 steps
      (ap (λ (b : Option (Line × Option ℕ)). took_step b (zero_piece opened.key)) begun ∙ rw (reads refl) refl)
  shows_below false reads ordered = c.holds.shows

  brought_below : (b : Bool) (q : ℕ) (x : OpenLine) → (n == q) ≡ false → open_at w.core.opens q ≡ Some x
      → HasBrought origin (below b) w.core.volumes q x.key x.work
  brought_below true q x apart at =
      brought_beside origin es (Took m n (zero_piece opened.key)) w.core.volumes q x.key x.work apart (c.holds.brought q x at)
  brought_below false q x apart at = c.holds.brought q x at

  leaves : (b : Bool) → LeavesGroup origin (below b) n m
  leaves b is = absurd (true≢false (sym (by (begun_in (below b) n) (begun_below b) is)))
    where
      by : (l : Option (Line × Option ℕ)) → l ≡ Some (line, key) → keeps_group (below b) n l ≡ true → false ≡ true
      by l is keeps =
          let none : removes line.command ≡ false = removes_none line.command key opened.work opened.failure does in
          sym (ap (λ (r : Bool). r && not (has_took (below b) n || is_pending (pending (below b)) n)) none)
          ∙ sym (ap (keeps_group (below b) n) is) ∙ keeps

  closed_so : (b : Bool) → (is_whole opened.work && is_none opened.failure) ≡ b
      → AllOrdered o.start (Answered m n (answer_of opened) ∷ below b)
      → Shows origin (Answered m n (answer_of opened) ∷ below b)
  closed_so b is ordered =
      shows_answered grow origin (below b) m n (answer_of opened)
      (shows_below b (λ yes. whole_reads (is ∙ yes)) ordered.1) ordered.0 steps
      (subst (λ (t : Bool). GivesMachine origin (below t) n (answer_of opened)) is
      (answered_gives origin es m n opened.key w.core.volumes line key opened.work opened.failure does keyed begun taken
      (ap list_of c.holds.shows.machine ∙ listed_shown w.core.volumes w.shelf.sizes o.version (now_of c.told) laid c.holds.volumes)
      (c.holds.brought n opened found))) (leaves b)

  module _ (opens : v.core.opens ≡ after_closed w.core.opens n) where
    -- what the others have brought stays
    brought_closed : (b : Bool) (q : ℕ) (x : OpenLine) → open_at v.core.opens q ≡ Some x
        → HasBrought origin (Answered m n (answer_of opened) ∷ below b) w.core.volumes q x.key x.work
    brought_closed b q x at = by (n == q) refl
      where
        closed : LineIs n None w.core.opens (after_closed w.core.opens n)
        closed = is_closed w.core.opens n opened found

        now : open_at (after_closed w.core.opens n) q ≡ Some x
        now = ap (λ (y : Opens). open_at y q) (sym opens) ∙ at

        by : (t : Bool) → (n == q) ≡ t → HasBrought origin (Answered m n (answer_of opened) ∷ below b) w.core.volumes q x.key x.work
        by true e = absurd (none-some x (sym closed.own ∙ ap (open_at (after_closed w.core.opens n)) (eqb-true n q e) ∙ now))
        by false e =
            brought_beside origin (below b) (Answered m n (answer_of opened)) w.core.volumes q x.key x.work tt
            (brought_below b q x e (sym (closed.others q e) ∙ now))

    made : (b : Bool) → (is_whole opened.work && is_none opened.failure) ≡ b → v.shelf ≡ w.shelf → v.core.volumes ≡ w.core.volumes
        → v.core.pieces ≡ w.core.pieces
        → AllOrdered o.start (Answered m n (answer_of opened) ∷ below b)
        → HasContents o v (Answered m n (answer_of opened) ∷ below b)
    made b is shelf volumes pieces ordered = record {
      told = c.told;
      is = ap (λ (s : State). s.told) shelf ∙ c.is;
      holds = record {
        shows = closed_so b is ordered;
        brought =
            λ q x at. subst (λ (y : Volumes). HasBrought origin (Answered m n (answer_of opened) ∷ below b) y q x.key x.work) (sym volumes)
            (brought_closed b q x at);
        alone =
            λ tag span at. c.holds.alone tag span (ap (λ (s : State). in_flight_at s.in_flight tag) (sym shelf) ∙ at);
        apart = record {
          claimed = subst (λ (p : Pieces). AreClaimed p.claims p.lives) (sym pieces) c.holds.apart.claimed;
          waiting = subst (λ (p : Pieces). AreWaiting p.claims.deferred p.lives) (sym pieces) c.holds.apart.waiting;
          apart = subst (λ (p : Pieces). IsApart p.claims) (sym pieces) c.holds.apart.apart;
        };
        volumes = subst (λ (y : Volumes). AreOfVersion y o.version) (sym volumes) c.holds.volumes;
      };
    }

    pub closed_holds : v.shelf ≡ w.shelf → v.core.volumes ≡ w.core.volumes → v.core.pieces ≡ w.core.pieces
        → AllOrdered o.start (answered m n opened ++ es)
        → HasContents o v (answered m n opened ++ es)
    closed_holds shelf volumes pieces ordered = by (is_whole opened.work && is_none opened.failure) refl ordered
      where
        by : (b : Bool) → (is_whole opened.work && is_none opened.failure) ≡ b
            → AllOrdered o.start ((Answered m n (answer_of opened) ∷ (if b then Took m n (zero_piece opened.key) ∷ [] else [])) ++ es)
            → HasContents o v ((Answered m n (answer_of opened) ∷ (if b then Took m n (zero_piece opened.key) ∷ [] else [])) ++ es)
        by true is ordered = made true is shelf volumes pieces ordered
        by false is ordered = made false is shelf volumes pieces ordered
