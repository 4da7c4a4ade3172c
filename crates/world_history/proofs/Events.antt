-- What each event keeps: its entries are in order, and say what the world has done.
use Rattle.std.proofs.Common.{◌≡◌, ◌<◌, ℕ, Bool, true, false, cond, All, List, ◌==◌, nat_lt, [], ◌++◌, Option, None, Some, filter, inl, inr}
use Rattle.std.proofs.Common.{◌+◌, ◌∷◌, is_some, slice_get, length, refl, sym, ap, subst, ◌∙◌, arith, true≢false}
use Rattle.std.specs.Option.{option_map_or}
use Rattle.std.proofs.lemmas.Bool.{ltb-false, ltb-true}
use Rattle.std.proofs.lemmas.List.{get_or_push, length_push}
use Rattle.std.proofs.lemmas.Option.{none-some, slice_get-get_or}
use Rattle.command_table.specs.declared.command.Command.{Command}
use Rattle.command_table.specs.declared.command.Command.TheVariants as command
use Rattle.lvm_script.specs.declared.line.Line.{Line}
use Rattle.data_lines.specs.DataLines.{is_flush}
use Rattle.disk_model.specs.State.{State}
use Rattle.disk_model.specs.declared.ops.Done.{Done}
use Rattle.line_table.specs.Steps.{is_open}
use Rattle.piece_split.specs.Laws.{PiecesCoverRequest}
use Rattle.volume_history.specs.Chronicles.{ChronicleEntry}
use Rattle.volume_history.specs.Commands.{is_wait}
use Rattle.io_session.specs.Events.{Event, Begins as BeginsLine, Completes as CompletesOne, Halts, Idles, RefusesCommit, RefusesLine, Tends}
use Rattle.world_acts.specs.declared.open_line.OpenLine.{OpenLine}
use Rattle.world_acts.specs.declared.state.Core.{Core}
use Rattle.world_acts.specs.declared.volumes.Volumes.{Volumes}
use Rattle.world_acts.specs.Acts.{Act, goes_on, Allowed, Begins, Ends, EndsFlush, Grows, Holds, IsGrown, Readies, World, after, world}
use Rattle.world_acts.specs.OpenLines.{IsBarrier, is_whole, left_of, open_at}
use Rattle.world_acts.specs.Orderly.{IsOrderly}
use Rattle.world_acts.proofs.Orderly.{orderly_after}
use Rattle.world_acts.proofs.Reaching.{flushing_goes, settling_goes}
use Rattle.line_plans.specs.Plans.{opened_for, pieces_for}
use Rattle.io_core.specs.declared.beginning.Begun.{Begun}
use Rattle.io_core.specs.Events.{BeginsIn, IsBegunAs, IsCompleted, IsIdle, Makes, ending, settling_of}
use Rattle.io_core.specs.Rest.{IsAtRest, IsUnfinished}
use Rattle.io_core.proofs.MoreSpare.{rest_grown}
use Rattle.world_history.specs.Entries.{entries_by, entries_of}
use Rattle.world_history.specs.Told.{IsSessionLine, IsTold, none_coming}
use Rattle.world_history.proofs.Acts.{HasToldEntries, KeepsAlso, goes_told, prepared_told, prepares_told, same_coming}
use Rattle.world_history.proofs.Acts.{settled_told}
use Rattle.world_history.proofs.Covering.{coming_of}
use Rattle.world_history.proofs.LineBegun.{begin_told, places}
use Rattle.world_history.proofs.Passed.{some_open}
use Rattle.world_history.proofs.ShortActs.{end_flush_told, end_told, grow_told, staged_told}
use Rattle.world_history.proofs.Stages.{same_come}

-- between events
pub record IsGoing (start : ℕ) (Also : World → List ChronicleEntry → Type 0) (w : World) : Type 0 where
  pub has : HasToldEntries start Also w
  pub rest : IsAtRest w.core

-- ---- a line is begun

-- a wait has no pieces, takes place as a whole, and flushes nothing
no_pieces : (volumes : Volumes) (c : Command) → c ≡ command.Wait → pieces_for volumes c ≡ []
no_pieces volumes c is = ap (pieces_for volumes) is

wait_whole : (volumes : Volumes) (c : Command) → c ≡ command.Wait → is_whole (opened_for volumes c).work ≡ true
wait_whole volumes c is = ap (λ (d : Command). is_whole (opened_for volumes d).work) is

wait_flushes_none : (c : Command) → c ≡ command.Wait → is_flush c ≡ false
wait_flushes_none c is = ap is_flush is

is_the_wait : (c : Command) → is_wait c ≡ true → c ≡ command.Wait
is_the_wait command.Wait is = refl
is_the_wait c is = absurd (true≢false (sym is))

module _ (start : ℕ) {Preparing : ℕ → World → List ChronicleEntry → Type 0} {Also : World → List ChronicleEntry → Type 0}
    (keeps : KeepsAlso start Preparing Also) (law : PiecesCoverRequest) (u : World) (line : Line) (how : Begun) (v : World)
    (session : IsSessionLine line) (b : BeginsIn u line how v) (h : HasToldEntries start Also u)
    (unfinished : (q : ℕ) → IsUnfinished u.core q) where
  abbrev c : Core
  c = u.core

  abbrev n : ℕ
  n = length c.lines.begun

  busy : (q : ℕ) (y : OpenLine) → open_at c.opens q ≡ Some y → 0 < y.left
  busy q y at = by (unfinished q)
    where
      by : IsUnfinished c q → 0 < y.left
      by (inl none) = absurd (none-some y (sym none ∙ at))
      by (inr (inl some)) =
          let left : left_of c.opens q ≡ y.left = ap (λ (z : Option OpenLine). option_map_or (λ (k : OpenLine). k.left) z 0) at in
          omega (arith, some, left)
      by (inr (inr holds)) = absurd (none-some q (sym b.free ∙ holds))

  abbrev mid : World
  mid = after u (Begins line b.opened)

  -- whether the line flushes a volume, as it was begun
  abbrev flushes_in : Option Line → Bool
  flushes_in x = option_map_or (λ (l : Line). is_flush l.command) x false

  -- which is the one that is begun last
  its_line : slice_get (c.lines.begun ++ line ∷ []) n ≡ Some line
  its_line =
      let long : length (c.lines.begun ++ line ∷ []) ≡ n + 1 = length_push c.lines.begun line in
      slice_get-get_or (c.lines.begun ++ line ∷ []) n line (omega (arith, long))
      ∙ ap Some (get_or_push c.lines.begun line line n refl)

  mid_orderly : IsOrderly mid
  mid_orderly = orderly_after u (Begins line b.opened) h.orderly b.may

  -- another is open, or none
  begun_alone : ((q : ℕ) (y : OpenLine) → is_wait line.command ≡ true → open_at c.opens q ≡ Some y → ⊥) → HasToldEntries start Also v
  begun_alone alone =
      let told = begin_told h.told h.orderly busy law line session b.opened b.is c.barrier (λ wait. inr (λ q y at. alone q y wait at)) in
      goes_told keeps b.carried.goes
      (prepared_told start keeps n b.carried.awaits
      (prepares_told start keeps n b.carried.prepares mid_orderly (entries_of u (Begins line b.opened) ++ h.entries) told
      (keeps.begins line b.opened c.barrier b.is h.orderly h.told told.ordered h.also)))

  begun_held : line.command ≡ command.Wait → 0 < length (filter is_open c.lines.answers) → HasToldEntries start Also v
  begun_held wait others =
      let barrier : IsBarrier mid.core.opens n = record {
        opened = b.opened;
        is_open = get_or_push c.opens.list (Some b.opened) None n (places h.told h.orderly busy);
        whole = ap (λ (x : OpenLine). is_whole x.work) b.is ∙ wait_whole c.volumes line.command wait;
        alone = b.may.none;
      } in
      let told = begin_told h.told h.orderly busy law line session b.opened b.is (Some n) (λ is. inl refl) in
      goes_told keeps (b.holds wait others)
      (prepared_told start keeps n
      (λ flushes. absurd (true≢false (sym flushes ∙ ap flushes_in its_line ∙ wait_flushes_none line.command wait)))
      (record {
        orderly = orderly_after mid (Holds n) mid_orderly (b.free, barrier);
        entries = entries_of u (Begins line b.opened) ++ h.entries;
        told =
            same_coming (λ q x. no_more (n == q) ∙ ap (λ ps. coming_of n ps q x) (sym (no_pieces c.volumes line.command wait)))
            told;
        also = keeps.begins line b.opened (Some n) b.is h.orderly h.told told.ordered h.also;
      }))
    where
      no_more : (d : Bool) → ◌≡◌ {A = ℕ} 0 (cond d 0 0)
      no_more true = refl
      no_more false = refl

  begun_told : HasToldEntries start Also v
  begun_told =
      elim (nat_lt 0 (length (filter is_open c.lines.answers))) as (λ x. nat_lt 0 (length (filter is_open c.lines.answers)) ≡ x
      → HasToldEntries start Also v) [
        | true ↦ λ t.
            elim (is_wait line.command) as (λ x. is_wait line.command ≡ x → HasToldEntries start Also v) [
              | true ↦ λ wait. begun_held (is_the_wait line.command wait) (ltb-true _ _ t)
              | false ↦ λ plain. begun_alone (λ q y wait at. absurd (true≢false (sym wait ∙ plain)))
            ] refl
        | false ↦ λ t. begun_alone (λ q y wait at.
            let some = some_open c.opens.list c.lines.answers q h.orderly.tidy.lines.opened (ap is_some at) in
            let none = ltb-false _ _ t in absurd (omega (arith, some, none)))
      ] refl

-- ---- all events

module _ {start : ℕ} {Preparing : ℕ → World → List ChronicleEntry → Type 0} {Also : World → List ChronicleEntry → Type 0}
    (keeps : KeepsAlso start Preparing Also) where
  grown_going : {w v : World} → IsGrown w v → IsGoing start Also w → IsGoing start Also v
  grown_going {w} {v} grows g = record {
    has = record {
      orderly = orderly_after w (Grows v) g.has.orderly grows;
      entries = g.has.entries;
      told = grow_told g.has.told v grows;
      also = keeps.grows g.has.orderly grows g.has.also;
    };
    rest = subst (λ (c : Core). IsAtRest c) (sym grows.core) (rest_grown w.core v.core g.rest);
  }

  begun_going : {w v : World} (law : PiecesCoverRequest) (line : Line) (how : Begun) → IsSessionLine line → IsBegunAs w line how v
      → IsGoing start Also w
      → IsGoing start Also v
  begun_going {w} {v} law line how session b g =
      let u = grown_going b.grows g in
      record {
        has = begun_told start keeps law b.grown line how v session b.begins u.has (λ q. u.rest.settled.calm.quiet.unfinished q refl);
        rest = b.rest;
      }

  ended_told : {w : World} (piece : Option ℕ) (done : Done) (now : State) {es : List ChronicleEntry} → Allowed w (ending piece done now)
      → IsOrderly w
      → IsTold start none_coming w es
      → IsOrderly (after w (ending piece done now)) × IsTold start none_coming (after w (ending piece done now)) es
  ended_told {w} None done now may o t = (orderly_after w (EndsFlush done now) o may, end_flush_told t done now may)
  ended_told {w} (Some piece) done now may o t = (orderly_after w (Ends done now) o may, end_told t o done now may)

  settling_all : (piece : Option ℕ) (done : Done) → All (λ (a : Act). goes_on a ≡ true) (settling_of piece done)
  settling_all (Some number) done = settling_goes number done.op done.well
  settling_all None done = flushing_goes done.op done.well

  completed_going : {w v : World} → IsCompleted w v → IsGoing start Also w → IsGoing start Also v
  completed_going {w} {v} is g =
      let f = is.completes in
      let ended = ended_told f.piece is.done is.now f.allowed g.has.orderly g.has.told in
      let settled = settled_told (settling_of f.piece is.done) (after w (ending f.piece is.done is.now)) f.ends.mid g.has.entries
      (settling_all f.piece is.done) ended.0 ended.1 f.ends.settles in
      record {
        has = goes_told keeps f.ends.goes (record {
          orderly = settled.0;
          entries = entries_by (after w (ending f.piece is.done is.now)) (settling_of f.piece is.done) g.has.entries;
          told = settled.1;
          also =
              keeps.ends f.piece is.done is.now f.whose g.has.orderly g.has.told f.allowed f.ends.settles settled.1.ordered g.has.also;
        });
        rest = is.rest;
      }

  idle_going : {w v : World} → IsIdle w v → IsGoing start Also w → IsGoing start Also v
  idle_going {w} {v} is g =
      let same : v.shelf.steps ≡ w.shelf.steps = ap (λ (s : State). s.steps) is.looked.same in
      subst (λ (d : Core). IsGoing start Also (world v.shelf d)) (sym is.same)
      (record {
        has = record {
          orderly = orderly_after w (Readies v.shelf) g.has.orderly (is.looked, is.lawful);
          entries = g.has.entries;
          told =
              staged_told g.has.told v.shelf w.core (omega (arith, same)) refl refl refl (λ q. omega arith)
              (same_come w.core.lines.begun w.core.pieces.lives);
          also = keeps.readies v.shelf g.has.orderly (is.looked, is.lawful) g.has.also;
        };
        rest = g.rest;
      })

-- the line that an event begins is one of a session's
abbrev pub IsOfSession : Event Line → Type 0
IsOfSession (BeginsLine line) = IsSessionLine line
IsOfSession event = Unit {0}

pub event_going : {start : ℕ} {Preparing : ℕ → World → List ChronicleEntry → Type 0} {Also : World → List ChronicleEntry → Type 0}
    {w v : World} → KeepsAlso start Preparing Also
    → (law : PiecesCoverRequest) (event : Event Line) → IsOfSession event → Makes w event v
    → IsGoing start Also w
    → IsGoing start Also v
event_going keeps law (BeginsLine line) session made g = begun_going keeps law line made.0 session made.1 g
event_going keeps law (RefusesLine line) session made g = grown_going keeps made g
event_going keeps law CompletesOne session made g = completed_going keeps made g
event_going keeps law Idles session made g = idle_going keeps made g
event_going keeps law Tends session made g = absurd made
event_going keeps law RefusesCommit session made g = absurd made
event_going keeps law Halts session made g = absurd made
