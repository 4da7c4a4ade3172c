-- What is tracked stays so where a line is begun or answered, and where a piece fails that starts.
use Rattle.std.proofs.Common.{◌≡◌, ◌<◌, ℕ, ◌+◌, ◌&&◌, ◌==◌, Bool, true, false, nat_eq, nat_le, nat_lt, if◌then◌else◌}
use Rattle.std.proofs.Common.{List, [], ◌∷◌, ◌++◌, length, Option, None, Some, is_none, option_map, slice_get}
use Rattle.std.proofs.Common.{inl, ⊎_elim, refl, sym, ap, subst, ◌∙◌, arith}
use Rattle.std.proofs.lemmas.Bool.{and_parts, or_left, or_right}
use Rattle.std.proofs.lemmas.Option.{none-some, slice_get_past}
use Rattle.list_laws.proofs.Bools.{or_cases, true_lt}
use Rattle.line_answers.specs.declared.answer.Answer.{Answer}
use Rattle.line_answers.specs.declared.answer.Answer.TheVariants as answer
use Rattle.lvm_script.specs.declared.line.Line.{Line}
use Rattle.data_lines.specs.DataLines.{in_range}
use Rattle.disk_model.specs.Steps.{Record}
use Rattle.flush_waits.specs.Waits.{Waits}
use Rattle.piece_table.specs.declared.live.LivePiece.{LivePiece}
use Rattle.piece_table.specs.Pieces.{Pieces, live_at}
use Rattle.piece_table.specs.Steps.{live_of, without_ticket}
use Rattle.volume_history.specs.Candidates.{writes_line}
use Rattle.volume_history.specs.Chronicles.{Answered, Begun, ChronicleEntry, Failed, Origin, Took, has_answer, is_answered}
use Rattle.volume_history.specs.Chronicles.{begun_in, piece_covers, settled_at}
use Rattle.volume_history.specs.Cuts.{AreNumbered}
use Rattle.volume_history.specs.Placed.{Place, volumes_of}
use Rattle.volume_history.specs.Runs.{zero_piece}
use Rattle.world_acts.specs.declared.open_line.OpenLine.{OpenLine}
use Rattle.world_acts.specs.declared.state.Core.{Core}
use Rattle.world_acts.specs.Acts.{Allowed, Begins, Fails, World, after}
use Rattle.world_acts.specs.OpenLines.{answer_of, is_whole, open_at}
use Rattle.world_acts.specs.Orderly.{IsOrderly}
use Rattle.world_acts.specs.Steps.{after_begins}
use Rattle.world_acts.proofs.Tables.{Changes, changes_both, own_at, removed}
use Rattle.world_history.specs.Contents.{origin_with}
use Rattle.world_history.specs.Entries.{answered, entries_of, key_told}
use Rattle.world_history.specs.Shown.{places_keyed}
use Rattle.world_history.specs.Told.{IsTold as IsToldOf}
use Rattle.world_history.proofs.EntryLists.{begun_at, untold}
use Rattle.io_core.proofs.LiveLines.{live_open}
use Rattle.world_places.specs.Changes.{IsIdle, RealStays}
use Rattle.world_places.specs.Lives.{Live, Written, runs_at}
use Rattle.world_places.specs.Tracked.{Scene, Tracked}
use Rattle.world_places.specs.Waiting.{WaitsForNone}
use Rattle.world_tracks.specs.Lives.{scene_of}
use Rattle.world_tracks.specs.Tracks.{AreTracked, PlaceLaws}
use Rattle.world_tracks.proofs.ActWaits.{HasFree, started, ticket_change}
use Rattle.world_tracks.proofs.BegunWaits.{begun_before}
use Rattle.world_tracks.proofs.LivesStay.{HaveLines, same_legs, seen_of}
use Rattle.world_tracks.proofs.NewNote.{open_begun}
use Rattle.world_tracks.proofs.OpenLines.{open_unanswered}
use Rattle.world_tracks.proofs.QuietTracked.{lines_same, lives_kept, none_owns, seen_changed, tracked_planned}

-- ---- what is settled stays

-- behind an entry that settles more
pub real_behind : (es es' : List ChronicleEntry) (lives : List Live) (key x : ℕ)
    → ((n : ℕ) → settled_at es n key x ≡ true → settled_at es' n key x ≡ true)
    → RealStays es lives es' lives key x
real_behind es es' lives key x still n real =
    ⊎_elim (λ settled. or_left (settled_at es' n key x) (runs_at lives n key x) (still n settled))
    (λ runs. or_right (settled_at es' n key x) (runs_at lives n key x) runs)
    (or_cases (settled_at es n key x) (runs_at lives n key x) real)

-- a piece without sectors covers none
zero_covers : (key k x : ℕ) → piece_covers (zero_piece key) k x ≡ false
zero_covers key k x = by (piece_covers (zero_piece key) k x) refl
  where
    by : (y : Bool) → piece_covers (zero_piece key) k x ≡ y → y ≡ false
    by true covers =
        let within = and_parts (nat_le 0 x) (nat_lt x (0 + 0)) (and_parts (nat_eq key k) (in_range 0 0 x) covers).1 in
        let lt : x < 0 + 0 = true_lt x (0 + 0) within.1 in absurd (omega (arith, lt))
    by false covers = refl

module _ {start : ℕ} {coming : ℕ → ℕ → ℕ} {w : World} {es : List ChronicleEntry} (laws : PlaceLaws) (b : Origin) (told : Record)
    (notes : List Written) (o : IsOrderly w) (history : IsToldOf start coming w es) (t : AreTracked b told w.core es notes) where
  abbrev g : Scene
  g = scene_of (origin_with b told) w.core es notes

  -- ---- a line is begun

  -- none was under the next number
  none_begun : begun_in es (length w.core.lines.begun) ≡ None
  none_begun =
      none_of (begun_in es (length w.core.lines.begun))
      (begun_at start es (length w.core.lines.begun) history.ordered
      ∙ ap (λ (ls : List Line). slice_get ls (length w.core.lines.begun)) history.begun
      ∙ slice_get_past w.core.lines.begun (length w.core.lines.begun) (omega arith))
    where
      none_of : (x : Option (Line × Option ℕ)) → option_map (λ (l : Line × Option ℕ). l.0) x ≡ None → x ≡ None
      none_of None none = refl
      none_of (Some l) none = absurd (none-some l.0 (sym none))

  -- with another line that waits for all others, or none
  abbrev begun_with : Line → OpenLine → Option ℕ → Core
  begun_with line opened barrier = record (after_begins w.core line opened w.shelf.steps) { barrier = barrier }

  begun_lines : (line : Line) (opened : OpenLine) (barrier : Option ℕ)
      → HaveLines w.core (begun_with line opened barrier) w.core.pieces.owners
  begun_lines line opened barrier tag owner l owned at =
      let its = live_open w owner.piece l o at in
      begun_before w.core.lines.begun line l.line (open_begun w l.line its.opened o its.is_open)

  pub begins_tracked : (line : Line) (opened : OpenLine) (barrier : Option ℕ)
      → AreTracked b told (record (after_begins w.core line opened w.shelf.steps) { barrier = barrier })
      (entries_of w (Begins line opened) ++ es) notes
  begins_tracked line opened barrier =
      let d : Core = begun_with line opened barrier in
      let n : ℕ = length w.core.lines.begun in
      let k : Option ℕ = key_told w.core.volumes line in
      let none = untold start es n history.ordered (omega (arith, history.count)) in
      tracked_planned b told w.core d (Begun w.shelf.steps n line k ∷ es) notes w.core.waits.plan
      (lives_kept w.core d refl refl (λ tag owner owned. refl) (begun_lines line opened barrier)) refl
      (λ key x p at. laws.begun g key x p w.shelf.steps n line k none_begun (ap (has_answer (λ a. true)) none.answer) (t key x p at))

  -- ---- a piece fails as it starts

  module _ (number : ℕ) (why : Answer) (may : Allowed w (Fails number why)) where
    abbrev d : Core
    d = (after w (Fails number why)).core

    abbrev l : LivePiece
    l = live_of w.core.pieces number

    abbrev it : HasFree w number
    it = started w number o may.0

    first : Changes number (Some it.piece.live) (Some (record it.piece.live { ticket = None })) w.core.pieces.lives
        (without_ticket w.core.pieces number).lives
    first = ticket_change w.core.pieces number it.piece.live o.tidy.pieces.single it.piece.at

    gone : Changes number (Some it.piece.live) None w.core.pieces.lives d.pieces.lives
    gone =
        changes_both first
        (removed (without_ticket w.core.pieces number).lives number (record it.piece.live { ticket = None }) first.single (own_at first))

    pub fails_tracked : AreTracked b told (after w (Fails number why)).core (entries_of w (Fails number why) ++ es) notes
    fails_tracked =
        tracked_planned b told w.core d (Failed w.shelf.steps l.line l.piece ∷ es) notes w.core.waits.plan
        (lives_kept w.core d refl refl
        (seen_changed w.core d w.core.pieces.owners gone
        (λ tag owner owned is. absurd (none_owns number o.tidy.owners may.1 tag owner owned is)))
        (lines_same w.core d w.core.pieces.owners refl)) refl
        (λ key x p at. laws.failed g key x p w.shelf.steps l.line l.piece g.lives
        (real_behind es (Failed w.shelf.steps l.line l.piece ∷ es) g.lives key x
        (λ n settled. or_right ((l.line == n) && piece_covers l.piece key x) (settled_at es n key x) settled))
        (same_legs IsIdle g.lives g.lives key x p refl) (t key x p at))

  -- ---- a line is answered

  module _ (n : ℕ) (opened : OpenLine) (found : open_at w.core.opens n ≡ Some opened) (m : ℕ) where
    abbrev below : Bool → List ChronicleEntry
    below y = if y then Took m n (zero_piece opened.key) ∷ es else es

    open_still : (y : Bool) → is_answered (below y) n ≡ false
    open_still true = open_unanswered o history n opened found
    open_still false = open_unanswered o history n opened found

    -- it takes place as a whole
    taken : (y : Bool) (key x : ℕ) (p : Place) → slice_get (places_keyed (volumes_of b.version) key) x ≡ Some p
        → Tracked (record (scene_of (origin_with b told) w.core es notes) {
          entries = if y then Took m n (zero_piece opened.key) ∷ es else es;
        }) key x p
    taken true key x p at =
        laws.took g key x p m n (zero_piece opened.key) g.lives notes (open_unanswered o history n opened found)
        (ap (λ (c : Bool). c && writes_line (begun_in es n)) (zero_covers opened.key key x))
        (real_behind es (Took m n (zero_piece opened.key) ∷ es) g.lives key x
        (λ q settled. or_right ((n == q) && piece_covers (zero_piece opened.key) key x) (settled_at es q key x) settled))
        (same_legs IsIdle g.lives g.lives key x p refl) (λ note kept there. inl kept) (t key x p at)
    taken false key x p at = t key x p at

    -- and is answered, ok where it waits for none
    closed : (y : Bool) (said : Answer)
        → (said ≡ answer.Fine
        → AreNumbered (if y then Took m n (zero_piece opened.key) ∷ es else es) (if y then Took m n (zero_piece opened.key) ∷ es else es)
        × WaitsForNone (record (scene_of (origin_with b told) w.core es notes) {
          entries = if y then Took m n (zero_piece opened.key) ∷ es else es;
        }) n)
        → (key x : ℕ) (p : Place) → slice_get (places_keyed (volumes_of b.version) key) x ≡ Some p
        → Tracked (record (scene_of (origin_with b told) w.core es notes) {
          entries = Answered m n said ∷ (if y then Took m n (zero_piece opened.key) ∷ es else es);
        }) key x p
    closed y answer.Fine fine key x p at =
        laws.ok (record g { entries = below y }) key x p m n (fine refl).0 (fine refl).1 (taken y key x p at)
    closed y said fine key x p at =
        laws.answered (record g { entries = below y }) key x p m n said (open_still y) refl (taken y key x p at)

    -- whichever way it is answered, in a core where the pieces, the lines that were begun and the plan are the same
    pub closed_tracked : (d : Core) → d.volumes ≡ w.core.volumes → d.pieces ≡ w.core.pieces → d.waits ≡ w.core.waits
        → d.lines.begun ≡ w.core.lines.begun
        → (answer_of opened ≡ answer.Fine
        → AreNumbered (if is_whole opened.work && is_none opened.failure then Took m n (zero_piece opened.key) ∷ es else es)
        (if is_whole opened.work && is_none opened.failure then Took m n (zero_piece opened.key) ∷ es else es)
        × WaitsForNone (record (scene_of (origin_with b told) w.core es notes) {
          entries = if is_whole opened.work && is_none opened.failure then Took m n (zero_piece opened.key) ∷ es else es;
        }) n)
        → AreTracked b told d (answered m n opened ++ es) notes
    closed_tracked d volumes pieces waits begun fine =
        subst (λ (xs : List ChronicleEntry). AreTracked b told d xs notes)
        (sym (same_below (is_whole opened.work && is_none opened.failure)))
        (tracked_planned b told w.core d (Answered m n (answer_of opened) ∷ below (is_whole opened.work && is_none opened.failure)) notes
        w.core.waits.plan
        (lives_kept w.core d volumes (ap (λ (q : Pieces). q.owners) pieces)
        (λ tag owner owned. ap (λ (q : Pieces). seen_of (live_at q.lives owner.piece)) pieces)
        (lines_same w.core d w.core.pieces.owners begun))
        (ap (λ (q : Waits). q.plan) waits)
        (λ key x p at. closed (is_whole opened.work && is_none opened.failure) (answer_of opened) fine key x p at))
      where
        same_below : (y : Bool)
            → (Answered m n (answer_of opened) ∷ (if y then Took m n (zero_piece opened.key) ∷ [] else [])) ++ es
            ≡ Answered m n (answer_of opened) ∷ (if y then Took m n (zero_piece opened.key) ∷ es else es)
        same_below true = refl
        same_below false = refl
