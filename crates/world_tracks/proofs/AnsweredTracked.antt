-- A line that is answered keeps what is tracked: it waits for none of the noted writes.
use Rattle.std.proofs.Common.{◌≡◌, ℕ, ◌&&◌, Bool, true, false, if◌then◌else◌, List, [], ◌∷◌, ◌++◌, Option, None, Some, IfSome}
use Rattle.std.proofs.Common.{is_none, is_some, option_map, slice_get, unwrap_or, inl, inr, refl, sym, ap, subst, ◌∙◌, true≢false}
use Rattle.std.specs.Option.{option_map_or}
use Rattle.std.proofs.lemmas.Option.{same_Some}
use Rattle.command_table.specs.declared.command.Command.{Command}
use Rattle.line_answers.specs.declared.answer.Answer.{Answer}
use Rattle.line_answers.specs.declared.answer.Answer.TheVariants as answer
use Rattle.line_answers.specs.declared.op_refusal.OpRefusal.{OpRefusal}
use Rattle.lvm_script.specs.declared.line.Line.{Line}
use Rattle.disk_model.specs.Steps.{Record}
use Rattle.volume_history.specs.Chronicles.{Answered, ChronicleEntry, Origin, Took, begun_in}
use Rattle.volume_history.specs.Commands.{is_good}
use Rattle.volume_history.specs.Cuts.{AreNumbered}
use Rattle.volume_history.specs.Legal.{AllOrdered}
use Rattle.volume_history.specs.Runs.{zero_piece}
use Rattle.world_acts.specs.declared.open_line.OpenLine.{OpenLine}
use Rattle.world_acts.specs.declared.open_line.Work.{Work}
use Rattle.world_acts.specs.declared.open_line.Work.TheVariants.{Read, Whole, Write}
use Rattle.world_acts.specs.declared.state.Core.{Core}
use Rattle.world_acts.specs.Acts.{Allowed, Answers, Passes, World, after}
use Rattle.world_acts.specs.OpenLines.{IsBarrier, answer_of, is_whole, left_of, open_at, open_of, work_answer}
use Rattle.world_acts.specs.Orderly.{IsOrderly}
use Rattle.world_acts.proofs.Lasting.{lasts_act}
use Rattle.world_acts.proofs.LinesKept.{open_is}
use Rattle.world_acts.proofs.Tables.{some_of}
use Rattle.io_core.specs.Rest.{no_one}
use Rattle.world_history.specs.Contents.{origin_with}
use Rattle.world_history.specs.Entries.{answered, entries_of}
use Rattle.world_history.specs.Told.{IsTold, IsWorkOf, LineTold}
use Rattle.world_history.proofs.EntryLists.{begun_at}
use Rattle.world_places.specs.Lives.{Written}
use Rattle.world_places.specs.Waiting.{WaitsForNone}
use Rattle.world_tracks.specs.Lives.{scene_of}
use Rattle.world_tracks.specs.Notes.{AreWaited}
use Rattle.world_tracks.specs.Tracks.{AreTracked, PlaceLaws}
use Rattle.world_tracks.proofs.EntriesTracked.{closed_tracked}
use Rattle.world_tracks.proofs.NoneWaits.{waits_for_none}

-- entries in their order have the numbers of their lines
abbrev pub NumbersHold : Type 0
NumbersHold = (start : ℕ) (es : List ChronicleEntry) → AllOrdered start es → AreNumbered es es

-- what is answered ok has not failed
pub fine_unfailed : (command : Command) (key : Option ℕ) (work : Work) (failure : Option Answer) → IsWorkOf command key work failure
    → unwrap_or failure (work_answer work) ≡ answer.Fine
    → failure ≡ None
fine_unfailed command key work None does fine = refl
fine_unfailed command key (Read first buffer) (Some why) does fine =
    absurd (true≢false (sym (ap is_good fine) ∙ does.2.bad))
fine_unfailed command key Write (Some why) does fine = absurd (true≢false (sym (ap is_good fine) ∙ does.2.bad))
fine_unfailed command key (Whole said) (Some why) (inl refused) fine =
    absurd (apart refused.why (sym fine ∙ same_Some why (answer.Refused refused.why) refused.is))
  where
    apart : (r : OpRefusal) → answer.Fine ≡ answer.Refused r → ⊥
    apart r e = cc
fine_unfailed command key (Whole said) (Some why) (inr whole) fine =
    absurd (true≢false (sym (ap is_good fine) ∙ whole.lost.1.bad))

module _ {start : ℕ} {coming : ℕ → ℕ → ℕ} {w : World} {es : List ChronicleEntry} (laws : PlaceLaws) (numbers : NumbersHold) (b : Origin)
    (told : Record) (notes : List Written) (o : IsOrderly w) (history : IsTold start coming w es) (t : AreTracked b told w.core es notes)
    (waited : AreWaited w.core no_one notes) where
  module _ (n : ℕ) (opened : OpenLine) (found : open_at w.core.opens n ≡ Some opened) (nothing : opened.left ≡ 0) where
    abbrev m : ℕ
    m = w.shelf.steps

    abbrev its : LineTold (coming n) w.core.pieces.lives w.core.waits.disks es n opened
    its = history.lines n opened found

    abbrev below : Bool → List ChronicleEntry
    below y = if y then Took m n (zero_piece opened.key) ∷ es else es

    begun_below : (y : Bool) → begun_in (below y) n ≡ Some its.0
    begun_below true = its.1
    begun_below false = its.1

    listed : slice_get w.core.lines.begun n ≡ Some its.0.0
    listed =
        ap (λ (l : List Line). slice_get l n) (sym history.begun) ∙ sym (begun_at start es n history.ordered)
        ∙ ap (λ (l : Option (Line × Option ℕ)). option_map (λ (y : Line × Option ℕ). y.0) l) its.1

    -- an answer ok waits for none
    none_waits : (y : Bool) → answer_of opened ≡ answer.Fine
        → WaitsForNone (record (scene_of (origin_with b told) w.core es notes) {
          entries = if y then Took w.shelf.steps n (zero_piece opened.key) ∷ es else es;
        }) n
    none_waits y fine =
        waits_for_none w.core n opened o.tidy
        (record {
          is_open = found;
          left = nothing;
          failure = fine_unfailed its.0.0.command its.0.1 opened.work opened.failure its.2.does fine;
        }) notes waited
        (record (scene_of (origin_with b told) w.core es notes) { entries = below y }) its.0.0 its.0.1 refl refl (begun_below y) listed
        its.2.keyed

    ordered_below : (y : Bool) → AllOrdered start
        ((Answered w.shelf.steps n (answer_of opened) ∷ (if y then Took w.shelf.steps n (zero_piece opened.key) ∷ [] else [])) ++ es)
        → AllOrdered start (if y then Took w.shelf.steps n (zero_piece opened.key) ∷ es else es)
    ordered_below true ordered = ordered.1
    ordered_below false ordered = ordered.1

    pub found_tracked : (d : Core) → d.volumes ≡ w.core.volumes → d.pieces ≡ w.core.pieces → d.waits ≡ w.core.waits
        → d.lines.begun ≡ w.core.lines.begun → AllOrdered start (answered w.shelf.steps n opened ++ es)
        → AreTracked b told d (answered w.shelf.steps n opened ++ es) notes
    found_tracked d volumes pieces waits begun ordered =
        closed_tracked laws b told notes o history t n opened found m d volumes pieces waits begun
        (λ fine. (
          numbers start (below (is_whole opened.work && is_none opened.failure))
              (ordered_below (is_whole opened.work && is_none opened.failure) ordered),
          none_waits (is_whole opened.work && is_none opened.failure) fine,
        ))

  answer_tracked : (n : ℕ) (d : Core) → d.volumes ≡ w.core.volumes → d.pieces ≡ w.core.pieces → d.waits ≡ w.core.waits
      → d.lines.begun ≡ w.core.lines.begun
      → is_some (open_at w.core.opens n) ≡ true
      → left_of w.core.opens n ≡ 0
      → AllOrdered start (answered w.shelf.steps n (open_of w.core.opens n) ++ es)
      → AreTracked b told d (answered w.shelf.steps n (open_of w.core.opens n) ++ es) notes
  answer_tracked n d volumes pieces waits begun some left =
      let found : (x : OpenLine) × (open_at w.core.opens n ≡ Some x) = some_of (open_at w.core.opens n) some in
      let its : left_of w.core.opens n ≡ found.0.left =
      ap (λ (z : Option OpenLine). option_map_or (λ (q : OpenLine). q.left) z 0) found.1 in
      subst (λ (x : OpenLine). AllOrdered start (answered w.shelf.steps n x ++ es)
      → AreTracked b told d (answered w.shelf.steps n x ++ es) notes)
      (sym (open_is w.core.opens n found.0 found.1))
      (found_tracked n found.0 found.1 (sym its ∙ left) d volumes pieces waits begun)

  -- a line is answered
  pub answers_tracked : (line : ℕ) → Allowed w (Answers line) → AllOrdered start (entries_of w (Answers line) ++ es)
      → AreTracked b told (after w (Answers line)).core (entries_of w (Answers line) ++ es) notes
  answers_tracked line may =
      answer_tracked line (after w (Answers line)).core refl refl refl ((lasts_act w (Answers line) may).begun refl) may.0 may.1

  -- one that waited for all others is answered
  pub passes_tracked : (line : ℕ) → Allowed w (Passes line) → AllOrdered start (entries_of w (Passes line) ++ es)
      → AreTracked b told (after w (Passes line)).core (entries_of w (Passes line) ++ es) notes
  passes_tracked line may =
      let alone : IsBarrier w.core.opens line = subst (λ (x : Option ℕ). IfSome x (IsBarrier w.core.opens)) may.0 o.tidy.lines.holds in
      answer_tracked line (after w (Passes line)).core refl refl refl ((lasts_act w (Passes line) may).begun refl)
      (ap is_some alone.is_open)
      (ap (λ (z : Option OpenLine). option_map_or (λ (q : OpenLine). q.left) z 0) alone.is_open ∙ alone.alone)
