-- A line that is begun doesn't fail by a disk, and all that took place did before it.
use Rattle.std.proofs.Common.{◌≡◌, ◌⊎◌, ℕ, Bool, true, false, cond, nat_eq, List, [], ◌∷◌, ◌++◌, length, Contains, Option, None, Some}
use Rattle.std.proofs.Common.{option_map, slice_get, inl, inr, refl, sym, ap, subst, ◌∙◌}
use Rattle.std.specs.Option.{option_map_or}
use Rattle.std.proofs.lemmas.Bool.{eq-eqb, eqb-true}
use Rattle.std.proofs.lemmas.List.{get_or_push}
use Rattle.std.proofs.lemmas.Option.{none-some, same_Some}
use Rattle.command_table.specs.declared.command.Command.{Command}
use Rattle.line_answers.specs.declared.answer.Answer.{Answer}
use Rattle.line_answers.specs.declared.answer.Answer.TheVariants as answer
use Rattle.line_answers.specs.declared.op_refusal.OpRefusal.{OpRefusal}
use Rattle.lvm_script.specs.declared.line.Line.{Line}
use Rattle.volume_history.specs.Chronicles.{Begun, ChronicleEntry, Origin, Took, begun_in}
use Rattle.volume_history.specs.Legal.{AllOrdered}
use Rattle.world_acts.specs.declared.open_line.OpenLine.{OpenLine}
use Rattle.world_acts.specs.declared.state.Core.{Core}
use Rattle.world_acts.specs.declared.volumes.Volumes.{Volumes}
use Rattle.world_acts.specs.Acts.{Begins, World, world}
use Rattle.world_acts.specs.OpenLines.{open_at}
use Rattle.world_acts.specs.Orderly.{IsOrderly}
use Rattle.world_acts.specs.Steps.{after_begins}
use Rattle.line_plans.specs.Judging.{refusal_of}
use Rattle.line_plans.specs.Plans.{key_for, opened_for, opened_on, opened_refused, work_for}
use Rattle.world_history.specs.Causes.{HasCause, before_line}
use Rattle.world_history.specs.Entries.{entries_of, key_told}
use Rattle.world_history.specs.Told.{IsTold, none_coming}
use Rattle.world_history.proofs.EntryLists.{begun_at}
use Rattle.world_tracks.proofs.BegunWaits.{many, open_before, was_begun}
use Rattle.world_tracks.proofs.Causes.Growing.{among_took, extends_begun}
use Rattle.world_tracks.proofs.Causes.Lines.{WasFailing, before_itself}
use Rattle.world_tracks.proofs.Causes.Lives.{lives_itself}
use Rattle.world_tracks.proofs.Causes.Since.{now_in}
use Rattle.world_tracks.proofs.Causes.Carried.{HasCauses, HasCausesBut, carried, now}

module _ (b : Origin) where
  -- it doesn't fail by a disk
  opened_cause : (at : Origin) (es : List ChronicleEntry) (n : ℕ) (volumes : Volumes) (command : Command) (why : Answer)
      → (opened_for volumes command).failure ≡ Some why
      → HasCause at es (now_in at) n why
  opened_cause at es n volumes command why = by (refusal_of volumes.group command)
    where
      by : (r : Option OpRefusal)
          → (option_map_or (opened_refused (key_for volumes command)) r
          (opened_on (key_for volumes command) (work_for volumes command))).failure
          ≡ Some why
          → HasCause at es (now_in at) n why
      by None fails = absurd (none-some why fails)
      by (Some refusal) fails =
          subst (λ (a : Answer). HasCause at es (now_in at) n a) (same_Some (answer.Refused refusal) why fails) tt

  module _ {w : World} {es : List ChronicleEntry} (line : Line) (opened : OpenLine) (barrier : Option ℕ)
      (is : opened ≡ opened_for w.core.volumes line.command) (o : IsOrderly w) (t : IsTold b.start none_coming w es) (h : HasCauses b w es)
    where
      -- its number, its entry, and what is kept beside the shelf then
      abbrev n : ℕ
      n = length w.core.lines.begun

      abbrev entry : ChronicleEntry
      entry = Begun w.shelf.steps n line (key_told w.core.volumes line)

      abbrev d : Core
      d = record (after_begins w.core line opened w.shelf.steps) { barrier = barrier }

      -- it wasn't begun before
      unbegun : begun_in es n ≡ None
      unbegun =
          none (begun_in es n)
          (begun_at b.start es n t.ordered ∙ ap (λ (l : List Line). slice_get l n) t.begun ∙ past w.core.lines.begun)
        where
          none : (x : Option (Line × Option ℕ)) → option_map (λ (l : Line × Option ℕ). l.0) x ≡ None → x ≡ None
          none None e = refl
          none (Some l) e = absurd (none-some l.0 (sym e))

          past : (xs : List Line) → slice_get xs (length xs) ≡ None
          past [] = refl
          past (x ∷ xs) = past xs

      -- an open line that fails did, or is refused
      failing : (q : ℕ) (p : OpenLine) (why : Answer) → open_at d.opens q ≡ Some p → p.failure ≡ Some why
          → WasFailing w.core.opens q why ⊎ HasCause (now b o t h) (entry ∷ es) (now_in (now b o t h)) q why
      failing q p why at fails = by (nat_eq q n) refl
        where
          by : (x : Bool) → nat_eq q n ≡ x
              → WasFailing w.core.opens q why ⊎ HasCause (now b o t h) (entry ∷ es) (now_in (now b o t h)) q why
          by true same =
              let own : open_at d.opens q ≡ Some opened =
              ap (λ (m : ℕ). open_at d.opens m) (eqb-true q n same)
              ∙ get_or_push w.core.opens.list (Some opened) None n (many w line opened barrier o) in
              inr (opened_cause (now b o t h) (entry ∷ es) q w.core.volumes line.command why
              (ap (λ (x : OpenLine). x.failure) (sym is ∙ same_Some opened p (sym own ∙ at)) ∙ fails))
          by false apart =
              inl (before_itself w.core.opens q p why
              (sym (open_before w line opened barrier o q (was_begun w line opened barrier o q p at apart)) ∙ at) fails)

      begun_causes : HasCausesBut n b (world w.shelf d) (entry ∷ es)
      begun_causes = record {
        causes = carried b o t h (world w.shelf d) (entry ∷ es) h.told h.is refl o.tidy.counts.awaited (record {
          later = inl refl;
          more = extends_begun w.shelf.steps n line (key_told w.core.volumes line) es unbegun;
          lost = λ pv lost. inl lost;
          failing = failing;
          dirty = λ key pv lt some. inl (lt, some);
          waits = λ pv it has. inl has;
          lives = lives_itself w.core d refl;
          marks = λ pv place ended unstable. inl (ended, unstable);
          flushes = λ f has. inl has;
          answered = λ are. are;
        });
        older =
            λ since writer p has. subst (λ (x : Bool). Contains (cond x es (before_line es n)) (Took since writer p))
            (sym (eq-eqb n n refl)) (among_took entry es since writer p refl has);
      }

  pub begins_causes : {w : World} {es : List ChronicleEntry} (line : Line) (opened : OpenLine) (barrier : Option ℕ)
      → opened ≡ opened_for w.core.volumes line.command
      → IsOrderly w
      → IsTold b.start none_coming w es
      → AllOrdered b.start (entries_of w (Begins line opened) ++ es)
      → HasCauses b w es
      → HasCausesBut (length w.core.lines.begun) b
      (world w.shelf (record (after_begins w.core line opened w.shelf.steps) { barrier = barrier }))
      (entries_of w (Begins line opened) ++ es)
  begins_causes line opened barrier is o t ordered h = begun_causes line opened barrier is o t h
