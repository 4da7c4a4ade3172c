-- A desk at which nothing is left to be done, as a run.
use Rattle.std.proofs.Common.{◌≡◌, ℕ, Bool, List, ◌++◌, ap, sym, ◌∙◌, subst, append-nil}
use mathlib.Core.List.{IsPrefix}
use Rattle.line_table.specs.declared.journal.JournalEntry.{JournalEntry}
use Rattle.table_lock.proofs.Prefixes.{prefix_trans}
use Rattle.io_session.specs.declared.session.Run.{Run}
use Rattle.io_session.specs.Events.{Event}
use Rattle.io_session.specs.Traces.{HasTimelyTrace}
use Rattle.io_session.specs.Desks.{Continues, DeskInvariant, DeskState, IsQuiescent, queued, script_of}
use Rattle.io_session.specs.Runs.{IsCarriedOut}
use Rattle.io_session.proofs.TimelyTraces.{by_script, left_behind}

-- the desk that a run was taken from
abbrev desk_of : {W L : Type 0} → W → Run W L → DeskState W L
desk_of initial run =
    record { initial = initial; world = run.world; refused = run.refused; rest = run.rest.items; wanted = run.wanted }

module _ {W L : Type 0} (begun : W → List L) (journal : W → List JournalEntry) where
  pub continues_both : (d e f : DeskState W L) → Continues begun journal d e → Continues begun journal e f → Continues begun journal d f
  continues_both d e f p q = record {
    initial = q.initial ∙ p.initial;
    script = q.script ∙ p.script;
    longer = prefix_trans (journal d.world) (journal e.world) (journal f.world) p.longer q.longer;
  }

-- where nothing is in flight, due or queued, the script is carried out
pub carried_out : {W L : Type 0} (begun : W → List L) (journal : W → List JournalEntry) (in_flight : W → ℕ) (is_due is_done : W → Bool)
    (allows : W → L → Bool) (makes : W → Event L → W → Type 0) (old now : DeskState W L) (initial : W) (run : Run W L)
    → desk_of initial run ≡ now → DeskInvariant begun allows makes (desk_of initial run)
    → Continues begun journal old now → IsQuiescent in_flight is_due is_done now → IsPrefix (journal old.initial) (journal old.world)
    → IsCarriedOut begun journal in_flight is_due is_done allows makes old.initial (script_of begun old) run
carried_out {W = W} {L = L} begun journal in_flight is_due is_done allows makes old now initial run view t on' quiet' before =
    let d : DeskState W L = desk_of initial run in
    let on : Continues begun journal old d = subst (λ (e : DeskState W L). Continues begun journal old e) (sym view) on' in
    let quiet : IsQuiescent in_flight is_due is_done d =
    subst (λ (e : DeskState W L). IsQuiescent in_flight is_due is_done e) (sym view) quiet' in
    record {
      continued =
          by_script begun allows makes old.initial run.world (script_of begun d) (script_of begun old) run.wanted run.refused on.script
          (subst (λ (w : W). HasTimelyTrace begun allows makes w (script_of begun d) run.world run.wanted run.refused) on.initial t);
      whole_script = on.script;
      all_begun = λ wanted.
          sym (append-nil (begun run.world))
          ∙ ap (λ (xs : List L). begun run.world ++ xs)
          (sym (left_behind begun allows makes d t wanted ∙ sym (ap (λ (b : Bool). queued b run.rest.items) wanted) ∙ quiet.none_queued))
          ∙ on.script;
      longer = prefix_trans (journal old.initial) (journal old.world) (journal run.world) before on.longer;
      none_in_flight = quiet.none_in_flight;
      none_due = quiet.none_due;
      all_answered = quiet.all_answered;
    }
