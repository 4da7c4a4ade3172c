-- Traces with an event more.
use Rattle.std.proofs.Common.{◌≡◌, Bool, true, false, Option, Some, None, List, [], ◌∷◌, ◌++◌, refl, ap, sym, ◌∙◌, subst, true≢false}
use Rattle.std.proofs.Common.{MatchBool, append_assoc}
use mathlib.Core.List.{IsPrefix}
use Rattle.line_table.specs.declared.journal.JournalEntry.{JournalEntry}
use Rattle.io_session.specs.Events.{Event, Begins, RefusesLine, Completes, Idles, Tends, RefusesCommit, Halts, refused_after, wanted_after}
use Rattle.io_session.specs.Traces.{HasTimelyTrace, IsTimelyAt, TraceStep, refused_in, was_wanted}
use Rattle.io_session.specs.Desks.{Continues, DeskInvariant, DeskState, IsNextBlocked, MayBeginNext, queued, script_of, unbegun}

-- what stands behind the same list is the same
same_behind : {A : Type 0} (xs ys zs : List A) → xs ++ ys ≡ xs ++ zs → ys ≡ zs
same_behind [] ys zs h = h
same_behind (x ∷ xs) ys zs h = same_behind xs ys zs (cc h)

-- a line came back only where memory was wanted
none_after : {L : Type 0} (event : Event L) (wanted : Bool) (refused : Option L)
    → (wanted ≡ false → refused ≡ None) → wanted_after event wanted ≡ false → refused_after event refused ≡ None
none_after (RefusesLine line) wanted refused before h = absurd (true≢false h)
none_after RefusesCommit wanted refused before h = absurd (true≢false h)
none_after (Begins line) wanted refused before h = before h
none_after Completes wanted refused before h = before h
none_after Idles wanted refused before h = before h
none_after Tends wanted refused before h = before h
none_after Halts wanted refused before h = before h

none_refused : {W L : Type 0} (steps : List (TraceStep W L)) → was_wanted steps ≡ false → refused_in steps ≡ None
none_refused [] h = refl
none_refused (s ∷ steps) h = none_after s.event (was_wanted steps) (refused_in steps) (none_refused steps) h

module _ {W L : Type 0} (begun : W → List L) (allows : W → L → Bool) (makes : W → Event L → W → Type 0) where
  -- one event more
  one_more : (start w v : W) (script : List L) (wanted : Bool) (refused : Option L) (event : Event L)
      → HasTimelyTrace begun allows makes start script w wanted refused → makes w event v
      → IsTimelyAt begun allows script wanted w event
      → HasTimelyTrace begun allows makes start script v (wanted_after event wanted) (refused_after event refused)
  one_more start w v script wanted refused event t made timely = record {
    steps = record { before = w; event = event } ∷ t.steps;
    trace = (made, t.trace);
    timely = (subst (λ (b : Bool). IsTimelyAt begun allows script b w event) (sym t.told) timely, t.timely);
    told = ap (λ (b : Bool). wanted_after event b) t.told;
    told_line = ap (λ (r : Option L). refused_after event r) t.told_line;
  }

  pub by_script : (start v : W) (xs ys : List L) (wanted : Bool) (refused : Option L) → xs ≡ ys
      → HasTimelyTrace begun allows makes start xs v wanted refused → HasTimelyTrace begun allows makes start ys v wanted refused
  by_script start v xs ys wanted refused is t =
      subst (λ (zs : List L). HasTimelyTrace begun allows makes start zs v wanted refused) is t

  -- no line came back unless memory was wanted
  none_back : (d : DeskState W L) → DeskInvariant begun allows makes d → d.wanted ≡ false → d.refused ≡ None
  none_back d t wanted = sym t.told_line ∙ none_refused t.steps (t.told ∙ wanted)

  -- what is left to be begun, where no line came back
  pub left_behind : (d : DeskState W L) → DeskInvariant begun allows makes d → d.wanted ≡ false → unbegun d.refused d.rest ≡ d.rest
  left_behind d t wanted = ap (λ (r : Option L). unbegun r d.rest) (none_back d t wanted)

  -- before a completion the next line may not begin
  blocked_at : (d : DeskState W L) → DeskInvariant begun allows makes d → IsNextBlocked allows d
      → IsTimelyAt begun allows (script_of begun d) d.wanted d.world Completes
  blocked_at d t blocked wanted line next =
      blocked line next.0 (ap (λ (b : Bool). queued b d.rest) wanted ∙ sym (left_behind d t wanted)
      ∙ same_behind (begun d.world) (unbegun d.refused d.rest) (line ∷ next.0) next.1)

  -- an event that begins no line leaves the script
  same_script : (d : DeskState W L) (v : W) → begun v ≡ begun d.world → script_of begun d ≡ begun v ++ unbegun d.refused d.rest
  same_script d v same = ap (λ (xs : List L). xs ++ unbegun d.refused d.rest) (sym same)

  -- after an operation completed, or none did
  pub turned : (d now : DeskState W L) (v : W) (b : Bool) (X : Type 0)
      → d ≡ now → DeskInvariant begun allows makes d → begun v ≡ begun d.world
      → MatchBool b (makes d.world Completes v × X) (makes d.world Idles v) → IsNextBlocked allows now
      → HasTimelyTrace begun allows makes d.initial (begun v ++ unbegun d.refused d.rest) v d.wanted d.refused
  turned d now v true X view t same made blocked =
      by_script d.initial v (script_of begun d) (begun v ++ unbegun d.refused d.rest) d.wanted d.refused (same_script d v same)
      (one_more d.initial d.world v (script_of begun d) d.wanted d.refused Completes t made.0
      (blocked_at d t (subst (λ (e : DeskState W L). IsNextBlocked allows e) (sym view) blocked)))
  turned d now v false X view t same made blocked =
      by_script d.initial v (script_of begun d) (begun v ++ unbegun d.refused d.rest) d.wanted d.refused (same_script d v same)
      (one_more d.initial d.world v (script_of begun d) d.wanted d.refused Idles t made tt)

  -- after a commit started
  pub tended : (d now : DeskState W L) (v : W)
      → d ≡ now → DeskInvariant begun allows makes d → begun v ≡ begun d.world → makes d.world Tends v
      → HasTimelyTrace begun allows makes d.initial (begun v ++ unbegun d.refused d.rest) v d.wanted d.refused
  tended d now v view t same made =
      by_script d.initial v (script_of begun d) (begun v ++ unbegun d.refused d.rest) d.wanted d.refused (same_script d v same)
      (one_more d.initial d.world v (script_of begun d) d.wanted d.refused Tends t made tt)

  -- after memory was wanted for a commit, and the move was given up
  pub halted : (d now : DeskState W L) (w v : W)
      → d ≡ now → DeskInvariant begun allows makes d → begun w ≡ begun d.world → makes d.world RefusesCommit w
      → begun v ≡ begun w → makes w Halts v
      → HasTimelyTrace begun allows makes d.initial (begun v ++ unbegun d.refused d.rest) v true d.refused
  halted d now w v view t kept wanted same made =
      by_script d.initial v (script_of begun d) (begun v ++ unbegun d.refused d.rest) true d.refused (same_script d v (same ∙ kept))
      (one_more d.initial w v (script_of begun d) true d.refused Halts
      (one_more d.initial d.world w (script_of begun d) d.wanted d.refused RefusesCommit t wanted tt) made tt)

  -- the line that was taken is the next of the script
  script_with : (d : DeskState W L) (line : L) (rest : List L) → DeskInvariant begun allows makes d → d.wanted ≡ false
      → d.rest ≡ line ∷ rest → script_of begun d ≡ begun d.world ++ line ∷ rest
  script_with d line rest t wanted is = ap (λ (xs : List L). begun d.world ++ xs) (left_behind d t wanted ∙ is)

  -- a line that is begun leaves the script
  started_script : (d now : DeskState W L) (v : W) (line : L) (rest : List L)
      → d ≡ now → now.wanted ≡ false → DeskInvariant begun allows makes d → d.rest ≡ line ∷ rest
      → begun v ≡ begun d.world ++ line ∷ [] → begun v ++ unbegun d.refused rest ≡ script_of begun d
  started_script d now v line rest view wanted' t is same =
      let wanted : d.wanted ≡ false = ap (λ (e : DeskState W L). e.wanted) view ∙ wanted' in
      ap (λ (xs : List L). xs ++ unbegun d.refused rest) same
      ∙ ap (λ (r : Option L). (begun d.world ++ line ∷ []) ++ unbegun r rest) (none_back d t wanted)
      ∙ append_assoc (begun d.world) (line ∷ []) rest
      ∙ sym (script_with d line rest t wanted is)

  -- after a line was begun
  pub started : (d now : DeskState W L) (v : W) (line : L) (rest : List L)
      → d ≡ now → now.wanted ≡ false → DeskInvariant begun allows makes d → d.rest ≡ line ∷ rest
      → begun v ≡ begun d.world ++ line ∷ [] → makes d.world (Begins line) v
      → HasTimelyTrace begun allows makes d.initial (begun v ++ unbegun d.refused rest) v d.wanted d.refused
  started d now v line rest view wanted' t is same made =
      let wanted : d.wanted ≡ false = ap (λ (e : DeskState W L). e.wanted) view ∙ wanted' in
      by_script d.initial v (script_of begun d) (begun v ++ unbegun d.refused rest) d.wanted d.refused
      (sym (started_script d now v line rest view wanted' t is same))
      (one_more d.initial d.world v (script_of begun d) d.wanted d.refused (Begins line) t made
      (wanted, (rest, script_with d line rest t wanted is)))

  -- a line that comes back leaves the script
  refused_script : (d now : DeskState W L) (v : W) (line back : L) (rest : List L)
      → d ≡ now → now.wanted ≡ false → DeskInvariant begun allows makes d → d.rest ≡ line ∷ rest
      → begun v ≡ begun d.world → back ≡ line → begun v ++ back ∷ rest ≡ script_of begun d
  refused_script d now v line back rest view wanted' t is same came =
      let wanted : d.wanted ≡ false = ap (λ (e : DeskState W L). e.wanted) view ∙ wanted' in
      ap (λ (xs : List L). xs ++ back ∷ rest) same
      ∙ ap (λ (l : L). begun d.world ++ l ∷ rest) came
      ∙ sym (script_with d line rest t wanted is)

  -- after memory was wanted for a line, which came back
  pub refused : (d now : DeskState W L) (v : W) (line back : L) (rest : List L)
      → d ≡ now → now.wanted ≡ false → DeskInvariant begun allows makes d → d.rest ≡ line ∷ rest
      → begun v ≡ begun d.world → back ≡ line → makes d.world (RefusesLine line) v
      → HasTimelyTrace begun allows makes d.initial (begun v ++ back ∷ rest) v true (Some back)
  refused d now v line back rest view wanted' t is same came made =
      let wanted : d.wanted ≡ false = ap (λ (e : DeskState W L). e.wanted) view ∙ wanted' in
      subst (λ (l : L). HasTimelyTrace begun allows makes d.initial (begun v ++ back ∷ rest) v true (Some l)) (sym came)
      (by_script d.initial v (script_of begun d) (begun v ++ back ∷ rest) true (Some line)
      (sym (refused_script d now v line back rest view wanted' t is same came))
      (one_more d.initial d.world v (script_of begun d) d.wanted d.refused (RefusesLine line) t made
      (wanted, (rest, script_with d line rest t wanted is))))

  -- the desk after a line was begun continues the one before
  pub continues_begun : (journal : W → List JournalEntry) (d now : DeskState W L) (v : W) (line : L) (rest : List L)
      → d ≡ now → now.wanted ≡ false → DeskInvariant begun allows makes d → d.rest ≡ line ∷ rest
      → begun v ≡ begun d.world ++ line ∷ [] → IsPrefix (journal d.world) (journal v)
      → Continues begun journal now
      (record { initial = d.initial; world = v; refused = d.refused; rest = rest; wanted = d.wanted })
  continues_begun journal d now v line rest view wanted t is same longer = subst
      (λ (e : DeskState W L). Continues begun journal e
      (record { initial = d.initial; world = v; refused = d.refused; rest = rest; wanted = d.wanted }))
      view (record { initial = refl; script = started_script d now v line rest view wanted t is same; longer = longer })

  -- the desk after a line came back continues the one before
  pub continues_back : (journal : W → List JournalEntry) (d now new : DeskState W L) (v : W) (line back : L) (rest : List L)
      → d ≡ now → now.wanted ≡ false → DeskInvariant begun allows makes d → d.rest ≡ line ∷ rest
      → begun v ≡ begun d.world → back ≡ line → IsPrefix (journal d.world) (journal v)
      → new ≡ record { initial = d.initial; world = v; refused = Some back; rest = rest; wanted = true }
      → Continues begun journal now new
  continues_back journal d now new v line back rest view wanted t is same came longer new-is =
      subst (λ (e : DeskState W L). Continues begun journal now e) (sym new-is)
      (subst (λ (e : DeskState W L). Continues begun journal e
      (record { initial = d.initial; world = v; refused = Some back; rest = rest; wanted = true }))
      view (record { initial = refl; script = refused_script d now v line back rest view wanted t is same came; longer = longer }))

-- the line that was taken is the one that may begin
pub next_line : {W L : Type 0} (allows : W → L → Bool) (d now : DeskState W L) (line : L) (rest : List L)
    → d ≡ now → MayBeginNext allows now → d.rest ≡ line ∷ rest → allows d.world line ≡ true
next_line allows d now line rest view n is =
    (subst (λ (e : DeskState _ _). MayBeginNext allows e) (sym view) n).free line rest is
