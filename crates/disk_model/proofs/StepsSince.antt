-- The steps of one call and then another, and what was submitted in them.
use Rattle.std.proofs.Common.{◌≡◌, ◌≤◌, ℕ, List, [], ◌∷◌, ◌++◌, length, Option, sym, ap, ◌∙◌, arith, append_assoc, length-append}
use Rattle.std.proofs.lemmas.List.{append-nil}
use Rattle.sector_base.specs.declared.spans.Span.{Span}
use Rattle.disk_model.specs.Steps.{Reading, Writing, Flushing, Step, Submitted, Completed, Record, steps_on}
use Rattle.disk_model.specs.Since.{BetweenRecords, writes_submitted, spans_read}

-- the steps of both calls are those since the first began
pub steps_joined : (old mid new : Record) (first more : List Step) → mid ≡ steps_on first old → new ≡ steps_on more mid
    → new ≡ steps_on (more ++ first) old
steps_joined old mid new first more a b =
    b ∙ ap (λ (t : Record). steps_on more t) a
    ∙ ap (λ (s : List Step). record { opened = old.opened; steps = s }) (sym (append_assoc more first old.steps))

-- a record grows
pub steps_grow : (old new : Record) (since : List Step) → new ≡ steps_on since old → length old.steps ≤ length new.steps
steps_grow old new since e = let l = ap (λ (t : Record). length t.steps) e in omega (arith, l, length-append since old.steps)

-- what was submitted in both
pub writes_submitted-append : (newer older : List Step)
    → writes_submitted (newer ++ older) ≡ writes_submitted older ++ writes_submitted newer
writes_submitted-append [] older = sym (append-nil (writes_submitted older))
writes_submitted-append (Submitted tag (Writing span sectors) ∷ newer) older =
    ap (λ (l : List (Span × List (List ℕ))). l ++ (span, sectors) ∷ []) (writes_submitted-append newer older)
    ∙ append_assoc (writes_submitted older) (writes_submitted newer) ((span, sectors) ∷ [])
writes_submitted-append (Submitted tag (Reading span) ∷ newer) older = writes_submitted-append newer older
writes_submitted-append (Submitted tag (Flushing disk) ∷ newer) older = writes_submitted-append newer older
writes_submitted-append (Completed tag work well fresh ∷ newer) older = writes_submitted-append newer older

pub spans_read-append : (newer older : List Step) → spans_read (newer ++ older) ≡ spans_read older ++ spans_read newer
spans_read-append [] older = sym (append-nil (spans_read older))
spans_read-append (Submitted tag (Reading span) ∷ newer) older =
    ap (λ (l : List Span). l ++ span ∷ []) (spans_read-append newer older) ∙ append_assoc (spans_read older) (spans_read newer) (span ∷ [])
spans_read-append (Submitted tag (Writing span sectors) ∷ newer) older = spans_read-append newer older
spans_read-append (Submitted tag (Flushing disk) ∷ newer) older = spans_read-append newer older
spans_read-append (Completed tag work well fresh ∷ newer) older = spans_read-append newer older

-- two calls, where the shelf tells its record
pub between_both : (R Q P : Record → Record → Type 0) (s0 s1 s2 : Option Record)
    → ((old mid new : Record) → R old mid → Q mid new → P old new) → BetweenRecords R s0 s1 → BetweenRecords Q s1 s2
    → BetweenRecords P s0 s2
between_both R Q P s0 s1 s2 make first more old e =
    let f = first old e in
    let m = more f.0 f.1 in
    (m.0, m.1, make old f.0 m.0 f.2 m.2)

-- what follows from a call
pub between_weaker : (R P : Record → Record → Type 0) (s0 s1 : Option Record) → ((old new : Record) → R old new → P old new)
    → BetweenRecords R s0 s1 → BetweenRecords P s0 s1
between_weaker R P s0 s1 weaker call old e = let f = call old e in (f.0, f.1, weaker old f.0 f.2)

-- a call that tells nothing
pub between_same : (P : Record → Record → Type 0) (s0 s1 : Option Record) → s1 ≡ s0 → ((old : Record) → P old old) → BetweenRecords P s0 s1
between_same P s0 s1 same make old e = (old, same ∙ e, make old)
