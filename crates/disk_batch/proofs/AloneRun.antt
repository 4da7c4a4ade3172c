-- A batch alone on a shelf, completion by completion.
use Rattle.std.proofs.Common.{◌≡◌, cond, length-append, ◌≤◌, ◌<◌, ℕ, ◌+◌, Bool, not, ◌==◌, List, [], ◌∷◌, ◌++◌, length, filter, sum_by}
use Rattle.std.proofs.Common.{All}
use Rattle.std.proofs.Common.{refl, sym, ap, subst, ◌∙◌, arith}
use Rattle.std.proofs.lemmas.List.{length-map, map-append}
use Rattle.disk_model.specs.declared.ops.Done.{Done}
use Rattle.disk_model.specs.Steps.{Work, Flushing, sectors_of_work}
use Rattle.disk_model.specs.Record.{IsIn, Operation}
use Rattle.disk_model.specs.Operations.{work_of}
use Rattle.disk_model.specs.Calls.{Completes}
use Rattle.disk_model.specs.State.{IsLawful, State, tags_of}
use Rattle.disk_batch.specs.declared.batching.BatchStep.{BatchStep}
use Rattle.disk_batch.specs.declared.batching.BatchStep.TheVariants.{Going, Well, Lost}
use Rattle.disk_batch.specs.Views.{View, Turn, Waits, Writes, Flushes, IsWell, IsLost, sectors_to_come, to_come, turn_of}
use Rattle.disk_model.specs.InFlight.{IsAmong}
use Rattle.disk_model.proofs.InFlight.{contains_among, contains_in, tags_left}
use Rattle.disk_batch.specs.Fits.{FitsOn, HasBuffers, LiesOn}
use Rattle.disk_batch.specs.Submits.{put_operation}
use Rattle.disk_batch.specs.Writes.{LieIn, span_count, write_work}
use Rattle.sector_base.specs.declared.spans.Span.{Span}
use Rattle.disk_batch.specs.declared.batching.Batching.{Batching}
use Rattle.disk_batch.specs.Batches.{Starts, StartsWrites, Follows, Goes, view_of, after_done}
use Rattle.disk_batch.specs.Alone.{IsOn, IsWithin, steps_to_come, Turns}
use Rattle.disk_batch.proofs.Calling.{IsTurn, is_turn}
use Rattle.disk_batch.proofs.Fitting.{buffers_completed, buffers_follow, buffers_started, buffers_without, lies_follow, lies_started}
use Rattle.disk_batch.proofs.Fitting.{next_uses}
use Rattle.disk_batch.proofs.Growing.{starts_works}

pub owned : (before mid : State) (done : Done) (tags : List ℕ) → Completes before done mid → tags_of before.in_flight ≡ tags
    → IsAmong tags done.tag
owned before mid done tags completes e =
    let o : Operation = record { tag = done.tag; work = work_of done.op } in
    subst (λ (l : List ℕ). IsAmong l done.tag) e (contains_among before.in_flight o (contains_in before.in_flight o completes.was))

pub no_tags : (fs : List Operation) → tags_of fs ≡ [] → fs ≡ []
no_tags [] e = refl
no_tags (f ∷ fs) e = cc

-- where the tags are those in flight, they are so after what a batch does at a completion
follows_on : (old new : State) (view : View) (turn : Turn) (step : BatchStep) → IsTurn view turn → 0 < length view.flush
    → tags_of old.in_flight ≡ view.tags → Follows old view turn step new → IsOn step new
follows_on old new view Waits (Going next) is some e f =
    let v = ap (λ (w : View). w.tags) f.1 in
    (ap (λ (s : State). tags_of s.in_flight) f.0 ∙ e ∙ sym v, let l = ap (λ (l : List ℕ). length l) v in omega (arith, is))
follows_on old new view Writes (Going next) is some e f =
    let o : Operation = put_operation f.tag f.put in
    let v : (view_of next).tags ≡ view.tags ++ f.tag ∷ [] = ap (λ (w : View). w.tags) f.view_is in
    let l = ap (λ (l : List ℕ). length l) v in (
      ap (λ (l : List Operation). tags_of l) f.submits.in_flight ∙ map-append (λ (p : Operation). p.tag) old.in_flight (o ∷ [])
          ∙ ap (λ (l : List ℕ). l ++ f.tag ∷ []) e ∙ sym v,
      omega (arith, l, length-append view.tags (f.tag ∷ [])),
    )
follows_on old new view Flushes (Going next) is some e f =
    let none : old.in_flight ≡ [] = no_tags old.in_flight (e ∙ is.0) in
    let all : new.in_flight ≡ f.0.os = f.0.submits.in_flight ∙ ap (λ (l : List Operation). l ++ f.0.os) none in
    let os : length f.0.os ≡ length view.flush =
    sym (length-map f.0.os (λ (o : Operation). o.work)) ∙ ap (λ (l : List Work). length l) f.0.works_are
    ∙ length-map view.flush Flushing in
    let ts : length (view_of next).tags ≡ length f.0.os =
    sym (ap (λ (l : List ℕ). length l) f.0.tags_are) ∙ length-map f.0.os (λ (o : Operation). o.tag) in
    (ap (λ (l : List Operation). tags_of l) all ∙ f.0.tags_are, omega arith)
follows_on old new view IsWell Well is some e f = ap (λ (s : State). s.in_flight) f ∙ no_tags old.in_flight (e ∙ is.0)
follows_on old new view (IsLost pv) (Lost pv') is some e f = ap (λ (s : State). s.in_flight) f.0 ∙ no_tags old.in_flight (e ∙ is.0)
follows_on old new view turn step is some e f = absurd f

pub turns_on : (before mid new : State) (step next : BatchStep) (done : Done) → IsOn step before → IsWithin mid step
    → Completes before done mid → Turns mid step done next new → IsOn next new
turns_on before mid new (Going b) next done on within completes goes =
    let after : View = after_done (view_of b) done in
    follows_on mid new after (turn_of after) next (is_turn after) within.1
    (ap (λ (l : List Operation). tags_of l) completes.in_flight ∙ tags_left before.in_flight done.tag
    ∙ ap (λ (l : List ℕ). filter (λ (t : ℕ). not (t == done.tag)) l) on.0) goes
turns_on before mid new Well next done on within completes goes = absurd goes
turns_on before mid new (Lost pv) next done on within completes goes = absurd goes

-- the batch stays within the shelf
follows_within : (old new : State) (view : View) (turn : Turn) (step : BatchStep) → IsLawful old → IsTurn view turn → FitsOn old view
    → 0 < length view.flush → Follows old view turn step new → IsWithin new step
follows_within old new view Waits (Going next) lawful is fits some f =
    subst (λ (s : State). IsWithin s (Going next)) (sym f.0)
    (subst (λ (v : View). FitsOn old v × (0 < length v.flush)) (sym f.1) (fits, some))
follows_within old new view Writes (Going next) lawful is fits some f =
    let u = next_uses view (view_of next) f.put f.puts (view.tags ++ f.tag ∷ []) f.next_is f.view_is in
    let o : Operation = put_operation f.tag f.put in
    let one : sum_by (λ (p : Operation). sectors_of_work p.work) (o ∷ []) ≡ span_count f.put =
    let z : sectors_of_work o.work ≡ span_count f.put = refl in omega (arith, z) in (
      record {
        lies = lies_follow old new view Writes next fits.lies f;
        ops = omega (arith, fits.ops, f.submits.spare_ops, u.ops);
        sectors = omega (arith, fits.sectors, f.submits.spare_sectors, u.sectors, one);
        buffers = buffers_follow old new view Writes next lawful is fits.buffers f;
      },
      subst (λ (v : View). 0 < length v.flush) (sym f.view_is) some,
    )
follows_within old new view Flushes (Going next) lawful is fits some f =
    let none : length view.rest ≡ 0 = ap (λ (l : List (Span × List (List ℕ))). length l) is.3 in
    let ops : to_come (view_of next) ≡ length view.rest + 0 = ap to_come f.1 in
    let sectors : sectors_to_come (view_of next) ≡ 0 =
    ap sectors_to_come f.1 ∙ ap (λ (l : List (Span × List (List ℕ))). sum_by span_count l) is.3 in (
      record {
        lies = lies_follow old new view Flushes next fits.lies f;
        ops = omega (arith, ops, none);
        sectors = omega (arith, sectors);
        buffers = buffers_follow old new view Flushes next lawful is fits.buffers f;
      },
      subst (λ (v : View). 0 < length v.flush) (sym f.1) some,
    )
follows_within old new view IsWell Well lawful is fits some f = tt
follows_within old new view (IsLost pv) (Lost pv') lawful is fits some f = tt
follows_within old new view turn step lawful is fits some f = absurd f

pub goes_within : (old new : State) (view : View) (done : Done) (step : BatchStep) → IsLawful old → FitsOn old view → 0 < length view.flush
    → Goes old view done step new → IsWithin new step
goes_within old new view done step lawful fits some goes =
    let after : View = after_done view done in
    let fits' : FitsOn old after =
    record {
      lies = record { rest = fits.lies.rest; flush = fits.lies.flush };
      ops = fits.ops;
      sectors = fits.sectors;
      buffers = buffers_without old.in_flight done.tag view after refl refl fits.buffers;
    } in
    follows_within old new after (turn_of after) step lawful (is_turn after) fits' some goes

-- a completion less is to come
follows_fewer : (old new : State) (view : View) (turn : Turn) (step : BatchStep) → IsTurn view turn → Follows old view turn step new
    → length new.in_flight + steps_to_come step ≤ length old.in_flight + to_come view
follows_fewer old new view Waits (Going next) is f =
    let a : length new.in_flight ≡ length old.in_flight = ap (λ (s : State). length s.in_flight) f.0 in
    let b : to_come (view_of next) ≡ to_come view = ap to_come f.1 in omega arith
follows_fewer old new view Writes (Going next) is f =
    let u = next_uses view (view_of next) f.put f.puts (view.tags ++ f.tag ∷ []) f.next_is f.view_is in
    let all : length new.in_flight ≡ length old.in_flight + 1 =
    ap (λ (l : List Operation). length l) f.submits.in_flight ∙ length-append old.in_flight (put_operation f.tag f.put ∷ []) in
    omega (arith, all, u.ops)
follows_fewer old new view Flushes (Going next) is f =
    let os : length f.0.os ≡ length view.flush =
    sym (length-map f.0.os (λ (o : Operation). o.work)) ∙ ap (λ (l : List Work). length l) f.0.works_are
    ∙ length-map view.flush Flushing in
    let all : length new.in_flight ≡ length old.in_flight + length f.0.os =
    ap (λ (l : List Operation). length l) f.0.submits.in_flight ∙ length-append old.in_flight f.0.os in
    let b : to_come (view_of next) ≡ length view.rest + 0 = ap to_come f.1 in
    let d : to_come view ≡ length view.rest + length view.flush = ap (λ (w : Bool). length view.rest + cond w 0 (length view.flush)) is.1 in
    omega arith
follows_fewer old new view IsWell Well is f =
    let a : length new.in_flight ≡ length old.in_flight = ap (λ (s : State). length s.in_flight) f in omega arith
follows_fewer old new view (IsLost pv) (Lost pv') is f =
    let a : length new.in_flight ≡ length old.in_flight = ap (λ (s : State). length s.in_flight) f.0 in omega arith
follows_fewer old new view turn step is f = absurd f

pub turns_fewer : (before mid new : State) (step next : BatchStep) (done : Done) → Completes before done mid → Turns mid step done next new
    → length new.in_flight + steps_to_come next < length before.in_flight + steps_to_come step
turns_fewer before mid new (Going b) next done completes goes =
    let after : View = after_done (view_of b) done in
    let l = follows_fewer mid new after (turn_of after) next (is_turn after) goes in
    omega (arith, completes.fewer)
turns_fewer before mid new Well next done completes goes = absurd goes
turns_fewer before mid new (Lost pv) next done completes goes = absurd goes

-- the start
starts_on : (old new : State) (puts : List (Span × List (List ℕ))) (disks : List ℕ) (batching : Batching) → old.in_flight ≡ []
    → StartsWrites old puts disks (view_of batching) new → IsOn (Going batching) new
starts_on old new puts disks batching idle starts =
    let os = starts.works.os in
    let all : new.in_flight ≡ os = starts.works.submits.in_flight ∙ ap (λ (l : List Operation). l ++ os) idle in
    let many : length os ≡ length starts.first =
    sym (length-map os (λ (o : Operation). o.work)) ∙ ap (λ (l : List Work). length l) starts.works.works_are
    ∙ length-map starts.first write_work in
    let ts : length (view_of batching).tags ≡ length os =
    sym (ap (λ (l : List ℕ). length l) starts.works.tags_are) ∙ length-map os (λ (o : Operation). o.tag) in
    (ap (λ (l : List Operation). tags_of l) all ∙ starts.works.tags_are, omega (arith, many, ts, starts.some))

starts_within : (old new : State) (puts : List (Span × List (List ℕ))) (disks : List ℕ) (batching : Batching) → old.in_flight ≡ []
    → LieIn old.sizes puts → All (λ (pv : ℕ). pv < length old.sizes) disks → 0 < length disks
    → length puts + length disks ≤ old.spare_ops → sum_by span_count puts ≤ old.spare_sectors
    → StartsWrites old puts disks (view_of batching) new → IsWithin new (Going batching)
starts_within old new puts disks batching idle lie flush some ops sectors starts =
    let w = starts_works old new puts disks batching starts in (
      record {
        lies = lies_started old new puts disks (view_of batching) lie flush starts;
        ops = omega (arith, w.spare_ops, ops);
        sectors = omega (arith, w.spare_sectors, sectors);
        buffers =
            buffers_started old new puts disks (view_of batching)
            (λ o within own. subst (λ (l : List Operation). IsIn l o) idle within) starts;
      },
      subst (λ (v : View). 0 < length v.flush) (sym starts.view_is) some,
    )

-- a batch with a write starts on an idle shelf
module _ (old new : State) (disks : List ℕ) (batching : Batching) (idle : old.in_flight ≡ []) where
  pub alone_on : (puts : List (Span × List (List ℕ))) → 0 < length puts → Starts old puts disks (view_of batching) new
      → IsOn (Going batching) new
  alone_on [] some starts = absurd (omega arith)
  alone_on (put ∷ puts) some starts = starts_on old new (put ∷ puts) disks batching idle starts

  pub alone_within : (puts : List (Span × List (List ℕ))) → 0 < length puts → LieIn old.sizes puts
      → All (λ (pv : ℕ). pv < length old.sizes) disks → 0 < length disks → length puts + length disks ≤ old.spare_ops
      → sum_by span_count puts ≤ old.spare_sectors → Starts old puts disks (view_of batching) new → IsWithin new (Going batching)
  alone_within [] some lie flush flushes ops sectors starts = absurd (omega arith)
  alone_within (put ∷ puts) some lie flush flushes ops sectors starts =
      starts_within old new (put ∷ puts) disks batching idle lie flush flushes ops sectors starts

-- after a completion it is within the shelf still
pub completed_within : (before mid : State) (step : BatchStep) (done : Done) → IsWithin before step → Completes before done mid
    → IsWithin mid step
completed_within before mid (Going next) done within completes = (
  record {
    lies = subst (λ (l : List ℕ). LiesOn l (view_of next)) (sym completes.sizes) within.0.lies;
    ops = omega (arith, completes.spare_ops, within.0.ops);
    sectors = omega (arith, completes.spare_sectors, within.0.sectors);
    buffers = subst (λ (l : List Operation). HasBuffers l (view_of next)) (sym completes.in_flight)
        (buffers_completed before.in_flight done.tag (view_of next) within.0.buffers);
  },
  within.1,
)
completed_within before mid Well done within completes = tt
completed_within before mid (Lost pv) done within completes = tt
