-- What steps and the plan carry over at a place, and a change without an entry keeps it tracked.
use Rattle.std.proofs.Common.{◌≡◌, ◌≤◌, ◌<◌, ◌⊎◌, ℕ, Some, ◌||◌, Bool, true, false, IsTrue, List, ◌∷◌, length, inl, inr, ⊎_elim, refl, sym}
use Rattle.std.proofs.Common.{ap, subst, ◌∙◌, arith}
use Rattle.std.proofs.lemmas.Bool.Decides.{eqb_tells}
use Rattle.sector_base.specs.declared.spans.Span.{Span}
use Rattle.disk_model.proofs.Durable.{new_write, only_leaves_on, or_completed_on}
use Rattle.disk_model.specs.Brought.{brings}
use Rattle.disk_model.specs.Durability.{OnlyLeaves, OnlyLeavesOrCompleted}
use Rattle.disk_model.specs.Steps.{Completed, Flushing, Record, Step, Submitted, Writing, step_on, value_at}
use Rattle.flush_plan.specs.Plans.{Plan, flush_of, is_in_flight, marks_of}
use Rattle.flush_plan.specs.Steps.{after_flushed, after_forgot, after_lost, after_submitted, after_wrote}
use Rattle.lvm_script.specs.declared.line.Line.{Line}
use Rattle.line_table.specs.Machine.{PlainState, sector_of}
use Rattle.volume_history.proofs.Bases.{each_cut_map}
use Rattle.volume_history.specs.Candidates.{base, base_from, bears}
use Rattle.volume_history.specs.Chronicles.{ChronicleEntry, Origin, begun_in, settled_at}
use Rattle.volume_history.specs.Cuts.{EachCut}
use Rattle.volume_history.specs.Placed.{Place}
use Rattle.volume_history.specs.Replay.{plain_state}
use Rattle.volume_history.specs.Sources.{Base, ByLine, Source, value_from}
use Rattle.world_places.proofs.Coming.{comes_asked, comes_flushed, comes_lost, comes_map, comes_on, comes_write, comes_wrote, only_map}
use Rattle.world_places.proofs.Coming.{stable_elsewhere, stable_flushed, stable_lost, stable_wrote}
use Rattle.world_places.specs.Changes.{IsIdle, NotesStay, RealStays, Stood}
use Rattle.world_places.specs.Comings.{Comes}
use Rattle.world_places.specs.Lives.{Bad, Flying, IsWriting, Leg, LegState, Live, Waiting, Well, runs_at, value_in}
use Rattle.world_places.specs.Tracked.{CutAt, IsAwaited, IsStanding, LegAt, Scene, Sourced, Tracked}

-- ---- what is carried

-- values with Q, however far they have come there, have come as far, where Q fits what is brought
pub record Carries (Fits : (List ℕ → Type 0) → Type 0) (plan : Plan) (told : Record) (plan' : Plan) (told' : Record) (pv sector : ℕ) :
    Type 1 where
  pub only : (Q : List ℕ → Type 0) → Fits Q → OnlyLeaves told pv sector Q → OnlyLeaves told' pv sector Q
  pub completed :
      (Q : List ℕ → Type 0) → Fits Q → OnlyLeavesOrCompleted told pv sector Q → OnlyLeavesOrCompleted told' pv sector Q
  pub comes : (k : ℕ) (Q : List ℕ → Type 0) → Fits Q → Comes plan told pv sector k Q → Comes plan' told' pv sector k Q
  pub marks : (marks_of plan pv).stable ≤ (marks_of plan' pv).stable

-- any Q fits
abbrev pub AnyFits : (List ℕ → Type 0) → Type 0
AnyFits Q = Unit {0}

-- Q fits this value
abbrev pub Has : List ℕ → (List ℕ → Type 0) → Type 0
Has value Q = Q value

module _ (plan : Plan) (told : Record) (pv sector : ℕ) where
  -- nothing is told, and the plan stays
  pub carries_same : Carries AnyFits plan told plan told pv sector
  carries_same = record { only = λ Q fits h. h; completed = λ Q fits h. h; comes = λ k Q fits h. h; marks = omega arith }

  -- writes are forgotten
  pub carries_forgot : (number disk : ℕ) → Carries AnyFits plan told (after_forgot plan number disk) told pv sector
  carries_forgot number disk = record {
    only = λ Q fits h. h;
    completed = λ Q fits h. h;
    comes = λ k Q fits h. record { overtaken = h.overtaken; dropped = h.dropped; stable = h.stable };
    marks = omega arith;
  }

  -- a step that brings nothing there
  pub carries_step : (step : Step) → brings step pv sector ≡ false → Carries AnyFits plan told plan (step_on step told) pv sector
  carries_step step none = record {
    only = λ Q fits h. only_leaves_on told pv sector Q step none h;
    completed = λ Q fits h. or_completed_on told pv sector Q step none h;
    comes = λ k Q fits h. comes_on plan told pv sector k Q step none h;
    marks = omega arith;
  }

  -- a write that is noted
  pub carries_wrote : (number disk : ℕ) → Carries AnyFits plan told (after_wrote plan number disk) told pv sector
  carries_wrote number disk = record {
    only = λ Q fits h. h;
    completed = λ Q fits h. h;
    comes = λ k Q fits h. comes_wrote plan told pv sector k Q number disk h;
    marks = let same = stable_wrote plan number disk pv in omega (arith, same);
  }

  -- a flush that is submitted
  pub carries_asked : (tag disk : ℕ)
      → Carries AnyFits plan told (after_submitted plan disk tag) (step_on (Submitted tag (Flushing disk)) told) pv sector
  carries_asked tag disk = record {
    only = λ Q fits h. only_leaves_on told pv sector Q (Submitted tag (Flushing disk)) refl h;
    completed = λ Q fits h. or_completed_on told pv sector Q (Submitted tag (Flushing disk)) refl h;
    comes = λ k Q fits h. comes_asked plan told pv sector k Q tag disk h;
    marks = omega arith;
  }

  -- one that fails
  pub carries_lost : (tag disk : ℕ) (fresh : List Bool) → IsTrue (is_in_flight plan tag)
      → Carries AnyFits plan told (after_lost plan tag) (step_on (Completed tag (Flushing disk) false fresh) told) pv sector
  carries_lost tag disk fresh flies = record {
    only = λ Q fits h. only_leaves_on told pv sector Q (Completed tag (Flushing disk) false fresh) refl h;
    completed = λ Q fits h. or_completed_on told pv sector Q (Completed tag (Flushing disk) false fresh) refl h;
    comes = λ k Q fits h. comes_lost plan told pv sector k Q tag disk fresh flies h;
    marks = let same = stable_lost plan tag pv in omega (arith, same);
  }

  -- one that completes well
  pub carries_flushed : (tag disk : ℕ) (fresh : List Bool) → IsTrue (is_in_flight plan tag) → (flush_of plan tag).pv ≡ disk
      → disk < length plan.marks
      → Carries AnyFits plan told (after_flushed plan tag) (step_on (Completed tag (Flushing disk) true fresh) told) pv sector
  carries_flushed tag disk fresh flies its within = record {
    only = λ Q fits h. only_leaves_on told pv sector Q (Completed tag (Flushing disk) true fresh) refl h;
    completed = λ Q fits h. or_completed_on told pv sector Q (Completed tag (Flushing disk) true fresh) refl h;
    comes = λ k Q fits h. comes_flushed plan told pv sector k Q tag disk fresh flies its within h;
    marks =
        ⊎_elim
        (λ same.
        let here : (flush_of plan tag).pv ≡ pv = same.1 in
        let mark = stable_flushed plan tag pv here (omega (arith, its, within)) in
        let old : (marks_of plan (flush_of plan tag).pv).stable ≡ (marks_of plan pv).stable =
        ap (λ (d : ℕ). (marks_of plan d).stable) here in
        omega (arith, mark, old))
        (λ other. let kept = stable_elsewhere plan tag pv other.0 in omega (arith, kept))
        (eqb_tells (flush_of plan tag).pv pv);
  }

  -- a write that brings this value there
  pub carries_write : (tag : ℕ) (span : Span) (sectors : List (List ℕ))
      → Carries (Has (value_at span sectors sector)) plan told plan (step_on (Submitted tag (Writing span sectors)) told) pv sector
  carries_write tag span sectors = record {
    only =
        λ Q fits h. record { each = λ write value may. ⊎_elim (λ old. h.each write value old) (λ b. subst Q (sym b.2) fits) may };
    completed = λ Q fits h. new_write told pv sector tag span sectors Q h fits;
    comes = λ k Q fits h. comes_write plan told pv sector k Q tag span sectors fits h;
    marks = omega arith;
  }

-- two after one another
pub carries_both : (plan : Plan) (told : Record) (plan' : Plan) (told' : Record) (plan'' : Plan) (told'' : Record) (pv sector : ℕ)
    → Carries AnyFits plan told plan' told' pv sector → Carries AnyFits plan' told' plan'' told'' pv sector
    → Carries AnyFits plan told plan'' told'' pv sector
carries_both plan told plan' told' plan'' told'' pv sector a b = record {
  only = λ Q fits h. b.only Q tt (a.only Q tt h);
  completed = λ Q fits h. b.completed Q tt (a.completed Q tt h);
  comes = λ k Q fits h. b.comes k Q tt (a.comes k Q tt h);
  marks = let x = a.marks in let y = b.marks in omega (arith, x, y);
}

-- ---- sources

-- a source stays one
pub sourced_map : (g g' : Scene) (based : List ChronicleEntry) (key x : ℕ)
    → ((n : ℕ) (line : Line) → begun_in g.entries n ≡ Some (line, Some key) → begun_in g'.entries n ≡ Some (line, Some key))
    → RealStays g.entries g.lives g'.entries g'.lives key x
    → sector_of (plain_state g'.origin based) key x ≡ sector_of (plain_state g.origin based) key x
    → (v : List ℕ) → Sourced g based key x v → Sourced g' based key x v
sourced_map g g' based key x begun real value v s = at s.0 s.1 s.2
  where
    at : (s : Source) → IsStanding g based key x s → value_from g.origin based key x s ≡ v → Sourced g' based key x v
    at Base is e = (Base, tt, value ∙ e)
    at (ByLine n line) is e = (
      ByLine n line,
      record {
        begun = begun n line is.begun;
        writing = is.writing;
        covers = is.covers;
        unsettled = is.unsettled;
        real = real n is.real;
      },
      e,
    )

-- ---- notes and legs

-- a write is awaited where its note stayed, or lasts
pub waits_on : (g g' : Scene) (place : Place) (x k : ℕ) (e : ChronicleEntry) (older : List ChronicleEntry)
    → (marks_of g.plan place.disk).stable ≤ (marks_of g'.plan place.disk).stable → NotesStay g.written g'.written g'.plan x place
    → (k ≤ (marks_of g.plan place.disk).stable) ⊎ IsAwaited g place x k e older
    → (k ≤ (marks_of g'.plan place.disk).stable) ⊎ IsAwaited g' place x k e older
waits_on g g' place x k e older marks notes (inl le) = inl (omega (arith, le, marks))
waits_on g g' place x k e older marks notes (inr a) =
    ⊎_elim (λ kept. inr (record { note = a.note; kept = kept; its = a.its; noted = a.noted; late = a.late }))
    (λ (le : a.note.place ≤ (marks_of g'.plan place.disk).stable). let late = a.late in inl (omega (arith, le, late)))
    (notes a.note a.kept a.noted)

-- of a write that hasn't come nothing is asked
pub idle_leg : (plan : Plan) (told : Record) (place : Place) (value : List ℕ) (l : Live) (leg : Leg) → IsIdle l leg
    → LegAt plan told place value leg.state
idle_leg plan told place value l leg (inl waits) = subst (λ (s : LegState). LegAt plan told place value s) (sym waits) tt
idle_leg plan told place value l leg (inr bad) = subst (λ (s : LegState). LegAt plan told place value s) (sym bad) tt

-- a leg that stood is as far as that was
pub stood_leg : (plan : Plan) (told : Record) (lives : List Live) (key x : ℕ) (place : Place) (l : Live) (leg : Leg)
    → ((l : Live) (leg : Leg) → IsWriting lives key x place l leg → LegAt plan told place (value_in l x) leg.state)
    → Stood lives key x place l leg → LegAt plan told place (value_in l x) leg.state
stood_leg plan told lives key x place l leg runs s =
    subst (λ (t : LegState). LegAt plan told place (value_in l x) t) s.state
    (subst (λ (v : List ℕ). LegAt plan told place v s.own.state) s.value (runs s.live s.own s.writing))

-- it is carried
leg_carried : (Fits : (List ℕ → Type 0) → Type 0) (plan : Plan) (told : Record) (plan' : Plan) (told' : Record) (place : Place)
    (value : List ℕ) (state : LegState) → Carries Fits plan told plan' told' place.disk place.sector
    → Fits (λ v. v ≡ value) → LegAt plan told place value state → LegAt plan' told' place value state
leg_carried Fits plan told plan' told' place value Waiting c fits h = tt
leg_carried Fits plan told plan' told' place value (Flying tag) c fits h = c.completed (λ v. v ≡ value) fits h
leg_carried Fits plan told plan' told' place value (Well k) c fits h = c.comes k (λ v. v ≡ value) fits h
leg_carried Fits plan told plan' told' place value Bad c fits h = tt

-- ---- places

-- the origin stays what it was for these entries
pub record OriginStays (o o' : Origin) (S : List ChronicleEntry → Type 0) : Type 0 where
  pub plain : (es : List ChronicleEntry) → S es → plain_state o' es ≡ plain_state o es
  pub bears_same : (key x : ℕ) (e : ChronicleEntry) (es : List ChronicleEntry) → S (e ∷ es) → bears o' key x e es ≡ bears o key x e es
  pub base_same :
      (all : List ChronicleEntry) (key x : ℕ) (es : List ChronicleEntry) → S es
      → base_from o' all false key x es ≡ base_from o all false key x es
  pub base_of :
      (all : List ChronicleEntry) (flushed : Bool) (key x : ℕ) (es : List ChronicleEntry) → S es → S (base_from o all flushed key x es)
  pub tail : (e : ChronicleEntry) (es : List ChronicleEntry) → S (e ∷ es) → S es

-- each leg there stood, with a value that fits, or is as far as it says
abbrev pub Leads : ((List ℕ → Type 0) → Type 0) → Scene → Scene → ℕ → ℕ → Place → Type 0
Leads Fits g g' key x place =
    (l : Live) (leg : Leg) → IsWriting g'.lives key x place l leg
    → (Stood g.lives key x place l leg × Fits (λ v. v ≡ value_in l x)) ⊎ LegAt g'.plan g'.origin.told place (value_in l x) leg.state

-- a change without an entry keeps the place tracked
pub tracked_carried : (Fits : (List ℕ → Type 0) → Type 0) (g g' : Scene) (key x : ℕ) (place : Place) (S : List ChronicleEntry → Type 0)
    → g'.entries ≡ g.entries → OriginStays g.origin g'.origin S → S g.entries
    → Carries Fits g.plan g.origin.told g'.plan g'.origin.told place.disk place.sector
    → ((based : List ChronicleEntry) → S based → Fits (Sourced g' based key x))
    → RealStays g.entries g.lives g.entries g'.lives key x → Leads Fits g g' key x place → NotesStay g.written g'.written g'.plan x place
    → Tracked g key x place → Tracked g' key x place
tracked_carried Fits g g' key x place S same stays are carries fits real leads notes h =
    let up : (based : List ChronicleEntry) → S based → (v : List ℕ) → Sourced g based key x v → Sourced g' based key x v =
    λ based s. sourced_map g g' based key x (λ n line b. ap (λ (l : List ChronicleEntry). begun_in l n) same ∙ b)
    (λ n r. subst (λ (l : List ChronicleEntry). (settled_at l n key x || runs_at g'.lives n key x) ≡ true) (sym same) (real n r))
    (ap (λ (p : PlainState). sector_of p key x) (stays.plain based s)) in
    let its : S (base g.origin g.entries key x) = stays.base_of g.entries false key x g.entries are in
    let moved : base g'.origin g'.entries key x ≡ base g.origin g.entries key x =
    ap (λ (l : List ChronicleEntry). base g'.origin l key x) same ∙ stays.base_same g.entries key x g.entries are in
    record {
      holds =
          subst (λ (b : List ChronicleEntry). OnlyLeaves g'.origin.told place.disk place.sector (Sourced g' b key x)) (sym moved)
          (carries.only (Sourced g' (base g.origin g.entries key x) key x) (fits (base g.origin g.entries key x) its)
          (only_map g.origin.told place.disk place.sector (Sourced g (base g.origin g.entries key x) key x)
          (Sourced g' (base g.origin g.entries key x) key x) (up (base g.origin g.entries key x) its) h.holds));
      cuts =
          subst (λ (l : List ChronicleEntry). EachCut (CutAt g' place key x) g'.origin key x l) (sym same)
          (each_cut_map g.origin g'.origin key x S (CutAt g place key x) (CutAt g' place key x) stays.tail g.entries are
          (stays.bears_same key x)
          (λ e older s w c. record {
            mark = c.mark;
            comes =
                carries.comes c.mark (Sourced g' (e ∷ older) key x) (fits (e ∷ older) s)
                (comes_map g.plan g.origin.told place.disk place.sector c.mark (Sourced g (e ∷ older) key x)
                (Sourced g' (e ∷ older) key x) (up (e ∷ older) s) c.comes);
            waits = waits_on g g' place x c.mark e older carries.marks notes c.waits;
          }) h.cuts);
      runs =
          λ l leg w. ⊎_elim
          (λ old. leg_carried Fits g.plan g.origin.told g'.plan g'.origin.told place (value_in l x) leg.state carries old.1
          (stood_leg g.plan g.origin.told g.lives key x place l leg h.runs old.0))
          (λ new. new)
          (leads l leg w);
    }
