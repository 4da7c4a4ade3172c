-- Of the plan only its marks and its flushes matter at a place.
use Rattle.std.proofs.Common.{◌∷◌, ◌≡◌, ◌≤◌, ◌⊎◌, ℕ, [], All, Bool, List, ap, arith, false, get_or, inl, inr, subst, sym, true, ⊎_elim}
use Rattle.disk_model.specs.Durability.{OnlyLeaves, OnlyLeavesOrDropped}
use Rattle.disk_model.specs.Steps.{Record}
use Rattle.flush_plan.specs.Plans.{Plan, marks_of, no_marks}
use Rattle.flush_plan.specs.declared.records.Flush.{Flush}
use Rattle.flush_plan.specs.declared.records.Marks.{Marks}
use Rattle.volume_history.specs.Candidates.{base, bears, is_write}
use Rattle.volume_history.specs.Chronicles.{ChronicleEntry, Origin}
use Rattle.volume_history.specs.Cuts.{EachCut, Unless}
use Rattle.volume_history.specs.Placed.{Place}
use Rattle.volume_history.specs.Sources.{Base, ByLine, Source, value_from}
use Rattle.world_places.specs.Comings.{Comes}
use Rattle.world_places.specs.Lives.{Bad, Flying, LegState, Waiting, Well, value_in}
use Rattle.world_places.specs.Tracked.{CutAt, IsAwaited, IsStanding, LegAt, Scene, Sourced, Tracked}

-- ---- other values

only_map : (told : Record) (pv sector : ℕ) (Q Q' : List ℕ → Type 0) → ((v : List ℕ) → Q v → Q' v) → OnlyLeaves told pv sector Q
    → OnlyLeaves told pv sector Q'
only_map told pv sector Q Q' up h = record { each = λ write value may. up value (h.each write value may) }

-- values that have come have so by another plan with the same marks and flushes
comes_map : (plan plan' : Plan) (told : Record) (pv sector k : ℕ) (Q Q' : List ℕ → Type 0) → plan'.marks ≡ plan.marks
    → plan'.flushes ≡ plan.flushes → ((v : List ℕ) → Q v → Q' v) → Comes plan told pv sector k Q → Comes plan' told pv sector k Q'
comes_map plan plan' told pv sector k Q Q' marks flushes up h = record {
  overtaken = record { each = λ write value may. ⊎_elim (λ a. inl (up value a)) (λ b. inr b) (h.overtaken.each write value may) };
  dropped =
      subst (λ (fs : List Flush). All (λ (f : Flush). f.pv ≡ pv → k ≤ f.after → OnlyLeavesOrDropped told f.tag pv sector Q') fs)
      (sym flushes)
      (λ i d lt at le. record {
        each = λ write value may. ⊎_elim (λ a. inl (up value a)) (λ b. inr b) ((h.dropped i d lt at le).each write value may);
      });
  stable =
      λ le. only_map told pv sector Q Q' up (h.stable (subst (λ (ms : List Marks). k ≤ (get_or ms pv no_marks).stable) marks le));
}

-- what holds of each write of a sector
cut_map : (Q Q' : ChronicleEntry → List ChronicleEntry → Type 0) (o : Origin) (key x : ℕ)
    → ((e : ChronicleEntry) (older : List ChronicleEntry) → Q e older → Q' e older) → (es : List ChronicleEntry) → EachCut Q o key x es
    → EachCut Q' o key x es
cut_map Q Q' o key x up [] h = tt
cut_map Q Q' o key x up (e ∷ es) h = at (bears o key x e es) (cut_map Q Q' o key x up es) h
  where
    at : (b : Bool) → (EachCut Q o key x es → EachCut Q' o key x es)
        → Unless b ((is_write key x e es ≡ true → Q e es) × EachCut Q o key x es)
        → Unless b ((is_write key x e es ≡ true → Q' e es) × EachCut Q' o key x es)
    at true rest h = tt
    at false rest h = (λ is. up e es (h.0 is), rest h.1)

-- ---- another plan

module _ (g : Scene) (plan : Plan) (marks : plan.marks ≡ g.plan.marks) (flushes : plan.flushes ≡ g.plan.flushes) (key x : ℕ) (place : Place)
  where
    abbrev g' : Scene
    g' = record g { plan = plan }

    sourced : (based : List ChronicleEntry) (v : List ℕ) → Sourced g based key x v → Sourced g' based key x v
    sourced based v s = at s.0 s.1 s.2
      where
        at : (s : Source) → IsStanding g based key x s → value_from g.origin based key x s ≡ v → Sourced g' based key x v
        at Base is e = (Base, tt, e)
        at (ByLine n line) is e = (
          ByLine n line,
          record { begun = is.begun; writing = is.writing; covers = is.covers; unsettled = is.unsettled; real = is.real },
          e,
        )

    stable : (marks_of plan place.disk).stable ≡ (marks_of g.plan place.disk).stable
    stable = ap (λ (ms : List Marks). (get_or ms place.disk no_marks).stable) marks

    leg : (value : List ℕ) (state : LegState) → LegAt g.plan g.origin.told place value state → LegAt plan g.origin.told place value state
    leg value Waiting h = tt
    leg value (Flying tag) h = h
    leg value (Well k) h =
        comes_map g.plan plan g.origin.told place.disk place.sector k (λ v. v ≡ value) (λ v. v ≡ value) marks flushes (λ v is. is) h
    leg value Bad h = tt

    waits : (k : ℕ) (e : ChronicleEntry) (older : List ChronicleEntry)
        → (k ≤ (marks_of g.plan place.disk).stable) ⊎ IsAwaited g place x k e older
        → (k ≤ (marks_of plan place.disk).stable) ⊎ IsAwaited g' place x k e older
    waits k e older (inl le) = inl (let same = stable in omega (arith, le, same))
    waits k e older (inr a) = inr (record { note = a.note; kept = a.kept; its = a.its; noted = a.noted; late = a.late })

    -- where the marks and the flushes are the same, the place is tracked as before
    pub tracked_replanned : Tracked g key x place → Tracked (record g { plan = plan }) key x place
    tracked_replanned h = record {
      holds =
          only_map g.origin.told place.disk place.sector (Sourced g (base g.origin g.entries key x) key x)
          (Sourced g' (base g.origin g.entries key x) key x) (sourced (base g.origin g.entries key x)) h.holds;
      cuts =
          cut_map (CutAt g place key x) (CutAt g' place key x) g.origin key x
          (λ e older c. record {
            mark = c.mark;
            comes =
                comes_map g.plan plan g.origin.told place.disk place.sector c.mark (Sourced g (e ∷ older) key x)
                (Sourced g' (e ∷ older) key x) marks flushes (sourced (e ∷ older)) c.comes;
            waits = waits c.mark e older c.waits;
          }) g.entries h.cuts;
      runs = λ l own w. leg (value_in l x) own.state (h.runs l own w);
    }
