-- What is tracked stays so where a plan has other writes to ask for, or more that is spare: its marks and flushes are the same.
use Rattle.std.proofs.Common.{◌≡◌, ◌≤◌, ℕ, Bool, true, false, List, [], ◌∷◌, inl, inr, ⊎_elim}
use Rattle.std.proofs.lemmas.List.Elements.{All-weaker}
use Rattle.disk_model.specs.Durability.{OnlyLeavesOrDropped}
use Rattle.disk_model.specs.Steps.{Record}
use Rattle.flush_plan.specs.declared.records.Flush.{Flush}
use Rattle.flush_plan.specs.declared.records.Write.{Write}
use Rattle.flush_plan.specs.Plans.{Plan}
use Rattle.volume_history.specs.Candidates.{base, bears, is_write}
use Rattle.volume_history.specs.Chronicles.{ChronicleEntry, Origin}
use Rattle.volume_history.specs.Cuts.{EachCut, Unless}
use Rattle.volume_history.specs.Placed.{Place}
use Rattle.volume_history.specs.Sources.{Base, ByLine, Source}
use Rattle.world_places.specs.Comings.{Comes}
use Rattle.world_places.specs.Lives.{Bad, Flying, LegState, Waiting, Well, value_in}
use Rattle.world_places.specs.Tracked.{CutAt, IsAwaited, IsStanding, LegAt, Scene, Sourced, Tracked}

-- ---- what holds of each cut

each_cut : (P Q : ChronicleEntry → List ChronicleEntry → Type 0) (o : Origin) (key x : ℕ)
    → ((e : ChronicleEntry) (es : List ChronicleEntry) → P e es → Q e es) → (es : List ChronicleEntry) → EachCut P o key x es
    → EachCut Q o key x es
each_cut P Q o key x leads [] cuts = tt
each_cut P Q o key x leads (e ∷ es) cuts = by (bears o key x e es) (λ older. each_cut P Q o key x leads es older) cuts
  where
    by : (b : Bool) → (EachCut P o key x es → EachCut Q o key x es)
        → Unless b ((is_write key x e es ≡ true → P e es) × EachCut P o key x es)
        → Unless b ((is_write key x e es ≡ true → Q e es) × EachCut Q o key x es)
    by true older cuts = tt
    by false older cuts = (λ is. leads e es (cuts.0 is), older cuts.1)

-- ---- the plan

-- with other writes to ask for, and other rooms
abbrev pub respared : Plan → List (Write × ℕ) → ℕ → ℕ → Plan
respared plan last spare flushes = record plan { last = last; spare = spare; spare_flushes = flushes }

-- values that come, of a kind that leads to another
comes_as : (plan : Plan) (last : List (Write × ℕ)) (spare flushes : ℕ) (told : Record) (pv sector k : ℕ) (P Q : List ℕ → Type 0)
    → ((v : List ℕ) → P v → Q v) → Comes plan told pv sector k P → Comes (respared plan last spare flushes) told pv sector k Q
comes_as plan last spare flushes told pv sector k P Q leads c = record {
  overtaken = record {
    each = λ write value may. ⊎_elim (λ has. inl (leads value has)) (λ over. inr over) (c.overtaken.each write value may);
  };
  dropped =
      All-weaker (λ (f : Flush). f.pv ≡ pv → k ≤ f.after → OnlyLeavesOrDropped told f.tag pv sector P)
      (λ (f : Flush). f.pv ≡ pv → k ≤ f.after → OnlyLeavesOrDropped told f.tag pv sector Q)
      (λ f drops own late. record {
        each =
            λ write value may. ⊎_elim (λ has. inl (leads value has)) (λ over. inr over) ((drops own late).each write value may);
      })
      plan.flushes c.dropped;
  stable = λ late. record { each = λ write value may. leads value ((c.stable late).each write value may) };
}

module _ (g : Scene) (last : List (Write × ℕ)) (spare flushes : ℕ) where
  abbrev then : Scene
  then = record g { plan = respared g.plan last spare flushes }

  stands_then : (based : List ChronicleEntry) (key x : ℕ) (s : Source) → IsStanding g based key x s → IsStanding then based key x s
  stands_then based key x Base is = tt
  stands_then based key x (ByLine n line) is = record {
    begun = is.begun;
    writing = is.writing;
    covers = is.covers;
    unsettled = is.unsettled;
    real = is.real;
  }

  sourced_then : (based : List ChronicleEntry) (key x : ℕ) (v : List ℕ) → Sourced g based key x v → Sourced then based key x v
  sourced_then based key x v s = (s.0, stands_then based key x s.0 s.1, s.2)

  leg_then : (place : Place) (value : List ℕ) (state : LegState) → LegAt g.plan g.origin.told place value state
      → LegAt (respared g.plan last spare flushes) g.origin.told place value state
  leg_then place value Waiting is = tt
  leg_then place value (Flying tag) is = is
  leg_then place value (Well k) is =
      comes_as g.plan last spare flushes g.origin.told place.disk place.sector k (λ v. v ≡ value) (λ v. v ≡ value) (λ v e. e) is
  leg_then place value Bad is = tt

  pub tracked_spare : (key x : ℕ) (place : Place) → Tracked g key x place
      → Tracked (record g { plan = respared g.plan last spare flushes }) key x place
  tracked_spare key x place t = record {
    holds = record {
      each = λ write value may. sourced_then (base g.origin g.entries key x) key x value (t.holds.each write value may);
    };
    cuts =
        each_cut (CutAt g place key x) (CutAt then place key x) g.origin key x
        (λ e older cut. record {
          mark = cut.mark;
          comes =
              comes_as g.plan last spare flushes g.origin.told place.disk place.sector cut.mark (Sourced g (e ∷ older) key x)
              (Sourced then (e ∷ older) key x) (λ v s. sourced_then (e ∷ older) key x v s) cut.comes;
          waits =
              ⊎_elim (λ lasts. inl lasts)
              (λ (is : IsAwaited g place x cut.mark e older).
              inr (record { note = is.note; kept = is.kept; its = is.its; noted = is.noted; late = is.late }))
              cut.waits;
        })
        g.entries t.cuts;
    runs = λ l leg w. leg_then place (value_in l x) leg.state (t.runs l leg w);
  }
