-- Where a place begins to be tracked, and what follows where it is.
use Rattle.std.proofs.Common.{◌≡◌, ◌⊎◌, ℕ, ◌==◌, ◌&&◌, ◌||◌, Bool, true, false, not, if◌then◌else◌, List, [], ◌∷◌, Contains, Option, Some}
use Rattle.std.proofs.Common.{None, inl, inr, ⊎_elim, refl, sym, ap, subst, ◌∙◌, arith}
use Rattle.std.proofs.lemmas.Bool.{or_left}
use Rattle.std.proofs.lemmas.List.Elements.{Contains-append_left, Contains-append_right, Contains-push}
use Rattle.list_laws.proofs.Bools.{and_cases, eq_of, or_cases}
use Rattle.line_answers.specs.declared.answer.Answer.{Answer}
use Rattle.disk_model.specs.Durability.{OnlyLeaves}
use Rattle.line_table.specs.Machine.{sector_of}
use Rattle.volume_history.proofs.Bases.{base_unsettled, each_cut_from, each_cut_map, unsettled_older}
use Rattle.volume_history.specs.Candidates.{base, base_from, bears, is_acked, is_flush_of, is_write, never_came}
use Rattle.volume_history.specs.Chronicles.{ChronicleEntry, answer_in, has_answer, is_answered, settled_at}
use Rattle.volume_history.specs.Commands.{is_refused}
use Rattle.volume_history.specs.Cuts.{EachCut, Unless}
use Rattle.volume_history.specs.Parts.{PlaceHolds}
use Rattle.volume_history.specs.Placed.{Place}
use Rattle.volume_history.specs.Replay.{plain_state}
use Rattle.volume_history.specs.Sources.{Base, ByLine, HasSourceFrom, IsSourceFrom, Source, value_from}
use Rattle.world_places.proofs.Carried.{idle_leg}
use Rattle.world_places.proofs.Coming.{only_map}
use Rattle.world_places.specs.Changes.{AreIdle}
use Rattle.world_places.specs.Comings.{Comes}
use Rattle.world_places.specs.Lives.{Live, runs_at, value_in, writes_now}
use Rattle.world_places.specs.Steady.{AreSteady, Settles}
use Rattle.world_places.specs.Tracked.{AreLive, CutAt, IsStanding, Scene, Sourced, Tracked}

-- ---- a tracked place is one that histories ask for

-- a started piece of the line that runs there
record Runs (lives : List Live) (n key x : ℕ) : Type 0 where
  live : Live
  among : Contains lives live
  its : live.line ≡ n
  writing : writes_now live key x ≡ true

runs_found : (lives : List Live) (n key x : ℕ) → runs_at lives n key x ≡ true → Runs lives n key x
runs_found [] n key x h = cc
runs_found (l ∷ ls) n key x h =
    ⊎_elim
    (λ here. let p = and_cases (l.line == n) (writes_now l key x) here in
    record { live = l; among = Contains-append_left (l ∷ []) ls l (Contains-push [] l); its = eq_of l.line n p.0; writing = p.1 })
    (λ later. let r = runs_found ls n key x later in
    record { live = r.live; among = Contains-append_right (l ∷ []) ls r.live r.among; its = r.its; writing = r.writing })
    (or_cases ((l.line == n) && writes_now l key x) (runs_at ls n key x) h)

-- a line that is settled there, or runs there, has come
came : (g : Scene) (key x n : ℕ) → AreLive g key x → (settled_at g.entries n key x || runs_at g.lives n key x) ≡ true
    → never_came g.entries n key x ≡ false
came g key x n lives real =
    ⊎_elim (λ s. by_settled (has_answer is_refused (answer_in g.entries n)) (settled_at g.entries n key x) s)
    (λ r. let f = runs_found g.lives n key x r in
    let open' : is_answered g.entries n ≡ false =
    ap (λ (i : ℕ). is_answered g.entries i) (sym f.its) ∙ (lives f.live f.among f.writing).unanswered in
    by_open (answer_in g.entries n) (settled_at g.entries n key x) open')
    (or_cases (settled_at g.entries n key x) (runs_at g.lives n key x) real)
  where
    by_settled : (a s : Bool) → s ≡ true → (a && not s) ≡ false
    by_settled true true e = refl
    by_settled false true e = refl
    by_settled a false e = cc

    by_open : (r : Option (ℕ × Answer)) (s : Bool) → has_answer (λ a. true) r ≡ false → (has_answer is_refused r && not s) ≡ false
    by_open None s e = refl
    by_open (Some a) s e = cc

-- each value that may be left there has a source no older than the sector's base
pub place_of_tracked : (g : Scene) (key x : ℕ) (place : Place) → AreLive g key x → Tracked g key x place
    → PlaceHolds g.origin g.entries key x place
place_of_tracked g key x place lives h =
    only_map g.origin.told place.disk place.sector (Sourced g (base g.origin g.entries key x) key x)
    (HasSourceFrom g.origin g.entries (base g.origin g.entries key x) key x) (λ v s. at v s.0 s.1 s.2) h.holds
  where
    at : (v : List ℕ) (s : Source) → IsStanding g (base g.origin g.entries key x) key x s
        → value_from g.origin (base g.origin g.entries key x) key x s ≡ v
        → (s' : Source) × IsSourceFrom g.entries (base g.origin g.entries key x) key x s'
        × (value_from g.origin (base g.origin g.entries key x) key x s' ≡ v)
    at v Base is e = (Base, tt, e)
    at v (ByLine n line) is e = (
      ByLine n line,
      record {
        begun = is.begun;
        writing = is.writing;
        covers = is.covers;
        unsettled = is.unsettled;
        came = came g key x n lives is.real;
      },
      e,
    )

-- ---- where it begins, before a write of the sector has come there

-- at opening
pub tracked_at_open : (g : Scene) (key x : ℕ) (place : Place) → g.entries ≡ [] → AreIdle g.lives key x place
    → OnlyLeaves g.origin.told place.disk place.sector (λ v. v ≡ sector_of (plain_state g.origin []) key x) → Tracked g key x place
tracked_at_open g key x place none idle only = record {
  holds =
      subst (λ (es : List ChronicleEntry). OnlyLeaves g.origin.told place.disk place.sector (Sourced g (base g.origin es key x) key x))
      (sym none)
      (only_map g.origin.told place.disk place.sector (λ v. v ≡ sector_of (plain_state g.origin []) key x) (Sourced g [] key x)
      (λ v e. (Base, tt, sym e)) only);
  cuts = subst (λ (es : List ChronicleEntry). EachCut (CutAt g place key x) g.origin key x es) (sym none) tt;
  runs = λ l leg w. idle_leg g.plan g.origin.told place (value_in l x) l leg (idle l leg w);
}

-- at the sector's birth
pub tracked_at_birth : (g : Scene) (key x : ℕ) (place : Place) (e : ChronicleEntry) (es : List ChronicleEntry) → g.entries ≡ e ∷ es
    → bears g.origin key x e es ≡ true → AreIdle g.lives key x place
    → OnlyLeaves g.origin.told place.disk place.sector (λ v. v ≡ sector_of (plain_state g.origin (e ∷ es)) key x)
    → Tracked g key x place
tracked_at_birth g key x place e es same born idle only = record {
  holds =
      subst (λ (l : List ChronicleEntry). OnlyLeaves g.origin.told place.disk place.sector (Sourced g (base g.origin l key x) key x))
      (sym same)
      (subst (λ (b : Bool). OnlyLeaves g.origin.told place.disk place.sector
      (Sourced g (if b || (is_write key x e es && is_acked (e ∷ es) false e es) then e ∷ es
      else base_from g.origin (e ∷ es) (false || is_flush_of (e ∷ es) key e) key x es) key x)) (sym born)
      (only_map g.origin.told place.disk place.sector (λ v. v ≡ sector_of (plain_state g.origin (e ∷ es)) key x)
      (Sourced g (e ∷ es) key x) (λ v own. (Base, tt, sym own)) only));
  cuts =
      subst (λ (l : List ChronicleEntry). EachCut (CutAt g place key x) g.origin key x l) (sym same)
      (subst (λ (b : Bool). Unless b ((is_write key x e es ≡ true → CutAt g place key x e es)
      × EachCut (CutAt g place key x) g.origin key x es)) (sym born) tt);
  runs = λ l leg w. idle_leg g.plan g.origin.told place (value_in l x) l leg (idle l leg w);
}

-- ---- what the machine has, has a source that is no older than any write

module _ (g : Scene) (key x : ℕ) where
  -- what the machine has after these entries
  abbrev had : List ChronicleEntry → List ℕ
  had es = sector_of (plain_state g.origin es) key x

  -- it has a source by each write among these entries, and by the base
  abbrev SourcedBy : List ChronicleEntry → List ChronicleEntry → List ℕ → Type 0
  SourcedBy es based value = EachCut (λ e older. Sourced g (e ∷ older) key x value) g.origin key x es × Sourced g based key x value

  -- a line that an entry settles is a source of its value, by any entries that don't settle it
  settles_sourced : (value : List ℕ) (older based : List ChronicleEntry) (s : Settles g.entries key x value older)
      → settled_at based s.number key x ≡ false → Sourced g based key x value
  settles_sourced value older based s none = (
    ByLine s.number s.line,
    record {
      begun = s.begun;
      writing = s.writing;
      covers = s.covers;
      unsettled = none;
      real = or_left (settled_at g.entries s.number key x) (runs_at g.lives s.number key x) s.settled;
    },
    s.brings,
  )

  -- an older entry's writes and base have the value of a newer one as a source
  sourced_on : (e : ChronicleEntry) (es based : List ChronicleEntry)
      → ((n : ℕ) → settled_at es n key x ≡ false → settled_at based n key x ≡ false)
      → (had (e ∷ es) ≡ had es) ⊎ Settles g.entries key x (had (e ∷ es)) es → SourcedBy es based (had es)
      → SourcedBy es based (had (e ∷ es))
  sourced_on e es based unsettled (inl same) old = subst (λ (v : List ℕ). SourcedBy es based v) (sym same) old
  sourced_on e es based unsettled (inr s) old = (
    each_cut_from g.origin key x (λ (l : List ChronicleEntry). settled_at l s.number key x ≡ false)
        (λ c older. Sourced g (c ∷ older) key x (had (e ∷ es))) (λ c older none. unsettled_older c older key x s.number none)
        (λ c older none w. settles_sourced (had (e ∷ es)) es (c ∷ older) s none) es s.unsettled,
    settles_sourced (had (e ∷ es)) es based s (unsettled s.number s.unsettled),
  )

  machine_sourced : (all : List ChronicleEntry) (flushed : Bool) (es : List ChronicleEntry) → AreSteady g.origin g.entries key x es
      → SourcedBy es (base_from g.origin all flushed key x es) (had es)
  machine_sourced all flushed [] steady = (tt, (Base, tt, refl))
  machine_sourced all flushed (e ∷ es) steady =
      at (bears g.origin key x e es) steady (machine_sourced all (flushed || is_flush_of all key e) es)
      (sourced_on e es (base_from g.origin all (flushed || is_flush_of all key e) key x es)
      (λ n none. base_unsettled g.origin all (flushed || is_flush_of all key e) key x n key x es none))
    where
      -- an entry that is the base, or none
      base_of : (t : Bool) (based : List ChronicleEntry) → Sourced g based key x (had (e ∷ es))
          → Sourced g (if t then e ∷ es else based) key x (had (e ∷ es))
      base_of true based old = (Base, tt, refl)
      base_of false based old = old

      at : (b : Bool)
          → Unless b (((had (e ∷ es) ≡ had es) ⊎ Settles g.entries key x (had (e ∷ es)) es) × AreSteady g.origin g.entries key x es)
          → (AreSteady g.origin g.entries key x es
          → SourcedBy es (base_from g.origin all (flushed || is_flush_of all key e) key x es) (had es))
          → ((had (e ∷ es) ≡ had es) ⊎ Settles g.entries key x (had (e ∷ es)) es
          → SourcedBy es (base_from g.origin all (flushed || is_flush_of all key e) key x es) (had es)
          → SourcedBy es (base_from g.origin all (flushed || is_flush_of all key e) key x es) (had (e ∷ es)))
          → Unless b ((is_write key x e es ≡ true → Sourced g (e ∷ es) key x (had (e ∷ es)))
          × EachCut (λ c older. Sourced g (c ∷ older) key x (had (e ∷ es))) g.origin key x es)
          × Sourced g (if b || (is_write key x e es && is_acked all flushed e es) then e ∷ es
          else base_from g.origin all (flushed || is_flush_of all key e) key x es) key x (had (e ∷ es))
      at true h rest on = (tt, (Base, tt, refl))
      at false h rest on =
          let r = on h.0 (rest h.1) in (
            (λ w. (Base, tt, refl), r.0),
            base_of (is_write key x e es && is_acked all flushed e es)
                (base_from g.origin all (flushed || is_flush_of all key e) key x es) r.1,
          )

  -- a place whose only possible value is what the machine has is tracked, where no write of the sector has come there
  module _ (place : Place) where
    lasting : (Q : List ℕ → Type 0) → OnlyLeaves g.origin.told place.disk place.sector Q
        → Comes g.plan g.origin.told place.disk place.sector 0 Q
    lasting Q lasts = record {
      overtaken = record { each = λ write value may. inl (lasts.each write value may) };
      dropped = λ i d lt at le. record { each = λ write value may. inl (lasts.each write value may) };
      stable = λ le. lasts;
    }

    pub tracked_by_now : AreSteady g.origin g.entries key x g.entries → AreIdle g.lives key x place
        → OnlyLeaves g.origin.told place.disk place.sector (λ v. v ≡ sector_of (plain_state g.origin g.entries) key x)
        → Tracked g key x place
    tracked_by_now steady idle only =
        let m = machine_sourced g.entries false g.entries steady in
        let all : (based : List ChronicleEntry) → Sourced g based key x (had g.entries)
        → OnlyLeaves g.origin.told place.disk place.sector (Sourced g based key x) =
        λ based s. only_map g.origin.told place.disk place.sector (λ v. v ≡ had g.entries) (Sourced g based key x)
        (λ v own. subst (λ (u : List ℕ). Sourced g based key x u) (sym own) s) only in
        record {
          holds = all (base g.origin g.entries key x) m.1;
          cuts =
              each_cut_map g.origin g.origin key x (λ (es : List ChronicleEntry). Unit {0})
              (λ e older. Sourced g (e ∷ older) key x (had g.entries)) (CutAt g place key x) (λ e older s. tt) g.entries tt
              (λ e older s. refl)
              (λ e older s w c. record {
                mark = 0;
                comes = lasting (Sourced g (e ∷ older) key x) (all (e ∷ older) c);
                waits = inl (omega arith);
              }) m.0;
          runs = λ l leg w. idle_leg g.plan g.origin.told place (value_in l x) l leg (idle l leg w);
        }
