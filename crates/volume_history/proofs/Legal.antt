-- One lawful entry more keeps a legal history.
use Rattle.std.proofs.Common.{◌≡◌, ◌≤◌, ℕ, suc, ◌-◌, List, [], ◌∷◌, length, drop, sym, ap, subst, arith}
use Rattle.disk_model.specs.Steps.{Step}
use Rattle.volume_history.specs.Chronicles.{AreUpto, Chronicle, ChronicleEntry, Origin, moment_of, origin_at, origin_on, with_entry}
use Rattle.volume_history.specs.Chronicles.{with_step}
use Rattle.volume_history.specs.Legal.{AllFaithful, AllOrdered, FindsNow, IsFaithful, IsLegalHistory, IsOrdered, last_moment}

pub legal_append : (e : ChronicleEntry) (c : Chronicle)
    → IsLegalHistory c → IsOrdered c.origin.start c.entries e → IsFaithful (origin_at (moment_of e) c.origin) c.entries e
    → moment_of e ≤ length c.origin.told.steps → IsLegalHistory (with_entry e c)
legal_append e c legal ordered faithful by = record {
  from = legal.from;
  opening = legal.opening;
  told = by;
  ordered = (ordered, legal.ordered);
  faithful = (faithful, legal.faithful);
}

-- so does a step more that is told
pub origin_stays : (step : Step) (o : Origin) (moment : ℕ) → moment ≤ length o.told.steps
    → origin_at moment (origin_on step o) ≡ origin_at moment o
origin_stays step o moment le =
    let e : suc (length o.told.steps) - moment ≡ suc (length o.told.steps - moment) = omega arith in
    ap (λ (k : ℕ). record o { told = record { opened = o.told.opened; steps = drop k (step ∷ o.told.steps) } }) e

faithful_stays : (step : Step) (o : Origin) (es : List ChronicleEntry) → AreUpto (length o.told.steps) es
    → AllFaithful o es → AllFaithful (origin_on step o) es
faithful_stays step o [] are all = tt
faithful_stays step o (e ∷ es) are all =
    (subst (λ (p : Origin). IsFaithful p es e) (sym (origin_stays step o (moment_of e) are.0)) all.0, faithful_stays step o es are.1 all.1)

-- the entries of an ordered history are up to the newest's moment
ordered_upto : (start moment : ℕ) (es : List ChronicleEntry) → last_moment start es ≤ moment → AllOrdered start es → AreUpto moment es
ordered_upto start moment [] le all = tt
ordered_upto start moment (e ∷ es) le all = (le, ordered_upto start moment es (omega (arith, all.0.moments, le)) all.1)

starts_by : (start : ℕ) (es : List ChronicleEntry) → AllOrdered start es → start ≤ last_moment start es
starts_by start [] all = omega arith
starts_by start (e ∷ es) all = omega (arith, starts_by start es all.1, all.0.moments)

pub legal_step : (step : Step) (c : Chronicle) → IsLegalHistory c → IsLegalHistory (with_step step c)
legal_step step c legal =
    let by : c.origin.start ≤ length c.origin.told.steps = omega (arith, starts_by c.origin.start c.entries legal.ordered, legal.told) in
    record {
      from = legal.from;
      opening =
          subst (λ (p : Origin). FindsNow p [] c.origin.start c.origin.version) (sym (origin_stays step c.origin c.origin.start by))
          legal.opening;
      told = omega (arith, legal.told);
      ordered = legal.ordered;
      faithful =
          faithful_stays step c.origin c.entries (ordered_upto c.origin.start (length c.origin.told.steps) c.entries legal.told
          legal.ordered) legal.faithful;
    }
