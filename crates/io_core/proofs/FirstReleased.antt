-- What comes back of the first that is released, and whether what it waited for lasts.
use Rattle.std.proofs.Common.{◌≡◌, ◌≤◌, ◌<◌, ℕ, Bool, false, cond, nat_le, Option, None, Some, IfSome, inr, option_map, refl, sym, ap}
use Rattle.std.proofs.Common.{subst, ◌∙◌, arith}
use Rattle.std.proofs.lemmas.Bool.{le-leb, leb-false}
use Rattle.std.proofs.lemmas.Option.{none-some, same_Some}
use Rattle.flush_plan.specs.Plans.{flight_of, marks_of}
use Rattle.flush_waits.specs.declared.ticket.Waiter.{Waiter}
use Rattle.flush_waits.specs.declared.ticket.Waiting.{Waiting}
use Rattle.flush_waits.specs.declared.waits.Awaited.{Awaited}
use Rattle.flush_waits.specs.declared.waits.Awaited.TheVariants.{Lost, Served, Stable, Unserved}
use Rattle.flush_waits.specs.Waits.{awaited, serves}
use Rattle.world_acts.specs.declared.state.Core.{Core}
use Rattle.world_acts.specs.Acts.{IsLost, line_of_waiter, line_released, released_at}
use Rattle.io_core.specs.Rest.{first_released}

-- up to this place at the most
abbrev pub IsUpTo : ℕ → Waiting → Type 0
IsUpTo to it = it.place ≤ to

-- whether the first is up to what lasts
abbrev pub StandsTo : Core → ℕ → Bool → Waiting → Type 0
StandsTo c pv b it = nat_le it.place (marks_of c.waits.plan pv).stable ≡ b

-- its line, and whether that lasts
abbrev seen_of : Core → ℕ → Waiting → ℕ × Bool
seen_of c pv w = (line_of_waiter c w.waiter, nat_le w.place (marks_of c.waits.plan pv).stable)

pub first_line : (c : Core) (pv line : ℕ) (b : Bool) → Some (line, b) ≡ first_released c pv → Some line ≡ line_released c pv
first_line c pv line b is = by (released_at c pv) is
  where
    by : (x : Option Waiting) → Some (line, b) ≡ option_map (seen_of c pv) x
        → Some line ≡ option_map (λ (w : Waiting). line_of_waiter c w.waiter) x
    by None is = let own : ℕ × Bool = (line, b) in absurd (none-some own (sym is))
    by (Some it) is = ap (λ (x : Option (ℕ × Bool)). option_map (λ (y : ℕ × Bool). y.0) x) is

pub first_stands : (c : Core) (pv line : ℕ) (b : Bool) → Some (line, b) ≡ first_released c pv → IfSome (released_at c pv) (StandsTo c pv b)
first_stands c pv line b is = by (released_at c pv) is
  where
    by : (x : Option Waiting) → Some (line, b) ≡ option_map (seen_of c pv) x
        → IfSome x (StandsTo c pv b)
    by None is = tt
    by (Some it) is =
        let own : ℕ × Bool = (line, b) in sym (ap (λ (y : ℕ × Bool). y.1) (same_Some own (seen_of c pv it) is))

-- they come back so
pub released_first : (c : Core) (pv : ℕ) (it : Waiting) (who : Waiter) (b : Bool) → Some it ≡ released_at c pv → it.waiter ≡ who
    → b ≡ nat_le it.place (marks_of c.waits.plan pv).stable
    → Some (line_of_waiter c who, b) ≡ first_released c pv
released_first c pv it who b at is lasts =
    ap (λ (x : Bool). Some (line_of_waiter c who, x)) lasts
    ∙ ap (λ (x : Waiter). Some (line_of_waiter c x, nat_le it.place (marks_of c.waits.plan pv).stable)) (sym is)
    ∙ ap (λ (x : Option Waiting). option_map (seen_of c pv) x) at

-- none is, where none is the first
pub none_first : (c : Core) (pv : ℕ) → None ≡ first_released c pv → None ≡ line_released c pv
none_first c pv is = by (released_at c pv) is
  where
    by : (x : Option Waiting) → None ≡ option_map (seen_of c pv) x
        → None ≡ option_map (λ (w : Waiting). line_of_waiter c w.waiter) x
    by None is = refl
    by (Some it) is = absurd (none-some (seen_of c pv it) is)

-- one that doesn't is behind a flush that has ended, and none that did well: the disk has failed
pub record IsLostWait (c : Core) (pv : ℕ) : Type 0 where
  pub lost : IsLost c pv
  pub waited : IfSome (released_at c pv) (λ it. awaited c.waits pv it.place ≡ Lost)

pub lost_wait : (c : Core) (pv line : ℕ) → Some line ≡ line_released c pv → IfSome (released_at c pv) (StandsTo c pv false)
    → IfSome (released_at c pv) (IsUpTo (marks_of c.waits.plan pv).ended)
    → IsLostWait c pv
lost_wait c pv line served unstable behind = by (released_at c pv) refl served unstable behind
  where
    its : (it : Waiting) → StandsTo c pv false it → it.place ≤ (marks_of c.waits.plan pv).ended → awaited c.waits pv it.place ≡ Lost
    its it unstable behind =
        let rest : Awaited = cond (serves (flight_of c.waits.plan pv) it.place) Served Unserved in
        ap (λ (x : Bool). cond x Stable (cond (nat_le it.place (marks_of c.waits.plan pv).ended) Lost rest)) unstable
        ∙ ap (λ (x : Bool). cond x Lost rest) (le-leb it.place (marks_of c.waits.plan pv).ended behind)

    by : (x : Option Waiting) → released_at c pv ≡ x → Some line ≡ option_map (λ (w : Waiting). line_of_waiter c w.waiter) x
        → IfSome x (StandsTo c pv false)
        → IfSome x (IsUpTo (marks_of c.waits.plan pv).ended)
        → IsLostWait c pv
    by None at served unstable behind = absurd (none-some line (sym served))
    by (Some it) at served unstable behind =
        let far : (marks_of c.waits.plan pv).stable < it.place = leb-false it.place (marks_of c.waits.plan pv).stable unstable in
        record {
          lost = inr (omega (arith, far, behind));
          waited =
              subst (λ (x : Option Waiting). IfSome x (λ it. awaited c.waits pv it.place ≡ Lost)) (sym at) (its it unstable behind);
        }
