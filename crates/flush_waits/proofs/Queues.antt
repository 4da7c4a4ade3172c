-- What waits on one disk, as writes complete, more waits, and flushes come and go.
use Rattle.std.proofs.Common.{◌≡◌, ◌≤◌, ◌<◌, ℕ, true, false, cond, nat_le, [], ◌∷◌, ◌++◌, get_or, drop, Option, Some}
use Rattle.std.proofs.Common.{None, refl, arith}
use Rattle.std.specs.Prelude.{if◌then◌else◌}
use Rattle.std.specs.Option.{option_map_or}
use Rattle.std.proofs.lemmas.Bool.{leb-false, leb-true}
use Rattle.std.proofs.lemmas.List.Elements.{All-drop, All-nil, All-push}
use Rattle.flush_plan.specs.declared.records.Flush.{Flush}
use Rattle.flush_plan.specs.declared.records.Marks.{Marks}
use Rattle.flush_plan.specs.Plans.{no_marks}
use Rattle.flush_waits.specs.declared.ticket.Waiting.{Waiting}
use Rattle.flush_waits.specs.declared.waits.Awaited.{Awaited}
use Rattle.flush_waits.specs.declared.waits.Awaited.TheVariants.{Lost, Served, Stable, Unserved}
use Rattle.flush_waits.specs.Waits.{DiskWaits, Stands, none_waits, serves}

-- it waits up to this place, and behind it
abbrev UpTo : ℕ → Waiting → Type 0
UpTo to w = w.place ≤ to

abbrev Behind : ℕ → ℕ → Waiting → Type 0
Behind to held w = (to < w.place) × (w.place ≤ held)

-- nothing was written
pub stands_new : Stands no_marks 0 0 none_waits
stands_new = record {
  stable = omega arith;
  ended = omega arith;
  reached = omega arith;
  served = All-nil (UpTo 0);
  next = All-nil (Behind 0 0);
}

-- more writes have completed, and marks that say of flushes what they said
pub stands_more : (m n : Marks) (to held more : ℕ) (d : DiskWaits) → n.stable ≡ m.stable → n.ended ≡ m.ended → held ≤ more
    → Stands m to held d → Stands n to more d
stands_more m n to held more d stable ended le s = record {
  stable = omega (arith, stable, ended, s.stable);
  ended = omega (arith, ended, s.ended);
  reached = omega (arith, le, s.reached);
  served = s.served;
  next = λ k w lt. let h : Behind to held (get_or d.next k w) = s.next k w lt in (h.0, omega (arith, le, h.1));
}

-- one more that is served, and one that isn't
pub stands_served : (m : Marks) (to held : ℕ) (d : DiskWaits) (w : Waiting) → w.place ≤ to → Stands m to held d
    → Stands m to held (record d { served = d.served ++ w ∷ [] })
stands_served m to held d w le s = record {
  stable = s.stable;
  ended = s.ended;
  reached = s.reached;
  served = All-push (UpTo to) d.served w s.served le;
  next = s.next;
}

pub stands_next : (m : Marks) (to held : ℕ) (d : DiskWaits) (w : Waiting) → to < w.place → w.place ≤ held → Stands m to held d
    → Stands m to held (record d { next = d.next ++ w ∷ [] })
stands_next m to held d w lt le s = record {
  stable = s.stable;
  ended = s.ended;
  reached = s.reached;
  served = s.served;
  next = All-push (Behind to held) d.next w s.next (lt, le);
}

-- a flush was submitted behind all writes
pub stands_submitted : (m : Marks) (to held : ℕ) (d : DiskWaits) → Stands m to held d
    → Stands m held held (record { served = d.next; next = [] })
stands_submitted m to held d s = record {
  stable = s.stable;
  ended = omega (arith, s.ended, s.reached);
  reached = omega arith;
  served = λ k w lt. let h : Behind to held (get_or d.next k w) = s.next k w lt in h.1;
  next = All-nil (Behind held held);
}

-- it has ended
pub stands_ended : (m n : Marks) (to held : ℕ) (d : DiskWaits) → n.ended ≡ to → n.stable ≤ to → Stands m to held d → Stands n to held d
stands_ended m n to held d ended stable s = record {
  stable = omega (arith, ended, stable);
  ended = omega (arith, ended);
  reached = s.reached;
  served = s.served;
  next = s.next;
}

-- the first that was served waits no more
pub stands_released : (m : Marks) (to held : ℕ) (d : DiskWaits) → Stands m to held d
    → Stands m to held (record d { served = drop 1 d.served })
stands_released m to held d s = record {
  stable = s.stable;
  ended = s.ended;
  reached = s.reached;
  served = All-drop (UpTo to) 1 d.served s.served;
  next = s.next;
}

-- how it stands with a write, by the flight and the marks of its disk
abbrev pub told : Option Flush → Marks → ℕ → Awaited
told flight m place =
    if nat_le place m.stable then Stable
    else if nat_le place m.ended then Lost
    else if serves flight place then Served
    else Unserved

-- what flushes reach
abbrev pub reached : Option Flush → Marks → ℕ
reached flight m = option_map_or (λ (f : Flush). f.after) flight m.ended

-- what is served is within that
by_flight : (flight : Option Flush) (m : Marks) (place : ℕ) → serves flight place ≡ true → place ≤ reached flight m
by_flight None m place e = cc
by_flight (Some f) m place e = leb-true place f.after e

behind_flight : (flight : Option Flush) (m : Marks) (place : ℕ) → m.ended < place → serves flight place ≡ false → reached flight m < place
behind_flight None m place lt e = lt
behind_flight (Some f) m place lt e = leb-false place f.after e

pub served_within : (flight : Option Flush) (m : Marks) (place : ℕ) → told flight m place ≡ Served → place ≤ reached flight m
served_within flight m place is =
    elim (nat_le place m.stable) as
    (λ b. cond b Stable (cond (nat_le place m.ended) Lost (cond (serves flight place) Served Unserved)) ≡ Served
    → place ≤ reached flight m) [
      | true ↦ λ h. cc
      | false ↦ λ h.
          elim (nat_le place m.ended) as
          (λ b. cond b Lost (cond (serves flight place) Served Unserved) ≡ Served → place ≤ reached flight m) [
            | true ↦ λ g. cc
            | false ↦ λ g.
                elim (serves flight place) as
                (λ b. serves flight place ≡ b → cond b Served Unserved ≡ Served → place ≤ reached flight m) [
                  | true ↦ λ t k. by_flight flight m place t
                  | false ↦ λ t k. cc
                ] refl g
          ] h
    ] is

-- and what isn't is behind that
pub unserved_behind : (flight : Option Flush) (m : Marks) (place : ℕ) → told flight m place ≡ Unserved → reached flight m < place
unserved_behind flight m place is =
    elim (nat_le place m.stable) as
    (λ b. cond b Stable (cond (nat_le place m.ended) Lost (cond (serves flight place) Served Unserved)) ≡ Unserved
    → reached flight m < place) [
      | true ↦ λ h. cc
      | false ↦ λ h.
          elim (nat_le place m.ended) as
          (λ b. nat_le place m.ended ≡ b → cond b Lost (cond (serves flight place) Served Unserved) ≡ Unserved
          → reached flight m < place) [
            | true ↦ λ s g. cc
            | false ↦ λ s g.
                elim (serves flight place) as
                (λ b. serves flight place ≡ b → cond b Served Unserved ≡ Unserved → reached flight m < place) [
                  | true ↦ λ t k. cc
                  | false ↦ λ t k. behind_flight flight m place (leb-false place m.ended s) t
                ] refl g
          ] refl h
    ] is
