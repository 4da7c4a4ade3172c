-- How vain answers are counted, and the oldest operation in flight is let go.
use Rattle.std.proofs.Common.{◌≡◌, ◌≢◌, ◌≤◌, ◌<◌, ℕ, ◌+◌, ◌^◌, nat_le, Bool, true, false, not, ◌&&◌, cond, List, [], ◌∷◌, length, map}
use Rattle.std.proofs.Common.{filter, get_or, All, Contains, ⊎_elim, refl, sym, ap, subst, ◌∙◌, arith}
use Rattle.std.specs.List.{list_any}
use Rattle.std.proofs.lemmas.Bool.Decides.{leb_tells}
use Rattle.std.proofs.lemmas.List.Elements.{All-head}
use Rattle.disk_model.specs.Record.{Operation}
use Rattle.disk_model.specs.State.{State, tags_of}
use Rattle.disk_model.specs.Steps.{Step}
use Rattle.disk_model.specs.Calls.{MakesReady}
use Rattle.op_queue.specs.QueueInvariant.{lawful_of as queue_lawful}
use Rattle.dev_shelf.specs.declared.mem_shelf.disk_row.DiskRow.{DiskRow}
use Rattle.dev_shelf.specs.declared.mem_shelf.recorded.RecordedOp.{RecordedOp}
use Rattle.dev_shelf.specs.DiskRow.{operation_at, state_of}
use Rattle.dev_shelf.specs.DiskRowInvariant.{IsGood}
use Rattle.dev_shelf.specs.Plan.{PlanLeft, after_vain, before_settling, held_back, is_held, keeps_back, letting_go}
use Rattle.dev_shelf.proofs.HeldCalls.{ready_tags}

-- a list isn't empty, or is
pub empty_if : (tags : List ℕ) → (tags ≢ [] → ⊥) → tags ≡ []
empty_if [] h = refl
empty_if (tag ∷ tags) h = absurd (h (λ e. cc))

-- the one that was made from the first
first_made : (f : RecordedOp → Operation) (ops : List RecordedOp) (os : List Operation) (op : RecordedOp) → map f ops ≡ os → 0 < length ops
    → op ≡ get_or ops 0 op
    → (rest : List Operation) × (os ≡ f op ∷ rest)
first_made f [] os op made some is = absurd (omega arith)
first_made f (o ∷ ops) os op made some is = (map f ops, sym made ∙ ap (λ (x : RecordedOp). f x ∷ map f ops) (sym is))

-- the oldest in flight
pub oldest_of : (row : DiskRow) → IsGood row → (op : RecordedOp) → 0 < length row.in_flight.items → op ≡ get_or row.in_flight.items 0 op
    → (rest : List Operation) × ((state_of row).in_flight ≡ operation_at row.written.items op ∷ rest)
oldest_of row good op some is =
    first_made (operation_at row.written.items) row.in_flight.items (state_of row).in_flight op good.recorded some is

-- it is recorded where it is in flight
made_some : (f : RecordedOp → Operation) (ops : List RecordedOp) (os : List Operation) → map f ops ≡ os → os ≢ [] → 0 < length ops
made_some f [] os made some = absurd (some (sym made))
made_some f (op ∷ ops) os made some = omega arith

pub some_recorded : (row : DiskRow) → IsGood row → (state_of row).in_flight ≢ [] → 0 < length row.in_flight.items
some_recorded row good some = made_some (operation_at row.written.items) row.in_flight.items (state_of row).in_flight good.recorded some

-- its tag is one of a shelf's life
pub tag_fits : (row : DiskRow) → IsGood row → (op : RecordedOp) → 0 < length row.in_flight.items → op ≡ get_or row.in_flight.items 0 op
    → op.tag < 2 ^ 62
tag_fits row good op some is =
    let found = oldest_of row good op some is in
    let P : Operation → Type 0 = λ o. o.tag < row.queue.next_tag in
    let below : op.tag < row.queue.next_tag =
    All-head P (operation_at row.written.items op) found.0 (subst (All P) found.1 (queue_lawful row.queue good.queue).tags) in
    omega (arith, below, good.queue.life)

-- where nothing is ready the oldest is held, so it wasn't let go
held_first : (b : Bool) (o : Operation) (rest : List Operation) → tags_of (cond (not b) (o ∷ rest) rest) ≡ [] → b ≡ true
held_first true o rest h = refl
held_first false o rest h = absurd (let e : (o.tag ∷ tags_of rest) ≡ [] = h in cc)

both_left : (b c : Bool) → (b && c) ≡ true → b ≡ true
both_left true c h = refl
both_left false c h = h

at_most : (a b : ℕ) → nat_le a b ≡ true → a ≤ b
at_most a b h = ⊎_elim (λ is. is.1) (λ isnt. absurd (let e : nat_le a b ≡ false = isnt.0 in cc)) (leb_tells a b)

pub not_let_go : (plan : PlanLeft) (steps : List Step) (o : Operation) (rest : List Operation) → ready_tags plan steps (o ∷ rest) ≡ []
    → plan.let_go ≤ o.tag
not_let_go plan steps o rest h =
    at_most plan.let_go o.tag
    (both_left (nat_le plan.let_go o.tag) (list_any (keeps_back steps o) plan.holds)
    (held_first (is_held plan steps o) o (filter (λ p. not (is_held plan steps p)) rest) h))

-- a vain answer is counted, or lets the oldest go
pub counts : (os : List Operation) (plan : PlanLeft) → os ≢ [] → plan.vain + 1 < plan.limit
    → after_vain os plan ≡ record plan { vain = plan.vain + 1 }
counts [] plan some lt = absurd (some refl)
counts (o ∷ os) plan some lt =
    ⊎_elim (λ is. absurd (let le : plan.limit ≤ plan.vain + 1 = is.1 in omega arith)) (λ isnt. rw isnt.0 refl)
    (leb_tells plan.limit (plan.vain + 1))

pub lets_go : (os : List Operation) (plan : PlanLeft) → plan.limit ≤ plan.vain + 1 → after_vain os plan ≡ before_settling [] os plan
lets_go [] plan le = refl
lets_go (o ∷ os) plan le =
    ⊎_elim (λ is. rw is.0 refl) (λ isnt. absurd (let lt : plan.vain + 1 < plan.limit = isnt.1 in omega arith))
    (leb_tells plan.limit (plan.vain + 1))

-- where something is ready none is let go
pub stays : (tags : List ℕ) (os : List Operation) (plan : PlanLeft) → tags ≢ [] → before_settling tags os plan ≡ plan
stays [] os plan some = absurd (some refl)
stays (tag ∷ tags) os plan some = refl

-- what was let go is ready
pub settled : (os : List Operation) (plan : PlanLeft) (steps : List Step) → os ≢ [] → ready_tags (before_settling [] os plan) steps os ≢ []
settled [] plan steps some = absurd (some refl)
settled (o ∷ os) plan steps some =
    let later : List Operation = filter (λ p. not (is_held (letting_go o plan) steps p)) os in
    let isnt : nat_le (o.tag + 1) o.tag ≡ false =
    ⊎_elim (λ is. absurd (let le : o.tag + 1 ≤ o.tag = is.1 in omega arith)) (λ apart. apart.0) (leb_tells (o.tag + 1) o.tag) in
    λ none.
    let first : tags_of (cond (not (nat_le (o.tag + 1) o.tag && list_any (keeps_back steps o) plan.holds)) (o ∷ later) later) ≡ [] = none in
    let here : (o.tag ∷ tags_of later) ≡ [] =
    subst (λ (b : Bool). tags_of (cond (not (b && list_any (keeps_back steps o) plan.holds)) (o ∷ later) later) ≡ []) isnt first in
    cc

-- more is ready where nothing was
pub makes_more : (plan : PlanLeft) (state : State) → state.ready ≡ [] → MakesReady state (held_back plan state)
makes_more plan state none = record {
  ready =
      λ t h. absurd (let inside : Contains [] t = subst (λ (l : List ℕ). Contains l t) none h in let lt : inside.0
      < 0 = inside.1 in omega arith);
  same = refl;
}

-- of what `settle` completes more is ready
pub makes_settled : (tags : List ℕ) (plan mid_plan : PlanLeft) (old mid : State) → old.ready ≡ tags → old ≡ held_back plan old
    → mid_plan ≡ before_settling tags old.in_flight plan
    → mid ≡ held_back mid_plan old → MakesReady old mid
makes_settled [] plan mid_plan old mid none same left is = subst (λ (s : State). MakesReady old s) (sym is) (makes_more mid_plan old none)
makes_settled (tag ∷ tags) plan mid_plan old mid some same left is =
    let kept : mid ≡ old = is ∙ ap (λ (p : PlanLeft). held_back p old) left ∙ sym same in
    subst (λ (s : State). MakesReady old s) (sym kept) (record { ready = λ t h. h; same = refl })
