-- The first volumes that may be used and have room.
use Rattle.std.proofs.Common.{◌≡◌, ℕ, zero, suc, ◌<◌, ◌≤◌, ◌≢◌, Bool, true, List, [], ◌∷◌, length, take, sym, ◌∙◌, arith, IsTrue, None}
use Rattle.std.proofs.Common.{nat_lt}
use Rattle.std.specs.Prelude.{All, filter}
use Rattle.std.specs.List.{AllByRecursion}
use Rattle.std.proofs.lemmas.Bool.{cond-false, cond_both, false≢true, le-ltb, leb-true}
use Rattle.std.proofs.lemmas.List.Elements.{All-from_recursion, All-take, recursion_from_All}
use Rattle.meta_model.specs.declared.group.Group.{Group}
use Rattle.extent_alloc.specs.Few.{first_fit, has_room, room_for}
use Rattle.extent_alloc.specs.Free.{free_at, longest, total}
use Rattle.extent_alloc.specs.Refusals.{more_legs_refusal}
use Rattle.extent_alloc.specs.Taking.{IsRoomy}
use Rattle.extent_alloc.specs.Usable.{is_usable, usable_pvs}
use Rattle.extent_alloc.specs.declared.part.PvRun.{PvRun}
use Rattle.extent_alloc.specs.declared.request.Request.{Request}
use Rattle.extent_alloc.proofs.FreeOn.{usable_are, usable_differ}
use Rattle.extent_alloc.proofs.LaidParts.{total_cons}
use Rattle.list_laws.proofs.Pairs.{Pairs, all_weaker, pairs_filter}

longest_within : (runs : List PvRun) → longest runs ≤ total runs
longest_within [] = omega arith
longest_within (run ∷ runs) = let rest = longest_within runs in omega (arith, rest, total_cons run runs)

-- what room means
room_total : (want : Request) (runs : List PvRun) → want.extents ≤ room_for want runs → want.extents ≤ total runs
room_total want runs =
    cond_both want.contiguous (longest runs) (total runs) (λ room. want.extents ≤ room → want.extents ≤ total runs)
    (λ is le. let within = longest_within runs in omega (arith, le, within)) (λ isnt le. le)

room_longest : (want : Request) (runs : List PvRun) → IsTrue want.contiguous → want.extents ≤ room_for want runs
    → want.extents ≤ longest runs
room_longest want runs contiguous =
    cond_both want.contiguous (longest runs) (total runs) (λ room. want.extents ≤ room → want.extents ≤ longest runs)
    (λ is le. le) (λ isnt le. absurd (false≢true (sym isnt ∙ contiguous)))

-- those that pass
passing : (P : ℕ → Type 0) (p : ℕ → Bool) (xs : List ℕ) → AllByRecursion P xs → AllByRecursion (λ x. P x × (p x ≡ true)) (filter p xs)
passing P p [] all = tt
passing P p (x ∷ xs) all =
    cond_both (p x) _ _ (AllByRecursion (λ y. P y × (p y ≡ true))) (λ is. ((all.0, is), passing P p xs all.1))
    (λ isnt. passing P p xs all.1)

all_taken : (P : ℕ → Type 0) (n : ℕ) (xs : List ℕ) → AllByRecursion P xs → AllByRecursion P (take n xs)
all_taken P n xs all = recursion_from_All P (take n xs) (All-take P n xs (All-from_recursion P xs all))

pairs_take : (R : ℕ → ℕ → Type 0) (n : ℕ) (xs : List ℕ) → Pairs R xs → Pairs R (take n xs)
pairs_take R zero xs pairs = tt
pairs_take R (suc n) [] pairs = tt
pairs_take R (suc n) (x ∷ xs) pairs = (all_taken (R x) n xs pairs.0, pairs_take R n xs pairs.1)

fit_pass : (group : Group) (want : Request)
    → AllByRecursion (λ pv. ((pv < length group.pvs) × (is_usable group want pv ≡ true)) × (has_room group want pv ≡ true))
    (first_fit group want (usable_pvs group want))
fit_pass group want =
    all_taken (λ pv. ((pv < length group.pvs) × (is_usable group want pv ≡ true)) × (has_room group want pv ≡ true)) want.legs
    (filter (has_room group want) (usable_pvs group want))
    (passing (λ pv. (pv < length group.pvs) × (is_usable group want pv ≡ true)) (has_room group want) (usable_pvs group want)
    (usable_are group want))

has : (group : Group) (want : Request) (pv : ℕ) → has_room group want pv ≡ true → want.extents ≤ room_for want (free_at group pv)
has group want pv is = leb-true want.extents (room_for want (free_at group pv)) is

pub fit_roomy : (group : Group) (want : Request) → AllByRecursion (IsRoomy group want) (first_fit group want (usable_pvs group want))
fit_roomy group want =
    all_weaker (λ pv. ((pv < length group.pvs) × (is_usable group want pv ≡ true)) × (has_room group want pv ≡ true)) (IsRoomy group want)
    (λ pv h. record { stands = h.0.0; usable = h.0.1; room = room_total want (free_at group pv) (has group want pv h.1) })
    (first_fit group want (usable_pvs group want)) (fit_pass group want)

pub fit_below : (group : Group) (want : Request) → All (λ pv. pv < length group.pvs) (first_fit group want (usable_pvs group want))
fit_below group want =
    All-from_recursion (λ pv. pv < length group.pvs) (first_fit group want (usable_pvs group want))
    (all_weaker (IsRoomy group want) (λ pv. pv < length group.pvs) (λ pv roomy. roomy.stands) (first_fit group want (usable_pvs group want))
    (fit_roomy group want))

pub fit_long : (group : Group) (want : Request) → IsTrue want.contiguous
    → AllByRecursion (λ pv. want.extents ≤ longest (free_at group pv)) (first_fit group want (usable_pvs group want))
fit_long group want contiguous =
    all_weaker (λ pv. ((pv < length group.pvs) × (is_usable group want pv ≡ true)) × (has_room group want pv ≡ true))
    (λ pv. want.extents ≤ longest (free_at group pv))
    (λ pv h. room_longest want (free_at group pv) contiguous (has group want pv h.1)) (first_fit group want (usable_pvs group want))
    (fit_pass group want)

pub fit_differ : (group : Group) (want : Request) → Pairs (λ (a b : ℕ). a ≢ b) (first_fit group want (usable_pvs group want))
fit_differ group want =
    pairs_take (λ a b. a ≢ b) want.legs (filter (has_room group want) (usable_pvs group want))
    (pairs_filter (λ a b. a ≢ b) (has_room group want) (usable_pvs group want) (usable_differ group want))

-- why several legs aren't refused
pub several_not_refused : (want : Request) (fit : List ℕ) → want.legs ≤ length fit → more_legs_refusal want fit ≡ None
several_not_refused want fit enough = cond-false (nat_lt (length fit) want.legs) _ _ (le-ltb (length fit) want.legs enough)
