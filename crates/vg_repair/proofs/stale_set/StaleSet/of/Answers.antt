-- One area more.
use Rattle.std.proofs.Common.{◌≡◌, ◌<◌, ℕ, ◌+◌, Bool, true, false, ◌&&◌, ◌||◌, ◌==◌, cond, List, length, drop, get_or, refl, sym, ap, ◌∙◌}
use Rattle.std.proofs.Common.{add-one, drop-cons}
use Rattle.std.specs.BTreeSet.{BTreeSet, Updates, contains}
use Rattle.std.specs.Cmp.{both_tied, unsigned_ties}
use Rattle.std.specs.Ordering.{nat_cmp}
use Rattle.vg_repair.specs.Stale.{area_cmp, is_among}
use Rattle.vg_repair.proofs.stale_set.StaleSet.of.Goals as goal

among_at : (areas : List (ℕ × ℕ)) (i : ℕ) (d : ℕ × ℕ) (disk number : ℕ) → i < length areas
    → is_among (drop i areas) disk number ≡ ((((get_or areas i d).0 == disk) && ((get_or areas i d).1 == number))
    || is_among (drop (i + 1) areas) disk number)
among_at areas i d disk number within = rw add-one (ap (λ (l : List (ℕ × ℕ)). is_among l disk number) (drop-cons areas i d within))

turned : (here before rest : Bool) → (cond here true before || rest) ≡ (before || (here || rest))
turned true true rest = refl
turned true false rest = refl
turned false before rest = refl

one_more : (areas : List (ℕ × ℕ)) (i : ℕ) (d : ℕ × ℕ) (old new : BTreeSet (ℕ × ℕ)) → i < length areas
    → Updates area_cmp old new (get_or areas i d) true
    → ((disk number : ℕ) → (contains area_cmp old (disk, number) || is_among (drop i areas) disk number) ≡ is_among areas disk number)
    → (disk number : ℕ) → (contains area_cmp new (disk, number) || is_among (drop (i + 1) areas) disk number) ≡ is_among areas disk number
one_more areas i d old new within put so_far disk number =
    let area : ℕ × ℕ = get_or areas i d in
    let before : Bool = contains area_cmp old (disk, number) in
    let rest : Bool = is_among (drop (i + 1) areas) disk number in
    ap (λ (b : Bool). b || rest) (put.0 (disk, number))
    ∙ ap (λ (b : Bool). cond b true before || rest)
    (sym (both_tied (area.0 == disk) (area.1 == number) (nat_cmp area.0 disk) (nat_cmp area.1 number) (unsigned_ties area.0 disk)
    (unsigned_ties area.1 number)))
    ∙ turned ((area.0 == disk) && (area.1 == number)) before rest
    ∙ ap (λ (b : Bool). before || b) (sym (among_at areas i d disk number within))
    ∙ so_far disk number

pub loop-pv-preserved : goal.loop-pv-preserved
loop-pv-preserved c =
    one_more c.args.list.now c.loop-pv.pv-index _ c.loop-pv.set c.insert.new.self c.loop-pv-test.true c.in_ok-insert.ensures.updates
    c.loop-pv.invariant
