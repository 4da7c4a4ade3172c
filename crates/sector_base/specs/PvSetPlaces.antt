-- The set of the places of marks has a number exactly where its mark is set.
use Rattle.std.proofs.Common.{◌≡◌, ◌<◌, ℕ, zero, suc, ◌+◌, Bool, true, false, ◌||◌, ◌==◌, List, [], ◌∷◌, length, get_or, refl, sym, ap, ◌∙◌}
use Rattle.std.proofs.Common.{arith}
use Rattle.std.specs.Ordering.{nat_cmp}
use Rattle.std.specs.Cmp.{nat_cmp_total, unsigned_tied}
use Rattle.std.specs.FinSet.{contains, from_list, contains-empty, contains-insert}
use Rattle.std.proofs.lemmas.Bool.Decides.{nat_tests}
use Rattle.sector_base.specs.PvSets.{places_from, tests_from}

-- a number below the first is no place
contains-before : (marks : List Bool) (first q : ℕ) → q < first → contains (from_list {R = nat_cmp} (places_from first marks)) q ≡ false
contains-before [] first q h = contains-empty nat_cmp q
contains-before (true ∷ marks) first q h =
    let apart : (q == first) ≡ false = grind (arith, nat_tests) in
    contains-insert nat_cmp_total _ first q ∙ ap (λ (t : Bool). t || contains (from_list {R = nat_cmp} (places_from (suc first) marks)) q)
    (unsigned_tied q first ∙ apart) ∙ contains-before marks (suc first) q (omega arith)
contains-before (false ∷ marks) first q h = contains-before marks (suc first) q (omega arith)

-- a number from the first on is a place where its mark is set
pub contains-places_from : (marks : List Bool) (first k : ℕ)
    → contains (from_list {R = nat_cmp} (places_from first marks)) (first + k) ≡ get_or marks k false
contains-places_from [] first k = contains-empty nat_cmp (first + k)
contains-places_from (true ∷ marks) first zero =
    let same : (first + 0 == first) ≡ true = grind (arith, nat_tests) in
    contains-insert nat_cmp_total _ first (first + 0)
    ∙ ap (λ (t : Bool). t || contains (from_list {R = nat_cmp} (places_from (suc first) marks)) (first + 0))
    (unsigned_tied (first + 0) first ∙ same)
contains-places_from (true ∷ marks) first (suc k) =
    let apart : (first + suc k == first) ≡ false = grind (arith, nat_tests) in
    let next : first + suc k ≡ suc first + k = omega arith in
    contains-insert nat_cmp_total _ first (first + suc k)
    ∙ ap (λ (t : Bool). t || contains (from_list {R = nat_cmp} (places_from (suc first) marks)) (first + suc k))
    (unsigned_tied (first + suc k) first ∙ apart)
    ∙ ap (λ (q : ℕ). contains (from_list {R = nat_cmp} (places_from (suc first) marks)) q) next
    ∙ contains-places_from marks (suc first) k
contains-places_from (false ∷ marks) first zero = contains-before marks (suc first) (first + 0) (omega arith)
contains-places_from (false ∷ marks) first (suc k) =
    let next : first + suc k ≡ suc first + k = omega arith in
    ap (λ (q : ℕ). contains (from_list {R = nat_cmp} (places_from (suc first) marks)) q) next
    ∙ contains-places_from marks (suc first) k

tests_from-marks : (marks : List Bool) (test : ℕ → Bool) (first : ℕ) → ((k : ℕ) → test (first + k) ≡ get_or marks k false)
    → tests_from test first (length marks) ≡ marks
tests_from-marks [] test first h = refl
tests_from-marks (mark ∷ marks) test first h =
    let here : test first ≡ mark = ap test (omega arith) ∙ h 0 in
    ap (λ (b : Bool). b ∷ tests_from test (suc first) (length marks)) here
    ∙ ap (λ (l : List Bool). mark ∷ l) (tests_from-marks marks test (suc first) (λ k. ap test (omega arith) ∙ h (suc k)))

-- the marks of the set are the marks that it was made of
pub tests_from-contains : (marks : List Bool) → length marks ≡ 64
    → tests_from (contains (from_list {R = nat_cmp} (places_from 0 marks))) 0 64 ≡ marks
tests_from-contains marks h =
    ap (λ (n : ℕ). tests_from (contains (from_list {R = nat_cmp} (places_from 0 marks))) 0 n) (sym h)
    ∙ tests_from-marks marks (contains (from_list {R = nat_cmp} (places_from 0 marks))) 0 (contains-places_from marks 0)
