-- In an ordered history each line is known by how many were begun before it.
use Rattle.std.proofs.Common.{◌≡◌, ◌<◌, ℕ, ◌==◌, Bool, true, false, if◌then◌else◌, List, [], ◌∷◌, Option, Some, refl, sym, ap, ◌∙◌, arith}
use Rattle.lvm_script.specs.declared.line.Line.{Line}
use Rattle.list_laws.proofs.Bools.{and_cases, eq_of, eq_to}
use Rattle.volume_history.specs.Chronicles.{Answered, Begun, Changed, ChronicleEntry, Failed, GivenUp, Opened, Took, begun_in, count_begun}
use Rattle.volume_history.specs.Chronicles.{may_begin}
use Rattle.volume_history.specs.Cuts.{AreNumbered}
use Rattle.volume_history.specs.Legal.{AllOrdered}

-- what is known of the lines in one history is in another that has the same lines
numbered_in : (all all' es : List ChronicleEntry) → ((n : ℕ) → n < count_begun es → begun_in all' n ≡ begun_in all n)
    → AreNumbered all es → AreNumbered all' es
numbered_in all all' [] same are = tt
numbered_in all all' (Begun m n line key ∷ es) same are = (
  are.0,
  same n (omega (arith, are.0)) ∙ are.1,
  numbered_in all all' es (λ k lt. same k (omega (arith, lt))) are.2,
)
numbered_in all all' (Opened m n version ∷ es) same are = numbered_in all all' es same are
numbered_in all all' (Took m n piece ∷ es) same are = numbered_in all all' es same are
numbered_in all all' (Changed m n version ∷ es) same are = numbered_in all all' es same are
numbered_in all all' (GivenUp m n ∷ es) same are = numbered_in all all' es same are
numbered_in all all' (Failed m n piece ∷ es) same are = numbered_in all all' es same are
numbered_in all all' (Answered m n answer ∷ es) same are = numbered_in all all' es same are

-- a line of an older number is no new one
older_line : (es : List ChronicleEntry) (m n : ℕ) (line : Line) (key : Option ℕ) (k : ℕ) → k < n
    → begun_in (Begun m n line key ∷ es) k ≡ begun_in es k
older_line es m n line key k lt = at (n == k) refl
  where
    at : (t : Bool) → t ≡ (n == k) → (if t then Some (line, key) else begun_in es k) ≡ begun_in es k
    at true e = absurd (let same : n ≡ k = eq_of n k (sym e) in omega (arith, same, lt))
    at false e = refl

pub numbered : (start : ℕ) (es : List ChronicleEntry) → AllOrdered start es → AreNumbered es es
numbered start [] all = tt
numbered start (Begun m n line key ∷ es) all =
    let number : n ≡ count_begun es = eq_of n (count_begun es) (and_cases (n == count_begun es) (may_begin es line) all.0.order).0 in (
      number,
      ap (λ (t : Bool). if t then Some (line, key) else begun_in es n) (eq_to n n refl),
      numbered_in es (Begun m n line key ∷ es) es (λ k lt. older_line es m n line key k (omega (arith, number, lt)))
          (numbered start es all.1),
    )
numbered start (Opened m n version ∷ es) all = numbered_in es (Opened m n version ∷ es) es (λ k lt. refl) (numbered start es all.1)
numbered start (Took m n piece ∷ es) all = numbered_in es (Took m n piece ∷ es) es (λ k lt. refl) (numbered start es all.1)
numbered start (Changed m n version ∷ es) all = numbered_in es (Changed m n version ∷ es) es (λ k lt. refl) (numbered start es all.1)
numbered start (GivenUp m n ∷ es) all = numbered_in es (GivenUp m n ∷ es) es (λ k lt. refl) (numbered start es all.1)
numbered start (Failed m n piece ∷ es) all = numbered_in es (Failed m n piece ∷ es) es (λ k lt. refl) (numbered start es all.1)
numbered start (Answered m n answer ∷ es) all = numbered_in es (Answered m n answer ∷ es) es (λ k lt. refl) (numbered start es all.1)
