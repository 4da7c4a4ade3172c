-- A text is compared with what is stored in sectors, byte by byte.
use Rattle.std.proofs.Common.{◌≡◌, ◌≤◌, ◌<◌, ℕ, ◌+◌, ◌-◌, ◌==◌, ◌↔◌, Bool, true, false, not, cond, IsTrue, List, ◌++◌, length, take, drop, map}
use Rattle.std.proofs.Common.{get_or, refl, sym, ap, ◌∙◌, arith}
use Rattle.std.specs.Prelude.{nat_eq, slice_index_or}
use Rattle.std.specs.Cmp.Lexicographic.{nat_list_eq_equiv, pointwise, same_text}
use Rattle.std.proofs.Math.Seq.{take-add}
use Rattle.std.proofs.lemmas.List.{get_or-drop, get_or-take, length-drop, length-take}
use Rattle.std.specs.List.{range_with_len}
use Rattle.std.proofs.lemmas.List.FromFn.{fill_by_all, get_or-map-range_with_len, length-map-range_with_len, take-map-range_with_len}
use Rattle.mda_ring.specs.Texts.{byte_in, without_zero}
use Rattle.mda_ring.proofs.SectorParts.{taken_more}

-- the values of a function without a final zero
pub cut : (f : ℕ → ℕ) (n : ℕ) (z : Bool) → 0 < n → (f (n - 1) == 0) ≡ z
    → without_zero (map f (range_with_len 0 n)) ≡ map f (range_with_len 0 (cond z (n - 1) n))
cut f n z some is =
    let values : List ℕ = map f (range_with_len 0 n) in
    let long : length values ≡ n = length-map-range_with_len f 0 n in
    let last : slice_index_or values (length values - 1) 1 ≡ f (n - 1) =
    ap (λ (k : ℕ). slice_index_or values (k - 1) 1) long
    ∙ get_or-map-range_with_len f 0 n (n - 1) (n - 1) 1 (omega arith) (omega arith) in
    ap (λ (k : ℕ). cond (k == 0) (take (length values - 1) values) values) last
    ∙ ap (λ (b : Bool). cond b (take (length values - 1) values) values) is
    ∙ ap (λ (k : ℕ). cond z (take (k - 1) values) values) long
    ∙ by z
  where
    by : (z : Bool) → cond z (take (n - 1) (map f (range_with_len 0 n))) (map f (range_with_len 0 n))
        ≡ map f (range_with_len 0 (cond z (n - 1) n))
    by true = take-map-range_with_len f 0 n (n - 1) (omega arith)
    by false = refl

-- a list that is as long as they are is these values where it is so many of the function
pub same_stored : (f : ℕ → ℕ) (n count : ℕ) (text : List ℕ) (is : Bool) → 0 < n → count ≡ cond (f (n - 1) == 0) (n - 1) n
    → length text ≡ count → (IsTrue is ↔ (text ≡ map f (range_with_len 0 (length text))))
    → IsTrue is ↔ (text ≡ without_zero (map f (range_with_len 0 n)))
same_stored f n count text is some kept long told =
    let stored = ap (λ (k : ℕ). map f (range_with_len 0 k)) (long ∙ kept) ∙ sym (cut f n (f (n - 1) == 0) some refl) in
    ((λ yes. told.0 yes ∙ stored), (λ same. told.1 (same ∙ sym stored)))

-- and a list that isn't as long is another
pub other_stored : (f : ℕ → ℕ) (n count : ℕ) (text : List ℕ) → 0 < n → count ≡ cond (f (n - 1) == 0) (n - 1) n
    → (length text ≡ count → ⊥) → (text ≡ without_zero (map f (range_with_len 0 n))) → ⊥
other_stored f n count text some kept other same =
    other (ap length (same ∙ cut f n (f (n - 1) == 0) some refl) ∙ length-map-range_with_len f 0 (cond (f (n - 1) == 0) (n - 1) n)
    ∙ sym kept)

-- ---- part by part

true_of : (b : Bool) → not b ≡ false → b ≡ true
true_of true is = refl
true_of false is = cc

module _ (sectors : List (List ℕ)) (skip done : ℕ) (bytes part : List ℕ) (within : done ≤ length bytes)
    (fits : length part ≤ length bytes - done) (next : part ≡ map (λ j. byte_in sectors (skip + done + j)) (range_with_len 0 (length part)))
  where
    abbrev stored : ℕ → List ℕ
    stored n = map (λ j. byte_in sectors (skip + j)) (range_with_len 0 n)

    abbrev compared : List ℕ
    compared = take (done + length part - done) (drop done bytes)

    -- where the part is next the bytes are those of the sectors as far as its end
    pub more_stored : take done bytes ≡ stored done → not (pointwise nat_eq compared part) ≡ false
        → (take (done + length part) bytes ≡ stored (done + length part)) × (done + length part ≤ length bytes)
    more_stored was same =
        let count : done + length part - done ≡ length part = omega arith in
        let is : take (length part) (drop done bytes) ≡ part =
        ap (λ (n : ℕ). take n (drop done bytes)) (sym count) ∙ same_text compared part (sym (true_of (pointwise nat_eq compared part) same)) in (
          taken_more sectors skip done (skip + done) (done + length part) (take done bytes) part (take (done + length part) bytes) was next
              refl (take-add done (length part) bytes ∙ ap (λ (l : List ℕ). take done bytes ++ l) is) refl,
          omega (arith, fits, within),
        )

    -- and where the bytes are those of the sectors the part is next
    pub part_stored : bytes ≡ stored (length bytes) → not (pointwise nat_eq compared part) ≡ true → ⊥
    part_stored are other = differ (pointwise nat_eq compared part) (ap (λ (l : List ℕ). pointwise nat_eq l part) is
        ∙ nat_list_eq_equiv.refl part) other
      where
        differ : (b : Bool) → b ≡ true → not b ≡ true → ⊥
        differ true same other = cc
        differ false same other = cc

        count : done + length part - done ≡ length part
        count = omega arith

        long : length (take (length part) (drop done bytes)) ≡ length part
        long = omega (arith, length-take (length part) (drop done bytes), length-drop done bytes, fits)

        is : compared ≡ part
        is =
            ap (λ (n : ℕ). take n (drop done bytes)) count
            ∙ fill_by_all (λ j. byte_in sectors (skip + done + j)) (take (length part) (drop done bytes)) (length part) 0 long
            (λ k below.
            get_or-take (length part) (drop done bytes) k 0 below
            ∙ get_or-drop done bytes k 0
            ∙ ap (λ (l : List ℕ). get_or l (done + k) 0) are
            ∙ get_or-map-range_with_len (λ j. byte_in sectors (skip + j)) 0 (length bytes) (done + k) (done + k) 0
            (omega (arith, below, fits, within)) (omega arith)
            ∙ ap (byte_in sectors) (omega arith))
            ∙ sym next
