-- What entries tell of lines: those of lines that weren't begun, tests of sectors one by one, and lines that are open.
use Rattle.std.proofs.Common.{◌≡◌, ◌≤◌, ◌<◌, ℕ, zero, suc, ◌+◌, Bool, true, false, not, ◌&&◌, ◌||◌, ◌==◌, nat_lt, nat_le, if◌then◌else◌}
use Rattle.std.proofs.Common.{List, [], ◌∷◌, ◌++◌, Option, None, Some, cond, length, slice_get, option_map, refl, sym, ap, subst, ◌∙◌}
use Rattle.std.proofs.Common.{arith, true≢false}
use Rattle.std.specs.List.{range_with_len}
use Rattle.lvm_script.specs.declared.line.Line.{Line}
use Rattle.std.proofs.lemmas.Bool.Decides.{nat_tests}
use Rattle.std.proofs.lemmas.List.{length_push}
use Rattle.list_laws.proofs.Bools.{and_both, and_cases, eq_of, eq_to, lt_true, true_le, true_lt}
use Rattle.data_lines.specs.DataLines.{in_range}
use Rattle.volume_history.specs.Chronicles.{Answered, Begun, Changed, ChronicleEntry, Failed, GivenUp, Opened, Took, answer_in, begun_in}
use Rattle.volume_history.specs.Chronicles.{count_begun, every, has_took, is_answered, is_open, may_begin, open_among}
use Rattle.volume_history.specs.Chronicles.{piece_covers, settled_at, took_at}
use Rattle.world_history.specs.Told.{begun_list}
use Rattle.volume_history.specs.Legal.{AllOrdered, all_in, may_answer, may_fail, may_take}

-- ---- lines that weren't begun

-- a line of another number
pub other_number : (m n : ℕ) → m < n → (n == m) ≡ false
other_number m n below = at (n == m) refl
  where
    at : (b : Bool) → (n == m) ≡ b → b ≡ false
    at true e = absurd (let same : n ≡ m = eq_of n m e in omega (arith, same, below))
    at false e = refl

-- an entry of a line that is open is of an older one
open_older : (es : List ChronicleEntry) (m n : ℕ) (rest : Bool) → (is_open es m && rest) ≡ true → count_begun es ≤ n → (m == n) ≡ false
open_older es m n rest is most =
    let opened : is_open es m ≡ true = (and_cases (is_open es m) rest is).0 in
    let below : m < count_begun es =
    true_lt m (count_begun es) (and_cases (nat_lt m (count_begun es)) (not (is_answered es m)) opened).0 in
    at (m == n) refl below
  where
    at : (b : Bool) → (m == n) ≡ b → m < count_begun es → b ≡ false
    at true e below = absurd (let same : m ≡ n = eq_of m n e in omega (arith, same, most, below))
    at false e below = refl

-- nothing is told of a line that wasn't begun
pub record IsUntold (es : List ChronicleEntry) (n : ℕ) : Type 0 where
  pub answer : answer_in es n ≡ None
  pub took : has_took es n ≡ false
  pub settled : (key x : ℕ) → settled_at es n key x ≡ false

pub untold : (start : ℕ) (es : List ChronicleEntry) (n : ℕ) → AllOrdered start es → count_begun es ≤ n → IsUntold es n
untold start [] n all most = record { answer = refl; took = refl; settled = λ key x. refl }
untold start (Begun m k line key ∷ es) n all most =
    let rest = untold start es n all.1 (omega (arith, most)) in
    record { answer = rest.answer; took = rest.took; settled = rest.settled }
untold start (Opened m k version ∷ es) n all most =
    let rest = untold start es n all.1 most in
    record { answer = rest.answer; took = rest.took; settled = rest.settled }
untold start (Took m k piece ∷ es) n all most =
    let rest = untold start es n all.1 most in
    let other : (k == n) ≡ false = open_older es k n (may_take es k (begun_in es k) piece) all.0.order most in
    record {
      answer = rest.answer;
      took = rw (other) rest.took;
      settled = λ key x. rw (other) (rest.settled key x);
    }
untold start (Changed m k version ∷ es) n all most =
    let rest = untold start es n all.1 most in
    let other : (k == n) ≡ false = open_older es k n _ all.0.order most in
    record { answer = rest.answer; took = rw (other) rest.took; settled = rest.settled }
untold start (GivenUp m k ∷ es) n all most =
    let rest = untold start es n all.1 most in
    record { answer = rest.answer; took = rest.took; settled = rest.settled }
untold start (Failed m k piece ∷ es) n all most =
    let rest = untold start es n all.1 most in
    let other : (k == n) ≡ false = open_older es k n (may_fail es k (begun_in es k) piece) all.0.order most in
    record { answer = rest.answer; took = rest.took; settled = λ key x. rw (other) (rest.settled key x) }
untold start (Answered m k answer ∷ es) n all most =
    let rest = untold start es n all.1 most in
    let other : (k == n) ≡ false = open_older es k n (may_answer es k (begun_in es k) answer) all.0.order most in
    record { answer = rw (other) rest.answer; took = rest.took; settled = rest.settled }

-- ---- sectors

-- what took place settled
or_monotone : (a b c : Bool) → (b ≡ true → c ≡ true) → (a || b) ≡ true → (a || c) ≡ true
or_monotone true b c more is = refl
or_monotone false b c more is = more is

or_right : (a c : Bool) → c ≡ true → (a || c) ≡ true
or_right true c is = refl
or_right false c is = is

pub took_settled : (es : List ChronicleEntry) (n key x : ℕ) → took_at es n key x ≡ true → settled_at es n key x ≡ true
took_settled [] n key x is = is
took_settled (Begun m k line own ∷ es) n key x is = took_settled es n key x is
took_settled (Opened m k version ∷ es) n key x is = took_settled es n key x is
took_settled (Took m k piece ∷ es) n key x is =
    or_monotone ((k == n) && piece_covers piece key x) (took_at es n key x) (settled_at es n key x) (took_settled es n key x) is
took_settled (Changed m k version ∷ es) n key x is = took_settled es n key x is
took_settled (GivenUp m k ∷ es) n key x is = took_settled es n key x is
took_settled (Failed m k piece ∷ es) n key x is =
    or_right ((k == n) && piece_covers piece key x) (settled_at es n key x) (took_settled es n key x is)
took_settled (Answered m k answer ∷ es) n key x is = took_settled es n key x is

-- a line without a Took has none of a sector
took_none : (a p b c : Bool) → (a || b) ≡ false → (b ≡ false → c ≡ false) → ((a && p) || c) ≡ false
took_none true p b c none less = cc
took_none false p b c none less = less none

pub untaken : (es : List ChronicleEntry) (n key x : ℕ) → has_took es n ≡ false → took_at es n key x ≡ false
untaken [] n key x none = refl
untaken (Begun m k line own ∷ es) n key x none = untaken es n key x none
untaken (Opened m k version ∷ es) n key x none = untaken es n key x none
untaken (Took m k piece ∷ es) n key x none =
    took_none (k == n) (piece_covers piece key x) (has_took es n) (took_at es n key x) none (untaken es n key x)
untaken (Changed m k version ∷ es) n key x none = untaken es n key x (changed (k == n) (has_took es n) none)
  where
    changed : (a b : Bool) → (a || b) ≡ false → b ≡ false
    changed true b is = cc
    changed false b is = is
untaken (GivenUp m k ∷ es) n key x none = untaken es n key x none
untaken (Failed m k piece ∷ es) n key x none = untaken es n key x none
untaken (Answered m k answer ∷ es) n key x none = untaken es n key x none

-- ---- a test of each sector of a range

within : (a n x : ℕ) → a ≤ x → x < a + n → in_range a n x ≡ true
within a n x from below = and_both (nat_le a x) (nat_lt x (a + n)) (grind (arith, nat_tests)) (lt_true x (a + n) below)

inside : (a n x : ℕ) → in_range a n x ≡ true → (a ≤ x) × (x < a + n)
inside a n x is =
    let both = and_cases (nat_le a x) (nat_lt x (a + n)) is in
    (true_le a x both.0, true_lt x (a + n) both.1)

pub in_range_at : (first count k : ℕ) → k < count → in_range first count (first + k) ≡ true
in_range_at first count k below = within first count (first + k) (omega arith) (omega (arith, below))

pub all_passed : (test : ℕ → Bool) (first count : ℕ) → ((x : ℕ) → in_range first count x ≡ true → test x ≡ true)
    → all_in test (range_with_len first count) ≡ true
all_passed test first zero each = refl
all_passed test first (suc count) each =
    and_both (test first) (all_in test (range_with_len (first + 1) count))
    (each first (within first (suc count) first (omega arith) (omega arith)))
    (all_passed test (first + 1) count (λ x is. let i = inside (first + 1) count x is in
    each x (within first (suc count) x (let from = i.0 in omega (arith, from)) (let below = i.1 in omega (arith, below)))))

pub each_passed : (test : ℕ → Bool) (first count : ℕ) → all_in test (range_with_len first count) ≡ true → (x : ℕ) → first ≤ x
    → x < first + count
    → test x ≡ true
each_passed test first zero all x least most = absurd (omega (arith, least, most))
each_passed test first (suc count) all x least most =
    let both = and_cases (test first) (all_in test (range_with_len (first + 1) count)) all in
    elim (first == x) as (λ b. (first == x) ≡ b → test x ≡ true) [
      | true ↦ λ e. subst (λ (k : ℕ). test k ≡ true) (eq_of first x e) both.0
      | false ↦ λ e.
          let apart : first ≡ x → ⊥ = λ same. true≢false (sym (eq_to first x same) ∙ e) in
          each_passed test (first + 1) count both.1 x (omega (arith, least, apart)) (omega (arith, most))
    ] refl

-- one that doesn't pass
pub none_passed : (test : ℕ → Bool) (first count x : ℕ) → in_range first count x ≡ true → test x ≡ false
    → all_in test (range_with_len first count) ≡ false
none_passed test first count x is fails =
    elim (all_in test (range_with_len first count)) as (λ b. all_in test (range_with_len first count) ≡ b → b ≡ false) [
      | true ↦ λ e. let i = inside first count x is in
          absurd (true≢false (sym (each_passed test first count e x i.0 i.1) ∙ fails))
      | false ↦ λ e. refl
    ] refl

-- ---- the lines

-- one more line
pub pushed_at : {X : Type 0} (xs : List X) (x : X) (n : ℕ) → length xs ≡ n → slice_get (xs ++ x ∷ []) n ≡ Some x
pushed_at [] x zero is = refl
pushed_at [] x (suc n) is = absurd (omega (arith, is))
pushed_at (y ∷ xs) x zero is = absurd (omega (arith, is))
pushed_at (y ∷ xs) x (suc n) is = pushed_at xs x n (omega (arith, is))

pub pushed_other : {X : Type 0} (xs : List X) (x : X) (n : ℕ) → (length xs ≡ n → ⊥) → slice_get (xs ++ x ∷ []) n ≡ slice_get xs n
pushed_other [] x zero apart = absurd (apart refl)
pushed_other [] x (suc n) apart = refl
pushed_other (y ∷ xs) x zero apart = refl
pushed_other (y ∷ xs) x (suc n) apart = pushed_other xs x n (λ e. apart (ap suc e))

pub counted : (es : List ChronicleEntry) → count_begun es ≡ length (begun_list es)
counted [] = refl
counted (Begun m k line key ∷ es) =
    let more : length (begun_list es ++ line ∷ []) ≡ length (begun_list es) + 1 = length_push (begun_list es) line in
    omega (arith, more, counted es)
counted (Opened m k version ∷ es) = counted es
counted (Took m k piece ∷ es) = counted es
counted (Changed m k version ∷ es) = counted es
counted (GivenUp m k ∷ es) = counted es
counted (Failed m k piece ∷ es) = counted es
counted (Answered m k answer ∷ es) = counted es

-- each is known by its number
pub begun_at : (start : ℕ) (es : List ChronicleEntry) (n : ℕ) → AllOrdered start es
    → option_map (λ (l : Line × Option ℕ). l.0) (begun_in es n) ≡ slice_get (begun_list es) n
begun_at start [] n all = refl
begun_at start (Begun m k line key ∷ es) n all =
    let here : k ≡ count_begun es = eq_of k (count_begun es) (and_cases (k == count_begun es) (may_begin es line) all.0.order).0 in
    let number : length (begun_list es) ≡ k = sym (counted es) ∙ sym here in
    elim (k == n) as (λ b. (k == n) ≡ b
    → option_map (λ (l : Line × Option ℕ). l.0) (cond b (Some (line, key)) (begun_in es n)) ≡ slice_get (begun_list es ++ line ∷ []) n) [
      | true ↦ λ e. sym (pushed_at (begun_list es) line n (number ∙ eq_of k n e))
      | false ↦ λ e.
          begun_at start es n all.1
          ∙ sym (pushed_other (begun_list es) line n (λ s. true≢false (sym (eq_to k n (sym number ∙ s)) ∙ e)))
    ] refl
begun_at start (Opened m k version ∷ es) n all = begun_at start es n all.1
begun_at start (Took m k piece ∷ es) n all = begun_at start es n all.1
begun_at start (Changed m k version ∷ es) n all = begun_at start es n all.1
begun_at start (GivenUp m k ∷ es) n all = begun_at start es n all.1
begun_at start (Failed m k piece ∷ es) n all = begun_at start es n all.1
begun_at start (Answered m k answer ∷ es) n all = begun_at start es n all.1

-- ---- open lines

-- what holds of each line that isn't answered, by its number, holds of those that are open
pub every_open : (test : (ℕ × Line) → Bool) (start : ℕ) (all es : List ChronicleEntry) → AllOrdered start es
    → ((n : ℕ) (l : Line × Option ℕ) → n < count_begun es → begun_in es n ≡ Some l → is_answered all n ≡ false → test (n, l.0) ≡ true)
    → every test (open_among all es) ≡ true
every_open test start all [] ordered each = refl
every_open test start all (Begun m k line key ∷ es) ordered each =
    let here : k ≡ count_begun es = eq_of k (count_begun es) (and_cases (k == count_begun es) (may_begin es line) ordered.0.order).0 in
    let rest : every test (open_among all es) ≡ true =
    every_open test start all es ordered.1
    (λ n l below is unanswered. each n l (omega (arith, below))
    (older n (omega (arith, below, here)) ∙ is) unanswered) in
    at (is_answered all k) refl here rest
  where
    older : (n : ℕ) → n < k → begun_in (Begun m k line key ∷ es) n ≡ begun_in es n
    older n below = rw (other_number n k below) refl

    own : begun_in (Begun m k line key ∷ es) k ≡ Some (line, key)
    own = rw (eq_to k k refl) refl

    at : (b : Bool) → is_answered all k ≡ b → k ≡ count_begun es → every test (open_among all es) ≡ true
        → every test (if b then open_among all es else (k, line) ∷ open_among all es) ≡ true
    at true e here rest = rest
    at false e here rest =
        and_both (test (k, line)) (every test (open_among all es)) (each k (line, key) (omega (arith, here)) own e) rest
every_open test start all (Opened m k version ∷ es) ordered each = every_open test start all es ordered.1 each
every_open test start all (Took m k piece ∷ es) ordered each = every_open test start all es ordered.1 each
every_open test start all (Changed m k version ∷ es) ordered each = every_open test start all es ordered.1 each
every_open test start all (GivenUp m k ∷ es) ordered each = every_open test start all es ordered.1 each
every_open test start all (Failed m k piece ∷ es) ordered each = every_open test start all es ordered.1 each
every_open test start all (Answered m k answer ∷ es) ordered each = every_open test start all es ordered.1 each
