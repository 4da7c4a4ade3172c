-- What an answer ok makes of the base of a sector: it stays, or it is a write that the answer makes last.
use Rattle.std.proofs.Common.{◌≡◌, ◌≤◌, ◌⊎◌, ℕ, ◌==◌, ◌&&◌, ◌||◌, Bool, true, false, if◌then◌else◌, List, [], ◌∷◌, Option, Some, None, inl}
use Rattle.std.proofs.Common.{inr, ⊎_elim, refl, sym, ap, ◌∙◌, arith}
use Rattle.std.proofs.lemmas.Bool.{or_left, or_right}
use Rattle.line_answers.specs.declared.answer.Answer.TheVariants as answer
use Rattle.list_laws.proofs.Bools.{and_both, and_cases, eq_of, or_cases}
use Rattle.data_lines.specs.DataLines.{is_flush}
use Rattle.volume_history.proofs.Bases.{each_cut_from}
use Rattle.volume_history.specs.Candidates.{base, base_from, bears, is_acked, is_flush_of, is_ok, is_through_line, is_write}
use Rattle.volume_history.specs.Chronicles.{Answered, Begun, Changed, ChronicleEntry, Failed, GivenUp, Opened, Origin, Took, answer_in}
use Rattle.volume_history.specs.Chronicles.{begun_in, count_begun, has_answer, is_number}
use Rattle.volume_history.specs.Commands.{is_fine}
use Rattle.volume_history.specs.Cuts.{AreNumbered, EachCut, FlushesVolume, IsAckedBy, IsMadeLast, Unless}

-- a number that is this one
pub number_of : (own : Option ℕ) (n : ℕ) → is_number own n ≡ true → own ≡ Some n
number_of None n is = cc
number_of (Some k) n is = ap (λ (j : ℕ). Some j) (eq_of k n is)

-- a line that flushes the volume was begun among the newer entries
abbrev IsPassed : List ChronicleEntry → ℕ → ℕ → List ChronicleEntry → Type 0
IsPassed all n key es = (count_begun es ≤ n) × FlushesVolume all n key

-- older entries are numbered too
pub numbered_older : (all : List ChronicleEntry) (e : ChronicleEntry) (es : List ChronicleEntry) → AreNumbered all (e ∷ es)
    → AreNumbered all es
numbered_older all (Begun m k line key) es are = are.2
numbered_older all (Opened m k version) es are = are
numbered_older all (Took m k piece) es are = are
numbered_older all (Changed m k version) es are = are
numbered_older all (GivenUp m k) es are = are
numbered_older all (Failed m k piece) es are = are
numbered_older all (Answered m k answer) es are = are

module _ (o : Origin) (all : List ChronicleEntry) (m n key x : ℕ) where
  -- the history with the answer
  abbrev later : List ChronicleEntry
  later = Answered m n answer.Fine ∷ all

  -- a line that was answered ok still is
  ok_stays : (k : ℕ) → is_ok all k ≡ true → is_ok later k ≡ true
  ok_stays k ok = at (n == k) refl
    where
      at : (t : Bool) → t ≡ (n == k) → has_answer is_fine (if t then Some (m, answer.Fine) else answer_in all k) ≡ true
      at true e = refl
      at false e = ok

  -- one that is was, or is this one
  ok_new : (k : ℕ) → is_ok later k ≡ true → (is_ok all k ≡ true) ⊎ (n ≡ k)
  ok_new k ok = at (n == k) refl ok
    where
      at : (t : Bool) → t ≡ (n == k) → has_answer is_fine (if t then Some (m, answer.Fine) else answer_in all k) ≡ true
          → (is_ok all k ≡ true) ⊎ (n ≡ k)
      at true e h = inr (eq_of n k (sym e))
      at false e h = inl h

  acked_stays : (fl fl' : Bool) (e : ChronicleEntry) (es : List ChronicleEntry) → (fl ≡ true → fl' ≡ true) → is_acked all fl e es ≡ true
      → is_acked later fl' e es ≡ true
  acked_stays fl fl' (Took m' k piece) es mono h =
      ⊎_elim (λ f. or_left fl' _ (mono f))
      (λ t. let p = and_cases (is_through_line (begun_in es k)) (is_ok all k) t in or_right fl' _ (and_both _ _ p.0 (ok_stays k p.1)))
      (or_cases fl (is_through_line (begun_in es k) && is_ok all k) h)
  acked_stays fl fl' (Begun m' k line key') es mono h = cc
  acked_stays fl fl' (Opened m' k version) es mono h = cc
  acked_stays fl fl' (Changed m' k version) es mono h = cc
  acked_stays fl fl' (GivenUp m' k) es mono h = cc
  acked_stays fl fl' (Failed m' k piece) es mono h = cc
  acked_stays fl fl' (Answered m' k answer) es mono h = cc

  acked_new : (fl fl' : Bool) (e : ChronicleEntry) (es : List ChronicleEntry)
      → (fl' ≡ true → (fl ≡ true) ⊎ IsPassed all n key es) → is_acked later fl' e es ≡ true
      → (is_acked all fl e es ≡ true) ⊎ IsAckedBy all n key e es
  acked_new fl fl' (Took m' k piece) es passed h =
      ⊎_elim (λ f. ⊎_elim (λ (old : fl ≡ true). inl (or_left fl _ old)) (λ p. inr (inr p)) (passed f))
      (λ t. let p = and_cases (is_through_line (begun_in es k)) (is_ok later k) t in
      ⊎_elim (λ old. inl (or_right fl _ (and_both _ _ p.0 old))) (λ (own : n ≡ k). inr (inl (own, p.0))) (ok_new k p.1))
      (or_cases fl' (is_through_line (begun_in es k) && is_ok later k) h)
  acked_new fl fl' (Begun m' k line key') es passed h = cc
  acked_new fl fl' (Opened m' k version) es passed h = cc
  acked_new fl fl' (Changed m' k version) es passed h = cc
  acked_new fl fl' (GivenUp m' k) es passed h = cc
  acked_new fl fl' (Failed m' k piece) es passed h = cc
  acked_new fl fl' (Answered m' k answer) es passed h = cc

  flush_stays : (e : ChronicleEntry) → is_flush_of all key e ≡ true → is_flush_of later key e ≡ true
  flush_stays (Begun m' k line key') h =
      let p = and_cases (is_flush line.command) (is_number key' key && is_ok all k) h in
      let q = and_cases (is_number key' key) (is_ok all k) p.1 in
      and_both _ _ p.0 (and_both _ _ q.0 (ok_stays k q.1))
  flush_stays (Opened m' k version) h = cc
  flush_stays (Took m' k piece) h = cc
  flush_stays (Changed m' k version) h = cc
  flush_stays (GivenUp m' k) h = cc
  flush_stays (Failed m' k piece) h = cc
  flush_stays (Answered m' k answer) h = cc

  -- what is passed is passed by older entries
  passed_on : (e : ChronicleEntry) (es : List ChronicleEntry) → IsPassed all n key (e ∷ es) → IsPassed all n key es
  passed_on (Begun m' k line key') es p = (omega (arith, p.0), p.1)
  passed_on (Opened m' k version) es p = p
  passed_on (Took m' k piece) es p = p
  passed_on (Changed m' k version) es p = p
  passed_on (GivenUp m' k) es p = p
  passed_on (Failed m' k piece) es p = p
  passed_on (Answered m' k answer) es p = p

  flush_new : (e : ChronicleEntry) (es : List ChronicleEntry) → AreNumbered all (e ∷ es) → is_flush_of later key e ≡ true
      → (is_flush_of all key e ≡ true) ⊎ IsPassed all n key es
  flush_new (Begun m' k line key') es are h =
      let p = and_cases (is_flush line.command) (is_number key' key && is_ok later k) h in
      let q = and_cases (is_number key' key) (is_ok later k) p.1 in
      ⊎_elim (λ old. inl (and_both _ _ p.0 (and_both _ _ q.0 old)))
      (λ (own : n ≡ k). inr (
        let number : k ≡ count_begun es = are.0 in omega (arith, number, own),
        record {
          line = line;
          begun =
              ap (λ (j : ℕ). begun_in all j) own ∙ are.1 ∙ ap (λ (j : Option ℕ). Some (line, j)) (number_of key' key q.0);
          flushes = p.0;
        },
      ))
      (ok_new k q.1)
  flush_new (Opened m' k version) es are h = cc
  flush_new (Took m' k piece) es are h = cc
  flush_new (Changed m' k version) es are h = cc
  flush_new (GivenUp m' k) es are h = cc
  flush_new (Failed m' k piece) es are h = cc
  flush_new (Answered m' k answer) es are h = cc

  -- what holds of the base, and of each write that the answer makes last, holds of the base behind the answer
  module _ (P : List ChronicleEntry → Type 0) where
    abbrev Holds : ChronicleEntry → List ChronicleEntry → Type 0
    Holds e older = IsAckedBy all n key e older → P (e ∷ older)

    -- the base among older entries than this one, without the answer and with it
    abbrev before : Bool → ChronicleEntry → List ChronicleEntry → List ChronicleEntry
    before fl e es = base_from o all (fl || is_flush_of all key e) key x es

    abbrev behind : Bool → ChronicleEntry → List ChronicleEntry → List ChronicleEntry
    behind fl e es = base_from o later (fl || is_flush_of later key e) key x es

    pub base_by_ok : (fl fl' : Bool) (es : List ChronicleEntry) → (fl ≡ true → fl' ≡ true)
        → (fl' ≡ true → (fl ≡ true) ⊎ IsPassed all n key es) → AreNumbered all es
        → P (base_from o all fl key x es) → EachCut Holds o key x es → P (base_from o later fl' key x es)
    base_by_ok fl fl' [] mono passed are old cuts = old
    base_by_ok fl fl' (e ∷ es) mono passed are old cuts =
        born (bears o key x e es)
        (base_by_ok (fl || is_flush_of all key e) (fl' || is_flush_of later key e) es
        (λ t. ⊎_elim (λ f. or_left fl' _ (mono f)) (λ f. or_right fl' _ (flush_stays e f)) (or_cases fl (is_flush_of all key e) t))
        (λ t. ⊎_elim (λ f. ⊎_elim (λ g. inl (or_left fl _ g)) (λ g. inr (passed_on e es g)) (passed f))
        (λ f. ⊎_elim (λ g. inl (or_right fl _ g)) (λ g. inr g) (flush_new e es are f)) (or_cases fl' (is_flush_of later key e) t))
        (numbered_older all e es are))
        old cuts
      where
        passed_here : fl' ≡ true → (fl ≡ true) ⊎ IsPassed all n key es
        passed_here t = ⊎_elim (λ g. inl g) (λ g. inr (passed_on e es g)) (passed t)

        acked : (a a' : Bool) → a ≡ is_acked all fl e es → a' ≡ is_acked later fl' e es
            → (P (before fl e es) → EachCut Holds o key x es → P (behind fl' e es)) → P (if a then e ∷ es else before fl e es)
            → Holds e es → EachCut Holds o key x es → P (if a' then e ∷ es else behind fl' e es)
        acked true true s s' rest h w c = h
        acked true false s s' rest h w c =
            absurd (let t : is_acked later fl' e es ≡ true = acked_stays fl fl' e es mono (sym s) in let f : false ≡ true = s' ∙ t in cc)
        acked false true s s' rest h w c =
            ⊎_elim (λ (t : is_acked all fl e es ≡ true). absurd (let f : false ≡ true = s ∙ t in cc)) (λ by. w by)
            (acked_new fl fl' e es passed_here (sym s'))
        acked false false s s' rest h w c = rest h c

        writes : (w : Bool) → w ≡ is_write key x e es → (P (before fl e es) → EachCut Holds o key x es → P (behind fl' e es))
            → P (if w && is_acked all fl e es then e ∷ es else before fl e es) → (is_write key x e es ≡ true → Holds e es)
            → EachCut Holds o key x es → P (if w && is_acked later fl' e es then e ∷ es else behind fl' e es)
        writes true s rest h w c = acked (is_acked all fl e es) (is_acked later fl' e es) refl refl rest h (w (sym s)) c
        writes false s rest h w c = rest h c

        born : (b : Bool) → (P (before fl e es) → EachCut Holds o key x es → P (behind fl' e es))
            → P (if b || (is_write key x e es && is_acked all fl e es) then e ∷ es else before fl e es)
            → Unless b ((is_write key x e es ≡ true → Holds e es) × EachCut Holds o key x es)
            → P (if b || (is_write key x e es && is_acked later fl' e es) then e ∷ es else behind fl' e es)
        born true rest h c = h
        born false rest h c = writes (is_write key x e es) refl rest h c.0 c.1

-- so the base stays, or is such a write
pub moved_by_ok : (o : Origin) (es : List ChronicleEntry) (m n key x : ℕ) → AreNumbered es es
    → IsMadeLast es n key x (base o es key x) (base o (Answered m n answer.Fine ∷ es) key x)
moved_by_ok o es m n key x are =
    base_by_ok o es m n key x (IsMadeLast es n key x (base o es key x)) false false es (λ f. f) (λ f. let e : false ≡ true = f in cc) are
    (inl refl)
    (each_cut_from o key x (λ (l : List ChronicleEntry). Unit {0})
    (λ e older. IsAckedBy es n key e older → IsMadeLast es n key x (base o es key x) (e ∷ older)) (λ e older s. tt)
    (λ e older s w by. inr (e, older, refl, w, by)) es tt)
