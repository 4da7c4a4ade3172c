-- Entries of a map, marks of disks and flushes in flight, as events change them.
use Rattle.std.proofs.Common.{◌≡◌, ◌<◌, ℕ, zero, suc, ◌+◌, Bool, true, false, not, cond, ◌||◌, nat_eq, nat_le, nat_lt, List, []}
use Rattle.std.proofs.Common.{◌∷◌, length, get_or, set, max, refl, sym, ap, ◌∙◌, arith}
use Rattle.std.specs.Prelude.{AllPairs, Option, Some, remove}
use Rattle.std.specs.List.{list_any, position_or_len}
use Rattle.std.specs.Map.{lookup}
use Rattle.std.proofs.lemmas.Bool.{and_from, and_parts, eqb-true, eqb-false, eq-eqb, le-leb, leb-true, leb-false}
use Rattle.std.proofs.lemmas.Bool.{lt-leb, ltb-true, ltb-false, ne_eqb}
use Rattle.std.proofs.lemmas.List.Edits.{get_or-remove_above, get_or-remove_below, length-remove}
use Rattle.indexmap.specs.IndexMap.{insert_entry}
use Rattle.flush_plan.specs.declared.records.Marks.{Marks}
use Rattle.flush_plan.specs.declared.records.Write.{Write}
use Rattle.flush_plan.specs.declared.records.Flush.{Flush}
use Rattle.flush_plan.specs.Plans.{same_write}

-- a write is the same as itself
pub same_itself : (w : Write) → same_write w w ≡ true
same_itself w = and_from (nat_eq w.number w.number) (nat_eq w.pv w.pv) (eq-eqb w.number w.number refl) (eq-eqb w.pv w.pv refl)

-- what is the same as another is told apart as that is
pub same_told : (w x y : Write) → same_write w x ≡ true → same_write y x ≡ same_write y w
same_told w x y same =
    let parts = and_parts (nat_eq w.number x.number) (nat_eq w.pv x.pv) same in
    let number : w.number ≡ x.number = eqb-true w.number x.number parts.0 in
    let pv : w.pv ≡ x.pv = eqb-true w.pv x.pv parts.1 in
    rw (number, pv) refl

-- the entry that was put in
pub lookup_put : (es : List (Write × ℕ)) (w : Write) (place : ℕ) → lookup (same_write w) (insert_entry same_write es w place) ≡ Some place
lookup_put [] w place = rw (same_itself w) refl
lookup_put (e ∷ es) w place =
    elim (same_write w e.0) as (λ b. same_write w e.0 ≡ b
    → lookup (same_write w) (cond b ((e.0, place) ∷ es) (e ∷ insert_entry same_write es w place)) ≡ Some place) [
      | true ↦ λ t. rw (t) refl
      | false ↦ λ t. rw (t) (lookup_put es w place)
    ] refl

-- each other one
pub lookup_other : (es : List (Write × ℕ)) (w x : Write) (place : ℕ) → same_write x w ≡ false
    → lookup (same_write x) (insert_entry same_write es w place) ≡ lookup (same_write x) es
lookup_other [] w x place other = rw (other) refl
lookup_other (e ∷ es) w x place other =
    elim (same_write w e.0) as (λ b. same_write w e.0 ≡ b
    → lookup (same_write x) (cond b ((e.0, place) ∷ es) (e ∷ insert_entry same_write es w place)) ≡ lookup (same_write x) (e ∷ es)) [
      | true ↦ λ t. let apart : same_write x e.0 ≡ false = same_told w e.0 x t ∙ other in rw (apart) refl
      | false ↦ λ t. ap (λ (o : Option ℕ). cond (same_write x e.0) (Some e.1) o) (lookup_other es w x place other)
    ] refl

-- a number of the marks that a write of marks leaves
pub mark_kept : (f : Marks → ℕ) (marks : List Marks) (i : ℕ) (m d : Marks) → f m ≡ f (get_or marks i d) → (k : ℕ)
    → f (get_or (set marks i m) k d) ≡ f (get_or marks k d)
mark_kept f [] i m d same k = refl
mark_kept f (x ∷ marks) zero m d same zero = same
mark_kept f (x ∷ marks) zero m d same (suc k) = refl
mark_kept f (x ∷ marks) (suc i) m d same zero = refl
mark_kept f (x ∷ marks) (suc i) m d same (suc k) = mark_kept f marks i m d same k

-- the marks that were written, and each others
pub mark_written : (marks : List Marks) (i : ℕ) (m d : Marks) → i < length marks → get_or (set marks i m) i d ≡ m
mark_written [] i m d lt = absurd (omega arith)
mark_written (x ∷ marks) zero m d lt = refl
mark_written (x ∷ marks) (suc i) m d lt = mark_written marks i m d (omega arith)

pub mark_other : (marks : List Marks) (i k : ℕ) (m d : Marks) → nat_eq i k ≡ false → get_or (set marks i m) k d ≡ get_or marks k d
mark_other [] i k m d other = refl
mark_other (x ∷ marks) zero zero m d other = absurd (eqb-false 0 0 other refl)
mark_other (x ∷ marks) zero (suc k) m d other = refl
mark_other (x ∷ marks) (suc i) zero m d other = refl
mark_other (x ∷ marks) (suc i) (suc k) m d other = mark_other marks i k m d (ne_eqb i k (λ e. eqb-false (suc i) (suc k) other (ap suc e)))

-- a place up to the greater of two
pub up_to_greater : (place a b : ℕ) → nat_le place (max a b) ≡ (nat_le place b || nat_le place a)
up_to_greater place a b =
    elim (nat_le place b) as (λ t. nat_le place b ≡ t → nat_le place (max a b) ≡ (t || nat_le place a)) [
      | true ↦ λ t. le-leb place (max a b) (omega (arith, leb-true place b t))
      | false ↦ λ t.
          elim (nat_le place a) as (λ s. nat_le place a ≡ s → nat_le place (max a b) ≡ s) [
            | true ↦ λ s. le-leb place (max a b) (omega (arith, leb-true place a s))
            | false ↦ λ s. lt-leb place (max a b) (omega (arith, leb-false place a s, leb-false place b t))
          ] refl
    ] refl

-- the first that passes does
pub passes_at : {X : Type 0} (p : X → Bool) (xs : List X) (d : X) → list_any p xs ≡ true → p (get_or xs (position_or_len p xs) d) ≡ true
passes_at p [] d e = cc
passes_at p (x ∷ xs) d e =
    elim (p x) as (λ b. p x ≡ b → (b || list_any p xs) ≡ true → p (get_or (x ∷ xs) (cond (not b) (1 + position_or_len p xs) 0) d) ≡ true) [
      | true ↦ λ t h. t
      | false ↦ λ t h. let next : 1 + position_or_len p xs ≡ suc (position_or_len p xs) = omega arith in rw (next) (passes_at p xs d h)
    ] refl e

-- tags that differ do so either way
pub tags_swap : (a b : ℕ) → nat_eq a b ≡ false → nat_eq b a ≡ false
tags_swap a b h = ne_eqb b a (λ e. eqb-false a b h (sym e))

-- those that are left have other tags than one that was taken out
pub tags_left : (flushes : List Flush) (at : ℕ) → at < length flushes → AllPairs (λ (f g : Flush). nat_eq f.tag g.tag ≡ false) flushes
    → (k : ℕ) (d : Flush) → k < length (remove flushes at) → nat_eq (get_or flushes at d).tag (get_or (remove flushes at) k d).tag ≡ false
tags_left flushes at lt apart k d within =
    let count : length (remove flushes at) + 1 ≡ length flushes = length-remove flushes at lt in
    elim (nat_lt k at) as (λ b. nat_lt k at ≡ b → nat_eq (get_or flushes at d).tag (get_or (remove flushes at) k d).tag ≡ false) [
      | true ↦ λ t. rw (get_or-remove_below flushes at d k (ltb-true k at t) lt)
          (tags_swap (get_or flushes k d).tag (get_or flushes at d).tag (apart k at d (ltb-true k at t) lt))
      | false ↦ λ t. rw (get_or-remove_above flushes at d k (ltb-false k at t) lt)
          (apart at (k + 1) d (omega (arith, ltb-false k at t)) (omega arith))
    ] refl
