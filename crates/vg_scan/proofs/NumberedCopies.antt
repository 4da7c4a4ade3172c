-- Copies by the sizes and sums at which they were read.
use Rattle.std.proofs.Common.{◌≡◌, ℕ, ◌++◌, Bool, true, false, ◌==◌, cond, List, [], ◌∷◌, length, None, Some, refl, sym, ap, subst, ◌∙◌}
use Rattle.std.specs.Prelude.{slice_get}
use Rattle.std.specs.BTreeMap.{BTreeMap, Updates, get, is_at}
use Rattle.std.specs.Cmp.{both_tied, unsigned_ties}
use Rattle.std.specs.Ordering.{nat_cmp}
use Rattle.std.proofs.lemmas.Bool.{and_parts, eqb-true}
use Rattle.std.proofs.lemmas.Option.{same_Some, slice_get_within}
use Rattle.mda_header.specs.declared.header.Locn.{Locn}
use Rattle.scan_rules.specs.declared.readings.GroupCopy.{GroupCopy}
use Rattle.vg_scan.specs.Collected.{AreNumbered, IsKnown, WasReadAt, key_cmp}
use Rattle.vg_scan.proofs.Continued.{last_copy, older_copy}

-- a size and a sum are met by themselves alone
same_key : (a b : ℕ × ℕ) → is_at (key_cmp a) b ≡ true → a ≡ b
same_key a b is =
    let parts =
    and_parts (a.0 == b.0) (a.1 == b.1) (both_tied (a.0 == b.0) (a.1 == b.1) (nat_cmp a.0 b.0) (nat_cmp a.1 b.1) (unsigned_ties a.0 b.0)
    (unsigned_ties a.1 b.1) ∙ is) in
    λ i. (eqb-true a.0 b.0 parts.0 i, eqb-true a.1 b.1 parts.1 i)

-- a copy that was taken in before
older : (copies : List GroupCopy) (copy : GroupCopy) (key : ℕ × ℕ) (number : ℕ) → WasReadAt copies key number
    → WasReadAt (copies ++ copy ∷ []) key number
older copies copy key number was =
    (was.0, was.1, was.2, older_copy copies (copy ∷ []) number (slice_get_within copies number was.1 was.3) ∙ was.3, was.4)

-- one copy more, at the size and sum of its entry
pub numbered_more : (old new : BTreeMap (ℕ × ℕ) ℕ) (copies : List GroupCopy) (locn : Locn) (copy : GroupCopy)
    → Updates key_cmp old new (locn.size, locn.sum) (Some (length copies)) → AreNumbered old copies → IsKnown locn copy
    → AreNumbered new (copies ++ copy ∷ [])
numbered_more old new copies locn copy updates numbered known key number at =
    by (is_at (key_cmp (locn.size, locn.sum)) key) refl (sym (updates.0 key) ∙ at) where
      by : (here : Bool) → is_at (key_cmp (locn.size, locn.sum)) key ≡ here
          → cond here (Some (length copies)) (get key_cmp old key) ≡ Some number → WasReadAt (copies ++ copy ∷ []) key number
      by true is got = (
        locn,
        copy,
        same_key (locn.size, locn.sum) key is,
        ap (slice_get (copies ++ copy ∷ [])) (sym (same_Some (length copies) number got)) ∙ last_copy copies copy,
        known,
      )
      by false is got = older copies copy key number (numbered key number got)

-- the same of the copies that there are then
pub numbered_by : (old new : BTreeMap (ℕ × ℕ) ℕ) (copies grown : List GroupCopy) (locn : Locn) (copy : GroupCopy) (number : ℕ)
    → number ≡ length copies → grown ≡ copies ++ copy ∷ []
    → Updates key_cmp old new (locn.size, locn.sum) (Some number) → AreNumbered old copies → IsKnown locn copy → AreNumbered new grown
numbered_by old new copies grown locn copy number last more updates numbered known =
    subst (AreNumbered new) (sym more) (numbered_more old new copies locn copy
    (subst (λ (n : ℕ). Updates key_cmp old new (locn.size, locn.sum) (Some n)) last updates) numbered known)

-- a number that was put in is taken out again
pub numbered_less : (old mid new : BTreeMap (ℕ × ℕ) ℕ) (copies same : List GroupCopy) (place : ℕ × ℕ) (number : ℕ)
    → Updates key_cmp old mid place (Some number) → Updates key_cmp mid new place None → same ≡ copies → AreNumbered old copies
    → AreNumbered new same
numbered_less old mid new copies same place number put out kept numbered key at got =
    by (is_at (key_cmp place) key) refl (sym (out.0 key) ∙ got) where
      by : (here : Bool) → is_at (key_cmp place) key ≡ here → cond here None (get key_cmp mid key) ≡ Some at → WasReadAt same key at
      by true is there = absurd cc
      by false is there = subst (λ (l : List GroupCopy). WasReadAt l key at) (sym kept) (numbered key at (sym (put.2 key is) ∙ there))
