-- A part that is laid on runs, one run after another.
use Rattle.std.proofs.Common.{◌≡◌, ℕ, ◌+◌, ◌-◌, ◌<◌, ◌≤◌, List, [], ◌∷◌, ◌++◌, length, get_or, drop, refl, sym, ap, ◌∙◌, add-one}
use Rattle.std.proofs.Common.{append_assoc, append-nil, drop-cons, drop_of_length-le}
use Rattle.extent_alloc.specs.Laying.{laid_on, left_of, pieces}
use Rattle.extent_alloc.specs.declared.part.Part.{Part}
use Rattle.extent_alloc.specs.declared.part.PvRun.{PvRun}

abbrev none : PvRun
none = record { pv = 0; first = 0; count = 0 }

-- nothing is left of the part
pieces_none : (part : Part) (from : ℕ) (runs : List PvRun) → pieces part from 0 runs ≡ []
pieces_none part from [] = refl
pieces_none part from (run ∷ runs) = refl

left_none : (runs : List PvRun) → left_of 0 runs ≡ runs
left_none [] = refl
left_none (run ∷ runs) = refl

-- What a loop over the runs keeps: the runs are as they came, and what was laid and what is still to be laid is all.
pub record Laying (part : Part) (before : List Part) (came : List PvRun) (first : ℕ) (laid : List Part) (runs : List PvRun)
    (done at : ℕ) : Type 0 where
  pub within : done ≤ part.extents
  pub same : runs ≡ came
  pub all : laid ++ pieces part done (part.extents - done) (drop at runs) ≡ before ++ pieces part 0 part.extents (drop first came)
  pub rest : left_of (part.extents - done) (drop at runs) ≡ left_of part.extents (drop first came)

module _ (part : Part) (before : List Part) (came : List PvRun) (first : ℕ) (laid : List Part) (runs : List PvRun) (done at : ℕ)
    (kept : Laying part before came first laid runs done at) where
  -- the part is laid, before the run
  pub laid_whole : part.extents - done ≡ 0
      → (laid ≡ before ++ pieces part 0 part.extents (drop first came)) × (drop at runs ≡ left_of part.extents (drop first came))
  laid_whole over = (
    sym (append-nil laid) ∙ ap (λ some. laid ++ some)
        (sym (ap (λ n. pieces part done n (drop at runs)) over ∙ pieces_none part done (drop at runs))) ∙ kept.all,
    sym (ap (λ n. left_of n (drop at runs)) over ∙ left_none (drop at runs)) ∙ kept.rest,
  )

-- the next part is laid, and what is left of the runs goes to the others
pub laid_next : (parts : List Part) (i : ℕ) (part : Part) (laid more : List Part) (runs left : List PvRun) (at next : ℕ) → i < length parts
    → part ≡ get_or parts i part
    → more ≡ laid ++ pieces part 0 part.extents (drop at runs) → drop next left ≡ left_of part.extents (drop at runs)
    → more ++ laid_on (drop (i + 1) parts) (drop next left) ≡ laid ++ laid_on (drop i parts) (drop at runs)
laid_next parts i part laid more runs left at next lt is here there =
    ap (λ some. some ++ laid_on (drop (i + 1) parts) (drop next left)) here
    ∙ ap (λ some. (laid ++ pieces part 0 part.extents (drop at runs)) ++ laid_on (drop (i + 1) parts) some) there
    ∙ append_assoc laid (pieces part 0 part.extents (drop at runs)) (laid_on (drop (i + 1) parts) (left_of part.extents (drop at runs)))
    ∙ ap (λ some. laid ++ laid_on some (drop at runs))
    (sym (rw add-one (drop-cons parts i part lt) ∙ ap (λ p. p ∷ drop (i + 1) parts) (sym is)))

pub laid_at_end : (parts laid : List Part) (runs : List PvRun) (at i : ℕ) → length parts ≤ i
    → laid ++ laid_on (drop i parts) (drop at runs) ≡ laid
laid_at_end parts laid runs at i le = ap (λ some. laid ++ laid_on some (drop at runs)) (drop_of_length-le parts le) ∙ append-nil laid
