-- Elements that are taken off from the end of a list and put down changed, the last one first.
use Rattle.std.proofs.Common.{◌≡◌, ◌≤◌, ℕ, ◌+◌, List, [], ◌∷◌, ◌++◌, length, map, reverse, Some, sym, ap, subst, ◌∙◌, append_assoc}
use Rattle.std.proofs.Common.{length-append, arith}
use Rattle.std.specs.Prelude.{slice_get}
use Rattle.std.specs.List.{enumerate_from}
use Rattle.std.proofs.lemmas.List.{append-nil, reverse-append}
use Rattle.vg_repair.proofs.Numbered.{at_end, mapped_more}

module _ {X : Type 0} {Y : Type 0} (g : ℕ × X → Y) where
  pub none_taken : (xs all : List X) (done : List Y) → xs ≡ all → done ≡ []
      → map g (enumerate_from 0 xs) ++ reverse done ≡ map g (enumerate_from 0 all)
  none_taken xs all done same none =
      ap (λ (d : List Y). map g (enumerate_from 0 xs) ++ reverse d) none ∙ append-nil (map g (enumerate_from 0 xs))
      ∙ ap (λ (l : List X). map g (enumerate_from 0 l)) same

  pub one_taken : (old rest : List X) (x : X) (done done' whole : List Y) → old ≡ rest ++ x ∷ [] → done' ≡ done ++ g (length rest, x) ∷ []
      → map g (enumerate_from 0 old) ++ reverse done ≡ whole
      → map g (enumerate_from 0 rest) ++ reverse done' ≡ whole
  one_taken old rest x done done' whole taken put so_far =
      let y : Y = g (length rest, x) in
      ap (λ (d : List Y). map g (enumerate_from 0 rest) ++ reverse d) put
      ∙ ap (λ (l : List Y). map g (enumerate_from 0 rest) ++ l) (reverse-append done (y ∷ []))
      ∙ sym (append_assoc (map g (enumerate_from 0 rest)) (y ∷ []) (reverse done))
      ∙ ap (λ (l : List Y). l ++ reverse done) (sym (mapped_more g rest x))
      ∙ ap (λ (l : List X). map g (enumerate_from 0 l) ++ reverse done) (sym taken)
      ∙ so_far

  pub all_taken : (rest : List X) (done done' whole : List Y) → rest ≡ [] → done' ≡ reverse done
      → map g (enumerate_from 0 rest) ++ reverse done ≡ whole → done' ≡ whole
  all_taken rest done done' whole empty turned so_far =
      turned ∙ sym (ap (λ (l : List X). map g (enumerate_from 0 l) ++ reverse done) empty) ∙ so_far

module _ {X : Type 0} (old rest more whole : List X) (x : X) (taken : old ≡ rest ++ x ∷ []) (front : old ++ more ≡ whole) where
  together : (rest ++ x ∷ []) ++ more ≡ whole
  together = ap (λ (l : List X). l ++ more) (sym taken) ∙ front

  -- those that are left are a front of all
  pub front_left : rest ++ (x ∷ more) ≡ whole
  front_left = sym (append_assoc rest (x ∷ []) more) ∙ together

  -- behind which it stood
  pub stood : slice_get whole (length rest) ≡ Some x
  stood = subst (λ (l : List X). slice_get l (length rest) ≡ Some x) together (at_end rest more x)

-- a front is no longer than all
pub front_short : {X : Type 0} (xs more whole : List X) → xs ++ more ≡ whole → length xs ≤ length whole
front_short xs more whole front =
    let sum : length xs + length more ≡ length whole = sym (length-append xs more) ∙ ap length front in omega (arith, sum)
