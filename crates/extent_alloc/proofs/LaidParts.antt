-- Parts that are cut for one more leg still agree with the legs before, and with the new one.
use Rattle.std.proofs.Common.{◌≡◌, ℕ, suc, ◌+◌, ◌-◌, ◌<◌, ◌≤◌, ◌⊎◌, true, false, List, [], ◌∷◌, ◌++◌, length, map, cond, if◌then◌else◌, inl}
use Rattle.std.proofs.Common.{inr, refl, sym, ap, ap₂, subst, ◌∙◌, arith, nat_eq, nat_lt, ⊎_elim}
use Rattle.std.specs.List.{AllByRecursion}
use Rattle.std.proofs.lemmas.Bool.{cases_lt, cond-false, cond-true, cond_both, eqb-true, eqb-false, lt-ltb, le-ltb, ltb-true, ltb-false}
use Rattle.std.proofs.lemmas.List.{map-append}
use Rattle.std.proofs.lemmas.List.Sums.{sum_by-append, sum_by-cons}
use Rattle.extent_alloc.specs.Free.{total}
use Rattle.extent_alloc.specs.Giving.{extents_in}
use Rattle.extent_alloc.specs.Laying.{all_later, behind, laid_on, later, left_of, piece, pieces}
use Rattle.extent_alloc.specs.declared.part.Part.{Part}
use Rattle.extent_alloc.specs.declared.part.PartRun.{PartRun}
use Rattle.extent_alloc.specs.declared.part.PvRun.{PvRun}
use Rattle.extent_alloc.proofs.Fewest.{needed}

-- each run has an extent
abbrev pub Some : List PvRun → Type 0
Some runs = AllByRecursion (λ (run : PvRun). 1 ≤ run.count) runs

-- where an extent of a leg lies: the volume, and the extent there
abbrev pub spot : List PvRun → ℕ → ℕ × ℕ
spot [] at = (0, 0)
spot (run ∷ runs) at = if nat_lt at run.count then (run.pv, run.first + at) else spot runs (at - run.count)

pub spot_here : (run : PvRun) (runs : List PvRun) (at : ℕ) → at < run.count → spot (run ∷ runs) at ≡ (run.pv, run.first + at)
spot_here run runs at lt = cond-true (nat_lt at run.count) _ _ (lt-ltb at run.count lt)

pub spot_later : (run : PvRun) (runs : List PvRun) (at : ℕ) → run.count ≤ at → spot (run ∷ runs) at ≡ spot runs (at - run.count)
spot_later run runs at le = cond-false (nat_lt at run.count) _ _ (le-ltb at run.count le)

-- where an extent of a part lies on one of its legs
abbrev pub begin_at : ℕ → PartRun → ℕ × ℕ
begin_at n run = (run.pv, run.first + n)

-- the part's extents are those of the legs from this one on
abbrev pub Agrees : List (List PvRun) → ℕ → Part → Type 0
Agrees legs from part = (n : ℕ) → n < part.extents → map (begin_at n) part.runs ≡ map (λ leg. spot leg (from + n)) legs

-- the parts' extents are those of the legs, one after another from this one on
abbrev pub AgreeFrom : List (List PvRun) → ℕ → List Part → Type 0
AgreeFrom legs from [] = Unit {0}
AgreeFrom legs from (part ∷ parts) = (1 ≤ part.extents) × Agrees legs from part × AgreeFrom legs (from + part.extents) parts

pub extents_cons : (part : Part) (parts : List Part) → extents_in (part ∷ parts) ≡ part.extents + extents_in parts
extents_cons part parts = sum_by-cons (λ (p : Part). p.extents) part parts

pub total_cons : (run : PvRun) (runs : List PvRun) → total (run ∷ runs) ≡ run.count + total runs
total_cons run runs = sum_by-cons (λ (r : PvRun). r.count) run runs

agree_append : (legs : List (List PvRun)) (from : ℕ) (a b : List Part) → AgreeFrom legs from a → AgreeFrom legs (from + extents_in a) b
    → AgreeFrom legs from (a ++ b)
agree_append legs from [] b agree more = subst (λ n. AgreeFrom legs n b) (omega arith) more
agree_append legs from (part ∷ a) b agree more = (
  agree.0,
  agree.1,
  agree_append legs (from + part.extents) a b agree.2
      (subst (λ n. AgreeFrom legs n b) (omega (arith, extents_cons part a)) more),
)

-- pieces of one part
begin_later : (n by : ℕ) (runs : List PartRun) → map (begin_at n) (all_later by runs) ≡ map (begin_at (by + n)) runs
begin_later n by [] = refl
begin_later n by (run ∷ runs) =
    ap₂ (λ (first : ℕ) (rest : List (ℕ × ℕ)). (run.pv, first) ∷ rest) (let e : run.first + by + n ≡ run.first + (by + n) = omega arith in e)
    (begin_later n by runs)

piece_agrees : (legs : List (List PvRun)) (leg : List PvRun) (part : Part) (at from count : ℕ) (run : PvRun) → Agrees legs at part
    → from + count ≤ part.extents
    → ((n : ℕ) → n < count → spot leg (at + from + n) ≡ (run.pv, run.first + n))
    → Agrees (legs ++ leg ∷ []) (at + from) (piece part from count run)
piece_agrees legs leg part at from count run agrees within same n lt =
    let old : map (begin_at n) (all_later from part.runs) ≡ map (λ l. spot l (at + from + n)) legs =
    begin_later n from part.runs ∙ agrees (from + n) (omega (arith, within, lt))
    ∙ ap (λ k. map (λ l. spot l k) legs) (let e : at + (from + n) ≡ at + from + n = omega arith in e) in
    map-append (begin_at n) (all_later from part.runs) ((record { pv = run.pv; first = run.first }) ∷ [])
    ∙ ap₂ (λ (a b : List (ℕ × ℕ)). a ++ b) old (ap (λ (s : ℕ × ℕ). s ∷ []) (sym (same n lt)))
    ∙ sym (map-append (λ l. spot l (at + from + n)) legs (leg ∷ []))

pieces_agree : (legs : List (List PvRun)) (leg : List PvRun) (part : Part) (at from left : ℕ) (runs : List PvRun) → Agrees legs at part
    → from + left ≤ part.extents → Some runs
    → ((n : ℕ) → n < left → spot leg (at + from + n) ≡ spot runs n) → AgreeFrom (legs ++ leg ∷ []) (at + from) (pieces part from left runs)
pieces_agree legs leg part at from left [] agrees within some same = tt
pieces_agree legs leg part at from left (run ∷ runs) agrees within some same =
    cond_both (nat_eq left 0) _ _ (AgreeFrom (legs ++ leg ∷ []) (at + from)) (λ none. tt)
    (λ more. cond_both (nat_lt left run.count) _ _ (AgreeFrom (legs ++ leg ∷ []) (at + from))
    (λ short.
    let less = ltb-true left run.count short in (
      omega (arith, eqb-false left 0 more),
      piece_agrees legs leg part at from left run agrees within
          (λ n lt. same n lt ∙ spot_here run runs n (omega (arith, lt, less))),
      tt,
    ))
    (λ long.
    let le = ltb-false left run.count long in
    let rest : AgreeFrom (legs ++ leg ∷ []) (at + (from + run.count)) (pieces part (from + run.count) (left - run.count) runs) =
    pieces_agree legs leg part at (from + run.count) (left - run.count) runs agrees (omega (arith, within, le)) some.1
    (λ n lt.
    ap (spot leg) (let e : at + (from + run.count) + n ≡ at + from + (run.count + n) = omega arith in e)
    ∙ same (run.count + n) (omega (arith, lt, le))
    ∙ spot_later run runs (run.count + n) (omega arith)
    ∙ ap (spot runs) (let e : run.count + n - run.count ≡ n = omega arith in e)) in (
      some.0,
      piece_agrees legs leg part at from run.count run agrees (omega (arith, within, le))
          (λ n lt. same n (omega (arith, lt, le)) ∙ spot_here run runs n lt),
      subst (λ n. AgreeFrom (legs ++ leg ∷ []) n (pieces part (from + run.count) (left - run.count) runs)) (omega arith) rest,
    )))

pieces_sum : (part : Part) (from left : ℕ) (runs : List PvRun) → left ≤ total runs → extents_in (pieces part from left runs) ≡ left
pieces_sum part from left [] le = omega (arith, le)
pieces_sum part from left (run ∷ runs) le =
    cond_both (nat_eq left 0) _ _ (λ some. extents_in some ≡ left) (λ none. sym (eqb-true left 0 none))
    (λ more. cond_both (nat_lt left run.count) _ _ (λ some. extents_in some ≡ left)
    (λ short. extents_cons (piece part from left run) [] ∙ omega arith)
    (λ long.
    let fits = ltb-false left run.count long in
    let rest = pieces_sum part (from + run.count) (left - run.count) runs (omega (arith, le, total_cons run runs, fits)) in
    omega (arith, rest, fits, extents_cons (piece part from run.count run) (pieces part (from + run.count) (left - run.count) runs))))

-- as many as the runs that they take
pub pieces_count : (part : Part) (from left : ℕ) (runs : List PvRun) → left ≤ total runs
    → length (pieces part from left runs) ≡ needed left runs
pieces_count part from left [] le = omega (arith, le)
pieces_count part from left (run ∷ runs) le =
    elim (nat_eq left 0) as (λ b. nat_eq left 0 ≡ b
    → length (cond b [] (cond (nat_lt left run.count) (piece part from left run ∷ [])
    (piece part from run.count run ∷ pieces part (from + run.count) (left - run.count) runs)))
    ≡ cond b 0 (cond (nat_lt left run.count) 1 (suc (needed (left - run.count) runs)))) [
      | true ↦ λ is. refl
      | false ↦ λ is.
          elim (nat_lt left run.count) as (λ b. nat_lt left run.count ≡ b
          → length (cond b (piece part from left run ∷ [])
          (piece part from run.count run ∷ pieces part (from + run.count) (left - run.count) runs))
          ≡ cond b 1 (suc (needed (left - run.count) runs))) [
            | true ↦ λ short. refl
            | false ↦ λ long. ap suc (pieces_count part (from + run.count) (left - run.count) runs
                (omega (arith, le, total_cons run runs, ltb-false left run.count long)))
          ] refl
    ] refl

-- the runs that are left
left_total : (left : ℕ) (runs : List PvRun) → left ≤ total runs → total (left_of left runs) + left ≡ total runs
left_total left [] le = omega (arith, le)
left_total left (run ∷ runs) le =
    cond_both (nat_eq left 0) _ _ (λ some. total some + left ≡ total (run ∷ runs)) (λ none. omega (arith, eqb-true left 0 none))
    (λ more. cond_both (nat_lt left run.count) _ _ (λ some. total some + left ≡ total (run ∷ runs))
    (λ short. omega (arith, ltb-true left run.count short, total_cons run runs, total_cons (behind left run) runs))
    (λ long.
    let fits = ltb-false left run.count long in
    omega (arith, fits, total_cons run runs, left_total (left - run.count) runs (omega (arith, le, total_cons run runs, fits)))))

left_some : (left : ℕ) (runs : List PvRun) → Some runs → Some (left_of left runs)
left_some left [] some = tt
left_some left (run ∷ runs) some =
    cond_both (nat_eq left 0) _ _ Some (λ none. some)
    (λ more. cond_both (nat_lt left run.count) _ _ Some (λ short. (omega (arith, ltb-true left run.count short), some.1))
    (λ long. left_some (left - run.count) runs some.1))

left_spot : (left n : ℕ) (runs : List PvRun) → left ≤ total runs → spot (left_of left runs) n ≡ spot runs (left + n)
left_spot left n [] le = refl
left_spot left n (run ∷ runs) le =
    cond_both (nat_eq left 0) _ _ (λ some. spot some n ≡ spot (run ∷ runs) (left + n))
    (λ none. ap (spot (run ∷ runs)) (let e : n ≡ left + n = omega (arith, eqb-true left 0 none) in e))
    (λ more. cond_both (nat_lt left run.count) _ _ (λ some. spot some n ≡ spot (run ∷ runs) (left + n))
    (λ short. shorter (ltb-true left run.count short))
    (λ long.
    let fits = ltb-false left run.count long in
    left_spot (left - run.count) n runs (omega (arith, le, total_cons run runs, fits))
    ∙ ap (spot runs) (let e : left - run.count + n ≡ left + n - run.count = omega (arith, fits) in e)
    ∙ sym (spot_later run runs (left + n) (omega (arith, fits)))))
  where
    shorter : left < run.count → spot (behind left run ∷ runs) n ≡ spot (run ∷ runs) (left + n)
    shorter less =
        elim (cases_lt n (run.count - left)) [
          | inl here ↦
              spot_here (behind left run) runs n here
              ∙ ap (λ (first : ℕ). (run.pv, first)) (let e : run.first + left + n ≡ run.first + (left + n) = omega arith in e)
              ∙ sym (spot_here run runs (left + n) (omega (arith, here)))
          | inr there ↦
              spot_later (behind left run) runs n there
              ∙ ap (spot runs) (let e : n - (run.count - left) ≡ left + n - run.count = omega (arith, there, less) in e)
              ∙ sym (spot_later run runs (left + n) (omega (arith, there, less)))
        ]

-- all parts
pub laid_agrees : (legs : List (List PvRun)) (leg : List PvRun) (at : ℕ) (parts : List Part) (runs : List PvRun) → AgreeFrom legs at parts
    → extents_in parts ≤ total runs → Some runs
    → ((n : ℕ) → n < extents_in parts → spot leg (at + n) ≡ spot runs n) → AgreeFrom (legs ++ leg ∷ []) at (laid_on parts runs)
laid_agrees legs leg at [] runs agree fits some same = tt
laid_agrees legs leg at (part ∷ parts) runs agree fits some same =
    let all = extents_cons part parts in
    let sum : extents_in (pieces part 0 part.extents runs) ≡ part.extents =
    pieces_sum part 0 part.extents runs (omega (arith, fits, all)) in
    let here : AgreeFrom (legs ++ leg ∷ []) (at + 0) (pieces part 0 part.extents runs) =
    pieces_agree legs leg part at 0 part.extents runs agree.1 (omega arith) some
    (λ n lt. ap (spot leg) (let e : at + 0 + n ≡ at + n = omega arith in e) ∙ same n (omega (arith, lt, all))) in
    let rest : AgreeFrom (legs ++ leg ∷ []) (at + part.extents) (laid_on parts (left_of part.extents runs)) =
    laid_agrees legs leg (at + part.extents) parts (left_of part.extents runs) agree.2
    (omega (arith, fits, all, left_total part.extents runs (omega (arith, fits, all))))
    (left_some part.extents runs some)
    (λ n lt.
    ap (spot leg) (let e : at + part.extents + n ≡ at + (part.extents + n) = omega arith in e)
    ∙ same (part.extents + n) (omega (arith, lt, all))
    ∙ sym (left_spot part.extents n runs (omega (arith, fits, all)))) in
    agree_append (legs ++ leg ∷ []) at (pieces part 0 part.extents runs) (laid_on parts (left_of part.extents runs))
    (subst (λ n. AgreeFrom (legs ++ leg ∷ []) n (pieces part 0 part.extents runs)) (omega arith) here)
    (subst (λ n. AgreeFrom (legs ++ leg ∷ []) n (laid_on parts (left_of part.extents runs))) (omega (arith, sum)) rest)

pub laid_sum : (parts : List Part) (runs : List PvRun) → extents_in parts ≤ total runs → extents_in (laid_on parts runs) ≡ extents_in parts
laid_sum [] runs fits = refl
laid_sum (part ∷ parts) runs fits =
    let all = extents_cons part parts in
    omega (
      arith,
      all,
      sum_by-append (λ (p : Part). p.extents) (pieces part 0 part.extents runs) (laid_on parts (left_of part.extents runs)),
      pieces_sum part 0 part.extents runs (omega (arith, fits, all)),
      laid_sum parts (left_of part.extents runs) (omega (arith, fits, all, left_total part.extents runs (omega (arith, fits, all)))),
    )

-- the number is one of these
abbrev pub In : ℕ → List ℕ → Type 0
In n [] = ⊥
In n (m ∷ more) = (n ≡ m) ⊎ In n more

-- where parts end, and where runs do, the first of which begins there
abbrev pub ends_of : ℕ → List Part → List ℕ
ends_of at [] = []
ends_of at (part ∷ parts) = (at + part.extents) ∷ ends_of (at + part.extents) parts

abbrev pub stops : ℕ → List PvRun → List ℕ
stops at [] = []
stops at (run ∷ runs) = (at + run.count) ∷ stops (at + run.count) runs

ends_append : (at n : ℕ) (a b : List Part) → In n (ends_of at (a ++ b)) → In n (ends_of at a) ⊎ In n (ends_of (at + extents_in a) b)
ends_append at n [] b is = inr (subst (λ k. In n (ends_of k b)) (omega arith) is)
ends_append at n (part ∷ a) b (inl here) = inl (inl here)
ends_append at n (part ∷ a) b (inr later) =
    ⊎_elim (λ (left : In n (ends_of (at + part.extents) a)). inl (inr left))
    (λ (right : In n (ends_of (at + part.extents + extents_in a) b)). inr
    (subst (λ k. In n (ends_of k b)) (omega (arith, extents_cons part a)) right))
    (ends_append (at + part.extents) n a b later)

pieces_end : (part : Part) (from left at n : ℕ) (runs : List PvRun) → left ≤ total runs → In n (ends_of at (pieces part from left runs))
    → (n ≡ at + left) ⊎ In n (stops at runs)
pieces_end part from left at n [] le is = absurd is
pieces_end part from left at n (run ∷ runs) le is =
    cond_both (nat_eq left 0) _ _ (λ some. In n (ends_of at some) → (n ≡ at + left) ⊎ In n (stops at (run ∷ runs))) (λ none is. absurd is)
    (λ more. cond_both (nat_lt left run.count) _ _ (λ some. In n (ends_of at some) → (n ≡ at + left) ⊎ In n (stops at (run ∷ runs)))
    (λ short is. ⊎_elim (λ (same : n ≡ at + left). inl same) (λ (none : ⊥). absurd none) is)
    (λ long is.
    let fits = ltb-false left run.count long in
    ⊎_elim
    (λ (same : n ≡ at + run.count). inr (inl same))
    (λ (later : In n (ends_of (at + run.count) (pieces part (from + run.count) (left - run.count) runs))).
    ⊎_elim
    (λ (last : n ≡ at + run.count + (left - run.count)). inl
    (last ∙ (let e : at + run.count + (left - run.count) ≡ at + left = omega (arith, fits) in e)))
    (λ (stop : In n (stops (at + run.count) runs)). inr (inr stop))
    (pieces_end part (from + run.count) (left - run.count) (at + run.count) n runs (omega (arith, le, total_cons run runs, fits)) later))
    is)) is

left_stops : (left at n : ℕ) (runs : List PvRun) → left ≤ total runs → In n (stops (at + left) (left_of left runs)) → In n (stops at runs)
left_stops left at n [] le is = absurd is
left_stops left at n (run ∷ runs) le is =
    cond_both (nat_eq left 0) _ _ (λ some. In n (stops (at + left) some) → In n (stops at (run ∷ runs)))
    (λ none is. subst (λ k. In n (stops k (run ∷ runs))) (omega (arith, eqb-true left 0 none)) is)
    (λ more. cond_both (nat_lt left run.count) _ _ (λ some. In n (stops (at + left) some) → In n (stops at (run ∷ runs)))
    (λ short is. subst (λ k. In n (k ∷ stops k runs))
    (let e : at + left + (run.count - left) ≡ at + run.count = omega (arith, ltb-true left run.count short) in e) is)
    (λ long is.
    let fits = ltb-false left run.count long in
    inr (left_stops (left - run.count) (at + run.count) n runs (omega (arith, le, total_cons run runs, fits))
    (subst (λ k. In n (stops k (left_of (left - run.count) runs)))
    (let e : at + left ≡ at + run.count + (left - run.count) = omega (arith, fits) in e) is)))) is

-- a part ends where one did before, or where a run of the new leg does
pub laid_end : (at n : ℕ) (parts : List Part) (runs : List PvRun) → extents_in parts ≤ total runs → In n (ends_of at (laid_on parts runs))
    → In n (ends_of at parts) ⊎ In n (stops at runs)
laid_end at n [] runs fits is = absurd is
laid_end at n (part ∷ parts) runs fits is =
    let all = extents_cons part parts in
    let sum = pieces_sum part 0 part.extents runs (omega (arith, fits, all)) in
    ⊎_elim
    (λ (here : In n (ends_of at (pieces part 0 part.extents runs))).
    ⊎_elim (λ (last : n ≡ at + part.extents). inl (inl last)) (λ (stop : In n (stops at runs)). inr stop)
    (pieces_end part 0 part.extents at n runs (omega (arith, fits, all)) here))
    (λ (there : In n (ends_of (at + extents_in (pieces part 0 part.extents runs)) (laid_on parts (left_of part.extents runs)))).
    ⊎_elim
    (λ (old : In n (ends_of (at + part.extents) parts)). inl (inr old))
    (λ (stop : In n (stops (at + part.extents) (left_of part.extents runs))). inr
    (left_stops part.extents at n runs (omega (arith, fits, all)) stop))
    (laid_end (at + part.extents) n parts (left_of part.extents runs)
    (omega (arith, fits, all, left_total part.extents runs (omega (arith, fits, all))))
    (subst (λ k. In n (ends_of k (laid_on parts (left_of part.extents runs)))) (omega (arith, sum)) there)))
    (ends_append at n (pieces part 0 part.extents runs) (laid_on parts (left_of part.extents runs)) is)
