-- The values that choices take, sector by sector and disk by disk.
use Rattle.std.proofs.Common.{◌≡◌, ◌<◌, ◌⊎◌, ℕ, zero, suc, ◌+◌, Bool, true, false, nat_lt, cond, List, [], ◌∷◌, ◌++◌, length, take, drop}
use Rattle.std.proofs.Common.{get_or, slice_index_or, slice_index, flat_map, Option, None, inl, inr, ⊎_elim, refl, sym, ap, subst, ◌∙◌}
use Rattle.std.proofs.Common.{arith, length-append, below_more}
use Rattle.std.specs.List.{range_with_len}
use Rattle.std.proofs.lemmas.List.{take_more, map-append, length-map, length-take-le, append-nil}
use Rattle.std.proofs.lemmas.List.Concat.{flat_map-append}
use Rattle.std.proofs.lemmas.List.FromFn.{map-range_with_len_more}
use Rattle.std.proofs.Math.ListN.{get_or-append}
use Rattle.std.proofs.Math.Seq.{get_or-append_seam}
use Rattle.disk_model.specs.Steps.{Record}
use Rattle.disk_model.specs.CrashValues.{MayLeave}
use Rattle.disk_model.specs.ValueList.{values}
use Rattle.dev_shelf.specs.ChosenImage.{chosen_values, disk_values, row_values, value_number}
use Rattle.dev_shelf.specs.DiskRow.{image_of}
use Rattle.dev_shelf.specs.RowValues.{choices_left, IsPossible, TakesSectors, TakesDisks}
use Rattle.disk_model.proofs.ValueLists.{InValues, value_in, may_of}

-- a test is true or false
true_or_false : (b : Bool) → (b ≡ true) ⊎ (b ≡ false)
true_or_false true = inl refl
true_or_false false = inr refl

-- what is chosen of two lists, one after another
chosen_append : (xs ys : List (List (Option ℕ × List ℕ))) (choices : List ℕ)
    → chosen_values (xs ++ ys) choices ≡ chosen_values xs choices ++ chosen_values ys (choices_left xs choices)
chosen_append [] ys choices = refl
chosen_append (all ∷ rest) ys choices =
    ⊎_elim
    (λ many. rw many (ap (λ (l : List (List ℕ)). value_number all (slice_index choices 0) ∷ l) (chosen_append rest ys (drop 1 choices))))
    (λ one. rw one (ap (λ (l : List (List ℕ)). value_number all 0 ∷ l) (chosen_append rest ys choices)))
    (true_or_false (nat_lt 1 (length all)))

-- the choices that are left after both
left_append : (xs ys : List (List (Option ℕ × List ℕ))) (choices : List ℕ)
    → choices_left (xs ++ ys) choices ≡ choices_left ys (choices_left xs choices)
left_append [] ys choices = refl
left_append (all ∷ rest) ys choices = left_append rest ys (cond (nat_lt 1 (length all)) (drop 1 choices) choices)

-- nothing is taken at first
pub takes_no_sectors : (told : Record) (pv : ℕ) (choices : List ℕ) → TakesSectors told pv 0 choices [] choices
takes_no_sectors told pv choices = record { chosen_so = refl; left_so = refl; many = refl; each = λ sector lt. absurd (omega arith) }

-- one sector more
pub takes_one_more : (told : Record) (pv count : ℕ) (choices : List ℕ) (sectors : List (List ℕ)) (left : List ℕ)
    (all : List (Option ℕ × List ℕ)) (value : List ℕ) (left' : List ℕ)
    → TakesSectors told pv count choices sectors left → all ≡ values told.opened told.steps pv count
    → chosen_values (all ∷ []) left ≡ value ∷ [] → left' ≡ choices_left (all ∷ []) left
    → (k : ℕ) × (k < length all) × ((slice_index_or all k (None, [])).1 ≡ value)
    → TakesSectors told pv (count + 1) choices (sectors ++ value ∷ []) left'
takes_one_more told pv count choices sectors left all value left' so_far is here rest place =
    let f : ℕ → List (Option ℕ × List ℕ) = λ sector. values told.opened told.steps pv sector in
    let more : disk_values told pv (count + 1) ≡ disk_values told pv count ++ all ∷ [] =
    map-range_with_len_more f 0 count count (omega arith)
    ∙ ap (λ (x : List (Option ℕ × List ℕ)). disk_values told pv count ++ x ∷ []) (sym is) in
    record {
      chosen_so =
          ap (λ (l : List (List ℕ)). l ++ value ∷ []) so_far.chosen_so
          ∙ ap (λ (l : List (List ℕ)). chosen_values (disk_values told pv count) choices ++ l)
          (sym here ∙ ap (λ (l : List ℕ). chosen_values (all ∷ []) l) so_far.left_so)
          ∙ sym (chosen_append (disk_values told pv count) (all ∷ []) choices)
          ∙ ap (λ (l : List (List (Option ℕ × List ℕ))). chosen_values l choices) (sym more);
      left_so =
          rest
          ∙ ap (λ (l : List ℕ). choices_left (all ∷ []) l) so_far.left_so
          ∙ sym (left_append (disk_values told pv count) (all ∷ []) choices)
          ∙ ap (λ (l : List (List (Option ℕ × List ℕ))). choices_left l choices) (sym more);
      many = length-append sectors (value ∷ []) ∙ omega (arith, so_far.many);
      each =
          below_more (λ (sector : ℕ). IsPossible told pv sector (slice_index_or (sectors ++ value ∷ []) sector [])) count
          (λ sector lt. subst (IsPossible told pv sector) (sym (get_or-append sectors (value ∷ []) [] sector (omega (arith, so_far.many))))
          (so_far.each sector lt))
          (let at : get_or (sectors ++ value ∷ []) count [] ≡ value = ap (λ (k : ℕ). get_or (sectors ++ value ∷ []) k []) (sym so_far.many)
          ∙ get_or-append_seam sectors value [] [] in
          let in_all = value_in all place.0 (None, []) place.1 in
          let possible =
          may_of told.opened told.steps pv count (get_or all place.0 (None, [])).0 (get_or all place.0 (None, [])).1
          (subst (λ (l : List (Option ℕ × List ℕ)). InValues l (get_or all place.0 (None, [])).0 (get_or all place.0 (None, [])).1)
          is in_all) in (
            (get_or all place.0 (None, [])).0,
            subst (MayLeave told.opened told.steps pv count (get_or all place.0 (None, [])).0)
                (place.2 ∙ sym at) possible,
          ));
    }

-- a range and one number more
range_push : (from count : ℕ) → range_with_len from (count + 1) ≡ range_with_len from count ++ (from + count) ∷ []
range_push from zero = ap (λ (k : ℕ). k ∷ []) (omega arith)
range_push from (suc count) =
    let longer : suc count + 1 ≡ suc (count + 1) = omega arith in
    let last : from + 1 + count ≡ from + suc count = omega arith in
    ap (λ (k : ℕ). range_with_len from k) longer
    ∙ ap (λ (l : List ℕ). from ∷ l) (range_push (from + 1) count)
    ∙ ap (λ (k : ℕ). from ∷ (range_with_len (from + 1) count ++ k ∷ [])) last

-- no disk is taken at first
pub takes_no_disks : (told : Record) (sizes choices : List ℕ) → TakesDisks told sizes 0 choices [] choices
takes_no_disks told sizes choices =
    record { chosen_so = refl; left_so = refl; sizes_so = refl; each = λ pv sector lt. absurd (omega arith) }

-- one disk more
pub takes_disk_more : (told : Record) (sizes : List ℕ) (count : ℕ) (choices : List ℕ) (disks : List (List (List ℕ))) (left : List ℕ)
    (sectors : List (List ℕ)) (left' : List ℕ)
    → TakesDisks told sizes count choices disks left → count < length sizes
    → TakesSectors told count (slice_index sizes count) left sectors left'
    → TakesDisks told sizes (count + 1) choices (disks ++ sectors ∷ []) left'
takes_disk_more told sizes count choices disks left sectors left' so_far lt disk =
    let f : ℕ → List (List (Option ℕ × List ℕ)) = λ pv. disk_values told pv (slice_index sizes pv) in
    let before = row_values told sizes count in
    let now : List (List (Option ℕ × List ℕ)) = disk_values told count (slice_index sizes count) in
    let more : row_values told sizes (count + 1) ≡ before ++ now =
    ap (λ (l : List ℕ). flat_map f l) (range_push 0 count) ∙ flat_map-append f (range_with_len 0 count) ((0 + count) ∷ [])
    ∙ ap (λ (k : ℕ). before ++ flat_map f (k ∷ [])) (omega arith)
    ∙ ap (λ (l : List (List (Option ℕ × List ℕ))). before ++ l) (append-nil now) in
    let joined : flat_map (λ (d : List (List ℕ)). d) (disks ++ sectors ∷ []) ≡ flat_map (λ (d : List (List ℕ)). d) disks ++ sectors =
    flat_map-append (λ (d : List (List ℕ)). d) disks (sectors ∷ [])
    ∙ ap (λ (l : List (List ℕ)). flat_map (λ (d : List (List ℕ)). d) disks ++ l) (append-nil sectors) in
    let mapped = simp length-map at (ap (λ (l : List ℕ). length l) so_far.sizes_so) in
    let many : length disks ≡ count = omega (arith, mapped, length-take-le count sizes (omega arith)) in
    record {
      chosen_so =
          joined
          ∙ ap (λ (l : List (List ℕ)). l ++ sectors) so_far.chosen_so
          ∙ ap (λ (l : List (List ℕ)). chosen_values before choices ++ l)
          (disk.chosen_so ∙ ap (λ (l : List ℕ). chosen_values now l) so_far.left_so)
          ∙ sym (chosen_append before now choices)
          ∙ ap (λ (l : List (List (Option ℕ × List ℕ))). chosen_values l choices) (sym more);
      left_so =
          disk.left_so
          ∙ ap (λ (l : List ℕ). choices_left now l) so_far.left_so
          ∙ sym (left_append before now choices)
          ∙ ap (λ (l : List (List (Option ℕ × List ℕ))). choices_left l choices) (sym more);
      sizes_so =
          map-append (λ (d : List (List ℕ)). length d) disks (sectors ∷ [])
          ∙ ap (λ (l : List ℕ). l ++ length sectors ∷ []) so_far.sizes_so
          ∙ ap (λ (k : ℕ). take count sizes ++ k ∷ []) disk.many
          ∙ sym (take_more sizes count 0 lt);
      each =
          λ pv sector below inside.
          below_more (λ (p : ℕ). sector < slice_index sizes p → IsPossible told p sector (image_of (disks ++ sectors ∷ []) p sector)) count
          (λ p le within. subst (λ (l : List (List ℕ)). IsPossible told p sector (get_or l sector []))
          (sym (get_or-append disks (sectors ∷ []) [] p (omega (arith, many)))) (so_far.each p sector le within))
          (λ within.
          let at : get_or (disks ++ sectors ∷ []) count [] ≡ sectors =
          ap (λ (k : ℕ). get_or (disks ++ sectors ∷ []) k []) (sym many) ∙ get_or-append_seam disks sectors [] [] in
          subst (λ (l : List (List ℕ)). IsPossible told count sector (get_or l sector [])) (sym at) (disk.each sector within))
          pv below inside;
    }
