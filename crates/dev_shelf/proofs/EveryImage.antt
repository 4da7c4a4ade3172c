-- Every image that a crash may leave is one that some choices choose.
use Rattle.std.proofs.Common.{◌≡◌, ◌≤◌, ◌<◌, ℕ, zero, suc, ◌+◌, ◌-◌, ◌^◌, Bool, true, false, not, nat_lt, ◌==◌, cond, List, [], ◌∷◌, ◌++◌}
use Rattle.std.proofs.Common.{length, map, take, drop, filter, get_or, slice_index, slice_index_or, flat_map, All, Option, Some, None}
use Rattle.std.proofs.Common.{⊎_elim, refl, sym, ap, ◌∙◌, arith, length-append}
use Rattle.std.specs.List.{range_with_len}
use Rattle.std.proofs.lemmas.Bool.{cases_lt}
use Rattle.std.proofs.lemmas.Bool.Decides.{nat_tests}
use Rattle.std.proofs.lemmas.List.{get_or_past, length-drop, length-map}
use Rattle.std.proofs.lemmas.List.Elements.{All-cons, All-nil}
use Rattle.std.proofs.lemmas.List.FromFn.{get_or-map-range_with_len, length-map-range_with_len}
use Rattle.std.proofs.Math.ListN.{get_or-map}
use Rattle.std.proofs.Math.Nat.{mod-eq_of_lt}
use Rattle.std.proofs.Math.Seq.{drop-append_seam, take-append_seam}
use Rattle.sector_base.specs.Spans.{covers}
use Rattle.disk_model.specs.Steps.{Image, Reading, Writing, Flushing, Step, Submitted, Completed, Record, value_at}
use Rattle.disk_model.specs.CrashValues.{IsImage}
use Rattle.disk_model.specs.ValueList.{is_dropped, values}
use Rattle.disk_model.proofs.ValueLists.{InValues, of_may}
use Rattle.dev_shelf.specs.ChosenImage.{CanBeChosen, chosen_values, disk_values, row_values, value_number}
use Rattle.disk_model.specs.Moments.{EachImage, at_moment}
use Rattle.dev_shelf.specs.declared.mem_shelf.disk_row.DiskRow.{DiskRow}
use Rattle.dev_shelf.specs.DiskRow.{image_of, lengths_of, sizes_of, steps_of}
use Rattle.dev_shelf.specs.DiskRowInvariant.{IsGood, length_onto}

abbrev Value : Type 0
Value = Option ℕ × List ℕ

-- the value is one of these, at this place
IsOneOf : List Value → List ℕ → Type 0
IsOneOf all value = (k : ℕ) × (k < length all) × ((get_or all k (None, [])).1 ≡ value)

one_of : (all : List Value) (write : Option ℕ) (value : List ℕ) → InValues all write value → IsOneOf all value
unfolding IsOneOf
one_of [] write value h = absurd h
one_of (v ∷ vs) write value h =
    ⊎_elim
    (λ here. (0, omega arith, sym here.1))
    (λ later. let r = one_of vs write value later in (suc r.0, omega (arith, r.1), r.2)) h

-- the values are picked, one of each list, of which none has 2^64
ArePicked : List (List Value) → List (List ℕ) → Type 0
ArePicked [] [] = Unit {0}
ArePicked [] (v ∷ wanted) = ⊥
ArePicked (all ∷ lists) [] = ⊥
ArePicked (all ∷ lists) (v ∷ wanted) = IsOneOf all v × (length all ≤ 2 ^ 64) × ArePicked lists wanted

picked_append : (a c : List (List Value)) (b d : List (List ℕ)) → ArePicked a b → ArePicked c d → ArePicked (a ++ c) (b ++ d)
unfolding ArePicked
picked_append [] c [] d p q = q
picked_append [] c (v ∷ b) d p q = absurd p
picked_append (all ∷ a) c [] d p q = absurd p
picked_append (all ∷ a) c (v ∷ b) d p q = (p.0, p.1, picked_append a c b d p.2 q)

-- a value is chosen by its place
chosen_place : (all : List Value) (v : List ℕ) (one : IsOneOf all v) (b : Bool) (lists : List (List Value)) (wanted : List (List ℕ))
    (cs : List ℕ) → nat_lt 1 (length all) ≡ b → length all ≤ 2 ^ 64
    → All (λ (c : ℕ). c < 2 ^ 64) cs → chosen_values lists cs ≡ wanted
    → (choices : List ℕ) × All (λ (c : ℕ). c < 2 ^ 64) choices
    × (cond b (value_number all (slice_index choices 0) ∷ chosen_values lists (drop 1 choices))
    (value_number all 0 ∷ chosen_values lists choices) ≡ v ∷ wanted)
unfolding IsOneOf
chosen_place all v one true lists wanted cs many few small so =
    let P : ℕ → Type 0 = λ c. c < 2 ^ 64 in
    let small_k : one.0 < 2 ^ 64 = omega (arith, one.1, few) in
    let here : value_number all one.0 ≡ v = ap (λ (k : ℕ). (get_or all k (None, [])).1) (mod-eq_of_lt one.1) ∙ one.2 in (
      one.0 ∷ cs,
      All-cons P one.0 cs small_k small,
      ap (λ (x : List ℕ). x ∷ chosen_values lists cs) here ∙ ap (λ (l : List (List ℕ)). v ∷ l) so,
    )
chosen_place all v one false lists wanted cs lone few small so =
    let le : length all ≤ 1 = grind (arith, nat_tests) in
    let first : one.0 ≡ 0 = omega (arith, one.1, le) in
    let some : 0 < length all = omega (arith, one.1) in
    let here : value_number all 0 ≡ v = ap (λ (k : ℕ). (get_or all k (None, [])).1) (mod-eq_of_lt some ∙ sym first) ∙ one.2 in
    (cs, small, ap (λ (x : List ℕ). x ∷ chosen_values lists cs) here ∙ ap (λ (l : List (List ℕ)). v ∷ l) so)

picks : (lists : List (List Value)) (wanted : List (List ℕ)) → ArePicked lists wanted
    → (choices : List ℕ) × All (λ (c : ℕ). c < 2 ^ 64) choices × (chosen_values lists choices ≡ wanted)
unfolding ArePicked
picks [] [] p = ([], All-nil (λ (c : ℕ). c < 2 ^ 64), refl)
picks [] (v ∷ wanted) p = absurd p
picks (all ∷ lists) [] p = absurd p
picks (all ∷ lists) (v ∷ wanted) p =
    let more = picks lists wanted p.2 in
    chosen_place all v p.0 (nat_lt 1 (length all)) lists wanted more.0 refl p.1 more.1 more.2

length_filter : (p : Value → Bool) (vs : List Value) → length (filter p vs) ≤ length vs
length_filter p [] = omega arith
length_filter p (v ∷ vs) =
    (elim (p v) as (λ b. p v ≡ b → length (cond b (v ∷ filter p vs) (filter p vs)) ≤ suc (length vs)) [
      | true ↦ λ e. omega (arith, length_filter p vs)
      | false ↦ λ e. omega (arith, length_filter p vs)
    ]) refl

-- a sector has at most one value for each step, and the opened one
few_values : (opened : Image) (steps : List Step) (pv sector : ℕ) → length (values opened steps pv sector) ≤ length steps + 1
few_values opened [] pv sector = omega arith
few_values opened (Submitted tag (Writing span sectors) ∷ steps) pv sector =
    (elim (covers span pv sector) as (λ b. length
    (cond b (values opened steps pv sector ++ (Some tag, value_at span sectors sector) ∷ []) (values opened steps pv sector))
    ≤ suc (length steps) + 1) [
      | true ↦ omega (
        arith,
        few_values opened steps pv sector,
        length-append (values opened steps pv sector) ((Some tag, value_at span sectors sector) ∷ []),
      )
      | false ↦ omega (arith, few_values opened steps pv sector)
    ])
few_values opened (Submitted tag (Reading span) ∷ steps) pv sector = omega (arith, few_values opened steps pv sector)
few_values opened (Submitted tag (Flushing disk) ∷ steps) pv sector = omega (arith, few_values opened steps pv sector)
few_values opened (Completed tag (Reading span) well fresh ∷ steps) pv sector = omega (arith, few_values opened steps pv sector)
few_values opened (Completed tag (Writing span sectors) well fresh ∷ steps) pv sector = omega (arith, few_values opened steps pv sector)
few_values opened (Completed tag (Flushing disk) false fresh ∷ steps) pv sector = omega (arith, few_values opened steps pv sector)
few_values opened (Completed tag (Flushing disk) true fresh ∷ steps) pv sector =
    (elim (disk == pv) as (λ b. length (cond b
    (filter (λ (v : Value). not (is_dropped steps tag pv sector v.0)) (values opened steps pv sector)) (values opened steps pv sector))
    ≤ suc (length steps) + 1) [
      | true ↦ omega (
        arith,
        few_values opened steps pv sector,
        length_filter (λ (v : Value). not (is_dropped steps tag pv sector v.0)) (values opened steps pv sector),
      )
      | false ↦ omega (arith, few_values opened steps pv sector)
    ])

-- the sectors of the image, disk by disk
disk_sectors : Image → List ℕ → ℕ → List (List ℕ)
disk_sectors image sizes pv = map (image pv) (range_with_len 0 (slice_index sizes pv))

-- two lists of lists that have the same elements and the same lengths are the same
split_same : (g : ℕ → List (List ℕ)) (images : List (List (List ℕ))) (from : ℕ)
    → ((i : ℕ) → i < length images → length (get_or images i []) ≡ length (g (from + i)))
    → flat_map (λ (d : List (List ℕ)). d) images ≡ flat_map g (range_with_len from (length images)) → (i : ℕ) → i < length images
    → get_or images i [] ≡ g (from + i)
split_same g [] from lengths e i lt = absurd (omega arith)
split_same g (d ∷ ds) from lengths e i lt =
    let first : from + 0 ≡ from = omega arith in
    let long : length d ≡ length (g from) = lengths 0 (omega arith) ∙ ap (λ (k : ℕ). length (g k)) first in
    let after : List (List ℕ) = flat_map (λ (x : List (List ℕ)). x) ds in
    let after' : List (List ℕ) = flat_map g (range_with_len (from + 1) (length ds)) in
    let front : d ≡ g from =
    sym (take-append_seam d after) ∙ ap (take (length d)) e ∙ ap (λ (k : ℕ). take k (g from ++ after')) long
    ∙ take-append_seam (g from) after' in
    let back : after ≡ after' =
    sym (drop-append_seam d after) ∙ ap (drop (length d)) e ∙ ap (λ (k : ℕ). drop k (g from ++ after')) long
    ∙ drop-append_seam (g from) after' in
    (elim i as (λ j. j < suc (length ds) → get_or (d ∷ ds) j [] ≡ g (from + j)) [
      | zero ↦ λ l. front ∙ ap g (sym first)
      | suc j ↦ λ l.
          let next : from + 1 + j ≡ from + suc j = omega arith in
          split_same g ds (from + 1)
          (λ k lk. lengths (suc k) (omega arith) ∙ ap (λ (n : ℕ). length (g n)) (let m : from + suc k ≡ from + 1 + k = omega arith in m))
          back j (omega arith)
          ∙ ap g next
    ]) lt

module _ (told : Record) (sizes : List ℕ) (image : Image) (is : IsImage told image) (short : length told.steps < 2 ^ 64) where
  one_value : (pv sector : ℕ) → IsOneOf (values told.opened told.steps pv sector) (image pv sector)
  one_value pv sector =
      one_of (values told.opened told.steps pv sector) (is pv sector).0 (image pv sector)
      (of_may told.opened told.steps pv sector (is pv sector).0 (image pv sector) (is pv sector).1)

  picked_sectors : (pv from count : ℕ) → ArePicked
      (map (λ (sector : ℕ). values told.opened told.steps pv sector) (range_with_len from count))
      (map (image pv) (range_with_len from count))
  unfolding ArePicked
  picked_sectors pv from zero = tt
  picked_sectors pv from (suc count) =
      (one_value pv from, omega (arith, short, few_values told.opened told.steps pv from), picked_sectors pv (from + 1) count)

  picked_disks : (from count : ℕ) → ArePicked
      (flat_map (λ (pv : ℕ). disk_values told pv (slice_index sizes pv)) (range_with_len from count))
      (flat_map (disk_sectors image sizes) (range_with_len from count))
  unfolding ArePicked disk_sectors
  picked_disks from zero = tt
  picked_disks from (suc count) =
      picked_append (disk_values told from (slice_index sizes from))
      (flat_map (λ (pv : ℕ). disk_values told pv (slice_index sizes pv)) (range_with_len (from + 1) count))
      (disk_sectors image sizes from) (flat_map (disk_sectors image sizes) (range_with_len (from + 1) count))
      (picked_sectors from 0 (slice_index sizes from)) (picked_disks (from + 1) count)

  length_sectors : (i : ℕ) → 0 + i ≡ i → get_or sizes i 0 ≡ length (disk_sectors image sizes (0 + i))
  unfolding disk_sectors
  length_sectors i zero_on =
      ap (λ (k : ℕ). get_or sizes k 0) (sym zero_on) ∙ sym (length-map-range_with_len (image (0 + i)) 0 (slice_index sizes (0 + i)))

  same_lengths : (images : List (List (List ℕ))) → lengths_of images ≡ sizes → (i : ℕ) → i < length images
      → length (get_or images i []) ≡ length (disk_sectors image sizes (0 + i))
  unfolding disk_sectors
  same_lengths images same i lt =
      let zero_on : 0 + i ≡ i = omega arith in
      sym (ap (λ (l : List ℕ). get_or l i 0) (sym same) ∙ get_or-map (λ (d : List (List ℕ)). length d) images i [])
      ∙ length_sectors i zero_on

  pub can_be_chosen : CanBeChosen told sizes image
  unfolding disk_sectors
  can_be_chosen =
      let p =
      picks (row_values told sizes (length sizes)) (flat_map (disk_sectors image sizes) (range_with_len 0 (length sizes)))
      (picked_disks 0 (length sizes)) in (
        p.0,
        p.1,
        λ images is_chosen pv sector lt.
            let mapped = simp length-map at (ap (λ (l : List ℕ). length l) is_chosen.sizes_same) in
            let many : length images ≡ length sizes = mapped in
            let all : flat_map (λ (d : List (List ℕ)). d) images ≡ flat_map (disk_sectors image sizes) (range_with_len 0 (length images)) =
            is_chosen.sectors ∙ p.2 ∙ ap (λ (n : ℕ). flat_map (disk_sectors image sizes) (range_with_len 0 n)) (sym many) in
            let below : pv < length images =
            ⊎_elim (λ (yes : pv < length sizes). let r : pv < length images = omega (arith, many) in r)
            (λ (no : length sizes ≤ pv). absurd (let none : slice_index_or sizes pv 0 ≡ 0 = get_or_past sizes pv 0 no in omega arith))
            (cases_lt pv (length sizes)) in
            let same = split_same (disk_sectors image sizes) images 0 (same_lengths images is_chosen.sizes_same) all pv below in
            let zero_on : 0 + pv ≡ pv = omega arith in
            ap (λ (l : List (List ℕ)). get_or l sector []) (same ∙ ap (disk_sectors image sizes) zero_on)
            ∙ get_or-map-range_with_len (image pv) 0 (slice_index sizes pv) sector sector [] lt (omega arith),
      )

-- at each moment of a row each image can be chosen
pub each_chosen : (row : DiskRow) → IsGood row → (moment : ℕ)
    → EachImage (CanBeChosen (at_moment moment (record { opened = image_of row.opened.items; steps = steps_of row })) (sizes_of row))
    (at_moment moment (record { opened = image_of row.opened.items; steps = steps_of row }))
each_chosen row good moment image is =
    can_be_chosen (at_moment moment (record { opened = image_of row.opened.items; steps = steps_of row })) (sizes_of row) image is
    (omega (
      arith,
      length-drop (length (steps_of row) - moment) (steps_of row),
      length_onto row.written.items [] row.steps.items,
      row.steps.ok.0,
      good.steps,
      good.queue.steps,
      good.queue.life,
    ))
