-- One element more of each walk along readings.
use Rattle.std.proofs.Common.{◌≡◌, ℕ, suc, ◌+◌, Bool, true, false, not, ◌||◌, cond, List, [], ◌∷◌, ◌++◌, length, drop, Option, Some, None}
use Rattle.std.proofs.Common.{refl, sym, ap, subst, ◌∙◌, arith, append-nil, append_assoc}
use Rattle.std.specs.Prelude.{option_map, unwrap_or, filter, find, filter_map, map, slice_get}
use Rattle.std.specs.Option.{option_and_then}
use Rattle.std.specs.List.{cons_option, list_any}
use Rattle.std.proofs.lemmas.Option.{same_Some}
use Rattle.std.proofs.lemmas.Bool.{false≢true}
use Rattle.std.proofs.lemmas.List.Elements.{filter_map-append}
use Rattle.std.specs.Str.{bytes_eq}
use Rattle.list_laws.proofs.Walks.{next_got}
use Rattle.meta_model.specs.declared.pv.Pv.{Pv}
use Rattle.scan_rules.specs.declared.copy_refusal.CopyRefusal.{CopyRefusal}
use Rattle.scan_rules.specs.declared.held.HeldCopy.{HeldCopy}
use Rattle.scan_rules.specs.declared.readings.GroupCopy.{GroupCopy}
use Rattle.scan_rules.specs.declared.readings.AreaGives.{AreaGives}
use Rattle.scan_rules.specs.declared.readings.AreaGives.TheVariants.{Nothing, Copy as Numbered, Refused as RefusedFor}
use Rattle.scan_rules.specs.declared.readings.AreaRead.{AreaRead}
use Rattle.scan_rules.specs.declared.readings.DiskRead.{DiskRead}
use Rattle.scan_rules.specs.Answers.{denies_copy, denying_disk, unsupported_among}
use Rattle.scan_rules.specs.Decision.{Held, TwoGroups, best, sum_agrees, two_groups}
use Rattle.scan_rules.specs.Flat.{IsThat, all_held, areas_on, greater_of, held_copy, held_of, id_in, is_unsupported, is_unsupported_by}
use Rattle.scan_rules.specs.Flat.{other_among, other_of, refused_by, refused_in, refused_on}
use Rattle.id_index.specs.Ids.{IdNumbers}
use Rattle.scan_rules.specs.Found.{is_missing_by, missing_by}
use Rattle.scan_rules.proofs.Greatest.{picks_greater}

-- the missing ones, from here on
missing_next : (found : IdNumbers) (pvs : List (List ℕ × Pv)) (i : ℕ) (pv : List ℕ × Pv) (b : Bool) → slice_get pvs i ≡ Some pv
    → is_missing_by found pv ≡ b
    → missing_by found (drop i pvs) ≡ map (λ (p : List ℕ × Pv). p.1.id)
    (cond b (pv ∷ filter (is_missing_by found) (drop (i + 1) pvs)) (filter (is_missing_by found) (drop (i + 1) pvs)))
missing_next found pvs i pv b got is =
    ap (missing_by found) (next_got pvs i pv got)
    ∙ ap (λ (t : Bool). map (λ (p : List ℕ × Pv). p.1.id)
    (cond t (pv ∷ filter (is_missing_by found) (drop (i + 1) pvs)) (filter (is_missing_by found) (drop (i + 1) pvs)))) is

pub missing_here : (found : IdNumbers) (pvs : List (List ℕ × Pv)) (i : ℕ) (pv : List ℕ × Pv) (before whole : List (List ℕ))
    → slice_get pvs i ≡ Some pv → before ++ missing_by found (drop i pvs) ≡ whole
    → is_missing_by found pv ≡ true → (before ++ pv.1.id ∷ []) ++ missing_by found (drop (i + 1) pvs) ≡ whole
missing_here found pvs i pv before whole got is there =
    append_assoc before (pv.1.id ∷ []) (missing_by found (drop (i + 1) pvs))
    ∙ ap (λ (l : List (List ℕ)). before ++ l) (sym (missing_next found pvs i pv true got there)) ∙ is

pub missing_past : (found : IdNumbers) (pvs : List (List ℕ × Pv)) (i : ℕ) (pv : List ℕ × Pv) (before whole : List (List ℕ))
    → slice_get pvs i ≡ Some pv → before ++ missing_by found (drop i pvs) ≡ whole
    → is_missing_by found pv ≡ false → before ++ missing_by found (drop (i + 1) pvs) ≡ whole
missing_past found pvs i pv before whole got is there =
    ap (λ (l : List (List ℕ)). before ++ l) (sym (missing_next found pvs i pv false got there)) ∙ is

-- what one element more gives, behind what the others gave
pub kept_more : {X Y : Type 0} (f : X → Option Y) (all before : List Y) (xs : List X) (x : X) (y : Y) → all ≡ before ++ filter_map f xs
    → Some y ≡ f x
    → all ++ y ∷ [] ≡ before ++ filter_map f (xs ++ x ∷ [])
kept_more f all before xs x y is got =
    ap (λ l. l ++ y ∷ []) is
    ∙ append_assoc before (filter_map f xs) (y ∷ [])
    ∙ ap (λ o. before ++ (filter_map f xs ++ cons_option o [])) got
    ∙ ap (λ l. before ++ l) (sym (filter_map-append f xs (x ∷ [])))

pub passed_more : {X Y : Type 0} (f : X → Option Y) (all before : List Y) (xs : List X) (x : X) → all ≡ before ++ filter_map f xs
    → None ≡ f x
    → all ≡ before ++ filter_map f (xs ++ x ∷ [])
passed_more f all before xs x is got =
    is
    ∙ ap (λ l. before ++ l) (sym (append-nil (filter_map f xs)))
    ∙ ap (λ o. before ++ (filter_map f xs ++ cons_option o [])) got
    ∙ ap (λ l. before ++ l) (sym (filter_map-append f xs (x ∷ [])))

-- the best from here on
pub best_step : (copies : List GroupCopy) (held : List HeldCopy) (i : ℕ) (one : HeldCopy) (other : Option HeldCopy)
    → drop i held ≡ one ∷ drop (i + 1) held
    → IsThat copies other (best (all_held copies (drop (i + 1) held)))
    → IsThat copies (greater_of copies one other) (best (all_held copies (drop i held)))
best_step copies held i one other next that =
    subst (λ (l : List HeldCopy). IsThat copies (greater_of copies one other) (best (all_held copies l))) (sym next)
    (picks_greater copies one other (all_held copies (drop (i + 1) held)) that)

-- the first copy, and the first of another group
abbrev id_held : Option GroupCopy → Option (List ℕ)
id_held o = option_map (λ (copy : GroupCopy). copy.group.id) o

map_twice : {A B C : Type 0} (f : B → C) (g : A → B) (o : Option A) → option_map (λ (x : A). f (g x)) o ≡ option_map f (option_map g o)
map_twice f g None = refl
map_twice f g (Some x) = refl

first_at : (disk : ℕ) (o : Option GroupCopy) (id : List ℕ) (rest : List Held) → Some id ≡ id_held o
    → two_groups (cons_option (option_map (held_copy disk) o) rest)
    ≡ option_map (λ (ids : List ℕ × List ℕ). TwoGroups ids.0 ids.1) (option_map (λ (other : List ℕ). (id, other)) (other_among id rest))
first_at disk None id rest is = cc
first_at disk (Some copy) id rest is =
    let e : id ≡ copy.group.id = same_Some id copy.group.id is in
    map_twice (λ (other : List ℕ). TwoGroups copy.group.id other) (λ (d : Held). d.group.id)
    (find (λ (d : Held). not (bytes_eq d.group.id copy.group.id)) rest)
    ∙ map_twice (λ (ids : List ℕ × List ℕ). TwoGroups ids.0 ids.1) (λ (other : List ℕ). (copy.group.id, other))
    (other_among copy.group.id rest)
    ∙ ap (λ (x : List ℕ). option_map (λ (ids : List ℕ × List ℕ). TwoGroups ids.0 ids.1)
    (option_map (λ (other : List ℕ). (x, other)) (other_among x rest))) (sym e)

pub first_here : (copies : List GroupCopy) (one : HeldCopy) (id : List ℕ) (rest : List HeldCopy) → Some id ≡ id_in copies one
    → two_groups (all_held copies (one ∷ rest))
    ≡ option_map (λ (ids : List ℕ × List ℕ). TwoGroups ids.0 ids.1)
    (option_map (λ (other : List ℕ). (id, other)) (other_among id (all_held copies rest)))
first_here copies one id rest is = first_at one.disk (slice_get copies one.number) id (all_held copies rest) is

none_at : (disk : ℕ) (o : Option GroupCopy) (rest : List Held) → None ≡ id_held o → cons_option (option_map (held_copy disk) o) rest ≡ rest
none_at disk None rest is = refl
none_at disk (Some copy) rest is = cc

pub none_here : (copies : List GroupCopy) (one : HeldCopy) (rest : List HeldCopy) → None ≡ id_in copies one
    → all_held copies (one ∷ rest) ≡ all_held copies rest
none_here copies one rest is = none_at one.disk (slice_get copies one.number) (all_held copies rest) is

other_at : (disk : ℕ) (o : Option GroupCopy) (id other : List ℕ) (rest : List Held) → Some other ≡ option_and_then (other_of id) (id_held o)
    → other_among id (cons_option (option_map (held_copy disk) o) rest) ≡ Some other
other_at disk None id other rest is = cc
other_at disk (Some copy) id other rest is = of (not (bytes_eq copy.group.id id)) is where
  of : (b : Bool) → Some other ≡ cond b (Some copy.group.id) None
      → option_map (λ (d : Held). d.group.id) (cond b (Some (held_copy disk copy))
      (find (λ (d : Held). not (bytes_eq d.group.id id)) rest)) ≡ Some other
  of true is = sym is
  of false is = cc

pub other_here : (copies : List GroupCopy) (one : HeldCopy) (id other : List ℕ) (rest : List HeldCopy)
    → Some other ≡ option_and_then (other_of id) (id_in copies one)
    → other_among id (all_held copies (one ∷ rest)) ≡ Some other
other_here copies one id other rest is = other_at one.disk (slice_get copies one.number) id other (all_held copies rest) is

same_at : (disk : ℕ) (o : Option GroupCopy) (id : List ℕ) (rest : List Held) → None ≡ option_and_then (other_of id) (id_held o)
    → other_among id (cons_option (option_map (held_copy disk) o) rest) ≡ other_among id rest
same_at disk None id rest is = refl
same_at disk (Some copy) id rest is = of (not (bytes_eq copy.group.id id)) is where
  of : (b : Bool) → None ≡ cond b (Some copy.group.id) None
      → option_map (λ (d : Held). d.group.id) (cond b (Some (held_copy disk copy))
      (find (λ (d : Held). not (bytes_eq d.group.id id)) rest)) ≡ other_among id rest
  of true is = cc
  of false is = refl

pub same_here : (copies : List GroupCopy) (one : HeldCopy) (id : List ℕ) (rest : List HeldCopy)
    → None ≡ option_and_then (other_of id) (id_in copies one)
    → other_among id (all_held copies (one ∷ rest)) ≡ other_among id (all_held copies rest)
same_here copies one id rest is = same_at one.disk (slice_get copies one.number) id (all_held copies rest) is

-- a copy that denies another
denied_at : (copy : GroupCopy) (disk : ℕ) (o : Option GroupCopy) (rest : List Held)
    → unwrap_or (option_map (denies_copy copy) (option_map (held_copy disk) o)) false ≡ true
    → denying_disk copy (cons_option (option_map (held_copy disk) o) rest) ≡ Some disk
denied_at copy disk None rest is = absurd (false≢true is)
denied_at copy disk (Some c) rest is =
    ap (λ (b : Bool). option_map (λ (d : Held). d.disk) (cond b (Some (held_copy disk c)) (find (denies_copy copy) rest))) is

past_at : (copy : GroupCopy) (disk : ℕ) (o : Option GroupCopy) (rest : List Held)
    → unwrap_or (option_map (denies_copy copy) (option_map (held_copy disk) o)) false ≡ false
    → denying_disk copy (cons_option (option_map (held_copy disk) o) rest) ≡ denying_disk copy rest
past_at copy disk None rest is = refl
past_at copy disk (Some c) rest is =
    ap (λ (b : Bool). option_map (λ (d : Held). d.disk) (cond b (Some (held_copy disk c)) (find (denies_copy copy) rest))) is

pub denied_here : (copies : List GroupCopy) (copy : GroupCopy) (one : HeldCopy) (rest : List HeldCopy)
    → unwrap_or (option_map (denies_copy copy) (held_of copies one)) false ≡ true
    → denying_disk copy (all_held copies (one ∷ rest)) ≡ Some one.disk
denied_here copies copy one rest is = denied_at copy one.disk (slice_get copies one.number) (all_held copies rest) is

pub denied_past : (copies : List GroupCopy) (copy : GroupCopy) (one : HeldCopy) (rest : List HeldCopy)
    → unwrap_or (option_map (denies_copy copy) (held_of copies one)) false ≡ false
    → denying_disk copy (all_held copies (one ∷ rest)) ≡ denying_disk copy (all_held copies rest)
denied_past copies copy one rest is = past_at copy one.disk (slice_get copies one.number) (all_held copies rest) is

-- a text that is refused
refused_at : (disk : ℕ) (gives : Option AreaGives) (tail : List (ℕ × CopyRefusal)) (later : Bool)
    → (later ≡ true → unsupported_among tail ≡ Some disk)
    → (unwrap_or (option_map is_unsupported_by gives) false || later) ≡ true
    → unsupported_among (cons_option (option_and_then (refused_by disk) gives) tail) ≡ Some disk
refused_at disk None tail later then is = then is
refused_at disk (Some Nothing) tail later then is = then is
refused_at disk (Some (Numbered number)) tail later then is = then is
refused_at disk (Some (RefusedFor why)) tail later then is = of (sum_agrees why) refl is where
  of : (b : Bool) → sum_agrees why ≡ b → (b || later) ≡ true → unsupported_among ((disk, why) ∷ tail) ≡ Some disk
  of true e is =
      ap (λ (t : Bool). option_map (λ (r : ℕ × CopyRefusal). r.0)
      (cond t (Some (disk, why)) (find (λ (r : ℕ × CopyRefusal). sum_agrees r.1) tail))) e
  of false e is =
      ap (λ (t : Bool). option_map (λ (r : ℕ × CopyRefusal). r.0)
      (cond t (Some (disk, why)) (find (λ (r : ℕ × CopyRefusal). sum_agrees r.1) tail))) e ∙ then is

pub unsupported_here : (disk : ℕ) (areas : List AreaRead) (rest : List (ℕ × CopyRefusal)) → list_any is_unsupported areas ≡ true
    → unsupported_among (filter_map (refused_in disk) areas ++ rest) ≡ Some disk
unsupported_here disk [] rest is = absurd (false≢true is)
unsupported_here disk (area ∷ areas) rest is =
    tail_first disk area.gives (filter_map (refused_in disk) areas) rest
    ∙ refused_at disk area.gives (filter_map (refused_in disk) areas ++ rest) (list_any is_unsupported areas)
    (unsupported_here disk areas rest) is
  where
    tail_first : (disk : ℕ) (gives : Option AreaGives) (xs rest : List (ℕ × CopyRefusal))
        → unsupported_among (cons_option (option_and_then (refused_by disk) gives) xs ++ rest)
        ≡ unsupported_among (cons_option (option_and_then (refused_by disk) gives) (xs ++ rest))
    tail_first disk None xs rest = refl
    tail_first disk (Some Nothing) xs rest = refl
    tail_first disk (Some (Numbered number)) xs rest = refl
    tail_first disk (Some (RefusedFor why)) xs rest = refl

accepted_at : (disk : ℕ) (gives : Option AreaGives) (xs rest : List (ℕ × CopyRefusal)) (later : Bool)
    → (later ≡ false → unsupported_among (xs ++ rest) ≡ unsupported_among rest)
    → (unwrap_or (option_map is_unsupported_by gives) false || later) ≡ false
    → unsupported_among (cons_option (option_and_then (refused_by disk) gives) xs ++ rest) ≡ unsupported_among rest
accepted_at disk None xs rest later then is = then is
accepted_at disk (Some Nothing) xs rest later then is = then is
accepted_at disk (Some (Numbered number)) xs rest later then is = then is
accepted_at disk (Some (RefusedFor why)) xs rest later then is = of (sum_agrees why) refl is where
  of : (b : Bool) → sum_agrees why ≡ b → (b || later) ≡ false → unsupported_among ((disk, why) ∷ (xs ++ rest)) ≡ unsupported_among rest
  of true e is = absurd (false≢true (sym is))
  of false e is =
      ap (λ (t : Bool). option_map (λ (r : ℕ × CopyRefusal). r.0)
      (cond t (Some (disk, why)) (find (λ (r : ℕ × CopyRefusal). sum_agrees r.1) (xs ++ rest)))) e ∙ then is

pub unsupported_past : (disk : ℕ) (areas : List AreaRead) (rest : List (ℕ × CopyRefusal)) → list_any is_unsupported areas ≡ false
    → unsupported_among (filter_map (refused_in disk) areas ++ rest) ≡ unsupported_among rest
unsupported_past disk [] rest is = refl
unsupported_past disk (area ∷ areas) rest is =
    accepted_at disk area.gives (filter_map (refused_in disk) areas) rest (list_any is_unsupported areas) (unsupported_past disk areas rest)
    is

-- the refusals of one disk more
pub refused_more : (first : ℕ) (disks : List DiskRead) (disk : DiskRead)
    → refused_on first (disks ++ disk ∷ []) ≡ refused_on first disks ++ filter_map (refused_in (first + length disks)) (areas_on disk)
refused_more first [] disk =
    append-nil (filter_map (refused_in first) (areas_on disk))
    ∙ ap (λ (n : ℕ). filter_map (refused_in n) (areas_on disk)) (let e : first ≡ first + 0 = omega arith in e)
refused_more first (one ∷ disks) disk =
    ap (λ (l : List (ℕ × CopyRefusal)). filter_map (refused_in first) (areas_on one) ++ l) (refused_more (first + 1) disks disk)
    ∙ sym (append_assoc (filter_map (refused_in first) (areas_on one)) (refused_on (first + 1) disks)
    (filter_map (refused_in (first + 1 + length disks)) (areas_on disk)))
    ∙ ap (λ (n : ℕ). refused_on first (one ∷ disks) ++ filter_map (refused_in n) (areas_on disk))
    (let e : first + 1 + length disks ≡ first + suc (length disks) = omega arith in e)

-- the first disk with an unsupported text, from here on
pub unsupported_step : (number : ℕ) (disks : List DiskRead) (disk : DiskRead) (rest : List DiskRead) → disks ≡ disk ∷ rest
    → list_any is_unsupported (areas_on disk) ≡ true
    → unsupported_among (refused_on number disks) ≡ Some number
unsupported_step number disks disk rest is any =
    ap (λ (l : List DiskRead). unsupported_among (refused_on number l)) is
    ∙ unsupported_here number (areas_on disk) (refused_on (number + 1) rest) any

pub supported_step : (number : ℕ) (disks : List DiskRead) (disk : DiskRead) (rest : List DiskRead) → disks ≡ disk ∷ rest
    → list_any is_unsupported (areas_on disk) ≡ false
    → unsupported_among (refused_on (number + 1) rest) ≡ unsupported_among (refused_on number disks)
supported_step number disks disk rest is none =
    sym (ap (λ (l : List DiskRead). unsupported_among (refused_on number l)) is
    ∙ unsupported_past number (areas_on disk) (refused_on (number + 1) rest) none)
