-- A disk more on which nothing was found changes nothing.
use Rattle.std.proofs.Common.{◌≡◌, ℕ, ◌+◌, Bool, true, false, not, ◌&&◌, ◌||◌, cond, List, [], ◌∷◌, ◌++◌, Option, Some, None, refl, ap, ◌∙◌}
use Rattle.std.specs.Prelude.{filter, filter_map, find, map, option_map, unwrap_or}
use Rattle.std.specs.Option.{option_and_then}
use Rattle.std.specs.List.{cons_option, enumerate_from, flat_map, list_any}
use Rattle.std.specs.Str.{bytes_eq}
use Rattle.meta_model.specs.declared.group.Group.{Group}
use Rattle.meta_model.specs.declared.pv.Pv.{Pv}
use Rattle.scan_rules.specs.declared.copy_refusal.CopyRefusal.{CopyRefusal}
use Rattle.scan_rules.specs.Decision.{Area, AreaReading, DuplicatePv, Found, FoundGroup, Held, NoGroup, PvShape, Reading, ScanAnswer, best}
use Rattle.scan_rules.specs.Decision.{conflict, copies, copies_from, copy_of, decide_scan, first_duplicate, first_misplaced, found_with}
use Rattle.scan_rules.specs.Decision.{has_id, has_misplaced, holds, ids_from, is_held, is_listed, is_something, lists, misshapen_by}
use Rattle.scan_rules.specs.Decision.{no_copy, readings_in, refusal_of, refusals, refusals_from, stale_in, two_groups}
use Rattle.scan_rules.specs.Decision.{unsupported}
use Rattle.scan_rules.specs.Found.{is_this_misplaced, stale_of, stale_on}

-- of any list of disks
find_silent : {X : Type 0} (test : ℕ × X → Bool) (x : X) → ((n : ℕ) → test (n, x) ≡ false) → (first : ℕ) (xs : List X)
    → find test (enumerate_from first (xs ++ x ∷ [])) ≡ find test (enumerate_from first xs)
find_silent test x none first [] = ap (λ (b : Bool). cond b (Some (first, x)) None) (none first)
find_silent test x none first (y ∷ xs) = ap (λ o. cond (test (first, y)) (Some (first, y)) o) (find_silent test x none (first + 1) xs)

any_silent : {X : Type 0} (test : X → Bool) (x : X) → test x ≡ false → (xs : List X) → list_any test (xs ++ x ∷ []) ≡ list_any test xs
any_silent test x none [] = ap (λ (b : Bool). b || false) none
any_silent test x none (y ∷ xs) = ap (λ (b : Bool). test y || b) (any_silent test x none xs)

flat_silent : {X Y : Type 0} (f : ℕ × X → List Y) (x : X) → ((n : ℕ) → f (n, x) ≡ []) → (first : ℕ) (xs : List X)
    → flat_map f (enumerate_from first (xs ++ x ∷ [])) ≡ flat_map f (enumerate_from first xs)
flat_silent f x none first [] = ap (λ l. l ++ []) (none first)
flat_silent f x none first (y ∷ xs) = ap (λ l. f (first, y) ++ l) (flat_silent f x none (first + 1) xs)

kept_silent : {X Y : Type 0} (h : ℕ × X → Option Y) (x : X) → ((n : ℕ) → h (n, x) ≡ None) → (first : ℕ) (xs : List X)
    → filter_map h (enumerate_from first (xs ++ x ∷ [])) ≡ filter_map h (enumerate_from first xs)
kept_silent h x none first [] = ap (λ o. cons_option o []) (none first)
kept_silent h x none first (y ∷ xs) = ap (λ l. cons_option (h (first, y)) l) (kept_silent h x none (first + 1) xs)

-- what is read of all disks
no_readings : (disk : Reading) → disk.pv ≡ None → readings_in disk ≡ []
no_readings disk none =
    ap (λ (o : Option Found). unwrap_or (option_map (λ (pv : Found). filter_map (λ (area : Area). area.reading) pv.areas) o) []) none

ids_silent : (disk : Reading) → disk.pv ≡ None → (first : ℕ) (disks : List Reading)
    → ids_from first (disks ++ disk ∷ []) ≡ ids_from first disks
ids_silent disk none first [] = ap (λ (o : Option Found). unwrap_or (option_map (λ (pv : Found). (first, pv.id) ∷ []) o) []) none
ids_silent disk none first (d ∷ disks) =
    ap (λ (rest : List (ℕ × List ℕ)). unwrap_or (option_map (λ (pv : Found). (first, pv.id) ∷ rest) d.pv) rest)
    (ids_silent disk none (first + 1) disks)

copies_silent : (disk : Reading) → disk.pv ≡ None → (first : ℕ) (disks : List Reading)
    → copies_from first (disks ++ disk ∷ []) ≡ copies_from first disks
copies_silent disk none first [] = ap (λ (rs : List AreaReading). filter_map (copy_of first) rs ++ []) (no_readings disk none)
copies_silent disk none first (d ∷ disks) =
    ap (λ (l : List Held). filter_map (copy_of first) (readings_in d) ++ l) (copies_silent disk none (first + 1) disks)

refusals_silent : (disk : Reading) → disk.pv ≡ None → (first : ℕ) (disks : List Reading)
    → refusals_from first (disks ++ disk ∷ []) ≡ refusals_from first disks
refusals_silent disk none first [] = ap (λ (rs : List AreaReading). filter_map (refusal_of first) rs ++ []) (no_readings disk none)
refusals_silent disk none first (d ∷ disks) =
    ap (λ (l : List (ℕ × CopyRefusal)). filter_map (refusal_of first) (readings_in d) ++ l) (refusals_silent disk none (first + 1) disks)

-- what is said of the group in force
unlisted : (group : Group) (disk : Reading) → disk.pv ≡ None → is_listed group disk ≡ false
unlisted group disk none = ap (λ (o : Option Found). unwrap_or (option_map (λ (pv : Found). lists group pv.id) o) false) none

placed_well : (group : Group) (disk : Reading) → disk.pv ≡ None → has_misplaced group disk ≡ false
placed_well group disk none =
    ap (λ (o : Option Found). unwrap_or (option_map (λ (found : Found). list_any (is_this_misplaced group.extent_size disk found) group.pvs)
    o) false) none

misshapen_silent : (disk : Reading) → disk.pv ≡ None → (disks : List Reading) (b : Held)
    → misshapen_by b (disks ++ disk ∷ []) ≡ misshapen_by b disks
misshapen_silent disk none disks b =
    let placed : first_misplaced b.group (disks ++ disk ∷ []) ≡ first_misplaced b.group disks =
    ap (λ (o : Option (ℕ × Reading)). option_map (λ (d : ℕ × Reading). d.0) o)
    (find_silent (λ (d : ℕ × Reading). has_misplaced b.group d.1) disk (λ n. placed_well b.group disk none) 0 disks) in
    let held : is_held b.group b.text (disks ++ disk ∷ []) ≡ is_held b.group b.text disks =
    any_silent (λ (d : Reading). is_listed b.group d && holds b.text d) disk
    (ap (λ (t : Bool). t && holds b.text disk) (unlisted b.group disk none)) disks in
    λ i. unwrap_or (option_map (λ (d : ℕ). Some (PvShape d)) (placed i)) (cond (held i) None (Some (PvShape b.disk)))

abbrev stray_if : Group → ℕ × Reading → Option ℕ
stray_if group d = cond (not (is_listed group d.1) && list_any is_something (readings_in d.1)) (Some d.0) None

and_false : (b : Bool) → (b && false) ≡ false
and_false true = refl
and_false false = refl

no_stray : (group : Group) (disk : Reading) → disk.pv ≡ None → (n : ℕ) → stray_if group (n, disk) ≡ None
no_stray group disk none n =
    ap (λ (rs : List AreaReading). cond (not (is_listed group disk) && list_any is_something rs) (Some n) None) (no_readings disk none)
    ∙ ap (λ (b : Bool). cond b (Some n) None) (and_false (not (is_listed group disk)))

found_silent : (disk : Reading) → disk.pv ≡ None → (disks : List Reading) (b : Held)
    → found_with (disks ++ disk ∷ []) b ≡ found_with disks b
found_silent disk none disks b =
    let stale : stale_on b.group b.text 0 (disks ++ disk ∷ []) ≡ stale_on b.group b.text 0 disks =
    flat_silent (stale_of b.group b.text) disk (λ n. ap (λ (t : Bool). cond t (stale_in b.text (n, disk)) []) (unlisted b.group disk none))
    0 disks in
    let strays : filter_map (stray_if b.group) (enumerate_from 0 (disks ++ disk ∷ []))
    ≡ filter_map (stray_if b.group) (enumerate_from 0 disks) =
    kept_silent (stray_if b.group) disk (no_stray b.group disk none) 0 disks in
    let known : (id : List ℕ) → list_any (has_id id) (disks ++ disk ∷ []) ≡ list_any (has_id id) disks =
    λ id. any_silent (has_id id) disk (ap (λ (o : Option Found). unwrap_or (option_map (λ (pv : Found). bytes_eq pv.id id) o) false) none)
    disks in
    λ i. FoundGroup b (stale i) (strays i) (map (λ (pv : List ℕ × Pv). pv.1.id)
    (filter (λ (pv : List ℕ × Pv). pv.1.missing || not (known pv.1.id i)) b.group.pvs))

-- the tests behind that of the duplicates
abbrev later_tests : List Held → List (ℕ × CopyRefusal) → Option ScanAnswer → ScanAnswer → ScanAnswer
later_tests cs rs shape last =
    unwrap_or (no_copy cs rs) (unwrap_or (unsupported cs rs) (unwrap_or (two_groups cs) (unwrap_or (conflict cs) (unwrap_or shape last))))

abbrev tests : Option (ℕ × ℕ) → List Held → List (ℕ × CopyRefusal) → Option ScanAnswer → ScanAnswer → ScanAnswer
tests pair cs rs shape last = unwrap_or (option_map (λ (p : ℕ × ℕ). DuplicatePv p.0 p.1) pair) (later_tests cs rs shape last)

abbrev shape_of : List Held → List Reading → Option ScanAnswer
shape_of cs disks = option_and_then (λ (b : Held). misshapen_by b disks) (best cs)

abbrev last_of : List Held → List Reading → ScanAnswer
last_of cs disks = unwrap_or (option_map (found_with disks) (best cs)) NoGroup

pub silent_changes_nothing : (disks : List Reading) (disk : Reading) → disk.pv ≡ None → decide_scan (disks ++ disk ∷ []) ≡ decide_scan disks
unfolding decide_scan copies refusals
silent_changes_nothing disks disk none =
    let more : List Reading = disks ++ disk ∷ [] in
    let cs : List Held = copies_from 0 disks in
    let rs : List (ℕ × CopyRefusal) = refusals_from 0 disks in
    ap (λ (ids : List (ℕ × List ℕ)). tests (first_duplicate ids) (copies_from 0 more) (refusals_from 0 more)
    (shape_of (copies_from 0 more) more) (last_of (copies_from 0 more) more)) (ids_silent disk none 0 disks)
    ∙ ap (λ (l : List Held). tests (first_duplicate (ids_from 0 disks)) l (refusals_from 0 more) (shape_of l more) (last_of l more))
    (copies_silent disk none 0 disks)
    ∙ ap (λ (l : List (ℕ × CopyRefusal)). tests (first_duplicate (ids_from 0 disks)) cs l (shape_of cs more) (last_of cs more))
    (refusals_silent disk none 0 disks)
    ∙ (λ i. tests (first_duplicate (ids_from 0 disks)) cs rs
    (option_and_then (λ (b : Held). misshapen_silent disk none disks b i) (best cs))
    (unwrap_or (option_map (λ (b : Held). found_silent disk none disks b i) (best cs)) NoGroup))
