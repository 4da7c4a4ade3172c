-- What the areas of disks give, disk by disk and area by area.
use Rattle.std.proofs.Common.{◌≡◌, ℕ, ◌+◌, Bool, true, false, not, ◌&&◌, ◌||◌, cond, nat_le, List, [], ◌∷◌, ◌++◌, Option, Some, None, refl}
use Rattle.std.proofs.Common.{sym, ap, subst, ◌∙◌}
use Rattle.std.specs.Prelude.{filter_map, option_map, unwrap_or}
use Rattle.std.specs.Option.{option_and_then}
use Rattle.std.specs.List.{AllByRecursion, cons_option, enumerate_from, flat_map, list_any}
use Rattle.std.proofs.lemmas.Bool.{true≢false}
use Rattle.std.proofs.lemmas.Option.{same_Some}
use Rattle.meta_model.specs.declared.group.Group.{Group}
use Rattle.scan_rules.specs.Decision.{Area, AreaReading, Copy, EachArea, Found, Held, HoldsNone, Reading, Refused, best, copies}
use Rattle.scan_rules.specs.Decision.{copies_from, copy_of, gives, greater, is_listed, is_something, readings_in, refusal_of, refusals_from}
use Rattle.scan_rules.specs.Decision.{stale_in}
use Rattle.scan_rules.specs.Found.{stale_if, stale_of}
use Rattle.image_scans.proofs.Decided.{HasNothing, strays_in}

-- an area that isn't ignored gives such
abbrev pub GivenHas : (AreaReading → Type 0) → Option AreaReading → Type 0
GivenHas P None = Unit {0}
GivenHas P (Some r) = P r

abbrev pub AreasGive : (AreaReading → Type 0) → List Area → Type 0
AreasGive P [] = Unit {0}
AreasGive P (area ∷ areas) = GivenHas P area.reading × AreasGive P areas

abbrev pub PvGives : (AreaReading → Type 0) → Option Found → Type 0
PvGives P None = Unit {0}
PvGives P (Some pv) = AreasGive P pv.areas

-- each area of each disk, by the disk
abbrev pub DisksGive : (Reading → AreaReading → Type 0) → List Reading → Type 0
DisksGive P [] = Unit {0}
DisksGive P (disk ∷ disks) = PvGives (P disk) disk.pv × DisksGive P disks

-- ---- what follows

given_weaker : (P Q : AreaReading → Type 0) → ((r : AreaReading) → P r → Q r) → (o : Option AreaReading) → GivenHas P o → GivenHas Q o
given_weaker P Q weaker None has = tt
given_weaker P Q weaker (Some r) has = weaker r has

pub areas_weaker : (P Q : AreaReading → Type 0) → ((r : AreaReading) → P r → Q r) → (areas : List Area) → AreasGive P areas
    → AreasGive Q areas
areas_weaker P Q weaker [] all = tt
areas_weaker P Q weaker (area ∷ areas) all = (given_weaker P Q weaker area.reading all.0, areas_weaker P Q weaker areas all.1)

pub pv_weaker : (P Q : AreaReading → Type 0) → ((r : AreaReading) → P r → Q r) → (pv : Option Found) → PvGives P pv → PvGives Q pv
pv_weaker P Q weaker None all = tt
pv_weaker P Q weaker (Some pv) all = areas_weaker P Q weaker pv.areas all

pub disks_weaker : (P Q : Reading → AreaReading → Type 0) → ((disk : Reading) (r : AreaReading) → P disk r → Q disk r)
    → (disks : List Reading) → DisksGive P disks → DisksGive Q disks
disks_weaker P Q weaker [] all = tt
disks_weaker P Q weaker (disk ∷ disks) all = (pv_weaker (P disk) (Q disk) (weaker disk) disk.pv all.0, disks_weaker P Q weaker disks all.1)

given_both : (P Q : AreaReading → Type 0) (o : Option AreaReading) → GivenHas P o → GivenHas Q o → GivenHas (λ r. P r × Q r) o
given_both P Q None a b = tt
given_both P Q (Some r) a b = (a, b)

areas_both : (P Q : AreaReading → Type 0) (areas : List Area) → AreasGive P areas → AreasGive Q areas → AreasGive (λ r. P r × Q r) areas
areas_both P Q [] a b = tt
areas_both P Q (area ∷ areas) a b = (given_both P Q area.reading a.0 b.0, areas_both P Q areas a.1 b.1)

pv_both : (P Q : AreaReading → Type 0) (pv : Option Found) → PvGives P pv → PvGives Q pv → PvGives (λ r. P r × Q r) pv
pv_both P Q None a b = tt
pv_both P Q (Some pv) a b = areas_both P Q pv.areas a b

pub disks_both : (P Q : Reading → AreaReading → Type 0) (disks : List Reading) → DisksGive P disks → DisksGive Q disks
    → DisksGive (λ disk r. P disk r × Q disk r) disks
disks_both P Q [] a b = tt
disks_both P Q (disk ∷ disks) a b = (pv_both (P disk) (Q disk) disk.pv a.0 b.0, disks_both P Q disks a.1 b.1)

-- ---- as lists of what is given

one_given : (P : AreaReading → Type 0) (o : Option AreaReading) (rest : List AreaReading) → GivenHas P o → AllByRecursion P rest
    → AllByRecursion P (cons_option o rest)
one_given P None rest has all = all
one_given P (Some r) rest has all = (has, all)

list_given : (P : AreaReading → Type 0) (areas : List Area) → AreasGive P areas
    → AllByRecursion P (filter_map (λ (area : Area). area.reading) areas)
list_given P [] all = tt
list_given P (area ∷ areas) all = one_given P area.reading (filter_map (λ (a : Area). a.reading) areas) all.0 (list_given P areas all.1)

pv_given : (P : AreaReading → Type 0) (pv : Option Found) → PvGives P pv
    → AllByRecursion P (unwrap_or (option_map (λ (p : Found). filter_map (λ (area : Area). area.reading) p.areas) pv) [])
pv_given P None all = tt
pv_given P (Some pv) all = list_given P pv.areas all

pub each_given : (P : AreaReading → Type 0) (disks : List Reading) → DisksGive (λ disk. P) disks → EachArea P disks
each_given P [] all = tt
each_given P (disk ∷ disks) all = (pv_given P disk.pv all.0, each_given P disks all.1)

-- ---- copies and refusals

-- a copy with such a group, text and paths
abbrev pub CopyHas : (Group → List ℕ → List (List ℕ) → Type 0) → AreaReading → Type 0
CopyHas P HoldsNone = Unit {0}
CopyHas P (Copy group text passed) = P group text passed
CopyHas P (Refused why) = Unit {0}

abbrev HeldHas : (Group → List ℕ → List (List ℕ) → Type 0) → Held → Type 0
HeldHas P held = P held.group held.text held.passed

all_append : {X : Type 0} (P : X → Type 0) (xs ys : List X) → AllByRecursion P xs → AllByRecursion P ys → AllByRecursion P (xs ++ ys)
all_append P [] ys a b = b
all_append P (x ∷ xs) ys a b = (a.0, all_append P xs ys a.1 b)

copies_of_list : (P : Group → List ℕ → List (List ℕ) → Type 0) (disk : ℕ) (rs : List AreaReading) → AllByRecursion (CopyHas P) rs
    → AllByRecursion (HeldHas P) (filter_map (copy_of disk) rs)
copies_of_list P disk [] all = tt
copies_of_list P disk (HoldsNone ∷ rs) all = copies_of_list P disk rs all.1
copies_of_list P disk (Copy group text passed ∷ rs) all = (all.0, copies_of_list P disk rs all.1)
copies_of_list P disk (Refused why ∷ rs) all = copies_of_list P disk rs all.1

copies_have : (P : Group → List ℕ → List (List ℕ) → Type 0) (first : ℕ) (disks : List Reading) → EachArea (CopyHas P) disks
    → AllByRecursion (HeldHas P) (copies_from first disks)
copies_have P first [] all = tt
copies_have P first (disk ∷ disks) all =
    all_append (HeldHas P) (filter_map (copy_of first) (readings_in disk)) (copies_from (first + 1) disks)
    (copies_of_list P first (readings_in disk) all.0) (copies_have P (first + 1) disks all.1)

pick : (P : Held → Type 0) (c d : Held) (b : Bool) → P c → P d → P (cond b c d)
pick P c d true p q = p
pick P c d false p q = q

of_greater : (P : Held → Type 0) (c : Held) (o : Option Held) → P c → ((d : Held) → o ≡ Some d → P d) → P (greater c o)
of_greater P c None p later = p
of_greater P c (Some d) p later = pick P c d (nat_le d.group.seqno c.group.seqno) p (later d refl)

best_has : (P : Held → Type 0) (cs : List Held) → AllByRecursion P cs → (b : Held) → best cs ≡ Some b → P b
best_has P [] all b is = absurd cc
best_has P (c ∷ cs) all b is = subst P (same_Some (greater c (best cs)) b is) (of_greater P c (best cs) all.0 (best_has P cs all.1))

-- what all copies have, the best one has
pub best_copy_has : (P : Group → List ℕ → List (List ℕ) → Type 0) (disks : List Reading) → DisksGive (λ disk. CopyHas P) disks → (b : Held)
    → best (copies disks) ≡ Some b → P b.group b.text b.passed
unfolding copies
best_copy_has P disks all b is = best_has (HeldHas P) (copies_from 0 disks) (copies_have P 0 disks (each_given (CopyHas P) disks all)) b is

-- ---- where nothing is held

abbrev pub IsNone : AreaReading → Type 0
IsNone r = r ≡ HoldsNone

nil_parts : {X : Type 0} (xs ys : List X) → xs ++ ys ≡ [] → (xs ≡ []) × (ys ≡ [])
nil_parts [] ys is = (refl, is)
nil_parts (x ∷ xs) ys is = absurd cc

none_given : (disk : ℕ) (o : Option AreaReading) (rest : List AreaReading) → filter_map (copy_of disk) (cons_option o rest) ≡ []
    → filter_map (refusal_of disk) (cons_option o rest) ≡ []
    → GivenHas IsNone o × (filter_map (copy_of disk) rest ≡ []) × (filter_map (refusal_of disk) rest ≡ [])
none_given disk None rest copied refused = (tt, copied, refused)
none_given disk (Some HoldsNone) rest copied refused = (refl, copied, refused)
none_given disk (Some (Copy group text passed)) rest copied refused = absurd cc
none_given disk (Some (Refused why)) rest copied refused = absurd cc

areas_none : (disk : ℕ) (areas : List Area) → filter_map (copy_of disk) (filter_map (λ (area : Area). area.reading) areas) ≡ []
    → filter_map (refusal_of disk) (filter_map (λ (area : Area). area.reading) areas) ≡ []
    → AreasGive IsNone areas
areas_none disk [] copied refused = tt
areas_none disk (area ∷ areas) copied refused =
    let parts = none_given disk area.reading (filter_map (λ (a : Area). a.reading) areas) copied refused in
    (parts.0, areas_none disk areas parts.1 parts.2)

pv_none : (disk : ℕ) (pv : Option Found)
    → filter_map (copy_of disk) (unwrap_or (option_map (λ (p : Found). filter_map (λ (area : Area). area.reading) p.areas) pv) []) ≡ []
    → filter_map (refusal_of disk) (unwrap_or (option_map (λ (p : Found). filter_map (λ (area : Area). area.reading) p.areas) pv) []) ≡ []
    → PvGives IsNone pv
pv_none disk None copied refused = tt
pv_none disk (Some pv) copied refused = areas_none disk pv.areas copied refused

none_from : (first : ℕ) (disks : List Reading) → copies_from first disks ≡ [] → refusals_from first disks ≡ []
    → DisksGive (λ disk. IsNone) disks
none_from first [] copied refused = tt
none_from first (disk ∷ disks) copied refused =
    let a = nil_parts (filter_map (copy_of first) (readings_in disk)) (copies_from (first + 1) disks) copied in
    let b = nil_parts (filter_map (refusal_of first) (readings_in disk)) (refusals_from (first + 1) disks) refused in
    (pv_none first disk.pv a.0 b.0, none_from (first + 1) disks a.1 b.1)

pub nothing_given : (disks : List Reading) → HasNothing disks → DisksGive (λ disk. IsNone) disks
nothing_given disks h = none_from 0 disks h.no_copies h.no_refusals

-- and back
list_silent : {Y : Type 0} (f : AreaReading → Option Y) → f HoldsNone ≡ None → (rs : List AreaReading) → AllByRecursion IsNone rs
    → filter_map f rs ≡ []
list_silent f none [] all = refl
list_silent f none (r ∷ rs) all = ap (λ o. cons_option o (filter_map f rs)) (ap f all.0 ∙ none) ∙ list_silent f none rs all.1

both_nil : {X : Type 0} (xs ys : List X) → xs ≡ [] → ys ≡ [] → xs ++ ys ≡ []
both_nil xs ys a b = ap (λ l. l ++ ys) a ∙ b

copies_silent : (first : ℕ) (disks : List Reading) → EachArea IsNone disks → copies_from first disks ≡ []
copies_silent first [] all = refl
copies_silent first (disk ∷ disks) all =
    both_nil (filter_map (copy_of first) (readings_in disk)) (copies_from (first + 1) disks)
    (list_silent (copy_of first) refl (readings_in disk) all.0) (copies_silent (first + 1) disks all.1)

refusals_silent : (first : ℕ) (disks : List Reading) → EachArea IsNone disks → refusals_from first disks ≡ []
refusals_silent first [] all = refl
refusals_silent first (disk ∷ disks) all =
    both_nil (filter_map (refusal_of first) (readings_in disk)) (refusals_from (first + 1) disks)
    (list_silent (refusal_of first) refl (readings_in disk) all.0) (refusals_silent (first + 1) disks all.1)

pub copies_none : (disks : List Reading) → DisksGive (λ disk. IsNone) disks → copies_from 0 disks ≡ []
copies_none disks all = copies_silent 0 disks (each_given IsNone disks all)

pub refusals_none : (disks : List Reading) → DisksGive (λ disk. IsNone) disks → refusals_from 0 disks ≡ []
refusals_none disks all = refusals_silent 0 disks (each_given IsNone disks all)

-- ---- where nothing is stale or stray

-- an area of a listed disk gives the text, and one of another gives nothing
abbrev pub IsSettled : Group → List ℕ → Reading → AreaReading → Type 0
IsSettled group text disk r = (is_listed group disk ≡ true → gives text r ≡ true) × (is_listed group disk ≡ false → is_something r ≡ false)

given_text : (text : List ℕ) (disk number : ℕ) (r : AreaReading) (b : Bool) (rest : List (ℕ × ℕ)) → gives text r ≡ b
    → cons_option (cond b None (Some (disk, number))) rest ≡ [] → (gives text r ≡ true) × (rest ≡ [])
given_text text disk number r true rest is none = (is, none)
given_text text disk number r false rest is none = absurd cc

text_at : (text : List ℕ) (disk number : ℕ) (o : Option AreaReading) (rest : List (ℕ × ℕ))
    → cons_option (option_and_then (λ (r : AreaReading). cond (gives text r) None (Some (disk, number))) o) rest ≡ []
    → GivenHas (λ r. gives text r ≡ true) o × (rest ≡ [])
text_at text disk number None rest none = (tt, none)
text_at text disk number (Some r) rest none = given_text text disk number r (gives text r) rest refl none

texts_given : (text : List ℕ) (disk first : ℕ) (areas : List Area) → filter_map (stale_if text disk) (enumerate_from first areas) ≡ []
    → AreasGive (λ r. gives text r ≡ true) areas
texts_given text disk first [] none = tt
texts_given text disk first (area ∷ areas) none =
    let parts = text_at text disk first area.reading (filter_map (stale_if text disk) (enumerate_from (first + 1) areas)) none in
    (parts.0, texts_given text disk (first + 1) areas parts.1)

pv_texts : (text : List ℕ) (disk : ℕ) (pv : Option Found)
    → unwrap_or (option_map (λ (p : Found). filter_map (stale_if text disk) (enumerate_from 0 p.areas)) pv) [] ≡ []
    → PvGives (λ r. gives text r ≡ true) pv
pv_texts text disk None none = tt
pv_texts text disk (Some pv) none = texts_given text disk 0 pv.areas none

or_false : (a b : Bool) → (a || b) ≡ false → (a ≡ false) × (b ≡ false)
or_false true b none = absurd cc
or_false false b none = (refl, none)

one_silent : (o : Option AreaReading) (rest : List AreaReading) → list_any is_something (cons_option o rest) ≡ false
    → GivenHas (λ r. is_something r ≡ false) o × (list_any is_something rest ≡ false)
one_silent None rest none = (tt, none)
one_silent (Some r) rest none = or_false (is_something r) (list_any is_something rest) none

areas_silent : (areas : List Area) → list_any is_something (filter_map (λ (area : Area). area.reading) areas) ≡ false
    → AreasGive (λ r. is_something r ≡ false) areas
areas_silent [] none = tt
areas_silent (area ∷ areas) none =
    let parts = one_silent area.reading (filter_map (λ (a : Area). a.reading) areas) none in (parts.0, areas_silent areas parts.1)

pv_silent : (pv : Option Found) → list_any is_something
    (unwrap_or (option_map (λ (p : Found). filter_map (λ (area : Area). area.reading) p.areas) pv) []) ≡ false
    → PvGives (λ r. is_something r ≡ false) pv
pv_silent None none = tt
pv_silent (Some pv) none = areas_silent pv.areas none

stray_parts : (number : ℕ) (some : Bool) (rest : List ℕ) → cons_option (cond some (Some number) None) rest ≡ []
    → (some ≡ false) × (rest ≡ [])
stray_parts number true rest none = absurd cc
stray_parts number false rest none = (refl, none)

disk_settled : (group : Group) (text : List ℕ) (number : ℕ) (disk : Reading) (b : Bool) → is_listed group disk ≡ b
    → cond b (stale_in text (number, disk)) [] ≡ [] → (not b && list_any is_something (readings_in disk)) ≡ false
    → PvGives (IsSettled group text disk) disk.pv
disk_settled group text number disk true listed none silent =
    pv_weaker (λ r. gives text r ≡ true) (IsSettled group text disk)
    (λ r given. ((λ is. given), λ no_list. absurd (true≢false (sym listed ∙ no_list)))) disk.pv (pv_texts text number disk.pv none)
disk_settled group text number disk false listed none silent =
    pv_weaker (λ r. is_something r ≡ false) (IsSettled group text disk)
    (λ r given. ((λ is. absurd (true≢false (sym is ∙ listed))), λ no_list. given)) disk.pv (pv_silent disk.pv silent)

settled_from : (group : Group) (text : List ℕ) (first : ℕ) (disks : List Reading)
    → flat_map (stale_of group text) (enumerate_from first disks) ≡ []
    → filter_map (λ (d : ℕ × Reading). cond (not (is_listed group d.1) && list_any is_something (readings_in d.1)) (Some d.0) None)
    (enumerate_from first disks) ≡ [] → DisksGive (IsSettled group text) disks
settled_from group text first [] stale strays = tt
settled_from group text first (disk ∷ disks) stale strays =
    let a = nil_parts (stale_of group text (first, disk)) (flat_map (stale_of group text) (enumerate_from (first + 1) disks)) stale in
    let b = stray_parts first (not (is_listed group disk) && list_any is_something (readings_in disk))
    (filter_map (λ (d : ℕ × Reading). cond (not (is_listed group d.1) && list_any is_something (readings_in d.1)) (Some d.0) None)
    (enumerate_from (first + 1) disks)) strays in
    (disk_settled group text first disk (is_listed group disk) refl a.0 b.0, settled_from group text (first + 1) disks a.1 b.1)

pub settled : (group : Group) (text : List ℕ) (disks : List Reading) → flat_map (stale_of group text) (enumerate_from 0 disks) ≡ []
    → strays_in group disks ≡ [] → DisksGive (IsSettled group text) disks
settled group text disks stale strays = settled_from group text 0 disks stale strays
