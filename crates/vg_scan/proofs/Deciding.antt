-- What an answer shows of the readings that it stands on.
use Rattle.std.proofs.Common.{◌≡◌, ◌<◌, ℕ, ◌+◌, Bool, true, false, not, ◌&&◌, cond, eqb, List, [], ◌∷◌, length, Option, Some, None}
use Rattle.std.proofs.Common.{refl, sym, ap, arith}
use Rattle.std.specs.Prelude.{option_map, unwrap_or, find, filter_map, All, IfSome}
use Rattle.std.specs.Option.{option_and_then}
use Rattle.std.specs.List.{enumerate_from, flat_map, list_any}
use Rattle.std.proofs.lemmas.List.Elements.{All-nil, All-cons, All-head, All-tail, All-append}
use Rattle.std.proofs.lemmas.Option.{same_Some}
use Rattle.std.specs.Str.{bytes_eq}
use Rattle.scan_rules.specs.declared.copy_refusal.CopyRefusal.{CopyRefusal}
use Rattle.scan_rules.specs.declared.decision.Decided.{Decided}
use Rattle.scan_rules.specs.Answers.{IsDecided}
use Rattle.scan_rules.specs.Decision.{Area, AreaReading, Conflict, DuplicatePv, Found, FoundGroup, Held, NoCopy, NoGroup, PvShape, Reading}
use Rattle.scan_rules.specs.Decision.{ScanAnswer, TwoGroups, Unsupported, best, conflict, copies, decide_scan, duplicates, first_duplicate}
use Rattle.scan_rules.specs.Decision.{first_misplaced, found_with, gives, ids_from, is_held, is_listed, is_something, misshapen_by, no_copy}
use Rattle.scan_rules.specs.Decision.{readings_in, refusals, stale_in, sum_agrees, two_groups, unsupported}
use Rattle.scan_rules.specs.Found.{missing_of}
use Rattle.list_laws.proofs.KeptLists.{all_kept}

-- the volumes of a group that was found lie well, and its lists are of these disks
abbrev pub HasPlaces : List Reading → ScanAnswer → Type 0
HasPlaces rs (FoundGroup held stale strays missing) =
    (first_misplaced held.group rs ≡ None) × All (λ (area : ℕ × ℕ). area.0 < length rs) stale × All (λ (pv : ℕ). pv < length rs) strays
    × (missing ≡ missing_of rs held.group.pvs)
HasPlaces rs NoGroup = Unit {0}
HasPlaces rs (DuplicatePv a b) = Unit {0}
HasPlaces rs (NoCopy refused) = Unit {0}
HasPlaces rs (Unsupported pv) = Unit {0}
HasPlaces rs (TwoGroups a b) = Unit {0}
HasPlaces rs (Conflict a b seqno) = Unit {0}
HasPlaces rs (PvShape pv) = Unit {0}

-- ---- the lists of a group that was found

all_flat : {X Y : Type 0} (P : Y → Type 0) (Q : X → Type 0) (f : X → List Y) → ((x : X) → Q x → All P (f x)) → (xs : List X) → All Q xs
    → All P (flat_map f xs)
all_flat P Q f each [] all = All-nil P
all_flat P Q f each (x ∷ xs) all =
    All-append P (f x) (flat_map f xs) (each x (All-head Q x xs all)) (all_flat P Q f each xs (All-tail Q x xs all))

numbered_below : (n count : ℕ) (rs : List Reading) → n + length rs ≡ count → All (λ (d : ℕ × Reading). d.0 < count) (enumerate_from n rs)
numbered_below n count [] is = All-nil (λ (d : ℕ × Reading). d.0 < count)
numbered_below n count (r ∷ rs) is =
    All-cons (λ (d : ℕ × Reading). d.0 < count) (n, r) (enumerate_from (n + 1) rs) (omega arith)
    (numbered_below (n + 1) count rs (omega arith))

stale_here : (text : List ℕ) (n : ℕ) (reading : Option AreaReading) (area : ℕ) (stale : ℕ × ℕ)
    → option_and_then (λ (r : AreaReading). cond (gives text r) None (Some (n, area))) reading ≡ Some stale → stale.0 ≡ n
stale_here text n None area stale is = absurd cc
stale_here text n (Some r) area stale is = of (gives text r) is where
  of : (b : Bool) → cond b None (Some (n, area)) ≡ Some stale → stale.0 ≡ n
  of true is = absurd cc
  of false is = ap (λ (s : ℕ × ℕ). s.0) (sym (same_Some (n, area) stale is))

stale_on_disk : (text : List ℕ) (n count : ℕ) (pv : Option Found) → n < count
    → All (λ (area : ℕ × ℕ). area.0 < count)
    (unwrap_or
    (option_map
    (λ (found : Found). filter_map (λ (area : ℕ × Area). option_and_then (λ (r : AreaReading). cond (gives text r) None (Some (n, area.0)))
    area.1.reading) (enumerate_from 0 found.areas))
    pv)
    [])
stale_on_disk text n count None below = All-nil (λ (area : ℕ × ℕ). area.0 < count)
stale_on_disk text n count (Some found) below =
    all_kept (λ (area : ℕ × ℕ). area.0 < count) (λ (area : ℕ × Area). Unit {0})
    (λ (area : ℕ × Area). option_and_then (λ (r : AreaReading). cond (gives text r) None (Some (n, area.0))) area.1.reading)
    (λ area stale any is. let same : stale.0 ≡ n = stale_here text n area.1.reading area.0 stale is in omega (arith, below, same))
    (enumerate_from 0 found.areas)
    (λ k d within. tt)

stale_if_listed : (text : List ℕ) (d : ℕ × Reading) (count : ℕ) (b : Bool) → d.0 < count
    → All (λ (area : ℕ × ℕ). area.0 < count) (cond b (stale_in text d) [])
stale_if_listed text d count true below = stale_on_disk text d.0 count d.1.pv below
stale_if_listed text d count false below = All-nil (λ (area : ℕ × ℕ). area.0 < count)

stray_here : (n pv : ℕ) (b : Bool) → cond b (Some n) None ≡ Some pv → pv ≡ n
stray_here n pv true is = sym (same_Some n pv is)
stray_here n pv false is = absurd cc

places : (rs : List Reading) (held : Held) → first_misplaced held.group rs ≡ None → HasPlaces rs (found_with rs held)
places rs held well = (
  well,
  all_flat (λ (area : ℕ × ℕ). area.0 < length rs) (λ (d : ℕ × Reading). d.0 < length rs)
      (λ (d : ℕ × Reading). cond (is_listed held.group d.1) (stale_in held.text d) [])
      (λ d below. stale_if_listed held.text d (length rs) (is_listed held.group d.1) below)
      (enumerate_from 0 rs) (numbered_below 0 (length rs) rs (omega arith)),
  all_kept (λ (pv : ℕ). pv < length rs) (λ (d : ℕ × Reading). d.0 < length rs)
      (λ (d : ℕ × Reading). cond (not (is_listed held.group d.1) && list_any is_something (readings_in d.1)) (Some d.0) None)
      (λ d pv below is. let same : pv ≡ d.0 = stray_here d.0 pv (not (is_listed held.group d.1) && list_any is_something (readings_in d.1))
      is in omega (arith, below, same))
      (enumerate_from 0 rs) (numbered_below 0 (length rs) rs (omega arith)),
  refl,
)

-- ---- the tests before it

past : (rs : List Reading) (o : Option ScanAnswer) (x : ScanAnswer) → IfSome o (HasPlaces rs) → HasPlaces rs x
    → HasPlaces rs (unwrap_or o x)
past rs None x some rest = rest
past rs (Some a) x some rest = some

refuses : {X : Type 0} (rs : List Reading) (f : X → ScanAnswer) → ((x : X) → HasPlaces rs (f x)) → (o : Option X)
    → IfSome (option_map f o) (HasPlaces rs)
refuses rs f each None = tt
refuses rs f each (Some x) = each x

past_no_copy : (rs : List Reading) (cs : List Held) (refused : List (ℕ × CopyRefusal)) → IfSome (no_copy cs refused) (HasPlaces rs)
past_no_copy rs [] [] = tt
past_no_copy rs [] (r ∷ refused) = tt
past_no_copy rs (c ∷ cs) refused = tt

past_unsupported : (rs : List Reading) (cs : List Held) (refused : List (ℕ × CopyRefusal)) → IfSome (unsupported cs refused) (HasPlaces rs)
past_unsupported rs [] refused = tt
past_unsupported rs (c ∷ cs) refused =
    refuses rs (λ (r : ℕ × CopyRefusal). Unsupported r.0) (λ r. tt) (find (λ (r : ℕ × CopyRefusal). sum_agrees r.1) refused)

past_two_groups : (rs : List Reading) (cs : List Held) → IfSome (two_groups cs) (HasPlaces rs)
past_two_groups rs [] = tt
past_two_groups rs (c ∷ cs) =
    refuses rs (λ (d : Held). TwoGroups c.group.id d.group.id) (λ d. tt) (find (λ (d : Held). not (bytes_eq d.group.id c.group.id)) cs)

abbrev conflict_with : List Held → Held → Option ScanAnswer
conflict_with cs b =
    option_map (λ (d : Held). Conflict b.disk d.disk b.group.seqno)
    (find (λ (d : Held). eqb d.group.seqno b.group.seqno && not (bytes_eq d.text b.text)) cs)

past_conflict : (rs : List Reading) (cs : List Held) (b : Option Held) → IfSome (option_and_then (conflict_with cs) b) (HasPlaces rs)
past_conflict rs cs None = tt
past_conflict rs cs (Some b) =
    refuses rs (λ (d : Held). Conflict b.disk d.disk b.group.seqno) (λ d. tt)
    (find (λ (d : Held). eqb d.group.seqno b.group.seqno && not (bytes_eq d.text b.text)) cs)

well_placed : (rs : List Reading) (b : Held) (o : Option ℕ) → first_misplaced b.group rs ≡ o → (h : Bool)
    → HasPlaces rs (unwrap_or (unwrap_or (option_map (λ (disk : ℕ). Some (PvShape disk)) o) (cond h None (Some (PvShape b.disk))))
    (found_with rs b))
well_placed rs b (Some disk) is h = tt
well_placed rs b None is true = places rs b is
well_placed rs b None is false = tt

at_end : (rs : List Reading) (b : Option Held)
    → HasPlaces rs (unwrap_or (option_and_then (λ (x : Held). misshapen_by x rs) b) (unwrap_or (option_map (found_with rs) b) NoGroup))
at_end rs None = tt
at_end rs (Some b) = well_placed rs b (first_misplaced b.group rs) refl (is_held b.group b.text rs)

pub answer_places : (rs : List Reading) → HasPlaces rs (decide_scan rs)
unfolding decide_scan
answer_places rs =
    let cs : List Held = copies rs in
    let refused : List (ℕ × CopyRefusal) = refusals rs in
    past rs (duplicates rs) _ (refuses rs (λ (pair : ℕ × ℕ). DuplicatePv pair.0 pair.1) (λ pair. tt) (first_duplicate (ids_from 0 rs)))
    (past rs (no_copy cs refused) _ (past_no_copy rs cs refused)
    (past rs (unsupported cs refused) _ (past_unsupported rs cs refused)
    (past rs (two_groups cs) _ (past_two_groups rs cs)
    (past rs (conflict cs) _ (past_conflict rs cs (best cs))
    (at_end rs (best cs))))))

-- ---- no physical volume was found twice where nothing is refused

not_first : (decided : Decided) (o : Option (ℕ × ℕ)) (x : ScanAnswer)
    → IsDecided (unwrap_or (option_map (λ (pair : ℕ × ℕ). DuplicatePv pair.0 pair.1) o) x) decided → o ≡ None
not_first decided None x is = refl
not_first decided (Some pair) x is = absurd is

pub no_duplicate : (rs : List Reading) (decided : Decided) → IsDecided (decide_scan rs) decided → first_duplicate (ids_from 0 rs) ≡ None
unfolding decide_scan
no_duplicate rs decided is = not_first decided (first_duplicate (ids_from 0 rs)) _ is
