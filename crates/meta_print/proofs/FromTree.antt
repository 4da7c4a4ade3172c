-- What a tree gives of the group that it stands for.
use Rattle.std.proofs.Common.{◌≡◌, ℕ, suc, ◌<◌, ◌^◌, Bool, true, false, cond, List, [], ◌∷◌, length, get_or, Option, Some, None, Ok, Err}
use Rattle.std.proofs.Common.{refl, sym, ap, subst, ◌∙◌, arith}
use Rattle.std.specs.Prelude.{nat_eq, nat_lt, codes, option_map, slice_index_or}
use Rattle.std.specs.Option.{option_or}
use Rattle.std.specs.List.{position, AllByRecursion as Each}
use Rattle.std.specs.Cmp.Lexicographic.{pointwise, same_text}
use Rattle.std.proofs.lemmas.List.Quantifiers.{position-Some}
use Rattle.std.proofs.lemmas.Option.{same_Some}
use Rattle.conf_text.specs.Grammar.{IsContent}
use Rattle.meta_model.specs.Keys.{Items, Read, each, number, text, words, status as keys_status, required, optional, only, counted}
use Rattle.meta_model.specs.Standing.{Names, on_named, leg_of, legs, striped, mirror, segment_of, pv_of}
use Rattle.meta_model.specs.declared.refusal.GroupRefusal.TheVariants.{UnknownSegment}
use Rattle.meta_model.specs.declared.group.Group.{Group}
use Rattle.meta_model.specs.declared.pv.Pv.{Pv}
use Rattle.meta_model.specs.declared.segment.On.{On}
use Rattle.meta_model.specs.declared.segment.On.TheVariants as on
use Rattle.meta_model.specs.declared.segment.Leg.{Leg}
use Rattle.meta_model.specs.declared.segment.SegKind.{SegKind}
use Rattle.meta_model.specs.declared.segment.SegKind.TheVariants.{Striped, Mirror}
use Rattle.meta_model.specs.declared.segment.Segment.{Segment}
use Rattle.meta_print.specs.Layout.{name_of}
use Rattle.meta_print.proofs.Printable.{names_of, IsLeg, IsLegs, IsKind, IsSegment, IsPv}
use Rattle.meta_print.proofs.Inverting.{bound, there, same_Ok, counted_as}
use Rattle.meta_print.proofs.TextParts.{AreGood, IsGoodPair, number_read, number_or, text_or, pairs_read, moved_or, id_read}

-- ---- a physical volume

pub pv_from : (keys : Items) (pv : Pv) → AreGood keys → pv_of keys ≡ Ok pv → IsPv pv
pv_from keys pv good h =
    bound h (λ id id_is h1.
    bound h1 (λ start start_is h2.
    bound h2 (λ count count_is h3.
    bound {x = keys_status (codes "ALLOCATABLE" ∷ []) (codes "status") keys} h3 (λ (status : List (List ℕ)) status_is h4.
    bound {x = optional words [] (codes "flags") keys} h4 (λ (flags : List (List ℕ)) flags_is h5.
    bound h5 (λ (device : List ℕ) device_is h6.
    bound h6 (λ (size : ℕ) size_is h7.
    subst IsPv (same_Ok h7) (record {
      id_again = id_read (codes "id") keys id good id_is;
      device_content = text_or (codes "device") keys device good device_is;
      size_fits = number_or 0 (codes "dev_size") keys size (omega arith) good size_is;
      start_fits = number_read (codes "pe_start") keys start good start_is;
      count_fits = number_read (codes "pe_count") keys count good count_is;
    }))))))))

-- ---- a segment

-- the name of what a leg lies on
abbrev name_on : Names → On → List ℕ
name_on names (on.Pv number) = slice_index_or names.pvs number []
name_on names (on.Lv number) = slice_index_or names.lvs number []

name_of-on : (group : Group) (on : On) → name_of group on ≡ name_on (names_of group) on
name_of-on group (on.Pv number) = refl
name_of-on group (on.Lv number) = refl

placed : (names : List (List ℕ)) (name : List ℕ) (number : ℕ) → position (pointwise nat_eq name) names ≡ Some number
    → slice_index_or names number [] ≡ name
placed names name number h =
    let parts : (number < length names) × (pointwise nat_eq name (get_or names number []) ≡ true)
    × ((k : ℕ) → k < number → pointwise nat_eq name (get_or names k []) ≡ false) = position-Some (pointwise nat_eq name) names number []
    h in sym (same_text name (get_or names number []) (sym parts.1))

named_by : (names : Names) (name : List ℕ) (is : On) (pv lv : Option ℕ) → position (pointwise nat_eq name) names.pvs ≡ pv
    → position (pointwise nat_eq name) names.lvs ≡ lv
    → option_or (option_map (λ (number : ℕ). on.Pv number) pv) (option_map (λ (number : ℕ). on.Lv number) lv) ≡ Some is
    → name_on names is ≡ name
named_by names name is (Some number) lv on_pv on_lv h =
    subst (λ (x : On). name_on names x ≡ name) (same_Some (on.Pv number) is h) (placed names.pvs name number on_pv)
named_by names name is None (Some number) on_pv on_lv h =
    subst (λ (x : On). name_on names x ≡ name) (same_Some (on.Lv number) is h) (placed names.lvs name number on_lv)
named_by names name is None None on_pv on_lv h = absurd cc

found_named : (names : Names) (name : List ℕ) (is : On) → on_named names name ≡ Some is → name_on names is ≡ name
found_named names name is h =
    named_by names name is (position (pointwise nat_eq name) names.pvs) (position (pointwise nat_eq name) names.lvs) refl refl h

leg_from : (group : Group) (pair : List ℕ × ℕ) → IsGoodPair pair → (leg : Leg) → leg_of (names_of group) pair ≡ Ok leg → IsLeg group leg
leg_from group pair good leg h =
    bound h (λ (is : On) found e.
    let same : name_of group is ≡ pair.0 = name_of-on group is ∙ found_named (names_of group) pair.0 is (there _ found) in
    subst (IsLeg group) (same_Ok e) (record {
      found = ap (on_named (names_of group)) same ∙ there _ found;
      content = subst IsContent (sym same) good.0;
      first_fits = good.1;
    }))

-- each is read
pub each_from : {A B : Type 0} (read : A → Read B) (P : A → Type 0) (Q : B → Type 0) → ((x : A) → P x → (y : B) → read x ≡ Ok y → Q y)
    → (xs : List A) (ys : List B) → Each P xs → each read xs ≡ Ok ys
    → Each Q ys × (length ys ≡ length xs)
each_from read P Q one [] ys good h = subst (λ l. Each Q l × (length l ≡ 0)) (same_Ok h) (tt, refl)
each_from read P Q one (x ∷ xs) ys good h =
    bound h (λ y y_is h1.
    bound h1 (λ more more_is e.
    let rest : Each Q more × (length more ≡ length xs) = each_from read P Q one xs more good.1 more_is in
    let all : Each Q (y ∷ more) × (length (y ∷ more) ≡ suc (length xs)) = ((one x good.0 y y_is, rest.0), ap suc rest.1) in
    subst (λ l. Each Q l × (length l ≡ suc (length xs))) (same_Ok e) all))

legs_from : (group : Group) (said : ℕ) (key : List ℕ) (keys : Items) (ls : List Leg) → said < 2 ^ 64 → AreGood keys
    → legs (names_of group) said key keys ≡ Ok ls → IsLegs group ls
legs_from group said key keys ls small good h =
    bound h (λ found found_is h1.
    bound {x = counted said found} h1 (λ given given_is h2.
    let counts : (length found ≡ said) × (found ≡ given) = counted_as said found given given_is in
    let read : Each (IsLeg group) ls × (length ls ≡ length given) =
    each_from (leg_of (names_of group)) IsGoodPair (IsLeg group) (leg_from group) given ls
    (subst (Each IsGoodPair) counts.1 (pairs_read key keys found good found_is)) h2 in
    record { count_fits = omega (arith, read.1, counts.0, ap length counts.1, small); each = read.0 }))

stripe_from : (keys : Items) (stripe : ℕ) (test : Bool) → AreGood keys
    → cond test (required number (codes "stripe_size") keys) (optional number 0 (codes "stripe_size") keys) ≡ Ok stripe → stripe < 2 ^ 64
stripe_from keys stripe true good h = number_read (codes "stripe_size") keys stripe good h
stripe_from keys stripe false good h = number_or 0 (codes "stripe_size") keys stripe (omega arith) good h

striped_from : (group : Group) (keys : Items) (kind : SegKind) → AreGood keys → striped (names_of group) keys ≡ Ok kind → IsKind group kind
striped_from group keys kind good h =
    bound h (λ said said_is h1.
    bound h1 (λ ls ls_is h2.
    bound h2 (λ stripe stripe_is e.
    let is : IsKind group (Striped stripe ls) = (
      stripe_from keys stripe (nat_lt 1 said) good stripe_is,
      legs_from group said (codes "stripes") keys ls (number_read (codes "stripe_count") keys said good said_is) good ls_is,
    ) in
    subst (IsKind group) (same_Ok e) is)))

mirror_from : (group : Group) (keys : Items) (kind : SegKind) → AreGood keys → mirror (names_of group) keys ≡ Ok kind → IsKind group kind
mirror_from group keys kind good h =
    bound h (λ said said_is h1.
    bound h1 (λ ls ls_is h2.
    bound h2 (λ region region_is h3.
    bound h3 (λ moved moved_is h4.
    bound {x = only (λ _. false) (UnknownSegment (codes "mirror_log")) (codes "mirror_log") keys} h4 (λ (log : Unit {0}) log_is e.
    let is : IsKind group (Mirror region moved ls) = (
      number_or 1024 (codes "region_size") keys region (omega arith) good region_is,
      moved_or (codes "extents_moved") keys moved good moved_is,
      legs_from group said (codes "mirrors") keys ls (number_read (codes "mirror_count") keys said good said_is) good ls_is,
    )
    in
    subst (IsKind group) (same_Ok e) is)))))

kind_from : (group : Group) (type : List ℕ) (keys : Items) (kind : SegKind) (is_striped is_mirror : Bool) → AreGood keys
    → cond is_striped (striped (names_of group) keys) (cond is_mirror (mirror (names_of group) keys) (Err (UnknownSegment type))) ≡ Ok kind
    → IsKind group kind
kind_from group type keys kind true is_mirror good h = striped_from group keys kind good h
kind_from group type keys kind false true good h = mirror_from group keys kind good h
kind_from group type keys kind false false good h = absurd cc

pub segment_from : (group : Group) (keys : Items) (segment : Segment) → AreGood keys → segment_of (names_of group) keys ≡ Ok segment
    → IsSegment group segment
segment_from group keys segment good h =
    bound h (λ start start_is h1.
    bound h1 (λ count count_is h2.
    bound {x = required text (codes "type") keys} h2 (λ type type_is h3.
    bound h3 (λ kind kind_is e.
    subst (IsSegment group) (same_Ok e) (record {
      start_fits = number_read (codes "start_extent") keys start good start_is;
      count_fits = number_read (codes "extent_count") keys count good count_is;
      kind_is =
          kind_from group type keys kind (pointwise nat_eq type (codes "striped")) (pointwise nat_eq type (codes "mirror")) good kind_is;
    })))))
