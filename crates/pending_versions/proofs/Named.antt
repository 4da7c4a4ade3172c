-- The volume of a name among those of a version, and the machine's: what stands before and behind it.
use Rattle.std.proofs.Common.{◌≡◌, ◌≤◌, ℕ, ◌+◌, ◌==◌, Bool, true, false, ◌||◌, not, if◌then◌else◌, List, [], ◌∷◌, ◌++◌, filter, length}
use Rattle.std.proofs.Common.{Some, refl, sym, ap, subst, ◌∙◌, arith}
use Rattle.std.specs.Str.{bytes_eq}
use Rattle.std.proofs.lemmas.Option.{same_Some}
use Rattle.list_laws.proofs.Bools.{eq_to}
use Rattle.line_table.specs.Machine.{PlainVolume, key_of, sectors_of, with_key}
use Rattle.volume_history.specs.Changing.{changed_named, has_named, without_named}
use Rattle.volume_history.specs.Placed.{PlacedVolume}
use Rattle.volume_history.specs.Replay.{key_or, places_named}
use Rattle.pending_versions.proofs.Keys.{below, key_low, rest_left, rest_stays}
use Rattle.pending_versions.specs.Machines.{AreKeyed, AreOf}

-- the first volume of the name, with this key, and those around it
pub record IsNamed (name : List ℕ) (key from next : ℕ) (vs : List PlacedVolume) (ps : List PlainVolume) : Type 0 where
  pub before : List PlacedVolume
  pub v : PlacedVolume
  pub behind : List PlacedVolume
  pub low : List PlainVolume
  pub p : PlainVolume
  pub high : List PlainVolume
  pub of_before : AreOf before low
  pub of_behind : AreOf behind high
  pub name_is : v.name ≡ p.name
  pub length_is : length v.places ≡ length p.sectors
  pub keyed : p.key ≡ key
  pub keys_low : AreKeyed from key low
  pub keys_high : AreKeyed (key + 1) next high
  pub placed : vs ≡ before ++ v ∷ behind
  pub plain : ps ≡ low ++ p ∷ high
  pub places : places_named vs name ≡ v.places
  pub sectors : sectors_of ps key ≡ p.sectors
  pub changed : (change : PlacedVolume → PlacedVolume) → changed_named name change vs ≡ before ++ change v ∷ behind
  pub with_it : (f : PlainVolume → PlainVolume) → with_key key f ps ≡ low ++ f p ∷ high
  pub without : without_named name vs ≡ before ++ behind
  pub left : filter (λ (q : PlainVolume). not (q.key == key)) ps ≡ low ++ high

abbrev others : ℕ → List PlainVolume → List PlainVolume
others key ps = filter (λ (q : PlainVolume). not (q.key == key)) ps

pub is_named : (name : List ℕ) (key from next : ℕ) (vs : List PlacedVolume) (ps : List PlainVolume) → AreOf vs ps → AreKeyed from next ps
    → key_of ps name ≡ Some key
    → IsNamed name key from next vs ps
is_named name key from next [] [] of keys found = absurd cc
is_named name key from next [] (p ∷ ps) of keys found = absurd of
is_named name key from next (v ∷ vs) [] of keys found = absurd of
is_named name key from next (v ∷ vs) (p ∷ ps) of keys found =
    by (λ is. is_named name key (p.key + 1) next vs ps of.2 keys.1 is) (bytes_eq v.name name) refl
    (ap (λ (n : List ℕ). if bytes_eq n name then Some p.key else key_of ps name) of.0 ∙ found)
  where
    by : (key_of ps name ≡ Some key → IsNamed name key (p.key + 1) next vs ps) → (b : Bool) → bytes_eq v.name name ≡ b
        → (if b then Some p.key else key_of ps name) ≡ Some key → IsNamed name key from next (v ∷ vs) (p ∷ ps)
    by rest true named is =
        let mine : p.key ≡ key = same_Some p.key key is in
        let keys_on : AreKeyed (key + 1) next ps = subst (λ (k : ℕ). AreKeyed (k + 1) next ps) mine keys.1 in
        let own : (p.key == key) ≡ true = eq_to p.key key mine in
        record {
          before = [];
          v = v;
          behind = vs;
          low = [];
          p = p;
          high = ps;
          of_before = tt;
          of_behind = of.2;
          name_is = of.0;
          length_is = of.1;
          keyed = mine;
          keys_low = omega (arith, keys.0, mine);
          keys_high = keys_on;
          placed = refl;
          plain = refl;
          places = ap (λ (b : Bool). if b then v.places else places_named vs name) named;
          sectors = ap (λ (b : Bool). if b then p.sectors else sectors_of ps key) own;
          changed = λ change. ap (λ (b : Bool). if b then change v ∷ vs else v ∷ changed_named name change vs) named;
          with_it = λ f.
              ap (λ (b : Bool). (if b then f p else p) ∷ with_key key f ps) own
              ∙ ap (λ (l : List PlainVolume). f p ∷ l) (rest_stays key (key + 1) next f ps (omega arith) keys_on);
          without = ap (λ (b : Bool). if b then vs else v ∷ without_named name vs) named;
          left =
              ap (λ (b : Bool). if not b then p ∷ others key ps else others key ps) own
              ∙ rest_left key (key + 1) next ps (omega arith) keys_on;
        }
    by rest false named is =
        let r = rest is in
        let le : p.key + 1 ≤ key = key_low name (p.key + 1) next ps key keys.1 is in
        let other : (p.key == key) ≡ false = below p.key key le in
        record {
          before = v ∷ r.before;
          v = r.v;
          behind = r.behind;
          low = p ∷ r.low;
          p = r.p;
          high = r.high;
          of_before = (of.0, of.1, r.of_before);
          of_behind = r.of_behind;
          name_is = r.name_is;
          length_is = r.length_is;
          keyed = r.keyed;
          keys_low = (keys.0, r.keys_low);
          keys_high = r.keys_high;
          placed = ap (λ (l : List PlacedVolume). v ∷ l) r.placed;
          plain = ap (λ (l : List PlainVolume). p ∷ l) r.plain;
          places = ap (λ (b : Bool). if b then v.places else places_named vs name) named ∙ r.places;
          sectors = ap (λ (b : Bool). if b then p.sectors else sectors_of ps key) other ∙ r.sectors;
          changed = λ change.
              ap (λ (b : Bool). if b then change v ∷ vs else v ∷ changed_named name change vs) named
              ∙ ap (λ (l : List PlacedVolume). v ∷ l) (r.changed change);
          with_it = λ f.
              ap (λ (b : Bool). (if b then f p else p) ∷ with_key key f ps) other ∙ ap (λ (l : List PlainVolume). p ∷ l) (r.with_it f);
          without =
              ap (λ (b : Bool). if b then vs else v ∷ without_named name vs) named ∙ ap (λ (l : List PlacedVolume). v ∷ l) r.without;
          left =
              ap (λ (b : Bool). if not b then p ∷ others key ps else others key ps) other ∙ ap (λ (l : List PlainVolume). p ∷ l) r.left;
        }

-- a volume of the version has a key in the machine
pub found_key : (name : List ℕ) (vs : List PlacedVolume) (ps : List PlainVolume) → AreOf vs ps → has_named name vs ≡ true
    → key_of ps name ≡ Some (key_or (key_of ps name))
found_key name [] ps of has = absurd cc
found_key name (v ∷ vs) [] of has = absurd of
found_key name (v ∷ vs) (p ∷ ps) of has =
    by (λ more. found_key name vs ps of.2 more) (bytes_eq p.name name)
    (ap (λ (n : List ℕ). bytes_eq n name || has_named name vs) (sym of.0) ∙ has)
  where
    by : (has_named name vs ≡ true → key_of ps name ≡ Some (key_or (key_of ps name))) → (b : Bool) → (b || has_named name vs) ≡ true
        → (if b then Some p.key else key_of ps name) ≡ Some (key_or (if b then Some p.key else key_of ps name))
    by rest true h = refl
    by rest false h = rest h
