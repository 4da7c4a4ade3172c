-- Volumes whose keys ascend: each is found by its own.
use Rattle.std.proofs.Common.{◌≡◌, ◌≤◌, ℕ, ◌+◌, ◌==◌, Bool, true, false, not, if◌then◌else◌, List, [], ◌∷◌, ◌++◌, filter, Some}
use Rattle.std.proofs.Common.{refl, ap, ◌∙◌, arith}
use Rattle.std.specs.Str.{bytes_eq}
use Rattle.std.proofs.lemmas.Bool.Decides.{nat_tests}
use Rattle.std.proofs.lemmas.Option.{same_Some}
use Rattle.list_laws.proofs.Bools.{eq_to}
use Rattle.line_table.specs.Machine.{PlainVolume, key_of, sectors_of, with_key}
use Rattle.pending_versions.specs.Machines.{AreKeyed}

pub below : (a b : ℕ) → a + 1 ≤ b → (a == b) ≡ false
below a b le = grind (arith, nat_tests)

pub above : (a b : ℕ) → b + 1 ≤ a → (a == b) ≡ false
above a b le = grind (arith, nat_tests)

-- they end below the next one
pub keys_end : (from next : ℕ) (ps : List PlainVolume) → AreKeyed from next ps → from ≤ next
keys_end from next [] keys = keys
keys_end from next (p ∷ ps) keys = let rest = keys_end (p.key + 1) next ps keys.1 in omega (arith, rest, keys.0)

-- they begin no earlier
pub keys_from : (from low next : ℕ) (ps : List PlainVolume) → low ≤ from → AreKeyed from next ps → AreKeyed low next ps
keys_from from low next [] le keys = omega (arith, le, keys)
keys_from from low next (p ∷ ps) le keys = (omega (arith, le, keys.0), keys.1)

-- the key of a name is among them
pub key_low : (name : List ℕ) (from next : ℕ) (ps : List PlainVolume) (key : ℕ) → AreKeyed from next ps → key_of ps name ≡ Some key
    → from ≤ key
key_low name from next [] key keys found = absurd cc
key_low name from next (p ∷ ps) key keys found =
    by (λ is. key_low name (p.key + 1) next ps key keys.1 is) (bytes_eq p.name name) found
  where
    by : (key_of ps name ≡ Some key → p.key + 1 ≤ key) → (b : Bool) → (if b then Some p.key else key_of ps name) ≡ Some key → from ≤ key
    by rest true is = let e : p.key ≡ key = same_Some p.key key is in omega (arith, keys.0, e)
    by rest false is = let later : p.key + 1 ≤ key = rest is in omega (arith, keys.0, later)

-- a key below them all, or behind them, is none of theirs
pub sectors_below : (key from next : ℕ) (ps : List PlainVolume) → key + 1 ≤ from → AreKeyed from next ps → sectors_of ps key ≡ []
sectors_below key from next [] le keys = refl
sectors_below key from next (p ∷ ps) le keys =
    ap (λ (b : Bool). if b then p.sectors else sectors_of ps key) (above p.key key (omega (arith, le, keys.0)))
    ∙ sectors_below key (p.key + 1) next ps (omega (arith, le, keys.0)) keys.1

pub sectors_past : (key from next : ℕ) (ps : List PlainVolume) → next ≤ key → AreKeyed from next ps → sectors_of ps key ≡ []
sectors_past key from next [] le keys = refl
sectors_past key from next (p ∷ ps) le keys =
    let end = keys_end (p.key + 1) next ps keys.1 in
    ap (λ (b : Bool). if b then p.sectors else sectors_of ps key) (below p.key key (omega (arith, le, end)))
    ∙ sectors_past key (p.key + 1) next ps le keys.1

-- ---- each volume is found by its key

abbrev pub OwnSectors : List PlainVolume → List PlainVolume → Type 0
OwnSectors whole [] = Unit {0}
OwnSectors whole (p ∷ ps) = (sectors_of whole p.key ≡ p.sectors) × OwnSectors whole ps

own_more : (q : PlainVolume) (whole : List PlainVolume) (from next : ℕ) (ps : List PlainVolume) → q.key + 1 ≤ from → AreKeyed from next ps
    → OwnSectors whole ps → OwnSectors (q ∷ whole) ps
own_more q whole from next [] le keys own = tt
own_more q whole from next (p ∷ ps) le keys own = (
  ap (λ (b : Bool). if b then q.sectors else sectors_of whole p.key) (below q.key p.key (omega (arith, le, keys.0))) ∙ own.0,
  own_more q whole (p.key + 1) next ps (omega (arith, le, keys.0)) keys.1 own.1,
)

pub own_sectors : (from next : ℕ) (ps : List PlainVolume) → AreKeyed from next ps → OwnSectors ps ps
own_sectors from next [] keys = tt
own_sectors from next (p ∷ ps) keys = (
  ap (λ (b : Bool). if b then p.sectors else sectors_of ps p.key) (eq_to p.key p.key refl),
  own_more p ps (p.key + 1) next ps (omega arith) keys.1 (own_sectors (p.key + 1) next ps keys.1),
)

-- ---- what leaves them ascending

-- those of which none has the key stay
pub rest_stays : (key from next : ℕ) (f : PlainVolume → PlainVolume) (ps : List PlainVolume) → key + 1 ≤ from → AreKeyed from next ps
    → with_key key f ps ≡ ps
rest_stays key from next f [] le keys = refl
rest_stays key from next f (p ∷ ps) le keys =
    ap (λ (b : Bool). (if b then f p else p) ∷ with_key key f ps) (above p.key key (omega (arith, le, keys.0)))
    ∙ ap (λ (l : List PlainVolume). p ∷ l) (rest_stays key (p.key + 1) next f ps (omega (arith, le, keys.0)) keys.1)

pub rest_left : (key from next : ℕ) (ps : List PlainVolume) → key + 1 ≤ from → AreKeyed from next ps
    → filter (λ (p : PlainVolume). not (p.key == key)) ps ≡ ps
rest_left key from next [] le keys = refl
rest_left key from next (p ∷ ps) le keys =
    ap (λ (b : Bool). if not b then p ∷ filter (λ (q : PlainVolume). not (q.key == key)) ps else filter
    (λ (q : PlainVolume). not (q.key == key)) ps) (above p.key key (omega (arith, le, keys.0)))
    ∙ ap (λ (l : List PlainVolume). p ∷ l) (rest_left key (p.key + 1) next ps (omega (arith, le, keys.0)) keys.1)

-- two lists, one behind the other
pub keys_both : (from mid next : ℕ) (ps qs : List PlainVolume) → AreKeyed from mid ps → AreKeyed mid next qs → AreKeyed from next (ps ++ qs)
keys_both from mid next [] qs low high = keys_from mid from next qs low high
keys_both from mid next (p ∷ ps) qs low high = (low.0, keys_both (p.key + 1) mid next ps qs low.1 high)
