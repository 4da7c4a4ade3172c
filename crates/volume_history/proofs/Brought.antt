-- What lines bring to a sector is a candidate of it.
use Rattle.std.proofs.Common.{◌≡◌, ◌⊎◌, ℕ, ◌==◌, ◌&&◌, ◌||◌, Bool, true, false, not, if◌then◌else◌, List, [], ◌∷◌, Contains, Option, Some}
use Rattle.std.proofs.Common.{None, inl, inr, ⊎_elim, refl, sym, ap, subst, ◌∙◌}
use Rattle.std.proofs.lemmas.List.Elements.{Contains-append_left, Contains-append_right, Contains-push}
use Rattle.lvm_script.specs.declared.line.Line.{Line}
use Rattle.list_laws.proofs.Bools.{and_both, eq_of, eq_to}
use Rattle.data_lines.specs.DataLines.{covers_sector, value_for, writes}
use Rattle.volume_history.specs.Candidates.{IsIn, base, brought, candidates, never_came}
use Rattle.volume_history.specs.Chronicles.{Answered, Begun, Changed, ChronicleEntry, Failed, GivenUp, Opened, Origin, Took, begun_in}
use Rattle.volume_history.specs.Chronicles.{is_number, settled_at}
use Rattle.volume_history.specs.Sources.{Base, Brings, ByLine, IsSource, Source, value_of}

here : (v : List ℕ) (vs : List (List ℕ)) → Contains (v ∷ vs) v
here v vs = Contains-append_left (v ∷ []) vs v (Contains-push [] v)

there : (w v : List ℕ) (vs : List (List ℕ)) → Contains vs v → Contains (w ∷ vs) v
there w v vs has = Contains-append_right (w ∷ []) vs v has

-- what was there stays, whether or not the line brings another
stays : (t : Bool) (w v : List ℕ) (vs : List (List ℕ)) → Contains vs v → Contains (if t then w ∷ vs else vs) v
stays true w v vs has = there w v vs has
stays false w v vs has = has

-- the line that was begun is this one or an earlier one
begun_cases : (t : Bool) (p q : Line × Option ℕ) (r : Option (Line × Option ℕ)) → (if t then Some p else r) ≡ Some q
    → ((t ≡ true) × (p ≡ q)) ⊎ (r ≡ Some q)
begun_cases true p q r e = inl (refl, cc)
begun_cases false p q r e = inr e

-- the test of a line that brings
brings_test : (line : Line) (k : Option ℕ) (key x n : ℕ) (all based : List ChronicleEntry) → writes line.command ≡ true
    → is_number k key ≡ true → covers_sector line.command x ≡ true → settled_at based n key x ≡ false → never_came all n key x ≡ false
    → ((writes line.command && is_number k key && covers_sector line.command x) && not (settled_at based n key x || never_came all n key x))
    ≡ true
brings_test line k key x n all based w e c s v =
    and_both _ _ (and_both _ _ (and_both _ _ w e) c) (ap not (ap (λ (b : Bool). b || never_came all n key x) s ∙ v))

-- so it brings over other entries too, where it was begun in them
over : (all based : List ChronicleEntry) (key x n : ℕ) (line : Line) (from es : List ChronicleEntry)
    → begun_in es n ≡ Some (line, Some key)
    → Brings all based key x n from line
    → Brings all based key x n es line
over all based key x n line from es begun b =
    record { begun = begun; writing = b.writing; covers = b.covers; unsettled = b.unsettled; came = b.came }

-- its value is among what the lines bring
pub brings_value : (all based : List ChronicleEntry) (key x n : ℕ) (line : Line) (es : List ChronicleEntry)
    → Brings all based key x n es line → Contains (brought all based key x es) (value_for line.command x)
brings_value all based key x n line [] b = absurd (none_some _ b.begun)
  where
    none_some : (p : Line × Option ℕ) → None ≡ Some p → ⊥
    none_some p e = cc
brings_value all based key x n line (Begun m n' line' k ∷ es) b =
    ⊎_elim
    (λ (this : ((n' == n) ≡ true) × ((line', k) ≡ (line, Some key))).
    let number : n' ≡ n = eq_of n' n this.0 in
    let same : line' ≡ line = ap (λ (p : Line × Option ℕ). p.0) this.1 in
    let keyed : k ≡ Some key = ap (λ (p : Line × Option ℕ). p.1) this.1 in
    let test =
    brings_test line' k key x n' all based (ap (λ (l : Line). writes l.command) same ∙ b.writing)
    (ap (λ (o : Option ℕ). is_number o key) keyed ∙ eq_to key key refl)
    (ap (λ (l : Line). covers_sector l.command x) same ∙ b.covers)
    (ap (λ (j : ℕ). settled_at based j key x) number ∙ b.unsettled) (ap (λ (j : ℕ). never_came all j key x) number ∙ b.came) in
    subst (λ (t : Bool). Contains (if t then value_for line'.command x ∷ brought all based key x es else brought all based key x es)
    (value_for line.command x)) (sym test)
    (subst (λ (l : Line). Contains (value_for l.command x ∷ brought all based key x es) (value_for line.command x)) (sym same)
    (here (value_for line.command x) (brought all based key x es))))
    (λ (older : begun_in es n ≡ Some (line, Some key)).
    stays ((writes line'.command && is_number k key && covers_sector line'.command x)
    && not (settled_at based n' key x || never_came all n' key x)) (value_for line'.command x) (value_for line.command x)
    (brought all based key x es)
    (brings_value all based key x n line es (over all based key x n line (Begun m n' line' k ∷ es) es older b)))
    (begun_cases (n' == n) (line', k) (line, Some key) (begun_in es n) b.begun)
brings_value all based key x n line (Opened m n' version ∷ es) b =
    brings_value all based key x n line es (over all based key x n line (Opened m n' version ∷ es) es b.begun b)
brings_value all based key x n line (Took m n' piece ∷ es) b =
    brings_value all based key x n line es (over all based key x n line (Took m n' piece ∷ es) es b.begun b)
brings_value all based key x n line (Changed m n' version ∷ es) b =
    brings_value all based key x n line es (over all based key x n line (Changed m n' version ∷ es) es b.begun b)
brings_value all based key x n line (GivenUp m n' ∷ es) b =
    brings_value all based key x n line es (over all based key x n line (GivenUp m n' ∷ es) es b.begun b)
brings_value all based key x n line (Failed m n' piece ∷ es) b =
    brings_value all based key x n line es (over all based key x n line (Failed m n' piece ∷ es) es b.begun b)
brings_value all based key x n line (Answered m n' answer ∷ es) b =
    brings_value all based key x n line es (over all based key x n line (Answered m n' answer ∷ es) es b.begun b)

-- what has a source is a candidate
pub source_is_candidate : (o : Origin) (es : List ChronicleEntry) (key x : ℕ) (s : Source) → IsSource o es key x s
    → IsIn (candidates o es key x) (value_of o es key x s)
source_is_candidate o es key x Base is = here _ _
source_is_candidate o es key x (ByLine n line) is = there _ _ _ (brings_value es (base o es key x) key x n line es is)
