-- Writes that are forgotten: what is left of the map of writes, and what it has of the others.
use Rattle.std.proofs.Common.{◌≡◌, ◌≤◌, ℕ, ◌-◌, Bool, true, false, cond, ◌&&◌, nat_eq, nat_le, List, [], ◌∷◌, length, get_or, Option, None}
use Rattle.std.proofs.Common.{Some, position, refl, sym, ap, subst, ◌∙◌, arith}
use Rattle.std.specs.Prelude.{All}
use Rattle.std.specs.Cmp.{IsEquivalence, nat_eq_equiv}
use Rattle.std.specs.List.{AllByRecursion, IsDistinct, swap_remove}
use Rattle.std.specs.Map.{keys_of, lookup}
use Rattle.std.specs.Option.{option_map_or}
use Rattle.std.proofs.lemmas.List.Elements.{All-set, All-take}
use Rattle.std.proofs.lemmas.Option.{slice_get-get_or}
use Rattle.indexmap.specs.IndexMap.{insert_entry, swap_remove_entry}
use Rattle.indexmap.proofs.MapLemmas.{Found-position, swap_remove_entry-found, swap_remove_entry-missing}
use Rattle.indexmap.proofs.RemoveLemmas.{none_out, swap_out}
use Rattle.flush_plan.specs.declared.records.Write.{Write}
use Rattle.flush_plan.specs.Plans.{Plan, IsOrderly, SaysOfOthers, marks_of, same_write}
use Rattle.flush_plan.specs.Steps.{after_forgot}
use Rattle.flush_plan.proofs.Flights.{same_itself, same_told}

-- it is the same either way
pub same_swap : (v w : Write) → same_write v w ≡ same_write w v
same_swap v w =
    ap (λ (b : Bool). b && nat_eq v.pv w.pv) (nat_eq_equiv.symm v.number w.number)
    ∙ ap (λ (b : Bool). nat_eq w.number v.number && b) (nat_eq_equiv.symm v.pv w.pv)

same_laws : IsEquivalence same_write
same_laws = record {
  refl = same_itself;
  symm = same_swap;
  congr = λ x y z same. same_swap x z ∙ sym (same_told x y z same) ∙ same_swap z y;
}

-- a write that is put in stands among the writes once
all_put : (P : Write → Type 0) (es : List (Write × ℕ)) (w : Write) (place : ℕ) → P w → AllByRecursion P (keys_of es)
    → AllByRecursion P (keys_of (insert_entry same_write es w place))
all_put P [] w place own all = (own, tt)
all_put P (e ∷ es) w place own all =
    elim (same_write w e.0) as (λ b. AllByRecursion P (keys_of (cond b ((e.0, place) ∷ es) (e ∷ insert_entry same_write es w place)))) [
      | true ↦ all
      | false ↦ (all.0, all_put P es w place own all.1)
    ]

pub single_put : (es : List (Write × ℕ)) (w : Write) (place : ℕ) → IsDistinct same_write (keys_of es)
    → IsDistinct same_write (keys_of (insert_entry same_write es w place))
unfolding IsDistinct
single_put [] w place single = (tt, tt)
single_put (e ∷ es) w place single =
    elim (same_write w e.0) as (λ b. same_write w e.0 ≡ b
    → IsDistinct same_write (keys_of (cond b ((e.0, place) ∷ es) (e ∷ insert_entry same_write es w place)))) [
      | true ↦ λ t. single
      | false ↦ λ t.
          (all_put (λ (y : Write). same_write e.0 y ≡ false) es w place (same_swap e.0 w ∙ t) single.0, single_put es w place single.1)
    ] refl

pub single_none : IsDistinct same_write []
unfolding IsDistinct
single_none = tt

-- of the writes that are left each is there once, those that were forgotten aren't, and the others are where they were
record IsLeft (es fs : List (Write × ℕ)) (w : Write) : Type 0 where
  pub single : IsDistinct same_write (keys_of fs)
  pub found : (q : Write) → lookup (same_write q) fs ≡ cond (same_write w q) None (lookup (same_write q) es)

left : (es : List (Write × ℕ)) (w : Write) → IsDistinct same_write (keys_of es) → IsLeft es (swap_remove_entry (same_write w) es) w
left es w single = by (position (same_write w) (keys_of es)) refl
  where
    by : (r : Option ℕ) → position (same_write w) (keys_of es) ≡ r → IsLeft es (swap_remove_entry (same_write w) es) w
    by None at =
        let same = swap_remove_entry-missing (same_write w) es at in
        record {
          single = subst (λ (l : List (Write × ℕ)). IsDistinct same_write (keys_of l)) (sym same) single;
          found = (none_out same_write same_laws (same_write w) (same_laws.congr w) es _ at same).0;
        }
    by (Some i) at =
        let d : Write × ℕ = (w, 0) in
        let within = (Found-position (same_write w) es i at).within in
        let out =
        swap_out same_write same_laws (same_write w) (same_laws.congr w) es i (get_or es i d) at (slice_get-get_or es i d within) single
        _ (swap_remove_entry-found (same_write w) es i (get_or es i d) at) in
        record { single = out.unique; found = out.updated.0 }

pub single_left : (es : List (Write × ℕ)) (w : Write) → IsDistinct same_write (keys_of es)
    → IsDistinct same_write (keys_of (swap_remove_entry (same_write w) es))
single_left es w single = (left es w single).single

pub lookup_left : (es : List (Write × ℕ)) (w q : Write) → IsDistinct same_write (keys_of es)
    → lookup (same_write q) (swap_remove_entry (same_write w) es) ≡ cond (same_write w q) None (lookup (same_write q) es)
lookup_left es w q single = (left es w single).found q

-- what holds of all writes holds of those that are left
pub all_left : (P : Write × ℕ → Type 0) (w : Write) (es : List (Write × ℕ)) → All P es → All P (swap_remove_entry (same_write w) es)
all_left P w [] all = all
all_left P w (e ∷ es) all = by (position (same_write w) (keys_of (e ∷ es)))
  where
    by : (r : Option ℕ) → All P (option_map_or (λ i. swap_remove (e ∷ es) i e) r (e ∷ es))
    by None = all
    by (Some i) = All-take P (length (e ∷ es) - 1) _ (All-set P (e ∷ es) i _ (all (length (e ∷ es) - 1) e (omega arith)) all)

pub orderly_by_forgot : (plan : Plan) (number pv : ℕ) → IsOrderly plan → IsOrderly (after_forgot plan number pv)
orderly_by_forgot plan number pv o = record {
  last = all_left (λ (e : Write × ℕ). e.1 ≤ plan.held) (record { number = number; pv = pv }) plan.last o.last;
  marks = o.marks;
  flushes = o.flushes;
}

-- where the other writes are found as before, the same is said of them
pub says_of_others : (plan : Plan) (fresh : List (Write × ℕ)) (number pv : ℕ)
    → ((q : Write) → same_write (record { number = number; pv = pv }) q ≡ false
    → lookup (same_write q) fresh ≡ lookup (same_write q) plan.last)
    → SaysOfOthers plan (record plan { last = fresh }) number pv
says_of_others plan fresh number pv same = record {
  stable =
      λ n p apart. ap (λ (o : Option ℕ). option_map_or (λ place. nat_le place (marks_of plan p).stable) o false)
      (same (record { number = n; pv = p }) apart);
  ended =
      λ n p apart. ap (λ (o : Option ℕ). option_map_or (λ place. nat_le place (marks_of plan p).ended) o false)
      (same (record { number = n; pv = p }) apart);
  wanted = λ p. refl;
}
