-- What was read where all went well.
use Rattle.std.proofs.Common.{◌≡◌, ℕ, Bool, true, false, cond, List, length, Option, Some, None, Ok, Err, ◌⊎◌, inl, inr, refl}
use Rattle.std.specs.Prelude.{◌==◌, option_map}
use Rattle.std.proofs.lemmas.Bool.{eqb-true}
use Rattle.meta_model.specs.Keys.{Items, Read, ◌>>=◌, or_refused, required, optional, counted}
use Rattle.conf_text.specs.Items.{Node, lookup}
use Rattle.meta_model.specs.declared.refusal.GroupRefusal.{GroupRefusal}

pub bound : {A B : Type 0} {x : Read A} {f : A → Read B} {y : B} {P : Type 0} → x >>= f ≡ Ok y → ((a : A) → x ≡ Ok a → f a ≡ Ok y → P) → P
bound {x = Ok a} h then = then a refl h
bound {x = Err refusal} h then = absurd cc

pub there : {A : Type 0} (refusal : GroupRefusal) {found : Option A} {x : A} → or_refused refusal found ≡ Ok x → found ≡ Some x
there refusal {found = Some a} h = cc
there refusal {found = None} h = absurd cc

pub same_Ok : {A : Type 0} {x y : A} → ◌≡◌ {A = Read A} (Ok x) (Ok y) → x ≡ y
same_Ok h = cc

pub not_refused : {A : Type 0} (refusal : GroupRefusal) {test : Bool} {x : Read A} {y : A} → cond test x (Err refusal) ≡ Ok y
    → (test ≡ true) × (x ≡ Ok y)
not_refused refusal {test = true} h = (refl, h)
not_refused refusal {test = false} h = absurd cc

pub mapped : {A B : Type 0} {f : A → B} {found : Option A} {y : B} {P : Type 0} → option_map f found ≡ Some y
    → ((x : A) → found ≡ Some x → f x ≡ y → P) → P
mapped {found = Some a} h then = then a refl cc
mapped {found = None} h then = absurd cc

pub counted_as : {A : Type 0} (said : ℕ) (found given : List A) → counted said found ≡ Ok given → (length found ≡ said) × (found ≡ given)
counted_as said found given h =
    let parts : ((length found == said) ≡ true) × (◌≡◌ {A = Read _} (Ok found) (Ok given)) = not_refused _ h in
    (eqb-true (length found) said parts.0, same_Ok parts.1)

-- a key that stands
pub required_is : {A : Type 0} (kind : Node → Option A) (key : List ℕ) (found : Items) (x : A) → required kind key found ≡ Ok x
    → (node : Node) × (lookup key found ≡ Some node) × (kind node ≡ Some x)
required_is kind key found x h = bound h (λ node stands is. (node, there _ stands, there _ is))

-- a key that may be absent
pub optional_is : {A : Type 0} (kind : Node → Option A) (default : A) (key : List ℕ) (found : Items) (x : A)
    → optional kind default key found ≡ Ok x
    → ((node : Node) × (lookup key found ≡ Some node) × (kind node ≡ Some x)) ⊎ (default ≡ x)
optional_is kind default key found x h = by_lookup (lookup key found) refl
  where
    by_lookup : (looked : Option Node) → lookup key found ≡ looked
        → ((node : Node) × (lookup key found ≡ Some node) × (kind node ≡ Some x)) ⊎ (default ≡ x)
    by_lookup None e = let is : ◌≡◌ {A = Read _} (Ok default) (Ok x) = rw e at h in inr (same_Ok is)
    by_lookup (Some node) e = let is : or_refused _ (kind node) ≡ Ok x = rw e at h in inl (node, e, there _ is)
