-- The items of entries that open and close their own sections.
use Rattle.std.proofs.Common.{◌≡◌, ℕ, suc, List, [], ◌∷◌, ◌++◌, map, refl, sym, ap, ◌∙◌, append_assoc}
use Rattle.std.proofs.lemmas.List.{append-nil}
use Rattle.std.specs.Prelude.{flat_map}
use Rattle.conf_text.specs.Entries.{Value, ConfEntry, Open, Close, Assign}
use Rattle.conf_text.specs.Items.{Leaf, Body, body_from, items_from, items}
use Rattle.meta_print.specs.Layout.{section}

-- whatever stands behind them, they are a part of a body, and their items come first
pub record IsWhole (es : List ConfEntry) : Type 0 where
  pub stays : (deep : ℕ) (more : List ConfEntry) → body_from deep (es ++ more) ≡ es ++ body_from deep more
  pub passes : (deep : ℕ) (more : List ConfEntry) → items_from (suc deep) (es ++ more) ≡ items_from (suc deep) more
  pub lists : (more : List ConfEntry) → items (es ++ more) ≡ items es ++ items more

pub whole_none : IsWhole []
whole_none = record { stays = λ deep more. refl; passes = λ deep more. refl; lists = λ more. refl }

pub whole_assign : (name : List ℕ) (value : Value) (es : List ConfEntry) → IsWhole es → IsWhole (Assign name value ∷ es)
whole_assign name value es whole = record {
  stays = λ deep more. ap (λ rest. Assign name value ∷ rest) (whole.stays deep more);
  passes = λ deep more. whole.passes deep more;
  lists = λ more. ap (λ found. (name, Leaf value) ∷ found) (whole.lists more);
}

pub whole_append : (es fs : List ConfEntry) → IsWhole es → IsWhole fs → IsWhole (es ++ fs)
whole_append es fs first second = record {
  stays =
      λ deep more. ap (body_from deep) (append_assoc es fs more) ∙ first.stays deep (fs ++ more)
      ∙ ap (λ rest. es ++ rest) (second.stays deep more) ∙ sym (append_assoc es fs (body_from deep more));
  passes = λ deep more. ap (items_from (suc deep)) (append_assoc es fs more) ∙ first.passes deep (fs ++ more) ∙ second.passes deep more;
  lists = λ more.
      ap items (append_assoc es fs more) ∙ first.lists (fs ++ more) ∙ ap (λ rest. items es ++ rest) (second.lists more)
      ∙ sym (append_assoc (items es) (items fs) (items more)) ∙ ap (λ found. found ++ items more) (sym (first.lists fs));
}

-- a section has one item
pub section_item : (name : List ℕ) (body more : List ConfEntry) → IsWhole body
    → items (section name body ++ more) ≡ (name, Body body) ∷ items more
section_item name body more whole =
    let bodied : body_from 0 ((body ++ Close ∷ []) ++ more) ≡ body =
    ap (body_from 0) (append_assoc body (Close ∷ []) more) ∙ whole.stays 0 (Close ∷ more) ∙ append-nil body
    in
    let passed : items_from 1 ((body ++ Close ∷ []) ++ more) ≡ items more =
    ap (items_from 1) (append_assoc body (Close ∷ []) more) ∙ whole.passes 0 (Close ∷ more)
    in
    ap (λ x. (name, Body x) ∷ items_from 1 ((body ++ Close ∷ []) ++ more)) bodied ∙ ap (λ found. (name, Body body) ∷ found) passed

pub whole_section : (name : List ℕ) (body : List ConfEntry) → IsWhole body → IsWhole (section name body)
whole_section name body whole = record {
  stays = λ deep more.
      ap (λ rest. Open name ∷ rest) (ap (body_from (suc deep)) (append_assoc body (Close ∷ []) more) ∙ whole.stays (suc deep) (Close ∷ more)
      ∙ sym (append_assoc body (Close ∷ []) (body_from deep more)));
  passes = λ deep more. ap (items_from (suc (suc deep))) (append_assoc body (Close ∷ []) more) ∙ whole.passes (suc deep) (Close ∷ more);
  lists = λ more.
      section_item name body more whole
      ∙ ap (λ found. found ++ items more) (sym (ap items (sym (append-nil (section name body))) ∙ section_item name body [] whole));
}

-- sections one after another
pub whole_all : {X : Type 0} (f : X → List ConfEntry) → ((x : X) → IsWhole (f x)) → (xs : List X) → IsWhole (flat_map f xs)
whole_all f each [] = whole_none
whole_all f each (x ∷ xs) = whole_append (f x) (flat_map f xs) (each x) (whole_all f each xs)

-- the items of sections that are named by f, with bodies by g
pub sections_items : {X : Type 0} (f : X → List ℕ) (g : X → List ConfEntry) → ((x : X) → IsWhole (g x)) → (xs : List X)
    → items (flat_map (λ x. section (f x) (g x)) xs) ≡ map (λ x. (f x, Body (g x))) xs
sections_items f g each [] = refl
sections_items f g each (x ∷ xs) =
    section_item (f x) (g x) (flat_map (λ x. section (f x) (g x)) xs) (each x)
    ∙ ap (λ found. (f x, Body (g x)) ∷ found) (sections_items f g each xs)
