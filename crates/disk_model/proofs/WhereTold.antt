-- What holds where something is told.
use Rattle.std.proofs.Common.{◌≡◌, Option, Some, None, IfSome, option_map, refl, sym, subst}
use Rattle.disk_model.specs.Steps.{Record}

-- what holds of what is told after a step, whatever was told before
pub told_map : (f : Record → Record) (P : Record → Type 0) (o : Option Record) → ((t : Record) → o ≡ Some t → P (f t))
    → IfSome (option_map f o) P
told_map f P None h = tt
told_map f P (Some t) h = h t refl

-- what holds of what is told, at what is told
pub told_at : (P : Record → Type 0) (o : Option Record) (t : Record) → IfSome o P → o ≡ Some t → P t
told_at P None t h e = cc
told_at P (Some u) t h e = let e' : u ≡ t = cc in subst P e' h

-- what holds of what is told after a step, by what held before it
pub told_after : (f : Record → Record) (P Q : Record → Type 0) (before after : Option Record) → after ≡ option_map f before
    → ((t : Record) → before ≡ Some t → P t → Q (f t)) → IfSome before P → IfSome after Q
told_after f P Q before after e step h =
    subst (λ (o : Option Record). IfSome o Q) (sym e) (told_map f Q before (λ t is. step t is (told_at P before t h is)))

-- two facts of what is told
pub told_both : (P Q : Record → Type 0) (o : Option Record) → IfSome o P → IfSome o Q → IfSome o (λ t. P t × Q t)
told_both P Q None a b = tt
told_both P Q (Some t) a b = (a, b)

pub told_weaker : (P Q : Record → Type 0) (o : Option Record) → ((t : Record) → P t → Q t) → IfSome o P → IfSome o Q
told_weaker P Q None w h = tt
told_weaker P Q (Some t) w h = w t h
