-- The text of a source, up to a piece of it.
use Rattle.std.proofs.Common.{◌≡◌, ◌∙◌, ◌<◌, ◌≤◌, ℕ, List, [], ◌++◌, length, take, drop, Option, Some, None, refl, ap, sym, subst, arith}
use Rattle.std.proofs.lemmas.List.{append_assoc, append-nil, length-append, length-take-le, take-append-drop, take-append-le, take_all}
use Rattle.std.specs.Prelude.{IfSome, option_map}
use Rattle.byte_streams.specs.Streams.{Reads}

-- these bytes stand before those that are left
pub record Gathered (whole : Option (List ℕ)) (text : List ℕ) (left : Option (List ℕ)) : Type 0 where
  pub is : whole ≡ option_map (λ bytes. text ++ bytes) left

pub nothing_gathered : (whole : Option (List ℕ)) → Gathered whole [] whole
nothing_gathered None = record { is = refl }
nothing_gathered (Some bytes) = record { is = refl }

-- the front of a piece that was filled
front : (bytes piece : List ℕ) (n : ℕ) → n ≤ length bytes → take n (take n bytes ++ drop n piece) ≡ take n bytes
front bytes piece n within =
    let long = length-take-le n bytes within in
    take-append-le n (take n bytes) (drop n piece) (omega (arith, long)) ∙ take_all n (take n bytes) (omega (arith, long))

-- a piece more
pub one_piece : (whole left rest : Option (List ℕ)) (text piece filled : List ℕ) (n : ℕ) → Gathered whole text left
    → Reads left piece n filled rest
    → Gathered whole (text ++ take n filled) rest
one_piece whole None rest text piece filled n gathered reads = record {
  is = gathered.is ∙ ap (option_map (λ bytes. (text ++ take n filled) ++ bytes)) (sym reads.left_after);
}
one_piece whole (Some bytes) rest text piece filled n gathered reads =
    let filled_is = ap (take n) reads.bytes ∙ front bytes piece n reads.has in
    let joined : (text ++ take n filled) ++ drop n bytes ≡ text ++ bytes =
    append_assoc text (take n filled) (drop n bytes) ∙ ap (λ f. text ++ (f ++ drop n bytes)) filled_is
    ∙ ap (λ b. text ++ b) (take-append-drop n bytes) in
    record {
      is = gathered.is ∙ ap Some (sym joined) ∙ ap (option_map (λ bytes. (text ++ take n filled) ++ bytes)) (sym reads.left_after);
    }

-- the end
pub all_gathered : (whole left rest : Option (List ℕ)) (text piece filled : List ℕ) → Gathered whole text left
    → Reads left piece 0 filled rest → 0 < length piece
    → IfSome whole (λ bytes. text ≡ bytes)
all_gathered whole None rest text piece filled gathered reads some = subst (λ w. IfSome w (λ bytes. text ≡ bytes)) (sym gathered.is) tt
all_gathered whole (Some bytes) rest text piece filled gathered reads some =
    let none = (reads.ended some).0 refl in
    subst (λ w. IfSome w (λ bytes. text ≡ bytes)) (sym gathered.is) (sym (append-nil text) ∙ ap (λ b. text ++ b) (sym none))

-- and nothing is left then
pub none_left : (left rest : Option (List ℕ)) (piece filled : List ℕ) → Reads left piece 0 filled rest → 0 < length piece
    → IfSome rest (λ bytes. bytes ≡ [])
none_left None rest piece filled reads some = subst (λ w. IfSome w (λ bytes. bytes ≡ [])) (sym reads.left_after) tt
none_left (Some bytes) rest piece filled reads some =
    subst (λ w. IfSome w (λ left. left ≡ [])) (sym reads.left_after) ((reads.ended some).0 refl)

-- too much
pub too_long : (whole left : Option (List ℕ)) (text : List ℕ) → Gathered whole text left → 16777216 < length text
    → IfSome whole (λ bytes. 16777216 < length bytes)
too_long whole None text gathered long = subst (λ w. IfSome w (λ bytes. 16777216 < length bytes)) (sym gathered.is) tt
too_long whole (Some bytes) text gathered long =
    let both = length-append text bytes in
    subst (λ w. IfSome w (λ bytes. 16777216 < length bytes)) (sym gathered.is) (omega (arith, both, long))
