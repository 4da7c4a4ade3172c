-- Pieces of the grammar put together.
use Rattle.std.proofs.Common.{◌≡◌, ℕ, Bool, false, List, [], ◌∷◌, ◌++◌, Some, refl, sym, ap, subst, ◌∙◌, append_assoc}
use Rattle.std.proofs.lemmas.List.{append-nil}
use Rattle.std.specs.Prelude.{unwrap_or}
use Rattle.std.specs.Option.{option_and_then}
use Rattle.conf_text.specs.Bytes.{kind}
use Rattle.conf_text.specs.Entries.{Scalar, ConfEntry}
use Rattle.conf_text.specs.Grammar.{after_gap, gap_byte, IsGap, IsScalar, IsArray, IsEntry, EndsEntry, BeginsWith}
use Rattle.conf_text.proofs.Steps.{and_then_some}

pub gap_append : (c : Bool) (a b : List ℕ) (d e : Bool) → after_gap c a ≡ Some d → after_gap d b ≡ Some e → after_gap c (a ++ b) ≡ Some e
gap_append c [] b d e h k = let same : d ≡ c = sym (ap (λ o. unwrap_or o false) h) in subst (λ z. after_gap z b ≡ Some e) same k
gap_append c (x ∷ a) b d e h k =
    let (next, first, others) = and_then_some (λ z. after_gap z a) (gap_byte c (kind x)) d h in
    ap (option_and_then (λ z. after_gap z (a ++ b))) first ∙ gap_append next a b d e others k

pub gap_gap : (a b : List ℕ) → IsGap a → IsGap b → IsGap (a ++ b)
gap_gap a b h k = gap_append false a b false false h k

-- an array with a gap more
pub array_gap : (ss : List Scalar) (s : Scalar) (list k : List ℕ) → IsArray list (s ∷ ss) → IsGap k → IsArray (list ++ k) (s ∷ ss)
array_gap [] s list k (g, x, h, gap, scalar, gap_h, parts) gap_k =
    (g, x, h ++ k, gap, scalar, gap_gap h k gap_h gap_k, rw parts (simp append_assoc refl))
array_gap (t ∷ ss) s list k (g, x, h, rest, gap, scalar, gap_h, others, parts) gap_k =
    (g, x, h, rest ++ k, gap, scalar, gap_h, array_gap ss t rest k others gap_k, rw parts (simp append_assoc refl))

-- an array with a scalar more
pub array_more : (ss : List Scalar) (s t : Scalar) (list k y : List ℕ) → IsArray list (s ∷ ss) → IsGap k → IsScalar y t
    → IsArray (list ++ (44 ∷ (k ++ y))) (s ∷ (ss ++ t ∷ []))
array_more [] s t list k y (g, x, h, gap, scalar, gap_h, parts) gap_k last = (
  g,
  x,
  h,
  k ++ y,
  gap,
  scalar,
  gap_h,
  (k, y, [], gap_k, last, refl, simp (append_assoc, append-nil) refl),
  rw parts (simp append_assoc refl),
)
array_more (u ∷ ss) s t list k y (g, x, h, rest, gap, scalar, gap_h, others, parts) gap_k last =
    (g, x, h, rest ++ (44 ∷ (k ++ y)), gap, scalar, gap_h, array_more ss u t rest k y others gap_k last, rw parts (simp append_assoc refl))

-- ---- texts that begin with entries

-- one entry more
pub begins_more : (es : List ConfEntry) (text x more : List ℕ) (e : ConfEntry) → BeginsWith text es (x ++ more) → IsEntry x e
    → EndsEntry e more → BeginsWith text (es ++ e ∷ []) more
begins_more [] text x more e same entry ends = (x, more, same, entry, ends, refl)
begins_more (f ∷ es) text x more e (y, rest, parts, first, first_ends, others) entry ends =
    (y, rest, parts, first, first_ends, begins_more es rest x more e others entry ends)

-- more entries
pub begins_both : (es fs : List ConfEntry) (text middle rest : List ℕ) → BeginsWith text es middle → BeginsWith middle fs rest
    → BeginsWith text (es ++ fs) rest
begins_both [] fs text middle rest same others = subst (λ x. BeginsWith x fs rest) (sym same) others
begins_both (e ∷ es) fs text middle rest (x, more, parts, entry, ends, inner) others =
    (x, more, parts, entry, ends, begins_both es fs more middle rest inner others)

-- the rest is the end of the text
pub begins_suffix : (es : List ConfEntry) (text rest : List ℕ) → BeginsWith text es rest → (front : List ℕ) × (text ≡ front ++ rest)
begins_suffix [] text rest same = ([], same)
begins_suffix (e ∷ es) text rest (x, more, parts, entry, ends, others) =
    let (front, same) = begins_suffix es more rest others in (x ++ front, parts ∙ ap (λ z. x ++ z) same ∙ sym (append_assoc x front rest))
