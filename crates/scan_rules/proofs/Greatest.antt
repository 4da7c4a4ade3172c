-- The best of the copies, from the last to the first.
use Rattle.std.proofs.Common.{◌≡◌, ℕ, Bool, true, false, nat_le, cond, List, Option, Some, None, refl, sym, ap, ◌∙◌}
use Rattle.std.specs.Prelude.{option_map, slice_get}
use Rattle.std.specs.Option.{option_and_then}
use Rattle.std.specs.List.{cons_option}
use Rattle.std.proofs.lemmas.Option.{same_Some}
use Rattle.scan_rules.specs.declared.held.HeldCopy.{HeldCopy}
use Rattle.scan_rules.specs.declared.readings.GroupCopy.{GroupCopy}
use Rattle.scan_rules.specs.Decision.{Held, best, greater}
use Rattle.scan_rules.specs.Flat.{IsThat, chosen, greater_of, held_copy, held_of, seqno_in}

abbrev after : Option Held → Option Held → Option Held
after None later = later
after (Some held) later = Some (greater held later)

best_after : (o : Option Held) (rest : List Held) → best (cons_option o rest) ≡ after o (best rest)
best_after None rest = refl
best_after (Some held) rest = refl

abbrev seqno_of_held : Option Held → Option ℕ
seqno_of_held o = option_map (λ (held : Held). held.group.seqno) o

held_seqno : (disk : ℕ) (copy : Option GroupCopy)
    → option_map (λ (c : GroupCopy). c.group.seqno) copy ≡ seqno_of_held (option_map (held_copy disk) copy)
held_seqno disk None = refl
held_seqno disk (Some copy) = refl

either : (copies : List GroupCopy) (one other : HeldCopy) (h y : Held) (t : Bool) → held_of copies one ≡ Some h
    → held_of copies other ≡ Some y
    → option_map (held_of copies) (cond t (Some one) (Some other)) ≡ Some (Some (cond t h y))
either copies one other h y true first second = ap Some first
either copies one other h y false first second = ap Some second

of_cases : (copies : List GroupCopy) (one : HeldCopy) (other : Option HeldCopy) (o b : Option Held) → held_of copies one ≡ o
    → option_map (held_of copies) other ≡ option_map Some b
    → option_map (held_of copies) (chosen one other (seqno_of_held o)
    (option_and_then (λ (x : HeldCopy). seqno_of_held (held_of copies x)) other)) ≡ option_map Some (after o b)
of_cases copies one other None b first that = that
of_cases copies one None (Some h) None first that = ap Some first
of_cases copies one None (Some h) (Some y) first that = cc
of_cases copies one (Some x) (Some h) None first that = cc
of_cases copies one (Some x) (Some h) (Some y) first that =
    let second : held_of copies x ≡ Some y = same_Some (held_of copies x) (Some y) that in
    ap (λ (s : Option Held). option_map (held_of copies) (chosen one (Some x) (Some h.group.seqno) (seqno_of_held s))) second
    ∙ either copies one x h y (nat_le y.group.seqno h.group.seqno) first second

pub picks_greater : (copies : List GroupCopy) (one : HeldCopy) (other : Option HeldCopy) (rest : List Held)
    → IsThat copies other (best rest) → IsThat copies (greater_of copies one other) (best (cons_option (held_of copies one) rest))
picks_greater copies one other rest that =
    ap (λ (s : Option ℕ). option_map (held_of copies) (chosen one other s (option_and_then (seqno_in copies) other)))
    (held_seqno one.disk (slice_get copies one.number))
    ∙ ap (λ (f : HeldCopy → Option ℕ). option_map (held_of copies)
    (chosen one other (seqno_of_held (held_of copies one)) (option_and_then f other)))
    (λ i (x : HeldCopy). held_seqno x.disk (slice_get copies x.number) i)
    ∙ of_cases copies one other (held_of copies one) (best rest) refl that
    ∙ ap (option_map Some) (sym (best_after (held_of copies one) rest))
