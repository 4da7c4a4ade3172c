use Rattle.std.proofs.Common.{◌≡◌, ◌++◌, [], ℕ, List, length, map, reverse, take, All, sym, ap, subst, ◌∙◌}
use Rattle.std.proofs.Common.{arith}
use Rattle.std.proofs.lemmas.Bool.{eqb-false, eqb-true}
use Rattle.std.proofs.lemmas.List.{append-nil, length-map, reverse-reverse, take-append-drop}
use Rattle.std.proofs.lemmas.List.Elements.{All-drop, All-take, All-weaker}
use Rattle.sector_base.specs.declared.spans.Span.{Span}
use Rattle.disk_batch.specs.Parts.{IsBlockOf, IsEnd, IsPartOf, part_put}
use Rattle.disk_batch.specs.Rest.{rest_of}
use Rattle.disk_batch.specs.Writes.{block_size}
use Rattle.disk_batch.proofs.PartPuts.{all_blocks, all_ends, all_reversed, all_sized, first_and_others, none_later}
use Rattle.disk_batch.proofs.blocks.first_and_rest.Goals as goal

pub filled_blocks-requires : goal.filled_blocks-requires
filled_blocks-requires c =
    let count = length c.args.text in
    let n = c.min.result in
    let blocks = c.in_ok-blocks.blocks.items in
    let all : All (IsBlockOf count) blocks =
    subst (All (IsBlockOf count)) (sym c.in_ok-blocks.ensures) (all_blocks count c.args.parts.now c.requires.parts) in
    subst (All (IsPartOf count)) (sym (c.deref.ensures.value ∙ c.in_ok-later.ensures.items))
    (All-weaker (IsBlockOf count) (IsPartOf count) (λ part is. is.within) (take n blocks) (All-take (IsBlockOf count) n blocks all))

pub returns-then-is_empty-clause-writes : goal.returns-then-is_empty-clause-writes
returns-then-is_empty-clause-writes c =
    let text = c.args.text in
    let blocks = c.in_ok-blocks.blocks.items in
    let front = c.split_off.new.self.items in
    let later = c.in_ok-later.later.items in
    let first = c.in_ok-first.first.items in
    let ends = c.in_ok-ends.ends.items in
    let both : front ++ later ≡ blocks =
    ap (λ (l : List (Span × ℕ)). l ++ later) c.in_ok-later.ensures.items
    ∙ ap (λ (l : List (Span × ℕ)). take c.min.result blocks ++ l) c.in_ok-later.ensures.tail ∙ take-append-drop c.min.result blocks in
    let zero : c.in_ok-later.later.len ≡ 0 = eqb-true c.in_ok-later.later.len 0 (sym c.is_empty.ensures ∙ c.if-is_empty.true) in
    let none : later ≡ [] = none_later later (omega (arith, zero)) in
    let first_is = c.in_ok-first.ensures ∙ ap (λ (l : List (Span × ℕ)). map (part_put text) l) c.deref.ensures.value in
    ap (λ (l : List (Span × List (List ℕ))). l ++ rest_of c.none.result) (c.from_vec.ensures ∙ c.in_ok-append.ensures.items)
    ∙ ap (λ (l : List (Span × List (List ℕ))). (first ++ ends) ++ l) c.none.ensures ∙ append-nil (first ++ ends)
    ∙ ap (λ (l : List (Span × ℕ)). first ++ (map (part_put text) l ++ ends)) (sym none)
    ∙ first_and_others text c.args.parts.now blocks front later first ends c.in_ok-blocks.ensures both first_is c.in_ok-ends.ensures

pub invariant_of-rest : goal.invariant_of-rest
invariant_of-rest c =
    let count = length c.args.text in
    let blocks = c.in_ok-blocks.blocks.items in
    let all : All (IsBlockOf count) blocks =
    subst (All (IsBlockOf count)) (sym c.in_ok-blocks.ensures) (all_blocks count c.args.parts.now c.requires.parts) in
    let ends : All IsEnd c.in_ok-ends.ends.items =
    subst (All IsEnd) (sym c.in_ok-ends.ensures) (all_ends c.args.text c.args.parts.now) in
    record {
      some = omega arith;
      parts = subst (All (IsBlockOf count)) (sym c.in_ok-later.ensures.tail) (All-drop (IsBlockOf count) c.min.result blocks all);
      others = subst (All IsEnd) (sym c.reverse.ensures.items) (all_reversed IsEnd c.in_ok-ends.ends.items ends);
    }

pub returns-clause-writes : goal.returns-clause-writes
returns-clause-writes c =
    let text = c.args.text in
    let blocks = c.in_ok-blocks.blocks.items in
    let front = c.split_off.new.self.items in
    let later = c.in_ok-later.later.items in
    let first = c.in_ok-first.first.items in
    let ends = c.in_ok-ends.ends.items in
    let both : front ++ later ≡ blocks =
    ap (λ (l : List (Span × ℕ)). l ++ later) c.in_ok-later.ensures.items
    ∙ ap (λ (l : List (Span × ℕ)). take c.min.result blocks ++ l) c.in_ok-later.ensures.tail ∙ take-append-drop c.min.result blocks in
    let first_is = c.in_ok-first.ensures ∙ ap (λ (l : List (Span × ℕ)). map (part_put text) l) c.deref.ensures.value in
    ap (λ (l : List (Span × List (List ℕ))). l ++ (map (part_put text) later ++ reverse c.reverse.new.self.items)) c.from_vec-2.ensures
    ∙ ap (λ (l : List (Span × List (List ℕ))). first ++ (map (part_put text) later ++ l))
    (ap reverse c.reverse.ensures.items ∙ reverse-reverse ends)
    ∙ first_and_others text c.args.parts.now blocks front later first ends c.in_ok-blocks.ensures both first_is c.in_ok-ends.ensures

pub returns-clause-follow : goal.returns-clause-follow
returns-clause-follow c =
    let count = length c.args.text in
    let text = c.args.text in
    let blocks = c.in_ok-blocks.blocks.items in
    let front = c.split_off.new.self.items in
    let all : All (IsBlockOf count) blocks =
    subst (All (IsBlockOf count)) (sym c.in_ok-blocks.ensures) (all_blocks count c.args.parts.now c.requires.parts) in
    let first_is : c.from_vec-2.result ≡ map (part_put text) front =
    c.from_vec-2.ensures ∙ c.in_ok-first.ensures ∙ ap (λ (l : List (Span × ℕ)). map (part_put text) l) c.deref.ensures.value in
    let long : length c.from_vec-2.result ≡ length front =
    ap (λ (l : List (Span × List (List ℕ))). length l) first_is ∙ length-map front (part_put text) in
    let some : c.in_ok-later.later.len ≡ 0 → ⊥ =
    eqb-false c.in_ok-later.later.len 0 (sym c.is_empty.ensures ∙ c.if-is_empty.false) in
    record {
      some = λ rest. omega (arith, long, c.in_ok-later.ensures.len, c.in_ok-later.ensures.tail_len, c.min.ensures, some);
      blocks = λ next. subst (All (λ (put : Span × List (List ℕ)). put.0.count ≡ block_size)) (sym first_is)
          (all_sized text count front
          (subst (All (IsBlockOf count)) (sym c.in_ok-later.ensures.items) (All-take (IsBlockOf count) c.min.result blocks all)));
    }
