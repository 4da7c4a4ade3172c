use Rattle.std.proofs.Common.{refl, ◌≡◌, ◌+◌, ◌++◌, ◌∷◌, [], List, ℕ, length, sum_by, sym, ap, subst, ◌∙◌, arith, length-append}
use Rattle.std.proofs.Common.{map, reverse}
use Rattle.std.proofs.lemmas.List.{length-reverse, reverse-reverse}
use Rattle.std.proofs.lemmas.List.Sorted.{All-permutation, sum_by-IsPermutation}
use Rattle.sector_base.specs.declared.spans.Span.{Span}
use Rattle.disk_model.specs.Operations.{Fills}
use Rattle.disk_model.specs.declared.ops.Op.TheVariants.{Write}
use Rattle.disk_batch.specs.Submits.{SubmitsWorks}
use Rattle.disk_batch.specs.Writes.{span_count, write_work}
use Rattle.disk_batch.proofs.Submissions.{works_none, works_more, map_last, lie_front, sum_last}
use Rattle.disk_batch.proofs.submitting.submit_writes.Goals as goal

pub loop-rest-preserved : goal.loop-rest-preserved
loop-rest-preserved g c =
    let f = c.submit_last.ensures.last in
    let so = c.loop-rest.invariant.submits in
    let puts = c.loop-rest.rest.items in
    let rest = c.submit_last.new.list.items in
    let many : length puts ≡ length rest + 1 =
    omega (arith, ap (λ (l : List (Span × List (List ℕ))). length l) f.last, length-append rest (f.put ∷ [])) in
    let sum : sum_by span_count puts ≡ sum_by span_count rest + span_count f.put =
    ap (λ (l : List (Span × List (List ℕ))). sum_by span_count l) f.last ∙ sum_last span_count rest f.put in
    let tags : length c.submit_last.new.tags.items ≡ length c.loop-rest.tags.items + 1 =
    omega (arith, ap (λ (l : List ℕ). length l) f.behind, length-append c.loop-rest.tags.items (f.tag ∷ [])) in
    record {
      submits = (
        so.0 ++ write_work f.put ∷ [],
        subst (λ (l : List ℕ). SubmitsWorks (g.S.Shelf.state c.args.shelf.now) (so.0 ++ write_work f.put ∷ []) l
            (g.S.Shelf.state c.submit_last.new.shelf)) (sym f.behind)
            (works_more _ _ _ _ _ (Write f.put.0 f.put.1) f.tag so.1 f.submits),
        map_last puts rest f.put so.0 _ f.last so.2,
      );
      lie = lie_front _ _ puts rest f.put f.last f.submits.sizes c.loop-rest.invariant.lie;
      ops = omega (arith, f.submits.spare_ops, c.loop-rest.invariant.ops);
      sectors = omega (arith, f.submits.spare_sectors, c.loop-rest.invariant.sectors);
      room = omega (arith, c.loop-rest.invariant.room, c.submit_last.ensures.capacity);
      capacity = c.submit_last.ensures.capacity ∙ c.loop-rest.invariant.capacity;
    }

pub loop-rest-init : goal.loop-rest-init
loop-rest-init g c =
    let old = g.S.Shelf.state c.args.shelf.now in
    let puts = c.args.list.items in
    let rest = c.reverse.new.self.items in
    let many : length rest ≡ length puts =
    ap (λ (l : List (Span × List (List ℕ))). length l) c.reverse.ensures.items ∙ length-reverse puts in
    let sum : sum_by span_count rest ≡ sum_by span_count puts = sum_by-IsPermutation span_count puts rest c.reverse.ensures.permutation in
    let none : length c.args.tags.now.items ≡ 0 = ap (λ (l : List ℕ). length l) c.requires.empty in
    record {
      submits = (
        [],
        subst (λ (l : List ℕ). SubmitsWorks old [] l old) (sym c.requires.empty) (works_none old),
        ap (λ (l : List (Span × List (List ℕ))). map write_work l) (ap reverse c.reverse.ensures.items ∙ reverse-reverse puts),
      );
      lie = All-permutation (λ (p : Span × List (List ℕ)). Fills old.sizes p.0 p.1) puts rest c.reverse.ensures.permutation c.requires.lie;
      ops = omega (arith, many, c.requires.ops);
      sectors = omega (arith, sum, c.requires.sectors);
      room = omega (arith, many, none, c.requires.room);
      capacity = refl;
    }
