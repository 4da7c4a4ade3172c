-- The file that was opened is another one than those before, and its number is put at its node.
use Rattle.std.proofs.Common.{rules, ◌≡◌, ◌≢◌, ◌<◌, ◌<ℤ◌, pos, ℕ, [], ◌∷◌, ◌++◌, length, map, IfSome, All, sym, ap, subst, ◌∙◌, arith}
use Rattle.std.specs.Map.{values_of}
use Rattle.std.proofs.lemmas.List.{length-map, map-append}
use Rattle.std.proofs.lemmas.List.Elements.{All-nil, All-push}
use Rattle.std.proofs.lemmas.List.Quantifiers.{all_pairs_push}
use Rattle.file_shelf.specs.declared.image.Node.{Node}
use Rattle.file_shelf.specs.declared.image.Unmeasured.{Unmeasured}
use Rattle.file_shelf.proofs.Nodes.{node_apart, numbered_push}
use Rattle.file_shelf.proofs.opening.open_each.Goals as goal

pub loop-number-init : goal.loop-number-init
loop-number-init g c = record {
  count = c.new-files.ensures.len;
  spared = rw c.new-files.ensures.items (All-nil (λ (o : Unmeasured _). IfSome (g.R.File.AsRawFd.raw_fd o.file) (λ fd. pos 2 <ℤ fd)));
  apart = rw c.new-files.ensures.items (λ i j d lt within. absurd (omega (arith, within)));
  numbers = rw c.new-files.ensures.items (
    λ k d within. absurd (omega (arith, within)),
    subst (λ es. All (λ k. k < 0) (values_of es)) (sym c.requires.empty) (All-nil (λ (k : ℕ). k < 0)),
  );
}

pub loop-number-preserved : goal.loop-number-preserved
loop-number-preserved g c =
    let node : Unmeasured _ → Node = λ opened. opened.node in
    let IsSpared : Unmeasured _ → Type 0 = λ opened. IfSome (g.R.File.AsRawFd.raw_fd opened.file) (λ fd. pos 2 <ℤ fd) in
    let numbers = c.loop-number.numbers in
    let old = c.loop-number.files.items in
    let nodes = map node old in
    let opened = c.in-Ok.opened in
    let was = c.loop-number.invariant in
    let is = c.in-Ok.ensures in
    let put = c.in_ok-insert-in-Ok.ensures in
    let items = c.in_ok-push-in-Ok.ensures.items in
    let grown : map node c.push.new.self.items ≡ nodes ++ opened.node ∷ [] = ap (map node) items ∙ map-append node old (opened ∷ []) in
    let last : c.loop-number.number ≡ length nodes = omega (arith, was.count, c.loop-number.files.ok.0, length-map old node) in
    let apart = node_apart numbers nodes was.numbers opened.node is.other in
    record {
      count = search rules;
      spared = rw items (All-push IsSpared old opened was.spared is.spared);
      apart = rw grown (all_pairs_push (λ (a b : Node). a ≢ b) nodes opened.node was.apart apart);
      numbers = rw grown (numbered_push numbers nodes was.numbers opened.node is.other
          c.insert.new.self c.loop-number.number last put.updates put.entries);
    }
