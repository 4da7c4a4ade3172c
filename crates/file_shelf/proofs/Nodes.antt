-- Files by their nodes, as one more is opened.
use Rattle.std.proofs.Common.{◌≡◌, ◌≢◌, ◌<◌, ◌+◌, ℕ, false, List, [], ◌∷◌, ◌++◌, length, get_or, All, Option, Some, None, IfSome, ◌⊎◌, inl}
use Rattle.std.proofs.Common.{inr, ⊎_elim, sym, ap, subst, ◌∙◌, arith}
use Rattle.std.specs.BTreeMap.{BTreeMap, Updates, get, insert_entry, is_at, values}
use Rattle.std.specs.Map.{values_of}
use Rattle.std.specs.Ordering.{nat_cmp}
use Rattle.std.specs.declared.cmp.Ordering.TheVariants.{Equal}
use Rattle.std.proofs.lemmas.Bool.{cases_Bool, cases_lt}
use Rattle.std.proofs.lemmas.List.{get_or_append_left, get_or_push, length_push}
use Rattle.std.proofs.lemmas.List.Elements.{All-weaker}
use Rattle.std.proofs.lemmas.Map.Lookups.{exact_pairs, exact_unsigned}
use Rattle.std.proofs.lemmas.Map.Views.{All-values-insert_entry, tells_apart}
use Rattle.file_shelf.specs.declared.image.Node.{Node}
use Rattle.file_shelf.specs.Nodes.{node_cmp, AreNumbered}

-- nodes that compare alike are the same
same_node : (a b : Node) → node_cmp a b ≡ Equal → a ≡ b
same_node a b e =
    ap (λ (p : ℕ × ℕ). record { device = p.0; inode = p.1 })
    (exact_pairs nat_cmp nat_cmp exact_unsigned exact_unsigned (a.device, a.inode) (b.device, b.inode) e)

-- a number below one more is below, or that one
below_or_last : (k n : ℕ) → k < n + 1 → (k < n) ⊎ (k ≡ n)
below_or_last k n lt = ⊎_elim inl (λ ge. inr (omega arith)) (cases_lt k n)

module _ (numbers : BTreeMap Node ℕ) (nodes : List Node) (is : AreNumbered numbers nodes)
    (node : Node) (absent : get node_cmp numbers node ≡ None) where
  -- a node at which no number stands is another one than each of the list
  pub node_apart : (k : ℕ) (d : Node) → k < length nodes → get_or nodes k d ≢ node
  node_apart k d within same =
      subst (λ (o : Option ℕ). IfSome o (λ n. ⊥)) (sym absent ∙ sym (ap (get node_cmp numbers) same) ∙ is.0 k d within) tt

  not_alike : (k : ℕ) (d : Node) → k < length nodes → is_at (node_cmp node) (get_or nodes k d) ≡ false
  not_alike k d within =
      ⊎_elim
      (λ alike. absurd (node_apart k d within (sym (tells_apart same_node node (get_or nodes k d) alike))))
      (λ differ. differ)
      (cases_Bool (is_at (node_cmp node) (get_or nodes k d)))

  module _ (more : BTreeMap Node ℕ) (n : ℕ) (last : n ≡ length nodes) (updates : Updates node_cmp numbers more node (Some n))
      (put : more.entries ≡ insert_entry node_cmp numbers.entries node n) where
    number_at : (k : ℕ) (d : Node) → (k < length nodes) ⊎ (k ≡ length nodes) → get node_cmp more (get_or (nodes ++ node ∷ []) k d) ≡ Some k
    number_at k d (inl lt) =
        ap (get node_cmp more) (get_or_append_left nodes (node ∷ []) d k lt)
        ∙ updates.2 (get_or nodes k d) (not_alike k d lt)
        ∙ is.0 k d lt
    number_at k d (inr at) = ap (get node_cmp more) (get_or_push nodes node d k (sym at)) ∙ updates.1 ∙ ap Some (last ∙ sym at)

    -- and once its number is put there, it is one of them
    pub numbered_push : AreNumbered more (nodes ++ node ∷ [])
    numbered_push =
        let below : ℕ → ℕ → Type 0 = λ n k. k < n in
        let longer = length_push nodes node in
        let values_below =
        All-values-insert_entry node_cmp node n (below (length (nodes ++ node ∷ []))) numbers.entries
        (All-weaker (below (length nodes)) (below (length (nodes ++ node ∷ []))) (λ k lt. omega (arith, lt, longer)) (values numbers) is.1)
        (omega (arith, last, longer)) in (
          λ k d within. number_at k d (below_or_last k (length nodes) (omega (arith, within, longer))),
          subst (λ es. All (below (length (nodes ++ node ∷ []))) (values_of es)) (sym put) values_below,
        )
