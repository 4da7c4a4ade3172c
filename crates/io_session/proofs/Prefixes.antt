-- Beginnings of lists, over a lock.
use Rattle.std.proofs.Common.{◌≡◌, List, sym, subst}
use mathlib.Core.List.{IsPrefix}
use Rattle.table_lock.proofs.Prefixes.{prefix_trans}

-- over a value that was taken, changed and given back
pub prefix_over : {A : Type 0} (xs ys us vs zs : List A) → IsPrefix xs ys → ys ≡ us → IsPrefix us vs → zs ≡ vs → IsPrefix xs zs
prefix_over xs ys us vs zs p taken q given =
    let before : IsPrefix xs us = subst (λ (ws : List _). IsPrefix xs ws) taken p in
    subst (λ (ws : List _). IsPrefix xs ws) (sym given) (prefix_trans xs us vs before q)
