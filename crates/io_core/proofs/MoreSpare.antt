-- Where more is spare, a world is kept as before.
use Rattle.std.proofs.Common.{◌≡◌, ℕ, suc, cond, List, [], ◌∷◌, ◌++◌, refl, sym, ap, subst, ◌∙◌}
use Rattle.claim_table.specs.declared.claim.Claim.{Claim}
use Rattle.claim_table.specs.Claims.{Claims, is_free, ready_after}
use Rattle.world_acts.specs.declared.state.Core.{Core}
use Rattle.world_acts.specs.Acts.{Grows, IsGrown, World}
use Rattle.world_acts.specs.Steps.{grown}
use Rattle.world_acts.proofs.Growing.{after_grow}
use Rattle.world_acts.proofs.ShortActs.{after_ready}
use Rattle.disk_model.specs.Calls.{MakesReady}
use Rattle.disk_model.specs.State.{IsLawful, State}
use Rattle.io_core.specs.Rest.{IsAtRest, IsKept, IsSettled}
use Rattle.io_core.proofs.Plain.{plain_after}

ready_same : (claims : Claims) (spare : ℕ) (earlier xs : List Claim)
    → ready_after (record claims { spare = spare }) earlier xs ≡ ready_after claims earlier xs
ready_same claims spare earlier [] = refl
ready_same claims spare earlier (x ∷ xs) =
    ap (λ (n : ℕ). cond (is_free claims earlier x) 0 (suc n)) (ready_same claims spare (earlier ++ x ∷ []) xs)

settled_grown : (c d : Core) → IsSettled c → IsSettled (grown c d)
settled_grown c d s = record {
  calm = record {
    quiet = record {
      asked =
          λ k x within not. let a = s.calm.quiet.asked k x within not in record { waits = a.waits; flies = a.flies; stays = a.stays };
      unfinished = λ line not. s.calm.quiet.unfinished line not;
    };
    others = s.calm.others;
  };
  ready = ready_same c.pieces.claims d.pieces.claims.spare [] c.pieces.claims.deferred ∙ s.ready;
  released = s.released;
}

pub rest_grown : (c d : Core) → IsAtRest c → IsAtRest (grown c d)
rest_grown c d rest = record { settled = settled_grown c d rest.settled; flushed = rest.flushed }

pub kept_grown : (w v : World) → IsKept w → IsGrown w v → IsKept v
kept_grown w v kept grows = record {
  orderly = after_grow w v kept.orderly grows;
  rest = subst (λ (c : Core). IsAtRest c) (sym grows.core) (rest_grown w.core v.core kept.rest);
  plain = plain_after w (Grows v) grows kept.plain;
}

-- and where more is ready
pub kept_ready : (w : World) (now : State) → IsKept w → MakesReady w.shelf now → IsLawful now → IsKept (record w { shelf = now })
kept_ready w now kept makes lawful = record {
  orderly = after_ready w now kept.orderly (makes, lawful);
  rest = kept.rest;
  plain = kept.plain;
}
