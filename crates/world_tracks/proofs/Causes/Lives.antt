-- Pieces that took place were under way before.
use Rattle.std.proofs.Common.{◌≡◌, ℕ, Bool, true, false, cond, nat_eq, List, Option, None, Some, IfSome, refl, sym, ap, subst, ◌∙◌}
use Rattle.std.proofs.Common.{true≢false}
use Rattle.std.proofs.lemmas.Bool.{eqb-true}
use Rattle.std.proofs.lemmas.Option.{none-some, same_Some}
use Rattle.piece_table.specs.declared.live.LivePiece.{LivePiece}
use Rattle.piece_table.specs.Pieces.{live_at}
use Rattle.world_acts.specs.declared.state.Core.{Core}
use Rattle.world_acts.specs.Counts.{is_taken}
use Rattle.world_acts.proofs.Tables.{Changes}
use Rattle.world_tracks.proofs.Causes.Known.{WasLive}

-- each that took place was
abbrev pub LivesWere : Core → Core → Type 0
LivesWere c d = (number : ℕ) (l : LivePiece) → live_at d.pieces.lives number ≡ Some l → is_taken l.stage ≡ true → WasLive c number l

-- where the pieces are the same
pub lives_itself : (c d : Core) → d.pieces.lives ≡ c.pieces.lives → LivesWere c d
lives_itself c d same number l at taken =
    record { live = l; at = ap (λ (x : List (ℕ × LivePiece)). live_at x number) (sym same) ∙ at; line = refl; piece = refl }

-- where one changes, which was, too, if it took place
pub lives_changed : {number : ℕ} {was is : Option LivePiece} (c d : Core) → Changes number was is c.pieces.lives d.pieces.lives
    → IfSome is (λ l. is_taken l.stage ≡ true → WasLive c number l)
    → LivesWere c d
lives_changed {number} {was} {is} c d change own q l at taken = by (nat_eq number q) refl (change.found q)
  where
    here : (x : Option LivePiece) → IfSome x (λ y. is_taken y.stage ≡ true → WasLive c number y) → x ≡ Some l → WasLive c number l
    here None own its = absurd (none-some l its)
    here (Some m) own its =
        subst (λ (y : LivePiece). WasLive c number y) (same_Some m l its)
        (own (ap (λ (y : LivePiece). is_taken y.stage) (same_Some m l its) ∙ taken))

    by : (b : Bool) → nat_eq number q ≡ b → live_at d.pieces.lives q ≡ cond b is (live_at c.pieces.lives q) → WasLive c q l
    by true same found =
        subst (λ (n : ℕ). WasLive c n l) (eqb-true number q same) (here is own (sym found ∙ at))
    by false apart found = record { live = l; at = sym found ∙ at; line = refl; piece = refl }

-- one that hasn't taken place didn't
pub lives_untaken : (c : Core) (number : ℕ) (l : LivePiece) → is_taken l.stage ≡ false → is_taken l.stage ≡ true → WasLive c number l
lives_untaken c number l free taken = absurd (true≢false (sym taken ∙ free))
