-- What is in flight under a tag: each operation is found by its own.
use Rattle.std.proofs.Common.{◌≡◌, ◌<◌, Bool, cond, nat_eq, List, [], ◌∷◌, All, AllPairs, Some, find, option_map, slice_index_or}
use Rattle.std.proofs.Common.{inl, inr, ap, ◌∙◌, arith}
use Rattle.std.proofs.lemmas.Bool.{eq-eqb, ne_eqb}
use Rattle.std.proofs.lemmas.List.Elements.{All-contains, Contains-get_or}
use Rattle.list_laws.proofs.Inserted.{first_pairs, later_pairs}
use Rattle.list_laws.proofs.Members.{In, has_member, in_list}
use Rattle.disk_model.specs.Record.{Operation}
use Rattle.world_acts.specs.Owners.{in_flight_at}

pub tagged : (ops : List Operation) (o : Operation) → AllPairs (λ (p q : Operation). p.tag < q.tag) ops → In ops o
    → in_flight_at ops o.tag ≡ Some o.work
tagged [] o pairs is = absurd is
tagged (p ∷ ops) o pairs (inl is) =
    ap (λ (b : Bool). option_map (λ (q : Operation). q.work) (cond b (Some p) (find (λ (q : Operation). nat_eq q.tag o.tag) ops)))
    (eq-eqb p.tag o.tag (ap (λ (q : Operation). q.tag) is)) ∙ ap (λ (q : Operation). Some q.work) is
tagged (p ∷ ops) o pairs (inr later) =
    let before : p.tag < o.tag =
    All-contains (λ (q : Operation). p.tag < q.tag) ops o (first_pairs (λ (x y : Operation). x.tag < y.tag) p ops pairs)
    (has_member ops o later) in
    ap (λ (b : Bool). option_map (λ (q : Operation). q.work) (cond b (Some p) (find (λ (q : Operation). nat_eq q.tag o.tag) ops)))
    (ne_eqb p.tag o.tag (λ e. omega (arith, before, e)))
    ∙ tagged ops o (later_pairs (λ (x y : Operation). x.tag < y.tag) p ops pairs) later

pub each_tagged : (ops : List Operation) → AllPairs (λ (p q : Operation). p.tag < q.tag) ops
    → All (λ (o : Operation). in_flight_at ops o.tag ≡ Some o.work) ops
each_tagged ops pairs k d lt = tagged ops (slice_index_or ops k d) pairs (in_list ops (slice_index_or ops k d) (Contains-get_or ops k d lt))
