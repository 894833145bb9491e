-- Where a member goes that was looked at.
use Rattle.std.specs.Prelude.{ℕ, ◌<◌, ◌≤◌, List, [], ◌∷◌, ◌++◌, ◌≡◌, Bool, true, false, IsTrue, ◌↔◌}
use Rattle.std.specs.List.{Contains}
use Rattle.std.proofs.Common.{arith, sym, subst}
use Rattle.fof_terms.specs.Vocabulary.{Vocabulary}
use Rattle.clause_form.specs.declared.clause.Clause.{Clause}
use Rattle.clause_form.specs.Covers.{IsTrivial}
use Rattle.saturation.specs.declared.member.Member.{Member}
use Rattle.clause_order.specs.Weights.{clause_weight}
use Rattle.saturation.specs.code.Search.{IsUnderWay, IsFound, HasJoined}
use Rattle.saturation.specs.code.Steps.{Places}
use Rattle.saturation.proofs.Lists.{untrue}
use Rattle.saturation.proofs.UnderWay.{after_trivial, after_known, after_queued, after_too_heavy, found_last}

pub placed_nowhere : (bound : ℕ) (x : Member) (queue heavy : List Member) (b : Bool) → (IsTrue b ↔ IsTrivial x.clause.lits) → b ≡ true → Places bound x queue heavy queue heavy
placed_nowhere bound x queue heavy b trivial told v whole inputs list todo e full h = after_trivial v whole inputs list todo queue heavy x h full (trivial.0 told)

pub placed_known : (bound : ℕ) (x y : Member) (queue heavy : List Member) → Contains queue y → y.clause ≡ x.clause → Places bound x queue heavy queue heavy
placed_known bound x y queue heavy there same v whole inputs list todo e full h = after_known v whole inputs list todo queue heavy x h y there same full

pub placed_heavy : (bound weight : ℕ) (x : Member) (queue heavy new : List Member) (b : Bool) → (IsTrue b ↔ IsTrivial x.clause.lits) → b ≡ false → weight ≡ clause_weight x.clause → bound < weight
    → new ≡ heavy ++ x ∷ [] → Places bound x queue heavy queue new
placed_heavy bound weight x queue heavy new b trivial told w over same v whole inputs list todo e full h =
    subst (λ (q : List Member). IsUnderWay v whole inputs list todo queue q) (sym same)
    (after_too_heavy v whole inputs list todo queue heavy x h full (untrue b (IsTrivial x.clause.lits) told trivial) (omega arith))

pub placed_queued : (bound weight : ℕ) (x : Member) (queue heavy new : List Member) (b : Bool) → (IsTrue b ↔ IsTrivial x.clause.lits) → b ≡ false → weight ≡ clause_weight x.clause → weight ≤ bound
    → HasJoined queue new x → Places bound x queue heavy new heavy
placed_queued bound weight x queue heavy new b trivial told w light joined v whole inputs list todo e full h =
    after_queued v whole inputs list todo queue heavy x h new joined.kept joined.there joined.others full (untrue b (IsTrivial x.clause.lits) told trivial) (omega arith)

pub sifted_empty : (v : Vocabulary) (whole : Bool) (inputs list : List Clause) (all todo queue heavy : List Member) (x : Member) → all ≡ todo ++ x ∷ [] → IsUnderWay v whole inputs list all queue heavy → x.clause.lits ≡ []
    → IsFound v whole inputs list x × (x.clause.lits ≡ [])
sifted_empty v whole inputs list all todo queue heavy x same h empty =
    (found_last v whole inputs list todo queue heavy x (subst (λ (q : List Member). IsUnderWay v whole inputs list q queue heavy) same h), empty)
